-- Document 01, 'Checked by hand': P1 to P12 in one table, each row from the definitions of its part.
use Rattle.std.specs.Prelude.{List, ◌++◌}
use Rattle.laws.specs.Claim.{Claim}
use Rattle.chain.specs.Worked.{worked_chain}
use Rattle.symbols.specs.Worked.{worked_counts}
use Rattle.pilots.specs.Worked.{worked_pilots}

abbrev pub checked_by_hand : List Claim
checked_by_hand = worked_counts ++ (worked_chain ++ worked_pilots)
