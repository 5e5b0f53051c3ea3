-- `pattern_minus` takes a bit of the row that the tables have for the stream.
use Rattle.std.proofs.Common.{[], List, ℕ, ◌-◌, get_or, ap, Bor}
use Rattle.chain.proofs.Counts.{width_other}
use Rattle.pilots.specs.declared.pilot.TheConstants.{MINUS_20, MINUS_40}
use Rattle.pilots.specs.Pilots.{pattern_of}
use Rattle.pilots.proofs.PilotLaws.{bit_in_lem, row_says}
use Rattle.pilots.proofs.pilot.pattern_minus.Goals.{then-width-eq40, else-width-eq40}
use Rattle.pilots.proofs.pilot.pattern_minus.Goals as goal

-- the code's table is the width's
pub returns : goal.returns
unfolding pattern_of
returns c =
    let a = c.args in
    let rows = λ (t : Bor (List (List ℕ))). get_or t.now (a.streams - 1) [] in
    rw bit_in_lem (elim c.if-width-eq40.branch [
      | then-width-eq40 w ↦ row_says MINUS_40 40 a.width a.streams a.i a.k _ tt w.if-width-eq40.true c.requires (ap rows w.table-is)
      | else-width-eq40 w ↦
          let narrow = width_other a.width c.requires.known_width w.if-width-eq40.false in
          row_says MINUS_20 20 a.width a.streams a.i a.k _ tt narrow c.requires (ap rows w.table-is)
    ])
