-- `print_lines` goes on along the chain of next lines, each turn nearer to the end; what it has written and what is left to write are all rows.
use Rattle.std.proofs.Common.{◌≡◌, List, ℕ, ◌+◌, ◌-◌, ◌++◌, length}
use Rattle.std.specs.Io.KnownBytes.{Appends}
use Rattle.listing.proofs.ListingLaws.{rows_from}
use Rattle.htsig.proofs.print_lines.Given as goal

abbrev pub invariant-loop-line : goal.invariant-loop-line
invariant-loop-line g l =
    (written : List ℕ) × (rows_from l.fn.input 0 ≡ written ++ rows_from l.fn.input l.at)
    × Appends (g.W.Write.contents l.fn.out) (g.W.Write.contents l.out) written

abbrev pub decreases-loop-line : goal.decreases-loop-line
decreases-loop-line g l = length l.fn.input + 1 - l.at
