-- `parse` makes one stream bit a coded bit a turn.
use Rattle.std.proofs.Common.{ℕ, get_or}
use Rattle.laws.specs.Filled.{Filled}
use Rattle.sources.specs.Sources.{coded_slot}
use Rattle.sources.proofs.sources.parse.Given as goal

abbrev pub invariant-loop-entry : goal.invariant-loop-entry
invariant-loop-entry g l =
    let bit = λ (k : ℕ). get_or l.initial.entry-items k 0 in
    Filled 0 0 (λ k. coded_slot g.row.S l.streams g.row.ENCODERS 0 (bit k)) l.entry-index l.initial.entry-items l.entry-items
