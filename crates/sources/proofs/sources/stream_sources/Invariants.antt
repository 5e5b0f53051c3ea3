-- `stream_sources` stores one source a turn.
use Rattle.std.proofs.Common.{ℕ}
use Rattle.laws.specs.Filled.{Filled}
use Rattle.chain.specs.Interleaver.{source}
use Rattle.sources.specs.Sources.{Laid}
use Rattle.sources.proofs.sources.stream_sources.Given as goal

abbrev pub invariant-loop-r : goal.invariant-loop-r
invariant-loop-r g l =
    (f b : ℕ) → Laid g.row.COLUMNS g.row.ROWS g.row.S f b → Filled 0 0 (λ k. source f b 0 k) l.r l.initial.table l.table
