-- `sums_from` stores the sum of one input a turn.
use Rattle.std.proofs.Common.{get_or}
use Rattle.laws.specs.Filled.{Filled}
use Rattle.encoder.specs.Sums.{xor_of}
use Rattle.encoder.proofs.sums.sums_from.Given as goal

abbrev pub invariant-loop-j : goal.invariant-loop-j
invariant-loop-j g l =
    Filled 0 g.row.TO (λ k. xor_of g.row.K g.row.L g.row.M (λ e. get_or l.line e 0) l.encoders k) l.j l.initial.sums l.sums
