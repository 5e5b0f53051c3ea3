-- `StreamBits::put` stores one half label a turn.
use Rattle.std.proofs.Common.{◌+◌}
use Rattle.laws.specs.Filled.{Filled}
use Rattle.coding.specs.Halves.{half_at}
use Rattle.coding.proofs.labels.StreamBits.put.Given as goal

abbrev pub invariant-loop-m : goal.invariant-loop-m
invariant-loop-m l =
    Filled 0 0 (λ k. half_at l.self.coded.now l.self.table.now l.self.axis l.self.shift (l.from + k)) l.m l.initial.halves l.halves
