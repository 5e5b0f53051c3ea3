-- `symbol_halves` writes the half labels stream by stream.
use Rattle.coding.specs.Halves.{half_in, HalvesFilled}
use Rattle.coding.proofs.labels.symbol_halves.Given as goal

abbrev pub invariant-loop-i : goal.invariant-loop-i
invariant-loop-i l = HalvesFilled l.plan (half_in l.plan l.coded) l.i l.initial.halves l.halves
