-- `uses_of` numbers the places run by run.
use Rattle.detector.proofs.UseLaws.{PartNumbered}
use Rattle.detector.proofs.uses.uses_of.Given as goal

abbrev pub invariant-loop-r : goal.invariant-loop-r
invariant-loop-r l = PartNumbered l.width l.r l.uses
