-- `put_label` stores one bit of the label a turn.
use Rattle.laws.specs.Filled.{Filled}
use Rattle.demapper.specs.Demapped.{bit_of_label}
use Rattle.demapper.proofs.point.put_label.Given as goal

abbrev pub invariant-loop-t : goal.invariant-loop-t
invariant-loop-t l = Filled 0 l.at (bit_of_label l.s l.label) l.t l.initial.out l.out
