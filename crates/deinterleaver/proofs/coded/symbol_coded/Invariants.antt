-- `symbol_coded` places the label bits stream by stream.

use Rattle.deinterleaver.specs.Asked.{Placed}
use Rattle.deinterleaver.proofs.coded.symbol_coded.Given as goal

abbrev pub invariant-loop-i : goal.invariant-loop-i
invariant-loop-i l = Placed l.plan l.bits l.i l.initial.coded l.coded
