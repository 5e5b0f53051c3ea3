-- `read_symbols`: before each symbol, all before it are accepted, and their steps led to what is carried.
use Rattle.frame_steps.proofs.LoopLaws.{Before}
use Rattle.frame_steps.proofs.steps.read_symbols.Given as goal

abbrev pub invariant-loop-n : goal.invariant-loop-n
invariant-loop-n l = Before l.initial.state.settings l.points l.initial.payload l.n l.payload l.state l.seed l.at
