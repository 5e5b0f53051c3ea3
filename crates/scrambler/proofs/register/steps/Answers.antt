-- `steps` moves the stages, as computed for every state.
use Rattle.scrambler.proofs.Jumps.{moved_is}
use Rattle.scrambler.proofs.register.steps.Goals as goal

pub returns : goal.returns
returns g c = moved_is _ _ c.requires.0 c.requires.1
