-- The reading of a whole frame as one number (docs/C-API.md): the seed, or the refusal's number negated.
use Rattle.frame_steps.specs.declared.steps.FrameRefusal.{FrameRefusal}
use Rattle.std.specs.Prelude.{cond, eqb, ℤ, pos, Result, ℕ}
use Rattle.laws.specs.Integers.{minus}
use Rattle.frame_steps.specs.WholeFrame.{frame_number, frame_seed}

abbrev pub frame_result : Result ℕ FrameRefusal → ℤ
frame_result r = cond (eqb (frame_number r) 0) (pos (frame_seed r)) (minus (frame_number r))
