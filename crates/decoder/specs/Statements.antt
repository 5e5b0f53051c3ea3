-- What is proved of the decoder: its test passes exactly for the label bits that some inputs give.
use Rattle.std.specs.Prelude.{◌≡◌, ℕ, ◌<◌}
use Rattle.chain.specs.declared.plan.Plan.{Plan}
use Rattle.chain.specs.Decoder.{label_after}

-- inputs of a symbol that give the label bits lab after the histories hs
pub record SomeInputs (p : Plan) (hs : ℕ → ℕ) (lab : ℕ → ℕ → ℕ) : Type 0 where
  pub X : ℕ → ℕ
  pub bits : (d : ℕ) → d < p.dbps → X d < 2
  pub gives : (i r : ℕ) → i < p.streams → r < p.block → lab i r ≡ label_after p hs X i r
