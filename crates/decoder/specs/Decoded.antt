-- A symbol's inputs out of its label bits (document 01 steps 2 to 5 undone; the decoder's definitions are the chain's), as the code holds them.
use Rattle.std.specs.Prelude.{cond, List, ℕ, ◌-◌, ◌*◌, ◌<◌, ◌≤◌, ltb, length, get_or}
use Rattle.chain.specs.declared.plan.Plan.{Plan}
use Rattle.chain.specs.Plan.{groups_of, Fits}
use Rattle.chain.specs.Decoder.{history_after, dealt}

-- histories by encoder number
abbrev pub histories_in : (histories : List ℕ) (j : ℕ) → ℕ
histories_in histories j = get_or histories j 0

-- encoder j's history after a symbol's inputs X; "With one encoder the second history stays as given"
unfoldable pub history_moved : (p : Plan) (hs X : ℕ → ℕ) (j : ℕ) → ℕ
history_moved p hs X j =
    cond (ltb j p.encoders) (history_after (hs j) (dealt X p.encoders j) ((p.kept - 1) * groups_of p)) (hs j)

pub record SymbolInputsAsked (inputs bits histories : List ℕ) (p : Plan) : Type 0 where
  pub fits : Fits p
  pub room : p.dbps ≤ length inputs
  pub whole_bits : p.streams * p.block ≤ length bits
  pub one_bit : (k : ℕ) → get_or bits k 0 < 2
  pub six_bits : (j : ℕ) → j < 2 → get_or histories j 0 < 64
