-- How far a test goes along a list.
use Rattle.std.specs.Prelude.{Bool, cond, List, [], ◌∷◌, ℕ, suc}

-- how many numbers at the front pass a test, up to the first that does not
abbrev pub stretch : (ℕ → Bool) → List ℕ → ℕ
stretch f [] = 0
stretch f (b ∷ bs) = cond (f b) (suc (stretch f bs)) 0
