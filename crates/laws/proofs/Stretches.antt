-- How far a test goes along a list: within it, and what std's words say of it. Assumes nothing.
use Rattle.std.proofs.Common.{◌≡◌, refl, Bool, true, false, cond, not, Some, None, ltb, ℕ, suc}
use Rattle.std.proofs.Common.{◌+◌, ◌≤◌, List, [], ◌∷◌, length, drop, arith, length-drop}
use Rattle.std.specs.List.{prefix_len, position, position_or_len}
use Rattle.std.specs.Option.{unwrap_or}
use Rattle.std.proofs.lemmas.Bool.{ltb-false}
use Rattle.laws.specs.Stretch.{stretch}

-- a test goes no further than the list
pub stretch_within : (f : ℕ → Bool) (l : List ℕ) → stretch f l ≤ length l
stretch_within f [] = omega arith
stretch_within f (b ∷ bs) = by (f b) (stretch_within f bs)
  where
    by : (t : Bool) → stretch f bs ≤ length bs → cond t (suc (stretch f bs)) 0 ≤ suc (length bs)
    by true h = omega arith
    by false h = omega arith

-- a stretch from within the list ends within it
pub ends_within : (f : ℕ → Bool) (l : List ℕ) (i : ℕ) → i ≤ length l → i + stretch f (drop i l) ≤ length l
ends_within f l i h = omega (arith, stretch_within f (drop i l), length-drop i l)

stretch_prefix : {g f : ℕ → Bool} → ((b : ℕ) → g b ≡ f b) → (l : List ℕ) → prefix_len g l ≡ stretch f l
stretch_prefix e [] = refl
stretch_prefix {g} {f} e (b ∷ bs) = rw (e b) (by (f b) (stretch_prefix e bs))
  where
    by : (t : Bool) → prefix_len g bs ≡ stretch f bs → cond t (1 + prefix_len g bs) 0 ≡ cond t (suc (stretch f bs)) 0
    by true h = omega arith
    by false h = refl

-- where the first number stands that ends a stretch, or the list's end
pub stretch_position : (p f : ℕ → Bool) → ((b : ℕ) → not (p b) ≡ f b) → (l : List ℕ) → unwrap_or (position p l) (length l) ≡ stretch f l
stretch_position p f e l = by (ltb (position_or_len p l) (length l)) refl
  where
    same : position_or_len p l ≡ stretch f l
    same = stretch_prefix e l

    by : (t : Bool) → ltb (position_or_len p l) (length l) ≡ t
        → unwrap_or (cond t (Some (position_or_len p l)) None) (length l) ≡ stretch f l
    by true k = same
    by false k = omega (arith, ltb-false (position_or_len p l) (length l) k, same, stretch_within f l)
