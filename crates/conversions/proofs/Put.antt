-- One and two floats put at the start of a list. Assumes nothing.
use Rattle.std.specs.Prelude.{Err, Result}
use mathlib.Core.Path.{◌≡◌, refl, sym, ap}
use mathlib.Core.List.{List, [], ◌∷◌}
use Prim.Native.Nat.{◌≤◌}
use native.Mathlib.Nat.{le_of_suc-le-suc, not-suc-le-zero}
use lib.ListN.{length, set, drop}
use lib.Ieee.{Float}
use Rattle.settings.specs.declared.settings.Refusal.{Refusal}
use Rattle.query.specs.declared.query.Carried.{Carried}
use Rattle.conversions.specs.Results.{refused_result, carrier_result, carrier_into}

pub one_put : (l : List Float) (x : Float) → 2 ≤ length l → set l 0 x ≡ x ∷ drop 1 l
one_put [] x h = absurd (not-suc-le-zero h)
one_put (a ∷ l) x h = refl

pub two_put : (l : List Float) (x y : Float) → 2 ≤ length l → set (set l 0 x) 1 y ≡ x ∷ (y ∷ drop 2 l)
two_put [] x y h = absurd (not-suc-le-zero h)
two_put (a ∷ []) x y h = absurd (not-suc-le-zero (le_of_suc-le-suc h))
two_put (a ∷ (b ∷ l)) x y h = refl

-- ---- the C call of the question: the result and the lent floats by its answer

pub carrier_refused : (x : Result Carried Refusal) (r : Refusal) (l : List Float) → x ≡ Err r
    → (refused_result r ≡ carrier_result x (length l)) × (l ≡ carrier_into x l)
carrier_refused x r l e = (ap (λ (y : Result Carried Refusal). carrier_result y (length l)) (sym e), ap (λ (y : Result Carried Refusal). carrier_into y l) (sym e))
