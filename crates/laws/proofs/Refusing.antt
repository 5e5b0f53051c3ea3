-- A refusal is given exactly when its row applies and none tested before it does. Assumes nothing.
use mathlib.Core.Path.{◌≡◌, ◌∙◌, refl, sym, ap, subst}
use mathlib.Core.Bool.{Bool, true, false, cond, not}
use mathlib.Core.Logic.{◌↔◌}
use mathlib.Core.List.{List, [], ◌∷◌, ◌++◌, append-nil, append_assoc}
use Prim.Native.Nat.{ℕ}
use native.Mathlib.Omega.{arith}
use lib.Dec.{T, T_not, eqb, eqb_refl}
use Rattle.laws.specs.Test.{both, both_left, both_right}
use Rattle.laws.specs.Refusals.{Rule, first_of, NoneApplies, GivenExactly, fresh, distinct}

pub true_not_false : true ≡ false → ⊥
true_not_false e = let z : ◌≡◌ {A = ℕ} 0 1 = cc in omega arith

-- a test fails or passes, and what follows from each
by_test : {P : Type 0} (b : Bool) → (b ≡ true → P) → (b ≡ false → P) → P
by_test true f g = f refl
by_test false f g = g refl

apart : (m n : ℕ) → T (not (eqb m n)) → m ≡ n → ⊥
apart m n t e = T_not (eqb m n) t (subst (λ (x : ℕ). T (eqb m x)) e (eqb_refl m))

-- what the first rule that applies gives, by the test of the first
module _ (r : Rule) (rs : List Rule) where
  here : r.test ≡ true → first_of (r ∷ rs) ≡ r.number
  here e = ap (λ (b : Bool). cond b r.number (first_of rs)) e

  later : r.test ≡ false → first_of (r ∷ rs) ≡ first_of rs
  later e = ap (λ (b : Bool). cond b r.number (first_of rs)) e

  not_here : r.test ≡ false → r.Applies → ⊥
  not_here e a = true_not_false (sym (r.right.1 a) ∙ e)

never : (n : ℕ) (rs : List Rule) → T (not (eqb 0 n)) → T (fresh n rs) → first_of rs ≡ n → ⊥
never n [] z t e = apart 0 n z e
never n (r ∷ rs) z t e =
    by_test r.test
    (λ y. apart r.number n (both_left (not (eqb r.number n)) (fresh n rs) t) (sym (here r rs y) ∙ e))
    (λ f. never n rs z (both_right (not (eqb r.number n)) (fresh n rs) t) (sym (later r rs f) ∙ e))

-- one rule after those that were tested before it, and before those that come after it
first_after : (before : List Rule) (r : Rule) (after : List Rule) → T (not (eqb 0 r.number)) → T (fresh r.number before) → T (fresh r.number after)
    → (first_of (before ++ (r ∷ after)) ≡ r.number) ↔ (r.Applies × NoneApplies before)
first_after [] r after z t u = (
  λ e. by_test r.test (λ y. (r.right.0 y, tt)) (λ f. absurd (never r.number after z u (sym (later r after f) ∙ e))),
  λ p. here r after (r.right.1 p.0),
)
first_after (b ∷ bs) r after z t u =
    let h = first_after bs r after z (both_right (not (eqb b.number r.number)) (fresh r.number bs) t) u in (
      λ e. by_test b.test
          (λ y. absurd (apart b.number r.number (both_left (not (eqb b.number r.number)) (fresh r.number bs) t) (sym (here b (bs ++ (r ∷ after)) y) ∙ e)))
          (λ f. let g = h.0 (sym (later b (bs ++ (r ∷ after)) f) ∙ e) in (g.0, (not_here b [] f, g.1))),
      λ p. by_test b.test
          (λ y. absurd (p.1.0 (b.right.0 y)))
          (λ f. later b (bs ++ (r ∷ after)) f ∙ h.1 (p.0, p.1.1)),
    )

-- no number exactly when no rule applies
none_first : (rs : List Rule) → T (fresh 0 rs) → (first_of rs ≡ 0) ↔ NoneApplies rs
none_first [] t = (λ e. tt, λ p. refl)
none_first (r ∷ rs) t =
    let h = none_first rs (both_right (not (eqb r.number 0)) (fresh 0 rs) t) in (
      λ e. by_test r.test
          (λ y. absurd (apart r.number 0 (both_left (not (eqb r.number 0)) (fresh 0 rs) t) (sym (here r rs y) ∙ e)))
          (λ f. (not_here r rs f, h.0 (sym (later r rs f) ∙ e))),
      λ p. by_test r.test
          (λ y. absurd (p.0 (r.right.0 y)))
          (λ f. later r rs f ∙ h.1 p.1),
    )

as_given : {n f m : ℕ} {A : Type 0} → n ≡ f → (f ≡ m) ↔ A → (n ≡ m) ↔ A
as_given by h = (λ e. h.0 (sym by ∙ e), λ p. by ∙ h.1 p)

given_from : (n : ℕ) (before rs : List Rule) → T (distinct before rs) → n ≡ first_of (before ++ rs) → GivenExactly n before rs
given_from n before [] t e = as_given (e ∙ ap first_of (append-nil before)) (none_first before t)
given_from n before (r ∷ rs) t e =
    let u = both_right (not (eqb 0 r.number)) (both (fresh r.number before) (both (fresh r.number rs) (distinct (before ++ (r ∷ [])) rs))) t in
    let v = both_right (fresh r.number before) (both (fresh r.number rs) (distinct (before ++ (r ∷ [])) rs)) u in (
      as_given e
          (first_after before r rs
          (both_left (not (eqb 0 r.number)) (both (fresh r.number before) (both (fresh r.number rs) (distinct (before ++ (r ∷ [])) rs))) t)
          (both_left (fresh r.number before) (both (fresh r.number rs) (distinct (before ++ (r ∷ [])) rs)) u)
          (both_left (fresh r.number rs) (distinct (before ++ (r ∷ [])) rs) v)),
      given_from n (before ++ (r ∷ [])) rs (both_right (fresh r.number rs) (distinct (before ++ (r ∷ [])) rs) v) (e ∙ ap first_of (sym (append_assoc before (r ∷ []) rs))),
    )

-- a call whose number is that of the first rule that applies gives each refusal exactly when its row applies and none tested before it does
pub given_exactly : (n : ℕ) (rs : List Rule) → T (distinct [] rs) → n ≡ first_of rs → GivenExactly n [] rs
given_exactly n rs t e = given_from n [] rs t e
