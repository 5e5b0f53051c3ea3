-- Tests and the facts that they stand for, both ways. Assumes nothing.
use mathlib.Core.Path.{◌≡◌, refl, sym, subst}
use mathlib.Core.Bool.{Bool, true, false, not, ◌&&◌, ◌||◌}
use mathlib.Core.Logic.{◌↔◌, ◌⊎◌, inl, inr, ⊎_elim}
use Prim.Native.Nat.{ℕ, ◌<◌}
use lib.Dec.{T, eqb, eqb_refl, ltb}
use borrow.Author.Tests.{ltb-true, lt-ltb, eqb-true, eq-eqb, eqb-false, ne_eqb, not-true}
use Rattle.laws.proofs.Refusing.{true_not_false}

-- a test that passes, as a fact and as an equation
pub T_true : (t : Bool) → T t → t ≡ true
T_true true p = refl
T_true false p = absurd p

pub true_T : (t : Bool) → t ≡ true → T t
true_T t e = subst T (sym e) tt

-- tests that pass together are one
pub same_test : (a b : Bool) → (T a → T b) → (T b → T a) → a ≡ b
same_test true true f g = refl
same_test true false f g = absurd (f tt)
same_test false true f g = absurd (g tt)
same_test false false f g = refl

pub less : (a b : ℕ) → (ltb a b ≡ true) ↔ (a < b)
less a b = (ltb-true a b, lt-ltb a b)

pub same : (a b : ℕ) → (eqb a b ≡ true) ↔ (a ≡ b)
same a b = (eqb-true a b, eq-eqb a b)

-- equal numbers pass the test of equality
pub eqb_of : (a b : ℕ) → a ≡ b → T (eqb a b)
eqb_of a b e = subst (λ (x : ℕ). T (eqb a x)) e (eqb_refl a)

pub other : (a b : ℕ) → (not (eqb a b) ≡ true) ↔ (a ≡ b → ⊥)
other a b = (λ e. eqb-false a b (not-true (eqb a b) e), λ n. simp (ne_eqb a b n))

-- one of two
pub either : {P Q : Type 0} (a b : Bool) → (a ≡ true) ↔ P → (b ≡ true) ↔ Q → ((a || b) ≡ true) ↔ (P ⊎ Q)
either true b p q = (λ e. inl (p.0 refl), λ s. refl)
either false b p q = (λ e. inr (q.0 e), ⊎_elim (λ x. absurd (true_not_false (sym (p.1 x)))) (λ y. q.1 y))

-- none of two
pub neither : {P Q : Type 0} (a b : Bool) → (a ≡ true) ↔ P → (b ≡ true) ↔ Q → (not (a || b) ≡ true) ↔ ((P → ⊥) × (Q → ⊥))
neither true b p q = (λ e. absurd (true_not_false (sym e)), λ n. absurd (n.0 (p.0 refl)))
neither false true p q = (λ e. absurd (true_not_false (sym e)), λ n. absurd (n.1 (q.0 refl)))
neither false false p q = (λ e. (λ x. true_not_false (sym (p.1 x)), λ y. true_not_false (sym (q.1 y))), λ n. refl)

-- both of two, and none of two, as equations of tests
pub and_true : (a b : Bool) → (a && b) ≡ true → (a ≡ true) × (b ≡ true)
and_true true b e = (refl, e)
and_true false b e = absurd (true_not_false (sym e))

pub both_true : {a b : Bool} → a ≡ true → b ≡ true → (a && b) ≡ true
both_true e f = simp (e, f)

pub or_false : (a b : Bool) → (a || b) ≡ false → (a ≡ false) × (b ≡ false)
or_false true b e = absurd (true_not_false e)
or_false false b e = (refl, e)
