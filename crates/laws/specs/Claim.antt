-- Claims that antt decides by computing: a claim says what holds, and what test shows it. Assumes nothing.
use Rattle.std.specs.Prelude.{◌≡◌, Bool, not, List, [], ◌∷◌, ℕ, ◌<◌, T, eqb, ltb}
use Rattle.std.proofs.Common.{subst, T_not, eqb→eq, ltb→lt}
use Rattle.std.proofs.Math.Dec.{eqb_refl}
use Rattle.laws.specs.Test.{either, either_elim, both, both_left, both_right, below, below_at, among, every, every_at}

infix 40 ◌is◌
infix 40 ◌under◌
infixr 30 ◌and◌
pub data Claim : Type 0 where
  ◌is◌ ◌under◌ : ℕ → ℕ → Claim
  ◌and◌ : Claim → Claim → Claim
  -- at every number below n; at every number of a list
  up_to : ℕ → (ℕ → Claim) → Claim
  each : List ℕ → (ℕ → Claim) → Claim
  -- where two numbers are equal; where they are not
  given unless : ℕ → ℕ → Claim → Claim

abbrev pub Holds : Claim → Type 0
Holds (a is b) = a ≡ b
Holds (a under b) = a < b
Holds (c and d) = Holds c × Holds d
Holds (up_to n f) = (k : ℕ) → k < n → Holds (f k)
Holds (each xs f) = (m : ℕ) → T (among xs m) → Holds (f m)
Holds (given a b c) = a ≡ b → Holds c
Holds (unless a b c) = (a ≡ b → ⊥) → Holds c

abbrev pub test : Claim → Bool
test (a is b) = eqb a b
test (a under b) = ltb a b
test (c and d) = both (test c) (test d)
test (up_to n f) = below (λ (k : ℕ). test (f k)) n
test (each xs f) = every (λ (m : ℕ). test (f m)) xs
test (given a b c) = either (not (eqb a b)) (test c)
test (unless a b c) = either (eqb a b) (test c)

pub sound : (c : Claim) → T (test c) → Holds c
sound (a is b) t = eqb→eq a b t
sound (a under b) t = ltb→lt a b t
sound (c and d) t = (sound c (both_left (test c) (test d) t), sound d (both_right (test c) (test d) t))
sound (up_to n f) t = λ k h. sound (f k) (below_at (λ (j : ℕ). test (f j)) n t k h)
sound (each xs f) t = λ m h. sound (f m) (every_at (λ (j : ℕ). test (f j)) xs t m h)
sound (given a b c) t = λ e. either_elim (Holds c) (not (eqb a b)) (test c) t
    (λ n. absurd (T_not (eqb a b) n (subst (λ (x : ℕ). T (eqb a x)) e (eqb_refl a)))) (λ u. sound c u)
sound (unless a b c) t = λ n. either_elim (Holds c) (eqb a b) (test c) t (λ e. absurd (n (eqb→eq a b e))) (λ u. sound c u)

-- a table of claims, each a row, as one claim
abbrev pub table : List Claim → Claim
table [] = 0 is 0
table (c ∷ cs) = c and table cs
