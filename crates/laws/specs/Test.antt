-- Tests that antt computes, and the laws that turn them into facts. Assumes nothing.
use Rattle.std.proofs.Common.{subst, sym, ⊎_elim, eq-or-lt_of_le, le_of_suc-le-suc, not-suc-le-zero, arith, eqb→eq}
use Rattle.std.specs.Prelude.{Bool, true, false, List, [], ◌∷◌, ℕ, zero, suc, ◌<◌, T, eqb}

abbrev pub both : Bool → Bool → Bool
both true b = b
both false b = false

pub both_left : (a b : Bool) → T (both a b) → T a
both_left true b t = tt
both_left false b t = t

pub both_right : (a b : Bool) → T (both a b) → T b
both_right true b t = t
both_right false b t = absurd t

pub both_of : (a b : Bool) → T a → T b → T (both a b)
both_of true b t u = u
both_of false b t u = t

-- one of two tests passes
abbrev pub either : Bool → Bool → Bool
either true b = true
either false b = b

pub either_elim : (P : Type 0) (a b : Bool) → T (either a b) → (T a → P) → (T b → P) → P
either_elim P true b t f g = f tt
either_elim P false b t f g = g t

-- the test f passes at every number below n
abbrev pub below : (ℕ → Bool) → ℕ → Bool
below f zero = true
below f (suc n) = both (f n) (below f n)

pub below_at : (f : ℕ → Bool) (n : ℕ) → T (below f n) → (k : ℕ) → k < n → T (f k)
below_at f zero t k h = absurd (not-suc-le-zero h)
below_at f (suc n) t k h =
    ⊎_elim (λ e. subst (λ (m : ℕ). T (f m)) (sym e) (both_left (f n) (below f n) t))
    (λ l. below_at f n (both_right (f n) (below f n) t) k l)
    (eq-or-lt_of_le (le_of_suc-le-suc h))

pub below_of : (f : ℕ → Bool) (n : ℕ) → ((k : ℕ) → k < n → T (f k)) → T (below f n)
below_of f zero e = tt
below_of f (suc n) e = both_of (f n) (below f n) (e n (omega arith)) (below_of f n (λ k l. e k (omega arith)))

-- a number is one of a list; a test passes at each number of a list
abbrev pub among : List ℕ → ℕ → Bool
among [] m = false
among (x ∷ xs) m = either (eqb m x) (among xs m)

abbrev pub every : (ℕ → Bool) → List ℕ → Bool
every f [] = true
every f (x ∷ xs) = both (f x) (every f xs)

pub every_at : (f : ℕ → Bool) (xs : List ℕ) → T (every f xs) → (m : ℕ) → T (among xs m) → T (f m)
every_at f [] t m h = absurd h
every_at f (x ∷ xs) t m h =
    either_elim (T (f m)) (eqb m x) (among xs m) h
    (λ e. subst (λ (k : ℕ). T (f k)) (sym (eqb→eq m x e)) (both_left (f x) (every f xs) t))
    (λ l. every_at f xs (both_right (f x) (every f xs) t) m l)
