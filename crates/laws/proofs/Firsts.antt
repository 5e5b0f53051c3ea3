-- Lists by an index function, and a filled list as one of them. Assumes nothing.
use mathlib.Core.Path.{◌≡◌, ◌∙◌, refl, sym, ap, ap₂}
use mathlib.Core.List.{List, ◌∷◌, ◌++◌}
use mathlib.Core.Logic.{⊎_elim}
use Prim.Native.Nat.{ℕ, zero, suc, ◌+◌, ◌-◌, ◌<◌, ◌≤◌}
use native.Mathlib.Nat.{le_of_suc-le-suc, not-suc-le-zero}
use native.Mathlib.Omega.{arith}
use lib.ListN.{length, get_or, take, drop, length-append, length-drop, get_or-append}
use lib.Seq.{ext_get_or, get_or-append-add, get_or-drop, get_or-take, length-take-le}
use Rattle.laws.specs.Filled.{Filled}
use Rattle.laws.specs.Firsts.{firsts}
use Rattle.laws.proofs.Filling.{fill_at}
use Rattle.laws.proofs.Search.{lt_or_le, parts}

pub length_firsts : {A : Type 0} (f : ℕ → A) (n : ℕ) → length (firsts f n) ≡ n
length_firsts f zero = refl
length_firsts f (suc n) = ap suc (length_firsts (λ k. f (suc k)) n)

pub get_d_firsts : {A : Type 0} (z : A) (f : ℕ → A) (n i : ℕ) → i < n → get_or (firsts f n) i z ≡ f i
get_d_firsts z f zero i h = absurd (not-suc-le-zero h)
get_d_firsts z f (suc n) zero h = refl
get_d_firsts z f (suc n) (suc i) h = get_d_firsts z (λ k. f (suc k)) n i (le_of_suc-le-suc h)

-- only the values so far count
pub firsts_ext : {A : Type 0} (f g : ℕ → A) (n : ℕ) → ((k : ℕ) → k < n → f k ≡ g k) → firsts f n ≡ firsts g n
firsts_ext f g zero e = refl
firsts_ext f g (suc n) e = ap₂ (λ x xs. x ∷ xs) (e 0 (omega arith)) (firsts_ext (λ k. f (suc k)) (λ k. g (suc k)) n (λ k l. e (suc k) (omega arith)))

module _ {A : Type 0} (z : A) (f : ℕ → A) (n : ℕ) (d₀ : List A) where
  -- a list whose first elements are written: those, and the rest
  pub written_at : (i : ℕ) → i < n → get_or (firsts f n ++ drop n d₀) i z ≡ f i
  written_at i h =
      get_or-append (firsts f n) (drop n d₀) z i (rw (length_firsts f n) h) ∙ get_d_firsts z f n i h

  pub rest_at : (i : ℕ) → n ≤ i → get_or (firsts f n ++ drop n d₀) i z ≡ get_or d₀ i z
  rest_at i h =
      let e : length (firsts f n) + (i - n) ≡ i = omega (arith, length_firsts f n) in
      let g : n + (i - n) ≡ i = omega arith in
      ap (λ (k : ℕ). get_or (firsts f n ++ drop n d₀) k z) (sym e)
      ∙ get_or-append-add (firsts f n) (drop n d₀) (i - n) z
      ∙ get_or-drop n d₀ (i - n) z
      ∙ ap (λ (k : ℕ). get_or d₀ k z) g

  -- a list filled from its start is the function's values and then what it was
  pub fill_list : (d : List A) → n ≤ length d₀ → Filled z 0 f n d₀ d → d ≡ firsts f n ++ drop n d₀
  fill_list d h p =
      ext_get_or z d (firsts f n ++ drop n d₀)
      (omega (arith, p.same, length-append (firsts f n) (drop n d₀), length_firsts f n, length-drop n d₀))
      (λ i l. ⊎_elim
      (λ (b : i < n). fill_at z f p i b ∙ sym (written_at i b))
      (λ (b : n ≤ i). p.after i (omega arith) ∙ sym (rest_at i b))
      (lt_or_le i n))

-- a part of a list written: what stood before it, the function's values, and what stood after it
module _ {A : Type 0} (z : A) (a : ℕ) (f : ℕ → A) (n : ℕ) (d₀ : List A) (inside : a + n ≤ length d₀) where
  abbrev rest : List A
  rest = firsts f n ++ drop (a + n) d₀

  front : length (take a d₀) ≡ a
  front = length-take-le a d₀ (omega arith)

  behind : (i : ℕ) → a ≤ i → get_or (take a d₀ ++ rest) i z ≡ get_or rest (i - a) z
  behind i low =
      let e : length (take a d₀) + (i - a) ≡ i = omega (arith, front) in
      ap (λ (k : ℕ). get_or (take a d₀ ++ rest) k z) (sym e) ∙ get_or-append-add (take a d₀) rest (i - a) z

  pub into_fill : Filled z a f n d₀ (take a d₀ ++ (firsts f n ++ drop (a + n) d₀))
  into_fill = record {
    same = omega (arith, length-append (take a d₀) rest, length-append (firsts f n) (drop (a + n) d₀), front, length_firsts f n, length-drop (a + n) d₀);
    done = λ i l.
        let e : a + i - a ≡ i = omega arith in
        behind (a + i) (omega arith)
        ∙ ap (λ (k : ℕ). get_or rest k z) e
        ∙ get_or-append (firsts f n) (drop (a + n) d₀) z i (rw (length_firsts f n) l)
        ∙ get_d_firsts z f n i l;
    before = λ i l. get_or-append (take a d₀) rest z i (rw front l) ∙ get_or-take a d₀ i z l;
    after = λ i l.
        let e : length (firsts f n) + (i - a - n) ≡ i - a = omega (arith, length_firsts f n) in
        let g : a + n + (i - a - n) ≡ i = omega arith in
        behind i (omega arith)
        ∙ ap (λ (k : ℕ). get_or rest k z) (sym e)
        ∙ get_or-append-add (firsts f n) (drop (a + n) d₀) (i - a - n) z
        ∙ get_or-drop (a + n) d₀ (i - a - n) z
        ∙ ap (λ (k : ℕ). get_or d₀ k z) g;
  }

-- there is one list only that is so filled
pub fill_only : {A : Type 0} (z : A) (a : ℕ) (f : ℕ → A) (n : ℕ) (d₀ d d' : List A) → Filled z a f n d₀ d → Filled z a f n d₀ d' → d ≡ d'
fill_only z a f n d₀ d d' p q =
    ext_get_or z d d' (p.same ∙ sym q.same)
    (λ i l. parts a (a + n) i
    (λ (b : i < a). p.before i b ∙ sym (q.before i b))
    (λ (low : a ≤ i) (high : i < a + n).
    let e : a + (i - a) ≡ i = omega arith in
    ap (λ (k : ℕ). get_or d k z) (sym e) ∙ p.done (i - a) (omega arith)
    ∙ sym (q.done (i - a) (omega arith)) ∙ ap (λ (k : ℕ). get_or d' k z) e)
    (λ (low : a + n ≤ i). p.after i low ∙ sym (q.after i low)))

-- so a list filled from any place on is what stood before, the function's values, and what stood after
pub fill_into : {A : Type 0} (z : A) (a : ℕ) (f : ℕ → A) (n : ℕ) (d₀ d : List A) → a + n ≤ length d₀ → Filled z a f n d₀ d
    → d ≡ take a d₀ ++ (firsts f n ++ drop (a + n) d₀)
fill_into z a f n d₀ d h p = fill_only z a f n d₀ d _ p (into_fill z a f n d₀ h)
