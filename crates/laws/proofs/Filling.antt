-- A loop that fills a list by an index function, one store a turn.
use mathlib.Core.Path.{◌≡◌, ◌∙◌, refl, sym, ap, subst}
use mathlib.Core.List.{List}
use mathlib.Core.Logic.{⊎_elim}
use Prim.Native.Nat.{ℕ, ◌+◌, ◌-◌, ◌<◌, ◌≤◌}
use native.Mathlib.Nat.{not-suc-le-zero, zero-add}
use native.Mathlib.Omega.{arith}
use lib.ListN.{length, get_or, set, length-set}
use lib.Seq.{get_or-set_same, get_or-set_other}
use borrow.Author.Count.{below_more}
use Rattle.std.proofs.Common.{rules, replicate, length-take, length-drop}
use Rattle.std.proofs.lemmas.List.{places, get_or-replicate}
use Rattle.std.specs.List.{between}
use Rattle.std.proofs.lemmas.List.Edits.{length-between, get_or-between}
use borrow.Rule.Slice.PartMut.{mid_of, put_mid}
use Rattle.laws.specs.Filled.{Filled}
use Rattle.laws.proofs.Search.{lt_or_le}

module _ {A : Type 0} (z : A) (a : ℕ) (f : ℕ → A) where
  -- before the first turn
  pub fill_none : (d : List A) → Filled z a f 0 d d
  fill_none d = record { same = refl; done = λ i h. absurd (not-suc-le-zero h); before = λ i h. refl; after = λ i h. refl }

  -- a turn: the store of f n at the next place
  pub fill_more : (n : ℕ) (d₀ d : List A) (k : ℕ) (v : A) → k ≡ a + n → a + n < length d₀ → v ≡ f n → Filled z a f n d₀ d → Filled z a f (n + 1) d₀ (set d k v)
  fill_more n d₀ d k v e h g p =
      record {
        same = length-set d k v ∙ p.same;
        done = below_more (λ (i : ℕ). get_or (set d k v) (a + i) z ≡ f i) n
            (λ i l. get_or-set_other d k (a + i) v z (omega arith) ∙ p.done i l)
            (ap (λ (j : ℕ). get_or (set d k v) j z) (sym e) ∙ get_or-set_same d k v z (omega (arith, p.same)) ∙ g);
        before = λ i l. get_or-set_other d k i v z (omega arith) ∙ p.before i l;
        after = λ i l. get_or-set_other d k i v z (omega arith) ∙ p.after i (omega arith);
      }

  -- another function with the same values
  pub fill_as : (g : ℕ → A) (n : ℕ) (d₀ d : List A) → ((i : ℕ) → i < n → f i ≡ g i) → Filled z a f n d₀ d → Filled z a g n d₀ d
  fill_as g n d₀ d e p = record { same = p.same; done = λ i l. p.done i l ∙ e i l; before = p.before; after = p.after }

  -- the count by another name, as at the loop's end
  pub fill_end : {n m : ℕ} {d₀ d : List A} → n ≡ m → Filled z a f n d₀ d → Filled z a f m d₀ d
  fill_end {d₀ = d₀} {d = d} e p = subst (λ (k : ℕ). Filled z a f k d₀ d) e p

-- the start by another name
pub fill_from : {A : Type 0} (z : A) (f : ℕ → A) {a b n : ℕ} {d₀ d : List A} → a ≡ b → Filled z a f n d₀ d → Filled z b f n d₀ d
fill_from z f {n = n} {d₀ = d₀} {d = d} e p = subst (λ (k : ℕ). Filled z k f n d₀ d) e p

-- an element, where the part starts at 0
pub fill_at : {A : Type 0} (z : A) (f : ℕ → A) {n : ℕ} {d₀ d : List A} → Filled z 0 f n d₀ d → (i : ℕ) → i < n → get_or d i z ≡ f i
fill_at z f {d = d} p i h = ap (λ (j : ℕ). get_or d j z) (sym (zero-add i)) ∙ p.done i h

-- a part, and then the part after it
pub fill_join : {A : Type 0} (z : A) (a : ℕ) (f : ℕ → A) (n m : ℕ) (d₀ d d' : List A)
    → Filled z a f n d₀ d → Filled z (a + n) (λ i. f (n + i)) m d d' → Filled z a f (n + m) d₀ d'
fill_join z a f n m d₀ d d' p q = record {
  same = q.same ∙ p.same;
  done = λ i l. ⊎_elim
      (λ (h : i < n). q.before (a + i) (omega arith) ∙ p.done i h)
      (λ (h : n ≤ i).
      ap (λ (j : ℕ). get_or d' j z) (omega arith) ∙ q.done (i - n) (omega arith) ∙ ap f (omega arith))
      (lt_or_le i n);
  before = λ i l. q.before i (omega arith) ∙ p.before i l;
  after = λ i l. q.after i (omega arith) ∙ p.after i (omega arith);
}

-- a part written over by itself, as `copy_from_slice`, `fill` and a call that is lent the part do
pub fill_part : {A : Type 0} (z : A) (a : ℕ) (f : ℕ → A) (n k : ℕ) (d₀ ys : List A) → a + k ≤ length d₀ → length ys ≡ k → n ≡ k
    → ((i : ℕ) → i < n → get_or ys i z ≡ f i) → Filled z a f n d₀ (put_mid a k d₀ ys)
fill_part z a f n k d₀ ys room sized e g = record {
  same = search (rules, places);
  done = λ i l. search (rules, places) ∙ g i l;
  before = λ i l. search (rules, places);
  after = λ i l. search (rules, places);
}

-- a part that a call was lent and filled
pub fill_lent : {A : Type 0} (z : A) (a : ℕ) (f : ℕ → A) (n k : ℕ) (d₀ : List A) {ys : List A} → a + k ≤ length d₀ → n ≡ k
    → Filled z 0 f n (mid_of a k d₀) ys → Filled z a f n d₀ (put_mid a k d₀ ys)
fill_lent z a f n k d₀ {ys = ys} room e p =
    let sized : length (mid_of a k d₀) ≡ k = simp (length-take, length-drop) (omega arith) in
    fill_part z a f n k d₀ ys room (p.same ∙ sized) e (λ i l. fill_at z f p i (omega arith))

-- the same, of a call that promises as many elements as the part is long
pub fill_lent_all : {A : Type 0} (z : A) (a : ℕ) (f : ℕ → A) (n k : ℕ) (d₀ : List A) {ys : List A} → a + k ≤ length d₀ → n ≡ k
    → Filled z 0 f (length (mid_of a k d₀)) (mid_of a k d₀) ys → Filled z a f n d₀ (put_mid a k d₀ ys)
fill_lent_all z a f n k d₀ room e p =
    let sized : length (mid_of a k d₀) ≡ n = simp (length-take, length-drop) (omega arith) in
    fill_lent z a f n k d₀ room e (fill_end z 0 f sized p)

-- a part that `fill` writes over
pub fill_same : {A : Type 0} (z : A) (a : ℕ) (v : A) (n k : ℕ) (d₀ ys : List A) → a + k ≤ length d₀ → n ≡ k
    → ys ≡ replicate (length (mid_of a k d₀)) v → Filled z a (λ i. v) n d₀ (put_mid a k d₀ ys)
fill_same z a v n k d₀ ys room e same =
    let sized : length (mid_of a k d₀) ≡ k = simp (length-take, length-drop) (omega arith) in
    rw (same, sized) (fill_part z a (λ i. v) n k d₀ (replicate k v) room (search (rules, places)) e
    (λ i l. get_or-replicate k i v z (omega arith)))

-- a part that `copy_from_slice` writes over with a part of another list
pub fill_copied : {A : Type 0} (z : A) (a : ℕ) (xs : List A) (from to n k : ℕ) (d₀ ys : List A) → a + k ≤ length d₀ → n ≡ k → from + n ≡ to
    → to ≤ length xs → ys ≡ between from to xs → Filled z a (λ i. get_or xs (from + i) z) n d₀ (put_mid a k d₀ ys)
fill_copied z a xs from to n k d₀ ys room e g whole same =
    rw same (fill_part z a (λ i. get_or xs (from + i) z) n k d₀ (between from to xs) room (omega (arith, length-between xs from to whole)) e
    (λ i l. get_or-between xs from to i z (omega arith)))

-- elements are small where the function's values are
pub fill_small : {f : ℕ → ℕ} {n bound : ℕ} {d₀ d : List ℕ} → Filled 0 0 f n d₀ d → ((i : ℕ) → f i < bound) → (i : ℕ) → i < n → get_or d i 0 < bound
fill_small {f} {bound = bound} p small i h = subst (λ (v : ℕ). v < bound) (sym (fill_at 0 f p i h)) (small i)
