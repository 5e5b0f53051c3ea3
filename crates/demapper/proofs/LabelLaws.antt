-- Labels from floats: what the tables of keys give is what the search among the levels gives. Assumes nothing.
use mathlib.Core.Path.{◌≡◌, ◌∙◌, sym, ap, subst}
use mathlib.Core.Bool.{Bool, true, false, cond, not}
use mathlib.Core.List.{List}
use mathlib.Core.Logic.{⊎_elim}
use Prim.Native.Nat.{ℕ, ◌+◌, ◌/◌, ◌^◌, ◌<◌, ◌≤◌}
use native.Mathlib.Omega.{arith}
use Rattle.std.proofs.lemmas.Bool.Decides.{nat_tests}
use borrow.Author.Tests.{lt-ltb, le-ltb}
use lib.Dec.{T, ltb}
use lib.ListN.{length, get_or}
use lib.IntN.{ℤ, neg_ℤ}
use lib.Ieee.{Float, nan, inf, fin, ne, binary32, of_int, to_bits, is_nan}
use lib.Ieee.Compare.{differs_from_itself}
use Rattle.chain.specs.Plan.{axis_counts}
use Rattle.laws.specs.Test.{among}
use Rattle.laws.specs.Claim.{Claim, ◌is◌, ◌under◌, ◌and◌, up_to, each, given, Holds, sound}
use Rattle.laws.specs.Integers.{counted}
use Rattle.laws.proofs.Integers.{counted_same}
use Rattle.laws.proofs.Refusing.{true_not_false}
use Rattle.laws.proofs.Search.{lt_or_le}
use Rattle.mapper.specs.Levels.{whole, level_of}
use Rattle.demapper.specs.Demapped.{level_label, negated_label}
use Rattle.demapper.specs.Asked.{key_of, level_keys, label_keys, Tables, flipped}
use Rattle.laws.proofs.Least.{Found, found_is, first_found}

-- a float that does not differ from itself is no NaN, and one that does has the NaN's pattern
pub real : (x : Float) → ne x x ≡ false → T (not (is_nan x))
unfolding ne is_nan
real nan e = absurd (true_not_false e)
real (inf s) e = tt
real (fin s m k) e = tt

pub nan_bits : (x : Float) → ne x x ≡ true → to_bits binary32 x ≡ 0x7fc00000
unfolding to_bits
nan_bits x e = ap (to_bits binary32) (differs_from_itself x (subst T (sym e) tt))

-- the bits of the level of a label, and of its negative
abbrev pub level_bits : (s label : ℕ) → ℕ
level_bits s label = to_bits binary32 (whole (level_of s label))

abbrev pub negated_bits : (s label : ℕ) → ℕ
negated_bits s label = to_bits binary32 (whole (neg_ℤ (level_of s label)))

-- the key of a label's level leads back to the label; the label at a key has the level there; at key 0 is none. Flipping gives the negative
abbrev key_claim : Claim
key_claim = each axis_counts λ s.
    length (label_keys s) is 32
    and get_or (label_keys s) 0 0 is 2 ^ s
    and (up_to (2 ^ s) λ l.
    get_or (label_keys s) (key_of (level_bits s l)) 0 is l
    and get_or level_keys (key_of (level_bits s l)) 0 is level_bits s l
    and counted (level_of s (flipped s l)) is counted (neg_ℤ (level_of s l))
    and flipped s (flipped s l) is l
    and flipped s l under 2 ^ s)
    and (up_to 32 λ k.
    get_or (label_keys s) k 0 under 2 ^ s + 1
    and given (cond (ltb (get_or (label_keys s) k 0) (2 ^ s)) 1 0) 1 (get_or level_keys k 0 is level_bits s (get_or (label_keys s) k 0)))

keys : Holds key_claim
unfolding level_of of_int to_bits label_keys flipped
keys = sound key_claim tt

module _ (s : ℕ) (known : T (among axis_counts s)) where
  pub keys_sized : length (label_keys s) ≡ 32
  keys_sized = (keys s known).0

  pub key_none : get_or (label_keys s) 0 0 ≡ 2 ^ s
  key_none = (keys s known).1.0

  -- no two labels' levels have the same bits
  pub bits_apart : (l l' : ℕ) → l < 2 ^ s → l' < 2 ^ s → level_bits s l ≡ level_bits s l' → l ≡ l'
  bits_apart l l' h h' e =
      sym ((keys s known).1.1.0 l h).0 ∙ ap (λ (b : ℕ). get_or (label_keys s) (key_of b) 0) e ∙ ((keys s known).1.1.0 l' h').0

  -- the negative of a label's level is the flipped label's
  pub flip_level : (l : ℕ) → l < 2 ^ s → level_of s (flipped s l) ≡ neg_ℤ (level_of s l)
  flip_level l h = counted_same _ _ ((keys s known).1.1.0 l h).1.1.0

  flip_bits : (l : ℕ) → l < 2 ^ s → level_bits s (flipped s l) ≡ negated_bits s l
  flip_bits l h = ap (λ (z : ℤ). to_bits binary32 (whole z)) (flip_level l h)

  pub flip_back : (l : ℕ) → l < 2 ^ s → flipped s (flipped s l) ≡ l
  flip_back l h = ((keys s known).1.1.0 l h).1.1.1.0

  pub flip_below : (l : ℕ) → l < 2 ^ s → flipped s l < 2 ^ s
  flip_below l h = ((keys s known).1.1.0 l h).1.1.1.1

  negated_apart : (l l' : ℕ) → l < 2 ^ s → l' < 2 ^ s → negated_bits s l ≡ negated_bits s l' → l ≡ l'
  negated_apart l l' h h' e =
      sym (flip_back l h)
      ∙ ap (flipped s) (bits_apart (flipped s l) (flipped s l') (flip_below l h) (flip_below l' h') (flip_bits l h ∙ e ∙ sym (flip_bits l' h')))
      ∙ flip_back l' h'

  -- the labels that the definitions search for
  pub level_found : (x : Float) → Found (2 ^ s) (level_bits s) (to_bits binary32 x) (level_label s x)
  unfolding level_label
  level_found x = first_found (2 ^ s) (level_bits s) (to_bits binary32 x) bits_apart

  pub negated_found : (x : Float) → Found (2 ^ s) (negated_bits s) (to_bits binary32 x) (negated_label s x)
  unfolding negated_label
  negated_found x = first_found (2 ^ s) (negated_bits s) (to_bits binary32 x) negated_apart

  -- the label at a pattern's key, where the pattern stands there too
  pub key_label : (x : Float) → let b = to_bits binary32 x in
      key_of b < 32 → b ≡ get_or level_keys (key_of b) 0 → get_or (label_keys s) (key_of b) 0 ≡ level_label s x
  key_label x small e =
      let b = to_bits binary32 x in
      let r = get_or (label_keys s) (key_of b) 0 in
      let at = (keys s known).1.1.1 (key_of b) small in
      found_is (2 ^ s) (level_bits s) b r (level_label s x)
      (record {
        told = λ l h g. sym ((keys s known).1.1.0 l h).0 ∙ ap (λ (v : ℕ). get_or (label_keys s) (key_of v) 0) (sym g);
        shows = λ h. e ∙ at.1 (ap (λ (t : Bool). cond t 1 0) (lt-ltb r (2 ^ s) h));
        most = omega (arith, at.0);
      })
      (level_found x)

  -- and where another stands there: none
  pub key_other : (x : Float) → let b = to_bits binary32 x in
      (b ≡ get_or level_keys (key_of b) 0 → ⊥) → get_or (label_keys s) 0 0 ≡ level_label s x
  key_other x n =
      let b = to_bits binary32 x in
      let none : get_or (label_keys s) 0 0 ≡ 2 ^ s = key_none in
      found_is (2 ^ s) (level_bits s) b (get_or (label_keys s) 0 0) (level_label s x)
      (record {
        told = λ l h g. absurd (n (g ∙ sym ((keys s known).1.1.0 l h).1.0 ∙ ap (λ (v : ℕ). get_or level_keys (key_of v) 0) (sym g)));
        shows = λ h. absurd (omega (arith, h, none));
        most = omega arith;
      })
      (level_found x)

  -- 2^s stays
  flip_none : flipped s (2 ^ s) ≡ 2 ^ s
  unfolding flipped
  flip_none = simp (le-ltb (2 ^ s) (2 ^ s / 2) (omega arith), le-ltb (2 ^ s) (2 ^ s) (omega arith))

  -- the label of the negative is the flipped label
  pub flip_label : (x : Float) → flipped s (level_label s x) ≡ negated_label s x
  flip_label x =
      let b = to_bits binary32 x in
      let m = level_label s x in
      let f = level_found x in
      found_is (2 ^ s) (negated_bits s) b (flipped s m) (negated_label s x)
      (record {
        told = λ l h g. sym (flip_back l h) ∙ ap (flipped s) (f.told (flipped s l) (flip_below l h) (g ∙ sym (flip_bits l h)));
        shows = λ h. ⊎_elim
            (λ (u : m < 2 ^ s).
            f.shows u ∙ ap (level_bits s) (sym (flip_back m u)) ∙ flip_bits (flipped s m) (flip_below m u))
            (λ (u : 2 ^ s ≤ m). absurd (stays u h)) (lt_or_le m (2 ^ s));
        most = ⊎_elim (λ (u : m < 2 ^ s). omega (arith, flip_below m u))
            (λ (u : 2 ^ s ≤ m). omega (arith, ap (flipped s) (is_none u), flip_none)) (lt_or_le m (2 ^ s));
      })
      (negated_found x)
    where
      is_none : 2 ^ s ≤ level_label s x → level_label s x ≡ 2 ^ s
      is_none u = omega (arith, (level_found x).most)

      stays : 2 ^ s ≤ level_label s x → flipped s (level_label s x) < 2 ^ s → ⊥
      stays u h = omega (arith, h, ap (flipped s) (is_none u), flip_none)

-- the same of tables that a function was handed
module _ (s : ℕ) (levels labels : List ℕ) (tables : Tables s levels labels) where
  pub label_there : (x : Float) (b k : ℕ) → b ≡ to_bits binary32 x → k ≡ key_of b → k < 32 → b ≡ get_or levels k 0 → get_or labels k 0 ≡ level_label s x
  label_there x b k e g small there =
      let at : k ≡ key_of (to_bits binary32 x) = g ∙ ap key_of e in
      ap (λ (l : List ℕ). get_or l k 0) tables.labels_are ∙ ap (λ (j : ℕ). get_or (label_keys s) j 0) at
      ∙ key_label s tables.axis x (subst (λ (j : ℕ). j < 32) at small)
      (sym e ∙ there ∙ ap (λ (l : List ℕ). get_or l k 0) tables.levels_are ∙ ap (λ (j : ℕ). get_or level_keys j 0) at)

  pub label_other : (x : Float) (b k : ℕ) → b ≡ to_bits binary32 x → k ≡ key_of b → (b ≡ get_or levels k 0 → ⊥) → get_or labels 0 0 ≡ level_label s x
  label_other x b k e g n =
      let at : k ≡ key_of (to_bits binary32 x) = g ∙ ap key_of e in
      ap (λ (l : List ℕ). get_or l 0 0) tables.labels_are
      ∙ key_other s tables.axis x
      (λ there. n (e ∙ there ∙ ap (λ (j : ℕ). get_or level_keys j 0) (sym at) ∙ ap (λ (l : List ℕ). get_or l k 0) (sym tables.levels_are)))

-- what stands at key 0
module _ (s : ℕ) (labels : List ℕ) (known : T (among axis_counts s)) (e : labels ≡ label_keys s) where
  pub all_labels : get_or labels 0 0 ≡ 2 ^ s
  all_labels = ap (λ (l : List ℕ). get_or l 0 0) e ∙ key_none s known

-- what the goals of `flip` need
pub ruleset flip_steps = (keys_sized, all_labels, nat_tests)
