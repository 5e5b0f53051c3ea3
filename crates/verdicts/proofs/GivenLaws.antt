-- A point is given exactly where the rules give it; what the search's answer says; what a symbol's own floats show. Assumes of the plan that it fits.
use Rattle.std.specs.Prelude.{None, Some}
use mathlib.Core.Path.{◌≡◌, ◌∙◌, refl, sym, ap, ap₂, subst}
use mathlib.Core.Bool.{Bool, true, false, cond, not, ◌&&◌}
use mathlib.Core.List.{List}
use mathlib.Core.Logic.{◌↔◌, ◌⊎◌, inl, inr, ⊎_elim}
use Prim.Native.Nat.{ℕ, ◌+◌, ◌-◌, ◌*◌, ◌/◌, ◌%◌, ◌^◌, ◌<◌, ◌≤◌}
use native.Mathlib.Nat.{mod-lt, div-add-mod', div-lt_iff_lt-mul}
use native.Mathlib.Omega.{arith}
use borrow.Author.Tests.{ltb-true, lt-ltb, le-ltb, eqb-true, eq-eqb, eqb-false, ne_eqb}
use lib.Arith.{digits_lt}
use lib.Dec.{T, eqb, ltb}
use lib.IntN.{ℤ, pos}
use lib.Ieee.{Float, binary32, to_bits}
use Rattle.laws.specs.Test.{among}
use Rattle.laws.specs.Claim.{Claim, ◌under◌, each, sound}
use Rattle.laws.specs.Least.{first_from}
use Rattle.laws.proofs.Radix.{rem_of, quot_of}
use Rattle.laws.proofs.Reflect.{and_true, both_true}
use Rattle.laws.proofs.Search.{lt_or_le}
use Rattle.chain.specs.declared.plan.Plan.{Plan}
use Rattle.chain.specs.Plan.{bit_counts, Fits, axis_counts}
use Rattle.chain.specs.Parser.{axis_bits}
use Rattle.chain.specs.Labels.{halves_of}
use Rattle.chain.proofs.Counts.{axis_known, axis_some, bits_some}
use Rattle.mapper.specs.Levels.{whole, level_of, Levels, levels, carrier_levels}
use Rattle.mapper.proofs.CarrierLaws.{halves_one, halves_two}
use Rattle.subcarriers.specs.declared.layout.Use.{Use}
use Rattle.subcarriers.specs.declared.layout.Use.TheVariants.{Silent, Pilot, Data}
use Rattle.subcarriers.specs.Subcarriers.{use_of, places_of, subcarrier_at, upper}
use Rattle.subcarriers.proofs.SubcarrierLaws.{place_used_for, places_some}
use Rattle.pilots.specs.Pilots.{pilot_sign}
use Rattle.modulator.specs.Symbol.{turned_if, sent_levels, axis_level, stream_floats}
use Rattle.modulator.proofs.SymbolLaws.{sent_used, symbol_at_lem, symbol_ext}
use Rattle.demapper.specs.Demapped.{same_bits, level_label, negated_label, first_label, second_label, data_given, bit_of_label, point_bit}
use Rattle.detector.specs.Detected.{float_at, used_given, point_given, found_at, search_of, carrier_place_of, shown_bit, GivenByRules, PointByRules, fails_at}
use Rattle.verdicts.specs.Searches.{AllPass, FirstFailing, FloatsOf, ShownBack}
use Rattle.laws.proofs.Least.{Passing, NonePasses, first_cases}
use Rattle.demapper.proofs.LabelLaws.{level_found, negated_found}
use Rattle.demapper.proofs.PointLaws.{axis_one, axis_two, first_bits, second_bits}
use Rattle.detector.proofs.SearchLaws.{carrier_place_in, carrier_place_use, point_bit_lem, given_as, shown_at, carrier_of_lem}

-- ---- a point of the constellation
-- the levels of two labels of s bits; the second is 0 where there is one level only
abbrev pub pair_of : (s : ℕ) (single : Bool) (a b : ℕ) → Levels
pair_of s single a b = cond single (levels (level_of s a) (pos 0)) (levels (level_of s a) (level_of s b))

-- `data_given` by whether there is one level only
abbrev given_by : (s : ℕ) (single t : Bool) (x y : Float) → Bool
given_by s single t x y =
    ltb (level_label s (cond t y x)) (2 ^ s)
    && ltb (cond single (cond (same_bits (cond t x y) (whole (pos 0))) 0 1) (cond t (negated_label s x) (level_label s y))) (cond single 1 (2 ^ s))

given_by_lem : (bits : ℕ) (t : Bool) (x y : Float) → data_given bits t x y ≡ given_by (axis_bits bits) (eqb bits 1) t x y
unfolding data_given
given_by_lem bits t x y = refl

-- the floats of the point of two labels, turned or not
record Shows (s : ℕ) (single t : Bool) (x y : Float) (a b : ℕ) : Type 0 where
  first_in : a < 2 ^ s
  second_in : b < 2 ^ s
  first : to_bits binary32 x ≡ to_bits binary32 (whole (turned_if t (pair_of s single a b)).first)
  second : to_bits binary32 y ≡ to_bits binary32 (whole (turned_if t (pair_of s single a b)).second)

abbrev pow_claim : Claim
pow_claim = each axis_counts λ s. 0 under 2 ^ s

pow_some : (s : ℕ) → T (among axis_counts s) → 0 < 2 ^ s
pow_some = sound pow_claim tt

zero_told : (b : Bool) → ltb (cond b 0 1) 1 ≡ true → b ≡ true
zero_told true e = refl
zero_told false e = e

module _ (s : ℕ) (known : T (among axis_counts s)) (x y : Float) where
  -- the second label that a point shows
  abbrev second_of : (single t : Bool) → ℕ
  second_of single t = cond single 0 (cond t (negated_label s x) (level_label s y))

  some : 0 < 2 ^ s
  some = pow_some s known

  is_zero : (v : Float) → ltb (cond (same_bits v (whole (pos 0))) 0 1) 1 ≡ true → to_bits binary32 v ≡ to_bits binary32 (whole (pos 0))
  is_zero v e = eqb-true (to_bits binary32 v) (to_bits binary32 (whole (pos 0))) (zero_told (same_bits v (whole (pos 0))) e)

  -- a given point is the one of the labels that it shows
  given_shows : (single t : Bool) → given_by s single t x y ≡ true → Shows s single t x y (level_label s (cond t y x)) (second_of single t)
  given_shows true true e =
      let g = and_true (ltb (level_label s y) (2 ^ s)) (ltb (cond (same_bits x (whole (pos 0))) 0 1) 1) e in
      let l = ltb-true (level_label s y) (2 ^ s) g.0 in
      record { first_in = l; second_in = some; first = is_zero x g.1; second = (level_found s known y).shows l }
  given_shows true false e =
      let g = and_true (ltb (level_label s x) (2 ^ s)) (ltb (cond (same_bits y (whole (pos 0))) 0 1) 1) e in
      let l = ltb-true (level_label s x) (2 ^ s) g.0 in
      record { first_in = l; second_in = some; first = (level_found s known x).shows l; second = is_zero y g.1 }
  given_shows false true e =
      let g = and_true (ltb (level_label s y) (2 ^ s)) (ltb (negated_label s x) (2 ^ s)) e in
      let l = ltb-true (level_label s y) (2 ^ s) g.0 in
      let m = ltb-true (negated_label s x) (2 ^ s) g.1 in
      record { first_in = l; second_in = m; first = (negated_found s known x).shows m; second = (level_found s known y).shows l }
  given_shows false false e =
      let g = and_true (ltb (level_label s x) (2 ^ s)) (ltb (level_label s y) (2 ^ s)) e in
      let l = ltb-true (level_label s x) (2 ^ s) g.0 in
      let m = ltb-true (level_label s y) (2 ^ s) g.1 in
      record { first_in = l; second_in = m; first = (level_found s known x).shows l; second = (level_found s known y).shows m }

  -- a label that is found is below 2^s
  below : {a l : ℕ} → a < 2 ^ s → a ≡ l → ltb l (2 ^ s) ≡ true
  below {a} {l} h e = lt-ltb l (2 ^ s) (subst (λ (k : ℕ). k < 2 ^ s) e h)

  zero_given : (v : Float) → to_bits binary32 v ≡ to_bits binary32 (whole (pos 0)) → ltb (cond (same_bits v (whole (pos 0))) 0 1) 1 ≡ true
  zero_given v e = ap (λ (b : Bool). ltb (cond b 0 1) 1) (eq-eqb (to_bits binary32 v) (to_bits binary32 (whole (pos 0))) e)

  -- the labels that the point of two labels shows are those, and the point is given
  pub record Back (single t : Bool) (a b : ℕ) : Type 0 where
    given : given_by s single t x y ≡ true
    first : level_label s (cond t y x) ≡ a
    second : single ≡ false → cond t (negated_label s x) (level_label s y) ≡ b

  not_two : {A : Type 0} → true ≡ false → A
  not_two e = let z : ◌≡◌ {A = ℕ} 0 1 = cc in absurd (omega arith)

  shows_given : (single t : Bool) (a b : ℕ) → Shows s single t x y a b → Back single t a b
  shows_given true true a b h =
      let l = (level_found s known y).told a h.first_in h.second in
      record { given = both_true (below h.first_in l) (zero_given x h.first); first = sym l; second = λ e. not_two e }
  shows_given true false a b h =
      let l = (level_found s known x).told a h.first_in h.first in
      record { given = both_true (below h.first_in l) (zero_given y h.second); first = sym l; second = λ e. not_two e }
  shows_given false true a b h =
      let l = (level_found s known y).told a h.first_in h.second in
      let m = (negated_found s known x).told b h.second_in h.first in
      record { given = both_true (below h.first_in l) (below h.second_in m); first = sym l; second = λ e. sym m }
  shows_given false false a b h =
      let l = (level_found s known x).told a h.first_in h.first in
      let m = (level_found s known y).told b h.second_in h.second in
      record { given = both_true (below h.first_in l) (below h.second_in m); first = sym l; second = λ e. sym m }

-- ---- a data carrier's point
-- the half labels that the point of data carrier c comes from, in the order of its levels
abbrev pub first_half : (single : Bool) (h : ℕ → ℕ) (c : ℕ) → ℕ
first_half single h c = cond single (h c) (h (2 * c))

abbrev pub second_half : (single : Bool) (h : ℕ → ℕ) (c : ℕ) → ℕ
second_half single h c = cond single 0 (h (2 * c + 1))

carrier_pair : (bits : ℕ) → T (among bit_counts bits) → (h : ℕ → ℕ) (c : ℕ)
    → carrier_levels bits h c ≡ pair_of (axis_bits bits) (eqb bits 1) (first_half (eqb bits 1) h c) (second_half (eqb bits 1) h c)
unfolding carrier_levels
carrier_pair bits known h c = go (eqb bits 1) refl
  where
    go : (single : Bool) → eqb bits 1 ≡ single
        → cond single (levels (level_of 1 (h c)) (pos 0)) (levels (level_of (axis_bits bits) (h (2 * c))) (level_of (axis_bits bits) (h (2 * c + 1))))
        ≡ pair_of (axis_bits bits) single (first_half single h c) (second_half single h c)
    go true e = ap (λ (s : ℕ). levels (level_of s (h c)) (pos 0)) (sym (axis_one bits known (eqb-true bits 1 e)))
    go false e = refl

-- half labels that give two labels to every carrier
abbrev halves_for : (single : Bool) (a b m : ℕ) → ℕ
halves_for single a b m = cond single a (cond (eqb (m % 2) 0) a b)

halves_pair : (s : ℕ) (single : Bool) (a b c : ℕ)
    → pair_of s single (first_half single (halves_for single a b) c) (second_half single (halves_for single a b) c) ≡ pair_of s single a b
halves_pair s true a b c = refl
halves_pair s false a b c =
    ap₂ (λ (l m : ℕ). levels (level_of s l) (level_of s m)) (ap (λ (t : Bool). cond t a b) (eq-eqb (2 * c % 2) 0 (omega arith)))
    (ap (λ (t : Bool). cond t a b) (ne_eqb ((2 * c + 1) % 2) 0 (odd c)))
  where
    odd : (c : ℕ) → (2 * c + 1) % 2 ≡ 0 → ⊥
    odd c e = omega (arith, e)

halves_in_lem : (single : Bool) (a b n m : ℕ) → a < n → b < n → halves_for single a b m < n
halves_in_lem true a b n m h k = h
halves_in_lem false a b n m h k = go (eqb (m % 2) 0)
  where
    go : (t : Bool) → cond t a b < n
    go true = h
    go false = k

-- a float's bits by an equation of levels
first_as : (x : Float) {l m : Levels} → l ≡ m → to_bits binary32 x ≡ to_bits binary32 (whole l.first)
    → to_bits binary32 x ≡ to_bits binary32 (whole m.first)
first_as x e g = subst (λ (v : Levels). to_bits binary32 x ≡ to_bits binary32 (whole v.first)) e g

second_as : (y : Float) {l m : Levels} → l ≡ m → to_bits binary32 y ≡ to_bits binary32 (whole l.second)
    → to_bits binary32 y ≡ to_bits binary32 (whole m.second)
second_as y e g = subst (λ (v : Levels). to_bits binary32 y ≡ to_bits binary32 (whole v.second)) e g

-- ---- a place
module _ (p : Plan) (fits : Fits p) (format n i : ℕ) (z : ℤ) (x y : Float) where
  abbrev axis : T (among axis_counts (axis_bits p.bits))
  axis = axis_known p.bits fits.bits

  abbrev turn : Bool
  turn = upper p.width z

  abbrev single : Bool
  single = eqb p.bits 1

  -- what half labels send on the subcarrier of a data carrier
  pub sent_pair : (h : ℕ → ℕ → ℕ) (c : ℕ) → use_of p.width z ≡ Data c
      → sent_levels p h format n i z ≡ turned_if turn (pair_of (axis_bits p.bits) single (first_half single (h i) c) (second_half single (h i) c))
  sent_pair h c e = sent_used p fits h format n i z (Data c) e ∙ ap (turned_if turn) (carrier_pair p.bits fits.bits (h i) c)

  -- a given point is one that some half labels give, and the other way
  rules : (u : Use) → use_of p.width z ≡ u → (use_of p.width z ≡ Silent → ⊥) → used_given p format n i turn x y u ≡ true → GivenByRules p format n i z x y
  rules Silent e loud g = absurd (loud e)
  rules (Pilot q) e loud g =
      let l = turned_if turn (levels (pilot_sign p.width p.streams format n i q) (pos 0)) in
      let both = and_true (same_bits x (whole l.first)) (same_bits y (whole l.second)) g in
      let sent : l ≡ sent_levels p (λ j m. 0) format n i z = sym (sent_used p fits (λ j m. 0) format n i z (Pilot q) e) in
      record {
        h = λ j m. 0;
        labels = λ m. pow_some (axis_bits p.bits) axis;
        first = first_as x sent (eqb-true _ _ both.0);
        second = second_as y sent (eqb-true _ _ both.1);
      }
  rules (Data c) e loud g =
      let s = axis_bits p.bits in
      let shows = given_shows s axis x y single turn (sym (given_by_lem p.bits turn x y) ∙ g) in
      let a = level_label s (cond turn y x) in
      let b = second_of s axis x y single turn in
      let h : ℕ → ℕ → ℕ = λ j m. halves_for single a b m in
      let sent : turned_if turn (pair_of s single a b) ≡ sent_levels p h format n i z =
      sym (sent_pair h c e ∙ ap (turned_if turn) (halves_pair s single a b c)) in
      record {
        h = h;
        labels = λ m. halves_in_lem single a b (2 ^ s) m shows.first_in shows.second_in;
        first = first_as x sent shows.first;
        second = second_as y sent shows.second;
      }

  pub half_in_lem : (h : ℕ → ℕ) → ((m : ℕ) → h m < 2 ^ axis_bits p.bits) → (t : Bool) (c : ℕ)
      → (first_half t h c < 2 ^ axis_bits p.bits) × (second_half t h c < 2 ^ axis_bits p.bits)
  half_in_lem h label true c = (label c, pow_some (axis_bits p.bits) axis)
  half_in_lem h label false c = (label (2 * c), label (2 * c + 1))

  -- what a data carrier's floats show, where they are of half labels
  pub data_back : (h : ℕ → ℕ → ℕ) (c : ℕ) → use_of p.width z ≡ Data c
      → (first_half single (h i) c < 2 ^ axis_bits p.bits) × (second_half single (h i) c < 2 ^ axis_bits p.bits)
      → to_bits binary32 x ≡ to_bits binary32 (whole (sent_levels p h format n i z).first)
      → to_bits binary32 y ≡ to_bits binary32 (whole (sent_levels p h format n i z).second)
      → Back (axis_bits p.bits) axis x y single turn (first_half single (h i) c) (second_half single (h i) c)
  data_back h c e label first second =
      shows_given (axis_bits p.bits) axis x y single turn (first_half single (h i) c) (second_half single (h i) c)
      (record {
        first_in = label.0;
        second_in = label.1;
        first = first_as x (sent_pair h c e) first;
        second = second_as y (sent_pair h c e) second;
      })

  by_rules : (u : Use) → use_of p.width z ≡ u → GivenByRules p format n i z x y → used_given p format n i turn x y u ≡ true
  by_rules Silent e r = refl
  by_rules (Pilot q) e r =
      let sent = sent_used p fits r.h format n i z (Pilot q) e in
      both_true (eq-eqb _ _ (first_as x sent r.first)) (eq-eqb _ _ (second_as y sent r.second))
  by_rules (Data c) e r =
      given_by_lem p.bits turn x y
      ∙ (data_back r.h c e (half_in_lem (r.h i) r.labels single c) r.first r.second).given

-- a point is given exactly where the rules give it
pub given_by_rules : (p : Plan) → Fits p → (points : List Float) (format n i f : ℕ) → i < p.streams → f < places_of p.width
    → (point_given p points format n i f ≡ true) ↔ PointByRules p points format n i f
given_by_rules p fits points format n i f stream place =
    let w = p.width in
    let z = subcarrier_at w f in
    let x = float_at w points i f 0 in
    let y = float_at w points i f 1 in
    let there = given_as p points format n i f (use_of w z) refl in (
      λ e. rules p fits format n i z x y (use_of w z) refl (place_used_for w fits.width f place).not_silent (there ∙ e),
      λ r. sym there ∙ by_rules p fits format n i z x y (use_of w z) refl r,
    )

-- bits are bits
pub shown_bit_lem : (p : Plan) (points : List Float) (i r : ℕ) → shown_bit p points i r < 2
shown_bit_lem p points i r =
    let f = carrier_place_of p.width (r / p.bits) in
    subst (λ (v : ℕ). v < 2) (sym (shown_at p points i r))
    (point_bit_lem p.bits (upper p.width (subcarrier_at p.width f)) (float_at p.width points i f 0) (float_at p.width points i f 1) (r % p.bits))

-- ---- the search's answer
not_back : (b t : Bool) → not b ≡ t → b ≡ not t
not_back true t e = ap not e
not_back false t e = ap not e

module _ (p : Plan) (points : List Float) (format n : ℕ) where
  abbrev width : ℕ
  width = places_of p.width

  abbrev total : ℕ
  total = p.streams * places_of p.width

  abbrev first : ℕ
  first = first_from (fails_at p points format n) 0 total

  search_first : search_of p points format n ≡ found_at width total first
  unfolding search_of
  search_first = refl

  -- a point that the search passed
  pub passed_at : (i f : ℕ) → f < places_of p.width → fails_at p points format n (i * places_of p.width + f) ≡ false → point_given p points format n i f ≡ true
  passed_at i f l e =
      let k = i * width + f in
      sym (ap₂ (point_given p points format n) (quot_of width i f k l refl) (rem_of width i f k l refl))
      ∙ not_back (point_given p points format n (k / width) (k % width)) false e

  -- what the answer says
  pub search_cases : AllPass p points format n ⊎ FirstFailing p points format n
  search_cases =
      ⊎_elim
      (λ (s : Passing (fails_at p points format n) 0 total first).
      let below : first < total = omega (arith, s.below) in
      let split : first / width * width + first % width ≡ first = div-add-mod' first width in
      inr (record {
        stream = first / width;
        place = first % width;
        found = search_first ∙ ap (λ (b : Bool). cond b (Some ((first / width), (first % width))) None) (lt-ltb first total below);
        stream_in = (div-lt_iff_lt-mul {k = width} (places_some p.width)).1 below;
        place_in = mod-lt first (places_some p.width);
        fails = not_back (point_given p points format n (first / width) (first % width)) true s.passes;
        streams_before = λ i f l u. passed_at i f u (s.first (i * width + f) (omega arith)
            (earlier first split i f l u));
        places_before = λ f l. passed_at (first / width) f (less l (mod-lt first (places_some p.width)))
            (s.first (first / width * width + f) (omega arith) (omega (arith, split)));
      }))
      (λ (s : NonePasses (fails_at p points format n) 0 total first).
      inl (record {
        all_given = search_first ∙ ap (λ (b : Bool). cond b (Some ((first / width), (first % width))) None) (le-ltb first total (omega (arith, s.beyond)));
        passed = λ i f l u. passed_at i f u (s.fails (i * width + f) (omega arith) (in_total (digits_lt l u)));
      }))
      (first_cases (fails_at p points format n) 0 total)
    where
      earlier : (k : ℕ) → k / width * width + k % width ≡ k → (i f : ℕ) → i < k / width → f < width → i * width + f < k
      earlier k split i f l u = omega (arith, digits_lt l u, split)

      less : {a b c : ℕ} → a < b → b < c → a < c
      less l u = omega (arith, l, u)

      in_total : {k : ℕ} → k < total → k < 0 + total
      in_total l = omega (arith, l)

-- ---- a symbol's own floats
doubled : (c s : ℕ) → c * (s + s) ≡ 2 * c * s
doubled c s = omega arith

-- bit r of a stream is bit r % s of half label r / s: of a carrier's only one, or of its first or second
module _ (bits : ℕ) (known : T (among bit_counts bits)) (t : Bool) (x y : Float) (h : ℕ → ℕ) (r : ℕ) where
  abbrev carrier : ℕ
  carrier = r / bits

  abbrev wanted : ℕ
  wanted = bit_of_label (axis_bits bits) (h (r / axis_bits bits)) (r % axis_bits bits)

  digits_of_lem : r ≡ r / bits * bits + r % bits
  digits_of_lem = sym (div-add-mod' r bits)

  rest_in : r % bits < bits
  rest_in = mod-lt r (bits_some bits known)

  next : (c s : ℕ) → (2 * c + 1) * s ≡ 2 * c * s + s
  next c s = omega arith

  only : bits ≡ 1 → first_label bits t x y ≡ h carrier → point_bit bits t x y (r % bits) ≡ wanted
  only e first =
      let same : axis_bits bits ≡ bits = axis_one bits known e ∙ sym e in
      sym (first_bits bits t x y (r % bits) (subst (λ (k : ℕ). r % bits < k) (sym same) rest_in))
      ∙ ap (λ (l : ℕ). bit_of_label (axis_bits bits) l (r % bits)) first
      ∙ ap (λ (k : ℕ). bit_of_label (axis_bits bits) (h (r / k)) (r % k)) (sym same)

  of_two : (bits ≡ 1 → ⊥) → first_label bits t x y ≡ h (2 * carrier) → second_label bits t x y ≡ h (2 * carrier + 1) → point_bit bits t x y (r % bits) ≡ wanted
  of_two n first second = ⊎_elim low high (lt_or_le (r % bits) (axis_bits bits))
    where
      sum : r / bits * bits ≡ 2 * (r / bits) * axis_bits bits
      sum = ap (λ (k : ℕ). r / bits * k) (sym (axis_two bits known n)) ∙ doubled (r / bits) (axis_bits bits)

      low : r % bits < axis_bits bits → point_bit bits t x y (r % bits) ≡ wanted
      low l =
          let e : r ≡ 2 * (r / bits) * axis_bits bits + r % bits = digits_of_lem ∙ ap (λ (k : ℕ). k + r % bits) sum in
          sym (first_bits bits t x y (r % bits) l)
          ∙ ap (λ (v : ℕ). bit_of_label (axis_bits bits) v (r % bits)) first
          ∙ ap₂ (λ (m k : ℕ). bit_of_label (axis_bits bits) (h m) k)
          (sym (quot_of (axis_bits bits) (2 * (r / bits)) (r % bits) r l e)) (sym (rem_of (axis_bits bits) (2 * (r / bits)) (r % bits) r l e))

      high : axis_bits bits ≤ r % bits → point_bit bits t x y (r % bits) ≡ wanted
      high l =
          let k : ℕ = r % bits - axis_bits bits in
          let below : k < axis_bits bits = omega (arith, rest_in, axis_two bits known n) in
          let there : axis_bits bits + k ≡ r % bits = omega arith in
          let e : r ≡ (2 * (r / bits) + 1) * axis_bits bits + k = omega (arith, digits_of_lem, sum, next (r / bits) (axis_bits bits)) in
          ap (point_bit bits t x y) (sym there)
          ∙ sym (second_bits bits t x y k)
          ∙ ap (λ (v : ℕ). bit_of_label (axis_bits bits) v k) second
          ∙ ap₂ (λ (m j : ℕ). bit_of_label (axis_bits bits) (h m) j)
          (sym (quot_of (axis_bits bits) (2 * (r / bits) + 1) k r below e)) (sym (rem_of (axis_bits bits) (2 * (r / bits) + 1) k r below e))

  second_as_read : eqb bits 1 ≡ false → second_label bits t x y ≡ cond t (negated_label (axis_bits bits) x) (level_label (axis_bits bits) y)
  second_as_read e = simp e

  pub pointed : Back (axis_bits bits) (axis_known bits known) x y (eqb bits 1) t (first_half (eqb bits 1) h carrier) (second_half (eqb bits 1) h carrier)
      → point_bit bits t x y (r % bits) ≡ wanted
  pointed back = go (eqb bits 1) refl back.first back.second
    where
      go : (single : Bool) → eqb bits 1 ≡ single → first_label bits t x y ≡ first_half single h carrier
          → (single ≡ false → cond t (negated_label (axis_bits bits) x) (level_label (axis_bits bits) y) ≡ second_half single h carrier)
          → point_bit bits t x y (r % bits) ≡ wanted
      go true e first second = only (eqb-true bits 1 e) first
      go false e first second = of_two (eqb-false bits 1 e) first (second_as_read e ∙ second refl)

-- half labels below the stream's count, and 0 beyond it
abbrev cut : (count : ℕ) (h : ℕ → ℕ → ℕ) → ℕ → ℕ → ℕ
cut count h i m = cond (ltb m count) (h i m) 0

cut_same : (count : ℕ) (h : ℕ → ℕ → ℕ) (i m : ℕ) → m < count → h i m ≡ cut count h i m
cut_same count h i m l = sym (ap (λ (b : Bool). cond b (h i m) 0) (lt-ltb m count l))

cut_in : (count n : ℕ) (h : ℕ → ℕ → ℕ) (i m : ℕ) → 0 < n → (m < count → h i m < n) → cut count h i m < n
cut_in count n h i m some label = go (ltb m count) refl
  where
    go : (b : Bool) → ltb m count ≡ b → cond b (h i m) 0 < n
    go true e = label (ltb-true m count e)
    go false e = some

module _ (p : Plan) (fits : Fits p) (h : ℕ → ℕ → ℕ) (points : List Float) (format n : ℕ) (own : FloatsOf p h points format n) where
  abbrev all : ℕ → ℕ → ℕ
  all = cut (halves_of p) h

  label_all : (i : ℕ) → i < p.streams → (m : ℕ) → all i m < 2 ^ axis_bits p.bits
  label_all i stream m =
      cut_in (halves_of p) (2 ^ axis_bits p.bits) h i m (pow_some (axis_bits p.bits) (axis_known p.bits fits.bits)) (own.label i m stream)

  -- the bits of a place's floats
  float_bits : (i f a : ℕ) → i < p.streams → f < places_of p.width → a < 2
      → to_bits binary32 (float_at p.width points i f a) ≡ to_bits binary32 (whole (axis_level (sent_levels p all format n i (subcarrier_at p.width f)) a))
  float_bits i f a stream place l =
      let g = i * stream_floats p.width + (2 * f + a) in
      let inside : g < p.streams * stream_floats p.width = digits_lt stream (omega arith) in
      own.floats g inside
      ∙ ap (to_bits binary32) (symbol_ext p fits h all format n (λ j m s u. cut_same (halves_of p) h j m u) g inside
      ∙ symbol_at_lem p fits all format n i f a place l)

  rules_own : (i f : ℕ) → i < p.streams → f < places_of p.width → PointByRules p points format n i f
  rules_own i f stream place = record {
    h = all;
    labels = label_all i stream;
    first = float_bits i f 0 stream place (omega arith);
    second = float_bits i f 1 stream place (omega arith);
  }

  -- a half label of a bit of the block is one of the stream's
  half_below : (r : ℕ) → r < p.block → r / axis_bits p.bits < halves_of p
  half_below r l = go (eqb p.bits 1) refl
    where
      some : 0 < axis_bits p.bits
      some = axis_some p.bits fits.bits

      go : (single : Bool) → eqb p.bits 1 ≡ single → r / axis_bits p.bits < halves_of p
      go true e =
          let b : p.bits ≡ 1 = eqb-true p.bits 1 e in
          let size : p.block ≡ p.carriers * axis_bits p.bits =
          fits.block_is ∙ ap (λ (k : ℕ). p.carriers * k) (b ∙ sym (axis_one p.bits fits.bits b)) in
          subst (λ (k : ℕ). r / axis_bits p.bits < k) (sym (halves_one p fits b))
          ((div-lt_iff_lt-mul {k = axis_bits p.bits} some).1 (subst (λ (k : ℕ). r < k) size l))
      go false e =
          let b : p.bits ≡ 1 → ⊥ = eqb-false p.bits 1 e in
          let size : p.block ≡ 2 * p.carriers * axis_bits p.bits =
          fits.block_is ∙ ap (λ (k : ℕ). p.carriers * k) (sym (axis_two p.bits fits.bits b))
          ∙ doubled p.carriers (axis_bits p.bits) in
          subst (λ (k : ℕ). r / axis_bits p.bits < k) (sym (halves_two p fits b))
          ((div-lt_iff_lt-mul {k = axis_bits p.bits} some).1 (subst (λ (k : ℕ). r < k) size l))

  -- the floats of half labels are given, and show the half labels' bits
  pub shown_back : ShownBack p h points format n
  shown_back = record {
    given = λ i f stream place. (given_by_rules p fits points format n i f stream place).1 (rules_own i f stream place);
    shown = λ i r stream l.
        let w = p.width in
        let c = r / p.bits in
        let f = carrier_place_of w c in
        let carrier = carrier_of_lem p points format n fits r l in
        let place = carrier_place_in w fits.width c carrier in
        let x = float_at w points i f 0 in
        let y = float_at w points i f 1 in
        let z = subcarrier_at w f in
        shown_at p points i r
        ∙ pointed p.bits fits.bits (upper w z) x y (all i) r
        (data_back p fits format n i z x y all c (carrier_place_use w fits.width c carrier)
        (half_in_lem p fits format n i z x y (all i) (label_all i stream) (eqb p.bits 1) c)
        (float_bits i f 0 stream place (omega arith)) (float_bits i f 1 stream place (omega arith)))
        ∙ ap (λ (v : ℕ). bit_of_label (axis_bits p.bits) v (r % axis_bits p.bits))
        (sym (cut_same (halves_of p) h i (r / axis_bits p.bits) (half_below r l)));
  }
