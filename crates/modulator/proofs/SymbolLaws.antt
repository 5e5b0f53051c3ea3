-- The points of a symbol: which half labels they come from, and that they tell half labels apart. Assumes nothing.
use Rattle.std.proofs.Common.{◌≡◌, ◌∙◌, refl, sym, ap, ap₂, Bool, true, false, cond, ℕ, zero, suc, ◌+◌, ◌*◌, ◌/◌, ◌%◌, ◌^◌, ◌<◌, mod-lt}
use Rattle.std.proofs.Common.{div-lt_iff_lt-mul, arith, eqb-true, eqb, ℤ, pos}
use borrow.Author.Tests.{eqb-false}
use lib.Arith.{digits_lt}
use lib.Ieee.{binary32, to_bits}
use Rattle.laws.proofs.Radix.{rem_of, quot_of}
use Rattle.chain.specs.declared.plan.Plan.{Plan}
use Rattle.chain.specs.Plan.{carriers_of, Fits}
use Rattle.chain.specs.Parser.{axis_bits}
use Rattle.chain.specs.Labels.{halves_of}
use Rattle.chain.proofs.Counts.{axis_known}
use Rattle.mapper.specs.Levels.{whole, level_of, Levels, levels, carrier_levels}
use Rattle.mapper.specs.Mapped.{Small}
use Rattle.mapper.proofs.CarrierLaws.{halves_one, halves_two, carrier_ext}
use Rattle.mapper.proofs.LevelLaws.{carrier_small, turned_small, level_told, neg_told, whole_told}
use Rattle.subcarriers.specs.declared.layout.Use.{Use}
use Rattle.subcarriers.specs.declared.layout.Use.TheVariants.{Silent, Pilot, Data}
use Rattle.subcarriers.specs.Subcarriers.{use_of, places_of, subcarrier_at, Inside, upper, UseRight, CarrierPlace}
use Rattle.subcarriers.proofs.SubcarrierLaws.{use_right, place_used_for, carrier_place}
use Rattle.pilots.specs.Pilots.{pilot_sign}
use Rattle.modulator.specs.Symbol.{used_levels, carried_levels, turned_if, sent_levels, axis_level, stream_level, stream_floats, symbol_float}
use Rattle.modulator.specs.Shown.{LabelShown}

axis_one : 1 ≡ axis_bits 1
unfolding axis_bits
axis_one = refl

-- the carrier that half label m is of, and the axis of its point
abbrev carrier_of : (bits m : ℕ) → ℕ
carrier_of bits m = cond (eqb bits 1) m (m / 2)

abbrev half_axis : (bits m : ℕ) → ℕ
half_axis bits m = cond (eqb bits 1) 0 (m % 2)

-- the level at one axis of two
level_of_two : (s : ℕ) (f : ℕ → ℕ) (m c a : ℕ) → a < 2 → 2 * c + a ≡ m
    → axis_level (levels (level_of s (f (2 * c))) (level_of s (f (2 * c + 1)))) a ≡ level_of s (f m)
level_of_two s f m c zero l e = ap (λ (k : ℕ). level_of s (f k)) (omega (arith, e))
level_of_two s f m c (suc zero) l e = ap (λ (k : ℕ). level_of s (f k)) e
level_of_two s f m c (suc (suc a)) l e = absurd (omega (arith, l))

-- the level of half label m stands at its axis of its carrier's point
half_level : (bits : ℕ) (f : ℕ → ℕ) (m : ℕ)
    → axis_level (carrier_levels bits f (carrier_of bits m)) (half_axis bits m) ≡ level_of (axis_bits bits) (f m)
unfolding carrier_levels
half_level bits f m = go (eqb bits 1) refl
  where
    go : (t : Bool) → eqb bits 1 ≡ t
        → axis_level (cond t (levels (level_of 1 (f (cond t m (m / 2)))) (pos 0))
        (levels (level_of (axis_bits bits) (f (2 * cond t m (m / 2)))) (level_of (axis_bits bits) (f (2 * cond t m (m / 2) + 1))))) (cond t 0 (m % 2))
        ≡ level_of (axis_bits bits) (f m)
    go true e = ap (λ (s : ℕ). level_of s (f m)) (axis_one ∙ ap axis_bits (sym (eqb-true bits 1 e)))
    go false e = level_of_two (axis_bits bits) f m (m / 2) (m % 2) (omega arith) (omega arith)

-- an axis is the first or the second
axis_in : (bits m : ℕ) → half_axis bits m < 2
axis_in bits m = go (eqb bits 1)
  where
    go : (t : Bool) → cond t 0 (m % 2) < 2
    go true = omega arith
    go false = omega arith

-- where a level stands after the turn
abbrev turned_axis : Bool → ℕ → ℕ
turned_axis true zero = 1
turned_axis true (suc a) = 0
turned_axis false a = a

turned_axis_lem : (t : Bool) (a : ℕ) → a < 2 → turned_axis t a < 2
turned_axis_lem true zero l = omega arith
turned_axis_lem true (suc a) l = omega arith
turned_axis_lem false a l = l

-- small levels whose floats have the same bits are equal
module _ (l l' : Levels) (small : Small l) (small' : Small l') where
  first_told : to_bits binary32 (whole l.first) ≡ to_bits binary32 (whole l'.first) → l.first ≡ l'.first
  first_told = whole_told l.first l'.first small.first small'.first

  second_told : to_bits binary32 (whole l.second) ≡ to_bits binary32 (whole l'.second) → l.second ≡ l'.second
  second_told = whole_told l.second l'.second small.second small'.second

  -- at each axis of a point
  point_told : (a : ℕ) → to_bits binary32 (whole l.first) ≡ to_bits binary32 (whole l'.first)
      → to_bits binary32 (whole l.second) ≡ to_bits binary32 (whole l'.second) → axis_level l a ≡ axis_level l' a
  point_told zero e e' = first_told e
  point_told (suc a) e e' = second_told e'

-- and after the turn
sent_told : (t : Bool) (a : ℕ) (l l' : Levels) → Small l → Small l'
    → to_bits binary32 (whole (axis_level (turned_if t l) (turned_axis t a))) ≡ to_bits binary32 (whole (axis_level (turned_if t l') (turned_axis t a)))
    → axis_level l a ≡ axis_level l' a
sent_told true zero l l' s s' e = first_told l l' s s' e
sent_told true (suc a) l l' s s' e =
    neg_told l.second l'.second
    (whole_told _ _ (turned_small l s).first (turned_small l' s').first e)
sent_told false zero l l' s s' e = first_told l l' s s' e
sent_told false (suc a) l l' s s' e = second_told l l' s s' e

-- what a use puts on a subcarrier, by the carriers of the width
used_ext : (width : ℕ) (sign : ℕ → ℤ) (k k' : ℕ → Levels) (u : Use) → UseRight width u → ((c : ℕ) → c < carriers_of width → k c ≡ k' c)
    → used_levels sign k u ≡ used_levels sign k' u
used_ext width sign k k' Silent right same = refl
used_ext width sign k k' (Pilot q) right same = refl
used_ext width sign k k' (Data c) right same = same c right

-- the float of an axis of a place is one of its stream
axis_below : (f axis places : ℕ) → f < places → axis < 2 → 2 * f + axis < 2 * places
axis_below f axis places l k = omega arith

place_below : (r places : ℕ) → r < 2 * places → r / 2 < places
place_below r places l = omega arith

axis_place : (f axis : ℕ) → axis < 2 → ((2 * f + axis) / 2 ≡ f) × ((2 * f + axis) % 2 ≡ axis)
axis_place f axis l = (omega arith, omega arith)

floats_some : (b : Bool) → 0 < 2 * cond b 114 56
floats_some true = omega arith
floats_some false = omega arith

-- float g of stream i in the symbol
pub stream_float : (p : Plan) (h : ℕ → ℕ → ℕ) (format n i g : ℕ) → g < stream_floats p.width
    → symbol_float p h format n (i * stream_floats p.width + g) ≡ whole (stream_level p h format n i g)
unfolding symbol_float
stream_float p h format n i g l =
    let floats = stream_floats p.width in
    ap₂ (λ (j k : ℕ). whole (stream_level p h format n j k)) (quot_of floats i g (i * floats + g) l refl) (rem_of floats i g (i * floats + g) l refl)

module _ (p : Plan) (fits : Fits p) where
  -- each half label of the stream is one of a carrier
  half_carrier : (m : ℕ) → m < halves_of p → (p.bits ≡ 1 → m < p.carriers) × ((p.bits ≡ 1 → ⊥) → m / 2 < p.carriers)
  half_carrier m l = (λ e. rw (halves_one p fits e) at l, λ n. place_below m p.carriers (rw (halves_two p fits n) at l))

  carrier_of_lem : (m : ℕ) → m < halves_of p → carrier_of p.bits m < p.carriers
  carrier_of_lem m l = go (eqb p.bits 1) refl
    where
      go : (t : Bool) → eqb p.bits 1 ≡ t → cond t m (m / 2) < p.carriers
      go true e = (half_carrier m l).0 (eqb-true p.bits 1 e)
      go false e = (half_carrier m l).1 (eqb-false p.bits 1 e)

  -- what a stream carries on a subcarrier of the channel comes from its half labels
  pub carried_ext : (h h' : ℕ → ℕ → ℕ) (format n i : ℕ) (z : ℤ) → Inside p.width z → ((m : ℕ) → m < halves_of p → h i m ≡ h' i m)
      → carried_levels p h format n i z ≡ carried_levels p h' format n i z
  unfolding carried_levels
  carried_ext h h' format n i z inside same =
      used_ext p.width (pilot_sign p.width p.streams format n i) (carrier_levels p.bits (h i)) (carrier_levels p.bits (h' i))
      (use_of p.width z) (use_right p.width fits.width z inside)
      (λ c l. carrier_ext p fits (h i) (h' i) c (rw fits.carriers_is l) same)

  -- the levels and the floats, each by the definition under it
  sent_is : (h : ℕ → ℕ → ℕ) (format n i : ℕ) (z : ℤ) → sent_levels p h format n i z ≡ turned_if (upper p.width z) (carried_levels p h format n i z)
  unfolding sent_levels
  sent_is h format n i z = refl

  -- what is sent on a subcarrier of a use
  pub sent_used : (h : ℕ → ℕ → ℕ) (format n i : ℕ) (z : ℤ) (u : Use) → use_of p.width z ≡ u
      → sent_levels p h format n i z
      ≡ turned_if (upper p.width z) (used_levels (pilot_sign p.width p.streams format n i) (carrier_levels p.bits (h i)) u)
  unfolding carried_levels
  sent_used h format n i z u e =
      sent_is h format n i z
      ∙ ap (λ (v : Use). turned_if (upper p.width z) (used_levels (pilot_sign p.width p.streams format n i) (carrier_levels p.bits (h i)) v)) e

  level_is : (h : ℕ → ℕ → ℕ) (format n i r : ℕ)
      → stream_level p h format n i r ≡ axis_level (sent_levels p h format n i (subcarrier_at p.width (r / 2))) (r % 2)
  unfolding stream_level
  level_is h format n i r = refl

  float_is : (h : ℕ → ℕ → ℕ) (format n g : ℕ)
      → symbol_float p h format n g ≡ whole (stream_level p h format n (g / stream_floats p.width) (g % stream_floats p.width))
  unfolding symbol_float
  float_is h format n g = refl

  -- the float of an axis of place f of stream i
  pub symbol_at_lem : (h : ℕ → ℕ → ℕ) (format n i f axis : ℕ) → f < places_of p.width → axis < 2
      → symbol_float p h format n (i * stream_floats p.width + (2 * f + axis))
      ≡ whole (axis_level (sent_levels p h format n i (subcarrier_at p.width f)) axis)
  symbol_at_lem h format n i f axis l k =
      let floats = stream_floats p.width in
      let r = 2 * f + axis in
      let below : r < floats = axis_below f axis (places_of p.width) l k in
      let at = axis_place f axis k in
      stream_float p h format n i r below
      ∙ rw (level_is h format n i r, at.0, at.1)

  -- the levels of a stream come from its half labels
  stream_ext : (h h' : ℕ → ℕ → ℕ) (format n i r : ℕ) → ((m : ℕ) → m < halves_of p → h i m ≡ h' i m) → r < stream_floats p.width
      → stream_level p h format n i r ≡ stream_level p h' format n i r
  stream_ext h h' format n i r same l =
      let z : ℤ = subcarrier_at p.width (r / 2) in
      let used = place_used_for p.width fits.width (r / 2) (place_below r (places_of p.width) l) in
      level_is h format n i r
      ∙ ap (λ (v : Levels). axis_level v (r % 2))
      (sent_is h format n i z ∙ ap (turned_if (upper p.width z)) (carried_ext h h' format n i z used.inside same) ∙ sym (sent_is h' format n i z))
      ∙ sym (level_is h' format n i r)

  -- the floats of a symbol come from its half labels
  pub symbol_ext : (h h' : ℕ → ℕ → ℕ) (format n : ℕ) → ((i m : ℕ) → i < p.streams → m < halves_of p → h i m ≡ h' i m)
      → (g : ℕ) → g < p.streams * stream_floats p.width → symbol_float p h format n g ≡ symbol_float p h' format n g
  symbol_ext h h' format n same g l =
      let floats = stream_floats p.width in
      let some = floats_some (eqb p.width 40) in
      float_is h format n g
      ∙ ap whole (stream_ext h h' format n (g / floats) (g % floats) (λ m k. same (g / floats) m ((div-lt_iff_lt-mul {k = floats} some).1 l) k) (mod-lt g some))
      ∙ sym (float_is h' format n g)

  -- pilots do not depend on half labels
  pub pilot_same : (h h' : ℕ → ℕ → ℕ) (format n i f q axis : ℕ) → f < places_of p.width → axis < 2
      → use_of p.width (subcarrier_at p.width f) ≡ Pilot q
      → symbol_float p h format n (i * stream_floats p.width + (2 * f + axis))
      ≡ symbol_float p h' format n (i * stream_floats p.width + (2 * f + axis))
  pilot_same h h' format n i f q axis l k e =
      let z : ℤ = subcarrier_at p.width f in
      symbol_at_lem h format n i f axis l k
      ∙ ap (λ (v : Levels). whole (axis_level v axis)) (sent_used h format n i z (Pilot q) e ∙ sym (sent_used h' format n i z (Pilot q) e))
      ∙ sym (symbol_at_lem h' format n i f axis l k)

  -- the bits of data carrier c's float at an axis of its place
  data_bits : (h : ℕ → ℕ → ℕ) (format n i c axis : ℕ) (at : CarrierPlace p.width c) → axis < 2
      → to_bits binary32 (symbol_float p h format n (i * stream_floats p.width + (2 * at.place + axis)))
      ≡ to_bits binary32 (whole (axis_level (turned_if (upper p.width (subcarrier_at p.width at.place)) (carrier_levels p.bits (h i) c)) axis))
  data_bits h format n i c axis at k =
      ap (to_bits binary32) (symbol_at_lem h format n i at.place axis at.inside k
      ∙ ap (λ (v : Levels). whole (axis_level v axis)) (sent_used h format n i (subcarrier_at p.width at.place) (Data c) at.carries))

  -- a half label that differs differs in its carrier's point and in a float of the symbol
  pub label_shown : (h h' : ℕ → ℕ → ℕ) (format n i m : ℕ) → i < p.streams → m < halves_of p
      → ((m : ℕ) → h i m < 2 ^ axis_bits p.bits) → ((m : ℕ) → h' i m < 2 ^ axis_bits p.bits)
      → (h i m ≡ h' i m → ⊥) → LabelShown p h h' format n i
  label_shown h h' format n i m stream half label label' differ =
      let c : ℕ = carrier_of p.bits m in
      let a : ℕ = half_axis p.bits m in
      let below : c < p.carriers = carrier_of_lem m half in
      let at : CarrierPlace p.width c = carrier_place p.width fits.width c (rw fits.carriers_is at below) in
      let turned : Bool = upper p.width (subcarrier_at p.width at.place) in
      let axis : ℕ = turned_axis turned a in
      let one_of_two : axis < 2 = turned_axis_lem turned a (axis_in p.bits m) in
      let here : Levels = carrier_levels p.bits (h i) c in
      let there : Levels = carrier_levels p.bits (h' i) c in
      let told : axis_level here a ≡ axis_level there a → ⊥ = λ e.
      differ (level_told (axis_bits p.bits) (h i m) (h' i m) (axis_known p.bits fits.bits) (label m) (label' m)
      (sym (half_level p.bits (h i) m) ∙ e ∙ half_level p.bits (h' i) m)) in
      record {
        carrier = c;
        carrier_in = below;
        points_differ = λ e e'. told (point_told here there (carrier_small p.bits (h i) c) (carrier_small p.bits (h' i) c) a e e');
        float = i * stream_floats p.width + (2 * at.place + axis);
        float_in = digits_lt stream
            (axis_below at.place axis (places_of p.width) at.inside one_of_two);
        floats_differ = λ e. told (sent_told turned a here there (carrier_small p.bits (h i) c) (carrier_small p.bits (h' i) c)
            (sym (data_bits h format n i c axis at one_of_two) ∙ e ∙ data_bits h' format n i c axis at one_of_two));
      }
