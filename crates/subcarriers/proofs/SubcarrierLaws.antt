-- The layout's laws: each a claim computed at both widths and every subcarrier, place or data carrier. Assumes nothing.
use Rattle.std.proofs.Common.{◌≡◌, refl, sym, ap, subst, Bool, true, false, cond, Option, Some, None, ◌++◌, [], ◌∷◌, ℕ, ◌+◌, ◌-◌, ◌*◌}
use Rattle.std.proofs.Common.{◌<◌, ◌≤◌, arith, T, eqb, ltb, eqb→eq, length, get_or, ℤ, pos, negsuc, ltb-true, ltb-false, lt-ltb}
use Rattle.std.proofs.Common.{le-ltb}
use Rattle.laws.specs.Test.{among, either_elim}
use Rattle.laws.specs.Integers.{minus, counted}
use Rattle.laws.specs.Claim.{Claim, ◌is◌, ◌under◌, ◌and◌, up_to, each, given, Holds, sound}
use Rattle.laws.proofs.Integers.{counted_same}
use Rattle.laws.proofs.Reflect.{or_false}
use Rattle.chain.specs.Plan.{widths, carriers_of}
use Rattle.subcarriers.specs.declared.layout.Use.{Use}
use Rattle.subcarriers.specs.declared.layout.Use.TheVariants.{Silent, Pilot, Data}
use Rattle.subcarriers.specs.Subcarriers.{used_subcarriers, pilot_subcarriers, data_subcarriers, rising, place_in, place_found, use_of}
use Rattle.subcarriers.specs.Subcarriers.{places_of, subcarrier_at, pilots_of, outside, Inside, subcarrier_from, UseRight, PlaceUsed}
use Rattle.subcarriers.specs.Subcarriers.{CarrierPlace}

-- a test as a number
abbrev pub one : Bool → ℕ
one true = 1
one false = 0

-- no two tests have the same number
pub one_same : (a b : Bool) → one a ≡ one b → a ≡ b
one_same true true e = refl
one_same true false e = absurd (omega (arith, e))
one_same false true e = absurd (omega (arith, e))
one_same false false e = refl

-- a use as a number
abbrev pub code : Use → ℕ
code Silent = 0
code (Pilot q) = 1 + 2 * q
code (Data c) = 2 + 2 * c

-- no two uses have the same number
pub code_same : (a b : Use) → code a ≡ code b → a ≡ b
code_same Silent Silent e = refl
code_same Silent (Pilot q) e = absurd (omega (arith, e))
code_same Silent (Data c) e = absurd (omega (arith, e))
code_same (Pilot p) Silent e = absurd (omega (arith, e))
code_same (Pilot p) (Pilot q) e = ap Pilot (omega (arith, e))
code_same (Pilot p) (Data c) e = absurd (omega (arith, e))
code_same (Data d) Silent e = absurd (omega (arith, e))
code_same (Data d) (Pilot q) e = absurd (omega (arith, e))
code_same (Data d) (Data c) e = ap Data (omega (arith, e))

-- the index that a subcarrier of the channel is counted by
abbrev pub index_of : ℤ → ℕ
index_of (pos n) = n + 64
index_of (negsuc n) = 63 - n

inside_pos : (n : ℕ) → Inside 40 (pos n) → n < 64
inside_pos n e = omega (arith, ltb-false 63 n e)

inside_neg : (n : ℕ) → Inside 40 (negsuc n) → n < 64
inside_neg n e = omega (arith, ltb-false 63 n (or_false (ltb 63 n) false e).0)

-- the index is below 128, and its subcarrier is the one that was given
pub index_small : (z : ℤ) → Inside 40 z → index_of z < 128
index_small (pos n) e = omega (arith, inside_pos n e)
index_small (negsuc n) e = omega arith

abbrev index_claim : Claim
index_claim = up_to 64 λ n.
    counted (subcarrier_from (n + 64)) is counted (pos n)
    and counted (subcarrier_from (63 - n)) is counted (negsuc n)

indexes : Holds index_claim
indexes = sound index_claim tt

pub index_back : (z : ℤ) → Inside 40 z → subcarrier_from (index_of z) ≡ z
index_back (pos n) e = counted_same (subcarrier_from (n + 64)) (pos n) (indexes n (inside_pos n e)).0
index_back (negsuc n) e = counted_same (subcarrier_from (63 - n)) (negsuc n) (indexes n (inside_neg n e)).1

-- a fact of both widths
pub by_width : (P : ℕ → Type 0) → P 20 → P 40 → (width : ℕ) → T (among widths width) → P width
by_width P narrow broad width h =
    either_elim (P width) (eqb width 20) (among (40 ∷ []) width) h (λ e. subst P (sym (eqb→eq width 20 e)) narrow)
    (λ l. either_elim (P width) (eqb width 40) false l (λ e. subst P (sym (eqb→eq width 40 e)) broad) (λ n. absurd n))

narrow_inside : (z : ℤ) → Inside 20 z → Inside 40 z
narrow_inside (pos n) e = le-ltb 63 n (omega (arith, ltb-false 31 n e))
narrow_inside (negsuc n) e = simp (le-ltb 63 n (omega (arith, ltb-false 31 n (or_false (ltb 31 n) false e).0)))

-- a subcarrier of a channel is one of the wider
pub inside_wide : (width : ℕ) → T (among widths width) → (z : ℤ) → Inside width z → Inside 40 z
inside_wide = by_width (λ (w : ℕ). (z : ℤ) → Inside w z → Inside 40 z) narrow_inside (λ z e. e)

-- what is claimed of a use
abbrev right_use : (width : ℕ) → Use → Claim
right_use width Silent = 0 is 0
right_use width (Pilot q) = q under pilots_of width
right_use width (Data c) = c under carriers_of width

right_use_lem : (width : ℕ) (u : Use) → Holds (right_use width u) → UseRight width u
right_use_lem width Silent h = tt
right_use_lem width (Pilot q) h = h
right_use_lem width (Data c) h = h

-- at both widths and each of 128 subcarriers: its use, and the subcarrier at its place, or silence where it has none
abbrev subcarrier_claim : Claim
subcarrier_claim = each widths λ w. up_to 128 λ k.
    let z : ℤ = subcarrier_from k in
    let f : ℕ = place_in (used_subcarriers w) z in
    right_use w (use_of w z)
    and given (one (ltb f (places_of w))) 1 (counted (subcarrier_at w f) is counted z)
    and given (one (ltb f (places_of w))) 0 (code (use_of w z) is 0)

subcarriers : Holds subcarrier_claim
unfolding used_subcarriers pilot_subcarriers data_subcarriers use_of subcarrier_at
subcarriers = sound subcarrier_claim tt

-- what holds at every index holds of every subcarrier of a channel
at_index : (P : ℤ → Type 0) → ((k : ℕ) → k < 128 → P (subcarrier_from k)) → (width : ℕ) → T (among widths width) → (z : ℤ) → Inside width z → P z
at_index P every width h z inside =
    let i = inside_wide width h z inside in
    subst P (index_back z i) (every (index_of z) (index_small z i))

-- the pilot or the data carrier of every subcarrier of a channel is one of the width's
pub use_right : (width : ℕ) → T (among widths width) → (z : ℤ) → Inside width z → UseRight width (use_of width z)
use_right width h =
    at_index (λ (z : ℤ). UseRight width (use_of width z)) (λ k l. right_use_lem width (use_of width (subcarrier_from k)) (subcarriers width h k l).0) width h

placed : (width : ℕ) → T (among widths width) → (k : ℕ) → k < 128
    → place_in (used_subcarriers width) (subcarrier_from k) < places_of width
    → subcarrier_at width (place_in (used_subcarriers width) (subcarrier_from k)) ≡ subcarrier_from k
placed width h k l b =
    let f : ℕ = place_in (used_subcarriers width) (subcarrier_from k) in
    counted_same (subcarrier_at width f) (subcarrier_from k) ((subcarriers width h k l).1.0 (ap one (lt-ltb f (places_of width) b)))

-- a used subcarrier stands at its place
pub place_used : (width : ℕ) → T (among widths width) → (z : ℤ) → Inside width z
    → place_in (used_subcarriers width) z < places_of width → subcarrier_at width (place_in (used_subcarriers width) z) ≡ z
place_used width h =
    at_index (λ (z : ℤ). place_in (used_subcarriers width) z < places_of width → subcarrier_at width (place_in (used_subcarriers width) z) ≡ z)
    (placed width h) width h

-- so the use of the subcarrier at its place is its own
pub use_at_place : (width : ℕ) → T (among widths width) → (z : ℤ) → Inside width z → (f : ℕ) → f ≡ place_in (used_subcarriers width) z
    → f < places_of width → use_of width (subcarrier_at width f) ≡ use_of width z
use_at_place width h z inside f e l = ap (use_of width) (rw e (place_used width h z inside (rw e at l)))

silent : (width : ℕ) → T (among widths width) → (k : ℕ) → k < 128
    → places_of width ≤ place_in (used_subcarriers width) (subcarrier_from k) → use_of width (subcarrier_from k) ≡ Silent
silent width h k l b =
    let f : ℕ = place_in (used_subcarriers width) (subcarrier_from k) in
    code_same (use_of width (subcarrier_from k)) Silent ((subcarriers width h k l).1.1 (ap one (le-ltb f (places_of width) b)))

-- one with no place is silent
pub unused_silent : (width : ℕ) → T (among widths width) → (z : ℤ) → Inside width z
    → places_of width ≤ place_in (used_subcarriers width) z → use_of width z ≡ Silent
unused_silent width h =
    at_index (λ (z : ℤ). places_of width ≤ place_in (used_subcarriers width) z → use_of width z ≡ Silent) (silent width h) width h

-- the numbers of places, pilots and data carriers are those of the lists
abbrev pub sizes_claim : Claim
sizes_claim = each widths λ w.
    length (used_subcarriers w) is places_of w and length (pilot_subcarriers w) is pilots_of w and length (data_subcarriers w) is carriers_of w

pub sizes_are : Holds sizes_claim
unfolding used_subcarriers pilot_subcarriers data_subcarriers
sizes_are = sound sizes_claim tt

-- a place that is found is below the length of the list, and where none is found there is none
found_at : (n m f : ℕ) → cond (ltb n m) (Some n) None ≡ Some f → (f ≡ n) × (n < m)
found_at n m f e = go (ltb n m) refl e
  where
    go : (b : Bool) → ltb n m ≡ b → cond b (Some n) None ≡ Some f → (f ≡ n) × (n < m)
    go true t e = (cc, ltb-true n m t)
    go false t e = absurd (cc)

found_none : (n m : ℕ) → cond (ltb n m) (Some n) None ≡ None → m ≤ n
found_none n m e = go (ltb n m) refl e
  where
    go : (b : Bool) → ltb n m ≡ b → cond b (Some n) None ≡ None → m ≤ n
    go true t e = absurd (cc)
    go false t e = ltb-false n m t

-- the use of a subcarrier, by its place
module _ (width : ℕ) (h : T (among widths width)) (z : ℤ) (inside : Inside width z) where
  found : (f : ℕ) → place_found (used_subcarriers width) z ≡ Some f → (f ≡ place_in (used_subcarriers width) z) × (f < places_of width)
  found f e = let k = found_at _ _ f e in (k.0, rw k.0 (rw (sizes_are width h).0 at k.1))

  pub found_below : (f : ℕ) → place_found (used_subcarriers width) z ≡ Some f → f < places_of width
  found_below f e = (found f e).1

  pub found_use : (f : ℕ) → place_found (used_subcarriers width) z ≡ Some f → use_of width (subcarrier_at width f) ≡ use_of width z
  found_use f e = use_at_place width h z inside f (found f e).0 (found f e).1

  pub lost_silent : place_found (used_subcarriers width) z ≡ None → Silent ≡ use_of width z
  lost_silent e = sym (unused_silent width h z inside (rw (sizes_are width h).0 at (found_none _ _ e)))

-- the used indexes of a width: low up to gap, and above up to top, which have so many skipped below them
abbrev pub Bounds : Type 0
Bounds = ℕ × ℕ × ℕ × ℕ × ℕ

abbrev pub bounds_of : (width : ℕ) → Bounds
bounds_of width = cond (eqb width 40) (6, 63, 66, 123, 9) (36, 64, 65, 93, 37)

-- x is the place of index k among the used ones
pub record Ranged (b : Bounds) (k : ℕ) (x : Option ℕ) : Type 0 where
  pub below : k < b.0 → None ≡ x
  pub lower : b.0 ≤ k → k < b.1 → Some (k - b.0) ≡ x
  pub between : b.1 ≤ k → k < b.2 → None ≡ x
  pub upper : b.2 ≤ k → k < b.3 → Some (k - b.4) ≡ x
  pub beyond : b.3 ≤ k → None ≡ x

-- a number or none, as a number
abbrev pub found_code : Option ℕ → ℕ
found_code None = 0
found_code (Some f) = 1 + f

pub found_same : (a b : Option ℕ) → found_code a ≡ found_code b → a ≡ b
found_same None None e = refl
found_same None (Some f) e = absurd (omega (arith, e))
found_same (Some f) None e = absurd (omega (arith, e))
found_same (Some f) (Some g) e = ap Some (omega (arith, e))

abbrev found_is : Option ℕ → Option ℕ → Claim
found_is a b = found_code a is found_code b

abbrev ranged_claim : (b : Bounds) (k : ℕ) (x : Option ℕ) → Claim
ranged_claim b k x =
    given (one (ltb k b.0)) 1 (found_is None x)
    and given (one (ltb k b.0)) 0 (given (one (ltb k b.1)) 1 (found_is (Some (k - b.0)) x))
    and given (one (ltb k b.1)) 0 (given (one (ltb k b.2)) 1 (found_is None x))
    and given (one (ltb k b.2)) 0 (given (one (ltb k b.3)) 1 (found_is (Some (k - b.4)) x))
    and given (one (ltb k b.3)) 0 (found_is None x)

ranged : (b : Bounds) (k : ℕ) (x : Option ℕ) → Holds (ranged_claim b k x) → Ranged b k x
ranged b k x h =
    record {
      below = λ l. found_same _ _ (h.0 (ap one (lt-ltb k b.0 l)));
      lower = λ g l. found_same _ _ (h.1.0 (ap one (le-ltb k b.0 g)) (ap one (lt-ltb k b.1 l)));
      between = λ g l. found_same _ _ (h.1.1.0 (ap one (le-ltb k b.1 g)) (ap one (lt-ltb k b.2 l)));
      upper = λ g l. found_same _ _ (h.1.1.1.0 (ap one (le-ltb k b.2 g)) (ap one (lt-ltb k b.3 l)));
      beyond = λ g. found_same _ _ (h.1.1.1.1 (ap one (le-ltb k b.3 g)));
    }

abbrev form_claim : (width : ℕ) → Claim
form_claim width = up_to 128 λ k. ranged_claim (bounds_of width) k (place_found (used_subcarriers width) (subcarrier_from k))

wide_form : Holds (form_claim 40)
unfolding used_subcarriers
wide_form = sound (form_claim 40) tt

narrow_form : Holds (form_claim 20)
unfolding used_subcarriers
narrow_form = sound (form_claim 20) tt

-- the place of a subcarrier by its index
pub form : (width k : ℕ) (b : Bounds) → b ≡ bounds_of width → k < 128
    → Ranged b k (place_found (used_subcarriers width) (subcarrier_from k))
unfolding used_subcarriers
form width k b e l = rw e (ranged _ k _ (go (eqb width 40)))
  where
    go : (wide : Bool) → Holds (ranged_claim (cond wide (6, 63, 66, 123, 9) (36, 64, 65, 93, 37)) k
        (place_found (cond wide (rising (minus 58) 57 ++ rising (pos 2) 57) (rising (minus 28) 28 ++ rising (pos 1) 28))
        (subcarrier_from k)))
    go true = wide_form k l
    go false = narrow_form k l

-- at both widths and each place: its subcarrier is one of the channel, and used
abbrev place_claim : Claim
place_claim = each widths λ w. up_to (places_of w) λ f.
    one (outside w (subcarrier_at w f)) is 0 and 0 under code (use_of w (subcarrier_at w f))

places : Holds place_claim
unfolding used_subcarriers pilot_subcarriers data_subcarriers use_of subcarrier_at
places = sound place_claim tt

-- every place has a used subcarrier of the channel
pub place_used_for : (width : ℕ) → T (among widths width) → (f : ℕ) → f < places_of width → PlaceUsed width f
place_used_for width h f l =
    let z : ℤ = subcarrier_at width f in
    let inside : Inside width z = one_same (outside width z) false (places width h f l).0 in
    record {
      inside = inside;
      not_silent = λ e. let none : code (use_of width z) ≡ 0 = ap code e in omega (arith, none, (places width h f l).1);
    }

-- at both widths and each data carrier: the place of its subcarrier
abbrev carrier_at : (width c : ℕ) → ℕ
carrier_at width c = place_in (used_subcarriers width) (get_or (data_subcarriers width) c (pos 0))

abbrev carrier_claim : Claim
carrier_claim = each widths λ w. up_to (carriers_of w) λ c.
    carrier_at w c under places_of w and code (use_of w (subcarrier_at w (carrier_at w c))) is code (Data c)

carriers : Holds carrier_claim
unfolding used_subcarriers pilot_subcarriers data_subcarriers use_of subcarrier_at
carriers = sound carrier_claim tt

-- every data carrier has a place
pub carrier_place : (width : ℕ) → T (among widths width) → (c : ℕ) → c < carriers_of width → CarrierPlace width c
carrier_place width h c l =
    record {
      place = carrier_at width c;
      inside = (carriers width h c l).0;
      carries = code_same (use_of width (subcarrier_at width (carrier_at width c))) (Data c) (carriers width h c l).1;
    }

-- a stream has places, and at most 114
pub places_some : (w : ℕ) → 0 < places_of w
places_some w = go (eqb w 40)
  where
    go : (b : Bool) → 0 < cond b 114 56
    go true = omega arith
    go false = omega arith

pub places_few : (w : ℕ) → places_of w ≤ 114
places_few w = go (eqb w 40)
  where
    go : (b : Bool) → cond b 114 56 ≤ 114
    go true = omega arith
    go false = omega arith
