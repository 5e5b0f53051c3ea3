-- The number of a place tells it: the terms of specs/Statements. Assumes nothing.
use Rattle.std.specs.Prelude.{Err, None, Ok, Option, Result, Some}
use Rattle.settings.specs.declared.settings.Refusal.{Refusal}
use mathlib.Core.Path.{◌≡◌, ◌∙◌, refl, sym, ap, subst}
use mathlib.Core.Bool.{Bool, true, false, cond}
use mathlib.Core.List.{List}
use mathlib.Core.Logic.{◌⊎◌, inl, inr}
use Prim.Native.Nat.{ℕ, ◌+◌, ◌*◌, ◌/◌, ◌%◌, ◌<◌}
use native.Mathlib.Omega.{arith}
use lib.Dec.{ltb, leb}
use lib.ListN.{length}
use lib.IntN.{ℤ, pos}
use lib.Ieee.{Float}
use Rattle.settings.specs.declared.settings.Refusal.TheVariants.{Room, Closed}
use Rattle.settings.specs.declared.settings.Settings.{Settings}
use Rattle.settings.specs.Settings.{number_of, check_of, plan_for, Right}
use Rattle.settings.proofs.SettingsLaws.{right}
use Rattle.subcarriers.specs.Subcarriers.{subcarrier_at, subcarrier_from, Inside}
use Rattle.subcarriers.proofs.SubcarrierLaws.{index_of, index_small, index_back, inside_wide, place_used_for}
use Rattle.frame.specs.Points.{floats_of}
use Rattle.detector.specs.Detected.{search_of}
use Rattle.reader.proofs.HearLaws.{place_few, stream_few}
use Rattle.reader_state.specs.declared.state.OpenSettings.{OpenSettings}
use Rattle.reader_state.specs.declared.state.Reader.{Reader}
use Rattle.reader_state.specs.State.{open_raw, closed_of}
use Rattle.reader_place.specs.Place.{found_as, place_by, place_of}
use Rattle.conversions.specs.Results.{refused_result}
use Rattle.conversions.proofs.Minus.{pos_told, refused_not_pos}
use Rattle.reader_numbers.specs.Numbers.{reader_of, placed_result}
use Rattle.reader_numbers.specs.Statements.{HasPlace, PlaceTold, OneNumberOnePlace, PlaceResultTold}
use Rattle.reader_numbers.proofs.NumberLaws.{place_number_is, place_sum_is, refused_placed}

-- ---- the number of a place

-- 256 for each stream, and the subcarrier counted from -128 on
abbrev number_of_place : (stream : ℕ) (subcarrier : ℤ) → ℕ
number_of_place i z = 256 * i + (index_of z + 64)

has_parts : (i k : ℕ) → k < 128 → ((256 * i + (k + 64)) / 256 ≡ i) × ((256 * i + (k + 64)) % 256 ≡ k + 64)
has_parts i k l = (omega arith, omega arith)

module _ (i : ℕ) (z : ℤ) (inside : Inside 40 z) where
  placed_is : placed_result (Ok (Some (i, z))) ≡ pos (number_of_place i z)
  placed_is = sym (place_number_is i (index_of z) z (index_back z inside) (index_small z inside))

  has_place : HasPlace (number_of_place i z) i z
  has_place =
      let parts = has_parts i (index_of z) (index_small z inside) in
      (parts.0, ap pos parts.1 ∙ place_sum_is (index_of z) z (index_back z inside) (index_small z inside))

pub place_told : PlaceTold
place_told i z inside = (number_of_place i z, (placed_is i z inside, has_place i z inside))

pub one_number_one_place : OneNumberOnePlace
one_number_one_place i j y z inside inside' e =
    let same : number_of_place i y ≡ number_of_place j z = pos_told _ _ (sym (placed_is i y inside) ∙ e ∙ placed_is j z inside') in
    let few = index_small y inside in
    let few' = index_small z inside' in
    let index : index_of y ≡ index_of z = omega (arith, same) in
    (omega (arith, same), sym (index_back y inside) ∙ ap subcarrier_from index ∙ index_back z inside')

-- ---- places that a call finds

-- a place of the frame: one of at most four streams, and a subcarrier of the wider channel; and no refusal has a place's number
abbrev pub PlaceInFrame : Result (Option (ℕ × ℤ)) Refusal → Type 0
PlaceInFrame (Ok None) = Unit {0}
PlaceInFrame (Ok (Some (i, z))) = (i < 4) × Inside 40 z
PlaceInFrame (Err r) = number_of r ≡ 9 → ⊥

found_in : (s : Settings) → Right s → (points : List Float) (n : ℕ) (x : Option (ℕ × ℕ)) → x ≡ search_of (plan_for s) points s.format n
    → PlaceInFrame (found_as x s)
found_in s r points n None g = tt
found_in s r points n (Some (i, f)) g = (
  stream_few s r points n i f (Some (i, f)) refl g,
  inside_wide s.width r.width (subcarrier_at s.width f)
      (place_used_for s.width r.width f (place_few s points n i f (Some (i, f)) refl g)).inside,
)

tested_in : (closed small : Bool) (a : Result (Option (ℕ × ℤ)) Refusal) → PlaceInFrame a
    → PlaceInFrame (cond closed (Err Closed) (cond small (Err Room) a))
tested_in true small a h = λ e. omega (arith, e)
tested_in false true a h = λ e. omega (arith, e)
tested_in false false a h = h

pub place_in : (st : Reader) (points : List Float) → PlaceInFrame (place_of st points)
place_in st points = go (check_of (open_raw st.settings)) refl
  where
    go : (x : Result Settings Refusal) → check_of (open_raw st.settings) ≡ x → PlaceInFrame (place_by x st points)
    go (Ok s) e =
        tested_in (closed_of s st) (ltb (length points) (floats_of s)) _
        (found_in s (right (open_raw st.settings) s e) points st.symbol (search_of (plan_for s) points s.format st.symbol) refl)
    go (Err r) e = λ n. omega (arith, n)

-- ---- the call's own result

place_below : (i k : ℕ) → i < 4 → k < 128 → 256 * i + (k + 64) < 65535
place_below i k few l = omega arith

module _ (o : OpenSettings) (state : ℕ) (points : List Float) (number : ℕ) where
  abbrev answer : Result (Option (ℕ × ℤ)) Refusal
  answer = place_of (reader_of o state) points

  Told : Type 0
  Told = ((answer ≡ Ok None) × (number ≡ 65535))
      ⊎ ((i : ℕ) × ((z : ℤ) × ((answer ≡ Ok (Some (i, z))) × ((i < 4) × ((number < 65535) × HasPlace number i z)))))

  by_answer : (a : Result (Option (ℕ × ℤ)) Refusal) → answer ≡ a → PlaceInFrame a → placed_result a ≡ pos number → Told
  unfolding Told
  by_answer (Ok None) is h e = inl (is, sym (pos_told 65535 number e))
  by_answer (Ok (Some (i, z))) is (few, inside) e =
      let same : number_of_place i z ≡ number = pos_told _ _ (sym (placed_is i z inside) ∙ e) in
      let below = place_below i (index_of z) few (index_small z inside) in
      inr (i, (z, (is, (few, subst (λ (n : ℕ). (n < 65535) × HasPlace n i z) same (below, has_place i z inside)))))
  by_answer (Err r) is h e = absurd (refused_not_pos r number (refused_placed r h ∙ e))

  by_state : (none : Bool) → cond none (refused_result Closed) (placed_result answer) ≡ pos number → Told
  by_state true e = absurd (refused_not_pos Closed number e)
  by_state false e = by_answer answer refl (place_in (reader_of o state) points) e

pub place_result_told : PlaceResultTold
unfolding Told
place_result_told o state points number e = by_state o state points number (leb 562949953421312 state) e
