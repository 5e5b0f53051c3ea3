-- The reader's calls on numbers by their tests: the state after a step has its symbol below 2^16, a place is a subcarrier of the channel. Assumes nothing.
use Rattle.std.specs.Prelude.{Err, None, Ok, Option, Result, Some, ℤ}
use Rattle.settings.specs.declared.settings.Refusal.{Refusal}
use Rattle.settings.specs.declared.settings.Settings.{Settings}
use mathlib.Core.Path.{◌≡◌, ◌∙◌, sym, ap, subst}
use mathlib.Core.Bool.{Bool, true, false, cond}
use mathlib.Core.List.{List}
use Prim.Native.Nat.{ℕ, ◌+◌, ◌*◌, ◌<◌}
use native.Mathlib.Nat.{mod-lt}
use native.Mathlib.Omega.{arith}
use lib.Dec.{leb}
use lib.ListN.{length}
use lib.Ieee.{Float}
use Rattle.settings.specs.declared.settings.Refusal.TheVariants.{Closed}
use Rattle.settings.specs.Settings.{check_of}
use Rattle.settings.proofs.SettingsLaws.{right}
use Rattle.symbols.proofs.CountLaws.{symbols_few}
use Rattle.reader_state.specs.declared.state.OpenSettings.{OpenSettings}
use Rattle.reader_state.specs.declared.state.Reader.{Reader}
use Rattle.reader_state.specs.declared.state.Started.{Started}
use Rattle.acceptance.specs.declared.accept.Stepped.{Stepped}
use Rattle.reader_state.specs.State.{open_raw, start_by, start_of}
use Rattle.reader.specs.Step.{step_of, step_into}
use Rattle.reader_place.specs.Place.{place_of}
use Rattle.conversions.specs.Results.{refused_result}
use Rattle.verdicts.specs.Statements.{settings_in}
use Rattle.verdicts.proofs.StepCases.{step_by_lem}
use Rattle.reader_numbers.specs.Numbers.{reader_of, started_result, start_result, stepped_number, closed_number, step_result, step_result_into, placed_result, place_result, PlaceRight}
use Rattle.reader_numbers.proofs.PlaceTold.{PlaceInFrame, place_in}

-- the state after a step has a symbol below 2^16
abbrev Small : Stepped → Type 0
Small r = r.state.symbol < 65536

pub step_small : (st : Reader) (points : List Float) (bytes : ℕ) → st.symbol < 65536 → (step_of st points bytes).state.symbol < 65536
step_small st points bytes h =
    step_by_lem Small st h h (λ i z. h) h h points bytes
    (λ o. omega (arith, o.in_range.below_count, symbols_few (settings_in st) (right (open_raw st.settings) (settings_in st) o.accepted)))

-- a place that is answered is a subcarrier of the channel
pub place_right : (st : Reader) (points : List Float) → PlaceRight (place_of st points)
place_right st points = go (place_of st points) (place_in st points)
  where
    go : (a : Result (Option (ℕ × ℤ)) Refusal) → PlaceInFrame a → PlaceRight a
    go (Ok None) h = tt
    go (Ok (Some (i, z))) h = h.1
    go (Err r) h = h

-- ---- the calls by their tests

start_by_lem : (x : Result Settings Refusal) (o : OpenSettings) → (start_by x o).state.symbol < 65536
start_by_lem (Ok s) o = omega arith
start_by_lem (Err r) o = omega arith

pub start_small : (s : Started) (o : OpenSettings) → s ≡ start_of o → s.state.symbol < 65536
start_small s o e = subst (λ (r : Started). r.state.symbol < 65536) (sym e) (start_by_lem (check_of (open_raw o)) o)

pub started_as : (s : Started) (o : OpenSettings) (a : Result (Unit {0}) Refusal) → s.answer ≡ a → s ≡ start_of o → started_result a s.state ≡ start_result (start_of o)
started_as s o a e f = ap (λ (b : Result (Unit {0}) Refusal). started_result b s.state) (sym e) ∙ ap start_result f

module _ (o : OpenSettings) (state : ℕ) (points : List Float) where
  -- a number that is no state
  pub step_none : (payload : List ℕ) → leb 562949953421312 state ≡ true
      → (12 + 4096 * closed_number state ≡ step_result o state points (length payload)) × (payload ≡ step_result_into o state points payload)
  step_none payload e = (simp e, simp e)

  pub place_none : leb 562949953421312 state ≡ true → refused_result Closed ≡ place_result o state points
  place_none e = simp e

  -- a state
  pub step_some : (payload payload' : List ℕ) (st : Reader) (r : Stepped) (n : ℕ) → leb 562949953421312 state ≡ false → st ≡ reader_of o state
      → r ≡ step_of st points (length payload) → payload' ≡ step_into st points payload → n ≡ stepped_number r
      → (n ≡ step_result o state points (length payload)) × (payload' ≡ step_result_into o state points payload)
  step_some payload payload' st r n e f g h k = (
    k ∙ ap stepped_number (g ∙ ap (λ (x : Reader). step_of x points (length payload)) f)
        ∙ ap (λ (b : Bool). cond b (12 + 4096 * closed_number state) (stepped_number (step_of (reader_of o state) points (length payload))))
        (sym e),
    h ∙ ap (λ (x : Reader). step_into x points payload) f ∙ ap (λ (b : Bool). cond b payload (step_into (reader_of o state) points payload)) (sym e),
  )

  pub step_held : (st : Reader) (r : Stepped) (bytes : ℕ) → st ≡ reader_of o state → r ≡ step_of st points bytes → r.state.symbol < 65536
  unfolding reader_of
  step_held st r bytes e f =
      subst Small (sym f) (step_small st points bytes (subst (λ (x : Reader). x.symbol < 65536) (sym e) (mod-lt state (omega arith))))

  pub place_some : (st : Reader) (a : Result (Option (ℕ × ℤ)) Refusal) → leb 562949953421312 state ≡ false → st ≡ reader_of o state → a ≡ place_of st points
      → placed_result a ≡ place_result o state points
  place_some st a e f g =
      ap placed_result (g ∙ ap (λ (x : Reader). place_of x points) f)
      ∙ ap (λ (b : Bool). cond b (refused_result Closed) (placed_result (place_of (reader_of o state) points))) (sym e)
