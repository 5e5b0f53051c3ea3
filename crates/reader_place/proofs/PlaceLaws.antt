-- The place call by its tests. Assumes nothing.
use Rattle.std.specs.Prelude.{Err, Ok, Option, Result, ℤ, ℕ}
use Rattle.settings.specs.declared.settings.Refusal.{Refusal}
use mathlib.Core.Path.{◌≡◌, ◌∙◌, ap, ap₂}
use mathlib.Core.Bool.{Bool, cond}
use mathlib.Core.List.{List}
use lib.Dec.{ltb}
use lib.ListN.{length}
use lib.Ieee.{Float}
use Rattle.settings.specs.declared.settings.Refusal.TheVariants.{Room, Closed}
use Rattle.settings.specs.declared.settings.Settings.{Settings}
use Rattle.settings.specs.Settings.{check_of, plan_for}
use Rattle.frame.specs.Points.{floats_of}
use Rattle.detector.specs.Detected.{search_of}
use Rattle.reader_state.specs.declared.state.Reader.{Reader}
use Rattle.reader_state.specs.State.{open_raw, closed_of}
use Rattle.reader_place.specs.Place.{found_as, place_by, place_of}

-- by the settings' answer
module _ (st : Reader) (points : List Float) (x : Result Settings Refusal) (known : x ≡ check_of (open_raw st.settings)) where
  pub place_as : (r : Result (Option (ℕ × ℤ)) Refusal) → r ≡ place_by x st points → r ≡ place_of st points
  place_as r e = e ∙ ap (λ (y : Result Settings Refusal). place_by y st points) known

-- by the tests of the state and of the room
module _ (s : Settings) (st : Reader) (points : List Float) where
  pub place_by_lem : (closed small : Bool) → closed ≡ closed_of s st → small ≡ ltb (length points) (floats_of s)
      → (found : Option (ℕ × ℕ)) → found ≡ search_of (plan_for s) points s.format st.symbol
      → cond closed (Err Closed) (cond small (Err Room) (found_as found s)) ≡ place_by (Ok s) st points
  place_by_lem closed small e f found g =
      ap₂ (λ (a b : Bool). cond a (Err Closed) (cond b (Err Room) (found_as found s))) e f
      ∙ ap (λ (x : Option (ℕ × ℕ)). cond (closed_of s st) (Err Closed) (cond (ltb (length points) (floats_of s)) (Err Room) (found_as x s))) g
