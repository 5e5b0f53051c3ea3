-- The calls of accepted frames: when they are answered, and with what. Assumes nothing.
use Rattle.std.specs.Prelude.{Err, Ok}
use mathlib.Core.Path.{◌≡◌, ◌∙◌, refl, sym, ap}
use mathlib.Core.Bool.{Bool, true, false, cond}
use mathlib.Core.List.{List}
use Prim.Native.Nat.{ℕ, ◌<◌, ◌≤◌}
use native.Mathlib.Omega.{arith}
use borrow.Author.Tests.{le-ltb, ltb-false, leb-false, lt-leb}
use lib.Dec.{ltb, leb}
use lib.ListN.{length, get_or}
use lib.IntN.{ℤ}
use lib.Ieee.{Float, nan}
use Rattle.laws.proofs.Firsts.{written_at}
use Rattle.chain.specs.Plan.{Fits}
use Rattle.chain.specs.Labels.{halves_of}
use Rattle.settings.specs.declared.settings.RawSettings.{RawSettings}
use Rattle.settings.specs.declared.settings.Settings.{Settings}
use Rattle.settings.specs.declared.settings.Refusal.TheVariants.{Source, Place, Room}
use Rattle.settings.specs.Settings.{check_of, plan_for, Right}
use Rattle.symbols.specs.Symbols.{symbols_of}
use Rattle.settings.proofs.SettingsLaws.{passed, plan_fits}
use Rattle.subcarriers.specs.declared.layout.Use.{Use}
use Rattle.subcarriers.specs.declared.layout.Use.TheVariants.{Silent, Pilot, Data}
use Rattle.subcarriers.specs.Subcarriers.{use_of, UseRight, Inside}
use Rattle.subcarriers.proofs.SubcarrierLaws.{use_right}
use Rattle.mapper.specs.Levels.{Levels, carrier_levels, point_of}
use Rattle.pilots.specs.Pilots.{pilot_sign}
use Rattle.mapper.proofs.CarrierLaws.{carrier_ext}
use Rattle.query.specs.declared.query.Carried.TheVariants.{Data as DataPoint}
use Rattle.frame.proofs.PointsLaws.{points_by}
use Rattle.query.proofs.QueryLaws.{query_by}
use Rattle.frame.specs.Points.{labels_of, point_float, floats_of, points_of, points_into, points_number}
use Rattle.query.specs.Query.{carried_by, carried_of, not_in_frame, query_of}

-- the length of accepted settings is the one given
pub length_is : (a : RawSettings) (s : Settings) → check_of a ≡ Ok s → s.length ≡ a.length
length_is a s e = ap (λ (t : Settings). t.length) (sym (passed a s e).meant)

-- ---- the points call

-- what a points call of accepted settings is answered with floats for
pub record Given (s : Settings) (bytes n room : ℕ) : Type 0 where
  pub payload_whole : s.length ≤ bytes
  pub in_frame : n < symbols_of s
  pub room_enough : floats_of s ≤ room

pub given : (s : Settings) (bytes n room : ℕ) → points_number (points_of (Ok s) bytes n room) ≡ 0 → Given s bytes n room
given s bytes n room = go (ltb bytes s.length) (leb (symbols_of s) n) (ltb room (floats_of s)) refl refl refl
  where
    go : (u v w : Bool) → ltb bytes s.length ≡ u → leb (symbols_of s) n ≡ v → ltb room (floats_of s) ≡ w
        → points_number (cond u (Err Source) (cond v (Err Place) (cond w (Err Room) (Ok (floats_of s))))) ≡ 0
        → Given s bytes n room
    go true v w eu ev ew e = absurd (omega (arith, e))
    go false true w eu ev ew e = absurd (omega (arith, e))
    go false false true eu ev ew e = absurd (omega (arith, e))
    go false false false eu ev ew e =
        record { payload_whole = ltb-false bytes s.length eu; in_frame = leb-false (symbols_of s) n ev; room_enough = ltb-false room (floats_of s) ew }

-- whole payloads of any length and equal room give the same answer
pub same_answer : (s : Settings) (bytes bytes' n room room' : ℕ) → s.length ≤ bytes → s.length ≤ bytes' → room ≡ room'
    → points_of (Ok s) bytes n room ≡ points_of (Ok s) bytes' n room'
same_answer s bytes bytes' n room room' h h' e =
    rw e (simp (le-ltb bytes s.length h, le-ltb bytes' s.length h'))

-- a float of the slice after an accepted call
pub level_at : (s : Settings) (p : List ℕ) (n : ℕ) (out : List Float) → Given s (length p) n (length out)
    → (g : ℕ) → g < floats_of s → get_or (points_into (Ok s) p n out) g nan ≡ point_float s p n g
level_at s p n out ok g h =
    ap (λ (l : List Float). get_or l g nan)
    (sym (points_by s p n out (Ok s) false false false refl (le-ltb (length p) s.length ok.payload_whole) (lt-leb (symbols_of s) n ok.in_frame)
    (le-ltb (length out) (floats_of s) ok.room_enough)).1)
    ∙ written_at nan (point_float s p n) (floats_of s) out g h

-- ---- the question

-- a frame's symbol, stream and subcarrier that the question is answered for
pub record Asked (s : Settings) (bytes n i : ℕ) (z : ℤ) : Type 0 where
  pub payload_whole : s.length ≤ bytes
  pub in_frame : n < symbols_of s
  pub stream : i < (plan_for s).streams
  pub inside : Inside (plan_for s).width z

pub in_frame_is : (s : Settings) (bytes n i : ℕ) (z : ℤ) → Asked s bytes n i z → not_in_frame s n i z ≡ false
in_frame_is s bytes n i z k =
    simp (lt-leb (symbols_of s) n k.in_frame, lt-leb (plan_for s).streams i k.stream, k.inside)

pub answered : (s : Settings) (p : List ℕ) (n i : ℕ) (z : ℤ) → Asked s (length p) n i z → query_of (Ok s) p n i z ≡ Ok (carried_of s p n i z)
answered s p n i z k =
    sym (query_by s p n i z (Ok s) false false refl (le-ltb (length p) s.length k.payload_whole) (sym (in_frame_is s (length p) n i z k)))

-- what a data carrier's subcarrier carries
pub carried_data : (s : Settings) (p : List ℕ) (n i c : ℕ) (z : ℤ) → use_of (plan_for s).width z ≡ Data c
    → carried_of s p n i z ≡ DataPoint (point_of (carrier_levels (plan_for s).bits (labels_of s p n i) c))
unfolding carried_of
carried_data s p n i c z e = rw e

-- frames with the same half labels carry the same
pub carried_same : (s : Settings) → Right s → (p q : List ℕ) (n i : ℕ) (z : ℤ) → Inside (plan_for s).width z
    → ((m : ℕ) → m < halves_of (plan_for s) → labels_of s p n i m ≡ labels_of s q n i m) → carried_of s p n i z ≡ carried_of s q n i z
unfolding carried_of
carried_same s r p q n i z inside same =
    go (use_of (plan_for s).width z) (use_right (plan_for s).width fits.width z inside)
  where
    fits : Fits (plan_for s)
    fits = plan_fits s r

    sign : ℕ → ℤ
    sign = pilot_sign (plan_for s).width (plan_for s).streams s.format n i

    go : (u : Use) → UseRight (plan_for s).width u
        → carried_by sign (carrier_levels (plan_for s).bits (labels_of s p n i)) u ≡ carried_by sign (carrier_levels (plan_for s).bits (labels_of s q n i)) u
    go Silent t = refl
    go (Pilot k) t = refl
    go (Data c) t =
        ap (λ (l : Levels). DataPoint (point_of l))
        (carrier_ext (plan_for s) fits (labels_of s p n i) (labels_of s q n i) c (rw fits.carriers_is t) same)
