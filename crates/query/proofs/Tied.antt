-- The points call and the question are of one symbol. Assumes nothing.
use mathlib.Core.Path.{◌≡◌, ◌∙◌, refl, ap}
use mathlib.Core.Bool.{cond}
use mathlib.Core.List.{List}
use Prim.Native.Nat.{ℕ, ◌+◌, ◌*◌, ◌<◌}
use native.Mathlib.Omega.{arith}
use lib.IntN.{ℤ}
use Rattle.chain.specs.Plan.{plan_of}
use Rattle.mapper.specs.Levels.{whole, Levels, turned, carrier_levels, point_of}
use Rattle.subcarriers.specs.declared.layout.Use.{Use}
use Rattle.subcarriers.specs.declared.layout.Use.TheVariants.{Silent, Pilot, Data}
use Rattle.subcarriers.specs.Subcarriers.{use_of, places_of, subcarrier_at, upper}
use Rattle.pilots.specs.Pilots.{pilot_sign}
use Rattle.settings.specs.declared.settings.Settings.{Settings}
use Rattle.settings.specs.Settings.{plan_for, Right}
use Rattle.settings.proofs.SettingsLaws.{plan_fits}
use Rattle.modulator.specs.Symbol.{used_levels, carried_levels, sent_levels, stream_floats}
use Rattle.modulator.proofs.SymbolLaws.{symbol_at_lem}
use Rattle.frame.specs.Points.{labels_of, point_float}
use Rattle.query.specs.Query.{carried_by, carried_of, carried_point}
use Rattle.query.specs.Statements.{PointsTied}

-- what a use carries, as a point, is the point of what it puts on its subcarrier
carried_point_lem : (sign : ℕ → ℤ) (f : ℕ → Levels) (u : Use) → carried_point (carried_by sign f u) ≡ point_of (used_levels sign f u)
carried_point_lem sign f Silent = refl
carried_point_lem sign f (Pilot q) = refl
carried_point_lem sign f (Data c) = refl

module _ (s : Settings) (r : Right s) (payload : List ℕ) (n i f : ℕ) (hf : f < places_of (plan_for s).width) where
  abbrev here : ℤ
  here = subcarrier_at (plan_for s).width f

  abbrev level : Levels
  level = carried_levels (plan_for s) (labels_of s payload n) s.format n i here

  answer_is : carried_point (carried_of s payload n i here) ≡ point_of level
  unfolding carried_of carried_levels
  answer_is =
      carried_point_lem (pilot_sign (plan_for s).width (plan_for s).streams s.format n i) (carrier_levels (plan_for s).bits (labels_of s payload n i)) (use_of (plan_for s).width here)

  first_is : point_float s payload n (i * stream_floats (plan_for s).width + 2 * f) ≡ whole (cond (upper (plan_for s).width here) (turned level) level).first
  unfolding sent_levels
  first_is =
      let e : 2 * f ≡ 2 * f + 0 = omega arith in
      ap (λ (g : ℕ). point_float s payload n (i * stream_floats (plan_for s).width + g)) e
      ∙ symbol_at_lem (plan_for s) (plan_fits s r) (labels_of s payload n) s.format n i f 0 hf (omega arith)

  second_is : point_float s payload n (i * stream_floats (plan_for s).width + (2 * f + 1)) ≡ whole (cond (upper (plan_for s).width here) (turned level) level).second
  unfolding sent_levels
  second_is = symbol_at_lem (plan_for s) (plan_fits s r) (labels_of s payload n) s.format n i f 1 hf (omega arith)

-- the floats at a place are the question's answer for its subcarrier, turned
pub points_tied : PointsTied
unfolding plan_for plan_of
points_tied s r payload n i f hi hf =
    record {
      level = level s r payload n i f hf;
      answered = answer_is s r payload n i f hf;
      first_float = first_is s r payload n i f hf;
      second_float = second_is s r payload n i f hf;
    }
