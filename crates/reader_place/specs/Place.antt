-- The place of the first point of a symbol that is none the rules give, asked for by itself: what refusal 9 of a step from this state names.
use Rattle.settings.specs.declared.settings.Refusal.{Refusal}
use Rattle.std.specs.Prelude.{cond, List, ℕ, ltb, length, ℤ, pos, Float, Err, None, Ok, Option, Result, Some}
use Rattle.settings.specs.declared.settings.Refusal.TheVariants.{Room, Closed}
use Rattle.settings.specs.declared.settings.Settings.{Settings}
use Rattle.settings.specs.Settings.{number_of, check_of, plan_for}
use Rattle.subcarriers.specs.Subcarriers.{subcarrier_at}
use Rattle.frame.specs.Points.{floats_of}
use Rattle.detector.specs.Detected.{search_of}
use Rattle.reader_state.specs.declared.state.Reader.{Reader}
use Rattle.reader_state.specs.State.{open_raw, closed_of}

-- the place in the frame's own terms
abbrev pub found_as : Option (ℕ × ℕ) → Settings → Result (Option (ℕ × ℤ)) Refusal
found_as None s = Ok None
found_as (Some (i, f)) s = Ok (Some (i, (subcarrier_at s.width f)))

-- 12, then 8 for the points alone
abbrev pub place_by : Result Settings Refusal → Reader → List Float → Result (Option (ℕ × ℤ)) Refusal
place_by (Ok s) st points =
    cond (closed_of s st) (Err Closed)
    (cond (ltb (length points) (floats_of s)) (Err Room)
    (found_as (search_of (plan_for s) points s.format st.symbol) s))
place_by (Err r) st points = Err Closed

abbrev pub place_of : Reader → List Float → Result (Option (ℕ × ℤ)) Refusal
place_of st points = place_by (check_of (open_raw st.settings)) st points

-- document 01's number of each case, 0 where every point passes; the place of each
abbrev pub place_number : Result (Option (ℕ × ℤ)) Refusal → ℕ
place_number (Ok None) = 0
place_number (Ok (Some (i, z))) = 9
place_number (Err r) = number_of r

abbrev pub place_stream : Result (Option (ℕ × ℤ)) Refusal → ℕ
place_stream (Ok None) = 0
place_stream (Ok (Some (i, z))) = i
place_stream (Err r) = 0

abbrev pub place_subcarrier : Result (Option (ℕ × ℤ)) Refusal → ℤ
place_subcarrier (Ok None) = pos 0
place_subcarrier (Ok (Some (i, z))) = z
place_subcarrier (Err r) = pos 0
