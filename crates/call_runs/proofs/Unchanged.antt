-- A refusal changes nothing in lent memory, call by call: the term of specs/Statements. Assumes nothing.
use Rattle.std.specs.Prelude.{Err, Ok, Result}
use Rattle.query.specs.declared.query.Carried.{Carried}
use Rattle.settings.specs.declared.settings.Refusal.{Refusal}
use mathlib.Core.Path.{◌≡◌, ◌∙◌, refl, ap}
use mathlib.Core.Bool.{Bool, true, false, cond}
use mathlib.Core.List.{List}
use Prim.Native.Nat.{ℕ, ◌+◌, ◌*◌}
use native.Mathlib.Omega.{arith}
use lib.Dec.{ltb, leb}
use lib.ListN.{length}
use lib.IntN.{pos}
use lib.Ieee.{Float}
use Rattle.settings.specs.declared.settings.Refusal.TheVariants.{Room}
use Rattle.settings.specs.Settings.{check_of}
use Rattle.settings.proofs.SettingsLaws.{number_range}
use Rattle.signal.specs.HtSig.{written_of, written_number}
use Rattle.signal.proofs.HtSigLaws.{refused_writes_nothing}
use Rattle.frame.specs.Points.{points_of, points_number}
use Rattle.frame.proofs.Refusals.{refused_points_unchanged}
use Rattle.query.specs.Query.{query_of}
use Rattle.conversions.specs.Results.{raw_of, refused_result, written_result, points_result, carried_number, carried_into, carrier_result, carrier_into}
use Rattle.reader_state.specs.declared.state.OpenSettings.{OpenSettings}
use Rattle.reader_state.specs.declared.state.Reader.{Reader}
use Rattle.reader.specs.Step.{step_of, step_into}
use Rattle.verdicts.proofs.Refusals.{refused_step_unchanged}
use Rattle.reader_numbers.specs.Numbers.{open_of, reader_of, stepped_number, closed_number, step_result, step_result_into}
use Rattle.symbols.specs.Symbols.{symbols_of}
use Rattle.reader_runs.specs.Sent.{settings_for}
use Rattle.frame_steps.specs.WholeFrame.{memory_at, read_frame_of}
use Rattle.frame_steps.proofs.Exactly.{unread}
use Rattle.frame_reader.specs.Result.{frame_result}
use Rattle.call_runs.specs.CallRun.{number_in}
use Rattle.call_runs.specs.Statements.{Negative, Unchanged, RefusalsChangeNothing}
use Rattle.call_runs.proofs.Held.{seed_below}
use Rattle.call_runs.proofs.CallRuns.{stepped_parts}

-- a negative result is a refusal's
written_refused : (r : Result (Unit {0}) Refusal) → Negative (written_result r) → written_number r ≡ 0 → ⊥
written_refused (Ok tt) negative e = negative 0 refl
written_refused (Err r) negative e = omega (arith, e, (number_range r).0)

points_refused : (r : Result ℕ Refusal) → Negative (points_result r) → points_number r ≡ 0 → ⊥
points_refused (Ok count) negative e = negative count refl
points_refused (Err r) negative e = omega (arith, e, (number_range r).0)

carrier_unchanged : (r : Result Carried Refusal) → Unchanged (λ out. Negative (carrier_result r (length out))) (λ out. carrier_into r out)
carrier_unchanged (Err r) = λ out negative. refl
carrier_unchanged (Ok c) = λ out. go out (ltb (length out) 2)
  where
    go : (out : List Float) (small : Bool) → Negative (cond small (refused_result Room) (pos (carried_number c)))
        → cond small out (carried_into c out) ≡ out
    go out true negative = refl
    go out false negative = absurd (negative (carried_number c) refl)

step_unchanged : (o : OpenSettings) (state : ℕ) (points : List Float)
    → Unchanged (λ payload. number_in (step_result o state points (length payload)) ≡ 0 → ⊥)
    (λ payload. step_result_into o state points payload)
step_unchanged o state points = λ payload. go payload (leb 562949953421312 state)
  where
    st : Reader
    st = reader_of o state

    go : (payload : List ℕ) (none : Bool)
        → (number_in (cond none (12 + 4096 * closed_number state) (stepped_number (step_of st points (length payload)))) ≡ 0 → ⊥)
        → cond none payload (step_into st points payload) ≡ payload
    go payload true refused = refl
    go payload false refused =
        refused_step_unchanged st points payload
        (λ e. refused ((stepped_parts (step_of st points (length payload)) (seed_below st points (length payload))).0 ∙ e))

pub refusals_change_nothing : RefusalsChangeNothing
refusals_change_nothing = record {
  ht_sig_write = λ w m f l d s n a g out negative.
      let checked = check_of (raw_of w m f l d s n a g) in
      refused_writes_nothing checked out (written_refused (written_of checked (length out)) negative);
  ht_points = λ w m f l d s n a g payload symbol out negative.
      let raw = raw_of w m f l d s n a g in
      refused_points_unchanged raw payload symbol out
      (points_refused (points_of (check_of raw) (length payload) symbol (length out)) negative);
  ht_carrier = λ w m f l d s n a g payload symbol stream z.
      carrier_unchanged (query_of (check_of (raw_of w m f l d s n a g)) payload symbol stream z);
  ht_reader_step = λ w m f l s n a g state points. step_unchanged (open_of w m f l s n a g) state points;
  ht_read_frame = λ w m f l s n a g points payload negative.
      let o = open_of w m f l s n a g in
      unread (read_frame_of o points (length payload)) (memory_at o points (symbols_of (settings_for o)) payload) payload
      (λ seed e. negative seed (ap frame_result e));
}
