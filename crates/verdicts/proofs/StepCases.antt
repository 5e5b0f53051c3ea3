-- A step by its cases: what holds of each kind of answer, with the state that stands beside it, holds of every step. Assumes nothing.
use Rattle.std.specs.Prelude.{Err, None, Ok, Option, Result, Some}
use Rattle.settings.specs.declared.settings.Refusal.{Refusal}
use Rattle.acceptance.specs.declared.accept.StepRefusal.{StepRefusal}
use Rattle.acceptance.specs.declared.accept.StepRefusal.TheVariants.{BadPoint, Refused as StepRefused}
use mathlib.Core.Path.{◌≡◌, ◌∙◌, refl, sym, ap, subst}
use mathlib.Core.Bool.{Bool, true, false, cond}
use mathlib.Core.List.{List}
use mathlib.Core.Logic.{◌⊎◌, inl, inr, ⊎_elim}
use Prim.Native.Nat.{ℕ}
use lib.ListN.{length}
use lib.IntN.{ℤ}
use lib.Ieee.{Float}
use Rattle.chain.specs.Decoder.{decodes}
use Rattle.settings.specs.declared.settings.Refusal.TheVariants.{Room, Code, Frame, Closed}
use Rattle.settings.specs.declared.settings.Settings.{Settings}
use Rattle.settings.specs.Settings.{check_of, plan_for}
use Rattle.settings.proofs.SettingsLaws.{passed}
use Rattle.subcarriers.specs.Subcarriers.{subcarrier_at}
use Rattle.detector.specs.Detected.{search_of, shown_bit}
use Rattle.reader_state.specs.declared.state.Reader.{Reader}
use Rattle.acceptance.specs.declared.accept.Stepped.{Stepped}
use Rattle.reader_state.specs.State.{InRange, open_raw, history_of, closed_of, ended_of}
use Rattle.acceptance.specs.Accepted.{answered, scrambler_for, plain_of, frame_right, part_left, moved_with, accepted_with}
use Rattle.reader.specs.Step.{heard_input, histories_after, by_search, no_room, step_by, step_of, step_number}
use Rattle.reader_state.proofs.StateLaws.{in_range, not_closed}
use Rattle.verdicts.specs.Statements.{settings_in, InReach}

module _ (s : Settings) (st : Reader) (points : List Float) where
  -- the inputs that the points show
  abbrev pub heard : ℕ → ℕ
  heard d = heard_input s st (shown_bit (plan_for s) points) d

  -- whether there are such inputs
  abbrev pub decoded : Bool
  decoded = decodes (plan_for s) (history_of st) (shown_bit (plan_for s) points)

  -- the state after them
  abbrev pub moved : Reader
  moved = moved_with s st (histories_after s st heard) (scrambler_for st heard) (part_left s st.symbol st.part (plain_of st heard))

-- the step of a state in range
pub step_open : (st : Reader) (points : List Float) (bytes : ℕ) → InReach st → step_of st points bytes
    ≡ cond (no_room (settings_in st) (length points) bytes) (answered (Err (StepRefused Room)) st)
    (by_search (search_of (plan_for (settings_in st)) points (settings_in st).format st.symbol) (settings_in st) st points)
step_open st points bytes o =
    let s = settings_in st in
    ap (λ (x : Result Settings Refusal). step_by x st points bytes) o.accepted
    ∙ ap (λ (b : Bool). cond b (answered (Err (StepRefused Closed)) st)
    (cond (no_room s (length points) bytes) (answered (Err (StepRefused Room)) st) (by_search (search_of (plan_for s) points s.format st.symbol) s st points)))
    (not_closed s st o.in_range)

-- a state is in range with its settings accepted, or a step from it is 12 and gives it back
pub reach : (st : Reader) (points : List Float) (bytes : ℕ) → InReach st ⊎ (step_of st points bytes ≡ answered (Err (StepRefused Closed)) st)
reach st points bytes = by_check (check_of (open_raw st.settings)) refl
  where
    by_state : (s : Settings) → check_of (open_raw st.settings) ≡ Ok s → (b : Bool) → closed_of s st ≡ b
        → InReach st ⊎ (step_of st points bytes ≡ answered (Err (StepRefused Closed)) st)
    by_state s e true c =
        inr (ap (λ (x : Result Settings Refusal). step_by x st points bytes) e
        ∙ ap (λ (b : Bool). cond b (answered (Err (StepRefused Closed)) st)
        (cond (no_room s (length points) bytes) (answered (Err (StepRefused Room)) st) (by_search (search_of (plan_for s) points s.format st.symbol) s st points))) c)
    by_state s e false c =
        let meant = (passed (open_raw st.settings) s e).meant in
        inl (record {
          accepted = e ∙ ap Ok (sym meant);
          in_range = subst (λ (k : Settings). InRange k st) (sym meant) (in_range s st c);
        })

    by_check : (x : Result Settings Refusal) → check_of (open_raw st.settings) ≡ x → InReach st ⊎ (step_of st points bytes ≡ answered (Err (StepRefused Closed)) st)
    by_check (Ok s) e = by_state s e (closed_of s st) refl
    by_check (Err r) e = inr (ap (λ (x : Result Settings Refusal). step_by x st points bytes) e)

-- an accepted symbol's number
pub accepted_zero : (first : Bool) (seed : ℕ) → step_number (cond first (Ok (Some seed)) (Ok None)) ≡ 0
accepted_zero true seed = refl
accepted_zero false seed = refl

-- the cases
module _ (P : Stepped → Type 0) (st : Reader) (closed : P (answered (Err (StepRefused Closed)) st)) (room : P (answered (Err (StepRefused Room)) st))
    (point : (i : ℕ) (z : ℤ) → P (answered (Err (BadPoint i z)) (ended_of st))) (code : P (answered (Err (StepRefused Code)) (ended_of st)))
    (frame : P (answered (Err (StepRefused Frame)) (ended_of st))) (points : List Float) where
  by_tests_lem : (m : Reader) (a : Result (Option ℕ) StepRefusal) (c f : Bool) → P (answered a m)
      → P (cond c (cond f (answered a m) (answered (Err (StepRefused Frame)) (ended_of st))) (answered (Err (StepRefused Code)) (ended_of st)))
  by_tests_lem m a true true accepted = accepted
  by_tests_lem m a true false accepted = frame
  by_tests_lem m a false f accepted = code

  by_points : (s : Settings) (x : Option (ℕ × ℕ)) → P (answered (accepted_with st (scrambler_for st (heard s st points))) (moved s st points)) → P (by_search x s st points)
  by_points s (Some (i, f)) accepted = point i (subcarrier_at s.width f)
  by_points s None accepted =
      by_tests_lem (moved s st points) (accepted_with st (scrambler_for st (heard s st points))) (decoded s st points) (frame_right s st (heard s st points)) accepted

  by_room : (b : Bool) (x : Stepped) → P x → P (cond b (answered (Err (StepRefused Room)) st) x)
  by_room true x p = room
  by_room false x p = p

  pub step_by_lem : (bytes : ℕ)
      → (InReach st → P (answered (accepted_with st (scrambler_for st (heard (settings_in st) st points))) (moved (settings_in st) st points)))
      → P (step_of st points bytes)
  step_by_lem bytes accepted =
      ⊎_elim
      (λ (o : InReach st).
      let s = settings_in st in
      let x = search_of (plan_for s) points s.format st.symbol in
      subst P (sym (step_open st points bytes o)) (by_room (no_room s (length points) bytes) (by_search x s st points) (by_points s x (accepted o))))
      (λ e. subst P (sym e) closed)
      (reach st points bytes)
