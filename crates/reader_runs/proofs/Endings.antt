-- An ended state stays: every step from it is 12, and changes nothing. A step keeps its settings, and room beyond the payload's length does not count.
-- Assumes nothing.
use Rattle.std.specs.Prelude.{Err, Ok, Result}
use Rattle.settings.specs.declared.settings.Refusal.{Refusal}
use Rattle.acceptance.specs.declared.accept.StepRefusal.TheVariants.{Refused as StepRefused}
use mathlib.Core.Path.{◌≡◌, ◌∙◌, refl, sym, ap}
use mathlib.Core.Bool.{Bool, true, cond, ◌||◌}
use mathlib.Core.List.{List}
use mathlib.Core.Logic.{⊎_elim, ◌⊎◌}
use Prim.Native.Nat.{ℕ, zero, suc, ◌+◌, ◌-◌, ◌≤◌}
use native.Mathlib.Nat.{add-zero, add-suc}
use native.Mathlib.Omega.{arith}
use borrow.Author.Tests.{le-ltb}
use lib.Dec.{ltb}
use lib.ListN.{length}
use lib.Ieee.{Float}
use Rattle.laws.proofs.Refusing.{true_not_false}
use Rattle.settings.specs.declared.settings.Refusal.TheVariants.{Room, Closed}
use Rattle.settings.specs.declared.settings.Settings.{Settings}
use Rattle.settings.specs.Settings.{check_of, plan_for}
use Rattle.settings.proofs.SettingsLaws.{passed}
use Rattle.frame.specs.Points.{floats_of}
use Rattle.detector.specs.Detected.{search_of}
use Rattle.reader_state.specs.declared.state.OpenSettings.{OpenSettings}
use Rattle.reader_state.specs.declared.state.Reader.{Reader}
use Rattle.acceptance.specs.declared.accept.Stepped.{Stepped}
use Rattle.reader_state.specs.State.{open_raw, start_by, closed_of}
use Rattle.acceptance.specs.Accepted.{answered}
use Rattle.reader.specs.Step.{by_search, step_by, step_of, step_into, step_number}
use Rattle.verdicts.specs.Statements.{InReach}
use Rattle.verdicts.proofs.StepCases.{reach, step_by_lem}
use Rattle.verdicts.proofs.Refusals.{refused_step_unchanged, refused_step_state}
use Rattle.reader_runs.specs.Run.{state_before, answer_to}

-- ---- ended states

-- a step from an ended state is 12, and gives it back
pub ended_step : (st : Reader) → st.ended ≡ true → (points : List Float) (bytes : ℕ) → step_of st points bytes ≡ answered (Err (StepRefused Closed)) st
ended_step st ended points bytes =
    ⊎_elim (λ (o : InReach st). absurd (true_not_false (sym ended ∙ o.in_range.going))) (λ e. e) (reach st points bytes)

-- the payload stays too
pub ended_slice : (st : Reader) → st.ended ≡ true → (points : List Float) (payload : List ℕ) → step_into st points payload ≡ payload
ended_slice st ended points payload =
    refused_step_unchanged st points payload
    (λ e. let n : ◌≡◌ {A = ℕ} 12 0 = ap (λ (r : Stepped). step_number r.answer) (sym (ended_step st ended points (length payload))) ∙ e in omega (arith, n))

-- 9, 10 and 11 end a state
pub ended_by : (st : Reader) (points : List Float) (bytes : ℕ)
    → ((step_number (step_of st points bytes).answer ≡ 9) ⊎ ((step_number (step_of st points bytes).answer ≡ 10) ⊎ (step_number (step_of st points bytes).answer ≡ 11)))
    → (step_of st points bytes).state.ended ≡ true
ended_by st points bytes e = ((refused_step_state st points bytes).0 e).ended

-- in a run an ended state stays
module _ (o : OpenSettings) (S : ℕ → List Float) (bytes : ℕ → ℕ) (n : ℕ) (ended : (state_before o S bytes n).ended ≡ true) where
  pub stays : (i : ℕ) → state_before o S bytes (n + i) ≡ state_before o S bytes n
  unfolding state_before
  stays zero = ap (state_before o S bytes) (add-zero n)
  stays (suc i) =
      ap (state_before o S bytes) (add-suc n i)
      ∙ ap (λ (t : Reader). (step_of t (S (n + i)) (bytes (n + i))).state) (stays i)
      ∙ ap (λ (r : Stepped). r.state) (ended_step (state_before o S bytes n) ended (S (n + i)) (bytes (n + i)))

  pub stays_from : (k : ℕ) → n ≤ k → state_before o S bytes k ≡ state_before o S bytes n
  stays_from k l = let e : n + (k - n) ≡ k = omega arith in ap (state_before o S bytes) (sym e) ∙ stays (k - n)

-- ---- settings are kept

step_kept : (st : Reader) (points : List Float) (bytes : ℕ) → (step_of st points bytes).state.settings ≡ st.settings
step_kept st points bytes = step_by_lem (λ r. r.state.settings ≡ st.settings) st refl refl (λ i z. refl) refl refl points bytes (λ o. refl)

pub start_kept : (x : Result Settings Refusal) (o : OpenSettings) → (start_by x o).state.settings ≡ o
start_kept (Ok s) o = refl
start_kept (Err r) o = refl

pub run_kept : (o : OpenSettings) (S : ℕ → List Float) (bytes : ℕ → ℕ) (n : ℕ) → (state_before o S bytes n).settings ≡ o
unfolding state_before
run_kept o S bytes zero = start_kept (check_of (open_raw o)) o
run_kept o S bytes (suc n) = step_kept (state_before o S bytes n) (S n) (bytes n) ∙ run_kept o S bytes n

-- ---- room

step_room : (st : Reader) (points : List Float) (bytes bytes' : ℕ) → st.settings.length ≤ bytes → st.settings.length ≤ bytes'
    → step_of st points bytes ≡ step_of st points bytes'
step_room st points bytes bytes' h h' = go (check_of (open_raw st.settings)) refl
  where
    go : (x : Result Settings Refusal) → check_of (open_raw st.settings) ≡ x → step_by x st points bytes ≡ step_by x st points bytes'
    go (Ok s) e =
        let long : st.settings.length ≡ s.length = ap (λ (t : Settings). t.length) (passed (open_raw st.settings) s e).meant in
        ap (λ (b : Bool). cond (closed_of s st) (answered (Err (StepRefused Closed)) st)
        (cond (ltb (length points) (floats_of s) || b) (answered (Err (StepRefused Room)) st) (by_search (search_of (plan_for s) points s.format st.symbol) s st points)))
        (le-ltb bytes s.length (omega (arith, long, h)) ∙ sym (le-ltb bytes' s.length (omega (arith, long, h'))))
    go (Err r) e = refl

-- every slice with room for the payload leads to the same states and answers
module _ (o : OpenSettings) (S : ℕ → List Float) (bytes bytes' : ℕ → ℕ) (room : (n : ℕ) → o.length ≤ bytes n) (room' : (n : ℕ) → o.length ≤ bytes' n) where
  step_same : (n : ℕ) → step_of (state_before o S bytes n) (S n) (bytes n) ≡ step_of (state_before o S bytes n) (S n) (bytes' n)
  step_same n =
      let e : (state_before o S bytes n).settings.length ≡ o.length = ap (λ (k : OpenSettings). k.length) (run_kept o S bytes n) in
      step_room (state_before o S bytes n) (S n) (bytes n) (bytes' n) (omega (arith, e, room n)) (omega (arith, e, room' n))

  pub states_room : (n : ℕ) → state_before o S bytes n ≡ state_before o S bytes' n
  unfolding state_before
  states_room zero = refl
  states_room (suc n) = ap (λ (r : Stepped). r.state) (step_same n) ∙ ap (λ (t : Reader). (step_of t (S n) (bytes' n)).state) (states_room n)

  pub answers_room : (n : ℕ) → answer_to o S bytes n ≡ answer_to o S bytes' n
  answers_room n = ap (λ (r : Stepped). r.answer) (step_same n) ∙ ap (λ (t : Reader). (step_of t (S n) (bytes' n)).answer) (states_room n)
