-- The step law: from the state that n symbols of a frame lead to, the step accepts a symbol exactly where some frame that agrees with it before symbol n
-- sends it, and goes on to that frame's next state. Assumes nothing.
use Rattle.std.specs.Prelude.{Err, None, Ok, Option, Result, Some}
use Rattle.settings.specs.declared.settings.Refusal.{Refusal}
use Rattle.acceptance.specs.declared.accept.StepRefusal.TheVariants.{Refused as StepRefused}
use mathlib.Core.Path.{◌≡◌, ◌∙◌, refl, sym, ap, subst}
use mathlib.Core.Bool.{Bool, true, false, cond, not}
use mathlib.Core.List.{List, ◌++◌}
use mathlib.Core.Logic.{◌⊎◌, inl, inr}
use Prim.Native.Nat.{ℕ, ◌+◌, ◌-◌, ◌*◌, ◌/◌, ◌%◌, ◌<◌, ◌≤◌}
use native.Mathlib.Omega.{arith}
use borrow.Author.Tests.{le-ltb, ne_eqb}
use lib.Dec.{eqb, ltb}
use lib.ListN.{length, take, drop}
use lib.Ieee.{Float}
use Rattle.laws.specs.Firsts.{firsts}
use Rattle.chain.specs.declared.plan.Plan.{Plan}
use Rattle.chain.specs.Plan.{Fits}
use Rattle.chain.proofs.DecodeLaws.{history_lt}
use Rattle.chain.proofs.ScramblerLaws.{state_some}
use Rattle.settings.specs.declared.settings.Refusal.TheVariants.{Room}
use Rattle.settings.specs.declared.settings.Settings.{Settings}
use Rattle.settings.specs.Settings.{check_of, plan_for, Right}
use Rattle.settings.proofs.SettingsLaws.{right, plan_fits}
use Rattle.symbols.specs.Symbols.{symbols_of}
use Rattle.frame.specs.Points.{floats_of}
use Rattle.detector.specs.Detected.{search_of, shown_bit}
use Rattle.assembler.specs.Assembled.{byte_of}
use Rattle.assembler.proofs.Packing.{packed_small}
use Rattle.reader_state.specs.declared.state.OpenSettings.{OpenSettings}
use Rattle.reader_state.specs.declared.state.Reader.{Reader}
use Rattle.acceptance.specs.declared.accept.Stepped.{Stepped}
use Rattle.reader_state.specs.State.{InRange, open_raw, first_bit}
use Rattle.acceptance.specs.Accepted.{answered, frame_right, bits_before, step_into_by}
use Rattle.reader.specs.Step.{by_search, no_room, step_of, written_by, step_into, step_number}
use Rattle.verdicts.specs.Statements.{InReach}
use Rattle.verdicts.proofs.StepCases.{heard, decoded, step_open}
use Rattle.verdicts.proofs.Refusals.{is_at, search_number}
use Rattle.verdicts.proofs.GivenLaws.{shown_bit_lem}
use Rattle.reader_runs.specs.Sent.{settings_for, sent_input, FloatsSent, state_after, Agree, Found}
use Rattle.verdicts.proofs.ShownLaws.{floats_given, floats_show, shown_floats}
use Rattle.reader_runs.proofs.Hear.{sent_code, sent_bytes}
use Rattle.reader_runs.proofs.Finding.{agree_state, found}

-- the three tests of a step that accepts
pub record AllPassed (x : Option (ℕ × ℕ)) (c f : Bool) : Type 0 where
  pub points : x ≡ None
  pub code : c ≡ true
  pub frame : f ≡ true

all_passed : (x : Option (ℕ × ℕ)) (c f : Bool) → ◌≡◌ {A = ℕ} (cond (is_at x) 9 (cond (not c) 10 (cond (not f) 11 0))) 0 → AllPassed x c f
all_passed (Some (i, k)) c f e = absurd (omega (arith, e))
all_passed None true true e = record { points = refl; code = refl; frame = refl }
all_passed None true false e = absurd (omega (arith, e))
all_passed None false f e = absurd (omega (arith, e))

-- and what the number says of a step that does not
refused_by : (a c f : Bool) (n : ℕ) → n ≡ cond a 9 (cond (not c) 10 (cond (not f) 11 0)) → (n ≡ 0 → ⊥) → (n ≡ 9) ⊎ ((n ≡ 10) ⊎ (n ≡ 11))
refused_by true c f n e some = inl e
refused_by false false f n e some = inr (inl e)
refused_by false true false n e some = inr (inr e)
refused_by false true true n e some = absurd (some e)

-- an accepted symbol's bytes are written
accepted_into : (first : Bool) (seed : ℕ) (written payload : List ℕ) → step_into_by (cond first (Ok (Some seed)) (Ok None)) written payload ≡ written
accepted_into true seed written payload = refl
accepted_into false seed written payload = refl

cond_small : (b : Bool) (k : ℕ) → k < 64 → cond b k 0 < 64
cond_small true k h = h
cond_small false k h = omega arith

room_both : (s : Settings) (floats bytes : ℕ) → floats_of s ≤ floats → s.length ≤ bytes → no_room s floats bytes ≡ false
room_both s floats bytes h l = simp (le-ltb floats (floats_of s) h, le-ltb bytes s.length l)

module _ (o : OpenSettings) (ready : check_of (open_raw o) ≡ Ok (settings_for o)) where
  pub sound : Right (settings_for o)
  sound = right (open_raw o) (settings_for o) ready

  abbrev s : Settings
  s = settings_for o

  abbrev p : Plan
  p = plan_for (settings_for o)

  fits : Fits (plan_for (settings_for o))
  fits = plan_fits (settings_for o) sound

  module _ (v : ℕ → ℕ) (seed : ℕ) (bits : (k : ℕ) → v k < 2) (some : 0 < seed) (small : seed < 128) (n : ℕ) (below : n < symbols_of (settings_for o)) where
    abbrev st : Reader
    st = state_after o (settings_for o) v seed n

    abbrev x : ℕ → ℕ
    x = sent_input (settings_for o) v seed

    -- the frame's state is in range
    in_range_after : InRange (settings_for o) st
    unfolding state_after
    in_range_after = record {
      going = ne_eqb n (symbols_of s) (λ e. omega (arith, e, below));
      below_count = below;
      first_history = history_lt p x n 0;
      second_history = cond_small (ltb 1 p.encoders) _ (history_lt p x n 1);
      scrambler_some = λ h. simp (ne_eqb n 0 h) (state_some seed (first_bit s n) some small).0;
      scrambler_most = λ h. simp (ne_eqb n 0 h) (state_some seed (first_bit s n) some small).1;
      part_fits = packed_small v (8 * (bits_before s n / 8)) (bits_before s n % 8) (λ k l. bits _);
    }

    pub in_reach_after : InReach st
    unfolding state_after
    in_reach_after = record { accepted = ready; in_range = in_range_after }

    module _ (points : List Float) (room : floats_of (settings_for o) ≤ length points) where
      step_is : (bytes : ℕ) → (settings_for o).length ≤ bytes → step_of st points bytes ≡ by_search (search_of p points s.format n) s st points
      unfolding state_after
      step_is bytes whole =
          step_open st points bytes in_reach_after
          ∙ ap (λ (b : Bool). cond b (answered (Err (StepRefused Room)) st) (by_search (search_of p points s.format n) s st points))
          (room_both s (length points) bytes room whole)

      -- the frame's own symbol
      pub step_takes : FloatsSent (settings_for o) v seed n points → (bytes : ℕ) → (settings_for o).length ≤ bytes
          → step_of (state_after o (settings_for o) v seed n) points bytes ≡ answered (cond (eqb n 0) (Ok (Some seed)) (Ok None)) (state_after o (settings_for o) v seed (n + 1))
      step_takes sent bytes whole =
          step_is bytes whole
          ∙ ap (λ (y : Option (ℕ × ℕ)). by_search y s st points) (floats_given p fits x points s.format n sent)
          ∙ sent_code s sound o v seed bits some small n (shown_bit p points) (floats_show p fits x points s.format n sent)

      -- and its complete bytes
      pub step_writes : FloatsSent (settings_for o) v seed n points → (payload : List ℕ) → (settings_for o).length ≤ length payload
          → step_into (state_after o (settings_for o) v seed n) points payload
          ≡ take (bits_before s n / 8) payload ++ (firsts (λ k. byte_of v (bits_before s n / 8 + k)) (bits_before s (n + 1) / 8 - bits_before s n / 8) ++ drop (bits_before s (n + 1) / 8) payload)
      unfolding state_after
      step_writes sent payload whole =
          ap (λ (r : Stepped). step_into_by r.answer (written_by (check_of (open_raw o)) st points payload) payload) (step_takes sent (length payload) whole)
          ∙ accepted_into (eqb n 0) seed _ payload
          ∙ ap (λ (c : Result Settings Refusal). written_by c st points payload) ready
          ∙ sent_bytes s sound o v seed bits some small n (shown_bit p points) (floats_show p fits x points s.format n sent) payload

      -- an accepted symbol is that of a frame which agrees before it
      pub step_gives : (bytes : ℕ) → (settings_for o).length ≤ bytes → step_number (step_of (state_after o (settings_for o) v seed n) points bytes).answer ≡ 0
          → (f : Found (settings_for o) n v seed (shown_bit (plan_for (settings_for o)) points)) × FloatsSent (settings_for o) f.w f.seed' n points
      step_gives bytes whole accepted =
          let t = all_passed (search_of p points s.format n) (decoded s st points) (frame_right s st (heard s st points))
          (sym (search_number s st points (search_of p points s.format n)) ∙ ap (λ (r : Stepped). step_number r.answer) (sym (step_is bytes whole)) ∙ accepted) in
          let f = found s sound o n v seed bits some small (shown_bit p points) (λ i r h l. shown_bit_lem p points i r) t.code t.frame in
          (f, shown_floats p fits (sent_input s f.w f.seed') points s.format n t.points f.sent)

      -- a refused one is refused by 9, 10 or 11
      pub step_refused : (bytes : ℕ) → (settings_for o).length ≤ bytes → let k = step_number (step_of (state_after o (settings_for o) v seed n) points bytes).answer in
          (k ≡ 0 → ⊥) → (k ≡ 9) ⊎ ((k ≡ 10) ⊎ (k ≡ 11))
      step_refused bytes whole =
          refused_by (is_at (search_of p points s.format n)) (decoded s st points) (frame_right s st (heard s st points)) _
          (ap (λ (r : Stepped). step_number r.answer) (step_is bytes whole) ∙ search_number s st points (search_of p points s.format n))

  -- the other way: a symbol of a frame that agrees with the state's is accepted, and the state returned is that frame's
  pub step_agrees : (v : ℕ → ℕ) (seed : ℕ) (w : ℕ → ℕ) (seed' : ℕ) → ((k : ℕ) → w k < 2) → 0 < seed' → seed' < 128 → (n : ℕ) → n < symbols_of (settings_for o)
      → Agree (settings_for o) n v seed w seed' → (points : List Float) → floats_of (settings_for o) ≤ length points → FloatsSent (settings_for o) w seed' n points
      → (bytes : ℕ) → (settings_for o).length ≤ bytes
      → step_of (state_after o (settings_for o) v seed n) points bytes ≡ answered (cond (eqb n 0) (Ok (Some seed')) (Ok None)) (state_after o (settings_for o) w seed' (n + 1))
  step_agrees v seed w seed' wb ws wm n below agree points room sent bytes whole =
      subst (λ (t : Reader). step_of t points bytes ≡ answered (cond (eqb n 0) (Ok (Some seed')) (Ok None)) (state_after o s w seed' (n + 1)))
      (agree_state s sound o n v seed w seed' agree)
      (step_takes w seed' wb ws wm n below points room sent bytes whole)
