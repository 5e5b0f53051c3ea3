-- A run of the reader over a frame's first m symbols: it accepts them exactly where some frame sends them, and its states, answers and bytes are that
-- frame's. Assumes nothing.
use Rattle.std.specs.Prelude.{None, Ok, Result, Some}
use Rattle.settings.specs.declared.settings.Refusal.{Refusal}
use mathlib.Core.Path.{◌≡◌, ◌∙◌, refl, sym, ap, ap₂, subst}
use mathlib.Core.Bool.{Bool, true, false, cond}
use mathlib.Core.List.{List, [], ◌∷◌, ◌++◌}
use mathlib.Core.Logic.{◌⊎◌, ⊎_elim}
use Prim.Native.Nat.{ℕ, zero, suc, ◌+◌, ◌-◌, ◌*◌, ◌/◌, ◌%◌, ◌<◌, ◌≤◌}
use native.Mathlib.Nat.{zero-mul, suc-mul, mul-le-mul_right, not-suc-le-zero, eq-or-lt_of_le, le_of_suc-le-suc}
use native.Mathlib.Numerals.{add-one}
use native.Mathlib.Omega.{arith}
use borrow.Author.Tests.{ne_eqb}
use lib.Dec.{eqb, ltb}
use lib.ListN.{length, take, drop}
use lib.Ieee.{Float, binary32, to_bits}
use Rattle.laws.specs.Firsts.{firsts}
use Rattle.chain.specs.Plan.{Fits}
use Rattle.chain.specs.Labels.{half_label}
use Rattle.chain.specs.Decoder.{history_before}
use Rattle.chain.proofs.DecodeLaws.{history_start}
use Rattle.chain.proofs.LabelLaws.{halves_local}
use Rattle.settings.specs.declared.settings.Settings.{Settings}
use Rattle.settings.specs.Settings.{check_of, plan_for, Right}
use Rattle.settings.proofs.SettingsLaws.{plan_fits}
use Rattle.symbols.specs.Symbols.{symbols_of}
use Rattle.symbols.proofs.CountLaws.{symbols_some}
use Rattle.modulator.proofs.SymbolLaws.{symbol_ext}
use Rattle.assembler.specs.Assembled.{bits_number, byte_of}
use Rattle.reader_state.specs.declared.state.OpenSettings.{OpenSettings}
use Rattle.reader_state.specs.declared.state.Reader.{Reader}
use Rattle.acceptance.specs.declared.accept.Stepped.{Stepped}
use Rattle.reader_state.specs.State.{open_raw, start_by, start_of, first_bit}
use Rattle.acceptance.specs.Accepted.{answered, bits_before}
use Rattle.reader.specs.Step.{step_of, step_into, step_number}
use Rattle.reader_runs.specs.Run.{state_before, answer_to, slice_after}
use Rattle.reader_runs.specs.Sent.{settings_for, sent_input, FloatsSent, state_after, Agree, SentBy, Rooms}
use Rattle.reader_runs.proofs.Finding.{agree_input}
use Rattle.reader_runs.proofs.Steps.{sound, step_takes, step_writes, step_gives, step_refused}

-- symbols before one are those of every frame that agrees before it
pub floats_agree : (s : Settings) → Right s → OpenSettings → (m : ℕ) (v : ℕ → ℕ) (seed : ℕ) (w : ℕ → ℕ) (seed' : ℕ) → Agree s m v seed w seed'
    → (n : ℕ) → n < m → (points : List Float) → FloatsSent s v seed n points → FloatsSent s w seed' n points
floats_agree s right o m v seed w seed' agree n l points sent g h =
    sent g h
    ∙ ap (to_bits binary32) (symbol_ext (plan_for s) fits (half_label (plan_for s) x n) (half_label (plan_for s) y n) s.format n
    (λ i k a b. halves_local (plan_for s) fits x y n (λ d low high. sym (agree_input s right o m v seed w seed' agree d (before d high))) i k a b) g h)
  where
    fits : Fits (plan_for s)
    fits = plan_fits s right

    x : ℕ → ℕ
    x = sent_input s v seed

    y : ℕ → ℕ
    y = sent_input s w seed'

    before : (d : ℕ) → d < n * (plan_for s).dbps + (plan_for s).dbps → d < first_bit s m
    before d high = omega (arith, high, rw suc-mul at (mul-le-mul_right (plan_for s).dbps l))

packed_none : (f : ℕ → ℕ) (a r : ℕ) → r ≡ 0 → bits_number f a r ≡ 0
unfolding bits_number
packed_none f a r e = ap (bits_number f a) e

-- a state by its fields
state_eq : (o : OpenSettings) (n : ℕ) {e e' : Bool} {h h' : List ℕ} {k part part' : ℕ} → e ≡ e' → h ≡ h' → part ≡ part'
    → ◌≡◌ {A = Reader}
    (record { settings = o; symbol = n; ended = e; histories = h; scrambler = k; part = part })
    (record { settings = o; symbol = n; ended = e'; histories = h'; scrambler = k; part = part' })
state_eq o n {e} {e'} {h} {h'} {k} {part} {part'} a b c = λ i. record { settings = o; symbol = n; ended = a i; histories = b i; scrambler = k; part = c i }

module _ (o : OpenSettings) (ready : check_of (open_raw o) ≡ Ok (settings_for o)) where
  abbrev s : Settings
  s = settings_for o

  -- the start is every frame's state before its first symbol
  pub start_is : (v : ℕ → ℕ) (seed : ℕ) → (start_of o).state ≡ state_after o (settings_for o) v seed 0
  unfolding state_after
  start_is v seed =
      ap (λ (c : Result Settings Refusal). (start_by c o).state) ready
      ∙ state_eq o 0 (sym (ne_eqb 0 (symbols_of s) (λ e. omega (arith, e, symbols_some s (sound o ready)))))
      (ap₂ (λ (a b : ℕ). a ∷ (b ∷ [])) (sym (history_start (plan_for s) (sent_input s v seed) 0)) (second (ltb 1 (plan_for s).encoders)))
      (sym (packed_none v _ (bits_before s 0 % 8) (omega (arith, zero-mul (plan_for s).dbps))))
    where
      second : (b : Bool) → 0 ≡ cond b (history_before (plan_for s) (sent_input s v seed) 0 1) 0
      second true = sym (history_start (plan_for s) (sent_input s v seed) 1)
      second false = refl

  module _ (S : ℕ → List Float) (bytes : ℕ → ℕ) where
    module _ (m : ℕ) (few : m ≤ symbols_of (settings_for o)) (rooms : Rooms (settings_for o) S bytes m) (f : SentBy (settings_for o) S m) where
      -- a step of the run from the frame's own state
      step_of_lem : (n : ℕ) → n < m → step_of (state_after o s f.v f.seed n) (S n) (bytes n)
          ≡ answered (cond (eqb n 0) (Ok (Some f.seed)) (Ok None)) (state_after o s f.v f.seed (n + 1))
      step_of_lem n l =
          step_takes o ready f.v f.seed f.bits f.seed_some f.seed_small n (omega (arith, l, few)) (S n) (rooms n l).0 (f.sent n l) (bytes n) (rooms n l).1

      -- the states are the frame's
      pub run_state : (n : ℕ) → n ≤ m → state_before o S bytes n ≡ state_after o (settings_for o) f.v f.seed n
      unfolding state_before
      run_state zero l = start_is f.v f.seed
      run_state (suc n) l =
          ap (λ (t : Reader). (step_of t (S n) (bytes n)).state) (run_state n (omega arith))
          ∙ ap (λ (r : Stepped). r.state) (step_of_lem n l)
          ∙ ap (state_after o s f.v f.seed) (add-one n)

      -- every symbol is accepted, the first with the seed
      pub run_takes : (n : ℕ) → n < m → answer_to o S bytes n ≡ cond (eqb n 0) (Ok (Some f.seed)) (Ok None)
      run_takes n l =
          ap (λ (t : Reader). (step_of t (S n) (bytes n)).answer) (run_state n (omega arith))
          ∙ ap (λ (r : Stepped). r.answer) (step_of_lem n l)

      -- and its step writes the frame's bytes that are now complete
      pub run_writes : (n : ℕ) → n < m → (slice : List ℕ) → (settings_for o).length ≤ length slice
          → slice_after o S bytes n slice
          ≡ take (bits_before s n / 8) slice ++ (firsts (λ k. byte_of f.v (bits_before s n / 8 + k)) (bits_before s (n + 1) / 8 - bits_before s n / 8) ++ drop (bits_before s (n + 1) / 8) slice)
      run_writes n l slice whole =
          ap (λ (t : Reader). step_into t (S n) slice) (run_state n (omega arith))
          ∙ step_writes o ready f.v f.seed f.bits f.seed_some f.seed_small n (omega (arith, l, few)) (S n) (rooms n l).0 (f.sent n l) slice whole

    -- accepted symbols are those of some frame
    pub run_gives : (m : ℕ) → m ≤ symbols_of (settings_for o) → Rooms (settings_for o) S bytes m
        → ((n : ℕ) → n < m → step_number (answer_to o S bytes n) ≡ 0) → SentBy (settings_for o) S m
    run_gives zero few rooms accepted =
        record { v = λ k. 0; seed = 1; bits = λ k. omega arith; seed_some = omega arith; seed_small = omega arith; sent = λ n l. absurd (not-suc-le-zero l) }
    run_gives (suc m) few rooms accepted =
        let rooms' : Rooms s S bytes m = λ n l. rooms n (omega arith) in
        let f = run_gives m (omega arith) rooms' (λ n l. accepted n (omega arith)) in
        let here : step_number (step_of (state_after o s f.v f.seed m) (S m) (bytes m)).answer ≡ 0 =
        ap (λ (t : Reader). step_number (step_of t (S m) (bytes m)).answer) (sym (run_state m (omega arith) rooms' f m (omega arith))) ∙ accepted m (omega arith) in
        let e = step_gives o ready f.v f.seed f.bits f.seed_some f.seed_small m few (S m) (rooms m (omega arith)).0 (bytes m) (rooms m (omega arith)).1 here in
        let g = e.0 in
        record {
          v = g.w;
          seed = g.seed';
          bits = g.w_bit;
          seed_some = g.seed_some;
          seed_small = g.seed_small;
          sent = λ n l. ⊎_elim {C = FloatsSent s g.w g.seed' n (S n)}
              (λ (h : n ≡ m). subst (λ (k : ℕ). FloatsSent s g.w g.seed' k (S k)) (sym h) e.1)
              (λ (h : n < m). floats_agree s (sound o ready) o m f.v f.seed g.w g.seed' g.agree n h (S n) (f.sent n h))
              (eq-or-lt_of_le (le_of_suc-le-suc l));
        }

    -- a symbol refused after accepted ones is refused by 9, 10 or 11
    pub run_refused : (n : ℕ) → n < symbols_of (settings_for o) → Rooms (settings_for o) S bytes (n + 1)
        → ((k : ℕ) → k < n → step_number (answer_to o S bytes k) ≡ 0) → (step_number (answer_to o S bytes n) ≡ 0 → ⊥)
        → (step_number (answer_to o S bytes n) ≡ 9) ⊎ ((step_number (answer_to o S bytes n) ≡ 10) ⊎ (step_number (answer_to o S bytes n) ≡ 11))
    run_refused n l rooms accepted =
        let rooms' : Rooms s S bytes n = λ k b. rooms k (omega (arith, b)) in
        let f = run_gives n (omega (arith, l)) rooms' accepted in
        let here = rooms n (omega arith) in
        subst (λ (t : Reader). let k = step_number (step_of t (S n) (bytes n)).answer in (k ≡ 0 → ⊥) → (k ≡ 9) ⊎ ((k ≡ 10) ⊎ (k ≡ 11)))
        (sym (run_state n (omega (arith, l)) rooms' f n (omega arith)))
        (step_refused o ready f.v f.seed f.bits f.seed_some f.seed_small n l (S n) here.0 (bytes n) here.1)
