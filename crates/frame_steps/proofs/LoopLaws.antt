-- What the whole frame's reading keeps from symbol to symbol, and the answer where it ends. Assumes nothing.
use Rattle.std.specs.Prelude.{None, Ok, Option, Result, Some}
use Rattle.frame_steps.specs.declared.steps.FrameRefusal.{FrameRefusal}
use Rattle.acceptance.specs.declared.accept.StepRefusal.{StepRefusal}
use mathlib.Core.Path.{◌≡◌, ◌∙◌, refl, sym, ap, subst}
use mathlib.Core.Bool.{Bool, cond}
use mathlib.Core.List.{List}
use mathlib.Core.Logic.{◌⊎◌, inl, inr, ⊎_elim}
use Prim.Native.Nat.{ℕ, zero, suc, ◌+◌, ◌*◌, ◌<◌, ◌≤◌}
use native.Mathlib.Nat.{not-suc-le-zero, suc-mul, mul-le-mul}
use native.Mathlib.Numerals.{add-one}
use native.Mathlib.Omega.{arith}
use borrow.Author.Count.{below_more}
use borrow.Author.Tests.{ne_eqb}
use lib.Dec.{eqb}
use lib.ListN.{length, drop}
use lib.Ieee.{Float}
use Rattle.settings.specs.declared.settings.Refusal.{Refusal}
use Rattle.settings.specs.Settings.{number_of}
use Rattle.settings.proofs.SettingsLaws.{number_range, right}
use Rattle.symbols.specs.Symbols.{symbols_of}
use Rattle.symbols.proofs.CountLaws.{symbols_some}
use Rattle.frame.specs.Points.{floats_of}
use Rattle.reader_state.specs.declared.state.OpenSettings.{OpenSettings}
use Rattle.reader_state.specs.declared.state.Reader.{Reader}
use Rattle.acceptance.specs.declared.accept.Stepped.{Stepped}
use Rattle.reader_state.specs.State.{open_raw}
use Rattle.reader.specs.Step.{step_of, step_into, step_number, step_seed}
use Rattle.verdicts.proofs.Refusals.{refused_step_unchanged}
use Rattle.reader_runs.specs.Run.{state_before, memory_before}
use Rattle.reader_runs.specs.Sent.{settings_for}
use Rattle.frame_steps.specs.WholeFrame.{symbol_at, answer_at, memory_at, refused_as}
use Rattle.frame_steps.specs.Asked.{SymbolsAsked, SymbolsRead}
use Rattle.frame_steps.proofs.AnswerLaws.{first_at, answer_at_lem, first_count, answer_read}
use Rattle.frame_steps.proofs.FrameLaws.{accepted_as}

-- a refusal's number is not that of acceptance
pub refusal_some : (r : Refusal) → number_of r ≡ 0 → ⊥
refusal_some r e = omega (arith, e, (number_range r).0)

-- before symbol n: all before it are accepted, and the state, the seed, the payload and the place are those that their steps lead to
pub record Before (o : OpenSettings) (points : List Float) (payload₀ : List ℕ) (n : ℕ) (payload : List ℕ) (state : Reader) (seed at : ℕ) : Type 0 where
  pub within : n ≤ symbols_of (settings_for o)
  pub accepted : (k : ℕ) → k < n → step_number (answer_at o points (length payload₀) k) ≡ 0
  pub state_is : state ≡ state_before o (symbol_at (settings_for o) points) (λ k. length payload₀) n
  pub seed_is : 0 < n → seed ≡ step_seed (answer_at o points (length payload₀) 0)
  pub payload_is : payload ≡ memory_at o points n payload₀
  pub same : length payload ≡ length payload₀
  pub at_is : at ≡ n * floats_of (settings_for o)

-- the seed is that of symbol 0's answer, and stays
abbrev pub SeedAfter : Result (Option ℕ) StepRefusal → (seed seed' : ℕ) → Type 0
SeedAfter a seed seed' = (a ≡ Ok (Some seed')) ⊎ ((a ≡ Ok None) × (seed' ≡ seed))

-- the seed after symbol n
seed_by : (n : ℕ) (answers : ℕ → Result (Option ℕ) StepRefusal) (seed seed' k : ℕ) → SeedAfter (answers n) seed seed' → answers n ≡ cond (eqb n 0) (Ok (Some k)) (Ok None)
    → (0 < n → seed ≡ step_seed (answers 0)) → seed' ≡ step_seed (answers 0)
seed_by zero answers seed seed' k (inl p) q before = sym (ap step_seed p)
seed_by zero answers seed seed' k (inr p) q before = let m : answers 0 ≡ Ok None = p.0 in let z : ◌≡◌ {A = ℕ} 0 1 = cc in absurd (omega (arith, z))
seed_by (suc n) answers seed seed' k (inl p) q before =
    let later : answers (suc n) ≡ Ok None = q ∙ ap (λ (t : Bool). cond t (Ok (Some k)) (Ok None)) (ne_eqb (suc n) 0 (λ e. omega (arith, e))) in
    let z : ◌≡◌ {A = ℕ} 0 1 = cc in absurd (omega (arith, z))
seed_by (suc n) answers seed seed' k (inr p) q before = p.1 ∙ before (omega arith)

-- the next symbol's first float, and all floats before it
stride : (n s f at floats : ℕ) → n < s → at ≡ n * f → floats ≡ f → (at + floats ≡ (n + 1) * f) × (at + floats ≤ s * f)
stride n s f at floats l e g =
    let one : (n + 1) * f ≡ n * f + f = ap (λ (k : ℕ). k * f) (add-one n) ∙ suc-mul n f in
    (omega arith, omega (arith, mul-le-mul {n₁ = n + 1} {m₁ = f} {n₂ = s} {m₂ = f} (omega arith) (omega arith)))

module _ (reader : Reader) (count floats : ℕ) (points : List Float) (payload₀ : List ℕ) (pre : SymbolsAsked reader count floats points payload₀) where
  abbrev o : OpenSettings
  o = reader.settings

  abbrev bytes : ℕ
  bytes = length payload₀

  -- the frame's symbols, and the state that the steps before symbol n lead to
  abbrev symbols : ℕ
  symbols = symbols_of (settings_for o)

  abbrev state_at : ℕ → Reader
  state_at n = state_before o (symbol_at (settings_for o) points) (λ k. bytes) n

  -- before symbol 0
  pub before_first : Before o points payload₀ 0 payload₀ reader 0 0
  unfolding state_before memory_before
  before_first = record {
    within = omega arith;
    accepted = λ k h. absurd (not-suc-le-zero h);
    state_is = pre.asked.begun;
    seed_is = λ h. absurd (not-suc-le-zero h);
    payload_is = refl;
    same = refl;
    at_is = omega arith;
  }

  module _ (n : ℕ) (payload : List ℕ) (state : Reader) (seed at : ℕ) (b : Before o points payload₀ n payload state seed at) where
    -- the step's result is that of symbol n
    step_is : step_of state (drop at points) (length payload) ≡ step_of (state_at n) (symbol_at (settings_for o) points n) bytes
    step_is =
        ap (λ (st : Reader). step_of st (drop at points) (length payload)) b.state_is
        ∙ ap (λ (a : ℕ). step_of (state_at n) (drop a points) (length payload)) b.at_is
        ∙ ap (λ (m : ℕ). step_of (state_at n) (symbol_at (settings_for o) points n) m) b.same

    into_is : step_into state (drop at points) payload ≡ step_into (state_at n) (symbol_at (settings_for o) points n) (memory_at o points n payload₀)
    into_is =
        ap (λ (st : Reader). step_into st (drop at points) payload) b.state_is
        ∙ ap (λ (a : ℕ). step_into (state_at n) (drop a points) payload) b.at_is
        ∙ ap (λ (m : List ℕ). step_into (state_at n) (symbol_at (settings_for o) points n) m) b.payload_is

    -- the symbol's points are there
    pub inside : n < symbols → at + floats ≤ length points
    inside l = omega (arith, (stride n symbols (floats_of (settings_for o)) at floats l b.at_is pre.floats_are).1, pre.asked.whole_points)

    module _ (l : n < symbols) (stepped : Stepped) (e : stepped ≡ step_of state (drop at points) (length payload)) (payload' : List ℕ) (into : payload' ≡ step_into state (drop at points) payload) where
      answer_is : stepped.answer ≡ answer_at o points bytes n
      answer_is = ap (λ (r : Stepped). r.answer) (e ∙ step_is)

      accepted_number : (seed' : ℕ) → SeedAfter stepped.answer seed seed' → step_number stepped.answer ≡ 0
      accepted_number seed' s = ⊎_elim (λ p. ap step_number p) (λ p. ap step_number p.0) s

      all_accepted : (seed' : ℕ) → SeedAfter stepped.answer seed seed' → (k : ℕ) → k < n + 1 → step_number (answer_at o points bytes k) ≡ 0
      all_accepted seed' s =
          below_more (λ (k : ℕ). step_number (answer_at o points bytes k) ≡ 0) n b.accepted (ap step_number (sym answer_is) ∙ accepted_number seed' s)

      seed_kept : (seed' : ℕ) → SeedAfter stepped.answer seed seed' → seed' ≡ step_seed (answer_at o points bytes 0)
      seed_kept seed' s =
          let shown = accepted_as o pre.asked.accepted points pre.asked.whole_points bytes pre.asked.whole_payload n l
          (λ k h. all_accepted seed' s k (omega arith)) in
          seed_by n (λ k. answer_at o points bytes k) seed seed' shown.0 (subst (λ (a : Result (Option ℕ) StepRefusal). SeedAfter a seed seed') answer_is s) shown.1 b.seed_is

      -- an accepted symbol
      pub before_next : (seed' : ℕ) → SeedAfter stepped.answer seed seed' → length payload' ≡ length payload → Before o points payload₀ (n + 1) payload' stepped.state seed' (at + floats)
      unfolding state_before memory_before
      before_next seed' s kept = record {
        within = omega arith;
        accepted = all_accepted seed' s;
        state_is = rw (add-one n) (ap (λ (r : Stepped). r.state) (e ∙ step_is));
        seed_is = λ h. seed_kept seed' s;
        payload_is = rw (add-one n) (into ∙ into_is);
        same = kept ∙ b.same;
        at_is = (stride n symbols (floats_of (settings_for o)) at floats l b.at_is pre.floats_are).0;
      }

      refused_here : (step_number stepped.answer ≡ 0 → ⊥) → step_number (answer_at o points bytes n) ≡ 0 → ⊥
      refused_here refused z = refused (ap step_number answer_is ∙ z)

      -- a refused one
      pub read_refused : (step_number stepped.answer ≡ 0 → ⊥) → (r : Result ℕ FrameRefusal) → r ≡ refused_as n stepped.answer → SymbolsRead reader points r payload₀ payload'
      read_refused refused r g = record {
        answered = g ∙ ap (refused_as n) answer_is ∙ sym (answer_at_lem o points bytes n l b.accepted (refused_here refused));
        left =
            into ∙ refused_step_unchanged state (drop at points) payload (λ z. refused (ap (λ (r : Stepped). step_number r.answer) e ∙ z))
            ∙ b.payload_is ∙ ap (λ (m : ℕ). memory_at o points m payload₀) (sym (first_at o points bytes n l b.accepted (refused_here refused)));
      }

    -- all accepted
    pub read_all : symbols ≤ n → SymbolsRead reader points (Ok seed) payload₀ payload
    read_all h =
        let all : n ≡ symbols = omega (arith, b.within) in
        let accepted : (k : ℕ) → k < symbols → step_number (answer_at o points bytes k) ≡ 0 = λ k l. b.accepted k (omega (arith, l, all)) in
        record {
          answered =
              ap Ok (b.seed_is (omega (arith, symbols_some (settings_for o) (right (open_raw o) (settings_for o) pre.asked.accepted))))
              ∙ sym (answer_read o points bytes accepted);
          left = b.payload_is ∙ ap (λ (m : ℕ). memory_at o points m payload₀) (all ∙ sym (first_count o points bytes accepted));
        }
