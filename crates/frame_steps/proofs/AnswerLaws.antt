-- The answer to a frame's symbols, by the first of them that is refused. Assumes nothing.
use Rattle.std.specs.Prelude.{Err, None, Ok, Option, Result, Some}
use Rattle.acceptance.specs.declared.accept.StepRefusal.{StepRefusal}
use Rattle.acceptance.specs.declared.accept.StepRefusal.TheVariants.{BadPoint, Refused as StepRefused}
use mathlib.Core.Path.{◌≡◌, ◌∙◌, refl, sym, ap}
use mathlib.Core.Bool.{Bool, true, false, cond, not}
use mathlib.Core.List.{List}
use mathlib.Core.Logic.{⊎_elim}
use Prim.Native.Nat.{ℕ, ◌<◌}
use native.Mathlib.Omega.{arith}
use borrow.Author.Tests.{eq-eqb, ne_eqb, eqb-true, lt-ltb, le-ltb}
use lib.Dec.{eqb, ltb}
use lib.Ieee.{Float}
use Rattle.laws.specs.Least.{first_from}
use Rattle.laws.proofs.Refusing.{true_not_false}
use Rattle.laws.proofs.Least.{first_is, Passing, NonePasses, first_cases, first_none}
use Rattle.symbols.specs.Symbols.{symbols_of}
use Rattle.reader_state.specs.declared.state.OpenSettings.{OpenSettings}
use Rattle.reader.specs.Step.{step_number, step_seed}
use Rattle.reader_runs.specs.Sent.{settings_for}
use Rattle.frame_steps.specs.WholeFrame.{answer_at, first_refused, refused_as, symbols_answer}

not_false : (t : Bool) → not t ≡ false → t ≡ true
not_false true e = refl
not_false false e = absurd (true_not_false e)

refused_not_read : (n : ℕ) (a : Result (Option ℕ) StepRefusal) (k : ℕ) → not (eqb (step_number a) 0) ≡ true → refused_as n a ≡ Ok k → ⊥
refused_not_read n (Ok (Some seed)) k e g = true_not_false (sym e)
refused_not_read n (Ok None) k e g = true_not_false (sym e)
refused_not_read n (Err (BadPoint i z)) k e g = let w : ◌≡◌ {A = ℕ} 0 1 = cc in omega arith
refused_not_read n (Err (StepRefused r)) k e g = let w : ◌≡◌ {A = ℕ} 0 1 = cc in omega arith

module _ (o : OpenSettings) (points : List Float) (bytes : ℕ) where
  abbrev symbols : ℕ
  symbols = symbols_of (settings_for o)

  abbrev refusedTest : ℕ → Bool
  refusedTest n = not (eqb (step_number (answer_at o points bytes n)) 0)

  -- the first refused symbol
  module _ (n : ℕ) (inside : n < symbols_of (settings_for o)) (accepted : (k : ℕ) → k < n → step_number (answer_at o points bytes k) ≡ 0)
      (refused : step_number (answer_at o points bytes n) ≡ 0 → ⊥) where
    pub first_at : first_refused o points bytes ≡ n
    unfolding first_refused
    first_at =
        first_is refusedTest 0 symbols n (omega arith) (omega (arith, inside))
        (ap not (ne_eqb (step_number (answer_at o points bytes n)) 0 refused))
        (λ k low high. ap not (eq-eqb (step_number (answer_at o points bytes k)) 0 (accepted k high)))

    pub answer_at_lem : symbols_answer o points bytes ≡ refused_as n (answer_at o points bytes n)
    answer_at_lem =
        ap (λ (k : ℕ). cond (ltb k symbols) (refused_as k (answer_at o points bytes k)) (Ok (step_seed (answer_at o points bytes 0)))) first_at
        ∙ ap (λ (t : Bool). cond t (refused_as n (answer_at o points bytes n)) (Ok (step_seed (answer_at o points bytes 0)))) (lt-ltb n symbols inside)

  -- none
  module _ (accepted : (k : ℕ) → k < symbols_of (settings_for o) → step_number (answer_at o points bytes k) ≡ 0) where
    pub first_count : first_refused o points bytes ≡ symbols_of (settings_for o)
    unfolding first_refused
    first_count = first_none refusedTest 0 symbols (λ k low high. ap not (eq-eqb (step_number (answer_at o points bytes k)) 0 (accepted k (omega (arith, high))))) ∙ omega arith

    pub answer_read : symbols_answer o points bytes ≡ Ok (step_seed (answer_at o points bytes 0))
    answer_read =
        ap (λ (k : ℕ). cond (ltb k symbols) (refused_as k (answer_at o points bytes k)) (Ok (step_seed (answer_at o points bytes 0)))) first_count
        ∙ ap (λ (t : Bool). cond t (refused_as symbols (answer_at o points bytes symbols)) (Ok (step_seed (answer_at o points bytes 0)))) (le-ltb symbols symbols (omega arith))

  -- a frame that is read has no refused symbol
  pub none_refused : (k : ℕ) → symbols_answer o points bytes ≡ Ok k → (n : ℕ) → n < symbols_of (settings_for o) → step_number (answer_at o points bytes n) ≡ 0
  unfolding first_refused
  none_refused k e =
      ⊎_elim
      (λ (p : Passing refusedTest 0 symbols (first_from refusedTest 0 symbols)).
      absurd
      (refused_not_read _ (answer_at o points bytes (first_from refusedTest 0 symbols)) k p.passes
      (ap (λ (t : Bool).
      cond t (refused_as (first_from refusedTest 0 symbols) (answer_at o points bytes (first_from refusedTest 0 symbols))) (Ok (step_seed (answer_at o points bytes 0))))
      (sym (lt-ltb (first_from refusedTest 0 symbols) symbols (omega (arith, p.below))))
      ∙ e)))
      (λ (p : NonePasses refusedTest 0 symbols (first_from refusedTest 0 symbols)).
      λ n l. eqb-true (step_number (answer_at o points bytes n)) 0 (not_false _ (p.fails n (omega arith) (omega arith))))
      (first_cases refusedTest 0 symbols)
