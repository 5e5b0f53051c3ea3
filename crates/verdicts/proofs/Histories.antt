-- The encoders' histories in the state that a step returns: with one encoder the second stays, an accepted step moves each encoder's own.
-- Assumes nothing.
use mathlib.Core.Path.{◌≡◌, ◌∙◌, refl}
use mathlib.Core.Logic.{⊎_elim}
use Prim.Native.Nat.{ℕ, zero, suc, ◌-◌, ◌*◌, ◌<◌, ◌≤◌}
use native.Mathlib.Omega.{arith}
use borrow.Author.Tests.{lt-ltb, le-ltb}
use lib.ListN.{get_or}
use Rattle.laws.proofs.Search.{lt_or_le}
use Rattle.chain.specs.declared.plan.Plan.{Plan}
use Rattle.chain.specs.Plan.{streams_of, groups_of}
use Rattle.chain.specs.Decoder.{history_after, dealt}
use Rattle.settings.specs.declared.settings.Settings.{Settings}
use Rattle.settings.specs.Settings.{encoders_of, plan_for}
use Rattle.settings.proofs.SettingsLaws.{planned_encoders, encoders_few}
use Rattle.decoder.specs.Decoded.{history_moved}
use Rattle.reader_state.specs.declared.state.Reader.{Reader}
use Rattle.reader_state.specs.State.{history_of}
use Rattle.reader.specs.Step.{histories_after, step_number}
use Rattle.verdicts.specs.Statements.{settings_in, input_in, SecondHistoryKept, OneEncoder, HistoriesMoved}
use Rattle.verdicts.proofs.StepCases.{heard, step_by_lem}

-- a history that no encoder has, and an encoder's own
other_history : (p : Plan) (hs X : ℕ → ℕ) (j : ℕ) → p.encoders ≤ j → history_moved p hs X j ≡ hs j
unfolding history_moved
other_history p hs X j l = simp (le-ltb j p.encoders l)

own_history : (p : Plan) (hs X : ℕ → ℕ) (j : ℕ) → j < p.encoders
    → history_moved p hs X j ≡ history_after (hs j) (dealt X p.encoders j) ((p.kept - 1) * groups_of p)
unfolding history_moved
own_history p hs X j l = simp (lt-ltb j p.encoders l)

pub second_history_kept : SecondHistoryKept
second_history_kept st points bytes one =
    step_by_lem (λ r. get_or r.state.histories 1 0 ≡ get_or st.histories 1 0) st refl refl (λ i z. refl) refl refl points bytes
    (λ o. other_history (plan_for (settings_in st)) (history_of st) (heard (settings_in st) st points) 1 (omega (arith, one)))

pub one_encoder : OneEncoder
one_encoder s = (
  λ e. ⊎_elim
      (λ (l : streams_of s.mcs < 3). omega (arith, l))
      (λ (l : 3 ≤ streams_of s.mcs).
      let two : encoders_of s.mcs ≡ 2 = simp (le-ltb (streams_of s.mcs) 3 l) in absurd (omega (arith, e, planned_encoders s)))
      (lt_or_le (streams_of s.mcs) 3),
  λ l. planned_encoders s ∙ simp (lt-ltb (streams_of s.mcs) 3 (omega arith)),
)

-- two histories by their encoder's number
both_moved : (s : Settings) (st : Reader) (X : ℕ → ℕ) (j : ℕ) → j < (plan_for s).encoders
    → get_or (histories_after s st X) j 0
    ≡ history_after (get_or st.histories j 0) (dealt X (plan_for s).encoders j) (((plan_for s).kept - 1) * groups_of (plan_for s))
both_moved s st X zero l = own_history (plan_for s) (history_of st) X 0 l
both_moved s st X (suc zero) l = own_history (plan_for s) (history_of st) X 1 l
both_moved s st X (suc (suc j)) l = absurd (omega (arith, l, planned_encoders s, encoders_few s.mcs))

pub histories_moved : HistoriesMoved
histories_moved st points bytes =
    let s = settings_in st in
    let p = plan_for s in
    step_by_lem (λ r. step_number r.answer ≡ 0 → (j : ℕ) → j < p.encoders
    → get_or r.state.histories j 0
    ≡ history_after (get_or st.histories j 0) (dealt (input_in st points) p.encoders j) ((p.kept - 1) * groups_of p)) st
    (λ e. absurd (omega (arith, e))) (λ e. absurd (omega (arith, e))) (λ i z e. absurd (omega (arith, e))) (λ e. absurd (omega (arith, e)))
    (λ e. absurd (omega (arith, e))) points bytes
    (λ o e. both_moved s st (heard s st points))
