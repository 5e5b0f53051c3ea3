-- The fields of the state that n symbols of a frame lead to, and the frame's inputs as bits. Assumes of the histories right settings.
use mathlib.Core.Path.{◌≡◌, refl}
use Prim.Native.Nat.{ℕ, zero, suc, ◌<◌, ◌≤◌}
use native.Mathlib.Omega.{arith}
use borrow.Author.Tests.{lt-ltb, le-ltb, ne_eqb}
use Rattle.chain.specs.Scrambler.{state_at, scrambler_bit}
use Rattle.chain.specs.Decoder.{history_before}
use Rattle.chain.proofs.Counts.{encoders_most}
use Rattle.chain.proofs.InputLaws.{input_bit}
use Rattle.settings.specs.declared.settings.Settings.{Settings}
use Rattle.settings.specs.Settings.{plan_for, Right}
use Rattle.settings.proofs.SettingsLaws.{plan_fits}
use Rattle.assembler.specs.Assembled.{part_of}
use Rattle.reader_state.specs.declared.state.OpenSettings.{OpenSettings}
use Rattle.reader_state.specs.State.{history_of, first_bit}
use Rattle.acceptance.specs.Accepted.{bits_before}
use Rattle.reader_runs.specs.Sent.{sent_input, state_after}

-- an input is a bit
pub sent_bit : (s : Settings) (v : ℕ → ℕ) (seed d : ℕ) → sent_input s v seed d < 2
sent_bit s v seed d = input_bit v s.length (plan_for s).encoders (scrambler_bit seed d) d

module _ (s : Settings) (o : OpenSettings) (v : ℕ → ℕ) (seed n : ℕ) where
  pub symbol_is : (state_after o s v seed n).symbol ≡ n
  unfolding state_after
  symbol_is = refl

  pub part_is : (state_after o s v seed n).part ≡ part_of v (bits_before s n)
  unfolding state_after
  part_is = refl

  pub scrambler_carried : (n ≡ 0 → ⊥) → (state_after o s v seed n).scrambler ≡ state_at seed (first_bit s n)
  unfolding state_after
  scrambler_carried later = simp (ne_eqb n 0 later)

  pub no_second : (plan_for s).encoders ≤ 1 → history_of (state_after o s v seed n) 1 ≡ 0
  unfolding state_after
  no_second one = simp (le-ltb 1 (plan_for s).encoders)

  -- the histories are those of the frame's inputs
  pub histories_are : Right s → (j : ℕ) → j < (plan_for s).encoders
      → history_of (state_after o s v seed n) j ≡ history_before (plan_for s) (sent_input s v seed) n j
  unfolding state_after
  histories_are right zero l = refl
  histories_are right (suc zero) l = simp (lt-ltb 1 (plan_for s).encoders)
  histories_are right (suc (suc j)) l = absurd (omega (arith, l, encoders_most (plan_for s).encoders (plan_fits s right).encoders))
