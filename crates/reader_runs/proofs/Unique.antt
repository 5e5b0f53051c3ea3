-- Symbols tell their frame: two frames with the same first m symbols have one seed, and the same bytes as far as they are complete. Assumes nothing.
use Rattle.std.specs.Prelude.{Ok}
use mathlib.Core.Path.{◌≡◌, ◌∙◌, sym, ap}
use mathlib.Core.List.{List}
use Prim.Native.Nat.{ℕ, ◌<◌, ◌≤◌}
use native.Mathlib.Omega.{arith}
use lib.ListN.{length, get_or}
use lib.Ieee.{Float, nan, binary32, to_bits}
use Rattle.laws.specs.Firsts.{firsts}
use Rattle.laws.proofs.Filling.{fill_at}
use Rattle.laws.proofs.Firsts.{length_firsts, get_d_firsts}
use Rattle.chain.specs.Labels.{half_label}
use Rattle.settings.specs.declared.settings.Settings.{Settings}
use Rattle.settings.specs.Settings.{check_of, plan_for}
use Rattle.symbols.specs.Symbols.{symbols_of}
use Rattle.modulator.specs.Symbol.{symbol_float}
use Rattle.frame.specs.Points.{floats_of}
use Rattle.assembler.specs.Assembled.{byte_of}
use Rattle.reader_state.specs.declared.state.OpenSettings.{OpenSettings}
use Rattle.reader_state.specs.State.{open_raw}
use Rattle.reader.specs.Step.{step_seed}
use Rattle.reader_runs.specs.Sent.{settings_for, sent_input, SentBy, Rooms}
use Rattle.reader_runs.proofs.Runs.{run_takes}
use Rattle.reader_runs.proofs.Memory.{bytes_before, memory_filled}

module _ (o : OpenSettings) (ready : check_of (open_raw o) ≡ Ok (settings_for o)) (S : ℕ → List Float) (m : ℕ) (some : 0 < m)
    (few : m ≤ symbols_of (settings_for o)) (f h : SentBy (settings_for o) S m) where
  abbrev s : Settings
  s = settings_for o

  -- the symbols once more, in slices that have room for them, whatever the given ones have
  abbrev sentFloat : (n g : ℕ) → Float
  sentFloat n g = symbol_float (plan_for s) (half_label (plan_for s) (sent_input s f.v f.seed) n) s.format n g

  abbrev own : ℕ → List Float
  own n = firsts (sentFloat n) (floats_of s)

  own_float : (n g : ℕ) → g < floats_of s → to_bits binary32 (get_or (own n) g nan) ≡ to_bits binary32 (sentFloat n g)
  own_float n g l = ap (to_bits binary32) (get_d_firsts nan (sentFloat n) (floats_of s) g l)

  abbrev one : SentBy s own m
  one = record { v = f.v; seed = f.seed; bits = f.bits; seed_some = f.seed_some; seed_small = f.seed_small; sent = λ n l g b. own_float n g b }

  abbrev other : SentBy s own m
  other = record {
    v = h.v;
    seed = h.seed;
    bits = h.bits;
    seed_some = h.seed_some;
    seed_small = h.seed_small;
    sent = λ n l g b. own_float n g b ∙ sym (f.sent n l g b) ∙ h.sent n l g b;
  }

  abbrev room : ℕ → ℕ
  room k = s.length

  rooms : Rooms s own room m
  rooms n l = (omega (arith, length_firsts (sentFloat n) (floats_of s)), omega arith)

  abbrev zero : ℕ → ℕ
  zero k = 0

  abbrev zeros : List ℕ
  zeros = firsts zero s.length

  -- one reader reads both
  pub seed_told : f.seed ≡ h.seed
  seed_told = ap step_seed (sym (run_takes o ready own room m few rooms one 0 some) ∙ run_takes o ready own room m few rooms other 0 some)

  pub bytes_told : (j : ℕ) → j < bytes_before (settings_for o) m → byte_of f.v j ≡ byte_of h.v j
  bytes_told j l =
      let whole : s.length ≤ length zeros = omega (arith, length_firsts zero s.length) in
      sym (fill_at 0 (byte_of f.v) (memory_filled o ready own room m few rooms one zeros whole m (omega arith)) j l)
      ∙ fill_at 0 (byte_of h.v) (memory_filled o ready own room m few rooms other zeros whole m (omega arith)) j l
