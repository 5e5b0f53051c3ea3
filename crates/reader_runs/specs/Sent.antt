-- Frames as a reader meets them: the symbols of payload bits v under a seed, the state that reading n of them leads to, and what two frames share
-- before a symbol. Payload bits are given by their number; a payload of bytes is one way to give them.
use Rattle.std.specs.Prelude.{◌≡◌, cond, List, [], ◌∷◌, ℕ, ◌<◌, ◌≤◌, eqb, ltb, length, get_or, Float}
use Rattle.std.specs.Float.{nan, binary32}
use Rattle.std.specs.Float.Ieee.{to_bits}
use Rattle.chain.specs.Scrambler.{state_at}
use Rattle.chain.specs.DataBits.{coder_input}
use Rattle.chain.specs.Labels.{label_bit, half_label}
use Rattle.chain.specs.Decoder.{history_before}
use Rattle.settings.specs.declared.settings.Settings.{Settings}
use Rattle.settings.specs.Settings.{plan_for, settings_of}
use Rattle.symbols.specs.Symbols.{symbols_of}
use Rattle.modulator.specs.Symbol.{symbol_float}
use Rattle.frame.specs.Points.{floats_of}
use Rattle.assembler.specs.Assembled.{part_of}
use Rattle.reader_state.specs.declared.state.OpenSettings.{OpenSettings}
use Rattle.reader_state.specs.declared.state.Reader.{Reader}
use Rattle.reader_state.specs.State.{open_raw, first_bit}
use Rattle.acceptance.specs.Accepted.{bits_before}

-- the settings that open settings mean
abbrev pub settings_for : OpenSettings → Settings
settings_for o = settings_of (open_raw o)

-- the encoders' inputs of the frame (step 1)
abbrev pub sent_input : (s : Settings) (v : ℕ → ℕ) (seed d : ℕ) → ℕ
sent_input s v seed d = coder_input v s.length (plan_for s).encoders seed d

-- the label bits lab are those of the frame's symbol n (steps 2 to 5)
abbrev pub LabelsSent : (s : Settings) (v : ℕ → ℕ) (seed n : ℕ) (lab : ℕ → ℕ → ℕ) → Type 0
LabelsSent s v seed n lab =
    (i r : ℕ) → i < (plan_for s).streams → r < (plan_for s).block → lab i r ≡ label_bit (plan_for s) (sent_input s v seed) n i r

-- the points are those of the frame's symbol n, by their bits (steps 6 to 8)
abbrev pub FloatsSent : (s : Settings) (v : ℕ → ℕ) (seed n : ℕ) (points : List Float) → Type 0
FloatsSent s v seed n points = (g : ℕ) → g < floats_of s
    → to_bits binary32 (get_or points g nan)
    ≡ to_bits binary32 (symbol_float (plan_for s) (half_label (plan_for s) (sent_input s v seed) n) s.format n g)

-- the state after n symbols of the frame: the histories of its inputs, its scrambler and the part of a byte that its payload bits leave
unfoldable pub state_after : (o : OpenSettings) (s : Settings) (v : ℕ → ℕ) (seed n : ℕ) → Reader
state_after o s v seed n = record {
  settings = o;
  symbol = n;
  ended = eqb n (symbols_of s);
  histories = history_before (plan_for s) (sent_input s v seed) n 0
      ∷ (cond (ltb 1 (plan_for s).encoders) (history_before (plan_for s) (sent_input s v seed) n 1) 0 ∷ []);
  scrambler = cond (eqb n 0) 0 (state_at seed (first_bit s n));
  part = part_of v (bits_before s n);
}

-- two frames agree before symbol n: on the payload bits before it and, where there is a symbol before it, on the seed
pub record Agree (s : Settings) (n : ℕ) (v : ℕ → ℕ) (seed : ℕ) (w : ℕ → ℕ) (seed' : ℕ) : Type 0 where
  pub bits : (k : ℕ) → k < bits_before s n → w k ≡ v k
  pub seeds : 0 < n → seed' ≡ seed

-- a frame that agrees with another before symbol n and whose symbol n has the label bits lab
pub record Found (s : Settings) (n : ℕ) (v : ℕ → ℕ) (seed : ℕ) (lab : ℕ → ℕ → ℕ) : Type 0 where
  pub w : ℕ → ℕ
  pub seed' : ℕ
  pub w_bit : (k : ℕ) → w k < 2
  pub seed_some : 0 < seed'
  pub seed_small : seed' < 128
  pub agree : Agree s n v seed w seed'
  pub sent : LabelsSent s w seed' n lab

-- a frame whose first m symbols have the points S
pub record SentBy (s : Settings) (S : ℕ → List Float) (m : ℕ) : Type 0 where
  pub v : ℕ → ℕ
  pub seed : ℕ
  pub bits : (k : ℕ) → v k < 2
  pub seed_some : 1 ≤ seed
  pub seed_small : seed < 128
  pub sent : (n : ℕ) → n < m → FloatsSent s v seed n (S n)

-- room for the first m symbols, in their points and in the payload slices lent with them
abbrev pub Rooms : (s : Settings) (S : ℕ → List Float) (bytes : ℕ → ℕ) (m : ℕ) → Type 0
Rooms s S bytes m = (n : ℕ) → n < m → (floats_of s ≤ length (S n)) × (s.length ≤ bytes n)
