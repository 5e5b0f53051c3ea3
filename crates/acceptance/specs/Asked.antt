-- What the functions from a symbol's inputs on ask and leave.
use Rattle.std.specs.Prelude.{◌≡◌, Bool, List, ℕ, ◌<◌, ◌≤◌, length, get_or}
use Rattle.settings.specs.declared.settings.Settings.{Settings}
use Rattle.settings.specs.Settings.{plan_for, Right}
use Rattle.symbols.specs.Symbols.{symbols_of}
use Rattle.deframer.specs.Deframed.{framed}
use Rattle.assembler.specs.Assembled.{PayloadAsked}
use Rattle.reader_state.specs.declared.state.Reader.{Reader}
use Rattle.acceptance.specs.declared.accept.Stepped.{Stepped}
use Rattle.reader_state.specs.State.{InRange, first_bit}
use Rattle.acceptance.specs.Accepted.{bytes_into, step_into_by, by_frame}

-- bits in a list, by their number in the symbol
abbrev pub bit_numbered : (bits : List ℕ) (d : ℕ) → ℕ
bit_numbered bits d = get_or bits d 0

-- accepted settings and a state in their range, and a symbol's inputs
pub record InputsHeld (s : Settings) (st : Reader) (inputs : List ℕ) : Type 0 where
  pub right : Right s
  pub in_range : InRange s st
  pub whole_inputs : (plan_for s).dbps ≤ length inputs
  pub one_bit : (d : ℕ) → d < (plan_for s).dbps → get_or inputs d 0 < 2

pub record ScramblerAsked (st : Reader) (inputs : List ℕ) : Type 0 where
  pub seven : 7 ≤ length inputs
  pub one_bit : (d : ℕ) → d < 7 → get_or inputs d 0 < 2
  pub known : (st.symbol ≡ 0 → ⊥) → st.scrambler < 128

pub record MovedAsked (s : Settings) (st : Reader) (scrambler : ℕ) : Type 0 where
  pub right : Right s
  pub below_count : st.symbol < symbols_of s
  pub in_range : scrambler < 128

-- a symbol's framing
abbrev pub framed_in : (s : Settings) (symbol : ℕ) (inputs plain : List ℕ) → Bool
framed_in s symbol inputs plain = framed s.length (plan_for s).encoders (first_bit s symbol) (plan_for s).dbps (bit_numbered inputs) (bit_numbered plain)

pub record RightAsked (s : Settings) (symbol : ℕ) (inputs plain : List ℕ) : Type 0 where
  pub right : Right s
  pub below_count : symbol < symbols_of s
  pub whole_inputs : (plan_for s).dbps ≤ length inputs
  pub whole_plain : (plan_for s).dbps ≤ length plain

pub record PutBytesAsked (payload : List ℕ) (s : Settings) (symbol part : ℕ) (plain : List ℕ) : Type 0 where
  pub right : Right s
  pub below_count : symbol < symbols_of s
  pub asked : PayloadAsked payload plain part s.length (first_bit s symbol) (plan_for s).dbps

pub record HearInputsAsked (s : Settings) (st : Reader) (inputs payload : List ℕ) : Type 0 where
  pub held : InputsHeld s st inputs
  pub whole_payload : s.length ≤ length payload

-- what is left after a symbol's inputs
pub record HeardInputs (s : Settings) (st : Reader) (X : ℕ → ℕ) (histories : List ℕ) (r : Stepped) (payload₀ payload : List ℕ) : Type 0 where
  pub stepped : r ≡ by_frame s st X histories
  pub written : payload ≡ step_into_by r.answer (bytes_into s st X payload₀) payload₀
