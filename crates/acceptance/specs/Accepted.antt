-- The strict reader's step from a symbol's inputs X on (document 01, refusal 11): its answer, the state that it returns, and the payload's bytes afterwards.
use Rattle.acceptance.specs.declared.accept.StepRefusal.{StepRefusal}
use Rattle.acceptance.specs.declared.accept.StepRefusal.TheVariants.{Refused as StepRefused}
use Rattle.std.specs.Prelude.{Bool, cond, ◌&&◌, List, ◌++◌, ℕ, ◌+◌, ◌-◌, ◌/◌, eqb, ltb, take, drop, Err, None, Ok, Option, Result, Some}
use Rattle.laws.specs.Firsts.{firsts}
use Rattle.chain.specs.Scrambler.{state_at, seed_of}
use Rattle.settings.specs.declared.settings.Refusal.TheVariants.{Frame}
use Rattle.settings.specs.declared.settings.Settings.{Settings}
use Rattle.settings.specs.Settings.{plan_for}
use Rattle.symbols.specs.Symbols.{symbols_of}
use Rattle.deframer.specs.Deframed.{plain_bit, framed}
use Rattle.assembler.specs.Assembled.{payload_before, byte_of, part_of, known_bit}
use Rattle.reader_state.specs.declared.state.Reader.{Reader}
use Rattle.acceptance.specs.declared.accept.Stepped.{Stepped}
use Rattle.reader_state.specs.State.{first_bit, ended_of}

abbrev pub answered : Result (Option ℕ) StepRefusal → Reader → Stepped
answered a st = record { answer = a; state = st }

-- the scrambler at the symbol's first bit: at symbol 0 the seed that the inputs show
unfoldable pub scrambler_for : Reader → (X : ℕ → ℕ) → ℕ
scrambler_for st X = cond (eqb st.symbol 0) (seed_of X) st.scrambler

-- the symbol's data bits
abbrev pub plain_of : Reader → (X : ℕ → ℕ) (d : ℕ) → ℕ
plain_of st X d = plain_bit (scrambler_for st X) X d

-- not "service, tail or pad bit wrong, or the seed would be 0"
unfoldable pub frame_right : Settings → Reader → (X : ℕ → ℕ) → Bool
frame_right s st X =
    ltb 0 (scrambler_for st X)
    && framed s.length (plan_for s).encoders (first_bit s st.symbol) (plan_for s).dbps X (plain_of st X)

-- payload bits known before the symbol, and after it
abbrev pub bits_before : Settings → (symbol : ℕ) → ℕ
bits_before s symbol = payload_before s.length (first_bit s symbol)

abbrev pub bits_after : Settings → (symbol : ℕ) → ℕ
bits_after s symbol = payload_before s.length (first_bit s symbol + (plan_for s).dbps)

-- payload bit k as it is known after a symbol with plain bits P
abbrev pub known_of : Settings → (symbol part : ℕ) (P : ℕ → ℕ) (k : ℕ) → ℕ
known_of s symbol part P k = known_bit s.length (first_bit s symbol) part P k

-- the part of a byte that the symbol leaves
abbrev pub part_left : Settings → (symbol part : ℕ) (P : ℕ → ℕ) → ℕ
part_left s symbol part P = part_of (known_of s symbol part P) (bits_after s symbol)

-- "an accepted symbol writes exactly the bytes now complete, each at its own index"
abbrev pub bytes_left : Settings → (symbol part : ℕ) (P : ℕ → ℕ) → List ℕ → List ℕ
bytes_left s symbol part P payload =
    let from = bits_before s symbol / 8 in
    let to = bits_after s symbol / 8 in
    take from payload ++ (firsts (λ k. byte_of (known_of s symbol part P) (from + k)) (to - from) ++ drop to payload)

unfoldable pub bytes_into : Settings → Reader → (X : ℕ → ℕ) → List ℕ → List ℕ
bytes_into s st X payload = bytes_left s st.symbol st.part (plain_of st X) payload

-- a refusal writes nothing
abbrev pub step_into_by : Result (Option ℕ) StepRefusal → (written : List ℕ) → List ℕ → List ℕ
step_into_by (Ok seed) written payload = written
step_into_by (Err r) written payload = payload

-- the state after an accepted symbol that began at a scrambler's state; after the last symbol it is finished, its end marked
abbrev pub moved_with : Settings → Reader → (histories : List ℕ) (scrambler part : ℕ) → Reader
moved_with s st histories scrambler part = record {
  settings = st.settings;
  symbol = st.symbol + 1;
  ended = eqb (st.symbol + 1) (symbols_of s);
  histories = histories;
  scrambler = state_at scrambler (plan_for s).dbps;
  part = part;
}

-- "the seed is in the answer to symbol 0"
abbrev pub accepted_with : Reader → (scrambler : ℕ) → Result (Option ℕ) StepRefusal
accepted_with st scrambler = cond (eqb st.symbol 0) (Ok (Some scrambler)) (Ok None)

-- by refusal 11, the histories being known
abbrev pub by_frame : Settings → Reader → (X : ℕ → ℕ) (histories : List ℕ) → Stepped
by_frame s st X histories =
    cond (frame_right s st X)
    (answered (accepted_with st (scrambler_for st X))
    (moved_with s st histories (scrambler_for st X) (part_left s st.symbol st.part (plain_of st X))))
    (answered (Err (StepRefused Frame)) (ended_of st))
