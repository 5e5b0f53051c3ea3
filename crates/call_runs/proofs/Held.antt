-- States whose number loses nothing: the start's is one, and a step from one returns one, with an answer that its result has room for. Assumes nothing.
use Rattle.std.specs.Prelude.{Err, None, Ok, Option, Result, Some}
use Rattle.settings.specs.declared.settings.Refusal.{Refusal}
use Rattle.acceptance.specs.declared.accept.StepRefusal.{StepRefusal}
use Rattle.acceptance.specs.declared.accept.StepRefusal.TheVariants.{BadPoint, Refused as StepRefused}
use mathlib.Core.Path.{◌≡◌, ◌∙◌, refl, sym, ap, subst}
use mathlib.Core.Bool.{Bool, true, false, cond}
use mathlib.Core.List.{List, [], ◌∷◌}
use Prim.Native.Nat.{ℕ, ◌%◌, ◌^◌, ◌<◌, ◌≤◌}
use native.Mathlib.Nat.{pow-le-pow_right}
use native.Mathlib.Omega.{arith}
use borrow.Author.Tests.{eqb-false}
use lib.Dec.{eqb}
use lib.ListN.{get_or}
use lib.Ieee.{Float}
use Rattle.chain.specs.Scrambler.{seed_of}
use Rattle.chain.proofs.ScramblerLaws.{state_small, seed_small}
use Rattle.chain.proofs.DecodeLaws.{decoded_bit}
use Rattle.settings.specs.declared.settings.Settings.{Settings}
use Rattle.settings.specs.Settings.{plan_for}
use Rattle.settings.proofs.SettingsLaws.{number_range, right}
use Rattle.symbols.proofs.CountLaws.{symbols_few}
use Rattle.detector.specs.Detected.{shown_bit}
use Rattle.decoder.proofs.ExtLaws.{moved_small}
use Rattle.deframer.proofs.Plain.{plain_bit_lem}
use Rattle.assembler.proofs.KnownBits.{part_small}
use Rattle.reader_state.specs.declared.state.OpenSettings.{OpenSettings}
use Rattle.reader_state.specs.declared.state.Reader.{Reader}
use Rattle.reader_state.specs.State.{open_raw, start_by, history_of, first_bit, ended_of, blank}
use Rattle.acceptance.specs.Accepted.{scrambler_for, bits_after}
use Rattle.reader.specs.Step.{step_of, step_number, step_seed}
use Rattle.verdicts.specs.Statements.{settings_in, InReach}
use Rattle.verdicts.proofs.StepCases.{heard, moved, step_by_lem}
use Rattle.reader_numbers.specs.Numbers.{state_number, reader_of}
use Rattle.reader_numbers.specs.Statements.{HasState}
use Rattle.reader_numbers.proofs.StateTold.{state_told}
use Rattle.reader_numbers.proofs.NumberBack.{reader_back, number_below}

-- every field has its place in the number
pub record Held (st : Reader) : Type 0 where
  pub first : ℕ
  pub second : ℕ
  pub two : st.histories ≡ first ∷ (second ∷ [])
  pub symbol_fits : st.symbol < 65536
  pub first_fits : first < 256
  pub second_fits : second < 256
  pub scrambler_fits : st.scrambler < 256
  pub part_fits : st.part < 256

module _ (st : Reader) (h : Held st) where
  -- the state by its fields
  abbrev told : Reader
  told = record {
    settings = st.settings;
    symbol = st.symbol;
    ended = st.ended;
    histories = h.first ∷ (h.second ∷ []);
    scrambler = st.scrambler;
    part = st.part;
  }

  is_told : st ≡ told
  is_told = λ i. record {
    settings = st.settings;
    symbol = st.symbol;
    ended = st.ended;
    histories = h.two i;
    scrambler = st.scrambler;
    part = st.part;
  }

  -- it comes back from its number
  pub held_back : reader_of st.settings (state_number st) ≡ st
  held_back =
      ap (λ (t : Reader). reader_of st.settings (state_number t)) is_told
      ∙ reader_back st.settings st.symbol h.first h.second st.scrambler st.part st.ended
      h.symbol_fits h.first_fits h.second_fits h.scrambler_fits h.part_fits
      ∙ sym is_told

  pub held_below : state_number st < 562949953421312
  held_below =
      subst (λ (t : Reader). state_number t < 562949953421312) (sym is_told)
      (number_below st.settings st.symbol h.first h.second st.scrambler st.part st.ended
      h.symbol_fits h.first_fits h.second_fits h.scrambler_fits h.part_fits)

  -- and the number has its fields
  pub held_told : HasState (state_number st) st
  held_told =
      state_told st (
        h.symbol_fits,
        subst (λ (l : List ℕ). (get_or l 0 0 < 256) × ((get_or l 1 0 < 256) × ((st.scrambler < 256) × (st.part < 256)))) (sym h.two)
            (h.first_fits, (h.second_fits, (h.scrambler_fits, h.part_fits))),
      )

  held_ended : Held (ended_of st)
  held_ended = record {
    first = h.first;
    second = h.second;
    two = h.two;
    symbol_fits = h.symbol_fits;
    first_fits = h.first_fits;
    second_fits = h.second_fits;
    scrambler_fits = h.scrambler_fits;
    part_fits = h.part_fits;
  }

blank_held : (o : OpenSettings) (ended : Bool) → Held (blank o ended)
blank_held o ended = record {
  first = 0;
  second = 0;
  two = refl;
  symbol_fits = omega arith;
  first_fits = omega arith;
  second_fits = omega arith;
  scrambler_fits = omega arith;
  part_fits = omega arith;
}

pub start_held : (x : Result Settings Refusal) (o : OpenSettings) → Held (start_by x o).state
start_held (Ok s) o = blank_held o false
start_held (Err r) o = blank_held o true

-- ---- an accepted symbol

byte_power : (r : ℕ) → r < 8 → 2 ^ r ≤ 128
byte_power r l =
    let few : r ≤ 7 = omega (arith, l) in
    pow-le-pow_right (omega arith) few

module _ (st : Reader) (points : List Float) (o : InReach st) where
  abbrev s : Settings
  s = settings_in st

  abbrev X : ℕ → ℕ
  X = heard (settings_in st) st points

  -- the scrambler at its first bit, at symbol 0 the seed
  scrambler_below : scrambler_for st X < 128
  unfolding scrambler_for
  scrambler_below = go (eqb st.symbol 0) refl
    where
      go : (b : Bool) → eqb st.symbol 0 ≡ b → cond b (seed_of X) st.scrambler < 128
      go true e = seed_small X (decoded_bit (plan_for s) (history_of st) (shown_bit (plan_for s) points))
      go false e = o.in_range.scrambler_most (eqb-false st.symbol 0 e)

  moved_held : Held (moved (settings_in st) st points)
  moved_held = record {
    first = _;
    second = _;
    two = refl;
    symbol_fits = omega (arith, o.in_range.below_count, symbols_few s (right (open_raw st.settings) s o.accepted));
    first_fits = omega (arith, moved_small (plan_for s) (history_of st) X 0 o.in_range.first_history);
    second_fits = omega (arith, moved_small (plan_for s) (history_of st) X 1 o.in_range.second_history);
    scrambler_fits = omega (arith, state_small (scrambler_for st X) (plan_for s).dbps scrambler_below);
    part_fits = omega (
      arith,
      part_small s.length (first_bit s st.symbol) st.part _ (plain_bit_lem (scrambler_for st X) X) (bits_after s st.symbol),
      byte_power (bits_after s st.symbol % 8) (omega arith),
    );
  }

-- ---- every step

pub step_held : (st : Reader) → Held st → (points : List Float) (bytes : ℕ) → Held (step_of st points bytes).state
step_held st h points bytes =
    step_by_lem (λ r. Held r.state) st h h (λ i z. held_ended st h) (held_ended st h) (held_ended st h) points bytes (λ o. moved_held st points o)

-- an answer's number has five bits
pub answer_below : (a : Result (Option ℕ) StepRefusal) → step_number a < 32
answer_below (Ok (Some seed)) = omega arith
answer_below (Ok None) = omega arith
answer_below (Err (BadPoint i z)) = omega arith
answer_below (Err (StepRefused r)) = omega (arith, (number_range r).1)

-- and its seed seven
pub seed_below : (st : Reader) (points : List Float) (bytes : ℕ) → step_seed (step_of st points bytes).answer < 128
seed_below st points bytes =
    step_by_lem (λ r. step_seed r.answer < 128) st (omega arith) (omega arith) (λ i z. omega arith) (omega arith) (omega arith) points bytes
    (λ o. go (eqb st.symbol 0) _ (scrambler_below st points o))
  where
    go : (first : Bool) (k : ℕ) → k < 128 → step_seed (cond first (Ok (Some k)) (Ok None)) < 128
    go true k l = l
    go false k l = omega arith
