-- From the state that n symbols of a frame lead to, the frame's symbol n is accepted: the state is that of one symbol more, and the bytes now complete are
-- the payload's. Assumes settings in range, payload bits that are bits and a seed of 1 to 127.
use Rattle.std.specs.Prelude.{None, Ok, Some}
use mathlib.Core.Path.{◌≡◌, ◌∙◌, sym, ap, ap₂}
use mathlib.Core.Bool.{true, cond}
use mathlib.Core.List.{List, [], ◌∷◌, ◌++◌}
use mathlib.Core.Logic.{⊎_elim}
use Prim.Native.Nat.{ℕ, ◌+◌, ◌-◌, ◌*◌, ◌/◌, ◌%◌, ◌<◌, ◌≤◌}
use native.Mathlib.Nat.{zero-mul, suc-mul}
use native.Mathlib.Numerals.{add-one}
use native.Mathlib.Decide.{ℕ_discrete}
use native.Mathlib.Omega.{arith}
use borrow.Author.Tests.{lt-ltb, le-ltb, eq-eqb, ne_eqb}
use lib.Dec.{eqb, ltb}
use lib.ListN.{take, drop}
use Rattle.laws.specs.Firsts.{firsts}
use Rattle.laws.proofs.Firsts.{firsts_ext}
use Rattle.laws.proofs.Search.{lt_or_le}
use Rattle.laws.proofs.Reflect.{T_true}
use Rattle.chain.specs.Plan.{groups_of, Fits}
use Rattle.chain.specs.Scrambler.{state_at, scrambler_bit}
use Rattle.chain.specs.Decoder.{history_after, dealt, decodes, label_after, history_before}
use Rattle.chain.proofs.Counts.{encoders_some}
use Rattle.chain.proofs.ScramblerLaws.{state_zero, state_on, state_some, scrambler_bit_lem, output_on, seed_back, seed_ext}
use Rattle.chain.proofs.InputLaws.{input_service, input_back}
use Rattle.chain.proofs.DecodeLaws.{history_next, label_after_lem, after_same, given_decode, given_decodes}
use Rattle.settings.specs.declared.settings.Settings.{Settings}
use Rattle.settings.specs.Settings.{plan_for, Right}
use Rattle.settings.proofs.SettingsLaws.{plan_fits}
use Rattle.symbols.specs.Symbols.{symbols_of}
use Rattle.decoder.specs.Decoded.{history_moved}
use Rattle.decoder.proofs.ExtLaws.{moved_ext}
use Rattle.deframer.specs.Deframed.{plain_bit, framed}
use Rattle.deframer.proofs.Framing.{ok_right, right_framed, input_ok_lem}
use Rattle.assembler.specs.Assembled.{payload_before, byte_of, part_of}
use Rattle.assembler.proofs.Packing.{packed_ext, packed_bit}
use Rattle.assembler.proofs.KnownBits.{known_old, known_new}
use Rattle.reader_state.specs.declared.state.OpenSettings.{OpenSettings}
use Rattle.reader_state.specs.declared.state.Reader.{Reader}
use Rattle.reader_state.specs.State.{history_of, first_bit}
use Rattle.acceptance.specs.Accepted.{answered, scrambler_for, plain_of, frame_right, bits_before, bits_after, known_of, part_left, bytes_left, bytes_into, moved_with, accepted_with, by_frame}
use Rattle.acceptance.proofs.AcceptedLaws.{scrambler_first, scrambler_later}
use Rattle.reader.specs.Step.{heard_input, histories_after, by_code}
use Rattle.reader_runs.specs.Sent.{sent_input, LabelsSent, state_after}
use Rattle.reader_runs.proofs.Parts.{sent_bit, symbol_is, part_is, scrambler_carried, no_second, histories_are}

-- the first bit of the first symbol, and of the next
first_zero : (s : Settings) (n : ℕ) → n ≡ 0 → first_bit s n ≡ 0
first_zero s n first = ap (first_bit s) first ∙ zero-mul (plan_for s).dbps

next_first : (s : Settings) (n : ℕ) → first_bit s n + (plan_for s).dbps ≡ first_bit s (n + 1)
next_first s n = rw (add-one n, suc-mul n (plan_for s).dbps)

-- payload bits known after a symbol are those before the next
pub after_is : (s : Settings) (n : ℕ) → bits_after s n ≡ bits_before s (n + 1)
after_is s n = ap (payload_before s.length) (next_first s n)

-- a payload bit of symbol n: its place in the symbol
record NewBit (s : Settings) (n k : ℕ) : Type 0 where
  below : 16 + k - first_bit s n < (plan_for s).dbps
  place : first_bit s n + (16 + k - first_bit s n) ≡ 16 + k
  payload : k < 8 * s.length

new_bit : (s : Settings) (n k : ℕ) → bits_before s n ≤ k → k < bits_after s n → NewBit s n k
new_bit s n k l h = record { below = omega arith; place = omega arith; payload = omega arith }

-- input d of symbol n
abbrev own_input : (s : Settings) (v : ℕ → ℕ) (seed n d : ℕ) → ℕ
own_input s v seed n d = sent_input s v seed (first_bit s n + d)

-- a payload slice in which symbol n of payload bits v has left the bytes that it completes
abbrev pub bytes_sent : (s : Settings) (v : ℕ → ℕ) (n : ℕ) → List ℕ → List ℕ
bytes_sent s v n payload =
    take (bits_before s n / 8) payload
    ++ (firsts (λ k. byte_of v (bits_before s n / 8 + k)) (bits_before s (n + 1) / 8 - bits_before s n / 8) ++ drop (bits_before s (n + 1) / 8) payload)

module _ (s : Settings) (right : Right s) (o : OpenSettings) (v : ℕ → ℕ) (seed : ℕ) (bits : (k : ℕ) → v k < 2) (some : 0 < seed) (small : seed < 128) where
  fits : Fits (plan_for s)
  fits = plan_fits s right

  -- label bits sent are the machine's, from the state's histories
  labels_from : (n : ℕ) (lab : ℕ → ℕ → ℕ) → LabelsSent s v seed n lab → (i r : ℕ) → i < (plan_for s).streams → r < (plan_for s).block
      → lab i r ≡ label_after (plan_for s) (history_of (state_after o s v seed n)) (own_input s v seed n) i r
  labels_from n lab sent i r h l =
      sent i r h l ∙ label_after_lem (plan_for s) fits (sent_input s v seed) (sent_bit s v seed) n i r
      ∙ after_same (plan_for s) fits (history_before (plan_for s) (sent_input s v seed) n) (history_of (state_after o s v seed n))
      (own_input s v seed n) (λ j b. sym (histories_are s o v seed n right j b)) i r

  -- a symbol sent decodes, and to its own inputs
  pub sent_decodes : (n : ℕ) (lab : ℕ → ℕ → ℕ) → LabelsSent s v seed n lab → decodes (plan_for s) (history_of (state_after o s v seed n)) lab ≡ true
  sent_decodes n lab sent =
      T_true (decodes (plan_for s) (history_of (state_after o s v seed n)) lab)
      (given_decodes (plan_for s) fits (history_of (state_after o s v seed n)) (own_input s v seed n) lab (λ d l. (sent_bit s v seed) _)
      (labels_from n lab sent))

  pub heard_is : (n : ℕ) (lab : ℕ → ℕ → ℕ) → LabelsSent s v seed n lab → (d : ℕ) → d < (plan_for s).dbps
      → heard_input s (state_after o s v seed n) lab d ≡ sent_input s v seed (first_bit s n + d)
  heard_is n lab sent =
      given_decode (plan_for s) fits (history_of (state_after o s v seed n)) (own_input s v seed n) lab (λ d l. (sent_bit s v seed) _)
      (labels_from n lab sent)

  -- from inputs X that are the symbol's own
  module _ (n : ℕ) (X : ℕ → ℕ) (same : (d : ℕ) → d < (plan_for s).dbps → X d ≡ sent_input s v seed (first_bit s n + d)) where
    abbrev st : Reader
    st = state_after o s v seed n

    abbrev plain : ℕ → ℕ
    plain = plain_of st X

    -- the first inputs of the frame are the scrambler's outputs
    start_is : n ≡ 0 → (k : ℕ) → k < 7 → X k ≡ scrambler_bit seed k
    start_is first k l =
        let at : first_bit s n + k ≡ k = omega (arith, first_zero s n first) in
        same k (omega (arith, fits.dbps_some)) ∙ ap (sent_input s v seed) at
        ∙ input_service v s.length (plan_for s).encoders (scrambler_bit seed k) k (omega arith) ∙ omega (arith, scrambler_bit_lem seed k)

    pub scrambler_is : scrambler_for (state_after o s v seed n) X ≡ state_at seed (first_bit s n)
    scrambler_is =
        elim (ℕ_discrete n 0) [
          | yes first ↦
              sym (scrambler_first st X (symbol_is s o v seed n ∙ first)) ∙ seed_ext X (λ k. scrambler_bit seed k) (start_is first)
              ∙ seed_back seed small ∙ sym (state_zero seed) ∙ ap (state_at seed) (sym (first_zero s n first))
          | no later ↦
              sym (scrambler_later st X (λ e. later (sym (symbol_is s o v seed n) ∙ e))) ∙ scrambler_carried s o v seed n later
        ]

    -- the scrambler's outputs in the symbol
    output_is : (d : ℕ) → scrambler_bit (scrambler_for st X) d ≡ scrambler_bit seed (first_bit s n + d)
    output_is d = ap (λ (k : ℕ). scrambler_bit k d) scrambler_is ∙ sym (output_on seed (first_bit s n) d)

    plain_is : (d : ℕ) → d < (plan_for s).dbps → plain d ≡ plain_bit seed (sent_input s v seed) (first_bit s n + d)
    plain_is d l = ap₂ (λ (a b : ℕ). (a + b) % 2) (same d l) (output_is d)

    framed_is : framed s.length (plan_for s).encoders (first_bit s n) (plan_for s).dbps X plain ≡ true
    framed_is =
        T_true (framed s.length (plan_for s).encoders (first_bit s n) (plan_for s).dbps X plain)
        (right_framed s.length (plan_for s).encoders (first_bit s n) (plan_for s).dbps X plain
        (λ d l. rw (plain_is d l, same d l)
        (ok_right s.length (plan_for s).encoders (first_bit s n + d) _ _
        (input_ok_lem v s.length (plan_for s).encoders (scrambler_bit seed (first_bit s n + d)) (first_bit s n + d) (scrambler_bit_lem seed _)))))

    pub frame_right_lem : frame_right s (state_after o s v seed n) X ≡ true
    unfolding frame_right
    frame_right_lem =
        let above : 0 < scrambler_for st X = rw scrambler_is (state_some seed (first_bit s n) some small).0 in
        simp (lt-ltb 0 (scrambler_for st X), symbol_is s o v seed n) framed_is

    -- payload bits from the part of a byte on are known
    bit_old : (k : ℕ) → 8 * (bits_before s n / 8) ≤ k → k < bits_before s n → known_of s n st.part plain k ≡ v k
    bit_old k l h =
        let at : 8 * (bits_before s n / 8) + (k - 8 * (bits_before s n / 8)) ≡ k = omega arith in
        known_old s.length (first_bit s n) st.part plain k h
        ∙ rw (part_is s o v seed n) (packed_bit v (8 * (bits_before s n / 8)) (bits_before s n % 8) (λ j b. bits _) (k - 8 * (bits_before s n / 8)) (omega arith))
        ∙ ap v at

    bit_new : (k : ℕ) → bits_before s n ≤ k → k < bits_after s n → known_of s n st.part plain k ≡ v k
    bit_new k l h =
        let b = new_bit s n k l h in
        let back : 16 + k - 16 ≡ k = omega arith in
        known_new s.length (first_bit s n) st.part plain k l
        ∙ plain_is (16 + k - first_bit s n) b.below
        ∙ ap (plain_bit seed (sent_input s v seed)) b.place
        ∙ input_back v s.length (plan_for s).encoders (scrambler_bit seed (16 + k)) (16 + k) (omega arith) (omega (arith, b.payload)) (bits _)
        ∙ ap v back

    pub known_is : (k : ℕ) → 8 * (bits_before s n / 8) ≤ k → k < bits_after s n
        → known_of s n (state_after o s v seed n).part (plain_of (state_after o s v seed n) X) k ≡ v k
    known_is k l h = ⊎_elim (λ (b : k < bits_before s n). bit_old k l b) (λ (b : bits_before s n ≤ k). bit_new k b h) (lt_or_le k (bits_before s n))

    part_after : part_left s n st.part plain ≡ part_of v (bits_before s (n + 1))
    part_after =
        packed_ext (known_of s n st.part plain) v (8 * (bits_after s n / 8)) (bits_after s n % 8)
        (λ k l. known_is (8 * (bits_after s n / 8) + k) (omega arith) (omega arith))
        ∙ ap (part_of v) (after_is s n)

    -- the histories after the symbol
    history_after_lem : (j : ℕ) → j < (plan_for s).encoders
        → history_moved (plan_for s) (history_of st) X j ≡ history_before (plan_for s) (sent_input s v seed) (n + 1) j
    unfolding history_moved
    history_after_lem j l =
        moved_ext (plan_for s) fits (history_of st) X (own_input s v seed n) same j
        ∙ simp (lt-ltb j (plan_for s).encoders)
        (ap (λ (h : ℕ). history_after h (dealt (own_input s v seed n) (plan_for s).encoders j) (((plan_for s).kept - 1) * groups_of (plan_for s)))
        (histories_are s o v seed n right j l))
        ∙ sym (history_next (plan_for s) fits (sent_input s v seed) n j)

    second_after : history_moved (plan_for s) (history_of st) X 1
        ≡ cond (ltb 1 (plan_for s).encoders) (history_before (plan_for s) (sent_input s v seed) (n + 1) 1) 0
    unfolding history_moved
    second_after =
        ⊎_elim
        (λ (two : 1 < (plan_for s).encoders). history_after_lem 1 two ∙ simp (lt-ltb 1 (plan_for s).encoders))
        (λ (one : (plan_for s).encoders ≤ 1). simp (le-ltb 1 (plan_for s).encoders) (no_second s o v seed n one))
        (lt_or_le 1 (plan_for s).encoders)

    scrambler_after : state_at (scrambler_for st X) (plan_for s).dbps ≡ cond (eqb (n + 1) 0) 0 (state_at seed (first_bit s (n + 1)))
    scrambler_after =
        ap (λ (k : ℕ). state_at k (plan_for s).dbps) scrambler_is ∙ sym (state_on seed (first_bit s n) (plan_for s).dbps) ∙ ap (state_at seed) (next_first s n)
        ∙ simp (ne_eqb (n + 1) 0 (λ e. omega arith))

    pub moved_is : moved_with s (state_after o s v seed n) (histories_after s (state_after o s v seed n) X) (scrambler_for (state_after o s v seed n) X)
        (part_left s n (state_after o s v seed n).part (plain_of (state_after o s v seed n) X)) ≡ state_after o s v seed (n + 1)
    unfolding state_after
    moved_is =
        let first = history_after_lem 0 (encoders_some (plan_for s).encoders fits.encoders) in
        λ i. record {
          settings = o;
          symbol = n + 1;
          ended = eqb (n + 1) (symbols_of s);
          histories = first i ∷ (second_after i ∷ []);
          scrambler = scrambler_after i;
          part = part_after i;
        }

    -- the bytes now complete
    pub bytes_are : (payload : List ℕ) → bytes_into s (state_after o s v seed n) X payload
        ≡ bytes_sent s v n payload
    unfolding bytes_into
    bytes_are payload =
        ap (λ (m : ℕ). bytes_left s m st.part plain payload) (symbol_is s o v seed n)
        ∙ ap (λ (l : List ℕ). take (bits_before s n / 8) payload ++ (l ++ drop (bits_after s n / 8) payload))
        (firsts_ext _ (λ k. byte_of v (bits_before s n / 8 + k)) (bits_after s n / 8 - bits_before s n / 8) (λ k l.
        packed_ext (known_of s n st.part plain) v (8 * (bits_before s n / 8 + k)) 8
        (λ t b. known_is (8 * (bits_before s n / 8 + k) + t) (omega arith) (omega arith))))
        ∙ ap (λ (m : ℕ). take (bits_before s n / 8) payload ++ (firsts (λ k. byte_of v (bits_before s n / 8 + k)) (m / 8 - bits_before s n / 8) ++ drop (m / 8) payload))
        (after_is s n)

    -- the answer has the seed at symbol 0
    answer_is : accepted_with st (scrambler_for st X) ≡ cond (eqb n 0) (Ok (Some seed)) (Ok None)
    answer_is =
        ap₂ (λ (m k : ℕ). cond (eqb m 0) (Ok (Some k)) (Ok None)) (symbol_is s o v seed n) scrambler_is
        ∙ elim (ℕ_discrete n 0) [
          | yes first ↦ simp (eq-eqb n 0 first) (ap (λ (k : ℕ). Ok (Some k)) (ap (state_at seed) (first_zero s n first) ∙ state_zero seed))
          | no later ↦ simp (ne_eqb n 0 later)
        ]

    by_frame_lem : by_frame s st X (histories_after s st X) ≡ answered (cond (eqb n 0) (Ok (Some seed)) (Ok None)) (state_after o s v seed (n + 1))
    by_frame_lem =
        simp frame_right_lem (ap₂ answered answer_is (
        ap (λ (m : ℕ). moved_with s st (histories_after s st X) (scrambler_for st X) (part_left s m st.part plain)) (symbol_is s o v seed n) ∙ moved_is))

  -- the step from the label bits on: accepted, with the seed at symbol 0, and the state of the frame one symbol on
  pub sent_code : (n : ℕ) (lab : ℕ → ℕ → ℕ) → LabelsSent s v seed n lab
      → by_code s (state_after o s v seed n) lab ≡ answered (cond (eqb n 0) (Ok (Some seed)) (Ok None)) (state_after o s v seed (n + 1))
  sent_code n lab sent =
      simp (sent_decodes n lab sent) (by_frame_lem n (heard_input s (state_after o s v seed n) lab) (heard_is n lab sent))

  -- and exactly the bytes now complete are written
  pub sent_bytes : (n : ℕ) (lab : ℕ → ℕ → ℕ) → LabelsSent s v seed n lab → (payload : List ℕ)
      → bytes_into s (state_after o s v seed n) (heard_input s (state_after o s v seed n) lab) payload
      ≡ bytes_sent s v n payload
  sent_bytes n lab sent = bytes_are n (heard_input s (state_after o s v seed n) lab) (heard_is n lab sent)
