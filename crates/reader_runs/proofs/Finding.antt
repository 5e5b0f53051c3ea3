-- An accepted symbol is that of a frame that agrees with the one read before it; frames that agree before a symbol have the same inputs and the same state
-- there. Assumes of the settings that they are right.
use mathlib.Core.Path.{◌≡◌, ◌∙◌, refl, sym, ap, subst}
use mathlib.Core.Bool.{true, cond}
use mathlib.Core.List.{[], ◌∷◌}
use mathlib.Core.Logic.{⊎_elim}
use Prim.Native.Nat.{ℕ, zero, suc, ◌+◌, ◌-◌, ◌*◌, ◌/◌, ◌%◌, ◌<◌, ◌≤◌}
use native.Mathlib.Nat.{zero-mul}
use native.Mathlib.Omega.{arith}
use lib.Dec.{T, eqb, ltb}
use borrow.Author.Tests.{lt-ltb, le-ltb, ltb-true}
use Rattle.laws.proofs.Reflect.{and_true, true_T}
use Rattle.laws.proofs.Search.{lt_or_le}
use Rattle.chain.specs.Scrambler.{state_at, scrambler_bit}
use Rattle.chain.specs.DataBits.{input_with}
use Rattle.chain.specs.Decoder.{decodes, history_before}
use Rattle.chain.proofs.Counts.{encoders_some}
use Rattle.chain.proofs.ScramblerLaws.{state_zero, output_on, scrambler_bit_lem, seed_small}
use Rattle.chain.proofs.InputLaws.{input_local}
use Rattle.chain.proofs.DecodeLaws.{decoded_bit, history_local, label_after_lem, after_same, after_local, decoded_labels}
use Rattle.settings.specs.declared.settings.Settings.{Settings}
use Rattle.settings.specs.Settings.{plan_for, Right}
use Rattle.settings.proofs.SettingsLaws.{plan_fits}
use Rattle.symbols.specs.Symbols.{symbols_of}
use Rattle.deframer.specs.Deframed.{plain_bit, input_ok}
use Rattle.deframer.proofs.Framing.{framed_right, right_ok, ok_input}
use Rattle.assembler.specs.Assembled.{payload_before, part_of}
use Rattle.assembler.proofs.Packing.{packed_ext}
use Rattle.reader_state.specs.declared.state.OpenSettings.{OpenSettings}
use Rattle.reader_state.specs.declared.state.Reader.{Reader}
use Rattle.reader_state.specs.State.{history_of, first_bit}
use Rattle.acceptance.specs.Accepted.{scrambler_for, plain_of, frame_right, bits_before}
use Rattle.acceptance.proofs.AcceptedLaws.{scrambler_first, scrambler_later}
use Rattle.reader.specs.Step.{heard_input}
use Rattle.reader_runs.specs.Sent.{sent_input, LabelsSent, state_after, Agree, Found}
use Rattle.reader_runs.proofs.Parts.{sent_bit, symbol_is, scrambler_carried, histories_are}

-- ---- the payload that is found

-- payload bits v before a symbol whose first data bit is number `start`, and from there on the symbol's plain bits P
unfoldable joined : (bytes start : ℕ) (v P : ℕ → ℕ) (k : ℕ) → ℕ
joined bytes start v P k = cond (ltb k (payload_before bytes start)) (v k) (P (16 + k - start))

module _ (bytes start : ℕ) (v P : ℕ → ℕ) where
  joined_old : (k : ℕ) → k < payload_before bytes start → joined bytes start v P k ≡ v k
  unfolding joined
  joined_old k h = simp (lt-ltb k (payload_before bytes start))

  joined_new : (k : ℕ) → payload_before bytes start ≤ k → joined bytes start v P k ≡ P (16 + k - start)
  unfolding joined
  joined_new k h = simp (le-ltb k (payload_before bytes start))

  joined_bit : ((k : ℕ) → v k < 2) → ((d : ℕ) → P d < 2) → (k : ℕ) → joined bytes start v P k < 2
  joined_bit old new k =
      ⊎_elim
      (λ (h : k < payload_before bytes start). rw (joined_old k h) (old k))
      (λ (h : payload_before bytes start ≤ k). rw (joined_new k h) (new (16 + k - start)))
      (lt_or_le k (payload_before bytes start))

  joined_at : (d : ℕ) → 16 ≤ start + d → joined bytes start v P (start + d - 16) ≡ P d
  joined_at d h =
      let e : 16 + (start + d - 16) - start ≡ d = omega arith in
      joined_new (start + d - 16) (omega arith) ∙ ap P e

-- a symbol's inputs X that pass are those of the joined payload
joined_input : (bytes encoders start k : ℕ) (v X : ℕ → ℕ) (d : ℕ) → X d < 2 → T (input_ok bytes encoders (start + d) (X d) (plain_bit k X d))
    → input_with (joined bytes start v (plain_bit k X)) bytes encoders (scrambler_bit k d) (start + d) ≡ X d
joined_input bytes encoders start k v X d bit passes =
    ok_input (joined bytes start v (plain_bit k X)) bytes encoders (scrambler_bit k d) (start + d) (X d) bit (scrambler_bit_lem k d) passes
    (λ h l. joined_at bytes start v (plain_bit k X) d h)

-- ---- what an accepted symbol tells

module _ (s : Settings) (st : Reader) (X : ℕ → ℕ) (passed : frame_right s st X ≡ true) where
  -- its scrambler is not 0
  scrambler_some : 0 < scrambler_for st X
  unfolding frame_right
  scrambler_some = ltb-true 0 (scrambler_for st X) (and_true (ltb 0 (scrambler_for st X)) _ passed).0

  -- each of its inputs passes
  inputs_pass : (d : ℕ) → d < (plan_for s).dbps → T (input_ok s.length (plan_for s).encoders (first_bit s st.symbol + d) (X d) (plain_of st X d))
  unfolding frame_right
  inputs_pass d l =
      let whole = true_T _ (and_true (ltb 0 (scrambler_for st X)) _ passed).1 in
      right_ok s.length (plan_for s).encoders (first_bit s st.symbol + d) (X d) (plain_of st X d)
      (framed_right s.length (plan_for s).encoders (first_bit s st.symbol) (plan_for s).dbps X (plain_of st X) whole d l)

-- ---- frames

some_symbol : (n size d : ℕ) → d < n * size → 0 < n
some_symbol zero size d l = absurd (omega (arith, l, zero-mul size))
some_symbol (suc n) size d l = omega arith

module _ (s : Settings) (right : Right s) (o : OpenSettings) where
  -- frames that agree before symbol n
  module _ (n : ℕ) (v : ℕ → ℕ) (seed : ℕ) (w : ℕ → ℕ) (seed' : ℕ) (agree : Agree s n v seed w seed') where
    -- have the same inputs before it
    pub agree_input : (d : ℕ) → d < first_bit s n → sent_input s w seed' d ≡ sent_input s v seed d
    agree_input d l =
        ap (λ (k : ℕ). sent_input s w k d) (agree.seeds (some_symbol n (plan_for s).dbps d l))
        ∙ input_local w v s.length (plan_for s).encoders (scrambler_bit seed d) d (λ h k. agree.bits (d - 16) (omega arith))

    -- the same histories and part of a byte
    agree_history : (j : ℕ) → j < (plan_for s).encoders
        → history_before (plan_for s) (sent_input s w seed') n j ≡ history_before (plan_for s) (sent_input s v seed) n j
    agree_history j l = history_local (plan_for s) (plan_fits s right) (sent_input s w seed') (sent_input s v seed) n j l agree_input

    agree_second : cond (ltb 1 (plan_for s).encoders) (history_before (plan_for s) (sent_input s w seed') n 1) 0
        ≡ cond (ltb 1 (plan_for s).encoders) (history_before (plan_for s) (sent_input s v seed) n 1) 0
    agree_second =
        ⊎_elim
        (λ (h : 1 < (plan_for s).encoders). ap (λ (k : ℕ). cond (ltb 1 (plan_for s).encoders) k 0) (agree_history 1 h))
        (λ (h : (plan_for s).encoders ≤ 1). simp (le-ltb 1 (plan_for s).encoders))
        (lt_or_le 1 (plan_for s).encoders)

    agree_part : part_of w (bits_before s n) ≡ part_of v (bits_before s n)
    agree_part = packed_ext w v (8 * (bits_before s n / 8)) (bits_before s n % 8) (λ k l. agree.bits _ (omega arith))

  -- the same scrambler
  agree_scrambler : (n : ℕ) (v : ℕ → ℕ) (seed : ℕ) (w : ℕ → ℕ) (seed' : ℕ) → Agree s n v seed w seed'
      → cond (eqb n 0) 0 (state_at seed' (first_bit s n)) ≡ cond (eqb n 0) 0 (state_at seed (first_bit s n))
  agree_scrambler zero v seed w seed' agree = refl
  agree_scrambler (suc n) v seed w seed' agree = ap (λ (k : ℕ). cond (eqb (suc n) 0) 0 (state_at k (first_bit s (suc n)))) (agree.seeds (omega arith))

  -- and the same state
  pub agree_state : (n : ℕ) (v : ℕ → ℕ) (seed : ℕ) (w : ℕ → ℕ) (seed' : ℕ) → Agree s n v seed w seed' → state_after o s w seed' n ≡ state_after o s v seed n
  unfolding state_after
  agree_state n v seed w seed' agree =
      let first = agree_history n v seed w seed' agree 0 (encoders_some (plan_for s).encoders (plan_fits s right).encoders) in
      let second = agree_second n v seed w seed' agree in
      let scrambler = agree_scrambler n v seed w seed' agree in
      let part = agree_part n v seed w seed' agree in
      λ i. record {
        settings = o;
        symbol = n;
        ended = eqb n (symbols_of s);
        histories = first i ∷ (second i ∷ []);
        scrambler = scrambler i;
        part = part i;
      }

  -- an accepted symbol n, after symbols of the frame of v and a seed
  module _ (n : ℕ) (v : ℕ → ℕ) (seed : ℕ) (v-bit : (k : ℕ) → v k < 2) (lab : ℕ → ℕ → ℕ)
      (lab-bit : (i r : ℕ) → i < (plan_for s).streams → r < (plan_for s).block → lab i r < 2)
      (decoded : decodes (plan_for s) (history_of (state_after o s v seed n)) lab ≡ true)
      (passed : frame_right s (state_after o s v seed n) (heard_input s (state_after o s v seed n) lab) ≡ true) where
    -- its inputs, and the scrambler at its first bit
    abbrev heard : ℕ → ℕ
    heard = heard_input s (state_after o s v seed n) lab

    abbrev shown : ℕ
    shown = scrambler_for (state_after o s v seed n) heard

    heard_bit : (d : ℕ) → heard d < 2
    heard_bit d = decoded_bit (plan_for s) (history_of (state_after o s v seed n)) lab d

    -- the payload
    abbrev payload : ℕ → ℕ
    payload = joined s.length (first_bit s n) v (plain_bit shown heard)

    passes : (d : ℕ) → d < (plan_for s).dbps → T (input_ok s.length (plan_for s).encoders (first_bit s n + d) (heard d) (plain_bit shown heard d))
    passes d l =
        subst (λ (k : ℕ). T (input_ok s.length (plan_for s).encoders (first_bit s k + d) (heard d) (plain_bit shown heard d))) (symbol_is s o v seed n)
        (inputs_pass s (state_after o s v seed n) heard passed d l)

    -- with a seed that leads to its scrambler, it is of a frame that agrees
    module _ (seed' : ℕ) (seed-same : 0 < n → seed' ≡ seed) (leads : state_at seed' (first_bit s n) ≡ shown) where
      agrees : Agree s n v seed payload seed'
      agrees = record { bits = joined_old s.length (first_bit s n) v (plain_bit shown heard); seeds = seed-same }

      input_is : (d : ℕ) → d < (plan_for s).dbps → sent_input s payload seed' (first_bit s n + d) ≡ heard d
      input_is d l =
          ap (λ (b : ℕ). input_with payload s.length (plan_for s).encoders b (first_bit s n + d))
          (output_on seed' (first_bit s n) d ∙ ap (λ (k : ℕ). scrambler_bit k d) leads)
          ∙ joined_input s.length (plan_for s).encoders (first_bit s n) shown v heard d (heard_bit d) (passes d l)

      -- the label bits are those of the inputs heard after the state's histories, and these are the frame's
      is_sent : LabelsSent s payload seed' n lab
      is_sent i r h l =
          let p = plan_for s in
          let fits = plan_fits s right in
          decoded_labels p fits (history_of (state_after o s v seed n)) lab lab-bit (true_T _ decoded) i r h l
          ∙ after_same p fits (history_of (state_after o s v seed n)) (history_before p (sent_input s payload seed') n) heard
          (λ j b. histories_are s o v seed n right j b ∙ sym (agree_history n v seed payload seed' agrees j b)) i r
          ∙ after_local p fits (history_before p (sent_input s payload seed') n) heard (λ d. sent_input s payload seed' (first_bit s n + d)) (λ d b. sym (input_is d b)) i r h l
          ∙ sym (label_after_lem p fits (sent_input s payload seed') (sent_bit s payload seed') n i r)

      found_with : 0 < seed' → seed' < 128 → Found s n v seed lab
      found_with some small = record {
        w = payload;
        seed' = seed';
        w_bit = joined_bit s.length (first_bit s n) v (plain_bit shown heard) v-bit (λ d. omega arith);
        seed_some = some;
        seed_small = small;
        agree = agrees;
        sent = is_sent;
      }

  -- an accepted symbol is that of a frame that agrees with the one before it; at symbol 0 its seed is the one that the symbol shows
  pub found : (n : ℕ) (v : ℕ → ℕ) (seed : ℕ) → ((k : ℕ) → v k < 2) → 0 < seed → seed < 128
      → (lab : ℕ → ℕ → ℕ) → ((i r : ℕ) → i < (plan_for s).streams → r < (plan_for s).block → lab i r < 2)
      → decodes (plan_for s) (history_of (state_after o s v seed n)) lab ≡ true
      → frame_right s (state_after o s v seed n) (heard_input s (state_after o s v seed n) lab) ≡ true
      → Found s n v seed lab
  found zero v seed v-bit some small lab lab-bit decoded passed =
      let st = state_after o s v seed 0 in
      let X = heard_input s st lab in
      found_with 0 v seed v-bit lab lab-bit decoded passed (scrambler_for st X)
      (λ l. absurd (omega arith))
      (ap (state_at (scrambler_for st X)) (zero-mul (plan_for s).dbps) ∙ state_zero (scrambler_for st X))
      (scrambler_some s st X passed)
      (subst (λ (k : ℕ). k < 128) (scrambler_first st X (symbol_is s o v seed 0)) (seed_small X (decoded_bit (plan_for s) (history_of st) lab)))
  found (suc n) v seed v-bit some small lab lab-bit decoded passed =
      let st = state_after o s v seed (suc n) in
      found_with (suc n) v seed v-bit lab lab-bit decoded passed seed
      (λ l. refl)
      (sym (scrambler_carried s o v seed (suc n) (λ e. omega arith)) ∙ scrambler_later st (heard_input s st lab) (λ e. omega (arith, e, symbol_is s o v seed (suc n))))
      some small
