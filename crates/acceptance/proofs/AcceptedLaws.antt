-- The definitions from a symbol's inputs on look at the symbol's own inputs only, and what the code computes from lists is what they say. Assumes nothing.
use Rattle.std.specs.Prelude.{Err, None, Ok, Option, Result, Some}
use Rattle.acceptance.specs.declared.accept.StepRefusal.{StepRefusal}
use Rattle.acceptance.specs.declared.accept.StepRefusal.TheVariants.{Refused as StepRefused}
use mathlib.Core.Path.{◌≡◌, ◌∙◌, refl, sym, ap, ap₂}
use mathlib.Core.Bool.{Bool, true, false, cond, ◌&&◌}
use mathlib.Core.List.{List, ◌++◌}
use Prim.Native.Nat.{ℕ, ◌+◌, ◌-◌, ◌*◌, ◌/◌, ◌%◌, ◌<◌, ◌≤◌}
use native.Mathlib.Omega.{arith}
use Rattle.std.proofs.Common.{length-take}
use borrow.Author.Tests.{eq-eqb, ne_eqb}
use lib.Dec.{eqb, ltb}
use lib.ListN.{length, get_or, take, drop}
use Rattle.laws.specs.Firsts.{firsts}
use Rattle.laws.specs.Filled.{Filled}
use Rattle.laws.proofs.Firsts.{firsts_ext, fill_into}
use Rattle.laws.proofs.Filling.{fill_at}
use Rattle.chain.specs.declared.plan.Plan.{Plan}
use Rattle.chain.specs.Scrambler.{state_at, seed_of, scrambler_bit}
use Rattle.chain.proofs.Counts.{encoders_most}
use Rattle.chain.proofs.ScramblerLaws.{seed_ext}
use Rattle.settings.specs.declared.settings.Settings.{Settings}
use Rattle.settings.specs.declared.settings.Refusal.TheVariants.{Frame}
use Rattle.settings.specs.Settings.{plan_for, Right}
use Rattle.symbols.specs.Symbols.{symbols_of}
use Rattle.settings.proofs.SettingsLaws.{plan_fits}
use Rattle.deframer.specs.Deframed.{plain_bit, framed, PlainAsked, FramedAsked}
use Rattle.assembler.specs.Assembled.{payload_before, byte_of, part_of, known_bit}
use Rattle.assembler.proofs.Packing.{packed_ext}
use Rattle.deframer.proofs.Framing.{framed_ext}
use Rattle.assembler.proofs.KnownBits.{known_ext}
use Rattle.reader_state.specs.declared.state.Reader.{Reader}
use Rattle.acceptance.specs.declared.accept.Stepped.{Stepped}
use Rattle.reader_state.specs.State.{first_bit, ended_of}
use Rattle.acceptance.specs.Accepted.{answered, scrambler_for, plain_of, frame_right, bits_before, bits_after, known_of, part_left, bytes_left, bytes_into, step_into_by, moved_with, accepted_with, by_frame}
use Rattle.acceptance.specs.Asked.{bit_numbered, InputsHeld, ScramblerAsked, framed_in, RightAsked, PutBytesAsked, HeardInputs}
use Rattle.reader_state.proofs.StateLaws.{first_near, symbol_few}

module _ (s : Settings) (n part : ℕ) (P P' : ℕ → ℕ) (same : (d : ℕ) → d < (plan_for s).dbps → P d ≡ P' d) where
  known_same : (k : ℕ) → k < bits_after s n → known_of s n part P k ≡ known_of s n part P' k
  known_same = known_ext s.length (first_bit s n) (plan_for s).dbps part P P' same

  pub part_ext : part_left s n part P ≡ part_left s n part P'
  part_ext = packed_ext (known_of s n part P) (known_of s n part P') (8 * (bits_after s n / 8)) (bits_after s n % 8) (λ k l. known_same _ (omega arith))

  pub bytes_ext : (payload : List ℕ) → bytes_left s n part P payload ≡ bytes_left s n part P' payload
  bytes_ext payload =
      ap (λ (l : List ℕ). take (bits_before s n / 8) payload ++ (l ++ drop (bits_after s n / 8) payload))
      (firsts_ext _ _ (bits_after s n / 8 - bits_before s n / 8) (λ k l.
      packed_ext (known_of s n part P) (known_of s n part P') (8 * (bits_before s n / 8 + k)) 8 (λ t b. known_same _ (omega (arith, l, b)))))

-- the plan has at least the seven inputs that show a seed
seven : (s : Settings) → Right s → 7 ≤ (plan_for s).dbps
seven s r = omega (arith, (plan_fits s r).dbps_some)

-- everything from the inputs on goes by the symbol's own inputs
module _ (s : Settings) (right : Right s) (st : Reader) (X X' : ℕ → ℕ) (same : (d : ℕ) → d < (plan_for s).dbps → X d ≡ X' d) where
  pub scrambler_ext : scrambler_for st X ≡ scrambler_for st X'
  unfolding scrambler_for
  scrambler_ext = ap (λ (k : ℕ). cond (eqb st.symbol 0) k st.scrambler) (seed_ext X X' (λ k l. same k (omega (arith, seven s right))))

  pub plain_ext : (d : ℕ) → d < (plan_for s).dbps → plain_of st X d ≡ plain_of st X' d
  plain_ext d l = ap₂ (λ (x k : ℕ). (x + scrambler_bit k d) % 2) (same d l) scrambler_ext

  pub frame_ext : frame_right s st X ≡ frame_right s st X'
  unfolding frame_right
  frame_ext =
      ap₂ (λ (k : ℕ) (b : Bool). ltb 0 k && b) scrambler_ext
      (framed_ext s.length (plan_for s).encoders (first_bit s st.symbol) (plan_for s).dbps X (plain_of st X) X' (plain_of st X') same plain_ext)

  pub left_ext : part_left s st.symbol st.part (plain_of st X) ≡ part_left s st.symbol st.part (plain_of st X')
  left_ext = part_ext s st.symbol st.part (plain_of st X) (plain_of st X') plain_ext

  pub into_ext : (payload : List ℕ) → bytes_into s st X payload ≡ bytes_into s st X' payload
  unfolding bytes_into
  into_ext payload = bytes_ext s st.symbol st.part (plain_of st X) (plain_of st X') plain_ext payload

  pub frame_by : (histories : List ℕ) → by_frame s st X histories ≡ by_frame s st X' histories
  frame_by histories =
      ap₂ (λ (t : Bool) (w : Stepped). cond t w (answered (Err (StepRefused Frame)) (ended_of st))) frame_ext
      (ap₂ answered (ap (accepted_with st) scrambler_ext) (ap₂ (moved_with s st histories) scrambler_ext left_ext))

-- ---- what the code computes

-- the scrambler at the symbol's first bit
module _ (st : Reader) (X : ℕ → ℕ) where
  pub scrambler_first : st.symbol ≡ 0 → seed_of X ≡ scrambler_for st X
  unfolding scrambler_for
  scrambler_first e = simp (eq-eqb st.symbol 0 e)

  pub scrambler_later : (st.symbol ≡ 0 → ⊥) → st.scrambler ≡ scrambler_for st X
  unfolding scrambler_for
  scrambler_later n = simp (ne_eqb st.symbol 0 n)

-- a plan by its definition
module _ (s : Settings) (p : Plan) (plan : p ≡ plan_for s) where
  pub framed_by : (n : ℕ) (inputs plain : List ℕ) (r : Bool)
      → r ≡ framed s.length p.encoders (n * p.dbps) p.dbps (λ d. get_or inputs d 0) (λ d. get_or plain d 0)
      → r ≡ framed_in s n inputs plain
  framed_by n inputs plain r e =
      e ∙ ap (λ (q : Plan). framed s.length q.encoders (n * q.dbps) q.dbps (λ d. get_or inputs d 0) (λ d. get_or plain d 0)) plan

  pub framed_asked : (n : ℕ) (inputs plain : List ℕ) → n < 32768 → RightAsked s n inputs plain
      → FramedAsked inputs plain s.length p.encoders (n * p.dbps) p.dbps
  framed_asked n inputs plain few a =
      let fits = plan_fits s a.right in
      rw plan (record {
        whole_inputs = a.whole_inputs;
        whole_plain = a.whole_plain;
        few = fits.dbps_most;
        near = omega (arith, first_near s a.right n few);
        short = omega (arith, a.right.length_most);
        one_or_two = encoders_most (plan_for s).encoders fits.encoders;
      })

  -- the bytes that are put, as one list
  pub bytes_by : (n part : ℕ) (plain payload₀ payload : List ℕ) → s.length ≤ length payload₀
      → Filled 0 (payload_before s.length (n * p.dbps) / 8)
      (λ k. byte_of (known_bit s.length (n * p.dbps) part (λ d. get_or plain d 0)) (payload_before s.length (n * p.dbps) / 8 + k))
      (payload_before s.length (n * p.dbps + p.dbps) / 8 - payload_before s.length (n * p.dbps) / 8) payload₀ payload
      → payload ≡ bytes_left s n part (bit_numbered plain) payload₀
  bytes_by n part plain payload₀ payload room f =
      let from = bits_before s n / 8 in
      let to = bits_after s n / 8 in
      let on : from + (to - from) ≡ to = omega arith in
      fill_into 0 from (λ k. byte_of (known_of s n part (bit_numbered plain)) (from + k)) (to - from) payload₀ payload (omega (arith, room)) (rw plan at f)
      ∙ ap (λ (k : ℕ). take from payload₀ ++ (firsts (λ j. byte_of (known_of s n part (bit_numbered plain)) (from + j)) (to - from) ++ drop k payload₀)) on

  pub left_by : (n part : ℕ) (plain : List ℕ) (r : ℕ)
      → r ≡ part_of (known_bit s.length (n * p.dbps) part (λ d. get_or plain d 0)) (payload_before s.length (n * p.dbps + p.dbps))
      → r ≡ part_left s n part (bit_numbered plain)
  left_by n part plain r e =
      e ∙ ap (λ (q : Plan). part_of (known_bit s.length (n * q.dbps) part (λ d. get_or plain d 0)) (payload_before s.length (n * q.dbps + q.dbps))) plan

  -- the state after the symbol
  pub moved_by : (st : Reader) (histories : List ℕ) (count scrambler next part : ℕ) → count ≡ symbols_of s → next ≡ state_at scrambler p.dbps
      → record {
        settings = st.settings;
        symbol = st.symbol + 1;
        ended = eqb (st.symbol + 1) count;
        histories = histories;
        scrambler = next;
        part = part;
      } ≡ moved_with s st histories scrambler part
  moved_by st histories count scrambler next part e f =
      let f' : next ≡ state_at scrambler (plan_for s).dbps = f ∙ ap (λ (q : Plan). state_at scrambler q.dbps) plan in
      λ i. record {
        settings = st.settings;
        symbol = st.symbol + 1;
        ended = eqb (st.symbol + 1) (e i);
        histories = histories;
        scrambler = f' i;
        part = part;
      }

-- an accepted symbol's bytes are written, whichever symbol it is
into_accepted : (b : Bool) (k : ℕ) (written payload : List ℕ) → written ≡ step_into_by (cond b (Ok (Some k)) (Ok None)) written payload
into_accepted true k written payload = refl
into_accepted false k written payload = refl

-- from the symbol's inputs X on: the scrambler k, and plain bits in a list
module _ (s : Settings) (right : Right s) (st : Reader) (X : ℕ → ℕ) (histories plain : List ℕ) (k : ℕ) (scrambler_is : k ≡ scrambler_for st X)
    (filled : (d : ℕ) → d < (plan_for s).dbps → get_or plain d 0 ≡ plain_bit k X d) where
  plain_is : (d : ℕ) → d < (plan_for s).dbps → bit_numbered plain d ≡ plain_of st X d
  plain_is d l = filled d l ∙ ap (λ (j : ℕ). plain_bit j X d) scrambler_is

  abbrev tested : Bool
  tested = ltb 0 k && framed s.length (plan_for s).encoders (first_bit s st.symbol) (plan_for s).dbps X (bit_numbered plain)

  tested_is : tested ≡ frame_right s st X
  unfolding frame_right
  tested_is =
      ap₂ (λ (j : ℕ) (b : Bool). ltb 0 j && b) scrambler_is
      (framed_ext s.length (plan_for s).encoders (first_bit s st.symbol) (plan_for s).dbps X (bit_numbered plain) X (plain_of st X) (λ d l. refl) plain_is)

  pub heard_refused : (after : Reader) (payload : List ℕ) → tested ≡ false → after ≡ ended_of st
      → HeardInputs s st X histories (record { answer = Err (StepRefused Frame); state = after }) payload payload
  heard_refused after payload e f =
      let wrong : frame_right s st X ≡ false = sym tested_is ∙ e in
      record { stepped = ap (answered (Err (StepRefused Frame))) f ∙ simp wrong; written = refl }

  pub heard_accepted : (answer : Result (Option ℕ) StepRefusal) (after : Reader) (part : ℕ) (payload₀ payload : List ℕ) → tested ≡ true
      → answer ≡ accepted_with st k → after ≡ moved_with s st histories k part → part ≡ part_left s st.symbol st.part (bit_numbered plain)
      → payload ≡ bytes_left s st.symbol st.part (bit_numbered plain) payload₀
      → HeardInputs s st X histories (record { answer = answer; state = after }) payload₀ payload
  unfolding bytes_into
  heard_accepted answer after part payload₀ payload e f g h w =
      let good : frame_right s st X ≡ true = sym tested_is ∙ e in
      let left : part ≡ part_left s st.symbol st.part (plain_of st X) =
      h ∙ part_ext s st.symbol st.part (bit_numbered plain) (plain_of st X) plain_is in
      record {
        stepped =
            ap₂ answered (f ∙ ap (accepted_with st) scrambler_is) (g ∙ ap₂ (moved_with s st histories) scrambler_is left) ∙ simp good;
        written =
            w ∙ bytes_ext s st.symbol st.part (bit_numbered plain) (plain_of st X) plain_is payload₀
            ∙ into_accepted (eqb st.symbol 0) k (bytes_left s st.symbol st.part (plain_of st X) payload₀) payload₀
            ∙ ap (λ (a : Result (Option ℕ) StepRefusal). step_into_by a (bytes_left s st.symbol st.part (plain_of st X) payload₀) payload₀) (sym f);
      }

-- the plain bits that were put, and that they are bits
module _ (s : Settings) (p : Plan) (plan : p ≡ plan_for s) (k : ℕ) (X : ℕ → ℕ) (plain₀ plain : List ℕ)
    (filled : Filled 0 0 (plain_bit k X) p.dbps plain₀ plain) where
  pub plain_at : (d : ℕ) → d < (plan_for s).dbps → get_or plain d 0 ≡ plain_bit k X d
  plain_at d l = fill_at 0 (plain_bit k X) filled d (rw plan l)

  pub plain_small : (d : ℕ) → d < (plan_for s).dbps → get_or plain d 0 < 2
  plain_small d l = rw (plain_at d l) (omega arith)

-- what the parts of the step ask of each other
module _ (s : Settings) (st : Reader) (inputs : List ℕ) (held : InputsHeld s st inputs) where
  pub scrambler_asked : ScramblerAsked st inputs
  scrambler_asked =
      let some = seven s held.right in
      record {
        seven = omega (arith, some, held.whole_inputs);
        one_bit = λ d l. held.one_bit d (omega (arith, l, some));
        known = held.in_range.scrambler_most;
      }

  -- its bits are few
  pub few_bits : (p : Plan) → p ≡ plan_for s → p.dbps ≤ 2160
  few_bits p plan = rw plan (plan_fits s held.right).dbps_most

  pub plain_asked : (p : Plan) → p ≡ plan_for s → (plain : List ℕ) (k : ℕ) → 2160 ≤ length plain → k < 128
      → PlainAsked (take p.dbps plain) inputs k
  plain_asked p plan plain k room small =
      let most = (plan_fits s held.right).dbps_most in
      let sized : length (take (plan_for s).dbps plain) ≡ (plan_for s).dbps = simp length-take (omega (arith, most, room)) in
      rw plan (record {
        whole_inputs = omega (arith, sized, held.whole_inputs);
        few = omega (arith, sized, most);
        in_range = small;
        bits = λ d l. held.one_bit d (omega (arith, sized, l));
      })

  pub right_asked : (plain : List ℕ) → 2160 ≤ length plain → RightAsked s st.symbol inputs plain
  right_asked plain room = record {
    right = held.right;
    below_count = held.in_range.below_count;
    whole_inputs = held.whole_inputs;
    whole_plain = omega (arith, (plan_fits s held.right).dbps_most, room);
  }

  pub bytes_asked : (payload plain : List ℕ) → s.length ≤ length payload → 2160 ≤ length plain
      → ((d : ℕ) → d < (plan_for s).dbps → get_or plain d 0 < 2) → PutBytesAsked payload s st.symbol st.part plain
  bytes_asked payload plain whole room bits =
      let most = (plan_fits s held.right).dbps_most in
      let few = symbol_few s held.right st.symbol held.in_range.below_count in
      record {
        right = held.right;
        below_count = held.in_range.below_count;
        asked = record {
          whole_payload = whole;
          short = omega (arith, held.right.length_most);
          whole_plain = omega (arith, most, room);
          few = most;
          near = omega (arith, first_near s held.right st.symbol few);
          bits = bits;
          part_fits = held.in_range.part_fits;
        };
      }
