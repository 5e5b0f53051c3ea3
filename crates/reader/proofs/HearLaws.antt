-- The step from a symbol's label bits on and from its points on, and the whole step by its tests. Assumes nothing.
use Rattle.std.specs.Prelude.{Err, None, Ok, Option, Result, Some}
use Rattle.settings.specs.declared.settings.Refusal.{Refusal}
use Rattle.acceptance.specs.declared.accept.StepRefusal.TheVariants.{BadPoint, Refused as StepRefused}
use mathlib.Core.Path.{◌≡◌, ◌∙◌, refl, sym, ap, ap₂, subst}
use mathlib.Core.Bool.{Bool, true, false, cond, ◌||◌}
use mathlib.Core.List.{List, [], ◌∷◌}
use Prim.Native.Nat.{ℕ, zero, suc, ◌*◌, ◌/◌, ◌%◌, ◌<◌, ◌≤◌}
use native.Mathlib.Nat.{mul_comm, mod-lt, div-lt_iff_lt-mul}
use native.Mathlib.Omega.{arith}
use borrow.Author.Tests.{ltb-true, ltb-false}
use lib.Dec.{T, ltb, ltb→lt}
use lib.IntN.{ℤ}
use lib.Ieee.{Float}
use lib.ListN.{length, get_or}
use Rattle.laws.specs.Test.{every, both_left, both_right}
use Rattle.laws.specs.Filled.{Filled}
use Rattle.laws.specs.Least.{first_from}
use Rattle.laws.proofs.Filling.{fill_at}
use Rattle.laws.proofs.Reflect.{or_false}
use Rattle.chain.specs.declared.plan.Plan.{Plan}
use Rattle.chain.specs.Decoder.{decoded_input, decodes}
use Rattle.settings.specs.declared.settings.Refusal.TheVariants.{Room, Code, Closed}
use Rattle.settings.specs.declared.settings.Settings.{Settings}
use Rattle.settings.specs.Settings.{check_of, plan_for, Right}
use Rattle.settings.proofs.SettingsLaws.{plan_fits, planned_width}
use Rattle.subcarriers.specs.Subcarriers.{places_of, subcarrier_at}
use Rattle.subcarriers.proofs.SubcarrierLaws.{places_some}
use Rattle.pilots.proofs.PilotLaws.{streams_range}
use Rattle.frame.specs.Points.{floats_of}
use Rattle.detector.specs.Detected.{search_of, shown_bit, fails_at}
use Rattle.detector.specs.Asked.{BitsShown, SymbolBitsAsked}
use Rattle.decoder.specs.Decoded.{history_moved, SymbolInputsAsked}
use Rattle.deinterleaver.specs.Deinterleaved.{label_bit_in}
use Rattle.decoder.proofs.ExtLaws.{decoded_ext, decodes_ext, moved_ext}
use Rattle.reader_state.specs.declared.state.Reader.{Reader}
use Rattle.acceptance.specs.declared.accept.Stepped.{Stepped}
use Rattle.reader_state.specs.State.{InRange, open_raw, history_of, closed_of, ended_of}
use Rattle.acceptance.specs.Accepted.{answered, bytes_into, step_into_by, by_frame}
use Rattle.reader.specs.Step.{histories_after, heard_input, by_code, by_search, no_room, step_by, step_of, written_by, step_into}
use Rattle.acceptance.specs.Asked.{bit_numbered, HeardInputs, HearInputsAsked}
use Rattle.reader.specs.Asked.{HearBitsAsked, PointsAsked}
use Rattle.chain.proofs.DecodeLaws.{decoded_bit}
use Rattle.reader_state.proofs.StateLaws.{symbol_few}
use Rattle.acceptance.proofs.AcceptedLaws.{into_ext, frame_by}

module _ (s : Settings) (right : Right s) (st : Reader) where
  -- by the symbol's own inputs
  histories_by : (X X' : ℕ → ℕ) → ((d : ℕ) → d < (plan_for s).dbps → X d ≡ X' d) → histories_after s st X ≡ histories_after s st X'
  histories_by X X' same =
      ap₂ (λ (a b : ℕ). a ∷ (b ∷ []))
      (moved_ext (plan_for s) (plan_fits s right) (history_of st) X X' same 0)
      (moved_ext (plan_for s) (plan_fits s right) (history_of st) X X' same 1)

  -- 10 is refused
  pub bits_refused : (lab : ℕ → ℕ → ℕ) (after : Reader) → decodes (plan_for s) (history_of st) lab ≡ false → after ≡ ended_of st
      → answered (Err (StepRefused Code)) after ≡ by_code s st lab
  bits_refused lab after e f = ap (answered (Err (StepRefused Code))) f ∙ simp e

  -- 10 is not, and the inputs that were decoded stand in a list
  module _ (lab : ℕ → ℕ → ℕ) (inputs : List ℕ) (filled : (d : ℕ) → d < (plan_for s).dbps → get_or inputs d 0 ≡ heard_input s st lab d) where
    pub bits_heard : (histories : List ℕ) (r : Stepped) (payload₀ payload : List ℕ) → decodes (plan_for s) (history_of st) lab ≡ true
        → histories ≡ histories_after s st (heard_input s st lab) → HeardInputs s st (bit_numbered inputs) histories r payload₀ payload
        → (r ≡ by_code s st lab) × (payload ≡ step_into_by r.answer (bytes_into s st (heard_input s st lab) payload₀) payload₀)
    bits_heard histories r payload₀ payload e f h = (
      h.stepped ∙ frame_by s right st (bit_numbered inputs) (heard_input s st lab) filled histories ∙ ap (by_frame s st (heard_input s st lab)) f ∙ simp e,
      h.written ∙ ap (λ (w : List ℕ). step_into_by r.answer w payload₀) (into_ext s right st (bit_numbered inputs) (heard_input s st lab) filled payload₀),
    )

  -- by the symbol's own label bits
  module _ (lab lab' : ℕ → ℕ → ℕ) (same : (i r : ℕ) → i < (plan_for s).streams → r < (plan_for s).block → lab i r ≡ lab' i r) where
    heard_same : (d : ℕ) → d < (plan_for s).dbps → heard_input s st lab d ≡ heard_input s st lab' d
    heard_same = decoded_ext (plan_for s) (plan_fits s right) (history_of st) lab lab' same

    pub code_by : by_code s st lab ≡ by_code s st lab'
    code_by =
        ap₂ (λ (t : Bool) (w : Stepped). cond t w (answered (Err (StepRefused Code)) (ended_of st)))
        (decodes_ext (plan_for s) (plan_fits s right) (history_of st) lab lab' same)
        (frame_by s right st (heard_input s st lab) (heard_input s st lab') heard_same (histories_after s st (heard_input s st lab))
        ∙ ap (by_frame s st (heard_input s st lab')) (histories_by (heard_input s st lab) (heard_input s st lab') heard_same))

    pub into_by : (payload : List ℕ) → bytes_into s st (heard_input s st lab) payload ≡ bytes_into s st (heard_input s st lab') payload
    into_by payload = into_ext s right st (heard_input s st lab) (heard_input s st lab') heard_same payload

  -- the search found a place
  pub points_refused : (points : List Float) (found : Option (ℕ × ℕ)) (i f : ℕ) (z : ℤ) (after : Reader) → found ≡ Some (i, f)
      → found ≡ search_of (plan_for s) points s.format st.symbol → z ≡ subcarrier_at s.width f → after ≡ ended_of st
      → answered (Err (BadPoint i z)) after ≡ by_search (search_of (plan_for s) points s.format st.symbol) s st points
  points_refused points found i f z after e g h k =
      ap₂ (λ (y : ℤ) (w : Reader). answered (Err (BadPoint i y)) w) h k ∙ ap (λ (x : Option (ℕ × ℕ)). by_search x s st points) (sym e ∙ g)

  -- the search found none
  pub points_heard : (points : List Float) (found : Option (ℕ × ℕ)) (bits₀ bits : List ℕ) (r : Stepped) (payload₀ payload : List ℕ) → found ≡ None
      → found ≡ search_of (plan_for s) points s.format st.symbol → BitsShown (plan_for s) points found bits₀ bits
      → (r ≡ by_code s st (label_bit_in (plan_for s) bits))
      × (payload ≡ step_into_by r.answer (bytes_into s st (heard_input s st (label_bit_in (plan_for s) bits)) payload₀) payload₀)
      → (r ≡ by_search (search_of (plan_for s) points s.format st.symbol) s st points)
      × (payload ≡ step_into_by r.answer (bytes_into s st (heard_input s st (shown_bit (plan_for s) points)) payload₀) payload₀)
  points_heard points found bits₀ bits r payload₀ payload e g shown h =
      let same = shown.shown e in (
        h.0 ∙ code_by (label_bit_in (plan_for s) bits) (shown_bit (plan_for s) points) same ∙ ap (λ (x : Option (ℕ × ℕ)). by_search x s st points) (sym e ∙ g),
        h.1 ∙ ap (λ (w : List ℕ). step_into_by r.answer w payload₀) (into_by (label_bit_in (plan_for s) bits) (shown_bit (plan_for s) points) same payload₀),
      )

-- ---- the calls by their tests

-- by the settings' answer
module _ (st : Reader) (points : List Float) (payload : List ℕ) (x : Result Settings Refusal) (known : x ≡ check_of (open_raw st.settings)) where
  pub step_as : (r : Stepped) (payload' : List ℕ) → r ≡ step_by x st points (length payload)
      → payload' ≡ step_into_by r.answer (written_by x st points payload) payload
      → (r ≡ step_of st points (length payload)) × (payload' ≡ step_into st points payload)
  step_as r payload' e w =
      let f : r ≡ step_of st points (length payload) = e ∙ ap (λ (y : Result Settings Refusal). step_by y st points (length payload)) known in (
        f,
        w ∙ ap (λ (y : Result Settings Refusal). step_into_by r.answer (written_by y st points payload) payload) known
            ∙ ap (λ (q : Stepped). step_into_by q.answer (written_by (check_of (open_raw st.settings)) st points payload) payload) f,
      )

-- by the tests of the state and of the room
module _ (s : Settings) (st : Reader) (points : List Float) where
  pub step_by_lem : (bytes : ℕ) (closed small : Bool) → closed ≡ closed_of s st → small ≡ no_room s (length points) bytes
      → cond closed (answered (Err (StepRefused Closed)) st)
      (cond small (answered (Err (StepRefused Room)) st) (by_search (search_of (plan_for s) points s.format st.symbol) s st points))
      ≡ step_by (Ok s) st points bytes
  step_by_lem bytes closed small e f =
      ap₂ (λ (a b : Bool). cond a (answered (Err (StepRefused Closed)) st)
      (cond b (answered (Err (StepRefused Room)) st) (by_search (search_of (plan_for s) points s.format st.symbol) s st points))) e f

-- ---- what the parts of the step ask of each other

-- a list of bits by one test
pub all_bits : (xs : List ℕ) → T (every (λ (x : ℕ). ltb x 2) xs) → (k : ℕ) → get_or xs k 0 < 2
all_bits [] t k = omega arith
all_bits (x ∷ xs) t zero = ltb→lt x 2 (both_left (ltb x 2) (every (λ (y : ℕ). ltb y 2) xs) t)
all_bits (x ∷ xs) t (suc k) = all_bits xs (both_right (ltb x 2) (every (λ (y : ℕ). ltb y 2) xs) t) k

-- both histories are six bits
six_bits : (histories : List ℕ) → get_or histories 0 0 < 64 → get_or histories 1 0 < 64 → (j : ℕ) → j < 2 → get_or histories j 0 < 64
six_bits histories h h' zero l = h
six_bits histories h h' (suc zero) l = h'
six_bits histories h h' (suc (suc j)) l = absurd (omega arith)

module _ (s : Settings) (st : Reader) (p : Plan) (plan : p ≡ plan_for s) where
  pub inputs_asked : (inputs bits payload : List ℕ) → HearBitsAsked s st bits payload → 2160 ≤ length inputs
      → SymbolInputsAsked inputs bits st.histories p
  inputs_asked inputs bits payload a room =
      let fits = plan_fits s a.right in
      rw plan (record {
        fits = fits;
        room = omega (arith, fits.dbps_most, room);
        whole_bits = a.whole_bits;
        one_bit = a.one_bit;
        six_bits = six_bits st.histories a.in_range.first_history a.in_range.second_history;
      })

  -- the inputs that were decoded, by their definition
  module _ (bits inputs₀ inputs : List ℕ) (filled : Filled 0 0 (decoded_input p (history_of st) (label_bit_in p bits)) p.dbps inputs₀ inputs) where
    pub inputs_at : (d : ℕ) → d < (plan_for s).dbps → get_or inputs d 0 ≡ heard_input s st (label_bit_in (plan_for s) bits) d
    inputs_at d l =
        fill_at 0 (decoded_input p (history_of st) (label_bit_in p bits)) filled d (rw plan l)
        ∙ ap (λ (q : Plan). decoded_input q (history_of st) (label_bit_in q bits) d) plan

    pub frame_asked : (payload : List ℕ) → HearBitsAsked s st bits payload → 2160 ≤ length inputs → HearInputsAsked s st inputs payload
    frame_asked payload a room = record {
      held = record {
        right = a.right;
        in_range = a.in_range;
        whole_inputs = omega (arith, (plan_fits s a.right).dbps_most, room);
        one_bit = λ d l. rw (inputs_at d l) (decoded_bit (plan_for s) (history_of st) (label_bit_in (plan_for s) bits) d);
      };
      whole_payload = a.whole_payload;
    }

  pub sound_by : (bits : List ℕ) (t : Bool) → t ≡ decodes p (history_of st) (label_bit_in p bits)
      → t ≡ decodes (plan_for s) (history_of st) (label_bit_in (plan_for s) bits)
  sound_by bits t e = e ∙ ap (λ (q : Plan). decodes q (history_of st) (label_bit_in q bits)) plan

  pub after_by : (bits histories : List ℕ)
      → histories ≡ history_moved p (history_of st) (decoded_input p (history_of st) (label_bit_in p bits)) 0
      ∷ (history_moved p (history_of st) (decoded_input p (history_of st) (label_bit_in p bits)) 1 ∷ [])
      → histories ≡ histories_after s st (heard_input s st (label_bit_in (plan_for s) bits))
  after_by bits histories e =
      e ∙ ap (λ (q : Plan). history_moved q (history_of st) (decoded_input q (history_of st) (label_bit_in q bits)) 0
      ∷ (history_moved q (history_of st) (decoded_input q (history_of st) (label_bit_in q bits)) 1 ∷ [])) plan

  pub points_asked : (bits : List ℕ) (points : List Float) → Right s → InRange s st → floats_of s ≤ length points → 2592 ≤ length bits
      → SymbolBitsAsked bits points p st.symbol
  points_asked bits points right inside whole room =
      let fits = plan_fits s right in
      rw plan (record {
        fits = fits;
        room = omega (arith, fits.coded_most, fits.coded_is, mul_comm (plan_for s).streams (plan_for s).block, room);
        whole_points = whole;
        near = omega (arith, symbol_few s right st.symbol inside.below_count);
      })

  pub search_by : (points : List Float) (found : Option (ℕ × ℕ)) → found ≡ search_of p points s.format st.symbol
      → found ≡ search_of (plan_for s) points s.format st.symbol
  search_by points found e = e ∙ ap (λ (q : Plan). search_of q points s.format st.symbol) plan

  pub shown_by : (points : List Float) (found : Option (ℕ × ℕ)) (bits₀ bits : List ℕ) → BitsShown p points found bits₀ bits
      → BitsShown (plan_for s) points found bits₀ bits
  shown_by points found bits₀ bits = subst (λ (q : Plan). BitsShown q points found bits₀ bits) plan

  pub labels_asked : (bits₀ bits : List ℕ) (points : List Float) (found : Option (ℕ × ℕ)) (payload : List ℕ) → PointsAsked s st points payload → 2592 ≤ length bits₀
      → T (every (λ (x : ℕ). ltb x 2) bits₀) → BitsShown p points found bits₀ bits → HearBitsAsked s st bits payload
  labels_asked bits₀ bits points found payload a room blank shown =
      let fits = plan_fits s a.right in
      record {
        right = a.right;
        in_range = a.in_range;
        whole_bits = omega (arith, fits.coded_most, fits.coded_is, mul_comm (plan_for s).streams (plan_for s).block, room, shown.same);
        one_bit = shown.bit (all_bits bits₀ blank);
        whole_payload = a.whole_payload;
      }

abbrev place_in : Option (ℕ × ℕ) → ℕ
place_in None = 0
place_in (Some (i, f)) = f

found_few : (t : Bool) (places k : ℕ) → 0 < places → place_in (cond t (Some (k / places, k % places)) None) < places
found_few true places k some = mod-lt k some
found_few false places k some = some

search_few : (p : Plan) (points : List Float) (format n : ℕ) → place_in (search_of p points format n) < places_of p.width
unfolding search_of
search_few p points format n =
    let places = places_of p.width in
    let total = p.streams * places in
    let k = first_from (fails_at p points format n) 0 total in
    found_few (ltb k total) places k (places_some p.width)

-- a place that the search found is one of the stream's
pub place_few : (s : Settings) (points : List Float) (n i f : ℕ) (found : Option (ℕ × ℕ)) → found ≡ Some (i, f) → found ≡ search_of (plan_for s) points s.format n
    → f < places_of s.width
place_few s points n i f found e g =
    rw (planned_width s) at (subst (λ (k : ℕ). k < places_of (plan_for s).width) (sym (ap place_in (sym e ∙ g))) (search_few (plan_for s) points s.format n))

-- the room, as the step tests it
module _ (s : Settings) (floats : ℕ) (counted : floats ≡ floats_of s) where
  pub room_by : (points bytes : ℕ) (t : Bool) → (ltb points floats || ltb bytes s.length) ≡ t → t ≡ no_room s points bytes
  room_by points bytes t e = sym e ∙ ap (λ (k : ℕ). ltb points k || ltb bytes s.length) counted

  pub room_found : (st : Reader) (points : List Float) (payload : List ℕ) → Right s → InRange s st
      → (ltb (length points) floats || ltb (length payload) s.length) ≡ false → PointsAsked s st points payload
  room_found st points payload right inside e =
      let f = or_false (ltb (length points) floats) (ltb (length payload) s.length) e in
      record {
        right = right;
        in_range = inside;
        whole_points = omega (arith, ltb-false (length points) floats f.0, counted);
        whole_payload = ltb-false (length payload) s.length f.1;
      }

abbrev stream_in : Option (ℕ × ℕ) → ℕ
stream_in None = 0
stream_in (Some (i, f)) = i

found_stream : (t : Bool) (streams places k : ℕ) → 0 < streams → 0 < places → (t ≡ true → k < streams * places)
    → stream_in (cond t (Some (k / places, k % places)) None) < streams
found_stream true streams places k some wide l = (div-lt_iff_lt-mul wide).1 (l refl)
found_stream false streams places k some wide l = some

search_stream : (p : Plan) (points : List Float) (format n : ℕ) → 0 < p.streams → stream_in (search_of p points format n) < p.streams
unfolding search_of
search_stream p points format n some =
    let places = places_of p.width in
    let total = p.streams * places in
    let k = first_from (fails_at p points format n) 0 total in
    found_stream (ltb k total) p.streams places k some (places_some p.width) (λ e. ltb-true k total e)

-- a stream that the search found is one of the plan's, and few
pub stream_few : (s : Settings) → Right s → (points : List Float) (n i f : ℕ) (found : Option (ℕ × ℕ)) → found ≡ Some (i, f)
    → found ≡ search_of (plan_for s) points s.format n → i < 4
stream_few s right points n i f found e g =
    let fits = plan_fits s right in
    let range = streams_range (plan_for s).streams fits.streams in
    omega (arith, subst (λ (k : ℕ). k < (plan_for s).streams) (sym (ap stream_in (sym e ∙ g))) (search_stream (plan_for s) points s.format n range.0), range.1)
