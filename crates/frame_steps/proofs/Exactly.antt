-- Demand 2 of a whole frame's slices, and the refusals of its reading in their order: the terms of specs/Statements. Assumes nothing.
use Rattle.std.specs.Prelude.{Err, None, Ok, Option, Result, Some}
use Rattle.frame_steps.specs.declared.steps.FrameRefusal.{FrameRefusal}
use Rattle.settings.specs.declared.settings.Settings.{Settings}
use Rattle.acceptance.specs.declared.accept.StepRefusal.{StepRefusal}
use Rattle.frame_steps.specs.declared.steps.FrameRefusal.TheVariants.{BadPoint as BadPointAt, BadSymbol, Refused as FrameRefused}
use Rattle.acceptance.specs.declared.accept.StepRefusal.TheVariants.{BadPoint, Refused as StepRefused}
use mathlib.Core.Path.{◌≡◌, ◌∙◌, refl, sym, ap, subst}
use mathlib.Core.Bool.{Bool, true, false, cond}
use mathlib.Core.List.{List, ◌++◌}
use mathlib.Core.Logic.{◌⊎◌, ⊎_elim}
use Prim.Native.Nat.{ℕ, ◌+◌, ◌-◌, ◌*◌, ◌<◌}
use native.Mathlib.Omega.{arith}
use borrow.Author.Tests.{le-ltb, ltb-false, eqb-true, eqb-false}
use lib.Dec.{eqb, ltb}
use lib.ListN.{length, take, drop}
use lib.Seq.{take-length}
use lib.Ieee.{Float}
use Rattle.laws.specs.Firsts.{firsts}
use Rattle.laws.proofs.Firsts.{fill_list}
use Rattle.laws.proofs.Reflect.{or_false}
use Rattle.laws.proofs.Search.{AllBelow, FirstFailing, search_below}
use Rattle.chain.specs.DataBits.{payload_bit}
use Rattle.settings.specs.declared.settings.Refusal.{Refusal}
use Rattle.settings.specs.declared.settings.Refusal.TheVariants.{Room}
use Rattle.settings.specs.Settings.{check_of}
use Rattle.symbols.specs.Symbols.{symbols_of}
use Rattle.symbols.proofs.CountLaws.{symbols_some}
use Rattle.frame.specs.Points.{floats_of}
use Rattle.assembler.specs.Assembled.{byte_of}
use Rattle.reader_state.specs.declared.state.OpenSettings.{OpenSettings}
use Rattle.reader_state.specs.State.{open_raw, start_by, start_number}
use Rattle.reader.specs.Step.{step_number, step_seed, step_stream, step_subcarrier}
use Rattle.reader_runs.specs.Sent.{settings_for}
use Rattle.reader_runs.proofs.Steps.{sound}
use Rattle.verdicts.proofs.StepCases.{accepted_zero}
use Rattle.reader_runs.proofs.Runs.{run_takes, run_refused}
use Rattle.reader_runs.proofs.Payloads.{first_bytes}
use Rattle.demands.specs.Demand2.{Begun, IsFrame}
use Rattle.demands.proofs.Reading.{begun_ready}
use Rattle.demands.proofs.Demand2.{gives_all, demand_2a}
use Rattle.frame_steps.specs.WholeFrame.{symbol_at, answer_at, memory_at, refused_as, symbols_answer, frame_no_room, read_frame_by}
use Rattle.frame_steps.specs.WholeFrame.{read_frame_of, frame_into_by, read_frame_into}
use Rattle.frame_steps.specs.WholeFrame.{frame_number, frame_seed, frame_symbol, frame_stream, frame_subcarrier}
use Rattle.frame_steps.specs.Statements.{RoomForFrame, GivesFrame, ReadsFrame, SymbolRefused, FrameRefusals}
use Rattle.frame_steps.proofs.AnswerLaws.{answer_at_lem, answer_read, none_refused}
use Rattle.frame_steps.proofs.FrameLaws.{rooms, payload_read}
use Rattle.frame_steps.proofs.LoopLaws.{refusal_some}

-- ---- with room the answer is the symbols'

room_false : (o : OpenSettings) (floats bytes : ℕ) → RoomForFrame o floats bytes → frame_no_room (settings_for o) floats bytes ≡ false
room_false o floats bytes room =
    simp (le-ltb floats (symbols_of (settings_for o) * floats_of (settings_for o)) room.0, le-ltb bytes o.length room.1)

answer_by : (o : OpenSettings) → Begun o → (points : List Float) (bytes : ℕ) (t : Bool) → frame_no_room (settings_for o) (length points) bytes ≡ t
    → read_frame_of o points bytes ≡ cond t (Err (FrameRefused Room)) (symbols_answer o points bytes)
answer_by o begun points bytes t e =
    ap (λ (x : Result Settings Refusal). read_frame_by x o points bytes) (begun_ready o begun)
    ∙ ap (λ (b : Bool). cond b (Err (FrameRefused Room)) (symbols_answer o points bytes)) e

-- a payload is the bytes that its bits write
own_bytes : (o : OpenSettings) (seed : ℕ) (p : List ℕ) → IsFrame o seed p → firsts (byte_of (payload_bit p)) o.length ≡ p
own_bytes o seed p (some, (most, (long, small))) =
    first_bytes p o.length (omega (arith, long)) small ∙ ap (λ (k : ℕ). take k p) (sym long) ∙ take-length p

module _ (o : OpenSettings) (points : List Float) (payload : List ℕ) (begun : Begun o) (room : RoomForFrame o (length points) (length payload)) where
  ready : check_of (open_raw o) ≡ Ok (settings_for o)
  ready = begun_ready o begun

  abbrev S : ℕ → List Float
  S = symbol_at (settings_for o) points

  abbrev count : ℕ
  count = symbols_of (settings_for o)

  some_symbol : 0 < count
  some_symbol = symbols_some (settings_for o) (sound o ready)

  answer_is : read_frame_of o points (length payload) ≡ symbols_answer o points (length payload)
  answer_is = answer_by o begun points (length payload) false (room_false o (length points) (length payload) room)

  -- a frame that gives the symbols is read
  module _ (seed : ℕ) (p : List ℕ) (frame : IsFrame o seed p) (gives : GivesFrame o seed p points) where
    answers : (n : ℕ) → n < count → answer_at o points (length payload) n ≡ cond (eqb n 0) (Ok (Some seed)) (Ok None)
    answers n l =
        run_takes o ready S (λ k. length payload) count (omega arith) (rooms o ready points room.0 (length payload) room.1 count (omega arith))
        (gives_all o ready S count (omega arith) seed p frame gives) n l

    pub frame_read : read_frame_of o points (length payload) ≡ Ok seed
    frame_read =
        answer_is
        ∙ answer_read o points (length payload) (λ n l. ap step_number (answers n l) ∙ accepted_zero (eqb n 0) seed)
        ∙ ap (λ (a : Result (Option ℕ) StepRefusal). Ok (step_seed a)) (answers 0 some_symbol)

    pub frame_left : read_frame_into o points payload ≡ p ++ drop o.length payload
    frame_left =
        ap (λ (r : Result ℕ FrameRefusal). frame_into_by r (memory_at o points count payload) payload) frame_read
        ∙ fill_list 0 (byte_of (payload_bit p)) o.length payload (memory_at o points count payload) room.1
        (payload_read o ready points room.0 (gives_all o ready S count (omega arith) seed p frame gives) payload room.1)
        ∙ ap (λ (l : List ℕ). l ++ drop o.length payload) (own_bytes o seed p frame)

  -- and a frame that is read is given by one
  pub frame_given : (seed : ℕ) → read_frame_of o points (length payload) ≡ Ok seed → (seed' : ℕ) × ((p : List ℕ) × (IsFrame o seed' p × GivesFrame o seed' p points))
  frame_given seed e =
      let all = none_refused o points (length payload) seed (sym answer_is ∙ e) in
      let fill = rooms o ready points room.0 (length payload) room.1 count (omega arith) in
      let g = (demand_2a o S (λ k. payload) (count - 1) begun (omega (arith, some_symbol)) (λ n l. fill n (omega (arith, l, some_symbol)))).0
      (λ n l. all n (omega (arith, l, some_symbol))) in
      (g.0, (g.1.0, (g.1.1.0, λ n l. g.1.1.1 n (omega (arith, l)))))

-- an answer that is no seed writes nothing
pub unread : (r : Result ℕ FrameRefusal) (read payload : List ℕ) → ((seed : ℕ) → r ≡ Ok seed → ⊥) → frame_into_by r read payload ≡ payload
unread (Ok seed) read payload n = absurd (n seed refl)
unread (Err (BadPointAt m i z)) read payload n = refl
unread (Err (BadSymbol m r)) read payload n = refl
unread (Err (FrameRefused r)) read payload n = refl

-- an answer of number 0 has read a seed
pub read_shown : (r : Result ℕ FrameRefusal) (seed : ℕ) → frame_number r ≡ 0 → frame_seed r ≡ seed → r ≡ Ok seed
read_shown (Ok k) seed z e = ap Ok e
read_shown (Err (BadPointAt n i y)) seed z e = absurd (omega (arith, z))
read_shown (Err (BadSymbol n r)) seed z e = absurd (refusal_some r z)
read_shown (Err (FrameRefused r)) seed z e = absurd (refusal_some r z)

-- demand 2 of the slices
pub reads_frame : (o : OpenSettings) (points : List Float) (payload : List ℕ) → ReadsFrame o points (read_frame_of o points (length payload)) payload (read_frame_into o points payload)
reads_frame o points payload = (
  λ begun room. (
    (
      λ (seed, e). frame_given o points payload begun room seed (read_shown r seed e.0 e.1),
      λ (seed, (p, (frame, gives))). (seed, shown seed (frame_read o points payload begun room seed p frame gives)),
    ),
    λ seed p frame gives. (
      shown seed (frame_read o points payload begun room seed p frame gives),
      frame_left o points payload begun room seed p frame gives,
    ),
  ),
  λ none. unread r (memory_at o points (symbols_of (settings_for o)) payload) payload (λ seed e. none seed (shown seed e)),
)
  where
    r : Result ℕ FrameRefusal
    r = read_frame_of o points (length payload)

    shown : (seed : ℕ) → r ≡ Ok seed → (frame_number r ≡ 0) × (frame_seed r ≡ seed)
    shown seed e = (ap frame_number e, ap frame_seed e)

-- ---- refusals

-- the values of a refused symbol
symbol_number : (n : ℕ) (a : Result (Option ℕ) StepRefusal) → (step_number a ≡ 0 → ⊥)
    → (frame_number (refused_as n a) ≡ step_number a) × (frame_symbol (refused_as n a) ≡ n)
symbol_number n (Ok (Some seed)) r = absurd (r refl)
symbol_number n (Ok None) r = absurd (r refl)
symbol_number n (Err (BadPoint i z)) r = (refl, refl)
symbol_number n (Err (StepRefused e)) r = (refl, refl)

symbol_place : (n : ℕ) (a : Result (Option ℕ) StepRefusal)
    → (frame_stream (refused_as n a) ≡ step_stream a) × (frame_subcarrier (refused_as n a) ≡ step_subcarrier a)
symbol_place n (Ok (Some seed)) = (refl, refl)
symbol_place n (Ok None) = (refl, refl)
symbol_place n (Err (BadPoint i z)) = (refl, refl)
symbol_place n (Err (StepRefused e)) = (refl, refl)

abbrev start_refusal : Result Settings Refusal → OpenSettings → (points : List Float) (bytes : ℕ) → Type 0
start_refusal x o points bytes = (e : Refusal) → (start_by x o).answer ≡ Err e → read_frame_by x o points bytes ≡ Err (FrameRefused e)

start_refused : (x : Result Settings Refusal) (o : OpenSettings) (points : List Float) (bytes : ℕ) → start_refusal x o points bytes
start_refused (Ok s) o points bytes e g = let z : ◌≡◌ {A = ℕ} 0 1 = cc in absurd (omega arith)
start_refused (Err r) o points bytes e g = let same : r ≡ e = cc in ap (λ (k : Refusal). Err (FrameRefused k)) same

room_or_not : (o : OpenSettings) (floats bytes : ℕ) → frame_no_room (settings_for o) floats bytes ≡ false → RoomForFrame o floats bytes
room_or_not o floats bytes e =
    let f = or_false (ltb floats (symbols_of (settings_for o) * floats_of (settings_for o))) (ltb bytes o.length) e in
    (ltb-false floats (symbols_of (settings_for o) * floats_of (settings_for o)) f.0, ltb-false bytes o.length f.1)

-- a begun reader with room for the whole frame
module _ (o : OpenSettings) (points : List Float) (bytes : ℕ) (begun : Begun o) (room : RoomForFrame o (length points) bytes) where
  symbols_answer_lem : read_frame_of o points bytes ≡ symbols_answer o points bytes
  symbols_answer_lem = answer_by o begun points bytes false (room_false o (length points) bytes room)

  named : (n : ℕ) → n < symbols_of (settings_for o) → ((k : ℕ) → k < n → step_number (answer_at o points bytes k) ≡ 0)
      → (step_number (answer_at o points bytes n) ≡ 0 → ⊥) → SymbolRefused (read_frame_of o points bytes) n (answer_at o points bytes n)
  named n l accepted refused =
      let ready = begun_ready o begun in
      let a = answer_at o points bytes n in
      let is = symbols_answer_lem ∙ answer_at_lem o points bytes n l accepted refused in
      let number = ap frame_number is ∙ (symbol_number n a refused).0 in
      record {
        answered = is;
        number = number;
        nine_to_eleven = subst (λ (k : ℕ). (k ≡ 9) ⊎ ((k ≡ 10) ⊎ (k ≡ 11))) (sym number)
            (run_refused o ready (symbol_at (settings_for o) points) (λ k. bytes) n l
            (rooms o ready points room.0 bytes room.1 (n + 1) (omega (arith, l))) accepted refused);
        symbol = ap frame_symbol is ∙ (symbol_number n a refused).1;
        stream = ap frame_stream is ∙ (symbol_place n a).0;
        subcarrier = ap frame_subcarrier is ∙ (symbol_place n a).1;
      }

  -- its answer is no 8
  not_eight : frame_number (read_frame_of o points bytes) ≡ 8 → ⊥
  not_eight e =
      ⊎_elim
      (λ (all : AllBelow accepts (symbols_of (settings_for o))).
      let zero : frame_number (read_frame_of o points bytes) ≡ 0
      = ap frame_number
      (symbols_answer_lem ∙ answer_read o points bytes (λ k l. eqb-true (step_number (answer_at o points bytes k)) 0 (all k l))) in
      omega (arith, e))
      (λ (w : FirstFailing accepts (symbols_of (settings_for o))).
      ⊎_elim (λ z. omega (arith, e, z)) (⊎_elim (λ z. omega (arith, e, z)) (λ z. omega (arith, e, z)))
      (named w.at w.below (λ k l. eqb-true (step_number (answer_at o points bytes k)) 0 (w.passed k l))
      (eqb-false (step_number (answer_at o points bytes w.at)) 0 w.fails)).nine_to_eleven)
      (search_below accepts (symbols_of (settings_for o)))
    where
      accepts : ℕ → Bool
      accepts k = eqb (step_number (answer_at o points bytes k)) 0

pub frame_refusals : FrameRefusals
frame_refusals o points bytes = (
  λ e g. let is = start_refused (check_of (open_raw o)) o points bytes e g in (is, ap frame_number is ∙ sym (ap start_number g)),
  λ begun. (
    (λ e room. not_eight o points bytes begun room e, λ none. ap frame_number (short begun none)),
    (λ e. short begun (λ room. not_eight o points bytes begun room e), λ room. named o points bytes begun room),
  ),
)
  where
    short : Begun o → (RoomForFrame o (length points) bytes → ⊥) → read_frame_of o points bytes ≡ Err (FrameRefused Room)
    short begun none = by_room (frame_no_room (settings_for o) (length points) bytes) refl
      where
        by_room : (t : Bool) → frame_no_room (settings_for o) (length points) bytes ≡ t → read_frame_of o points bytes ≡ Err (FrameRefused Room)
        by_room true e = answer_by o begun points bytes true e
        by_room false e = absurd (none (room_or_not o (length points) bytes e))
