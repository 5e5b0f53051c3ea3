-- The reader's refusals, each given exactly when its row of document 01's table applies and none tested before it does; the place of 9; what a refusal
-- leaves. Assumes nothing.
use Rattle.std.specs.Prelude.{Err, None, Ok, Option, Result, Some}
use Rattle.settings.specs.declared.settings.Refusal.{Refusal}
use Rattle.acceptance.specs.declared.accept.StepRefusal.{StepRefusal}
use Rattle.acceptance.specs.declared.accept.StepRefusal.TheVariants.{BadPoint, Refused as StepRefused}
use mathlib.Core.Path.{◌≡◌, ◌∙◌, refl, sym, ap, ap₂, subst}
use mathlib.Core.Bool.{Bool, true, false, cond, not, ◌||◌, ◌&&◌}
use mathlib.Core.List.{List, [], ◌∷◌}
use mathlib.Core.Logic.{◌↔◌, ◌⊎◌, inl, inr, ⊎_elim}
use Prim.Native.Nat.{ℕ, ◌+◌, ◌<◌, ◌≤◌}
use native.Mathlib.Omega.{arith}
use borrow.Author.Tests.{ltb-false, le-ltb, not-true}
use lib.Dec.{T, eqb, ltb}
use lib.ListN.{length}
use lib.IntN.{ℤ}
use lib.Ieee.{Float}
use Rattle.laws.specs.Test.{below, below_of}
use Rattle.laws.specs.Refusals.{Rule, first_of}
use Rattle.laws.proofs.Refusing.{given_exactly, true_not_false}
use Rattle.laws.proofs.Reflect.{less, either, T_true}
use Rattle.laws.proofs.Search.{AllBelow, FirstFailing as FirstWrong, search_below}
use Rattle.chain.specs.Decoder.{decodes}
use Rattle.settings.specs.declared.settings.Refusal.TheVariants.{Room, Code, Frame, Closed}
use Rattle.settings.specs.declared.settings.Settings.{Settings}
use Rattle.settings.specs.Settings.{check_of, checked_number, plan_for, Right}
use Rattle.settings.specs.Statements.{SettingsRefusals}
use Rattle.settings.proofs.SettingsLaws.{right, plan_fits, planned_width}
use Rattle.settings.proofs.Refusals.{settings_refusals}
use Rattle.subcarriers.specs.Subcarriers.{places_of, subcarrier_at}
use Rattle.frame.specs.Points.{floats_of}
use Rattle.detector.specs.Detected.{point_given, search_of, PointByRules}
use Rattle.reader_state.proofs.StateLaws.{not_closed, only_ended}
use Rattle.verdicts.specs.Searches.{AllPass, FirstFailing}
use Rattle.verdicts.proofs.GivenLaws.{given_by_rules, search_cases, shown_bit_lem}
use Rattle.decoder.proofs.ExtLaws.{code_exactly}
use Rattle.deframer.specs.Deframed.{input_ok, framed}
use Rattle.deframer.proofs.Framing.{framed_exactly, right_ok}
use Rattle.reader_state.specs.declared.state.OpenSettings.{OpenSettings}
use Rattle.reader_state.specs.declared.state.Reader.{Reader}
use Rattle.acceptance.specs.declared.accept.Stepped.{Stepped}
use Rattle.reader_state.specs.State.{OnlyEnded, open_raw, start_by, start_of, start_number, history_of, first_bit, closed_of, ended_of}
use Rattle.acceptance.specs.Accepted.{answered, scrambler_for, plain_of, frame_right, step_into_by, accepted_with}
use Rattle.reader.specs.Step.{by_search, no_room, step_of, written_by, step_number, step_stream, step_subcarrier}
use Rattle.reader_place.specs.Place.{found_as, place_by, place_of, place_number, place_stream, place_subcarrier}
use Rattle.verdicts.specs.Statements.{settings_in, InReach, ClosedRow, StepRoomRow, PointRow, shown_in, input_in, CodeRow}
use Rattle.verdicts.specs.Statements.{WrongBit, FrameRow, StepRefusals, FirstPlace, PlaceIsFirst, RefusedUnchanged}
use Rattle.verdicts.specs.Statements.{RefusedState, StartRefusals, PlaceTied}
use Rattle.verdicts.proofs.StepCases.{heard, decoded, moved, step_open, reach, accepted_zero, step_by_lem}

-- the tests that a row does not apply
negated : {P : Type 0} (t : Bool) → (t ≡ true) ↔ P → (not t ≡ true) ↔ (P → ⊥)
negated true h = (λ e. absurd (true_not_false (sym e)), λ n. absurd (n (h.0 refl)))
negated false h = (λ e p. true_not_false (sym (h.1 p)), λ n. refl)

not_both : {P Q : Type 0} (a b : Bool) → (not a ≡ true) ↔ P → (not b ≡ true) ↔ Q → (not (a && b) ≡ true) ↔ (P ⊎ Q)
not_both true b p q = (λ e. inr (q.0 e), ⊎_elim (λ x. absurd (true_not_false (sym (p.1 x)))) (λ y. q.1 y))
not_both false b p q = (λ e. inl (p.0 refl), λ s. refl)

not_some : (k : ℕ) → (not (ltb 0 k) ≡ true) ↔ (k ≡ 0)
not_some k = (λ e. omega (arith, ltb-false 0 k (not-true (ltb 0 k) e)), λ e. simp (le-ltb 0 k (omega (arith, e))))

-- a test of all below a number fails at one of them
some_fails : (f : ℕ → Bool) (n : ℕ) → not (below f n) ≡ true → FirstWrong f n
some_fails f n e =
    ⊎_elim
    (λ (all : AllBelow f n). absurd (true_not_false (sym e ∙ ap not (T_true (below f n) (below_of f n (λ k l. subst T (sym (all k l)) tt))))))
    (λ (w : FirstWrong f n). w)
    (search_below f n)

module _ (s : Settings) (st : Reader) (X : ℕ → ℕ) where
  abbrev test : ℕ → Bool
  test d = input_ok s.length (plan_for s).encoders (first_bit s st.symbol + d) (X d) (plain_of st X d)

  abbrev framing : Bool
  framing = framed s.length (plan_for s).encoders (first_bit s st.symbol) (plan_for s).dbps X (plain_of st X)

  wrong_found : not framing ≡ true → WrongBit s st X
  unfolding framed
  wrong_found e =
      let w = some_fails test (plan_for s).dbps e in
      record {
        number = w.at;
        inside = w.below;
        wrong = λ r. true_not_false (sym (T_true (test w.at) (right_ok s.length (plan_for s).encoders _ _ _ r)) ∙ w.fails);
      }

  -- framing is wrong exactly where a bit is
  framing_wrong : (not framing ≡ true) ↔ WrongBit s st X
  framing_wrong = (
    wrong_found,
    λ w. (negated framing (framed_exactly s.length (plan_for s).encoders (first_bit s st.symbol) (plan_for s).dbps X (plain_of st X))).1
        (λ all. w.wrong (all w.number w.inside)),
  )

  frame_wrong : (not (frame_right s st X) ≡ true) ↔ ((scrambler_for st X ≡ 0) ⊎ WrongBit s st X)
  unfolding frame_right
  frame_wrong =
      not_both (ltb 0 (scrambler_for st X)) framing
      (not_some (scrambler_for st X)) framing_wrong

-- ---- the rows of a state in range, each with its test

abbrev pub is_at : Option (ℕ × ℕ) → Bool
is_at None = false
is_at (Some (i, f)) = true

-- the answer's number by the tests of a symbol's code and frame
code_number : (c f first : Bool) (k : ℕ) (m e : Reader)
    → step_number (cond c (cond f (answered (cond first (Ok (Some k)) (Ok None)) m) (answered (Err (StepRefused Frame)) e)) (answered (Err (StepRefused Code)) e)).answer
    ≡ cond (not c) 10 (cond (not f) 11 0)
code_number true true true k m e = refl
code_number true true false k m e = refl
code_number true false first k m e = refl
code_number false f first k m e = refl

module _ (s : Settings) (st : Reader) (points : List Float) where
  pub search_number : (x : Option (ℕ × ℕ)) → step_number (by_search x s st points).answer
      ≡ cond (is_at x) 9 (cond (not (decoded s st points)) 10 (cond (not (frame_right s st (heard s st points))) 11 0))
  search_number (Some (i, f)) = refl
  search_number None =
      code_number (decoded s st points) (frame_right s st (heard s st points)) (eqb st.symbol 0) (scrambler_for st (heard s st points)) (moved s st points) (ended_of st)

module _ (st : Reader) (points : List Float) (bytes : ℕ) (o : InReach st) where
  sound : Right (settings_in st)
  sound = right (open_raw st.settings) (settings_in st) o.accepted

  abbrev search : Option (ℕ × ℕ)
  search = search_of (plan_for (settings_in st)) points (settings_in st).format st.symbol

  given_at : (i f : ℕ) → i < (plan_for (settings_in st)).streams → f < places_of (plan_for (settings_in st)).width
      → (point_given (plan_for (settings_in st)) points (settings_in st).format st.symbol i f ≡ true)
      ↔ PointByRules (plan_for (settings_in st)) points (settings_in st).format st.symbol i f
  given_at i f h l = given_by_rules (plan_for (settings_in st)) (plan_fits (settings_in st) sound) points (settings_in st).format st.symbol i f h l

  unfolded_width : places_of (plan_for (settings_in st)).width ≡ places_of (settings_in st).width
  unfolded_width = ap places_of (planned_width (settings_in st))

  not_given : (i f : ℕ) → i < (plan_for (settings_in st)).streams → f < places_of (plan_for (settings_in st)).width
      → point_given (plan_for (settings_in st)) points (settings_in st).format st.symbol i f ≡ false
      → PointByRules (plan_for (settings_in st)) points (settings_in st).format st.symbol i f → ⊥
  not_given i f h l e r = true_not_false (sym ((given_at i f h l).1 r) ∙ e)

  -- 9: the search finds a place exactly where some point is not given
  point_row : (is_at search ≡ true) ↔ PointRow st points
  point_row =
      ⊎_elim
      (λ (a : AllPass (plan_for (settings_in st)) points (settings_in st).format st.symbol). (
        λ e. absurd (true_not_false (sym e ∙ ap is_at a.all_given)),
        λ r. absurd (r.not_given ((given_at r.stream r.place r.stream_in (rw unfolded_width r.place_in)).0
            (a.passed r.stream r.place r.stream_in (rw unfolded_width r.place_in)))),
      ))
      (λ (w : FirstFailing (plan_for (settings_in st)) points (settings_in st).format st.symbol). (
        λ e. record {
          stream = w.stream;
          place = w.place;
          stream_in = w.stream_in;
          place_in = rw unfolded_width at w.place_in;
          not_given = not_given w.stream w.place w.stream_in w.place_in w.fails;
        },
        λ r. ap is_at w.found,
      ))
      (search_cases (plan_for (settings_in st)) points (settings_in st).format st.symbol)

  abbrev room_rule : Rule
  room_rule = record {
    number = 8;
    Applies = StepRoomRow st (length points) bytes;
    test = no_room (settings_in st) (length points) bytes;
    right = either (ltb (length points) (floats_of (settings_in st))) (ltb bytes (settings_in st).length) (less (length points) (floats_of (settings_in st)))
        (less bytes (settings_in st).length);
  }

  abbrev pointRule : Rule
  pointRule = record { number = 9; Applies = PointRow st points; test = is_at search; right = point_row }

  abbrev codeRule : Rule
  codeRule = record {
    number = 10;
    Applies = CodeRow st points;
    test = not (decodes (plan_for (settings_in st)) (history_of st) (shown_in st points));
    right = negated (decodes (plan_for (settings_in st)) (history_of st) (shown_in st points))
        (code_exactly (plan_for (settings_in st)) (plan_fits (settings_in st) sound) (history_of st) (shown_in st points)
        (λ i r h l. shown_bit_lem (plan_for (settings_in st)) points i r));
  }

  abbrev frameRule : Rule
  frameRule = record {
    number = 11;
    Applies = FrameRow st points;
    test = not (frame_right (settings_in st) st (input_in st points));
    right = frame_wrong (settings_in st) st (input_in st points);
  }

  room_number : (r : Bool) (x : Stepped) → step_number (cond r (answered (Err (StepRefused Room)) st) x).answer ≡ cond r 8 (step_number x.answer)
  room_number true x = refl
  room_number false x = refl

  number_first : step_number (step_of st points bytes).answer ≡ first_of (room_rule ∷ pointRule ∷ codeRule ∷ frameRule ∷ [])
  number_first =
      ap (λ (r : Stepped). step_number r.answer) (step_open st points bytes o)
      ∙ room_number (no_room (settings_in st) (length points) bytes) (by_search search (settings_in st) st points)
      ∙ ap (cond (no_room (settings_in st) (length points) bytes) 8) (search_number (settings_in st) st points search)

  not_twelve : (a b c d : Bool) → ◌≡◌ {A = ℕ} (cond a 8 (cond b 9 (cond c 10 (cond d 11 0)))) 12 → ⊥
  not_twelve true b c d e = omega (arith, e)
  not_twelve false true c d e = omega (arith, e)
  not_twelve false false true d e = omega (arith, e)
  not_twelve false false false true e = omega (arith, e)
  not_twelve false false false false e = omega (arith, e)

  pub open_not_closed : step_number (step_of st points bytes).answer ≡ 12 → ⊥
  open_not_closed e =
      not_twelve (no_room (settings_in st) (length points) bytes) (is_at search) (not (decodes (plan_for (settings_in st)) (history_of st) (shown_in st points)))
      (not (frame_right (settings_in st) st (input_in st points))) (sym number_first ∙ e)

-- the step gives each refusal exactly when its row applies and none before it does
pub step_refusals : StepRefusals
step_refusals st points bytes = (
  (
    λ e o. open_not_closed st points bytes o e,
    λ n. ⊎_elim (λ (o : InReach st). absurd (n o)) (λ e. ap (λ (r : Stepped). step_number r.answer) e) (reach st points bytes),
  ),
  λ o. given_exactly (step_number (step_of st points bytes).answer)
      (room_rule st points bytes o ∷ pointRule st points bytes o ∷ codeRule st points bytes o ∷ frameRule st points bytes o ∷ []) tt
      (number_first st points bytes o),
)

-- a refused step leaves the payload as it was
pub refused_step_unchanged : RefusedUnchanged
refused_step_unchanged st points payload = go (step_of st points (length payload)).answer
  where
    go : (a : Result (Option ℕ) StepRefusal) → (step_number a ≡ 0 → ⊥) → step_into_by a (written_by (check_of (open_raw st.settings)) st points payload) payload ≡ payload
    go (Ok (Some k)) n = absurd (n refl)
    go (Ok None) n = absurd (n refl)
    go (Err (BadPoint i z)) n = refl
    go (Err (StepRefused r)) n = refl

-- what state stands beside each refusal
abbrev Beside : Reader → Stepped → Type 0
Beside st r =
    (((step_number r.answer ≡ 9) ⊎ ((step_number r.answer ≡ 10) ⊎ (step_number r.answer ≡ 11))) → OnlyEnded st r.state)
    × (((step_number r.answer ≡ 8) ⊎ (step_number r.answer ≡ 12)) → r.state ≡ st)

-- 9 to 11 stand between 8 and 12
between : (n : ℕ) → ((n ≡ 9) ⊎ ((n ≡ 10) ⊎ (n ≡ 11))) → (8 < n) × (n < 12)
between n =
    ⊎_elim (λ e. (omega (arith, e), omega (arith, e)))
    (⊎_elim (λ e. (omega (arith, e), omega (arith, e))) (λ e. (omega (arith, e), omega (arith, e))))

outside : (n : ℕ) → ((n ≡ 8) ⊎ (n ≡ 12)) → (8 ≤ n) × (8 < n → n < 12 → ⊥)
outside n =
    ⊎_elim (λ e. (omega (arith, e), λ low high. omega (arith, e, low)))
    (λ e. (omega (arith, e), λ low high. omega (arith, e, high)))

pub refused_step_state : RefusedState
refused_step_state st points bytes =
    step_by_lem (Beside st) st
    (given_back (Err (StepRefused Closed)) (λ low high. omega (arith, high)))
    (given_back (Err (StepRefused Room)) (λ low high. omega (arith, low)))
    (λ i z. ended (Err (BadPoint i z)) (omega arith) (omega arith))
    (ended (Err (StepRefused Code)) (omega arith) (omega arith))
    (ended (Err (StepRefused Frame)) (omega arith) (omega arith))
    points bytes
    (λ o. taken (accepted_with st (scrambler_for st (heard (settings_in st) st points))) (moved (settings_in st) st points)
    (accepted_zero (eqb st.symbol 0) (scrambler_for st (heard (settings_in st) st points))))
  where
    given_back : (a : Result (Option ℕ) StepRefusal) → (8 < step_number a → step_number a < 12 → ⊥) → Beside st (answered a st)
    given_back a out = (λ e. let b = between (step_number a) e in absurd (out b.0 b.1), λ e. refl)

    ended : (a : Result (Option ℕ) StepRefusal) → 8 < step_number a → step_number a < 12 → Beside st (answered a (ended_of st))
    ended a low high = (λ e. only_ended st, λ e. absurd ((outside (step_number a) e).1 low high))

    taken : (a : Result (Option ℕ) StepRefusal) (m : Reader) → step_number a ≡ 0 → Beside st (answered a m)
    taken a m z = (λ e. absurd (omega (arith, z, (between (step_number a) e).0)), λ e. absurd (omega (arith, z, (outside (step_number a) e).0)))

-- the place that 9 returns is the first of a point that is not given
nine_found : (st : Reader) (s : Settings) (points : List Float) (x : Option (ℕ × ℕ)) (i : ℕ) (z : ℤ) → (by_search x s st points).answer ≡ Err (BadPoint i z)
    → (x ≡ None → ⊥)
nine_found st s points x i z e g =
    not_nine (decoded s st points) (frame_right s st (heard s st points))
    (sym (search_number s st points None) ∙ ap (λ (y : Option (ℕ × ℕ)). step_number (by_search y s st points).answer) (sym g) ∙ ap step_number e)
  where
    not_nine : (c f : Bool) → ◌≡◌ {A = ℕ} (cond (not c) 10 (cond (not f) 11 0)) 9 → ⊥
    not_nine true true h = omega (arith, h)
    not_nine true false h = omega (arith, h)
    not_nine false f h = omega (arith, h)

room_not_nine : (st : Reader) (r : Bool) (x : Stepped) (i : ℕ) (z : ℤ) → (cond r (answered (Err (StepRefused Room)) st) x).answer ≡ Err (BadPoint i z) → x.answer ≡ Err (BadPoint i z)
room_not_nine st true x i z e = absurd (let n : ◌≡◌ {A = ℕ} 8 9 = ap step_number e in omega arith)
room_not_nine st false x i z e = e

-- a step that gives 9 names a place
nine_named : (st : Reader) (points : List Float) (bytes : ℕ) → let a = (step_of st points bytes).answer in
    step_number a ≡ 9 → a ≡ Err (BadPoint (step_stream a) (step_subcarrier a))
nine_named st points bytes =
    step_by_lem (λ r. step_number r.answer ≡ 9 → r.answer ≡ Err (BadPoint (step_stream r.answer) (step_subcarrier r.answer))) st
    (λ e. absurd (omega (arith, e))) (λ e. absurd (omega (arith, e))) (λ i z e. refl)
    (λ e. absurd (omega (arith, e))) (λ e. absurd (omega (arith, e))) points bytes
    (λ o e. absurd (omega (arith, e, accepted_zero (eqb st.symbol 0) (scrambler_for st (heard (settings_in st) st points)))))

named_first : (st : Reader) (points : List Float) (bytes i : ℕ) (z : ℤ)
    → (step_of st points bytes).answer ≡ Err (BadPoint i z) → FirstPlace st points i z
named_first st points bytes i z e = ⊎_elim opened closed (reach st points bytes)
  where
    closed : step_of st points bytes ≡ answered (Err (StepRefused Closed)) st → FirstPlace st points i z
    closed h = absurd (let n : ◌≡◌ {A = ℕ} 12 9 = ap (λ (r : Stepped). step_number r.answer) (sym h) ∙ ap step_number e in omega arith)

    opened : InReach st → FirstPlace st points i z
    opened o =
        let s = settings_in st in
        let p = plan_for s in
        let f : (by_search (search_of p points s.format st.symbol) s st points).answer ≡ Err (BadPoint i z) =
        room_not_nine st (no_room s (length points) bytes) _ i z (ap (λ (r : Stepped). r.answer) (sym (step_open st points bytes o)) ∙ e) in
        ⊎_elim
        (λ (a : AllPass p points s.format st.symbol). absurd (nine_found st s points _ i z f a.all_given))
        (λ (w : FirstFailing p points s.format st.symbol).
        let g : Err (BadPoint w.stream (subcarrier_at s.width w.place)) ≡ Err (BadPoint i z) = ap (λ (x : Option (ℕ × ℕ)). (by_search x s st points).answer) (sym w.found) ∙ f in
        let here : w.stream ≡ i = ap step_stream g in
        let wide = unfolded_width st points bytes o in
        record {
          place = w.place;
          stream_in = subst (λ (j : ℕ). j < p.streams) here w.stream_in;
          place_in = rw wide at w.place_in;
          subcarrier = sym (ap step_subcarrier g);
          not_given = subst (λ (j : ℕ). PointByRules p points s.format st.symbol j w.place → ⊥) here
              (not_given st points bytes o w.stream w.place w.stream_in w.place_in w.fails);
          streams_before = λ j k l m. let l' : j < w.stream = omega (arith, l, here) in
              (given_at st points bytes o j k (omega (arith, l', w.stream_in)) (rw wide m)).0 (w.streams_before j k l' (rw wide m));
          places_before = λ k l. subst (λ (j : ℕ). PointByRules p points s.format st.symbol j k) here
              ((given_at st points bytes o w.stream k w.stream_in (omega (arith, l, w.place_in))).0 (w.places_before k l));
        })
        (search_cases p points s.format st.symbol)

pub place_is_first : PlaceIsFirst
place_is_first st points bytes nine = let e = nine_named st points bytes nine in (e, named_first st points bytes _ _ e)

-- ---- the start

-- its number is the settings'
start_number_lem : (x : Result Settings Refusal) (o : OpenSettings) → start_number (start_by x o).answer ≡ checked_number x
start_number_lem (Ok s) o = refl
start_number_lem (Err r) o = refl

start_closed : (x : Result Settings Refusal) (o : OpenSettings) → (start_number (start_by x o).answer ≡ 0 → ⊥) → ClosedRow (start_by x o).state
start_closed (Ok s) o n = absurd (n refl)
start_closed (Err r) o n = λ (i : InReach (start_by (Err r) o).state). true_not_false i.in_range.going

pub start_refusals : StartRefusals
start_refusals o =
    let n = start_number (start_of o).answer in
    let rows : SettingsRefusals (open_raw o) n = subst (SettingsRefusals (open_raw o)) (sym (start_number_lem (check_of (open_raw o)) o)) (settings_refusals (open_raw o)) in (
      rows,
      (
        λ e. ⊎_elim (λ (z : ◌≡◌ {A = ℕ} 1 0). omega (arith, z)) (λ (l : 127 < 1). omega (arith, l)) (rows.1.1.1.1.0.0 e).0,
        start_closed (check_of (open_raw o)) o,
      ),
    )

-- ---- the place call

-- a place call that gives 9 has found a place
abbrev FoundNamed : Result (Option (ℕ × ℤ)) Refusal → Type 0
FoundNamed b = place_number b ≡ 9 → b ≡ Ok (Some ((place_stream b), (place_subcarrier b)))

place_named : (st : Reader) (points : List Float) → FoundNamed (place_of st points)
place_named st points = go (check_of (open_raw st.settings))
  where
    found : (x : Option (ℕ × ℕ)) (s : Settings) → FoundNamed (found_as x s)
    found None s = λ e. absurd (omega (arith, e))
    found (Some (i, f)) s = λ e. refl

    tested : (closed small : Bool) (a : Result (Option (ℕ × ℤ)) Refusal) → FoundNamed a
        → FoundNamed (cond closed (Err Closed) (cond small (Err Room) a))
    tested true small a h = λ e. absurd (omega (arith, e))
    tested false true a h = λ e. absurd (omega (arith, e))
    tested false false a h = h

    go : (x : Result Settings Refusal) → FoundNamed (place_by x st points)
    go (Ok s) =
        tested (closed_of s st) (ltb (length points) (floats_of s)) _ (found (search_of (plan_for s) points s.format st.symbol) s)
    go (Err r) = λ e. absurd (omega (arith, e))

tied_search : (st : Reader) (s : Settings) (points : List Float) (x : Option (ℕ × ℕ)) (i : ℕ) (z : ℤ)
    → ((by_search x s st points).answer ≡ Err (BadPoint i z)) ↔ (found_as x s ≡ Ok (Some (i, z)))
tied_search st s points (Some (j, f)) i z =
    (λ e. ap₂ (λ (i : ℕ) (z : ℤ). Ok (Some (i, z))) (ap step_stream e) (ap step_subcarrier e), λ e. ap₂ (λ (i : ℕ) (z : ℤ). Err (BadPoint i z)) (ap place_stream e) (ap place_subcarrier e))
tied_search st s points None i z = (
  λ e. absurd (nine_found st s points None i z e refl),
  λ e. absurd (let n : ◌≡◌ {A = ℕ} 0 9 = ap place_number e in omega arith),
)

tied_room : (st : Reader) (small : Bool) (r : Stepped) (a : Result (Option (ℕ × ℤ)) Refusal) (i : ℕ) (z : ℤ) → (r.answer ≡ Err (BadPoint i z)) ↔ (a ≡ Ok (Some (i, z)))
    → ((cond small (answered (Err (StepRefused Room)) st) r).answer ≡ Err (BadPoint i z)) ↔ (cond small (Err Room) a ≡ Ok (Some (i, z)))
tied_room st true r a i z h = (
  λ e. absurd (let n : ◌≡◌ {A = ℕ} 8 9 = ap step_number e in omega arith),
  λ e. absurd (let n : ◌≡◌ {A = ℕ} 8 9 = ap place_number e in omega arith),
)
tied_room st false r a i z h = h

tied : (st : Reader) (points : List Float) (bytes : ℕ) → InReach st → (settings_in st).length ≤ bytes → (i : ℕ) (z : ℤ)
    → ((step_of st points bytes).answer ≡ Err (BadPoint i z)) ↔ (place_of st points ≡ Ok (Some (i, z)))
tied st points bytes o enough i z =
    let s = settings_in st in
    let x = search_of (plan_for s) points s.format st.symbol in
    let small : no_room s (length points) bytes ≡ ltb (length points) (floats_of s) = last (ltb (length points) (floats_of s)) (le-ltb bytes s.length enough) in
    let step : step_of st points bytes ≡ cond (ltb (length points) (floats_of s)) (answered (Err (StepRefused Room)) st) (by_search x s st points) =
    step_open st points bytes o ∙ ap (λ (b : Bool). cond b (answered (Err (StepRefused Room)) st) (by_search x s st points)) small in
    let place : place_of st points ≡ cond (ltb (length points) (floats_of s)) (Err Room) (found_as x s) =
    ap (λ (c : Result Settings Refusal). place_by c st points) o.accepted
    ∙ ap (λ (b : Bool). cond b (Err Closed) (cond (ltb (length points) (floats_of s)) (Err Room) (found_as x s))) (not_closed s st o.in_range) in
    let h = tied_room st (ltb (length points) (floats_of s)) (by_search x s st points) (found_as x s) i z (tied_search st s points x i z) in
    (λ e. place ∙ h.0 (ap (λ (r : Stepped). r.answer) (sym step) ∙ e), λ e. ap (λ (r : Stepped). r.answer) step ∙ h.1 (sym place ∙ e))
  where
    last : (a : Bool) {b : Bool} → b ≡ false → (a || b) ≡ a
    last true e = refl
    last false e = e

pub place_tied : PlaceTied
place_tied st points bytes o enough = (
  (λ e. ap place_number ((tied st points bytes o enough _ _).0 (nine_named st points bytes e)), λ e. ap step_number (step_named e)),
  λ e. (place_named st points e, (ap step_stream (step_named e), ap step_subcarrier (step_named e))),
)
  where
    step_named : place_number (place_of st points) ≡ 9
        → (step_of st points bytes).answer ≡ Err (BadPoint (place_stream (place_of st points)) (place_subcarrier (place_of st points)))
    step_named e = (tied st points bytes o enough _ _).1 (place_named st points e)
