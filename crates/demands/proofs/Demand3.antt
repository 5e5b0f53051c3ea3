-- Demand 3: a term for each sentence of specs/Demand3. Assumes nothing.
use Rattle.std.specs.Prelude.{Err, Ok, Result}
use Rattle.query.specs.declared.query.Carried.{Carried}
use Rattle.settings.specs.declared.settings.Refusal.{Refusal}
use mathlib.Core.Path.{◌≡◌, ◌∙◌, refl, sym, ap, subst}
use mathlib.Core.Bool.{Bool, true, false, cond, ◌||◌}
use mathlib.Core.List.{List, ◌++◌}
use Prim.Native.Nat.{ℕ, ◌+◌, ◌-◌, ◌*◌, ◌/◌, ◌%◌, ◌<◌, ◌≤◌}
use native.Mathlib.Nat.{div-add-mod', mod-lt, div-lt_iff_lt-mul}
use native.Mathlib.Omega.{arith}
use borrow.Author.Tests.{le-ltb, leb-false}
use lib.Arith.{digits_lt}
use lib.Dec.{ltb, leb}
use lib.ListN.{length, get_or, drop, get_or-append}
use lib.IntN.{ℤ}
use lib.Ieee.{Float, binary32, nan, to_bits}
use Rattle.chain.specs.Labels.{half_label, halves_of}
use Rattle.chain.specs.Statements.{HalvesDiffer}
use Rattle.chain.specs.declared.plan.Plan.{Plan}
use Rattle.chain.proofs.LabelLaws.{half_lt, halves_local}
use Rattle.chain.proofs.DifferenceLaws.{halves_differ}
use Rattle.settings.specs.declared.settings.RawSettings.{RawSettings}
use Rattle.settings.specs.declared.settings.Settings.{Settings}
use Rattle.settings.specs.declared.settings.Refusal.TheVariants.{Place, Room}
use Rattle.settings.specs.Settings.{check_of, plan_for, Right}
use Rattle.symbols.specs.Symbols.{symbols_of, count_of}
use Rattle.settings.proofs.SettingsLaws.{passed, right, plan_fits, planned_width}
use Rattle.symbols.proofs.CountLaws.{symbols_least, symbols_some}
use Rattle.signal.specs.HtSig.{sig_bytes, fields_of, written_of, written_into}
use Rattle.subcarriers.specs.declared.layout.Use.{Use}
use Rattle.subcarriers.specs.declared.layout.Use.TheVariants.{Silent, Pilot, Data}
use Rattle.subcarriers.specs.Subcarriers.{use_of, outside, Inside, subcarrier_at}
use Rattle.subcarriers.proofs.SubcarrierLaws.{carrier_place, place_used_for}
use Rattle.mapper.specs.Levels.{Levels, carrier_levels, point_of}
use Rattle.pilots.specs.Pilots.{pilot_sign}
use Rattle.modulator.specs.Symbol.{stream_floats, symbol_float}
use Rattle.modulator.proofs.SymbolLaws.{symbol_ext, pilot_same, label_shown}
use Rattle.frame.specs.Points.{input_of, labels_of, point_float, floats_of, points_of, points_into, points_number}
use Rattle.frame.specs.Compared.{SameBits, SameLevel}
use Rattle.query.specs.Query.{carried_by, carried_of, not_in_frame, query_of, query_number}
use Rattle.demands.specs.Frames.{WholePayload, DifferentSymbol, DifferentPoints, AgreeWhereLooked, FirstDiffering}
use Rattle.demands.specs.Demand3.{Counts, Signals, SameSignal, SamePilots, SamePoints, SameKind, SameQuery, LocalPoints, LocalQuery, DifferingPoints, PayloadsShown, EqualButSeed, SeedPoints, SeedsShown, AtPoints, OfPoints, AtQueries, OfQueries, Demand3a, Demand3b, Demand3c, Demand3d}
use Rattle.demands.proofs.FrameBits.{FirstBit, first_bit_lem, frame_bit, frame_local, agree_at, input_apart, first_output, service_apart}
use Rattle.demands.proofs.Calls.{length_is, Given, given, same_answer, level_at, Asked, answered, carried_data, carried_same}

-- ---- (a)

pub same_count : Counts
same_count a a' e = ap (λ (b : RawSettings). count_of (check_of b)) e

-- the six bytes do not depend on what was in the slice
same_six_written : (k : Result Settings Refusal) (out out' : List ℕ) → length out ≡ length out'
    → (written_of k (length out) ≡ written_of k (length out'))
    × (written_of k (length out) ≡ Ok (tt {0}) → (j : ℕ) → j < 6 → get_or (written_into k out) j 0 ≡ get_or (written_into k out') j 0)
unfolding sig_bytes
same_six_written (Ok s) out out' e = (ap (written_of (Ok s)) e, go (ltb (length out) 6) refl)
  where
    sig : List ℕ
    sig = sig_bytes (fields_of s)

    go : (b : Bool) → ltb (length out) 6 ≡ b → cond b (Err Room) (Ok (tt {0})) ≡ Ok (tt {0})
        → (j : ℕ) → j < 6 → get_or (cond b out (sig ++ drop 6 out)) j 0 ≡ get_or (written_into (Ok s) out') j 0
    go true t q j h = let z : ◌≡◌ {A = ℕ} 0 1 = cc in absurd (omega (arith, z))
    go false t q j h =
        let t' : ltb (length out') 6 ≡ false = rw e at t in
        simp t' (get_or-append sig (drop 6 out) 0 j h ∙ sym (get_or-append sig (drop 6 out') 0 j h))
same_six_written (Err r) out out' e = (refl, λ q j h. let z : ◌≡◌ {A = ℕ} 0 1 = cc in absurd (omega (arith, z)))

pub same_signal : Signals
same_signal a a' out out' e room =
    subst (λ (b : RawSettings). (written_of (check_of a) (length out) ≡ written_of (check_of b) (length out'))
    × (written_of (check_of a) (length out) ≡ Ok tt → (j : ℕ) → j < 6 → get_or (written_into (check_of a) out) j 0 ≡ get_or (written_into (check_of b) out') j 0))
    e (same_six_written (check_of a) out out' room)

-- whole payloads get the same answer of the points call
same_number : (a : RawSettings) (k : Result Settings Refusal) → check_of a ≡ k → (p q : List ℕ) (n room room' : ℕ) → a.length ≤ length p → a.length ≤ length q → room ≡ room'
    → points_number (points_of k (length p) n room) ≡ points_number (points_of k (length q) n room')
same_number a (Ok s) e p q n room room' hp hq same =
    let l = length_is a s e in
    ap points_number (same_answer s (length p) (length q) n room room' (omega (arith, l)) (omega (arith, l)) same)
same_number a (Err r) e p q n room room' hp hq same = refl

-- two answers of one frame's calls, of a number that is 0
both_given : (a : RawSettings) (s : Settings) → check_of a ≡ Ok s → (p q : List ℕ) (n room room' : ℕ) → a.length ≤ length p → a.length ≤ length q → room ≡ room'
    → points_number (points_of (check_of a) (length p) n room) ≡ 0 → Given s (length p) n room × Given s (length q) n room'
both_given a s e p q n room room' hp hq same z =
    let first : points_number (points_of (Ok s) (length p) n room) ≡ 0 = rw e at z in
    let l = length_is a s e in (
      given s (length p) n room first,
      given s (length q) n room' (ap points_number (same_answer s (length q) (length p) n room' room (omega (arith, l)) (omega (arith, l)) (sym same)) ∙ first),
    )

-- a level of the slice after the call
level_is : (a : RawSettings) (s : Settings) → check_of a ≡ Ok s → (p : List ℕ) (n : ℕ) (out : List Float) → Given s (length p) n (length out)
    → (g : ℕ) → g < floats_of s → get_or (points_into (check_of a) p n out) g nan ≡ point_float s p n g
level_is a s e p n out ok g h = rw e (level_at s p n out ok g h)

-- levels are the same by their bits where the floats are
same_level : (a : RawSettings) (s : Settings) → check_of a ≡ Ok s → (p q : List ℕ) (n : ℕ) (out out' : List Float)
    → Given s (length p) n (length out) → Given s (length q) n (length out') → (g : ℕ) → g < floats_of s → point_float s p n g ≡ point_float s q n g
    → SameLevel (points_into (check_of a) p n out) (points_into (check_of a) q n out') g
same_level a s e p q n out out' ok ok' g h same =
    ap (to_bits binary32) (level_is a s e p n out ok g h ∙ same ∙ sym (level_is a s e q n out' ok' g h))

-- the pilots' levels after two calls
pilots_of_lem : (a : RawSettings) (p q : List ℕ) (n : ℕ) (out out' : List Float) → WholePayload a p → WholePayload a q → length out ≡ length out'
    → (s : Settings) → check_of a ≡ Ok s → points_number (points_of (check_of a) (length p) n (length out)) ≡ 0
    → SamePilots s (points_into (check_of a) p n out) (points_into (check_of a) q n out')
pilots_of_lem a p q n out out' wp wq room s e z i f k axis hi hf hx told =
    let ok = both_given a s e p q n (length out) (length out') wp.0 wq.0 room z in
    let w : (plan_for s).width ≡ s.width = planned_width s in
    let fits = plan_fits s (right a s e) in
    let inside : i * stream_floats s.width + (2 * f + axis) < (plan_for s).streams * stream_floats s.width = digits_lt hi (omega arith) in
    same_level a s e p q n out out' ok.0 ok.1 (i * stream_floats s.width + (2 * f + axis)) (rw w inside)
    (subst (λ (v : ℕ). point_float s p n (i * stream_floats v + (2 * f + axis)) ≡ point_float s q n (i * stream_floats v + (2 * f + axis))) w
    (pilot_same (plan_for s) fits (labels_of s p n) (labels_of s q n) s.format n i f k axis (rw w hf) hx (rw w told)))

pub same_points : OfPoints SamePoints
same_points a a' p q n out out' e =
    subst (λ (b : RawSettings). AtPoints SamePoints a b p q n out out') e
    (λ _ wp wq room. (same_number a (check_of a) refl p q n (length out) (length out') wp.0 wq.0 room, pilots_of_lem a p q n out out' wp wq room)) e

-- what a use carries is of one kind whatever the half labels are
kind_same : (sign : ℕ → ℤ) (f g : ℕ → Levels) (u : Use) → SameKind (Ok (carried_by sign f u)) (Ok (carried_by sign g u))
kind_same sign f g Silent = refl
kind_same sign f g (Pilot q) = refl
kind_same sign f g (Data c) = (point_of (g c), refl)

-- and so are the answers of two questions, with the same number
query_kind : (a : RawSettings) (k : Result Settings Refusal) → check_of a ≡ k → (p q : List ℕ) (n i : ℕ) (z : ℤ) → a.length ≤ length p → a.length ≤ length q
    → (query_number (query_of k p n i z) ≡ query_number (query_of k q n i z)) × SameKind (query_of k p n i z) (query_of k q n i z)
unfolding carried_of
query_kind a (Ok s) e p q n i z hp hq =
    let l = length_is a s e in
    let tp : ltb (length p) s.length ≡ false = le-ltb (length p) s.length (omega (arith, l)) in
    let tq : ltb (length q) s.length ≡ false = le-ltb (length q) s.length (omega (arith, l)) in
    simp (tp, tq) (go (not_in_frame s n i z))
  where
    sign : ℕ → ℤ
    sign = pilot_sign (plan_for s).width (plan_for s).streams s.format n i

    go : (b : Bool) → (query_number (cond b (Err Place) (Ok (carried_of s p n i z))) ≡ query_number (cond b (Err Place) (Ok (carried_of s q n i z))))
        × SameKind (cond b (Err Place) (Ok (carried_of s p n i z))) (cond b (Err Place) (Ok (carried_of s q n i z)))
    go true = (refl, refl)
    go false = (refl, kind_same sign (carrier_levels (plan_for s).bits (labels_of s p n i)) (carrier_levels (plan_for s).bits (labels_of s q n i)) (use_of (plan_for s).width z))
query_kind a (Err r) e p q n i z hp hq = (refl, refl)

pub same_query : OfQueries SameQuery
same_query a a' p q n i z e =
    subst (λ (b : RawSettings). AtQueries SameQuery a b p q n i z) e (λ _ wp wq. query_kind a (check_of a) refl p q n i z wp.0 wq.0) e

-- ---- (b)

-- the half labels of a symbol are the same where the payloads agree on what it looks at
halves_same : (s : Settings) → Right s → (p q : List ℕ) (n : ℕ) → AgreeWhereLooked s n p q
    → (i m : ℕ) → i < (plan_for s).streams → m < halves_of (plan_for s) → labels_of s p n i m ≡ labels_of s q n i m
halves_same s r p q n agree = halves_local (plan_for s) (plan_fits s r) (input_of s p) (input_of s q) n (agree_at s n p q agree)

pub local_points : OfPoints LocalPoints
local_points a a' p q n out out' e =
    subst (λ (b : RawSettings). AtPoints LocalPoints a b p q n out out') e
    (λ _ wp wq room s k z agree g h.
    let ok = both_given a s k p q n (length out) (length out') wp.0 wq.0 room z in
    same_level a s k p q n out out' ok.0 ok.1 g h
    (symbol_ext (plan_for s) (plan_fits s (right a s k)) (labels_of s p n) (labels_of s q n) s.format n (halves_same s (right a s k) p q n agree) g h)) e

-- the question's answer is the same where the half labels are
query_local : (s : Settings) → Right s → (p q : List ℕ) (n i : ℕ) (z : ℤ) → s.length ≤ length p → s.length ≤ length q → AgreeWhereLooked s n p q
    → query_of (Ok s) p n i z ≡ query_of (Ok s) q n i z
query_local s r p q n i z hp hq agree =
    simp (le-ltb (length p) s.length hp, le-ltb (length q) s.length hq) (go (leb (symbols_of s) n) (leb (plan_for s).streams i) (outside (plan_for s).width z) refl refl)
  where
    go : (t u v : Bool) → leb (plan_for s).streams i ≡ u → outside (plan_for s).width z ≡ v
        → cond (t || (u || v)) (Err Place) (Ok (carried_of s p n i z)) ≡ cond (t || (u || v)) (Err Place) (Ok (carried_of s q n i z))
    go true u v eu ev = refl
    go false true v eu ev = refl
    go false false true eu ev = refl
    go false false false eu ev =
        ap Ok (carried_same s r p q n i z ev (λ m l. halves_same s r p q n agree i m (leb-false (plan_for s).streams i eu) l))

pub local_query : OfQueries LocalQuery
local_query a a' p q n i z e =
    subst (λ (b : RawSettings). AtQueries LocalQuery a b p q n i z) e
    (λ _ wp wq s k agree.
    let l = length_is a s k in
    let hp : s.length ≤ length p = omega (arith, wp.0, l) in
    let hq : s.length ≤ length q = omega (arith, wq.0, l) in
    rw k (query_local s (right a s k) p q n i z hp hq agree)) e

-- ---- (c) and (d): what differs in the half labels shows

-- frames of settings with one plan and format: a float of symbol n and a data carrier's point that differ
record Shown (s s' : Settings) (p q : List ℕ) (n : ℕ) : Type 0 where
  pub float : ℕ
  pub float_in : float < floats_of s
  pub floats_apart : SameBits (point_float s p n float) (point_float s' q n float) → ⊥
  pub stream : ℕ
  pub carrier : ℕ
  pub stream_in_lem : stream < (plan_for s).streams
  pub carrier_in : carrier < (plan_for s).carriers
  pub points_apart : let x = point_of (carrier_levels (plan_for s).bits (labels_of s p n stream) carrier) in
      let y = point_of (carrier_levels (plan_for s').bits (labels_of s' q n stream) carrier) in
      SameBits x.first y.first → SameBits x.second y.second → ⊥

module _ (s s' : Settings) (r : Right s) (plans : plan_for s ≡ plan_for s') (formats : s.format ≡ s'.format) (p q : List ℕ) (n : ℕ) where
  as_plan : (g : ℕ) → symbol_float (plan_for s) (half_label (plan_for s) (input_of s' q) n) s.format n g ≡ point_float s' q n g
  as_plan g =
      ap (λ (v : Plan). symbol_float v (half_label v (input_of s' q) n) s.format n g) plans
      ∙ ap (λ (f : ℕ). symbol_float (plan_for s') (labels_of s' q n) f n g) formats

  as_levels : (i c : ℕ) → carrier_levels (plan_for s).bits (half_label (plan_for s) (input_of s' q) n i) c ≡ carrier_levels (plan_for s').bits (labels_of s' q n i) c
  as_levels i c = ap (λ (v : Plan). carrier_levels v.bits (half_label v (input_of s' q) n i) c) plans

  shown : HalvesDiffer (plan_for s) (input_of s p) (input_of s' q) n → Shown s s' p q n
  shown d =
      let x = labels_of s p n in
      let y = half_label (plan_for s) (input_of s' q) n in
      let fits = plan_fits s r in
      let l = label_shown (plan_for s) fits x y s.format n d.stream d.half d.stream_lt d.half_lt
      (λ m. half_lt (plan_for s) (input_of s p) n d.stream m) (λ m. half_lt (plan_for s) (input_of s' q) n d.stream m) d.apart in
      record {
        float = l.float;
        float_in = l.float_in;
        floats_apart = λ same. l.floats_differ (same ∙ ap (to_bits binary32) (sym (as_plan l.float)));
        stream = d.stream;
        carrier = l.carrier;
        stream_in_lem = d.stream_lt;
        carrier_in = l.carrier_in;
        points_apart = λ first second.
            l.points_differ
            (first ∙ ap (λ (v : Levels). to_bits binary32 (point_of v).first) (sym (as_levels d.stream l.carrier)))
            (second ∙ ap (λ (v : Levels). to_bits binary32 (point_of v).second) (sym (as_levels d.stream l.carrier)));
      }

-- in the slices after the calls
slices_differ : (a a' : RawSettings) (s s' : Settings) → check_of a ≡ Ok s → check_of a' ≡ Ok s' → (p q : List ℕ) (n : ℕ) (out out' : List Float)
    → Given s (length p) n (length out) → Given s' (length q) n (length out') → floats_of s ≡ floats_of s'
    → Shown s s' p q n → DifferentSymbol s (points_into (check_of a) p n out) (points_into (check_of a') q n out')
slices_differ a a' s s' e e' p q n out out' ok ok' floats d = (
  d.float,
  (
    d.float_in,
    λ same.
        d.floats_apart
        (ap (to_bits binary32) (sym (level_is a s e p n out ok d.float d.float_in)) ∙ same
        ∙ ap (to_bits binary32) (level_is a' s' e' q n out' ok' d.float (subst (λ (k : ℕ). d.float < k) floats d.float_in))),
  ),
)

-- in the question's answers
answers_differ : (a a' : RawSettings) (s s' : Settings) → check_of a ≡ Ok s → check_of a' ≡ Ok s' → plan_for s ≡ plan_for s'
    → (p q : List ℕ) (n : ℕ) → s.length ≤ length p → s'.length ≤ length q → n < symbols_of s → n < symbols_of s' → Shown s s' p q n
    → (i : ℕ) × ((z : ℤ) × ((i < (plan_for s).streams) × DifferentPoints (query_of (check_of a) p n i z) (query_of (check_of a') q n i z)))
answers_differ a a' s s' e e' plans p q n hp hq hn hn' d =
    let fits = plan_fits s (right a s e) in
    let w = (plan_for s).width in
    let i = d.stream in
    let c = d.carrier in
    let at = carrier_place w fits.width c (rw (sym fits.carriers_is) d.carrier_in) in
    let z = subcarrier_at w at.place in
    let inside = (place_used_for w fits.width at.place at.inside).inside in
    let asked : Asked s (length p) n i z = record { payload_whole = hp; in_frame = hn; stream = d.stream_in_lem; inside = inside } in
    let asked' : Asked s' (length q) n i z =
    record {
      payload_whole = hq;
      in_frame = hn';
      stream = subst (λ (v : Plan). i < v.streams) plans d.stream_in_lem;
      inside = subst (λ (v : Plan). Inside v.width z) plans inside;
    } in
    let x = point_of (carrier_levels (plan_for s).bits (labels_of s p n i) c) in
    let y = point_of (carrier_levels (plan_for s').bits (labels_of s' q n i) c) in (
      i,
      (
        z,
        (
          d.stream_in_lem,
          (
            x,
            (
              y,
              (
                rw e (answered s p n i z asked ∙ ap Ok (carried_data s p n i c z at.carries)),
                (
                  rw e' (answered s' q n i z asked' ∙ ap Ok (carried_data s' q n i c z (subst (λ (v : Plan). use_of v.width z ≡ Data c) plans at.carries))),
                  d.points_apart,
                ),
              ),
            ),
          ),
        ),
      ),
    )

-- ---- (c)

-- the symbol of the first differing bit shows it
payload_shown : (a : RawSettings) (s : Settings) → check_of a ≡ Ok s → (p q : List ℕ) (d : ℕ) → FirstDiffering a p q d → Shown s s p q (d / (plan_for s).dbps)
payload_shown a s e p q d (low, (high, (apart, lower))) =
    let r = right a s e in
    let l = length_is a s e in
    let D = (plan_for s).dbps in
    let n = d / D in
    let split : n * D + d % D ≡ d = div-add-mod' d D in
    let part : d % D < D = mod-lt d (omega (arith, (plan_fits s r).dbps_some)) in
    shown s s r refl refl p q n
    (halves_differ (plan_for s) (plan_fits s r) (input_of s p) (input_of s q) (frame_bit s p) (frame_bit s q) n
    (λ k h. frame_local s p q k (λ u v. lower k u (omega (arith, h, split))))
    d (omega (arith, split)) (omega (arith, split, part))
    (input_apart s p q d low (omega (arith, high, l)) apart))

pub differing_points : OfPoints DifferingPoints
differing_points a a' p q n out out' e =
    subst (λ (b : RawSettings). AtPoints DifferingPoints a b p q n out out') e
    (λ _ wp wq room s k z d first at.
    let ok = both_given a s k p q n (length out) (length out') wp.0 wq.0 room z in
    slices_differ a a s s k k p q n out out' ok.0 ok.1 refl
    (subst (λ (m : ℕ). Shown s s p q m) (sym at) (payload_shown a s k p q d first))) e

-- a differing byte has a first differing bit
first_differing : (a : RawSettings) (p q : List ℕ) → FirstBit p q a.length → (d : ℕ) × FirstDiffering a p q d
first_differing a p q f =
    let at : 16 + f.at - 16 ≡ f.at = omega arith in
    (16 + f.at, (omega arith, (omega (arith, f.inside), (rw at f.apart, λ e h l. f.lower (e - 16) (omega arith)))))

-- its symbol is in the frame
carried_in_frame : (s : Settings) → Right s → (d : ℕ) → d < 16 + 8 * s.length → d / (plan_for s).dbps < symbols_of s
carried_in_frame s r d h =
    (div-lt_iff_lt-mul {k = (plan_for s).dbps} (omega (arith, (plan_fits s r).dbps_some))).1 (omega (arith, (symbols_least s r).0))

pub payloads_shown : PayloadsShown
payloads_shown a p q s e wp wq (j, (hj, apart)) =
    let r = right a s e in
    let l = length_is a s e in
    let f = first_differing a p q (first_bit_lem p q a.length j hj (wp.1 j (omega (arith, wp.0))) (wq.1 j (omega (arith, wq.0))) apart) in
    let d = f.0 in
    let n = d / (plan_for s).dbps in
    let hn = carried_in_frame s r d (omega (arith, f.1.1.0, l)) in
    let hp : s.length ≤ length p = omega (arith, wp.0, l) in
    let hq : s.length ≤ length q = omega (arith, wq.0, l) in
    let seen = payload_shown a s e p q d f.1 in (
      d,
      (
        f.1,
        (
          hn,
          (
            λ out out' room enough.
                slices_differ a a s s e e p q n out out'
                (record { payload_whole = hp; in_frame = hn; room_enough = enough })
                (record { payload_whole = hq; in_frame = hn; room_enough = omega (arith, room, enough) }) refl seen,
            answers_differ a a s s e e refl p q n hp hq hn hn seen,
          ),
        ),
      ),
    )

-- ---- (d)

-- settings that are equal but for the seed have one plan, format and number of floats
pub record OneFrame (s s' : Settings) : Type 0 where
  pub plans : plan_for s ≡ plan_for s'
  pub formats : s.format ≡ s'.format
  pub seeds : s.seed ≡ s'.seed → ⊥

one_frame : (a a' : RawSettings) (s s' : Settings) → check_of a ≡ Ok s → check_of a' ≡ Ok s' → EqualButSeed a a' → OneFrame s s'
unfolding plan_for
one_frame a a' s s' e e' (w, (m, (f, (l, (d, others))))) =
    let t = (passed a s e).meant in
    let t' = (passed a' s' e').meant in
    let width : s.width ≡ s'.width = ap (λ (v : Settings). v.width) (sym t) ∙ w ∙ ap (λ (v : Settings). v.width) t' in
    let mcs : s.mcs ≡ s'.mcs = ap (λ (v : Settings). v.mcs) (sym t) ∙ m ∙ ap (λ (v : Settings). v.mcs) t' in
    record {
      plans = rw (width, mcs);
      formats = ap (λ (v : Settings). v.format) (sym t) ∙ f ∙ ap (λ (v : Settings). v.format) t';
      seeds = λ same. d (ap (λ (v : Settings). v.seed) t ∙ same ∙ ap (λ (v : Settings). v.seed) (sym t'));
    }

-- symbol 0 shows the seed
seed_shown : (s s' : Settings) → Right s → Right s' → OneFrame s s' → (p q : List ℕ) → Shown s s' p q 0
seed_shown s s' r r' o p q =
    let f = first_output s.seed s'.seed r.seed_most r'.seed_most o.seeds in
    shown s s' r o.plans o.formats p q 0
    (halves_differ (plan_for s) (plan_fits s r) (input_of s p) (input_of s' q) (frame_bit s p) (frame_bit s' q) 0
    (λ k h. absurd (omega (arith, h))) f.at (omega arith) (omega (arith, f.early, (plan_fits s r).dbps_some))
    (service_apart s s' p q f.at (omega (arith, f.early)) f.apart))

same_floats : (s s' : Settings) → plan_for s ≡ plan_for s' → floats_of s ≡ floats_of s'
same_floats s s' e = ap (λ (v : Plan). v.streams * stream_floats v.width) e

pub seeds_shown : SeedsShown
seeds_shown a a' p q s s' e e' but wp wq =
    let r = right a s e in
    let r' = right a' s' e' in
    let o = one_frame a a' s s' e e' but in
    let hp : s.length ≤ length p = omega (arith, wp.0, length_is a s e) in
    let hq : s'.length ≤ length q = omega (arith, wq.0, length_is a' s' e') in
    let floats = same_floats s s' o.plans in
    let seen = seed_shown s s' r r' o p q in (
      λ out out' room enough.
          slices_differ a a' s s' e e' p q 0 out out'
          (record { payload_whole = hp; in_frame = symbols_some s r; room_enough = enough })
          (record { payload_whole = hq; in_frame = symbols_some s' r'; room_enough = omega (arith, room, enough, floats) }) floats seen,
      answers_differ a a' s s' e e' o.plans p q 0 hp hq (symbols_some s r) (symbols_some s' r') seen,
    )

pub seed_points : OfPoints SeedPoints
seed_points a a' p q n out out' but wp wq room s s' e e' zero-th z =
    let first : points_number (points_of (Ok s) (length p) n (length out)) ≡ 0 = rw e at z in
    let ok = given s (length p) n (length out) first in
    rw zero-th ((seeds_shown a a' p q s s' e e' but wp wq).0 out out' room ok.room_enough)

-- ---- of answers and slices that are those of the calls, by the calls' promises

pub of_signals : (a a' : RawSettings) (out out' : List ℕ) (r r' : Result (Unit {0}) Refusal) (l l' : List ℕ)
    → r ≡ written_of (check_of a) (length out) → r' ≡ written_of (check_of a') (length out') → l ≡ written_into (check_of a) out → l' ≡ written_into (check_of a') out'
    → SameSignal a a' out out' r r' l l'
of_signals a a' out out' r r' l l' er er' el el' = rw (er, er', el, el') (same_signal a a' out out')

pub of_points : (Sentence : (a a' : RawSettings) (p q : List ℕ) (n : ℕ) (out out' : List Float) (r r' : Result ℕ Refusal) (l l' : List Float) → Type 0) → OfPoints Sentence
    → (a a' : RawSettings) (p q : List ℕ) (n : ℕ) (out out' : List Float) (r r' : Result ℕ Refusal) (l l' : List Float)
    → r ≡ points_of (check_of a) (length p) n (length out) → r' ≡ points_of (check_of a') (length q) n (length out')
    → l ≡ points_into (check_of a) p n out → l' ≡ points_into (check_of a') q n out'
    → Sentence a a' p q n out out' r r' l l'
of_points Sentence term a a' p q n out out' r r' l l' er er' el el' = rw (er, er', el, el') (term a a' p q n out out')

pub of_queries : (Sentence : (a a' : RawSettings) (p q : List ℕ) (n : ℕ) (r r' : Result Carried Refusal) → Type 0) → OfQueries Sentence
    → (a a' : RawSettings) (p q : List ℕ) (n i : ℕ) (z : ℤ) (r r' : Result Carried Refusal)
    → r ≡ query_of (check_of a) p n i z → r' ≡ query_of (check_of a') q n i z → Sentence a a' p q n r r'
of_queries Sentence term a a' p q n i z r r' er er' = rw (er, er') (term a a' p q n i z)

-- ---- demand 3 whole

pub demand_3a : Demand3a
demand_3a = (same_count, (same_signal, (same_points, same_query)))

pub demand_3b : Demand3b
demand_3b = (local_points, local_query)

pub demand_3c : Demand3c
demand_3c = (differing_points, payloads_shown)

pub demand_3d : Demand3d
demand_3d = (seed_points, seeds_shown)
