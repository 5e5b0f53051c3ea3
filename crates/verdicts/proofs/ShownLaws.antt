-- A symbol's points are the floats of its half labels exactly where they pass the search and show its label bits. Assumes of the plan that it fits.
use Rattle.std.specs.Prelude.{None}
use mathlib.Core.Path.{◌≡◌, ◌∙◌, refl, sym, ap, ap₂, subst}
use mathlib.Core.Bool.{Bool, true, false}
use mathlib.Core.List.{List}
use mathlib.Core.Logic.{⊎_elim}
use Prim.Native.Nat.{ℕ, zero, suc, ◌+◌, ◌-◌, ◌*◌, ◌/◌, ◌%◌, ◌^◌, ◌<◌}
use native.Mathlib.Nat.{mod-lt, div-add-mod', div-lt_iff_lt-mul}
use native.Mathlib.Omega.{arith}
use borrow.Author.Tests.{eqb-true, eqb-false}
use lib.Dec.{T, eqb}
use lib.ListN.{get_or}
use lib.Ieee.{Float, nan, binary32, to_bits}
use Rattle.laws.specs.Test.{among}
use Rattle.laws.specs.Claim.{Claim, ◌is◌, up_to, each, sound}
use Rattle.laws.proofs.Radix.{rem_of, quot_of}
use Rattle.chain.specs.declared.plan.Plan.{Plan}
use Rattle.chain.specs.Plan.{Fits, axis_counts}
use Rattle.chain.specs.Parser.{axis_bits}
use Rattle.chain.specs.Labels.{label_bit, written, half_label}
use Rattle.chain.proofs.Counts.{axis_known, axis_some, bits_some}
use Rattle.chain.proofs.LabelLaws.{written_lt, written_from, written_told, label_bit_lem, half_lt}
use Rattle.mapper.specs.Levels.{whole, Levels}
use Rattle.subcarriers.specs.declared.layout.Use.{Use}
use Rattle.subcarriers.specs.declared.layout.Use.TheVariants.{Silent, Pilot, Data}
use Rattle.subcarriers.specs.Subcarriers.{use_of, places_of, subcarrier_at, upper, UseRight}
use Rattle.subcarriers.proofs.SubcarrierLaws.{use_right, place_used_for, places_some}
use Rattle.modulator.specs.Symbol.{turned_if, sent_levels, axis_level, stream_floats, symbol_float}
use Rattle.modulator.proofs.SymbolLaws.{sent_used, symbol_at_lem}
use Rattle.demapper.specs.Demapped.{bit_of_label}
use Rattle.detector.specs.Asked.{place_bit}
use Rattle.detector.specs.Detected.{float_at, search_of, shown_bit, PointByRules}
use Rattle.verdicts.specs.Searches.{AllPass, FirstFailing, ShownBack}
use Rattle.demapper.proofs.PointLaws.{axis_one, axis_two}
use Rattle.detector.proofs.SearchLaws.{carrier_place_is, shown_at, found_none}
use Rattle.verdicts.proofs.GivenLaws.{pair_of, first_half, second_half, sent_pair, half_in_lem, data_back, given_by_rules, search_cases, pointed, shown_back}

-- ---- a label and its bits
-- the bits of a label write it
abbrev bits_claim : Claim
bits_claim = each axis_counts λ s. up_to (2 ^ s) λ l. written (bit_of_label s l) 0 s is l

bits_write : (s : ℕ) → T (among axis_counts s) → (l : ℕ) → l < 2 ^ s → written (bit_of_label s l) 0 s ≡ l
unfolding written
bits_write = sound bits_claim tt

module _ (s : ℕ) (known : T (among axis_counts s)) where
  -- a label is the number that the same bits write from any place
  label_written : (f : ℕ → ℕ) (a l : ℕ) → l < 2 ^ s → ((t : ℕ) → t < s → bit_of_label s l t ≡ f (a + t)) → l ≡ written f a s
  label_written f a l h same =
      sym (bits_write s known l h) ∙ written_from (bit_of_label s l) f 0 a s (λ t u. ap (bit_of_label s l) (omega arith) ∙ same t u)

  -- and bit t of the number that bits write is theirs
  written_bit : (f : ℕ → ℕ) (a : ℕ) → ((k : ℕ) → f k < 2) → (t : ℕ) → t < s → bit_of_label s (written f a s) t ≡ f (a + t)
  written_bit f a bits t u =
      let l = written f a s in
      let own : ℕ → ℕ = λ k. bit_of_label s l (k - a) in
      let at : (k : ℕ) → bit_of_label s l k ≡ own (a + k) = λ k. ap (bit_of_label s l) (omega arith) in
      at t ∙ written_told own f a s (λ k. omega arith) bits (sym (label_written own a l (written_lt f a s bits) (λ k v. at k))) t u

-- ---- a symbol's own floats
-- the points are the floats of symbol n's half labels, by their bits
abbrev pub HalfFloats : (p : Plan) (x : ℕ → ℕ) (points : List Float) (format n : ℕ) → Type 0
HalfFloats p x points format n =
    (g : ℕ) → g < p.streams * stream_floats p.width
    → to_bits binary32 (get_or points g nan) ≡ to_bits binary32 (symbol_float p (half_label p x n) format n g)

-- the points show symbol n's label bits
abbrev pub LabelsShown : (p : Plan) (x : ℕ → ℕ) (points : List Float) (n : ℕ) → Type 0
LabelsShown p x points n = (i r : ℕ) → i < p.streams → r < p.block → shown_bit p points i r ≡ label_bit p x n i r

module _ (p : Plan) (fits : Fits p) (x : ℕ → ℕ) (points : List Float) (format n : ℕ) where
  abbrev s : ℕ
  s = axis_bits p.bits

  abbrev axis : T (among axis_counts (axis_bits p.bits))
  axis = axis_known p.bits fits.bits

  abbrev half : ℕ → ℕ → ℕ
  half = half_label p x n

  abbrev useAt : ℕ → Use
  useAt f = use_of p.width (subcarrier_at p.width f)

  own_back : HalfFloats p x points format n → ShownBack p half points format n
  own_back floats = shown_back p fits half points format n (record { label = λ i m stream l. half_lt p x n i m; floats = floats })

  -- the floats of a symbol's half labels pass the search
  pub floats_given : HalfFloats p x points format n → search_of p points format n ≡ None
  floats_given floats = sym (found_none p points format n (own_back floats).given)

  -- and show its label bits
  pub floats_show : HalfFloats p x points format n → LabelsShown p x points n
  floats_show floats i r stream l =
      (own_back floats).shown i r stream l
      ∙ written_bit s axis (label_bit p x n i) (r / s * s) (label_bit_lem p x n i) (r % s) (mod-lt r (axis_some p.bits fits.bits))
      ∙ ap (label_bit p x n i) (div-add-mod' r s)

  -- ---- points that pass the search and show the label bits
  -- a bit that a data carrier's point shows is one of the half labels that give the point
  carrier_shows : (i f r : ℕ) → f < places_of p.width → useAt f ≡ Data (r / p.bits) → (rule : PointByRules p points format n i f)
      → shown_bit p points i r ≡ bit_of_label s (rule.h i (r / s)) (r % s)
  carrier_shows i f r place e rule =
      let z = subcarrier_at p.width f in
      let first = float_at p.width points i f 0 in
      let second = float_at p.width points i f 1 in
      shown_at p points i r
      ∙ ap (λ (k : ℕ). place_bit p points i k (r % p.bits)) (carrier_place_is p.width fits.width f (r / p.bits) place e)
      ∙ pointed p.bits fits.bits (upper p.width z) first second (rule.h i) r
      (data_back p fits format n i z first second rule.h (r / p.bits) e
      (half_in_lem p fits format n i z first second (rule.h i) rule.labels (eqb p.bits 1) (r / p.bits)) rule.first rule.second)

  -- the bits of the width's carriers are those of the block
  block_bit : (f r : ℕ) → f < places_of p.width → useAt f ≡ Data (r / p.bits) → r < p.block
  block_bit f r place e =
      let inside = (place_used_for p.width fits.width f place).inside in
      let carrier = subst (UseRight p.width) e (use_right p.width fits.width (subcarrier_at p.width f) inside) in
      rw (fits.block_is, fits.carriers_is) ((div-lt_iff_lt-mul {k = p.bits} (bits_some p.bits fits.bits)).0 carrier)

  module _ (shown : LabelsShown p x points n) (i f : ℕ) (stream : i < p.streams) (place : f < places_of p.width) (rule : PointByRules p points format n i f) where
    -- where half label m is of the point's carrier, the symbol's is the one that gives the point
    half_told : (c m : ℕ) → useAt f ≡ Data c → ((t : ℕ) → t < s → (m * s + t) / p.bits ≡ c) → rule.h i m ≡ half i m
    half_told c m e within = label_written s axis (label_bit p x n i) (m * s) (rule.h i m) (rule.labels m) λ t l.
        let r = m * s + t in
        let here : useAt f ≡ Data (r / p.bits) = e ∙ ap Data (sym (within t l)) in
        sym (ap₂ (λ (k j : ℕ). bit_of_label s (rule.h i k) j) (quot_of s m t r l refl) (rem_of s m t r l refl))
        ∙ sym (carrier_shows i f r place here rule)
        ∙ shown i r stream (block_bit f r place here)

    halves_told : (c : ℕ) → useAt f ≡ Data c → (single : Bool) → eqb p.bits 1 ≡ single
        → (first_half single (rule.h i) c ≡ first_half single (half i) c) × (second_half single (rule.h i) c ≡ second_half single (half i) c)
    halves_told c e true b =
        let one = eqb-true p.bits 1 b in
        let same : s ≡ p.bits = axis_one p.bits fits.bits one ∙ sym one in
        (half_told c c e (λ t l. quot_of p.bits c t (c * s + t) (omega (arith, same)) (ap (λ (k : ℕ). c * k + t) same)), refl)
    halves_told c e false b =
        let two = axis_two p.bits fits.bits (eqb-false p.bits 1 b) in
        let sum : c * (s + s) ≡ c * p.bits = ap (λ (k : ℕ). c * k) two in (
          half_told c (2 * c) e (λ t l. quot_of p.bits c t (2 * c * s + t) (omega (arith, two)) (omega (arith, sum))),
          half_told c (2 * c + 1) e (λ t l. quot_of p.bits c (s + t) ((2 * c + 1) * s + t) (omega (arith, two)) (omega (arith, sum))),
        )

    -- so both send the same there
    same_sent : (u : Use) → useAt f ≡ u → sent_levels p rule.h format n i (subcarrier_at p.width f) ≡ sent_levels p half format n i (subcarrier_at p.width f)
    same_sent Silent e = sent_used p fits rule.h format n i _ Silent e ∙ sym (sent_used p fits half format n i _ Silent e)
    same_sent (Pilot q) e = sent_used p fits rule.h format n i _ (Pilot q) e ∙ sym (sent_used p fits half format n i _ (Pilot q) e)
    same_sent (Data c) e =
        let z = subcarrier_at p.width f in
        let single = eqb p.bits 1 in
        let told = halves_told c e single refl in
        sent_pair p fits format n i z nan nan rule.h c e
        ∙ ap₂ (λ (a b : ℕ). turned_if (upper p.width z) (pair_of s single a b)) told.0 told.1
        ∙ sym (sent_pair p fits format n i z nan nan half c e)

    -- and the point's floats are the symbol's
    place_float : (a : ℕ) → a < 2
        → to_bits binary32 (float_at p.width points i f a) ≡ to_bits binary32 (symbol_float p half format n (i * stream_floats p.width + (2 * f + a)))
    place_float a l =
        axis_float a l
        ∙ ap (λ (v : Levels). to_bits binary32 (whole (axis_level v a))) (same_sent (useAt f) refl)
        ∙ sym (ap (to_bits binary32) (symbol_at_lem p fits half format n i f a place l))
      where
        axis_float : (a : ℕ) → a < 2
            → to_bits binary32 (float_at p.width points i f a)
            ≡ to_bits binary32 (whole (axis_level (sent_levels p rule.h format n i (subcarrier_at p.width f)) a))
        axis_float zero l = rule.first
        axis_float (suc zero) l = rule.second
        axis_float (suc (suc a)) l = absurd (omega (arith, l))

  -- a search that passes passes every point
  all_pass : search_of p points format n ≡ None → AllPass p points format n
  all_pass e =
      ⊎_elim (λ pass. pass)
      (λ (stop : FirstFailing p points format n). let z : ◌≡◌ {A = ℕ} 0 1 = cc in absurd (omega arith))
      (search_cases p points format n)

  -- points that pass the search and show a symbol's label bits are its floats, by their bits
  pub shown_floats : search_of p points format n ≡ None → LabelsShown p x points n → HalfFloats p x points format n
  shown_floats e shown g l =
      let floats = stream_floats p.width in
      let some : 0 < floats = omega (arith, places_some p.width) in
      let i = g / floats in
      let k = g % floats in
      let f = k / 2 in
      let stream : i < p.streams = (div-lt_iff_lt-mul {k = floats} some).1 l in
      let place : f < places_of p.width = omega (arith, mod-lt g some) in
      let there : i * floats + (2 * f + k % 2) ≡ g = omega (arith, div-add-mod' g floats) in
      let rule = (given_by_rules p fits points format n i f stream place).0 ((all_pass e).passed i f stream place) in
      subst (λ (j : ℕ). to_bits binary32 (get_or points j nan) ≡ to_bits binary32 (symbol_float p half format n j)) there
      (place_float shown i f stream place rule (k % 2) (omega arith))
