-- Where the kept bits' sums stand, that each kept bit is the sum at its place, and that the bits picked from there are the coded bits.
-- Assumes nothing.
use Rattle.std.proofs.Common.{◌≡◌, ◌∙◌, refl, sym, ap, ℕ, ◌+◌, ◌-◌, ◌*◌, ◌%◌, ◌<◌, ◌≤◌, arith, ⊎_elim}
use Rattle.std.proofs.Common.{List, mul-le-mul_right, ◌++◌, length, drop, eq-eqb, ne_eqb, T, get_or}
use native.Mathlib.Decide.{ℕ_discrete}
use borrow.Rule.Slice.PartMut.{put_mid}
use Rattle.std.proofs.lemmas.Grind.{common_steps}
use Rattle.laws.specs.Test.{among}
use Rattle.laws.specs.Filled.{Filled}
use Rattle.laws.proofs.Filling.{fill_at}
use Rattle.chain.specs.Plan.{kept_counts}
use Rattle.chain.specs.Encoder.{line_tap}
use Rattle.chain.specs.Puncture.{kept_step, line_kept}
use Rattle.chain.proofs.Counts.{encoders_some, encoders_most, encoders_not_two, kept_low, kept_high}
use Rattle.chain.proofs.KeptLaws.{kept_form, step_below}
use Rattle.chain.proofs.Window.{tap_at, at_below}
use Rattle.encoder.specs.Sums.{Sums}
use Rattle.encoder.proofs.SumLaws.{xor_a_lem, xor_b_lem}
use Rattle.puncturing.specs.Coded.{sum_place, CodedAsked, Coded}

-- a place is that of the kept bit's step, and 2160 more for sum B
pub sum_place_is : (q e y : ℕ) → sum_place q e y ≡ 2160 * (y % q % 2) + e * kept_step q y
unfolding kept_step
sum_place_is q e y = refl

module _ (line : ℕ → ℕ) (e q g : ℕ) (rate : T (among kept_counts q))
    (bits : (i : ℕ) → i < e * ((q - 1) * g) + 6 * e → line i < 2) (j y : ℕ) (mine : j < e) (few : y < q * g) where
  -- the input that a kept bit is the sum of, by its number, is one of the symbol's
  pub input_few : e * kept_step q y + j < e * ((q - 1) * g)
  input_few = omega (arith, at_below e j (kept_step q y) ((q - 1) * g) mine (step_below q y (kept_low q rate) g few))

  -- the inputs that a kept bit is a sum of are bits
  tap_bit : (k : ℕ) → k ≤ 6 → line_tap line e j (kept_step q y) k < 2
  tap_bit k h =
      let o : (6 - k) * e ≤ 6 * e = mul-le-mul_right e (omega arith) in
      bits _ (omega (arith, tap_at e (kept_step q y) j k h, input_few))

  -- kept bit y of encoder j is the sum j places after that of encoder 0
  pub sum_kept : {sums₀ sums : List ℕ} → Sums line e (e * ((q - 1) * g)) sums₀ sums
      → get_or sums (sum_place q e y + j) 0 ≡ line_kept line e q j y
  sum_kept {sums = sums} s =
      elim (ℕ_discrete (y % q % 2) 0) [
        | yes h ↦
            let p : sum_place q e y + j ≡ e * kept_step q y + j = omega (arith, sum_place_is q e y) in
            ap (λ (i : ℕ). get_or sums i 0) p ∙ s.a_done _ input_few ∙ xor_a_lem line e j (kept_step q y) tap_bit
            ∙ sym (kept_form (line_tap line e j) q y rate ∙ rw (eq-eqb (y % q % 2) 0 h))
        | no h ↦
            let p : sum_place q e y + j ≡ 2160 + (e * kept_step q y + j) = omega (arith, sum_place_is q e y) in
            ap (λ (i : ℕ). get_or sums i 0) p ∙ s.b_done _ input_few ∙ xor_b_lem line e j (kept_step q y) tap_bit
            ∙ sym (kept_form (line_tap line e j) q y rate ∙ rw (ne_eqb (y % q % 2) 0 h))
      ]

-- a part from a place on that is stored, in the whole
module _ (f : ℕ → ℕ) (n : ℕ) (d s : List ℕ) (sized : length s ≡ n) (stored : (i : ℕ) → i < n → get_or s i 0 ≡ f i) where
  pub stored_first : n ≤ length d → Filled 0 0 f n d (s ++ drop n d)
  stored_first room = record {
    same = grind (arith, common_steps);
    done = λ i l. let e = stored i l in grind (arith, common_steps);
    before = λ i l. absurd (omega arith);
    after = λ i l. grind (arith, common_steps);
  }

  pub stored_from : (a k : ℕ) → k ≡ n → a + n ≤ length d → Filled 0 a f n d (put_mid a k d s)
  stored_from a k e room = record {
    same = grind (arith, common_steps);
    done = λ i l. let e = stored i l in grind (arith, common_steps);
    before = λ i l. grind (arith, common_steps);
    after = λ i l. grind (arith, common_steps);
  }

-- what holds of the sizes of a symbol that is asked for
pub record Sizes (encoders kept groups : ℕ) : Type 0 where
  pub one : 1 ≤ encoders
  pub two : encoders ≤ 2
  pub low : 2 ≤ kept
  pub high : kept ≤ 6
  pub share : kept * groups ≤ 2592
  pub steps : (kept - 1) * groups ≤ 2160
  pub halved : encoders ≡ 2 → kept * groups ≤ 1296
  pub otherwise : (encoders ≡ 2 → ⊥) → encoders ≡ 1

-- those sizes
pub sizes : {coded line : List ℕ} {e q g : ℕ} → CodedAsked coded line e q g → Sizes e q g
sizes {e = e} {q = q} {g = g} p =
    let one : 1 ≤ e = encoders_some e p.one_or_two in
    record {
      one = one;
      two = encoders_most e p.one_or_two;
      low = kept_low q p.rate;
      high = kept_high q p.rate;
      share = omega (arith, mul-le-mul_right (q * g) one);
      steps = omega (arith, mul-le-mul_right ((q - 1) * g) one);
      halved = λ h. omega (arith, rw h at p.fits);
      otherwise = encoders_not_two e p.one_or_two;
    }

module _ (coded line : List ℕ) (e q g : ℕ) (asked : CodedAsked coded line e q g) where
  -- the line's bits, by number
  abbrev bit_at : ℕ → ℕ
  bit_at i = get_or line i 0

  -- a place and an encoder's number are a place among the sums
  pub place_inside : {d places : List ℕ} → Filled 0 0 (λ y. sum_place q e y) (q * g) d places → (j : ℕ) → j < e
      → (y : ℕ) → y < q * g → get_or places y 0 + j < 4320
  place_inside f j mine y l =
      omega (arith, fill_at 0 (λ y. sum_place q e y) f y l, sum_place_is q e y, input_few bit_at e q g asked.rate asked.bits j y mine l)

  -- what the bits picked for encoder j are
  pub picked : {s sums d places before after : List ℕ} {n : ℕ} → Sums bit_at e (e * ((q - 1) * g)) s sums
      → Filled 0 0 (λ y. sum_place q e y) (q * g) d places → (j k : ℕ) → j < e → k ≡ j → n ≡ q * g
      → Filled 0 0 (λ y. get_or sums (get_or places y 0 + k) 0) n before after
      → (y : ℕ) → y < q * g → get_or after y 0 ≡ line_kept bit_at e q j y
  picked {sums = sums} {places = places} s f j k mine same size p y l =
      fill_at 0 (λ y. get_or sums (get_or places y 0 + k) 0) p y (omega arith)
      ∙ rw (fill_at 0 (λ y. sum_place q e y) f y l, same) (sum_kept bit_at e q g asked.rate asked.bits j y mine l s)

  -- one encoder's bits are all
  pub one_coded : {d d₁ : List ℕ} → e ≡ 1 → Filled 0 0 (λ y. line_kept bit_at e q 0 y) (q * g) d d₁ → Coded bit_at e q (q * g) d d₁
  one_coded {d} {d₁} one p =
      record {
        same = p.same;
        done = λ j y h l. let z : j ≡ 0 = omega arith in rw z (p.done y l);
        rest = λ i out. ⊎_elim (λ (h : i < 0). p.before i h) (λ (h : 0 + q * g ≤ i). p.after i h) (out 0 (omega arith));
      }

  -- the second encoder's bits are written past the first's
  pub two_coded : {d d₁ d₂ : List ℕ} → e ≡ 2 → Filled 0 0 (λ y. line_kept bit_at e q 0 y) (q * g) d d₁
      → Filled 0 1296 (λ y. line_kept bit_at e q 1 y) (q * g) d₁ d₂ → Coded bit_at e q (q * g) d d₂
  two_coded {d} {d₁} {d₂} two p r =
      let few : q * g ≤ 1296 = (sizes asked).halved two in
      record {
        same = r.same ∙ p.same;
        done = λ j y h l.
            elim (ℕ_discrete j 0) [
              | yes z ↦ rw z (r.before _ (omega arith) ∙ p.done y l)
              | no n ↦ let z : j ≡ 1 = omega arith in rw z (r.done y l)
            ];
        rest = λ i out.
            ⊎_elim (λ (h : i < 1296). r.before i h) (λ (h : 1296 + q * g ≤ i). r.after i h) (out 1 (omega arith))
            ∙ ⊎_elim (λ (h : i < 0). p.before i h) (λ (h : 0 + q * g ≤ i). p.after i h) (out 0 (omega arith));
      }
