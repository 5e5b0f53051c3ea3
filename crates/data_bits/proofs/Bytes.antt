-- Data bits by whole bytes: bytes of the payload one after the other, and what stands around them.
use Rattle.std.proofs.Common.{◌≡◌, ◌∙◌, refl, sym, ap, List, [], ◌∷◌, ℕ, zero, suc, ◌+◌, ◌-◌, ◌*◌, ◌/◌, ◌%◌, ◌^◌, ◌<◌, ◌≤◌, min, T, eqb}
use Rattle.std.proofs.Common.{length, get_or, arith}
use Rattle.std.proofs.Math.Dec.{eqb→eq}
use Rattle.std.specs.List.{between}
use Rattle.std.proofs.lemmas.List.Edits.{length-between, get_or-between}
use borrow.Rule.Slice.PartMut.{put_mid}
use Rattle.laws.specs.Test.{both_left, both_right, every}
use Rattle.laws.specs.Filled.{Filled}
use Rattle.laws.proofs.Filling.{fill_as, fill_end, fill_lent}
use Rattle.laws.proofs.Search.{parts}
use Rattle.chain.specs.DataBits.{payload_bit}
use Rattle.chain.proofs.InputLaws.{payload_bit_lem, ranges, data_service, data_payload, data_zero}
use Rattle.data_bits.specs.Asked.{DataAsked, DataFilled}

-- a list of zeros is zero everywhere, past its end too
pub all_zero : (l : List ℕ) → T (every (λ (x : ℕ). eqb x 0) l) → (j : ℕ) → get_or l j 0 ≡ 0
all_zero [] t j = refl
all_zero (x ∷ l) t zero = eqb→eq x 0 (both_left (eqb x 0) (every (λ (y : ℕ). eqb y 0) l) t)
all_zero (x ∷ l) t (suc j) = all_zero l (both_right (eqb x 0) (every (λ (y : ℕ). eqb y 0) l) t) j

-- data bits are asked for over a list of zeros
pub data_asked : (raw payload : List ℕ) (from count : ℕ) → T (every (λ (x : ℕ). eqb x 0) raw)
    → 8 * count ≤ length raw → length payload ≤ 65535 → from ≤ 2 ^ 27 → count ≤ 273 → DataAsked raw payload from count
data_asked raw payload from count zeros room short near few =
    record { room = room; blank = all_zero raw zeros; short = short; near = near; few = few }

-- the bits of some bytes of the payload are bits of the payload
part_bit : (payload : List ℕ) (p q k : ℕ) → k < 8 * (q - p) → payload_bit (between p q payload) k ≡ payload_bit payload (8 * p + k)
part_bit payload p q k h =
    let d : (8 * p + k) / 8 ≡ p + k / 8 = omega arith in
    let r : (8 * p + k) % 8 ≡ k % 8 = omega arith in
    rw (d, r, get_or-between payload p q (k / 8) 0 (omega arith))

-- bytes of the payload put as bits into a part of the list
pub part_put : (payload raw₀ ys : List ℕ) (p q low high : ℕ) → low ≤ high → q - p ≡ high - low → q ≤ length payload → 8 * high ≤ length raw₀
    → Filled 0 0 (payload_bit (between p q payload)) (8 * length (between p q payload)) (between (8 * low) (8 * high) raw₀) ys
    → Filled 0 (8 * low) (λ k. payload_bit payload (8 * p + k)) (8 * (high - low)) raw₀ (put_mid (8 * low) (8 * high - 8 * low) raw₀ ys)
part_put payload raw₀ ys p q low high o e whole room put =
    let sized = length-between payload p q whole in
    fill_as 0 (8 * low) _ _ _ raw₀ _ (λ k h. part_bit payload p q k (omega arith))
    (fill_lent 0 (8 * low) _ (8 * (high - low)) (8 * high - 8 * low) raw₀ (omega arith) (omega arith) (fill_end 0 0 _ (omega arith) put))

-- bit j from byte `from` on by its number in the payload
place : (from low j : ℕ) → 2 ≤ from + low → 8 * low ≤ j → 8 * (from + low - 2) + (j - 8 * low) ≡ 8 * from + j - 16
place from low j h l = omega arith

-- the data bits from byte `from` on where the bytes from `low` to `high` are the payload's and all else was zero
module _ (payload raw₀ : List ℕ) (bytes from count low high : ℕ) (blank : (j : ℕ) → get_or raw₀ j 0 ≡ 0)
    (low-is : low ≡ min (2 - from) count) (high_is : high ≡ min (bytes + 2 - from) count) where
  -- no byte of the payload is among them
  pub data_none : high ≤ low → DataFilled payload bytes from count raw₀ raw₀
  data_none h = record {
    same = refl;
    done = λ j l. blank j ∙ sym (ranges bytes 0 (8 * from + j)
        (λ a. data_service (payload_bit payload) bytes (8 * from + j) a)
        (λ a b. absurd (omega arith))
        (λ a b. data_zero (payload_bit payload) bytes (8 * from + j) a)
        (λ a. data_zero (payload_bit payload) bytes (8 * from + j) (omega arith)));
    bits = λ j. omega (arith, blank j);
  }

  module _ (raw : List ℕ) (some : low < high)
      (put : Filled 0 (8 * low) (λ k. payload_bit payload (8 * (from + low - 2) + k)) (8 * (high - low)) raw₀ raw) where
    -- around the payload
    outside : (j : ℕ) → (8 * low ≤ j → j < 8 * high → ⊥) → get_or raw j 0 ≡ 0
    outside j out =
        parts (8 * low) (8 * high) j
        (λ a. put.before j a ∙ blank j)
        (λ a b. absurd (out a b))
        (λ a. put.after j (omega arith) ∙ blank j)

    -- in the payload
    inside : (j : ℕ) → 8 * low ≤ j → j < 8 * high → get_or raw j 0 ≡ payload_bit payload (8 * (from + low - 2) + (j - 8 * low))
    inside j a b = ap (λ (i : ℕ). get_or raw i 0) (omega arith) ∙ put.done (j - 8 * low) (omega arith)

    -- everywhere a bit
    bit : (j : ℕ) → get_or raw j 0 < 2
    bit j =
        parts (8 * low) (8 * high) j
        (λ a. omega (arith, put.before j a, blank j))
        (λ a b. rw (inside j a b) (payload_bit_lem payload (8 * (from + low - 2) + (j - 8 * low))))
        (λ a. omega (arith, put.after j (omega arith), blank j))

    -- some are
    pub data_some : DataFilled payload bytes from count raw₀ raw
    data_some = record {
      same = put.same;
      done = λ j l. ranges bytes 0 (8 * from + j)
          (λ a. outside j (λ b c. omega arith) ∙ sym (data_service (payload_bit payload) bytes (8 * from + j) a))
          (λ a b. inside j (omega arith) (omega arith)
          ∙ ap (payload_bit payload) (place from low j (omega arith) (omega arith))
          ∙ sym (data_payload (payload_bit payload) bytes (8 * from + j) a b))
          (λ a b. outside j (λ c e. omega arith) ∙ sym (data_zero (payload_bit payload) bytes (8 * from + j) a))
          (λ a. outside j (λ b c. omega arith) ∙ sym (data_zero (payload_bit payload) bytes (8 * from + j) (omega arith)));
      bits = bit;
    }
