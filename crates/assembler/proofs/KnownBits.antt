-- Payload bits as they are known after a symbol: out of the part of a byte before it, or out of the symbol.
use Rattle.std.proofs.Common.{◌≡◌, ◌∙◌, sym, ap, Bool, true, false, cond, List, ⊎_elim, ℕ, ◌+◌, ◌-◌, ◌*◌, ◌/◌, ◌%◌, ◌^◌, ◌<◌, ◌≤◌, arith}
use Rattle.std.proofs.Common.{T, eqb, ltb, length, get_or}
use Rattle.std.proofs.Math.Nat.{div-eq_of_lt, pow-le-pow_right}
use borrow.Author.Tests.{lt-ltb, le-ltb}
use Rattle.laws.specs.Test.{every}
use Rattle.laws.specs.Filled.{Filled}
use Rattle.laws.proofs.Filling.{fill_at, fill_as}
use Rattle.laws.proofs.Search.{lt_or_le, parts}
use Rattle.data_bits.proofs.Bytes.{all_zero}
use Rattle.assembler.specs.Assembled.{bits_number, byte_of, part_of, known_bit, payload_before, PayloadAsked}
use Rattle.assembler.specs.Asked.{LineAsked, KnownLine}
use Rattle.assembler.proofs.Packing.{packed_as, packed_rest, packed_small}

cond_bit : (t : Bool) (a b : ℕ) → a < 2 → b < 2 → cond t a b < 2
cond_bit true a b l m = l
cond_bit false a b l m = m

-- a known bit is a bit
pub known_bit_lem : (bytes start part : ℕ) (P : ℕ → ℕ) → ((d : ℕ) → P d < 2) → (k : ℕ) → known_bit bytes start part P k < 2
unfolding known_bit
known_bit_lem bytes start part P bits k = cond_bit (ltb k (payload_before bytes start)) _ _ (omega arith) (bits (16 + k - start))

-- the part that a symbol leaves is as many bits long as the payload bits leave modulo 8
pub part_small : (bytes start part : ℕ) (P : ℕ → ℕ) → ((d : ℕ) → P d < 2) → (m : ℕ) → part_of (known_bit bytes start part P) m < 2 ^ (m % 8)
part_small bytes start part P bits m =
    packed_small (known_bit bytes start part P) (8 * (m / 8)) (m % 8) (λ k l. known_bit_lem bytes start part P bits (8 * (m / 8) + k))

module _ (bytes start part : ℕ) (P : ℕ → ℕ) (k : ℕ) where
  -- before the symbol: a bit of the part
  pub known_old : k < payload_before bytes start → known_bit bytes start part P k ≡ part / 2 ^ (k - 8 * (payload_before bytes start / 8)) % 2
  unfolding known_bit
  known_old h = simp (lt-ltb k (payload_before bytes start))

  -- from the symbol on: one of its bits
  pub known_new : payload_before bytes start ≤ k → known_bit bytes start part P k ≡ P (16 + k - start)
  unfolding known_bit
  known_new h = simp (le-ltb k (payload_before bytes start))

-- only the symbol's bits count
pub known_ext : (bytes start count part : ℕ) (P Q : ℕ → ℕ) → ((d : ℕ) → d < count → P d ≡ Q d)
    → (k : ℕ) → k < payload_before bytes (start + count) → known_bit bytes start part P k ≡ known_bit bytes start part Q k
known_ext bytes start count part P Q e k l =
    ⊎_elim
    (λ (h : k < payload_before bytes start). known_old bytes start part P k h ∙ sym (known_old bytes start part Q k h))
    (λ (h : payload_before bytes start ≤ k).
    known_new bytes start part P k h ∙ e (16 + k - start) (omega arith) ∙ sym (known_new bytes start part Q k h))
    (lt_or_le k (payload_before bytes start))

-- a number below 2 ^ r has no bit from r on
no_bit : (part r j : ℕ) → part < 2 ^ r → r ≤ j → part / 2 ^ j % 2 ≡ 0
no_bit part r j h l =
    let e : 2 ^ r ≤ 2 ^ j = pow-le-pow_right (omega arith) l in
    let q : part / 2 ^ j ≡ 0 = div-eq_of_lt (omega arith) in
    rw q

-- where the symbol's payload bits stand
record Places (start count before after : ℕ) : Type 0 where
  ordered : before ≤ after
  starts : before < after → start ≤ 16 + before
  ends : before < after → 16 + before - start + (after - before) ≤ count

places : (bytes start count before after : ℕ) → before ≡ payload_before bytes start → after ≡ payload_before bytes (start + count)
    → Places start count before after
places bytes start count before after b a = record { ordered = omega arith; starts = λ h. omega arith; ends = λ h. omega arith }

-- the line is asked for on zeros
pub line_asked : (line payload plain : List ℕ) (part bytes start count before after : ℕ) → T (every (λ (x : ℕ). eqb x 0) line) → 2176 ≤ length line
    → PayloadAsked payload plain part bytes start count → before ≡ payload_before bytes start → after ≡ payload_before bytes (start + count)
    → LineAsked line plain part bytes start count before after
line_asked line payload plain part bytes start count before after zeros room asked before_is after_is = record {
  room = room;
  blank = all_zero line zeros;
  short = asked.short;
  whole_plain = asked.whole_plain;
  few = asked.few;
  near = asked.near;
  bits = asked.bits;
  part_fits = asked.part_fits;
  before_is = before_is;
  after_is = after_is;
}

-- the line of known bits: the part's eight bits on a blank line, and on these the symbol's
module _ (line₀ plain : List ℕ) (part bytes start count before after : ℕ) (asked : LineAsked line₀ plain part bytes start count before after)
    (line₁ : List ℕ) (put : Filled 0 0 (λ k. part / 2 ^ k % 2) 8 line₀ line₁) where
  fits : part < 2 ^ (before % 8)
  fits = rw asked.before_is asked.part_fits

  at : Places start count before after
  at = places bytes start count before after asked.before_is asked.after_is

  part_bit : (j : ℕ) → get_or line₁ j 0 ≡ part / 2 ^ j % 2
  part_bit j =
      ⊎_elim
      (λ (h : j < 8). fill_at 0 (λ k. part / 2 ^ k % 2) put j h)
      (λ (h : 8 ≤ j). put.after j (omega arith) ∙ asked.blank j ∙ sym (no_bit part (before % 8) j fits (omega arith)))
      (lt_or_le j 8)

  part_none : (j : ℕ) → before % 8 ≤ j → get_or line₁ j 0 ≡ 0
  part_none j h = part_bit j ∙ no_bit part (before % 8) j fits h

  old : (j : ℕ) → j < before % 8 → get_or line₁ j 0 ≡ known_bit bytes start part (λ d. get_or plain d 0) (8 * (before / 8) + j)
  old j h =
      let e : 8 * (before / 8) + j - 8 * (payload_before bytes start / 8) ≡ j = rw (sym asked.before_is) (omega arith) in
      part_bit j ∙ sym (known_old bytes start part (λ d. get_or plain d 0) (8 * (before / 8) + j) (rw (sym asked.before_is) (omega arith))
      ∙ ap (λ (i : ℕ). part / 2 ^ i % 2) e)

  -- no payload bit in the symbol
  pub line_part : after ≤ before → KnownLine bytes start part before after (λ d. get_or plain d 0) line₀ line₁
  line_part h = record {
    same = put.same;
    known = λ j l. old j (omega arith);
    rest = λ j l. part_none j (omega (arith, at.ordered));
    bits = λ j. rw (part_bit j) (omega arith);
  }

  -- some
  module _ (some : before < after) (line : List ℕ)
      (copied : Filled 0 (before % 8) (λ t. get_or plain (16 + before - start + t) 0) (after - before) line₁ line) where
    new : (j : ℕ) → before % 8 ≤ j → 8 * (before / 8) + j < after → get_or line j 0 ≡ get_or plain (16 + before - start + (j - before % 8)) 0
    new j l h = ap (λ (i : ℕ). get_or line i 0) (omega arith) ∙ copied.done (j - before % 8) (omega arith)

    known_symbol : (j : ℕ) → before % 8 ≤ j → known_bit bytes start part (λ d. get_or plain d 0) (8 * (before / 8) + j) ≡ get_or plain (16 + before - start + (j - before % 8)) 0
    known_symbol j l =
        let s = at.starts some in
        let e : 16 + (8 * (before / 8) + j) - start ≡ 16 + before - start + (j - before % 8) = omega arith in
        known_new bytes start part (λ d. get_or plain d 0) (8 * (before / 8) + j) (rw (sym asked.before_is) (omega arith))
        ∙ ap (λ (i : ℕ). get_or plain i 0) e

    past : (j : ℕ) → after ≤ 8 * (before / 8) + j → get_or line j 0 ≡ 0
    past j h = copied.after j (omega arith) ∙ part_none j (omega arith)

    pub line_symbol : KnownLine bytes start part before after (λ d. get_or plain d 0) line₀ line
    line_symbol = record {
      same = copied.same ∙ put.same;
      known = λ j h. ⊎_elim
          (λ (l : j < before % 8). copied.before j l ∙ old j l)
          (λ (l : before % 8 ≤ j). new j l h ∙ sym (known_symbol j l))
          (lt_or_le j (before % 8));
      rest = past;
      bits = λ j. parts (before % 8) (after - 8 * (before / 8)) j
          (λ l. rw (copied.before j l, part_bit j) (omega arith))
          (λ l h. rw (new j l (omega arith)) (asked.bits (16 + before - start + (j - before % 8)) (omega (arith, at.ends some))))
          (λ h. omega (arith, past j (omega arith)));
    }

-- bytes and part of a line of known bits
module _ (bytes start count part before after : ℕ) (P : ℕ → ℕ) (line₀ line : List ℕ)
    (before_is : before ≡ payload_before bytes start) (after_is : after ≡ payload_before bytes (start + count))
    (l : KnownLine bytes start part before after P line₀ line) where
  ordered : before ≤ after
  ordered = (places bytes start count before after before_is after_is).ordered

  bit_at : (j k : ℕ) → 8 * (before / 8) + j ≡ k → k < after → get_or line j 0 ≡ known_bit bytes start part P k
  bit_at j k e h = l.known j (omega arith) ∙ ap (known_bit bytes start part P) e

  -- the bytes that are complete
  bytes_are : (payload₀ payload : List ℕ) → Filled 0 (before / 8) (λ k. bits_number (λ j. get_or line j 0) (8 * k) 8) (after / 8 - before / 8) payload₀ payload
      → Filled 0 (before / 8) (λ k. byte_of (known_bit bytes start part P) (before / 8 + k)) (after / 8 - before / 8) payload₀ payload
  bytes_are payload₀ payload put =
      fill_as _ _ _ (λ k. byte_of (known_bit bytes start part P) (before / 8 + k)) _ _ _
      (λ k h. packed_as (λ j. get_or line j 0) (known_bit bytes start part P) (8 * k) (8 * (before / 8 + k)) 8
      (λ i m. bit_at (8 * k + i) (8 * (before / 8 + k) + i) (omega arith) (omega arith)))
      put

  pub bytes_filled : (payload₀ payload : List ℕ) → Filled 0 (before / 8) (λ k. bits_number (λ j. get_or line j 0) (8 * k) 8) (after / 8 - before / 8) payload₀ payload
      → Filled 0 (payload_before bytes start / 8) (λ k. byte_of (known_bit bytes start part P) (payload_before bytes start / 8 + k))
      (payload_before bytes (start + count) / 8 - payload_before bytes start / 8) payload₀ payload
  bytes_filled payload₀ payload put = rw (before_is, after_is) at (bytes_are payload₀ payload put)

  -- the part that is left
  part_is : bits_number (λ j. get_or line j 0) (8 * (after / 8 - before / 8)) 8 ≡ part_of (known_bit bytes start part P) after
  part_is =
      packed_rest (λ j. get_or line j 0) (8 * (after / 8 - before / 8)) (after % 8) 8 (omega arith)
      (λ k h. l.rest (8 * (after / 8 - before / 8) + k) (omega (arith, ordered)))
      ∙ packed_as (λ j. get_or line j 0) (known_bit bytes start part P) (8 * (after / 8 - before / 8)) (8 * (after / 8)) (after % 8)
      (λ i m. bit_at (8 * (after / 8 - before / 8) + i) (8 * (after / 8) + i) (omega (arith, ordered)) (omega arith))

  pub part_left_lem : bits_number (λ j. get_or line j 0) (8 * (after / 8 - before / 8)) 8 ≡ part_of (known_bit bytes start part P) (payload_before bytes (start + count))
  part_left_lem = part_is ∙ ap (part_of (known_bit bytes start part P)) after_is
