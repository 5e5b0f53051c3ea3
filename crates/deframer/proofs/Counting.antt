-- Numbers added up over a range: the sum is zero exactly when each is. Three such ranges are service, tail and pad.
use Rattle.std.proofs.Common.{◌≡◌, ◌∙◌, sym, ap, List, ℕ, ◌+◌, ◌-◌, ◌*◌, ◌<◌, ◌≤◌, min, length, take, get_or, sum_by, eqb, arith}
use Rattle.std.proofs.Math.Dec.{eqb→eq}
use Rattle.std.specs.List.{between}
use Rattle.std.proofs.lemmas.Slice.{between_from_start}
use Rattle.std.proofs.lemmas.List.Sums.{get_or-le-sum_by, sum_by-le}
use Rattle.std.proofs.lemmas.List.Elements.{All-from_get_or}
use Rattle.std.proofs.lemmas.List.Edits.{length-between, get_or-between}
use Rattle.laws.proofs.Reflect.{same_test, eqb_of}
use Rattle.chain.specs.DataBits.{payload_end, tail_end}
use Rattle.deframer.specs.Deframed.{framed}
use Rattle.deframer.specs.Asked.{Counted}
use Rattle.deframer.proofs.Framing.{framed_right, right_framed}

-- a list's numbers added up
pub counted_sum : (xs : List ℕ) → ((d : ℕ) → get_or xs d 0 < 256) → Counted (λ d. get_or xs d 0) 0 (length xs) (sum_by (λ (b : ℕ). b) xs)
counted_sum xs small = record {
  none = λ z d h l. omega (arith, get_or-le-sum_by (λ (b : ℕ). b) xs d 0 l);
  zero = λ z. omega (arith, most 0 (λ d l. omega (arith, z d (omega arith) l)));
  small = omega (arith, most 255 (λ d l. omega (arith, small d)));
}
  where
    most : (m : ℕ) → ((d : ℕ) → d < length xs → get_or xs d 0 ≤ m) → sum_by (λ (b : ℕ). b) xs ≤ length xs * m
    most m h = sum_by-le (λ (b : ℕ). b) m xs (All-from_get_or (λ (x : ℕ). x ≤ m) xs 0 h)

-- the numbers of a part of a list
pub counted_part : (xs : List ℕ) (from to total : ℕ) → from ≤ to → to ≤ length xs
    → Counted (λ d. get_or (between from to xs) d 0) 0 (length (between from to xs)) total → Counted (λ d. get_or xs d 0) from to total
counted_part xs from to total o l c =
    let sized = length-between xs from to l in
    record {
      none = λ z d h m.
          sym (get_or-between xs from to (d - from) 0 (omega arith) ∙ ap (λ (i : ℕ). get_or xs i 0) (omega arith))
          ∙ c.none z (d - from) (omega arith) (omega arith);
      zero = λ z. c.zero (λ d h m. get_or-between xs from to d 0 (omega arith) ∙ z (from + d) (omega arith) (omega arith));
      small = omega (arith, c.small);
    }

pub counted_front : (xs : List ℕ) (n total : ℕ) → n ≤ length xs
    → Counted (λ d. get_or (take n xs) d 0) 0 (length (take n xs)) total → Counted (λ d. get_or xs d 0) 0 n total
counted_front xs n total l c = counted_part xs 0 n total (omega arith) l (rw (between_from_start xs n) c)

-- service, tail and pad of a symbol add up to zero exactly when it passes
pub framed_counted : (bytes encoders start count : ℕ) (X P : ℕ → ℕ) (service tail pad a b c : ℕ)
    → service ≡ min (16 - start) count → tail ≡ min (payload_end bytes - start) count → pad ≡ min (tail_end bytes encoders - start) count
    → Counted P 0 service a → Counted X tail pad b → Counted P pad count c
    → eqb (a + b + c) 0 ≡ framed bytes encoders start count X P
framed_counted bytes encoders start count X P service tail pad a b c service-is tail-is pad-is p q r =
    same_test (eqb (a + b + c) 0) (framed bytes encoders start count X P)
    (λ t.
    let e = eqb→eq (a + b + c) 0 t in
    right_framed bytes encoders start count X P (λ d h. (
      λ l. p.none (omega arith) d (omega arith) (omega arith),
      λ l m. q.none (omega arith) d (omega arith) (omega arith),
      λ l. r.none (omega arith) d (omega arith) h,
    )))
    (λ t.
    let right = framed_right bytes encoders start count X P t in
    eqb_of (a + b + c) 0 (omega (
      arith,
      p.zero (λ d h k. (right d (omega arith)).0 (omega arith)),
      q.zero (λ d h k. (right d (omega arith)).1 (omega arith) (omega arith)),
      r.zero (λ d h k. (right d (omega arith)).2 (omega arith)),
    )))
