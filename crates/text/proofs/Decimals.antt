-- The decimal digits of a number, and that they are it. Assumes nothing.
use Rattle.std.proofs.Common.{◌≡◌, refl, sym, ◌∙◌, Bool, true, false, cond, ⊎_elim, List, [], ◌∷◌}
use Rattle.std.proofs.Common.{◌++◌, ℕ, zero, suc, ◌+◌, ◌/◌, ◌%◌, ◌<◌, ◌≤◌}
use Rattle.std.proofs.Common.{ltb, leb, length, get_or, length-append, arith}
use Rattle.std.proofs.Math.ListN.{get_or-append}
use Rattle.std.proofs.lemmas.Bool.{ltb-true, ltb-false, lt-ltb, le-ltb, le-leb, lt-leb}
use Rattle.laws.proofs.Search.{lt_or_le}
use Rattle.parsing.specs.Parsing.{decimal_value, AllDigits}
use Rattle.parsing.proofs.Values.{tens, tens_next, tens_none, tens_five, value_snoc}
use Rattle.text.specs.Printing.{digits_of, decimal, digit_if}

-- ---- the digits of a number

append_digits : (xs ys : List ℕ) → AllDigits xs → AllDigits ys → AllDigits (xs ++ ys)
append_digits [] ys a b = b
append_digits (x ∷ xs) ys a b = (a.0, append_digits xs ys a.1 b)

one_digit : (n : ℕ) → n < 10 → AllDigits ((48 + n) ∷ [])
one_digit n h = ((omega arith, omega arith), tt)

digits_digits : (k n : ℕ) → AllDigits (digits_of k n)
digits_digits zero n = tt
digits_digits (suc k) n = by (ltb n 10) refl (digits_digits k (n / 10))
  where
    by : (t : Bool) → ltb n 10 ≡ t → AllDigits (digits_of k (n / 10))
        → AllDigits (cond t ((48 + n) ∷ []) (digits_of k (n / 10) ++ ((48 + n % 10) ∷ [])))
    by true e a = one_digit n (ltb-true n 10 e)
    by false e a = append_digits (digits_of k (n / 10)) _ a (one_digit (n % 10) (omega arith))

digits_value : (k n : ℕ) → n < tens k → decimal_value (digits_of k n) ≡ n
digits_value zero n h = omega (arith, tens_none)
digits_value (suc k) n h = by (ltb n 10) refl (digits_value k (n / 10) (omega (arith, tens_next k)))
  where
    by : (t : Bool) → ltb n 10 ≡ t → decimal_value (digits_of k (n / 10)) ≡ n / 10
        → decimal_value (cond t ((48 + n) ∷ []) (digits_of k (n / 10) ++ ((48 + n % 10) ∷ []))) ≡ n
    by true e v = omega arith
    by false e v = value_snoc 0 (digits_of k (n / 10)) (48 + n % 10) ∙ rw v (omega arith)

digits_short : (k n : ℕ) → length (digits_of k n) ≤ k
digits_short zero n = omega arith
digits_short (suc k) n = by (ltb n 10) (digits_short k (n / 10))
  where
    by : (t : Bool) → length (digits_of k (n / 10)) ≤ k
        → length (cond t ((48 + n) ∷ []) (digits_of k (n / 10) ++ ((48 + n % 10) ∷ []))) ≤ suc k
    by true v = omega arith
    by false v = omega (arith, length-append (digits_of k (n / 10)) ((48 + n % 10) ∷ []))

digits_some : (k n : ℕ) → 1 ≤ length (digits_of (suc k) n)
digits_some k n = by (ltb n 10)
  where
    by : (t : Bool) → 1 ≤ length (cond t ((48 + n) ∷ []) (digits_of k (n / 10) ++ ((48 + n % 10) ∷ [])))
    by true = omega arith
    by false = omega (arith, length-append (digits_of k (n / 10)) ((48 + n % 10) ∷ []))

first_zero : (k n : ℕ) → n < tens (suc k) → get_or (digits_of (suc k) n) 0 0 ≡ 48 → n ≡ 0
first_zero zero n h = λ e. by (ltb n 10) refl e
  where
    by : (t : Bool) → ltb n 10 ≡ t → get_or (cond t ((48 + n) ∷ []) ((48 + n % 10) ∷ [])) 0 0 ≡ 48 → n ≡ 0
    by true p e = omega arith
    by false p e = absurd (omega (arith, ltb-false n 10 p, tens_next 0, tens_none))
first_zero (suc k) n h = λ e. by (ltb n 10) refl e (first_zero k (n / 10) (omega (arith, tens_next (suc k))))
  where
    by : (t : Bool) → ltb n 10 ≡ t
        → get_or (cond t ((48 + n) ∷ []) (digits_of (suc k) (n / 10) ++ ((48 + n % 10) ∷ []))) 0 0 ≡ 48
        → (get_or (digits_of (suc k) (n / 10)) 0 0 ≡ 48 → n / 10 ≡ 0) → n ≡ 0
    by true p e f = omega arith
    by false p e f =
        let s : 0 < length (digits_of (suc k) (n / 10)) = digits_some k (n / 10) in
        let z : n / 10 ≡ 0 = f (sym (get_or-append (digits_of (suc k) (n / 10)) ((48 + n % 10) ∷ []) 0 0 s) ∙ e) in
        absurd (omega (arith, ltb-false n 10 p))

-- the digits of a number that has at most five are that number
pub decimal_value_lem : (n : ℕ) → n < 100000 → decimal_value (decimal n) ≡ n
unfolding decimal
decimal_value_lem n h = digits_value 5 n (omega (arith, tens_five))

-- they are digits
pub decimal_digits : (n : ℕ) → AllDigits (decimal n)
unfolding decimal
decimal_digits n = digits_digits 5 n

-- at most five of them, and at least one
pub decimal_short : (n : ℕ) → length (decimal n) ≤ 5
unfolding decimal
decimal_short n = digits_short 5 n

pub decimal_some : (n : ℕ) → 1 ≤ length (decimal n)
unfolding decimal
decimal_some n = digits_some 4 n

-- no leading zero: only the number 0 starts with the digit 0
pub decimal_no_leading_zero : (n : ℕ) → n < 100000 → get_or (decimal n) 0 0 ≡ 48 → n ≡ 0
unfolding decimal
decimal_no_leading_zero n h e = first_zero 4 n (omega (arith, tens_five)) e

-- ---- the digits one by one, as they are pushed

abbrev pub digit_by_digit : ℕ → List ℕ
digit_by_digit n =
    digit_if (leb 10000 n) (n / 10000 % 10) ++ (digit_if (leb 1000 n) (n / 1000 % 10) ++ (digit_if (leb 100 n) (n / 100 % 10) ++ (digit_if (leb 10 n) (n / 10 % 10) ++ ((48 + n % 10) ∷ []))))

module _ (n : ℕ) where
  d2 : n / 10 / 10 ≡ n / 100
  d2 = omega arith

  d3 : n / 100 / 10 ≡ n / 1000
  d3 = omega arith

  d4 : n / 1000 / 10 ≡ n / 10000
  d4 = omega arith

  abbrev whole : Type 0
  whole = digits_of 5 n ≡ digit_by_digit n

  one : n < 10 → whole
  one h =
      let e : n % 10 ≡ n = omega arith in
      simp (lt-ltb n 10 h, lt-leb 10000 n (omega arith), lt-leb 1000 n (omega arith), lt-leb 100 n (omega arith), lt-leb 10 n (omega arith), e)

  two : 10 ≤ n → n < 100 → whole
  two g h =
      let e : n / 10 % 10 ≡ n / 10 = omega arith in
      simp (le-ltb n 10 g, lt-ltb (n / 10) 10 (omega arith), lt-leb 10000 n (omega arith), lt-leb 1000 n (omega arith), lt-leb 100 n (omega arith), le-leb 10 n g, e)

  three : 100 ≤ n → n < 1000 → whole
  three g h =
      let e : n / 100 % 10 ≡ n / 100 = omega arith in
      simp (le-ltb n 10 (omega arith), le-ltb (n / 10) 10 (omega arith), d2, lt-ltb (n / 100) 10 (omega arith), lt-leb 10000 n (omega arith), lt-leb 1000 n (omega arith), le-leb 100 n (omega arith), le-leb 10 n (omega arith), e)

  four : 1000 ≤ n → n < 10000 → whole
  four g h =
      let e : n / 1000 % 10 ≡ n / 1000 = omega arith in
      simp (le-ltb n 10 (omega arith), le-ltb (n / 10) 10 (omega arith), d2, le-ltb (n / 100) 10 (omega arith), d3, lt-ltb (n / 1000) 10 (omega arith), lt-leb 10000 n (omega arith), le-leb 1000 n (omega arith), le-leb 100 n (omega arith), le-leb 10 n (omega arith), e)

  five : 10000 ≤ n → n < 100000 → whole
  five g h =
      let e : n / 10000 % 10 ≡ n / 10000 = omega arith in
      simp (le-ltb n 10 (omega arith), le-ltb (n / 10) 10 (omega arith), d2, le-ltb (n / 100) 10 (omega arith), d3, le-ltb (n / 1000) 10 (omega arith), d4, lt-ltb (n / 10000) 10 (omega arith), le-leb 10000 n (omega arith), le-leb 1000 n (omega arith), le-leb 100 n (omega arith), le-leb 10 n (omega arith), e)

  -- a digit is shown where the number reaches its place
  pub decimal_by_digit : n < 100000 → decimal n ≡ digit_by_digit n
  unfolding decimal
  decimal_by_digit h =
      ⊎_elim (λ (a : n < 10). one a)
      (λ a. ⊎_elim (λ (b : n < 100). two a b)
      (λ b. ⊎_elim (λ (c : n < 1000). three b c)
      (λ c. ⊎_elim (λ (d : n < 10000). four c d) (λ d. five d h) (lt_or_le n 10000)) (lt_or_le n 1000)) (lt_or_le n 100)) (lt_or_le n 10)
