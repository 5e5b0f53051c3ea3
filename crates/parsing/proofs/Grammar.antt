-- The parse and the grammar: a line is parsed to three numbers exactly if it is three numbers with one space between. Assumes nothing.
use Rattle.std.proofs.Common.{◌≡◌, ◌≢◌, refl, sym, ap, subst, ◌∙◌, Bool, true, false, cond, ◌&&◌}
use Rattle.std.proofs.Common.{◌↔◌, Option, Some, None, List, [], ◌∷◌, ◌++◌}
use Rattle.std.proofs.Common.{ℕ, suc, ◌+◌, ◌-◌, ◌<◌, ◌≤◌, add-one, arith, ltb, leb, eqb}
use Rattle.std.proofs.Common.{length, get_or, take, drop, length-append, length-drop, take-append-drop}
use Rattle.std.proofs.lemmas.Bool.{ltb-true, leb-true, eqb-true, lt-ltb, le-leb, eq-eqb, ne_eqb}
use Rattle.std.proofs.Math.Seq.{drop-cons, drop-drop, take_all, take_at, drop-append-add, get_or-drop, get_or_at, length-take-le}
use Rattle.laws.specs.Stretch.{stretch}
use Rattle.laws.proofs.Reflect.{and_true, both_true}
use Rattle.parsing.specs.declared.numbers.Numbers.{Numbers}
use Rattle.parsing.specs.Parsing.{numbers, is_digit, one_to_five, decimal_value, separated_at, digits_end, value_in}
use Rattle.parsing.specs.Parsing.{parsed_of, FiveDigits, AllDigits, Number, ThreeNumbers, parsed_at}
use Rattle.std.proofs.Math.Bool.{and-false}
use Rattle.std.specs.Bool.{then_some}
use Rattle.std.proofs.lemmas.Option.{none-some, cond_some}
use Rattle.parsing.proofs.Values.{tens_most, value_below}

-- ---- the tests

pub five_true : (n : ℕ) → one_to_five n ≡ true → (1 ≤ n) × (n ≤ 5)
five_true n e =
    let w = and_true (leb 1 n) (leb n 5) e in
    (leb-true 1 n w.0, leb-true n 5 w.1)

true_five : (n : ℕ) → 1 ≤ n → n ≤ 5 → one_to_five n ≡ true
true_five n h k = both_true (le-leb 1 n h) (le-leb n 5 k)

digit_true : (b : ℕ) → is_digit b ≡ true → (48 ≤ b) × (b ≤ 57)
digit_true b e =
    let w = and_true (leb 48 b) (leb b 57) e in
    (leb-true 48 b w.0, leb-true b 57 w.1)

true_digit : (b : ℕ) → (48 ≤ b) × (b ≤ 57) → is_digit b ≡ true
true_digit b h = both_true (le-leb 48 b h.0) (le-leb b 57 h.1)

-- one to five digits, and a space behind them
pub record Separated (l : List ℕ) (from to : ℕ) : Type 0 where
  pub some : 1 ≤ to - from
  pub most : to - from ≤ 5
  pub inside : to < length l
  pub space : get_or l to 0 ≡ 32

pub separated_true : (l : List ℕ) (from to : ℕ) → separated_at l from to ≡ true → Separated l from to
separated_true l from to e =
    let w = and_true (one_to_five (to - from)) (ltb to (length l) && eqb (get_or l to 0) 32) e in
    let v = and_true (ltb to (length l)) (eqb (get_or l to 0) 32) w.1 in
    record {
      some = (five_true (to - from) w.0).0;
      most = (five_true (to - from) w.0).1;
      inside = ltb-true to (length l) v.0;
      space = eqb-true (get_or l to 0) 32 v.1;
    }

-- ---- the parse by its three ends

abbrev pub piece : List ℕ → ℕ → ℕ → List ℕ
piece l from to = take (to - from) (drop from l)

pub parsed_at_lem : (l : List ℕ) (a b c : ℕ) → a ≡ digits_end l 0 → b ≡ digits_end l (a + 1) → c ≡ digits_end l (b + 1)
    → parsed_of l ≡ parsed_at l a b c
unfolding parsed_of
parsed_at_lem l a b c ea eb ec = rw (ec, eb, ea)

-- what a parse to three numbers tells
pub record Parts (l : List ℕ) (a b c m w n : ℕ) : Type 0 where
  pub first : Separated l 0 a
  pub second : Separated l (a + 1) b
  pub some : 1 ≤ c - (b + 1)
  pub most : c - (b + 1) ≤ 5
  pub whole : c ≡ length l
  pub mcs : value_in l 0 a ≡ m
  pub width : value_in l (a + 1) b ≡ w
  pub count : value_in l (b + 1) c ≡ n

parts_of : (l : List ℕ) (a b c m w n : ℕ) → parsed_at l a b c ≡ Some (numbers m w n) → Parts l a b c m w n
parts_of l a b c m w n e =
    let (tests, same) = cond_some _ _ _ e in
    let x = and_true (separated_at l 0 a) _ tests in
    let y = and_true (separated_at l (a + 1) b) _ x.1 in
    let z = and_true (one_to_five (c - (b + 1))) (eqb c (length l)) y.1 in
    let f = five_true (c - (b + 1)) z.0 in
    record {
      first = separated_true l 0 a x.0;
      second = separated_true l (a + 1) b y.0;
      some = f.0;
      most = f.1;
      whole = eqb-true c (length l) z.1;
      mcs = ap (λ (k : Numbers). k.mcs) same;
      width = ap (λ (k : Numbers). k.width) same;
      count = ap (λ (k : Numbers). k.length) same;
    }

-- ---- a line that is parsed is three numbers

stretch_digits : (t : List ℕ) → AllDigits (take (stretch is_digit t) t)
stretch_digits [] = tt
stretch_digits (b ∷ bs) = by (is_digit b) refl (stretch_digits bs)
  where
    by : (t : Bool) → is_digit b ≡ t → AllDigits (take (stretch is_digit bs) bs)
        → AllDigits (take (cond t (suc (stretch is_digit bs)) 0) (b ∷ bs))
    by true e a = (digit_true b e, a)
    by false e a = tt

piece_digits : (l : List ℕ) (from : ℕ) → AllDigits (piece l from (digits_end l from))
piece_digits l from =
    let s = stretch is_digit (drop from l) in
    let e : from + s - from ≡ s = omega arith in
    rw e (stretch_digits (drop from l))

piece_number : (l : List ℕ) (from to n : ℕ) → to ≡ digits_end l from → 1 ≤ to - from → to - from ≤ 5 → to ≤ length l → value_in l from to ≡ n
    → Number (piece l from to) n
piece_number l from to n e some most within value =
    let k : length (piece l from to) ≡ to - from = length-take-le (to - from) (drop from l) (omega (arith, length-drop from l)) in
    record {
      digit = subst (λ (x : ℕ). AllDigits (piece l from x)) (sym e) (piece_digits l from);
      some = omega arith;
      most = omega arith;
      value = value;
    }

piece_split : (l : List ℕ) (from to : ℕ) → Separated l from to → drop from l ≡ piece l from to ++ (32 ∷ drop (to + 1) l)
piece_split l from to s =
    let e : from + (to - from) ≡ to = omega (arith, s.some) in
    sym (take-append-drop (to - from) (drop from l))
    ∙ ap (λ (x : List ℕ). piece l from to ++ x)
    (drop-drop (to - from) from l
    ∙ ap (λ (x : ℕ). drop x l) e
    ∙ drop-cons l to 0 s.inside
    ∙ ap (λ (x : ℕ). x ∷ drop (suc to) l) s.space
    ∙ ap (λ (x : ℕ). 32 ∷ drop x l) (sym (add-one to)))

piece_last : (l : List ℕ) (from to : ℕ) → to ≡ length l → drop from l ≡ piece l from to
piece_last l from to e = sym (take_all (to - from) (drop from l) (omega (arith, length-drop from l)))

three : (l : List ℕ) (a b c m w n : ℕ) → a ≡ digits_end l 0 → b ≡ digits_end l (a + 1) → c ≡ digits_end l (b + 1)
    → Parts l a b c m w n → ThreeNumbers l m w n
three l a b c m w n ea eb ec p = record {
  first = piece l 0 a;
  second = piece l (a + 1) b;
  third = piece l (b + 1) c;
  mcs = piece_number l 0 a m ea p.first.some p.first.most (omega (arith, p.first.inside)) p.mcs;
  width = piece_number l (a + 1) b w eb p.second.some p.second.most (omega (arith, p.second.inside)) p.width;
  length = piece_number l (b + 1) c n ec p.some p.most (omega (arith, p.whole)) p.count;
  line_is =
      piece_split l 0 a p.first
      ∙ ap (λ (x : List ℕ). piece l 0 a ++ (32 ∷ x))
      (piece_split l (a + 1) b p.second ∙ ap (λ (x : List ℕ). piece l (a + 1) b ++ (32 ∷ x)) (piece_last l (b + 1) c p.whole));
}

parsed_three : (l : List ℕ) (m w n : ℕ) → parsed_of l ≡ Some (numbers m w n) → ThreeNumbers l m w n
parsed_three l m w n e =
    let a = digits_end l 0 in
    let b = digits_end l (a + 1) in
    let c = digits_end l (b + 1) in
    three l a b c m w n refl refl refl (parts_of l a b c m w n (sym (parsed_at_lem l a b c refl refl refl) ∙ e))

-- ---- three numbers are parsed

stretch_to_space : (xs ys : List ℕ) → AllDigits xs → stretch is_digit (xs ++ (32 ∷ ys)) ≡ length xs
stretch_to_space [] ys a = refl
stretch_to_space (x ∷ xs) ys a = simp (true_digit x a.0, stretch_to_space xs ys a.1)

stretch_to_end : (xs : List ℕ) → AllDigits xs → stretch is_digit xs ≡ length xs
stretch_to_end [] a = refl
stretch_to_end (x ∷ xs) a = simp (true_digit x a.0, stretch_to_end xs a.1)

record Read (l : List ℕ) (from : ℕ) (xs ys : List ℕ) (n : ℕ) : Type 0 where
  ends : from + length xs ≡ digits_end l from
  separated : separated_at l from (from + length xs) ≡ true
  value : value_in l from (from + length xs) ≡ n
  rest : drop (from + length xs + 1) l ≡ ys

read : (l : List ℕ) (from : ℕ) (xs ys : List ℕ) (n : ℕ) → drop from l ≡ xs ++ (32 ∷ ys) → Number xs n → Read l from xs ys n
read l from xs ys n e x =
    let k : from + length xs - from ≡ length xs = omega arith in
    let size : length l - from ≡ length xs + suc (length ys) = sym (length-drop from l) ∙ ap length e ∙ length-append xs (32 ∷ ys) in
    let m : from + length xs + 1 ≡ from + (length xs + 1) = omega arith in
    record {
      ends = ap (λ (s : ℕ). from + s) (sym (ap (stretch is_digit) e ∙ stretch_to_space xs ys x.digit));
      separated =
          both_true (ap one_to_five k ∙ true_five (length xs) x.some x.most)
          (both_true (lt-ltb (from + length xs) (length l) (omega arith))
          (eq-eqb (get_or l (from + length xs) 0) 32
          (sym (get_or-drop from l (length xs) 0) ∙ ap (λ (t : List ℕ). get_or t (length xs) 0) e ∙ get_or_at xs 32 ys 0 (length xs) refl)));
      value =
          ap (λ (s : ℕ). decimal_value (take s (drop from l))) k
          ∙ ap (λ (t : List ℕ). decimal_value (take (length xs) t)) e
          ∙ ap decimal_value (take_at xs (32 ∷ ys) (length xs) refl) ∙ x.value;
      rest =
          ap (λ (s : ℕ). drop s l) m ∙ sym (drop-drop (length xs + 1) from l) ∙ ap (drop (length xs + 1)) e ∙ drop-append-add xs (32 ∷ ys) 1;
    }

record ReadLast (l : List ℕ) (from : ℕ) (xs : List ℕ) (n : ℕ) : Type 0 where
  ends : from + length xs ≡ digits_end l from
  size : one_to_five (from + length xs - from) ≡ true
  whole : eqb (from + length xs) (length l) ≡ true
  value : value_in l from (from + length xs) ≡ n

read_last : (l : List ℕ) (from : ℕ) (xs : List ℕ) (n : ℕ) → drop from l ≡ xs → Number xs n → ReadLast l from xs n
read_last l from xs n e x =
    let k : from + length xs - from ≡ length xs = omega arith in
    let size : length l - from ≡ length xs = sym (length-drop from l) ∙ ap length e in
    record {
      ends = ap (λ (s : ℕ). from + s) (sym (ap (stretch is_digit) e ∙ stretch_to_end xs x.digit));
      size = ap one_to_five k ∙ true_five (length xs) x.some x.most;
      whole = eq-eqb (from + length xs) (length l) (omega (arith, x.some));
      value =
          ap (λ (s : ℕ). decimal_value (take s (drop from l))) k
          ∙ ap (λ (t : List ℕ). decimal_value (take (length xs) t)) e
          ∙ ap decimal_value (take_all (length xs) xs (omega arith)) ∙ x.value;
    }

three_parsed : (l : List ℕ) (m w n : ℕ) → ThreeNumbers l m w n → parsed_of l ≡ Some (numbers m w n)
three_parsed l m w n t =
    let a = 0 + length t.first in
    let b = a + 1 + length t.second in
    let c = b + 1 + length t.third in
    let x = read l 0 t.first (t.second ++ (32 ∷ t.third)) m t.line_is t.mcs in
    let y = read l (a + 1) t.second t.third w x.rest t.width in
    let z = read_last l (b + 1) t.third n y.rest t.length in
    parsed_at_lem l a b c x.ends y.ends z.ends
    ∙ simp (x.separated, y.separated, z.size, z.whole, x.value, y.value, z.value)

-- a line is parsed to three numbers exactly if it is those numbers, one space between
pub parsed_exactly : (l : List ℕ) (m w n : ℕ) → (parsed_of l ≡ Some (numbers m w n)) ↔ ThreeNumbers l m w n
parsed_exactly l m w n = (parsed_three l m w n, three_parsed l m w n)

-- ---- the numbers are small

number_below : {xs : List ℕ} {n : ℕ} → Number xs n → n < 100000
number_below {xs} {n} x =
    omega (arith, value_below xs 0 1 x.digit (omega arith), tens_most (length xs) x.most, x.value)

-- the numbers of a parse have at most five digits
pub parsed_small : (l : List ℕ) → FiveDigits (parsed_of l)
parsed_small l = by (parsed_of l) refl
  where
    by : (p : Option Numbers) → parsed_of l ≡ p → FiveDigits p
    by (Some n) e =
        let t = parsed_three l n.mcs n.width n.length e in
        (number_below t.mcs, (number_below t.width, number_below t.length))
    by None e = tt

-- ---- the ways out of the code

then_some_none : {A : Type 0} (b : Bool) (x : A) → then_some b x ≡ None → b ≡ false
then_some_none true x e = absurd (none-some x (sym e))
then_some_none false x e = refl

then_some_some : {A : Type 0} (b : Bool) (x y : A) → then_some b x ≡ Some y → (b ≡ true) × (x ≡ y)
then_some_some true x y e = (refl, (cond_some true x y e).1)
then_some_some false x y e = absurd (none-some y e)

pub answered : (l : List ℕ) (r : Option Numbers) → parsed_of l ≡ r → (r ≡ parsed_of l) × FiveDigits r
answered l r e = (sym e, subst FiveDigits e (parsed_small l))

module _ (l : List ℕ) (a : ℕ) (ea : a ≡ digits_end l 0) where
  pub no_first : then_some (separated_at l 0 a) (value_in l 0 a) ≡ None → parsed_of l ≡ None
  no_first e = parsed_at_lem l a _ _ ea refl refl ∙ simp (then_some_none _ _ e)

  module _ (b : ℕ) (eb : b ≡ digits_end l (a + 1)) {m : ℕ} (first : then_some (separated_at l 0 a) (value_in l 0 a) ≡ Some m) where
    pub no_second : then_some (separated_at l (a + 1) b) (value_in l (a + 1) b) ≡ None → parsed_of l ≡ None
    no_second e = parsed_at_lem l a b _ ea eb refl ∙ simp ((then_some_some _ _ _ first).0, then_some_none _ _ e)

    module _ (c : ℕ) (ec : c ≡ digits_end l (b + 1)) {w : ℕ}
        (second : then_some (separated_at l (a + 1) b) (value_in l (a + 1) b) ≡ Some w) where
      pub no_end : c ≢ length l → parsed_of l ≡ None
      no_end e =
          parsed_at_lem l a b c ea eb ec
          ∙ simp ((then_some_some _ _ _ first).0, (then_some_some _ _ _ second).0, ne_eqb c (length l) e, and-false)

      pub no_third : then_some (one_to_five (c - (b + 1))) (value_in l (b + 1) c) ≡ None → parsed_of l ≡ None
      no_third e =
          parsed_at_lem l a b c ea eb ec ∙ simp ((then_some_some _ _ _ first).0, (then_some_some _ _ _ second).0, then_some_none _ _ e)

      pub all_three : {n : ℕ} → c ≡ length l → then_some (one_to_five (c - (b + 1))) (value_in l (b + 1) c) ≡ Some n
          → parsed_of l ≡ Some (numbers m w n)
      all_three e third =
          let (f, m_is) = then_some_some _ _ _ first in
          let (s, w_is) = then_some_some _ _ _ second in
          let (t, n_is) = then_some_some _ _ _ third in
          parsed_at_lem l a b c ea eb ec ∙ simp (f, s, t, eq-eqb c (length l) e, m_is, w_is, n_is)
