-- "MCS, width, length: three numbers of one to five digits, one space between; else it prints `malformed`" (document 01, 'Checked by hand').
use Rattle.std.specs.Prelude.{◌≡◌, Bool, cond, ◌&&◌, Option, Some, None, List, [], ◌∷◌, ◌++◌, ℕ, ◌+◌, ◌-◌}
use Rattle.std.specs.Prelude.{◌*◌, ◌<◌, ◌≤◌, eqb, ltb, leb, length, get_or, take, drop}
use Rattle.laws.specs.Stretch.{stretch}
use Rattle.parsing.specs.declared.numbers.Numbers.{Numbers}

-- 0 to 9 in ASCII
abbrev pub is_digit : ℕ → Bool
is_digit b = leb 48 b && leb b 57

abbrev pub one_to_five : ℕ → Bool
one_to_five n = leb 1 n && leb n 5

-- the number that digits are in decimal, behind digits that were `n`
abbrev pub decimal_from : ℕ → List ℕ → ℕ
decimal_from n [] = n
decimal_from n (d ∷ ds) = decimal_from (10 * n + (d - 48)) ds

abbrev pub decimal_value : List ℕ → ℕ
decimal_value ds = decimal_from 0 ds

-- one to five digits from `from` up to `to`, and a space there
abbrev pub separated_at : List ℕ → ℕ → ℕ → Bool
separated_at l from to = one_to_five (to - from) && (ltb to (length l) && eqb (get_or l to 0) 32)

-- where the digits from a place on end
abbrev pub digits_end : List ℕ → ℕ → ℕ
digits_end l from = from + stretch is_digit (drop from l)

abbrev pub value_in : List ℕ → ℕ → ℕ → ℕ
value_in l from to = decimal_value (take (to - from) (drop from l))

abbrev pub numbers : (mcs width length : ℕ) → Numbers
numbers m w n = record { mcs = m; width = w; length = n }

-- a line whose digits end at a, at b behind a space, and at c behind another; None: malformed
abbrev pub parsed_at : List ℕ → (a b c : ℕ) → Option Numbers
parsed_at l a b c =
    cond (separated_at l 0 a && (separated_at l (a + 1) b && (one_to_five (c - (b + 1)) && eqb c (length l))))
    (Some (numbers (value_in l 0 a) (value_in l (a + 1) b) (value_in l (b + 1) c)))
    None

-- the digits at the front, a space, the digits behind it, a space, and digits to the end
unfoldable pub parsed_of : List ℕ → Option Numbers
parsed_of l =
    let a = digits_end l 0 in
    let b = digits_end l (a + 1) in
    let c = digits_end l (b + 1) in
    parsed_at l a b c

-- the numbers of a parse have at most five digits
abbrev pub FiveDigits : Option Numbers → Type 0
FiveDigits (Some n) = (n.mcs < 100000) × ((n.width < 100000) × (n.length < 100000))
FiveDigits None = Unit {0}

-- ---- the grammar, in the paper's words

abbrev pub AllDigits : List ℕ → Type 0
AllDigits [] = Unit {0}
AllDigits (d ∷ ds) = ((48 ≤ d) × (d ≤ 57)) × AllDigits ds

-- a number of one to five digits
pub record Number (digits : List ℕ) (n : ℕ) : Type 0 where
  pub digit : AllDigits digits
  pub some : 1 ≤ length digits
  pub most : length digits ≤ 5
  pub value : decimal_value digits ≡ n

-- three numbers, one space between
pub record ThreeNumbers (line : List ℕ) (m w n : ℕ) : Type 0 where
  pub first : List ℕ
  pub second : List ℕ
  pub third : List ℕ
  pub mcs : Number first m
  pub width : Number second w
  pub length : Number third n
  pub line_is : line ≡ first ++ (32 ∷ (second ++ (32 ∷ third)))
