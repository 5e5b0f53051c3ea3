-- Text in a row of 40 bytes, numbers in decimal and hexadecimal.
use Rattle.std.specs.Prelude.{◌≡◌, Bool, cond, List, [], ◌∷◌, ◌++◌, length, set, take, replicate}
use Rattle.std.specs.Prelude.{ℕ, zero, suc, ◌+◌, ◌-◌, ◌/◌, ◌%◌, ◌≤◌, ltb}
use Rattle.text.specs.declared.printing.Row.{Row}

-- "mcs width length symbols htsig"
abbrev pub header_text : List ℕ
header_text =
    109 ∷ 99 ∷ 115 ∷ 32 ∷ 119 ∷ 105 ∷ 100 ∷ 116 ∷ 104 ∷ 32 ∷ 108 ∷ 101 ∷ 110 ∷ 103 ∷ 116 ∷ 104 ∷ 32 ∷ 115 ∷ 121 ∷ 109 ∷ 98 ∷ 111 ∷ 108 ∷ 115 ∷ 32 ∷ 104 ∷ 116 ∷ 115 ∷ 105 ∷ 103 ∷ 10 ∷ []

-- "too long"
abbrev pub too_long_text : List ℕ
too_long_text = 116 ∷ 111 ∷ 111 ∷ 32 ∷ 108 ∷ 111 ∷ 110 ∷ 103 ∷ 10 ∷ []

-- a row that holds a text: the text, and zeros after it
abbrev pub row_holding : List ℕ → Row
row_holding text = record { bytes = text ++ replicate (40 - length text) 0; len = length text }

abbrev pub empty_row : Row
empty_row = row_holding []

-- the text of a row: its first `len` bytes
abbrev pub text_of : Row → List ℕ
text_of r = take r.len r.bytes

-- what stands behind the text of a row is zeros
abbrev pub ZerosBehind : Row → Type 0
ZerosBehind r = (r.len ≤ 40) × (r.bytes ≡ (row_holding (text_of r)).bytes)

-- one byte more, and all of a text
abbrev pub pushed : Row → ℕ → Row
pushed r b = record { bytes = set r.bytes r.len b; len = r.len + 1 }

abbrev pub pushed_all : Row → List ℕ → Row
pushed_all r [] = r
pushed_all r (b ∷ bs) = pushed_all (pushed r b) bs

-- "without leading zeros": the digits of a number of at most k digits
abbrev pub digits_of : ℕ → ℕ → List ℕ
digits_of zero n = []
digits_of (suc k) n = cond (ltb n 10) ((48 + n) ∷ []) (digits_of k (n / 10) ++ ((48 + n % 10) ∷ []))

unfoldable pub decimal : ℕ → List ℕ
decimal n = digits_of 5 n

abbrev pub digit_if : Bool → ℕ → List ℕ
digit_if shown n = cond shown ((48 + n) ∷ []) []

-- "in capitals"
abbrev pub hex_digit : ℕ → ℕ
hex_digit n = cond (ltb n 10) (48 + n) (55 + n)

abbrev pub hex_bytes : List ℕ → List ℕ
hex_bytes [] = []
hex_bytes (b ∷ bs) = hex_digit (b / 16) ∷ hex_digit (b % 16) ∷ hex_bytes bs
