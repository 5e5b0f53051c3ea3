-- The pilots' signs (document 01 step 7; EWC 4.6, tables 11 and 12; z by clause 20).
use Rattle.std.specs.Prelude.{cond, List, [], ◌∷◌, ℕ, ◌+◌, ◌-◌, ◌%◌, ◌<◌, T, eqb, get_or, ℤ, pos, ◌*ℤ◌}
use Rattle.laws.specs.Integers.{minus}
use Rattle.laws.specs.Test.{among}
use Rattle.chain.specs.Plan.{widths, stream_counts}
use Rattle.chain.specs.Scrambler.{scrambler_bit}
use Rattle.subcarriers.specs.Subcarriers.{pilots_of}

-- a bit as a sign: "0 as 1, 1 as -1"
abbrev pub sign_of : ℕ → ℤ
sign_of b = cond (eqb b 0) (pos 1) (minus 1)

-- the tables' signs
abbrev o : ℤ
o = pos 1

abbrev x : ℤ
x = minus 1

-- table 11, 20 MHz: for one stream, two, three and four, the row of each stream
abbrev pub table11 : List (List (List ℤ))
table11 =
    ((o ∷ o ∷ o ∷ x ∷ []) ∷ [])
    ∷ ((o ∷ o ∷ x ∷ x ∷ []) ∷ (o ∷ x ∷ x ∷ o ∷ []) ∷ [])
    ∷ ((o ∷ o ∷ x ∷ x ∷ []) ∷ (o ∷ x ∷ o ∷ x ∷ []) ∷ (x ∷ o ∷ o ∷ x ∷ []) ∷ [])
    ∷ ((o ∷ o ∷ o ∷ x ∷ []) ∷ (o ∷ o ∷ x ∷ o ∷ []) ∷ (o ∷ x ∷ o ∷ o ∷ []) ∷ (x ∷ o ∷ o ∷ o ∷ []) ∷ [])
    ∷ []

-- table 12, 40 MHz
abbrev pub table12 : List (List (List ℤ))
table12 =
    ((o ∷ o ∷ o ∷ x ∷ x ∷ o ∷ []) ∷ [])
    ∷ ((o ∷ o ∷ x ∷ x ∷ x ∷ x ∷ []) ∷ (o ∷ o ∷ o ∷ x ∷ o ∷ o ∷ []) ∷ [])
    ∷ ((o ∷ o ∷ x ∷ x ∷ x ∷ x ∷ []) ∷ (o ∷ o ∷ o ∷ x ∷ o ∷ o ∷ []) ∷ (o ∷ x ∷ o ∷ x ∷ x ∷ o ∷ []) ∷ [])
    ∷ ((o ∷ o ∷ x ∷ x ∷ x ∷ x ∷ []) ∷ (o ∷ o ∷ o ∷ x ∷ o ∷ o ∷ []) ∷ (o ∷ x ∷ o ∷ x ∷ x ∷ o ∷ []) ∷ (x ∷ o ∷ o ∷ o ∷ x ∷ o ∷ []) ∷ [])
    ∷ []

-- value k of the row of stream i of so many streams
unfoldable pub pattern_of : (width streams i k : ℕ) → ℤ
pattern_of width streams i k = get_or (get_or (get_or (cond (eqb width 40) table12 table11) (streams - 1) []) i []) k (pos 0)

-- "z = 3 mixed, 2 green field"
abbrev pub polarity_start : (format : ℕ) → ℕ
polarity_start format = cond (eqb format 1) 2 3

-- "polarity n+z mod 127"; "Polarity is the scrambler sequence of seed 127, 0 as 1, 1 as -1": here its bit
unfoldable pub polarity_bit : (format n : ℕ) → ℕ
polarity_bit format n = scrambler_bit 127 ((n + polarity_start format) % 127)

-- "The pilot at place q (from 0) in symbol n is pattern((n+q) mod pilots) from tables 11 and 12, times polarity n+z mod 127"
unfoldable pub pilot_sign : (width streams format n i q : ℕ) → ℤ
unfolding pattern_of polarity_bit
pilot_sign width streams format n i q = pattern_of width streams i ((n + q) % pilots_of width) *ℤ sign_of (polarity_bit format n)

-- a pilot of a frame
pub record PilotAsked (width streams i q : ℕ) : Type 0 where
  pub known_width : T (among widths width)
  pub known_streams : T (among stream_counts streams)
  pub stream : i < streams
  pub place : q < pilots_of width
