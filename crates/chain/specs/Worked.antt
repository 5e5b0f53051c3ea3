-- Document 01, 'Checked by hand': P7 to P11, the scrambler, an encoder and the interleaver, as rows of a table.
use Rattle.std.specs.Prelude.{List, [], ◌∷◌, ℕ, get_or}
use Rattle.laws.specs.Claim.{Claim, ◌is◌, ◌and◌, up_to}
use Rattle.chain.specs.Scrambler.{scrambler_bit}
use Rattle.chain.specs.Puncture.{kept_bit}
use Rattle.chain.specs.Interleaver.{place}

-- P7 "seed 127 begins 00001110 11110010"
abbrev pub scrambler_start : List ℕ
scrambler_start = 0 ∷ 0 ∷ 0 ∷ 0 ∷ 1 ∷ 1 ∷ 1 ∷ 0 ∷ 1 ∷ 1 ∷ 1 ∷ 1 ∷ 0 ∷ 0 ∷ 1 ∷ 0 ∷ []

-- P8 "inputs 1000000", and what they "encode to": "11 01 11 11 00 10 11"
abbrev pub one_input : (d : ℕ) → ℕ
one_input d = get_or (1 ∷ 0 ∷ 0 ∷ 0 ∷ 0 ∷ 0 ∷ 0 ∷ []) d 0

abbrev pub one_encoded : List ℕ
one_encoded = 1 ∷ 1 ∷ 0 ∷ 1 ∷ 1 ∷ 1 ∷ 1 ∷ 1 ∷ 0 ∷ 0 ∷ 1 ∷ 0 ∷ 1 ∷ 1 ∷ []

-- P7, P8 at one encoder and rate 1/2, P9, P10, P11
abbrev pub worked_chain : List Claim
worked_chain =
    (up_to 16 λ d. scrambler_bit 127 d is get_or scrambler_start d 0)
    ∷ (up_to 14 λ c. kept_bit one_input 1 2 0 c is get_or one_encoded c 0)
    ∷ (place 20 1 0 0 is 0 and place 20 1 1 0 is 30 and place 20 1 2 0 is 41 and place 20 1 3 0 is 19)
    ∷ (place 20 4 0 1 is 17 and place 20 4 0 13 is 1)
    ∷ (place 40 6 0 1 is 38)
    ∷ []
