-- Document 01, 'Checked by hand': P12, the pilots, as a row of a table.
use Rattle.std.specs.Prelude.{List, [], ◌∷◌, ℕ, get_or, ℤ, pos}
use Rattle.laws.specs.Claim.{Claim, ◌is◌, ◌and◌, up_to}
use Rattle.laws.specs.Integers.{minus, counted}
use Rattle.pilots.specs.Pilots.{pilot_sign}

-- the pilot at place q, mixed format, 20 MHz, one stream
abbrev pub mixed_pilot : (n q : ℕ) → ℤ
mixed_pilot n q = pilot_sign 20 1 0 n 0 q

-- P12 "symbol 0: 1 1 1 -1; symbol 1: -1 -1 1 -1"
abbrev pub worked_pilots : List Claim
worked_pilots =
    ((up_to 4 λ q. counted (mixed_pilot 0 q) is counted (get_or (pos 1 ∷ pos 1 ∷ pos 1 ∷ minus 1 ∷ []) q (pos 0)))
    and (up_to 4 λ q. counted (mixed_pilot 1 q) is counted (get_or (minus 1 ∷ minus 1 ∷ pos 1 ∷ minus 1 ∷ []) q (pos 0))))
    ∷ []
