-- Document 01, 'Checked by hand': P1 to P6, the symbol counts, as rows of a table.
use Rattle.settings.specs.declared.settings.Refusal.{Refusal}
use Rattle.std.specs.Prelude.{true, false, List, [], ◌∷◌, ℕ, Err, Ok, Result}
use Rattle.laws.specs.Claim.{Claim, ◌is◌}
use Rattle.settings.specs.Settings.{check_of}
use Rattle.symbols.specs.Symbols.{count_of}

abbrev pub given_count : Result ℕ Refusal → ℕ
given_count (Ok n) = n
given_count (Err r) = 0

-- the count that the call gives for an MCS, a width and a length, 0 where it refuses
abbrev pub count_at : (mcs width length : ℕ) → ℕ
count_at m w l =
    given_count (count_of (check_of (record {
      width = w;
      mcs = m;
      format = 0;
      length = l;
      seed = 1;
      smoothing = true;
      not_sounding = true;
      aggregation = false;
      short_guard = false;
    })))

-- P1, P2, P3, P4, P5, P6
abbrev pub worked_counts : List Claim
worked_counts =
    (count_at 0 20 1 is 2)
    ∷ (count_at 0 20 7 is 3)
    ∷ (count_at 0 20 8 is 4)
    ∷ (count_at 0 20 65535 is 20166)
    ∷ (count_at 31 40 65535 is 243)
    ∷ (count_at 16 20 7 is 2)
    ∷ []
