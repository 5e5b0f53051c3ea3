-- Lines: "Each line, ended by a line feed or the end (an empty rest at the end is no line)" (document 01, 'Checked by hand').
use Rattle.std.specs.Prelude.{Bool, cond, not, Option, Some, None, List, [], ◌∷◌, ◌++◌, ℕ, ◌+◌, eqb, ltb, length, drop}
use Rattle.laws.specs.Stretch.{stretch}
use Rattle.lines.specs.declared.lines.Line.{Line}

-- the lines of a text, where `line` is what the line under way has so far
abbrev pub lines_from : List ℕ → List ℕ → List (List ℕ)
lines_from [] [] = []
lines_from (c ∷ cs) [] = (c ∷ cs) ∷ []
lines_from [] (b ∷ bs) = cond (eqb b 10) ([] ∷ lines_from [] bs) (lines_from (b ∷ []) bs)
lines_from (c ∷ cs) (b ∷ bs) = cond (eqb b 10) ((c ∷ cs) ∷ lines_from [] bs) (lines_from ((c ∷ cs) ++ (b ∷ [])) bs)

abbrev pub lines_of : List ℕ → List (List ℕ)
lines_of text = lines_from [] text

-- every byte but the line feed
abbrev pub is_in_line : ℕ → Bool
is_in_line b = not (eqb b 10)

-- the line that starts at a place: up to the line feed or the end, and the next from behind it
abbrev pub next_line_of : List ℕ → ℕ → Option Line
next_line_of text at =
    let end = at + stretch is_in_line (drop at text) in
    cond (ltb at (length text)) (Some (record { start = at; end = end; next = end + 1 })) None
