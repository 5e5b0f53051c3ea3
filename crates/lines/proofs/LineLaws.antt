-- The next line and the lines of a text. Assumes nothing.
use Rattle.std.proofs.Common.{◌≡◌, refl, sym, ap, ◌∙◌, Bool, true, false, cond, not}
use Rattle.std.proofs.Common.{Some, None, List, [], ◌∷◌, ◌++◌, append-nil, append_assoc}
use Rattle.std.proofs.Common.{ℕ, suc, ◌+◌, ◌-◌, ◌<◌, ◌≤◌, arith, eqb, ltb, length, take, drop, length-drop, drop_of_length-le}
use Rattle.std.proofs.lemmas.Option.{none-some, cond_some}
use Rattle.std.proofs.lemmas.Bool.{ltb-true, ltb-false}
use Rattle.std.proofs.Math.Seq.{drop-drop}
use Rattle.laws.specs.Stretch.{stretch}
use Rattle.laws.proofs.Stretches.{ends_within}
use Rattle.lines.specs.declared.lines.Line.{Line}
use Rattle.lines.specs.Lines.{lines_from, lines_of, is_in_line, next_line_of}

-- the line under way, the rest of it, and the lines behind the line feed
pub lines_behind : (c : ℕ) (cs t : List ℕ)
    → lines_from (c ∷ cs) t ≡ ((c ∷ cs) ++ take (stretch is_in_line t) t) ∷ lines_from [] (drop (suc (stretch is_in_line t)) t)
lines_behind c cs [] = ap (λ (x : List ℕ). (c ∷ x) ∷ []) (sym (append-nil cs))
lines_behind c cs (b ∷ bs) = by (eqb b 10) (lines_behind c (cs ++ (b ∷ [])) bs)
  where
    by : (t : Bool)
        → lines_from (c ∷ (cs ++ (b ∷ []))) bs ≡ ((c ∷ (cs ++ (b ∷ []))) ++ take (stretch is_in_line bs) bs) ∷ lines_from [] (drop (suc (stretch is_in_line bs)) bs)
        → cond t ((c ∷ cs) ∷ lines_from [] bs) (lines_from ((c ∷ cs) ++ (b ∷ [])) bs) ≡ ((c ∷ cs) ++ take (cond (not t) (suc (stretch is_in_line bs)) 0) (b ∷ bs)) ∷ lines_from [] (drop (suc (cond (not t) (suc (stretch is_in_line bs)) 0)) (b ∷ bs))
    by true e = ap (λ (x : List ℕ). (c ∷ x) ∷ lines_from [] bs) (sym (append-nil cs))
    by false e =
        e
        ∙ ap (λ (x : List ℕ). (c ∷ x) ∷ lines_from [] (drop (suc (stretch is_in_line bs)) bs)) (append_assoc cs (b ∷ []) (take (stretch is_in_line bs) bs))

-- the first line of a text that is not empty
pub lines_first : (t : List ℕ) → 0 < length t
    → lines_of t ≡ take (stretch is_in_line t) t ∷ lines_of (drop (suc (stretch is_in_line t)) t)
lines_first [] h = absurd (omega arith)
lines_first (b ∷ bs) h = by (eqb b 10)
  where
    by : (t : Bool)
        → cond t ([] ∷ lines_from [] bs) (lines_from (b ∷ []) bs) ≡ take (cond (not t) (suc (stretch is_in_line bs)) 0) (b ∷ bs) ∷ lines_from [] (drop (suc (cond (not t) (suc (stretch is_in_line bs)) 0)) (b ∷ bs))
    by true = refl
    by false = lines_behind b [] bs

abbrev line_at : ℕ → ℕ → Line
line_at at end = record { start = at; end = end; next = end + 1 }

-- what the next line says of the lines from a place on
pub record LineAt (text : List ℕ) (at s e x : ℕ) : Type 0 where
  pub lines : lines_of (drop at text) ≡ take (e - s) (drop s text) ∷ lines_of (drop x text)
  pub starts : s ≡ at
  pub ordered : s ≤ e
  pub within : e ≤ length text
  pub further : e < x

module _ (text : List ℕ) (at : ℕ) where
  abbrev ends : ℕ
  ends = at + stretch is_in_line (drop at text)

  line_here : at < length text → LineAt text at at ends (ends + 1)
  line_here h =
      let s = stretch is_in_line (drop at text) in
      let m : at + suc s ≡ ends + 1 = omega arith in
      let n : s ≡ ends - at = omega arith in
      let d : drop (suc s) (drop at text) ≡ drop (ends + 1) text = drop-drop (suc s) at text ∙ ap (λ (k : ℕ). drop k text) m in
      record {
        lines =
            lines_first (drop at text) (omega (arith, length-drop at text))
            ∙ ap (λ (k : ℕ). take k (drop at text) ∷ lines_of (drop (suc s) (drop at text))) n
            ∙ ap (λ (r : List ℕ). take (ends - at) (drop at text) ∷ lines_of r) d;
        starts = refl;
        ordered = omega arith;
        within = ends_within is_in_line text at (omega arith);
        further = omega arith;
      }

  -- where there is no next line, no line is left; where there is one, it is the first of those that are left
  pub next_line_end : next_line_of text at ≡ None → lines_of (drop at text) ≡ []
  next_line_end = by (ltb at (length text)) refl
    where
      by : (t : Bool) → ltb at (length text) ≡ t → cond t (Some (line_at at ends)) None ≡ None → lines_of (drop at text) ≡ []
      by true p e = absurd (none-some _ (sym e))
      by false p e = rw (drop_of_length-le text (ltb-false at (length text) p))

  pub next_line_lines : (l : Line) → next_line_of text at ≡ Some l → LineAt text at l.start l.end l.next
  next_line_lines l e =
      let (inside, here) = cond_some (ltb at (length text)) (line_at at ends) l e in
      rw (← here) (line_here (ltb-true at (length text) inside))
