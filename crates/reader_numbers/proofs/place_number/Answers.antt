-- `place_number`: a number for each answer.
use Rattle.std.proofs.Common.{◌≡◌, ◌∙◌, sym, ap, subst, arith, rules, ℕ, ◌*◌, ℤ, pos, ◌+ℤ◌, Ok, Some, None, w32, w64, to_z, of_z}
use mir.Facts.{to_z_pos}
use Rattle.subcarriers.specs.Subcarriers.{Inside}
use Rattle.reader_numbers.specs.Numbers.{placed_result, PlaceRight}
use Rattle.reader_numbers.proofs.NumberLaws.{refused_placed}
use Rattle.reader_numbers.proofs.place_number.Goals.{In-Ok-Some}
use Rattle.reader_numbers.proofs.place_number.Goals as goal

-- the subcarrier as it is passed on
inside_as : {z : ℤ} (y : ℤ) → y ≡ z → Inside 40 z → Inside 40 y
inside_as y e h = subst (Inside 40) (sym e) h

placed_as : {z : ℤ} (i : ℕ) (y : ℤ) → y ≡ z → pos (256 * i) +ℤ (y +ℤ pos 128) ≡ pos (256 * i) +ℤ (z +ℤ pos 128)
placed_as i y e = ap (λ (x : ℤ). pos (256 * i) +ℤ (x +ℤ pos 128)) e

found : (c : In-Ok-Some) → c.args.answer ≡ Ok (Some (c.in-Ok-Some.i, c.in-Ok-Some.z))
found c =
    let inner : c.in-Ok-Some.field-0 ≡ Some (c.in-Ok-Some.i, c.in-Ok-Some.z) = rw c.in-Ok-Some.is at c.in-Ok-Some.field-0-is in
    c.in-Ok-Some.is ∙ ap Ok inner

pub found_number-requires : goal.found_number-requires
found_number-requires c = let z = c.in-Ok-Some.z in
    inside_as {z = z} (to_z w32 (of_z w32 z)) (search rules) (subst PlaceRight (found (goal.at.found_number-requires c).In-Ok-Some)
    c.requires)

pub returns-in-Ok-None : goal.returns-in-Ok-None
returns-in-Ok-None c =
    let inner : c.in-Ok-None.field-0 ≡ None = rw c.in-Ok-None.is at c.in-Ok-None.field-0-is in
    ap placed_result (sym (c.in-Ok-None.is ∙ ap Ok inner))

pub returns-in-Ok-Some : goal.returns-in-Ok-Some
returns-in-Ok-Some c = let z = c.in-Ok-Some.z in
    to_z_pos w64 {n = c.found_number.result} (omega (arith, c.found_number.ensures.1)) ∙ c.found_number.ensures.0
    ∙ placed_as {z = z} c.in-Ok-Some.i (to_z w32 (of_z w32 z)) (search rules)
    ∙ ap placed_result (sym (found (goal.at.returns-in-Ok-Some c).In-Ok-Some))

pub returns-in-Err : goal.returns-in-Err
returns-in-Err c = search rules ∙ c.refused.ensures
    ∙ refused_placed c.in-Err.r (subst PlaceRight c.in-Err.is c.requires)
    ∙ ap placed_result (sym c.in-Err.is)
