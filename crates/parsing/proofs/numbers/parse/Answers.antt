-- Each way out of `parse` is the answer by the three ends.
use Rattle.std.proofs.Common.{◌≡◌, ◌∙◌, ◌+◌, Some, sym, arith}
use Rattle.std.specs.Bool.{then_some}
use Rattle.parsing.specs.Parsing.{separated_at, value_in}
use Rattle.parsing.proofs.Grammar.{answered, no_first, no_second, no_end, no_third, all_three}
use Rattle.parsing.proofs.numbers.parse.Goals as goal
use Rattle.parsing.proofs.numbers.parse.Goals.{In_ok-mcs, In_ok-width}

first : (c : In_ok-mcs) → let to = c.digits_end-a.result in
    then_some (separated_at c.args.line.now 0 to) (value_in c.args.line.now 0 to) ≡ Some c.in_ok-mcs.mcs
first c = sym c.separated.ensures ∙ c.in_ok-mcs.was

second : (c : In_ok-width) → let from = c.digits_end-a.result + 1 in let to = c.digits_end-b.result in
    then_some (separated_at c.args.line.now from to) (value_in c.args.line.now from to) ≡ Some c.in_ok-width.width
second c = sym c.separated-2.ensures ∙ c.in_ok-width.was

pub returns-in_err-mcs : goal.returns-in_err-mcs
returns-in_err-mcs c =
    answered _ _ (no_first _ _ c.digits_end-a.ensures.0 (sym c.separated.ensures ∙ c.in_err-mcs.was) ∙ sym c.from_residual.ensures)

pub returns-in_err-width : goal.returns-in_err-width
returns-in_err-width c =
    let one = first (goal.at.returns-in_err-width c).In_ok-mcs in
    answered _ _
    (no_second _ _ c.digits_end-a.ensures.0 _ c.digits_end-b.ensures.0 one (sym c.separated-2.ensures ∙ c.in_err-width.was)
    ∙ sym c.from_residual-in_err-width.ensures)

pub returns-then-c-line : goal.returns-then-c-line
returns-then-c-line c =
    let one = first (goal.at.returns-then-c-line c).In_ok-mcs in
    let two = second (goal.at.returns-then-c-line c).In_ok-width in
    answered _ _
    (no_end _ _ c.digits_end-a.ensures.0 _ c.digits_end-b.ensures.0 one _ c.digits_end-c.ensures.0 two (λ e. omega (arith, e)))

pub returns-in_err-length : goal.returns-in_err-length
returns-in_err-length c =
    let one = first (goal.at.returns-in_err-length c).In_ok-mcs in
    let two = second (goal.at.returns-in_err-length c).In_ok-width in
    answered _ _
    (no_third _ _ c.digits_end-a.ensures.0 _ c.digits_end-b.ensures.0 one _ c.digits_end-c.ensures.0 two
    (sym c.number.ensures ∙ c.in_err-length.was) ∙ sym c.from_residual-in_err-length.ensures)

pub returns : goal.returns
returns c =
    let one = first (goal.at.returns c).In_ok-mcs in
    let two = second (goal.at.returns c).In_ok-width in
    answered _ _
    (all_three _ _ c.digits_end-a.ensures.0 _ c.digits_end-b.ensures.0 one _ c.digits_end-c.ensures.0 two
    (omega arith) (sym c.number.ensures ∙ c.in_ok-length.was))
