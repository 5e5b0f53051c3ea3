-- The digits of a number, pushed one by one.
use Rattle.std.proofs.Common.{ap, append_assoc, arith}
use Rattle.text.specs.declared.printing.Row.{Row}
use Rattle.text.proofs.Decimals.{decimal_by_digit}
use Rattle.text.proofs.Pushing.{decimal_pushed}
use Rattle.text.proofs.printing.Row.push_decimal.Goals as goal

pub returns-clause-row : goal.returns-clause-row
returns-clause-row c = (
  decimal_pushed _ _ _ _ _ _ _ c.requires.1
      c.push_digit_if.ensures.row.0
      c.push_digit_if-2.ensures.row.0
      c.push_digit_if-3.ensures.row.0
      c.push_digit_if-4.ensures.row.0
      c.push.ensures.row,
  omega (arith, ap (λ (r : Row). r.len) c.push.ensures.row),
)

pub returns-clause-text : goal.returns-clause-text
returns-clause-text c =
    rw (
      c.push.ensures.text,
      c.push_digit_if-4.ensures.text,
      c.push_digit_if-3.ensures.text,
      c.push_digit_if-2.ensures.text,
      c.push_digit_if.ensures.text,
    )
    (rw (decimal_by_digit c.args.n c.requires.1) (simp append_assoc))
