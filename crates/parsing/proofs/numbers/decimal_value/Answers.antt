-- The digits read so far are at most five, so that the value fits.
use Rattle.std.proofs.Common.{arith, rules}
use Rattle.parsing.proofs.Values.{tens_none, tens_most, value_next, value_room}
use Rattle.parsing.proofs.numbers.decimal_value.Goals as goal

pub loop-b-init : goal.loop-b-init
loop-b-init c = (omega (arith, tens_none), search rules)

pub overflow_mul-value : goal.overflow_mul-value
overflow_mul-value c = omega (arith, tens_most c.loop-b.b-index (omega arith))

pub overflow_add-value : goal.overflow_add-value
overflow_add-value c = omega (arith, tens_most c.loop-b.b-index (omega arith))

pub loop-b-preserved : goal.loop-b-preserved
loop-b-preserved c = (
  value_room c.loop-b.b-index c.loop-b.value c.from.result c.loop-b.invariant.0 (search rules),
  rw (c.from.ensures, c.saturating_sub.ensures)
      (value_next c.args.digits.now c.loop-b.b-index c.loop-b.value c.loop-b-test.true c.loop-b.invariant.1),
)
