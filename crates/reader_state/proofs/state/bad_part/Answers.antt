-- `bad_part` compares with the power that the payload bits before the symbol leave.
use Rattle.std.proofs.Common.{arith}
use Rattle.reader_state.proofs.StateLaws.{bits_near}
use Rattle.reader_state.proofs.state.bad_part.Goals as goal

pub overflow_mul-symbol : goal.overflow_mul-symbol
overflow_mul-symbol c = omega (
  arith,
  bits_near c.args.s c.plan_of-plan.result c.plan_of-plan.ensures c.requires.0 c.args.symbol
      c.requires.1,
)
