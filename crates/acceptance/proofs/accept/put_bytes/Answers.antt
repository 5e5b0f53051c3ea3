-- `put_bytes` asks for the payload's bytes by the numbers of the settings.
use Rattle.std.proofs.Common.{arith}
use Rattle.reader_state.proofs.StateLaws.{bits_near, symbol_few}
use Rattle.acceptance.proofs.AcceptedLaws.{bytes_by, left_by}
use Rattle.acceptance.proofs.accept.put_bytes.Goals as goal

pub overflow_mul-symbol : goal.overflow_mul-symbol
overflow_mul-symbol c = omega (
  arith,
  bits_near c.args.s c.plan_of-plan.result c.plan_of-plan.ensures c.requires.right c.args.symbol
      (symbol_few c.args.s c.requires.right _ c.requires.below_count),
)

pub put_payload-requires : goal.put_payload-requires
put_payload-requires c = rw c.plan_of-plan.ensures c.requires.asked

pub returns : goal.returns
returns c = record {
  payload_after = bytes_by c.args.s c.plan_of-plan.result c.plan_of-plan.ensures c.args.symbol c.args.part c.args.plain.now
      c.args.payload.now _ c.requires.asked.whole_payload c.put_payload.ensures.filled;
  value = left_by c.args.s c.plan_of-plan.result c.plan_of-plan.ensures c.args.symbol c.args.part c.args.plain.now _
      c.put_payload.ensures.value;
}
