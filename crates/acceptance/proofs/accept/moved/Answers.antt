-- `moved` sets each field of the state as the definition does.
use Rattle.std.proofs.Common.{arith}
use Rattle.reader_state.proofs.StateLaws.{symbol_few}
use Rattle.acceptance.proofs.AcceptedLaws.{moved_by}
use Rattle.acceptance.proofs.accept.moved.Goals as goal

pub overflow_add-next : goal.overflow_add-next
overflow_add-next c = omega (arith, symbol_few c.args.s c.requires.right _ c.requires.below_count)

pub returns : goal.returns
returns c = moved_by c.args.s c.plan_of-plan.result c.plan_of-plan.ensures c.args.reader c.args.histories _ c.args.scrambler _ c.args.part
    c.symbols_of.ensures c.jump.ensures
