-- `is_right` is the test of the frame's own bits, and of a seed that is not 0.
use Rattle.std.proofs.Common.{ap, arith, Bool, ◌&&◌, ltb}
use Rattle.reader_state.proofs.StateLaws.{bits_near, symbol_few}
use Rattle.acceptance.proofs.AcceptedLaws.{framed_asked, framed_by}
use Rattle.acceptance.proofs.accept.is_right.Goals as goal

pub overflow_mul-symbol : goal.overflow_mul-symbol
overflow_mul-symbol c = omega (
  arith,
  bits_near c.args.s c.plan_of-plan.result c.plan_of-plan.ensures c.requires.right c.args.symbol
      (symbol_few c.args.s c.requires.right _ c.requires.below_count),
)

pub is_framed-framed-requires : goal.is_framed-framed-requires
is_framed-framed-requires c = framed_asked c.args.s c.plan_of-plan.result c.plan_of-plan.ensures c.args.symbol _ _
    (symbol_few c.args.s c.requires.right _ c.requires.below_count) c.requires

pub returns : goal.returns
returns c = ap (λ (b : Bool). ltb 0 c.args.scrambler && b)
    (framed_by c.args.s c.plan_of-plan.result c.plan_of-plan.ensures c.args.symbol c.args.inputs.now c.args.plain.now _
    c.is_framed-framed.ensures)
