-- `hear_inputs` puts the parts together: the scrambler, the plain bits, the test, the bytes and the state after them.
use Rattle.acceptance.specs.Asked.{bit_numbered}
use Rattle.std.proofs.Common.{◌∙◌, ◌++◌, ℕ, length-take, sym, drop, replicate, arith}
use Rattle.laws.specs.Filled.{Filled}
use Rattle.laws.proofs.Filling.{fill_lent_all}
use Rattle.deframer.specs.Deframed.{plain_bit}
use Rattle.acceptance.proofs.AcceptedLaws.{scrambler_asked, few_bits, plain_asked, right_asked, bytes_asked}
use Rattle.acceptance.proofs.AcceptedLaws.{plain_at, plain_small, heard_accepted, heard_refused}
use Rattle.acceptance.proofs.accept.hear_inputs.Goals.{After-descramble}
use Rattle.acceptance.proofs.accept.hear_inputs.Goals as goal

pub scrambler_for-scrambler-requires : goal.scrambler_for-scrambler-requires
scrambler_for-scrambler-requires c = scrambler_asked c.args.s c.args.reader c.args.inputs.now c.requires.held

pub slice_bounds-plain-end : goal.slice_bounds-plain-end
slice_bounds-plain-end c = few_bits c.args.s c.args.reader c.args.inputs.now c.requires.held _ c.plan_of-plan.ensures

pub slice_bounds-descramble-end : goal.slice_bounds-descramble-end
slice_bounds-descramble-end c =
    let all = length-take c.plan_of-plan.result.dbps (replicate {A = ℕ} 2160 0) in
    omega (arith, all, few_bits c.args.s c.args.reader c.args.inputs.now c.requires.held _ c.plan_of-plan.ensures)

pub descramble-requires : goal.descramble-requires
descramble-requires c = plain_asked c.args.s c.args.reader c.args.inputs.now c.requires.held c.plan_of-plan.result c.plan_of-plan.ensures
    (replicate 2160 0) c.scrambler_for-scrambler.result (omega arith) c.scrambler_for-scrambler.ensures.1

-- the symbol's plain bits, and the room behind them as it was
filled : (c : After-descramble) → let count = c.plan_of-plan.result.dbps in
    Filled 0 0 (plain_bit c.scrambler_for-scrambler.result (bit_numbered c.args.inputs.now)) count
    (replicate 2160 0) (c.descramble.new.plain ++ drop count (replicate 2160 0))
filled c =
    let few = few_bits c.args.s c.args.reader c.args.inputs.now c.requires.held _ c.plan_of-plan.ensures in
    fill_lent_all 0 0 _ _ _ (replicate 2160 0) (omega arith) (omega arith) c.descramble.ensures

pub is_right-right-requires : goal.is_right-right-requires
is_right-right-requires c =
    let p = filled (goal.at.is_right-right-requires c).After-descramble in
    right_asked c.args.s c.args.reader c.args.inputs.now c.requires.held _ (omega (arith, p.same))

pub put_bytes-part-requires : goal.put_bytes-part-requires
put_bytes-part-requires c =
    let p = filled (goal.at.put_bytes-part-requires c).After-descramble in
    bytes_asked c.args.s c.args.reader c.args.inputs.now c.requires.held _ _ c.requires.whole_payload
    (omega (arith, p.same)) (plain_small c.args.s c.plan_of-plan.result c.plan_of-plan.ensures _ _ _ _ p)

pub returns-then-right : goal.returns-then-right
returns-then-right c = heard_accepted c.args.s c.requires.held.right c.args.reader (bit_numbered c.args.inputs.now) c.args.histories
    _ c.scrambler_for-scrambler.result c.scrambler_for-scrambler.ensures.0
    (plain_at c.args.s c.plan_of-plan.result c.plan_of-plan.ensures _ _ _ _ (filled (goal.at.returns-then-right c).After-descramble))
    _ _ _ _ _ (sym c.is_right-right.ensures ∙ c.if-right.true) c.accepted_as.ensures c.moved.ensures
    c.put_bytes-part.ensures.value c.put_bytes-part.ensures.payload_after

pub returns : goal.returns
returns c = heard_refused c.args.s c.requires.held.right c.args.reader (bit_numbered c.args.inputs.now) c.args.histories
    _ c.scrambler_for-scrambler.result c.scrambler_for-scrambler.ensures.0
    (plain_at c.args.s c.plan_of-plan.result c.plan_of-plan.ensures _ _ _ _ (filled (goal.at.returns c).After-descramble))
    _ _ (sym c.is_right-right.ensures ∙ c.if-right.false) c.ended.ensures
