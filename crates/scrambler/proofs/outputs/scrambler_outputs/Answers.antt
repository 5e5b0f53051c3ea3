-- `scrambler_outputs`: a step's output, and an output of a period before, is the next one.
use Rattle.std.proofs.Common.{◌≡◌, ◌∙◌, sym, ap, ◌-◌, arith}
use Rattle.laws.proofs.Filling.{fill_none, fill_more, fill_at, fill_end}
use Rattle.chain.specs.Scrambler.{output, next, state_at, scrambler_bit}
use Rattle.chain.proofs.ScramblerLaws.{state_zero, step_more, period}
use Rattle.scrambler.proofs.outputs.scrambler_outputs.Goals as goal

pub loop-t-init : goal.loop-t-init
loop-t-init c = (fill_none _ _ _ _, sym (state_zero _), omega arith)

pub loop-t-preserved : goal.loop-t-preserved
loop-t-preserved c = let inv = c.loop-t.invariant in (
  fill_more _ _ _ _ _ _ _ _ (omega arith) (omega arith) (c.output_of.ensures ∙ ap output inv.1) inv.0,
  c.step-now_at.ensures ∙ ap next inv.1 ∙ step_more _ _,
  omega (arith, c.step-now_at.ensures),
)

pub loop-t-2-preserved : goal.loop-t-2-preserved
loop-t-2-preserved c =
    let s = c.args.state in
    let t = c.loop-t-2.t in
    let so_far = fill_end 0 0 (λ k. scrambler_bit s k) {m = t} (omega arith) c.loop-t-2.invariant in
    let before = fill_at 0 (λ k. scrambler_bit s k) so_far (t - 127) (omega arith) in
    let again : scrambler_bit s (t - 127) ≡ scrambler_bit s t =
    ap output (sym (period s (t - 127) (omega arith)) ∙ ap (state_at s) (omega arith)) in
    fill_end _ _ _ (omega arith) (fill_more _ _ _ _ _ _ _ _ (omega arith) (omega arith) (before ∙ again) so_far)
