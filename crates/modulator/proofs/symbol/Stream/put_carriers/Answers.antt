-- `put_carriers` puts one carrier's point a turn.
use Rattle.modulator.proofs.RunningLaws.{run_more}
use Rattle.modulator.proofs.symbol.Stream.put_carriers.Goals as goal

pub loop-k-preserved : goal.loop-k-preserved
loop-k-preserved c =
    let s = c.args.self.now in
    run_more s.halves.now s.plan.bits s.from c.args.to c.args.run.carrier c.loop-k.k c.args.run.turned c.sent_point.result _ _ _
    c.sent_point.ensures c.loop-k.invariant c.put_point.ensures
