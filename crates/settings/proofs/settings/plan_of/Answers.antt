-- `plan_of` asks for a plan by the numbers of accepted settings.
use Rattle.std.proofs.Common.{◌∙◌, ap}
use Rattle.chain.specs.Plan.{plan_of}
use Rattle.settings.specs.Settings.{plan_for}
use Rattle.settings.proofs.settings.plan_of.Goals as goal

pub returns : goal.returns
unfolding plan_for
returns c = c.plan_for.ensures ∙ ap (plan_of c.args.s.width c.args.s.mcs) c.encoders.ensures
