-- `pilot_at` asks for the sign by the numbers of accepted settings.
use Rattle.query.proofs.QueryLaws.{pilot_asked, pilot_is}
use Rattle.query.proofs.query.pilot_at.Goals as goal

pub pilot_sign-requires : goal.pilot_sign-requires
pilot_sign-requires c = record {
  pilot_asked = pilot_asked c.args.s c.requires.0 _ c.plan_of-plan.ensures _ _ c.requires.1.1.0 c.requires.1.1.1;
  n_bound = (c.requires.1.0, c.polarity_bit-polarity.ensures.1);
}

pub returns : goal.returns
returns c = let a = c.args in
    pilot_is a.s c.plan_of-plan.result a.n a.i a.q c.polarity_bit-polarity.result _ c.plan_of-plan.ensures c.polarity_bit-polarity.ensures.0
    c.pilot_sign.ensures
