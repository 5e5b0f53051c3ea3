-- `put_run` writes a run, and its pilot where it has one.
use Rattle.std.proofs.Common.{arith, length}
use Rattle.subcarriers.specs.Runs.{RunRight}
use Rattle.subcarriers.proofs.RunLaws.{run_right}
use Rattle.modulator.proofs.RunningLaws.{RunIn, run_in, carriers_asked, pilot_asked, run_filled, pilot_filled}
use Rattle.modulator.proofs.symbol.Stream.put_run.Goals.{After-run_of-run}
use Rattle.modulator.proofs.symbol.Stream.put_run.Goals as goal

-- the run is one of the width's, and stands inside the stream
right : (c : After-run_of-run) → RunRight c.args.self.now.plan.width c.run_of-run.result
right c = run_right c.args.self.now.plan.width c.args.r c.run_of-run.result c.run_of-run.ensures c.requires.0.fits.width c.requires.1.1

inside : (c : After-run_of-run) → RunIn c.run_of-run.result c.args.self.now.base (length c.args.out.now)
inside c = run_in c.requires.0 c.run_of-run.result (right c)

pub overflow_mul-to : goal.overflow_mul-to
overflow_mul-to c = omega (arith, inside (goal.at.overflow_mul-to c).After-run_of-run)

pub overflow_add-to : goal.overflow_add-to
overflow_add-to c = omega (arith, inside (goal.at.overflow_add-to c).After-run_of-run, c.well_formed)

pub put_carriers-requires : goal.put_carriers-requires
put_carriers-requires c = carriers_asked c.requires.0 c.run_of-run.result (right (goal.at.put_carriers-requires c).After-run_of-run)

pub pilot_sign-sign-requires-clause-pilot_asked : goal.pilot_sign-sign-requires-clause-pilot_asked
pilot_sign-sign-requires-clause-pilot_asked c =
    let r = right (goal.at.pilot_sign-sign-requires-clause-pilot_asked c).After-run_of-run in
    pilot_asked c.requires.0 c.run_of-run.result r c.in-Some.pilot c.in-Some.is

pub overflow_mul-run : goal.overflow_mul-run
overflow_mul-run c = omega (arith, inside (goal.at.overflow_mul-run c).After-run_of-run)

pub overflow_add-to-in-Some : goal.overflow_add-to-in-Some
overflow_add-to-in-Some c = omega (arith, inside (goal.at.overflow_add-to-in-Some c).After-run_of-run, c.well_formed)

pub put_point-requires : goal.put_point-requires
put_point-requires c =
    let i = inside (goal.at.put_point-requires c).After-run_of-run in
    omega (arith, i.pilot_inside c.in-Some.pilot c.in-Some.is, c.put_carriers.ensures.same)

pub returns-in-Some : goal.returns-in-Some
returns-in-Some c =
    let r = right (goal.at.returns-in-Some c).After-run_of-run in
    pilot_filled c.args.self.now c.args.r c.run_of-run.result c.run_of-run.ensures r c.in-Some.pilot c.pilot_sign-sign.result
    (pilot_asked c.requires.0 c.run_of-run.result r c.in-Some.pilot c.in-Some.is) c.pilot_sign-sign.ensures
    _ _ _ c.pilot_point.result c.in-Some.is c.put_carriers.ensures c.pilot_point.ensures c.put_point.ensures

pub returns-in_default : goal.returns-in_default
returns-in_default c =
    run_filled c.args.self.now c.args.r c.run_of-run.result c.run_of-run.ensures (right (goal.at.returns-in_default c).After-run_of-run)
    _ _ c.in_default.is c.put_carriers.ensures
