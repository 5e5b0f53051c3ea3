-- `put_run` numbers a run's carriers, and the pilot where one follows.
use Rattle.std.proofs.Common.{arith}
use Rattle.detector.proofs.UseLaws.{RunFew, run_few, run_plain, run_piloted}
use Rattle.detector.proofs.uses.put_run.Goals.{After-run_of-run}
use Rattle.detector.proofs.uses.put_run.Goals as goal

-- where the run and its pilot stand
few : (c : After-run_of-run) → RunFew c.run_of-run.result
few c = run_few c.args.width c.args.r c.run_of-run.result c.run_of-run.ensures c.requires.1.0 c.requires.1.1

pub put_carriers-requires : goal.put_carriers-requires
put_carriers-requires c =
    let f = few (goal.at.put_carriers-requires c).After-run_of-run in
    (omega (arith, f.places, c.requires.0), omega (arith, f.carriers))

pub overflow_add-uses : goal.overflow_add-uses
overflow_add-uses c = omega (arith, (few (goal.at.overflow_add-uses c).After-run_of-run).pilot c.in-Some.pilot c.in-Some.is)

pub overflow_cast-uses : goal.overflow_cast-uses
overflow_cast-uses c = omega (arith, (few (goal.at.overflow_cast-uses c).After-run_of-run).pilot c.in-Some.pilot c.in-Some.is)

pub overflow_add-uses-in-Some : goal.overflow_add-uses-in-Some
overflow_add-uses-in-Some c = omega (arith, (few (goal.at.overflow_add-uses-in-Some c).After-run_of-run).places)

pub bounds-uses-run : goal.bounds-uses-run
bounds-uses-run c =
    let f = few (goal.at.bounds-uses-run c).After-run_of-run in
    omega (arith, f.pilot_place c.in-Some.pilot c.in-Some.is, c.put_carriers.ensures.same, c.requires.0)

pub returns-in-Some : goal.returns-in-Some
returns-in-Some c =
    run_piloted c.args.width c.args.r c.run_of-run.result c.run_of-run.ensures c.requires.1.0 c.requires.1.1 _ _ c.in-Some.pilot
    c.requires.0
    c.in-Some.is c.put_carriers.ensures

pub returns-in_default : goal.returns-in_default
returns-in_default c =
    run_plain c.args.width c.args.r c.run_of-run.result c.run_of-run.ensures c.requires.1.0 c.requires.1.1 _ _ c.in_default.is
    c.put_carriers.ensures
