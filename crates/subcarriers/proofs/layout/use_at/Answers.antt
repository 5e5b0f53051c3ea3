-- `use_at` looks for the last run that begins at the place or before: a carrier of it, or its pilot.
use Rattle.std.proofs.Common.{◌≡◌, ◌+◌, ◌-◌, ◌*◌, ◌<◌, arith, ap, ◌∙◌}
use Rattle.chain.proofs.Counts.{carriers_few}
use Rattle.subcarriers.specs.Runs.{half_runs, run_end, RunRight}
use Rattle.subcarriers.proofs.SubcarrierLaws.{places_few}
use Rattle.subcarriers.proofs.RunLaws.{run_start, run_right, run_begins, run_ends, runs_right, runs_some, start_end}
use Rattle.subcarriers.proofs.RunLaws.{none_counts, counts_most, carrier_use, pilot_use_at}
use Rattle.subcarriers.proofs.layout.use_at.Goals.{After-run_of-run, in_default-via-in-Some+else-k-run, in_default-via-in_default}
use Rattle.subcarriers.proofs.layout.use_at.Goals as goal

-- the run is one of the width's: right, and the place is below its end
among : (c : After-run_of-run) → c.loop-r.r - 1 < 2 * half_runs c.args.width
among c = omega (arith, c.runs_of-r.ensures)

right : (c : After-run_of-run) → RunRight c.args.width c.run_of-run.result
right c = run_right c.args.width (c.loop-r.r - 1) c.run_of-run.result c.run_of-run.ensures c.requires.t (among c)

below : (c : After-run_of-run) → c.args.f < run_end c.run_of-run.result
below c =
    let ends = run_ends c.args.width (c.loop-r.r - 1) c.run_of-run.result c.run_of-run.ensures c.requires.t (among c) in
    rw (ends c.loop-r.r (omega arith)) at c.loop-r.invariant

pub loop-r-init : goal.loop-r-init
loop-r-init c =
    let ends = ap (run_start c.args.width) c.runs_of-r.ensures
    ∙ start_end c.args.width (runs_right c.args.width c.requires.t) (runs_some c.args.width c.requires.t) in
    omega (arith, ends, c.requires.f_bound)

pub loop-r-preserved : goal.loop-r-preserved
loop-r-preserved c =
    let a = among (goal.at.loop-r-preserved c).After-run_of-run in
    omega (arith, run_begins c.args.width (c.loop-r.r - 1) c.run_of-run.result c.run_of-run.ensures c.requires.t a)

pub overflow_add-result : goal.overflow_add-result
overflow_add-result c =
    let r = right (goal.at.overflow_add-result c).After-run_of-run in
    omega (arith, r.carriers_inside, carriers_few c.args.width, places_few c.args.width, c.requires.f_bound)

pub returns-in-Some : goal.returns-in-Some
returns-in-Some c =
    let at = (goal.at.returns-in-Some c).After-run_of-run in
    let run = c.run_of-run.result in
    let last : c.args.f ≡ run.place + run.count = omega (arith, below at, counts_most (run.place + run.count) run.pilot) in
    pilot_use_at c.args.width c.args.f run (right at) c.in-Some.pilot c.in-Some.is last

pub returns-in_default : goal.returns-in_default
returns-in_default c =
    let at = (goal.at.returns-in_default c).After-run_of-run in
    let run = c.run_of-run.result in
    let inside : c.args.f < run.place + run.count = elim c.in_default.branch [
      | in_default-via-in-Some+else-k-run w ↦ omega arith
      | in_default-via-in_default w ↦ omega (arith, below at, none_counts (run.place + run.count) run.pilot w.in_default.is)
    ] in
    carrier_use c.args.width c.args.f run (right at) c.if-run-f.true inside
