-- `carried_at` goes by the use of the subcarrier.
use Rattle.std.proofs.Common.{◌≡◌, ◌∙◌, sym, ap, to_z-of_z}
use Rattle.subcarriers.specs.Subcarriers.{use_of}
use Rattle.frame.proofs.FrameLaws.{symbol_near}
use Rattle.query.proofs.QueryLaws.{inside_width, carried_silent, carried_pilot, carried_data, pilot_in, data_in}
use Rattle.query.proofs.query.carried_at.Goals.{After-use_of-used}
use Rattle.query.proofs.query.carried_at.Goals as goal

found : (c : After-use_of-used) → use_of c.args.s.width c.args.subcarrier ≡ c.use_of-used.result
found c = sym (c.use_of-used.ensures ∙ ap (use_of c.args.s.width) (to_z-of_z c.ranges.subcarrier))

pub use_of-used-requires : goal.use_of-used-requires
use_of-used-requires c = record {
  t = c.requires.0.right.width;
  inside = rw (to_z-of_z c.ranges.subcarrier) (inside_width c.args.s c.args.subcarrier c.requires.1.1);
}

pub pilot_at-requires : goal.pilot_at-requires
pilot_at-requires c =
    let f = c.requires.0 in
    let q = pilot_in c.args.s f.right c.args.subcarrier c.requires.1.1 c.in-Pilot.q
    (found (goal.at.pilot_at-requires c).After-use_of-used ∙ c.in-Pilot.is) in
    (f.right, (symbol_near c.args.s c.args.n f.right f.below_count, (c.requires.1.0, q)))

pub point_at-requires : goal.point_at-requires
point_at-requires c = (
  c.requires.0,
  (
    c.requires.1.0,
    data_in c.args.s c.requires.0.right c.args.subcarrier c.requires.1.1 c.in-Data.c
        (found (goal.at.point_at-requires c).After-use_of-used ∙ c.in-Data.is),
  ),
)

pub returns-in-Silent : goal.returns-in-Silent
returns-in-Silent c = let a = c.args in
    carried_silent a.s a.payload.now a.n a.i a.subcarrier (found (goal.at.returns-in-Silent c).After-use_of-used ∙ c.in-Silent.is)

pub returns-in-Pilot : goal.returns-in-Pilot
returns-in-Pilot c = let a = c.args in
    carried_pilot a.s a.payload.now a.n a.i a.subcarrier c.in-Pilot.q c.pilot_at.result
    (found (goal.at.returns-in-Pilot c).After-use_of-used ∙ c.in-Pilot.is) c.pilot_at.ensures

pub returns-in-Data : goal.returns-in-Data
returns-in-Data c = let a = c.args in
    carried_data a.s a.payload.now a.n a.i a.subcarrier c.in-Data.c c.point_at.result
    (found (goal.at.returns-in-Data c).After-use_of-used ∙ c.in-Data.is) c.point_at.ensures
