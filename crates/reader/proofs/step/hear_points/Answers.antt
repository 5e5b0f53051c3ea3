-- `hear_points` goes by whether every point is given.
use Rattle.std.proofs.Common.{◌≡◌, ◌∙◌, refl, arith, rules}
use Rattle.settings.specs.Settings.{plan_for}
use Rattle.detector.specs.Detected.{search_of}
use Rattle.reader.proofs.HearLaws.{place_few, stream_few, points_asked, search_by, shown_by, labels_asked, points_refused, points_heard}
use Rattle.reader.proofs.step.hear_points.Goals.{After-symbol_bits-found}
use Rattle.reader.proofs.step.hear_points.Goals as goal

searched : (c : After-symbol_bits-found) → let s = c.args.s in
    c.symbol_bits-found.result ≡ search_of (plan_for s) c.args.points.now s.format c.args.reader.symbol
searched c = search_by c.args.s c.args.reader c.plan_of.result c.plan_of.ensures c.args.points.now _ c.symbol_bits-found.ensures.value

pub symbol_bits-found-requires : goal.symbol_bits-found-requires
symbol_bits-found-requires c =
    points_asked c.args.s c.args.reader c.plan_of.result c.plan_of.ensures _ _ c.requires.right c.requires.in_range c.requires.whole_points
    (omega arith)

pub overflow_cast-result : goal.overflow_cast-result
overflow_cast-result c = omega (
  arith,
  stream_few c.args.s c.requires.right c.args.points.now _ _ _ _ c.in-Some.is
      (searched (goal.at.overflow_cast-result c).After-symbol_bits-found),
)

pub subcarrier_of-requires : goal.subcarrier_of-requires
subcarrier_of-requires c = record {
  t = c.requires.right.width;
  f_bound = place_few c.args.s c.args.points.now _ _ _ _ c.in-Some.is
      (searched (goal.at.subcarrier_of-requires c).After-symbol_bits-found);
}

pub returns-in-Some : goal.returns-in-Some
returns-in-Some c = record {
  value = points_refused c.args.s c.requires.right c.args.reader c.args.points.now c.symbol_bits-found.result _ _ _ _ c.in-Some.is
      (searched (goal.at.returns-in-Some c).After-symbol_bits-found) (search rules ∙ c.subcarrier_of.ensures) c.ended.ensures;
  payload_after = refl;
}

pub hear_bits-requires : goal.hear_bits-requires
hear_bits-requires c =
    labels_asked c.args.s c.args.reader c.plan_of.result c.plan_of.ensures _ _ c.args.points.now c.symbol_bits-found.result _ c.requires
    (omega arith) tt c.symbol_bits-found.ensures.bits_shown

pub returns : goal.returns
returns c =
    let told = points_heard c.args.s c.requires.right c.args.reader c.args.points.now c.symbol_bits-found.result _ _ _ _ _
    c.in_default.is (searched (goal.at.returns c).After-symbol_bits-found)
    (shown_by c.args.s c.args.reader c.plan_of.result c.plan_of.ensures c.args.points.now _ _ _ c.symbol_bits-found.ensures.bits_shown)
    (c.hear_bits.ensures.value, c.hear_bits.ensures.payload_after) in
    record { value = told.0; payload_after = told.1 }
