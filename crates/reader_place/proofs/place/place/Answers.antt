-- `place` goes by the tests of 12 and 8; where none applies, by the search.
use Rattle.std.proofs.Common.{◌≡◌, ◌∙◌, ℕ, length, true, false, Ok, Option, Some, refl, sym, ap, arith, rules, lt-ltb, le-ltb, w32, to_z, of_z}
use Rattle.settings.specs.Settings.{check_of, plan_for, Right}
use Rattle.frame.specs.Points.{floats_of}
use Rattle.detector.specs.Detected.{search_of}
use Rattle.reader_state.specs.State.{open_raw, closed_of}
use Rattle.reader_state.proofs.StateLaws.{open_right, in_range}
use Rattle.reader.proofs.HearLaws.{points_asked, search_by, place_few, stream_few}
use Rattle.reader_place.specs.Place.{found_as, place_of}
use Rattle.reader_place.proofs.PlaceLaws.{place_as, place_by_lem}
use Rattle.reader_place.proofs.place.place.Goals.{In-Ok, Else-is_closed, After-symbol_bits-found}
use Rattle.reader_place.proofs.place.place.Goals as goal

settings : (c : In-Ok) → Ok c.in-Ok.s ≡ check_of (open_raw c.args.reader.settings)
settings c = sym c.in-Ok.is ∙ c.check.ensures ∙ ap check_of c.into.ensures

settings_right : (c : In-Ok) → Right c.in-Ok.s
settings_right c = open_right c.args.reader c.in-Ok.s (settings c)

going : (c : Else-is_closed) → false ≡ closed_of c.in-Ok.s c.args.reader
going c = sym c.if-is_closed.false ∙ c.is_closed.ensures

searched : (c : After-symbol_bits-found) → let s = c.in-Ok.s in
    c.symbol_bits-found.result ≡ search_of (plan_for s) c.args.points.now s.format c.args.reader.symbol
searched c = search_by c.in-Ok.s c.args.reader c.plan_of.result c.plan_of.ensures c.args.points.now _ c.symbol_bits-found.ensures.value

pub returns-in_default : goal.returns-in_default
returns-in_default c =
    place_as c.args.reader c.args.points.now _ (sym c.in_default.is ∙ c.check.ensures ∙ ap check_of c.into.ensures) _ refl

pub is_closed-requires : goal.is_closed-requires
is_closed-requires c = settings_right (goal.at.is_closed-requires c).In-Ok

pub returns-then-is_closed : goal.returns-then-is_closed
returns-then-is_closed c = place_as c.args.reader c.args.points.now _ (settings (goal.at.returns-then-is_closed c).In-Ok) _
    (place_by_lem c.in-Ok.s c.args.reader c.args.points.now true _ (sym c.if-is_closed.true ∙ c.is_closed.ensures) refl _ refl)

pub floats_of-requires : goal.floats_of-requires
floats_of-requires c = settings_right (goal.at.floats_of-requires c).In-Ok

pub returns-then-points-floats_of : goal.returns-then-points-floats_of
returns-then-points-floats_of c = let at = goal.at.returns-then-points-floats_of c in
    place_as c.args.reader c.args.points.now _ (settings at.In-Ok) _
    (place_by_lem c.in-Ok.s c.args.reader c.args.points.now false true (going at.Else-is_closed)
    (sym (lt-ltb (length c.args.points.now) (floats_of c.in-Ok.s) (omega (arith, c.if-points-floats_of.true, c.floats_of.ensures.0)))) _
    refl)

pub plan_of-requires : goal.plan_of-requires
plan_of-requires c = settings_right (goal.at.plan_of-requires c).In-Ok

pub symbol_bits-found-requires : goal.symbol_bits-found-requires
symbol_bits-found-requires c = let at = goal.at.symbol_bits-found-requires c in
    points_asked c.in-Ok.s c.args.reader c.plan_of.result c.plan_of.ensures _ _ (settings_right at.In-Ok)
    (in_range c.in-Ok.s c.args.reader (sym (going at.Else-is_closed))) (omega (arith, c.if-points-floats_of.false, c.floats_of.ensures.0))
    (omega arith)

pub overflow_cast-result : goal.overflow_cast-result
overflow_cast-result c = let at = goal.at.overflow_cast-result c in
    omega (
      arith,
      stream_few c.in-Ok.s (settings_right at.In-Ok) c.args.points.now _ _ _ _ c.in-Some.is (searched at.After-symbol_bits-found),
    )

pub subcarrier_of-requires : goal.subcarrier_of-requires
subcarrier_of-requires c = let at = goal.at.subcarrier_of-requires c in record {
  t = (settings_right at.In-Ok).width;
  f_bound = place_few c.in-Ok.s c.args.points.now _ _ _ _ c.in-Some.is (searched at.After-symbol_bits-found);
}

-- the answer by what the search found
placed : (c : After-symbol_bits-found) → Ok c.in-Ok.s ≡ check_of (open_raw c.args.reader.settings)
    → false ≡ closed_of c.in-Ok.s c.args.reader
    → (found : Option (ℕ × ℕ)) → found ≡ c.symbol_bits-found.result → found_as found c.in-Ok.s ≡ place_of c.args.reader c.args.points.now
placed c accepted going_on found e = let s = c.in-Ok.s in
    place_as c.args.reader c.args.points.now (Ok s) accepted _
    (place_by_lem s c.args.reader c.args.points.now false false going_on
    (sym (le-ltb (length c.args.points.now) (floats_of s) (omega (arith, c.if-points-floats_of.false, c.floats_of.ensures.0))))
    found (e ∙ searched c))

pub returns-in-None : goal.returns-in-None
returns-in-None c = let at = goal.at.returns-in-None c in
    placed at.After-symbol_bits-found (settings at.In-Ok) (going at.Else-is_closed) _ (sym c.in-None.is)

pub returns-in-Some : goal.returns-in-Some
returns-in-Some c = let at = goal.at.returns-in-Some c in
    ap (λ z. Ok (Some (c.in-Some.i, z))) {x = to_z w32 (of_z w32 c.subcarrier_of.result)} (search rules ∙ c.subcarrier_of.ensures)
    ∙ placed at.After-symbol_bits-found (settings at.In-Ok) (going at.Else-is_closed) _ (sym c.in-Some.is)
