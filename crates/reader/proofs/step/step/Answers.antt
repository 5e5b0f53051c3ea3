-- `step` goes by the tests of 12 and 8; where none applies, the points are heard.
use Rattle.std.proofs.Common.{◌≡◌, ◌∙◌, refl, sym, ap, true, false, Ok}
use Rattle.settings.specs.Settings.{check_of, Right}
use Rattle.reader_state.specs.State.{open_raw, closed_of}
use Rattle.reader_state.proofs.StateLaws.{open_right, in_range}
use Rattle.reader.proofs.HearLaws.{step_as, step_by_lem, room_by, room_found}
use Rattle.reader.proofs.step.step.Goals.{In-Ok, Else-is_closed}
use Rattle.reader.proofs.step.step.Goals as goal

settings : (c : In-Ok) → Ok c.in-Ok.s ≡ check_of (open_raw c.args.reader.settings)
settings c = sym c.in-Ok.is ∙ c.check.ensures ∙ ap check_of c.into.ensures

settings_right : (c : In-Ok) → Right c.in-Ok.s
settings_right c = open_right c.args.reader c.in-Ok.s (settings c)

going : (c : Else-is_closed) → false ≡ closed_of c.in-Ok.s c.args.reader
going c = sym c.if-is_closed.false ∙ c.is_closed.ensures

pub returns-in_default : goal.returns-in_default
returns-in_default c =
    let told = step_as c.args.reader c.args.points.now c.args.payload.now _
    (sym c.in_default.is ∙ c.check.ensures ∙ ap check_of c.into.ensures) _ _ refl refl in
    record { value = c.refused.ensures ∙ told.0; payload_after = told.1 }

pub is_closed-requires : goal.is_closed-requires
is_closed-requires c = settings_right (goal.at.is_closed-requires c).In-Ok

pub returns-then-is_closed : goal.returns-then-is_closed
returns-then-is_closed c =
    let told = step_as c.args.reader c.args.points.now c.args.payload.now (Ok c.in-Ok.s) (settings (goal.at.returns-then-is_closed c).In-Ok)
    _ _
    (step_by_lem c.in-Ok.s c.args.reader c.args.points.now _ true _ (sym c.if-is_closed.true ∙ c.is_closed.ensures) refl) refl in
    record { value = c.refused-then-is_closed.ensures ∙ told.0; payload_after = told.1 }

pub floats_of-requires : goal.floats_of-requires
floats_of-requires c = settings_right (goal.at.floats_of-requires c).In-Ok

pub returns-then-small : goal.returns-then-small
returns-then-small c =
    let s = c.in-Ok.s in
    let told = step_as c.args.reader c.args.points.now c.args.payload.now (Ok s) (settings (goal.at.returns-then-small c).In-Ok) _ _
    (step_by_lem s c.args.reader c.args.points.now _ false true (going (goal.at.returns-then-small c).Else-is_closed)
    (room_by s c.floats_of.result c.floats_of.ensures.0 _ _ true c.if-small.true)) refl in
    record { value = c.refused-then-small.ensures ∙ told.0; payload_after = told.1 }

pub hear_points-requires : goal.hear_points-requires
hear_points-requires c =
    let at = goal.at.hear_points-requires c in
    room_found c.in-Ok.s c.floats_of.result c.floats_of.ensures.0 c.args.reader _ _ (settings_right at.In-Ok)
    (in_range c.in-Ok.s c.args.reader (sym (going at.Else-is_closed))) c.if-small.false

pub returns : goal.returns
returns c =
    let s = c.in-Ok.s in
    let told = step_as c.args.reader c.args.points.now c.args.payload.now (Ok s) (settings (goal.at.returns c).In-Ok) _ _
    (c.hear_points.ensures.value ∙ step_by_lem s c.args.reader c.args.points.now _ false false (going (goal.at.returns c).Else-is_closed)
    (room_by s c.floats_of.result c.floats_of.ensures.0 _ _ false c.if-small.false)) c.hear_points.ensures.payload_after in
    record { value = told.0; payload_after = told.1 }
