-- `read_frame`: the settings, then the room, then the symbols.
use Rattle.std.proofs.Common.{◌≡◌, ◌∙◌, refl, sym, ap, arith, Ok}
use Rattle.settings.specs.Settings.{check_of, Right}
use Rattle.settings.proofs.SettingsLaws.{right}
use Rattle.reader_state.specs.declared.state.Started.{Started}
use Rattle.reader_state.specs.State.{open_raw}
use Rattle.frame_reader.proofs.ApartLaws.{frame_as, product_few, no_room_lem, frame_asked, frame_read}
use Rattle.frame_reader.proofs.read.read_frame.Goals.{In-Ok}
use Rattle.frame_reader.proofs.read.read_frame.Goals as goal

settings : (c : In-Ok) → Ok c.in-Ok.s ≡ check_of (open_raw c.args.o)
settings c = sym c.in-Ok.is ∙ c.check-checked.ensures ∙ ap check_of c.into.ensures

settings_right : (c : In-Ok) → Right c.in-Ok.s
settings_right c = right (open_raw c.args.o) c.in-Ok.s (sym (settings c))

pub returns-in_default : goal.returns-in_default
returns-in_default c =
    let told = frame_as c.args.o c.args.points.now c.args.payload.now _
    (sym c.unwrap_err.ensures ∙ c.check-checked.ensures ∙ ap check_of c.into.ensures) _ _ refl refl in
    record { answered = told.0; left = told.1.0; exactly = told.1.1 }

pub symbols_of-requires : goal.symbols_of-requires
symbols_of-requires c = settings_right (goal.at.symbols_of-requires c).In-Ok

pub floats_of-requires : goal.floats_of-requires
floats_of-requires c = settings_right (goal.at.floats_of-requires c).In-Ok

pub overflow_mul-small : goal.overflow_mul-small
overflow_mul-small c = omega (
  arith,
  product_few c.in-Ok.s (settings_right (goal.at.overflow_mul-small c).In-Ok) c.symbols_of.result c.floats_of.result
      c.symbols_of.ensures c.floats_of.ensures.1,
)

pub returns-then-small : goal.returns-then-small
returns-then-small c =
    let s = c.in-Ok.s in
    let e = settings (goal.at.returns-then-small c).In-Ok in
    let told = frame_as c.args.o c.args.points.now c.args.payload.now (Ok s) e _ _
    (no_room_lem s c.args.o e c.symbols_of.result c.floats_of.result c.symbols_of.ensures c.floats_of.ensures.0
    c.args.points.now c.args.payload.now c.if-small.true) refl in
    record { answered = told.0; left = told.1.0; exactly = told.1.1 }

pub read_apart-requires : goal.read_apart-requires
read_apart-requires c =
    frame_asked c.in-Ok.s c.args.o (settings (goal.at.read_apart-requires c).In-Ok) c.symbols_of.result c.floats_of.result
    c.symbols_of.ensures c.floats_of.ensures.0 c.args.points.now c.args.payload.now c.if-small.false _
    (ap (λ (r : Started). r.state) c.start.ensures)

pub returns : goal.returns
returns c =
    let told = frame_read c.in-Ok.s c.args.o (settings (goal.at.returns c).In-Ok) c.symbols_of.result c.floats_of.result
    c.symbols_of.ensures c.floats_of.ensures.0 c.args.points.now c.args.payload.now c.if-small.false _
    (ap (λ (r : Started). r.state) c.start.ensures) _ _ c.read_apart.ensures in
    record { answered = told.0; left = told.1.0; exactly = told.1.1 }
