-- `subcarrier` goes by the tests of its refusals; where none applies, it answers what is carried.
use Rattle.std.proofs.Common.{Ok, ◌≡◌, ◌∙◌, sym, ap, to_z-of_z}
use Rattle.settings.specs.Settings.{check_of}
use Rattle.settings.proofs.SettingsLaws.{right}
use Rattle.query.specs.Query.{not_in_frame}
use Rattle.query.proofs.QueryLaws.{in_frame}
use Rattle.query.proofs.query.subcarrier.Goals as goal

pub carried_at-requires : goal.carried_at-requires
carried_at-requires c =
    let accepted : check_of c.args.raw ≡ Ok c.in-Ok.s = sym c.check-checked.ensures ∙ c.in-Ok.is in
    let elsewhere : let a = c.args in c.not_in_frame-elsewhere.result ≡ not_in_frame c.in-Ok.s a.symbol a.stream a.subcarrier =
    c.not_in_frame-elsewhere.ensures ∙ ap (not_in_frame c.in-Ok.s c.args.symbol c.args.stream) (to_z-of_z c.ranges.subcarrier) in
    rw (to_z-of_z c.ranges.subcarrier)
    (in_frame c.in-Ok.s c.args.payload.now c.args.symbol c.args.stream c.args.subcarrier
    (right c.args.raw c.in-Ok.s (accepted)) c.if-short.false-raw (sym (elsewhere) ∙ c.if-elsewhere.false))
