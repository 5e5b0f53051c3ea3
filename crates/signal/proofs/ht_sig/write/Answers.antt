-- `write` goes by the tests of its refusals; where none applies, six bytes are written.
use Rattle.std.proofs.Common.{◌∙◌, sym, ap}
use Rattle.settings.specs.Settings.{check_of}
use Rattle.sig_words.specs.Words.{sig_word}
use Rattle.settings.proofs.SettingsLaws.{right}
use Rattle.signal.proofs.HtSigLaws.{wrote, sig_fits}
use Rattle.signal.proofs.ht_sig.write.Goals as goal

pub returns : goal.returns
returns c = let q = sym c.check-checked.ensures ∙ c.in-Ok.is in
    wrote (check_of c.args.raw) c.in-Ok.s c.sig_word.result c.args.out.now _ q c.if-out-lt6.false
    (sig_fits c.in-Ok.s (right c.args.raw c.in-Ok.s q))
    (c.sig_word.ensures.0 ∙ ap sig_word c.fields_of.ensures) c.put_six.ensures
