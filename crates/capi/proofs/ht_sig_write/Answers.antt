-- `ht_sig_write` gathers its settings and calls on.
use Rattle.std.proofs.Common.{◌∙◌, ap, length, rules}
use Rattle.settings.specs.declared.settings.RawSettings.{RawSettings}
use Rattle.settings.specs.Settings.{check_of}
use Rattle.signal.specs.HtSig.{written_of, written_into}
use Rattle.conversions.specs.Results.{written_result}
use Rattle.capi.proofs.ht_sig_write.Goals as goal

pub returns : goal.returns
returns c = let l = c.args.out.now in record {
  value = search rules ∙ c.sig_write_call.ensures.value
      ∙ ap (λ (a : RawSettings). written_result (written_of (check_of a) (length l))) c.raw_settings-raw.ensures;
  out_after = c.sig_write_call.ensures.out_after ∙ ap (λ (a : RawSettings). written_into (check_of a) l) c.raw_settings-raw.ensures;
}
