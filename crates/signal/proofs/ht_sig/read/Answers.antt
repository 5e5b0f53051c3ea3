-- `read` goes by the tests of its refusals, on the number that the six bytes are.
use Rattle.std.proofs.Common.{arith, ◌∙◌, sym, refl, true, false}
use Rattle.sig_words.specs.Words.{fields_in_word}
use Rattle.signal.proofs.HtSigLaws.{read_by}
use Rattle.signal.proofs.ht_sig.read.Goals as goal

pub returns-then-bad_crc : goal.returns-then-bad_crc
returns-then-bad_crc c = read_by c.args.sig.now c.word_in-w.result true _ (fields_in_word c.word_in-w.result) c.if-sig-ne6.false
    (λ j h. omega (arith, c.type_inv.sig j)) c.word_in-w.ensures (sym c.crc_wrong-bad_crc.ensures ∙ c.if-bad_crc.true) refl refl

pub returns-then-bad_form : goal.returns-then-bad_form
returns-then-bad_form c = read_by c.args.sig.now c.word_in-w.result false true (fields_in_word c.word_in-w.result) c.if-sig-ne6.false
    (λ j h. omega (arith, c.type_inv.sig j)) c.word_in-w.ensures
    (sym c.crc_wrong-bad_crc.ensures ∙ c.if-bad_crc.false) (sym c.form_wrong-bad_form.ensures ∙ c.if-bad_form.true) refl

pub returns : goal.returns
returns c = read_by c.args.sig.now c.word_in-w.result false false c.fields_in.result c.if-sig-ne6.false
    (λ j h. omega (arith, c.type_inv.sig j)) c.word_in-w.ensures
    (sym c.crc_wrong-bad_crc.ensures ∙ c.if-bad_crc.false) (sym c.form_wrong-bad_form.ensures ∙ c.if-bad_form.false) c.fields_in.ensures
