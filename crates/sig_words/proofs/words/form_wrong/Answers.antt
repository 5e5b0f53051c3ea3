-- `form_wrong` is the definition's test, grouped from the left.
use Rattle.std.proofs.Math.Bool.{or_assoc}
use Rattle.sig_words.specs.Words.{word_form_wrong}
use Rattle.sig_words.proofs.words.form_wrong.Goals as goal

pub returns : goal.returns
unfolding word_form_wrong
returns c = simp or_assoc
