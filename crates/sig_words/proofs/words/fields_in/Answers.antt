-- `fields_in` takes each field out of its place of the number.
use Rattle.std.proofs.Common.{refl, rules}
use Rattle.sig_words.specs.Words.{fields_in_word}
use Rattle.sig_words.proofs.WordLaws.{same_fields}
use Rattle.sig_words.proofs.words.fields_in.Goals as goal

pub returns : goal.returns
unfolding fields_in_word
returns c = same_fields (search rules) refl refl refl refl refl refl
