-- HT-SIG as numbers: what the code computes. HtSigLaws of crate `signal` says that it is the field by its bits.
use Rattle.std.specs.Prelude.{Bool, cond, not, ◌||◌, List, [], ◌∷◌, ℕ, ◌+◌, ◌*◌, ◌/◌, ◌%◌, ◌<◌, ltb, eqb, get_or}
use Rattle.sig_crc.specs.Crc.{crc_run, crc_field}
use Rattle.sig_words.specs.declared.words.SigFields.{SigFields}

-- a flag as a bit
abbrev pub one_if : Bool → ℕ
one_if b = cond b 1 0

-- bits 0 to 33
unfoldable pub head_word : SigFields → ℕ
head_word g =
    g.mcs + 128 * one_if (eqb g.width 40) + 256 * g.length
    + 16777216 * (one_if g.smoothing + 2 * one_if g.not_sounding + 4 + 8 * one_if g.aggregation + 128 * one_if g.short_guard)

-- bits 0 to 47
unfoldable pub sig_word : SigFields → ℕ
unfolding head_word crc_run crc_field
sig_word g = head_word g + 17179869184 * crc_field (crc_run 34 255 (head_word g))

-- the low six bytes of a number
abbrev pub six_of : ℕ → List ℕ
six_of w =
    (w % 256) ∷ (w / 256 % 256) ∷ (w / 256 / 256 % 256) ∷ (w / 256 / 256 / 256 % 256) ∷ (w / 256 / 256 / 256 / 256 % 256)
    ∷ (w / 256 / 256 / 256 / 256 / 256 % 256) ∷ []

-- the number that six bytes are
abbrev pub word_in : List ℕ → ℕ
word_in l = get_or l 0 0 + 256 * get_or l 1 0 + 65536 * get_or l 2 0 + 16777216 * (get_or l 3 0 + 256 * get_or l 4 0 + 65536 * get_or l 5 0)

unfoldable pub word_crc_wrong : ℕ → Bool
unfolding crc_run crc_field
word_crc_wrong w = not (eqb (w / 17179869184 % 256) (crc_field (crc_run 34 255 (w % 17179869184))))

unfoldable pub word_form_wrong : ℕ → Bool
word_form_wrong w =
    ltb 31 (w % 128)
    || (eqb (w / 256 % 65536) 0
    || (not (eqb (w / 67108864 % 2) 1)
    || (not (eqb (w / 268435456 % 4) 0)
    || (not (eqb (w / 1073741824 % 2) 0)
    || (not (eqb (w / 4294967296 % 4) 0)
    || not (eqb (w / 4398046511104 % 64) 0))))))

unfoldable pub fields_in_word : ℕ → SigFields
fields_in_word w = record {
  width = cond (eqb (w / 128 % 2) 1) 40 20;
  mcs = w % 128;
  length = w / 256 % 65536;
  smoothing = eqb (w / 16777216 % 2) 1;
  not_sounding = eqb (w / 33554432 % 2) 1;
  aggregation = eqb (w / 134217728 % 2) 1;
  short_guard = eqb (w / 2147483648 % 2) 1;
}

pub record SigFits (g : SigFields) : Type 0 where
  pub mcs : g.mcs < 128
  pub length : g.length < 65536
