-- "Fields printed: the three inputs without leading zeros, the symbol count, the six signal bytes in order in capitals;
-- or the inputs and `refused` with its number" (document 01, 'Checked by hand').
use Rattle.settings.specs.declared.settings.Settings.{Settings}
use Rattle.std.specs.Prelude.{true, false, Option, Some, None, List, [], ◌∷◌, ◌++◌, ℕ, Err, Ok, Result}
use Rattle.settings.specs.declared.settings.RawSettings.{RawSettings}
use Rattle.settings.specs.declared.settings.Refusal.{Refusal}
use Rattle.settings.specs.Settings.{check_of, number_of}
use Rattle.symbols.specs.Symbols.{symbols_of}
use Rattle.signal.specs.HtSig.{fields_of, sig_bytes}
use Rattle.parsing.specs.declared.numbers.Numbers.{Numbers}
use Rattle.parsing.specs.Parsing.{parsed_of}
use Rattle.text.specs.Printing.{decimal, hex_bytes}

-- "Format is 0, seed 1; smoothing and not sounding are 1, other flags 0"
abbrev pub raw_for : (mcs width length : ℕ) → RawSettings
raw_for m w n = record {
  width = w;
  mcs = m;
  format = 0;
  length = n;
  seed = 1;
  smoothing = true;
  not_sounding = true;
  aggregation = false;
  short_guard = false;
}

abbrev pub inputs_text : (mcs width length : ℕ) → List ℕ
inputs_text m w n = decimal m ++ (32 ∷ (decimal w ++ (32 ∷ (decimal n ++ (32 ∷ [])))))

-- "refused" and its number
abbrev pub refused_word : List ℕ
refused_word = 114 ∷ 101 ∷ 102 ∷ 117 ∷ 115 ∷ 101 ∷ 100 ∷ 32 ∷ []

abbrev pub refused_text : Refusal → List ℕ
refused_text r = refused_word ++ (decimal (number_of r) ++ (10 ∷ []))

abbrev pub accepted_text : ℕ → List ℕ → List ℕ
accepted_text symbols sig = decimal symbols ++ (32 ∷ (hex_bytes sig ++ (10 ∷ [])))

abbrev pub answer_text : Result Settings Refusal → List ℕ
answer_text (Ok s) = accepted_text (symbols_of s) (sig_bytes (fields_of s))
answer_text (Err r) = refused_text r

abbrev pub row_for : (mcs width length : ℕ) → List ℕ
row_for m w n = inputs_text m w n ++ answer_text (check_of (raw_for m w n))

-- "malformed"
abbrev pub malformed_text : List ℕ
malformed_text = 109 ∷ 97 ∷ 108 ∷ 102 ∷ 111 ∷ 114 ∷ 109 ∷ 101 ∷ 100 ∷ 10 ∷ []

abbrev pub row_by : Option Numbers → List ℕ
row_by (Some n) = row_for n.mcs n.width n.length
row_by None = malformed_text

-- what is printed for a line
abbrev pub row_of : List ℕ → List ℕ
row_of line = row_by (parsed_of line)

-- room for six bytes
abbrev pub zeros : List ℕ
zeros = 0 ∷ 0 ∷ 0 ∷ 0 ∷ 0 ∷ 0 ∷ []
