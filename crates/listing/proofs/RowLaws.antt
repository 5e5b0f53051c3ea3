-- The rows of lines: their parts as they are pushed, and how long they are. Assumes nothing.
use Rattle.std.specs.Prelude.{Option, Some, None, Err, Ok, Result}
use Rattle.std.proofs.Common.{◌≡◌, refl, sym, ap, ◌∙◌, List, [], ◌∷◌, ◌++◌, append-nil, ℕ, ◌*◌, ◌<◌, ◌≤◌, arith, length, length-append}
use Rattle.settings.specs.declared.settings.RawSettings.{RawSettings}
use Rattle.settings.specs.declared.settings.Refusal.{Refusal}
use Rattle.settings.specs.declared.settings.Settings.{Settings}
use Rattle.settings.specs.Settings.{check_of, number_of}
use Rattle.symbols.specs.Symbols.{symbols_of, count_of}
use Rattle.signal.specs.HtSig.{written_into}
use Rattle.settings.proofs.SettingsLaws.{right}
use Rattle.symbols.proofs.CountLaws.{symbols_few}
use Rattle.signal.proofs.HtSigLaws.{rest_stays, six_length}
use Rattle.parsing.specs.declared.numbers.Numbers.{Numbers}
use Rattle.parsing.specs.Parsing.{parsed_of}
use Rattle.text.specs.declared.printing.Row.{Row}
use Rattle.text.specs.Printing.{row_holding, empty_row, pushed, pushed_all, decimal, hex_bytes}
use Rattle.listing.specs.Rows.{raw_for, inputs_text, refused_word, refused_text, accepted_text, answer_text, row_for, row_by, row_of, zeros}
use Rattle.text.proofs.Decimals.{decimal_short}
use Rattle.text.proofs.Pushing.{pushed_all_append, pushed_all_holding}

-- ---- how long a row is after a push

pub hex_length : (l : List ℕ) → length (hex_bytes l) ≡ 2 * length l
hex_length [] = refl
hex_length (b ∷ bs) = omega (arith, hex_length bs)

pub size : {r q : Row} → r ≡ q → r.len ≡ q.len
size e = ap (λ (x : Row). x.len) e

-- ---- the parts as they are pushed

pub inputs_pushed : (z e a a1 b b1 c r : Row) (m w n : ℕ) → e ≡ z → a ≡ pushed_all e (decimal m) → a1 ≡ pushed a 32
    → b ≡ pushed_all a1 (decimal w) → b1 ≡ pushed b 32 → c ≡ pushed_all b1 (decimal n) → r ≡ pushed c 32
    → r ≡ pushed_all z (inputs_text m w n)
inputs_pushed z e a a1 b b1 c r m w n ee ea ea1 eb eb1 ec er = rw (er, ec, eb1, eb, ea1, ea, ee) (simp pushed_all_append)

pub refused_pushed : (z a b r : Row) (k : ℕ) (q : Refusal) → a ≡ pushed_all z refused_word → k ≡ number_of q
    → b ≡ pushed_all a (decimal k) → r ≡ pushed b 10 → r ≡ pushed_all z (refused_text q)
refused_pushed z a b r k q ea ek eb er = rw (er, eb, ea, ek) (simp pushed_all_append)

pub accepted_pushed : (z a b c r : Row) (k : ℕ) (sig : List ℕ) → a ≡ pushed_all z (decimal k) → b ≡ pushed a 32
    → c ≡ pushed_all b (hex_bytes sig) → r ≡ pushed c 10 → r ≡ pushed_all z (accepted_text k sig)
accepted_pushed z a b c r k sig ea eb ec er = rw (er, ec, eb, ea) (simp pushed_all_append)

-- ---- the answer by the count

-- a count has at most five digits
pub count_small : (a : RawSettings) (k : ℕ) → Ok k ≡ count_of (check_of a) → k < 100000
count_small a k = by (check_of a) refl
  where
    by : (x : Result Settings Refusal) → check_of a ≡ x → Ok k ≡ count_of x → k < 100000
    by (Ok s) p e =
        let z : k ≡ symbols_of s = cc in
        omega (arith, symbols_few s (right a s p))
    by (Err r) p e = let z : ◌≡◌ {A = ℕ} 0 1 = cc in absurd (omega arith)

pub six_bytes : (x : Result Settings Refusal) (sig : List ℕ) → sig ≡ written_into x zeros → length sig ≡ 6
six_bytes x sig e = ap length e ∙ (rest_stays x zeros).1

accepted_answer : (x : Result Settings Refusal) (k : ℕ) → Ok k ≡ count_of x → accepted_text k (written_into x zeros) ≡ answer_text x
accepted_answer (Ok s) k e =
    let z : k ≡ symbols_of s = cc in
    rw (z, append-nil)
accepted_answer (Err r) k e = let z : ◌≡◌ {A = ℕ} 0 1 = cc in absurd (omega arith)

refused_answer : (x : Result Settings Refusal) (q : Refusal) → Err q ≡ count_of x → refused_text q ≡ answer_text x
refused_answer (Ok s) q e = let z : ◌≡◌ {A = ℕ} 0 1 = cc in absurd (omega arith)
refused_answer (Err r) q e =
    let z : q ≡ r = cc in
    ap refused_text z

module _ (z i r : Row) (m w n : ℕ) (a : RawSettings) (ei : i ≡ pushed_all z (inputs_text m w n)) (ea : a ≡ raw_for m w n) where
  behind : (t : List ℕ) → r ≡ pushed_all i t → t ≡ answer_text (check_of a) → r ≡ pushed_all z (row_for m w n)
  behind t e k =
      e ∙ ap (λ (x : Row). pushed_all x t) ei
      ∙ sym (pushed_all_append z (inputs_text m w n) t)
      ∙ ap (λ (x : List ℕ). pushed_all z (inputs_text m w n ++ x)) (k ∙ ap (λ (x : RawSettings). answer_text (check_of x)) ea)

  pub row_accepted : (k : ℕ) (sig : List ℕ) → Ok k ≡ count_of (check_of a) → sig ≡ written_into (check_of a) zeros
      → r ≡ pushed_all i (accepted_text k sig) → r ≡ pushed_all z (row_for m w n)
  row_accepted k sig c s e = behind (accepted_text k sig) e (ap (accepted_text k) s ∙ accepted_answer (check_of a) k c)

  pub row_refused : (q : Refusal) → Err q ≡ count_of (check_of a) → r ≡ pushed_all i (refused_text q) → r ≡ pushed_all z (row_for m w n)
  row_refused q c e = behind (refused_text q) e (refused_answer (check_of a) q c)

-- ---- a row has at most 40 bytes

inputs_short : (m w n : ℕ) → length (inputs_text m w n) ≤ 18
inputs_short m w n =
    simp length-append (omega (arith, decimal_short m, decimal_short w, decimal_short n))

answer_short : (x : Result Settings Refusal) → length (answer_text x) ≤ 19
answer_short (Ok s) =
    simp (length-append, hex_length, six_length) (omega (arith, decimal_short (symbols_of s)))
answer_short (Err r) = simp length-append (omega (arith, decimal_short (number_of r)))

by_short : (p : Option Numbers) → length (row_by p) ≤ 40
by_short (Some g) =
    let inputs : List ℕ = inputs_text g.mcs g.width g.length in
    let answer : Result Settings Refusal = check_of (raw_for g.mcs g.width g.length) in
    omega (arith, length-append inputs (answer_text answer), inputs_short g.mcs g.width g.length, answer_short answer)
by_short None = omega arith

-- what is printed for a line fits a row
pub row_short : (l : List ℕ) → length (row_of l) ≤ 40
row_short l = by_short (parsed_of l)

-- the public row, by what the parse gave
pub row_held : (l : List ℕ) (p : Option Numbers) (r : Row) → p ≡ parsed_of l → r ≡ pushed_all empty_row (row_by p)
    → r ≡ row_holding (row_of l)
row_held l p r e k = k ∙ ap (λ (x : Option Numbers). pushed_all empty_row (row_by x)) e ∙ pushed_all_holding (row_of l) (row_short l)
