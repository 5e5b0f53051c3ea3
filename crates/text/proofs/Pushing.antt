-- Text pushed into a row, and hexadecimal digits byte by byte. Assumes nothing.
use Rattle.std.proofs.Common.{◌≡◌, refl, sym, ap, ◌∙◌, List, [], ◌∷◌, ◌++◌, append-nil, append_assoc, ℕ, suc, ◌+◌, ◌-◌}
use Rattle.std.proofs.Common.{◌/◌, ◌%◌, ◌<◌, ◌≤◌, leb, length, get_or, set, take, replicate, length-append, arith}
use Rattle.std.proofs.lemmas.List.{take_more}
use lib.Seq.{set-append_seam, append_snoc}
use Rattle.text.specs.declared.printing.Row.{Row}
use Rattle.text.specs.Printing.{digit_if, decimal, hex_digit, hex_bytes, row_holding, empty_row, pushed, pushed_all}
use Rattle.text.proofs.Decimals.{decimal_by_digit}

-- two texts are pushed one after the other
pub pushed_all_append : (r : Row) (s t : List ℕ) → pushed_all r (s ++ t) ≡ pushed_all (pushed_all r s) t
pushed_all_append r [] t = refl
pushed_all_append r (b ∷ s) t = pushed_all_append (pushed r b) s t

pushed_holding : (s : List ℕ) (b : ℕ) → length s < 40 → pushed (row_holding s) b ≡ row_holding (s ++ (b ∷ []))
pushed_holding s b h =
    let n : 40 - length s ≡ suc (40 - (length s + 1)) = omega arith in
    let e : length (s ++ (b ∷ [])) ≡ length s + 1 = length-append s (b ∷ []) in
    let p : set (s ++ replicate (40 - length s) 0) (length s) b ≡ (s ++ (b ∷ [])) ++ replicate (40 - length (s ++ (b ∷ []))) 0 =
    rw (n, e) (set-append_seam s 0 (replicate (40 - (length s + 1)) 0) b ∙ sym (append_snoc s b (replicate (40 - (length s + 1)) 0))) in
    let q : length s + 1 ≡ length (s ++ (b ∷ [])) = sym e in
    λ i. record { bytes = p i; len = q i }

-- text behind a text
pub pushed_all_behind : (s t : List ℕ) → length s + length t ≤ 40 → pushed_all (row_holding s) t ≡ row_holding (s ++ t)
pushed_all_behind s [] h = ap row_holding (sym (append-nil s))
pushed_all_behind s (b ∷ t) h =
    ap (λ (r : Row). pushed_all r t) (pushed_holding s b (omega arith))
    ∙ pushed_all_behind (s ++ (b ∷ [])) t (omega (arith, length-append s (b ∷ [])))
    ∙ ap row_holding (append_assoc s (b ∷ []) t)

-- a text of at most 40 bytes, pushed into the empty row, is held by it
pub pushed_all_holding : (t : List ℕ) → length t ≤ 40 → pushed_all empty_row t ≡ row_holding t
pushed_all_holding t h = pushed_all_behind [] t (omega arith)

-- the digits of a number, pushed one by one
pub decimal_pushed : (row a b c d r : Row) (n : ℕ) → n < 100000
    → a ≡ pushed_all row (digit_if (leb 10000 n) (n / 10000 % 10))
    → b ≡ pushed_all a (digit_if (leb 1000 n) (n / 1000 % 10))
    → c ≡ pushed_all b (digit_if (leb 100 n) (n / 100 % 10))
    → d ≡ pushed_all c (digit_if (leb 10 n) (n / 10 % 10))
    → r ≡ pushed d (48 + n % 10) → r ≡ pushed_all row (decimal n)
decimal_pushed row a b c d r n h ea eb ec ed er =
    rw (decimal_by_digit n h, pushed_all_append, ← ea, pushed_all_append, ← eb, pushed_all_append, ← ec, pushed_all_append, ← ed) er

hex_append : (xs ys : List ℕ) → hex_bytes (xs ++ ys) ≡ hex_bytes xs ++ hex_bytes ys
hex_append [] ys = refl
hex_append (x ∷ xs) ys = ap (λ l. hex_digit (x / 16) ∷ hex_digit (x % 16) ∷ l) (hex_append xs ys)

-- the digits of one byte more
pub hex_more : (l : List ℕ) (i : ℕ) → i < length l
    → hex_bytes (take (i + 1) l) ≡ hex_bytes (take i l) ++ (hex_digit (get_or l i 0 / 16) ∷ hex_digit (get_or l i 0 % 16) ∷ [])
hex_more l i h = rw (take_more l i 0 h) (hex_append (take i l) (get_or l i 0 ∷ []))
