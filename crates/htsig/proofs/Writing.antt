-- A text that is written piece by piece. Assumes nothing.
use Rattle.std.proofs.Common.{◌≡◌, ℕ, ◌-◌, List, ◌++◌, Bool, cond, Option, length, take, replicate, ltb, sym, ap, ◌∙◌, subst, append_assoc}
use lib.Seq.{take-append_seam}
use Rattle.std.specs.Io.KnownBytes.{Appends}
use Rattle.std.proofs.KnownBytes.{Appends-trans}
use Rattle.text.specs.declared.printing.Row.{Row}
use Rattle.text.specs.Printing.{row_holding, header_text, too_long_text}
use Rattle.lines.specs.Lines.{lines_of}
use Rattle.listing.specs.Listing.{listing_of, rows_of}

-- the bytes that a row holds
pub row_bytes : (r : Row) (text : List ℕ) → r ≡ row_holding text → take r.len r.bytes ≡ text
row_bytes r text e = ap (λ (x : Row). take x.len x.bytes) e ∙ take-append_seam text (replicate (40 - length text) 0)

-- one piece more of a whole
pub written_more : (a b c : Option (List ℕ)) (whole done piece rest : List ℕ) → whole ≡ done ++ (piece ++ rest) → Appends a b done → Appends b c piece
    → (whole ≡ (done ++ piece) ++ rest) × Appends a c (done ++ piece)
written_more a b c whole done piece rest e p q = (e ∙ sym (append_assoc done piece rest), Appends-trans a b c done piece p q)

-- the header, and then rows or that the input is too long
pub listing_written : (a b c : Option (List ℕ)) (head rest input : List ℕ) (long : Bool) → long ≡ ltb 65536 (length input) → head ≡ header_text
    → rest ≡ cond long too_long_text (rows_of (lines_of input)) → Appends a b head → Appends b c rest → Appends a c (listing_of input)
listing_written a b c head rest input long t e k p q =
    let f : rest ≡ cond (ltb 65536 (length input)) too_long_text (rows_of (lines_of input)) =
    k ∙ ap (λ (x : Bool). cond x too_long_text (rows_of (lines_of input))) t in
    let g : head ++ rest ≡ listing_of input = ap (λ (l : List ℕ). l ++ rest) e ∙ ap (λ (l : List ℕ). header_text ++ l) f in
    subst (Appends a c) g (Appends-trans a b c head rest p q)
