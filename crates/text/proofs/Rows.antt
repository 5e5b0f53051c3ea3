-- Rows that hold a text with zeros behind it. Assumes nothing.
use Rattle.std.proofs.Common.{◌≡◌, sym, ap, ◌∙◌, ◌++◌, ℕ, ◌+◌, ◌-◌, ◌<◌, ◌≤◌, length, get_or, drop, replicate, arith}
use Rattle.std.proofs.lemmas.List.{length-take-le, take-append-drop, get_or-append_right, get_or-replicate, get_or-drop, ext_get_or}
use Rattle.std.proofs.lemmas.List.{length-replicate, length-drop}
use Rattle.std.proofs.Math.Seq.{take-append_seam}
use Rattle.text.specs.declared.printing.Row.{Row}
use Rattle.text.specs.Printing.{row_holding, text_of, ZerosBehind}
use Rattle.text.specs.Statements.{ZerosEachByte, HoldsText}

module _ (r : Row) (whole : length r.bytes ≡ 40) (ends : r.len ≤ 40) where
  -- the text is as long as the row says
  long : length (text_of r) ≡ r.len
  long = length-take-le r.len r.bytes (omega (arith, whole))

  each_zero : ZerosBehind r → (i : ℕ) → r.len ≤ i → i < 40 → get_or r.bytes i 1 ≡ 0
  each_zero z i from to =
      ap (λ l. get_or l i 1) z.1
      ∙ get_or-append_right (text_of r) (replicate (40 - length (text_of r)) 0) r.len i 1 long from
      ∙ get_or-replicate (40 - length (text_of r)) (i - r.len) 0 1 (omega (arith, long))

  zeros_behind : ((i : ℕ) → r.len ≤ i → i < 40 → get_or r.bytes i 1 ≡ 0) → ZerosBehind r
  zeros_behind z =
      let behind : ℕ = 40 - length (text_of r) in
      let left : length (drop r.len r.bytes) ≡ behind = omega (arith, long, whole, length-drop r.len r.bytes) in
      let each : (i : ℕ) → i < length (drop r.len r.bytes) → get_or (drop r.len r.bytes) i 1 ≡ 0 =
      λ i l. get_or-drop r.len r.bytes i 1 ∙ z (r.len + i) (omega arith) (omega (arith, left, long)) in
      let rest : drop r.len r.bytes ≡ replicate behind 0 =
      ext_get_or 1 (drop r.len r.bytes) (replicate behind 0) (omega (arith, left, length-replicate {A = ℕ} behind 0))
      (λ i l. each i l ∙ sym (get_or-replicate behind i 0 1 (omega (arith, left)))) in
      (ends, sym (take-append-drop r.len r.bytes) ∙ ap (λ l. text_of r ++ l) rest)

pub zeros_each_byte : ZerosEachByte
zeros_each_byte r whole ends = (each_zero r whole ends, zeros_behind r whole ends)

pub holds_text : HoldsText
holds_text t h =
    let text : text_of (row_holding t) ≡ t = take-append_seam t (replicate (40 - length t) 0) in
    (text, (h, ap (λ s. s ++ replicate (40 - length s) 0) (sym text)))
