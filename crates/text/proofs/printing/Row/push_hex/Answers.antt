-- The digits of one byte more.
use Rattle.std.proofs.Common.{sym, ◌∙◌, append_assoc, ap, arith}
use Rattle.std.proofs.lemmas.List.{at_drop_more}
use Rattle.text.specs.declared.printing.Row.{Row}
use Rattle.text.specs.Printing.{pushed_all, hex_bytes}
use Rattle.text.proofs.Pushing.{hex_more}
use Rattle.text.proofs.printing.Row.push_hex.Goals as goal

pub loop-b-preserved : goal.loop-b-preserved
loop-b-preserved c =
    let high = c.push.ensures in
    let low = c.push-in-loop-b.ensures in
    let bytes = c.args.bytes.now in
    let i = c.loop-b.b-index in
    let here = c.loop-b-test.true in
    let before = c.loop-b.invariant in
    let left = at_drop_more (λ l. pushed_all c.loop-b.self (hex_bytes l)) bytes i 0 here in (
      rw (low.row, high.row, c.hex_digit.ensures, c.hex_digit-in-loop-b.ensures) (sym left ∙ before.0),
      omega (arith, before.1, ap (λ (r : Row). r.len) low.row, ap (λ (r : Row). r.len) high.row),
      rw (hex_more bytes i here, low.text, high.text, c.hex_digit.ensures, c.hex_digit-in-loop-b.ensures, before.2) (simp append_assoc),
      λ z. low.zeros (high.zeros (before.3 z)),
    )
