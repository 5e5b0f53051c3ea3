-- `bytes::put_payload` meets its contract: bytes and part of the line of known bits are those of the payload.
use Rattle.std.proofs.Common.{◌≡◌, ◌∙◌, ◌+◌, ◌-◌, ◌%◌, length, replicate, get_or, arith}
use Rattle.laws.proofs.Filling.{fill_copied, fill_lent_all}
use Rattle.assembler.specs.Asked.{KnownLine}
use Rattle.assembler.proofs.KnownBits.{line_asked, line_part, line_symbol, bytes_filled, part_left_lem}
use Rattle.assembler.proofs.bytes.put_payload.Goals.{Joined-before-after, then-before-after, else-before-after}
use Rattle.assembler.proofs.bytes.put_payload.Goals as goal

-- the line has the known bits, whether the symbol has any of them or not
known_line : (c : Joined-before-after)
    → KnownLine c.args.bytes c.args.start c.args.part c.payload_before-before.result c.payload_before-after.result
    (λ d. get_or c.args.plain.now d 0) (replicate 2176 0) c.if-before-after.line
known_line c =
    let a = c.args in
    let before = c.payload_before-before.result in
    let from = 16 + before - a.start in
    let asked = line_asked (replicate 2176 0) _ _ _ _ _ _ _ _ tt (omega arith) c.requires
    c.payload_before-before.ensures c.payload_before-after.ensures in
    elim c.if-before-after.branch [
      | then-before-after w ↦ rw w.line-is (line_symbol _ _ _ _ _ _ _ _ asked _ c.put_byte.ensures w.if-before-after.true _
          (fill_copied 0 (before % 8) a.plain.now from _ _ _ c.put_byte.new.raw _ (omega arith) (omega arith) (omega arith) (omega arith)
          w.copy_from_slice.ensures.after))
      | else-before-after w ↦ rw w.line-is (line_part _ _ _ _ _ _ _ _ asked _ c.put_byte.ensures (omega arith))
    ]

pub put_bytes-requires : goal.put_bytes-requires
put_bytes-requires c =
    let known = known_line (goal.at.put_bytes-requires c).Joined-before-after in
    let sized : length c.if-before-after.line ≡ 2176 = known.same in
    record { whole = omega (arith, sized); few = omega arith; bits = known.bits }

pub pack-requires : goal.pack-requires
pack-requires c =
    let known = known_line (goal.at.pack-requires c).Joined-before-after in
    let sized : length c.if-before-after.line ≡ 2176 = known.same in
    record { whole = omega (arith, sized); few = omega arith; bits = known.bits }

pub returns : goal.returns
returns c =
    let a = c.args in
    let before_is = c.payload_before-before.ensures in
    let after_is = c.payload_before-after.ensures in
    let known = known_line (goal.at.returns c).Joined-before-after in
    record {
      filled = bytes_filled a.bytes a.start a.count a.part _ _ _ _ _ before_is after_is known _ _
          (fill_lent_all 0 _ _ _ _ a.payload.now (omega arith) (omega arith) c.put_bytes.ensures);
      value = c.pack.ensures ∙ part_left_lem a.bytes a.start a.count a.part _ _ _ _ _ before_is after_is known;
    }
