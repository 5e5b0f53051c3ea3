-- `data_bits`: the bytes between the two marks are the payload's, and all else stays zero.
use Rattle.std.proofs.Common.{◌+◌, ◌-◌, length, arith}
use Rattle.data_bits.proofs.Bytes.{data_none, data_some, part_put}
use Rattle.data_bits.proofs.bits.data_bits.Goals as goal

pub returns-then-low-high : goal.returns-then-low-high
returns-then-low-high c = let a = c.args in
    data_some a.payload.now a.raw.now (length a.payload.now) a.from a.count _ _ c.requires.blank
    c.below_mark-low.ensures c.below_mark-high.ensures _ c.if-low-high.true
    (part_put a.payload.now a.raw.now c.put_bytes.new.raw (a.from + c.below_mark-low.result - 2) (a.from + c.below_mark-high.result - 2) _ _
    (omega arith) (omega arith) (omega arith) (omega arith) c.put_bytes.ensures)

pub returns-else-low-high : goal.returns-else-low-high
returns-else-low-high c = let a = c.args in
    data_none a.payload.now a.raw.now (length a.payload.now) a.from a.count _ _ c.requires.blank
    c.below_mark-low.ensures c.below_mark-high.ensures (omega arith)
