-- A symbol's label bits and its coded bits (document 01 steps 4 and 5 undone), as the code holds them: where each stands in its list.
use Rattle.std.specs.Prelude.{List, ℕ, ◌+◌, ◌*◌, get_or}
use Rattle.chain.specs.declared.plan.Plan.{Plan}
use Rattle.chain.specs.Parser.{axis_bits}
use Rattle.chain.specs.Interleaver.{source}
use Rattle.sources.specs.Sources.{coded_slot}

-- bit r of stream i's block in a list of all streams' label bits, stream by stream
abbrev pub label_bit_in : (p : Plan) (bits : List ℕ) (i r : ℕ) → ℕ
label_bit_in p bits i r = get_or bits (i * p.block + r) 0

-- where label bit r of stream i stands among the coded bits
abbrev pub slot_of : (p : Plan) (i r : ℕ) → ℕ
slot_of p i r = coded_slot (axis_bits p.bits) p.streams p.encoders i (source p.width p.bits i r)

-- coded bit y of encoder j in the list, those of encoder 1 from 1296 on
abbrev pub coded_of : (coded : List ℕ) (j y : ℕ) → ℕ
coded_of coded j y = get_or coded (1296 * j + y) 0
