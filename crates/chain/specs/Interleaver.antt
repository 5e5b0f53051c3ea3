-- The frequency interleaver of one stream's block (document 01 step 5; EWC 4.4.2), forwards as it is printed, and the inverse to that rule.
use Rattle.std.specs.Prelude.{cond, ℕ, ◌+◌, ◌-◌, ◌*◌, ◌/◌, ◌%◌, eqb}
use Rattle.laws.specs.Least.{first_from}
use Rattle.chain.specs.Plan.{carriers_of}
use Rattle.chain.specs.Parser.{axis_bits}

-- "columns 13, rows 4B, rotation 11 at 20 MHz; columns 18, rows 6B, rotation 29 at 40"
unfoldable pub columns : (width : ℕ) → ℕ
columns width = cond (eqb width 40) 18 13

unfoldable pub rows : (width bits : ℕ) → ℕ
rows width bits = cond (eqb width 40) 6 4 * bits

unfoldable pub rotation : (width : ℕ) → ℕ
rotation width = cond (eqb width 40) 29 11

unfoldable pub block_of : (width bits : ℕ) → ℕ
block_of width bits = carriers_of width * bits

-- the first permutation: entered by rows, read out by columns
unfoldable pub by_columns : (width bits k : ℕ) → ℕ
by_columns width bits k = rows width bits * (k % columns width) + k / columns width

-- the second: "j = s·floor(i/s) + (i + N_CBPSS - floor(N_COL·i / N_CBPSS)) mod s"
unfoldable pub alternated : (width bits i : ℕ) → ℕ
alternated width bits i =
    let s = axis_bits bits in
    s * (i / s) + (i + block_of width bits - columns width * i / block_of width bits) % s

-- what the third takes away on stream i, "streams from 0": ((2·i) mod 3 + 3·floor(i/3)) times the rotation, "times B"
unfoldable pub shift_of : (width bits stream : ℕ) → ℕ
shift_of width bits stream = (stream * 2 % 3 + 3 * (stream / 3)) * rotation width * bits

-- the third: "Rotation is subtracted times B, modulo the block"
unfoldable pub rotated : (width bits stream j : ℕ) → ℕ
rotated width bits stream j = (j + block_of width bits - shift_of width bits stream) % block_of width bits

-- where bit k of a stream's block goes
unfoldable pub place : (width bits stream k : ℕ) → ℕ
place width bits stream k = rotated width bits stream (alternated width bits (by_columns width bits k))

-- "the inverse is to the forward rule": the bit that goes to place r
unfoldable pub source : (width bits stream r : ℕ) → ℕ
source width bits stream r = first_from (λ k. eqb (place width bits stream k) r) 0 (block_of width bits)

-- the same inverse in closed form, the printed one with its bracket put right. The third permutation undone: j = (r + shift) mod N_CBPSS
unfoldable pub unrotated : (width bits stream r : ℕ) → ℕ
unrotated width bits stream r = (r + shift_of width bits stream) % block_of width bits

-- the second undone: "i = s·floor(j/s) + (j + floor(N_COL·j / N_CBPSS)) mod s"
unfoldable pub unalternated : (width bits j : ℕ) → ℕ
unalternated width bits j =
    let s = axis_bits bits in
    s * (j / s) + (j + columns width * j / block_of width bits) % s

-- the first undone: N_COL·i - (N_CBPSS - 1)·floor(i / N_ROW), by the remainder instead of the difference
unfoldable pub by_rows : (width bits i : ℕ) → ℕ
by_rows width bits i = columns width * (i % rows width bits) + i / rows width bits

-- the bit that goes to place r, in closed form
unfoldable pub source_form : (width bits stream r : ℕ) → ℕ
source_form width bits stream r = by_rows width bits (unalternated width bits (unrotated width bits stream r))
