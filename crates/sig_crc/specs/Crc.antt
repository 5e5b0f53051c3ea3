-- The CRC of HT-SIG as numbers: what the code computes. Registers of crate `signal` says that it is the register by its stages.
use Rattle.std.specs.Prelude.{ℕ, zero, suc, ◌+◌, ◌-◌, ◌*◌, ◌/◌, ◌%◌}

-- the register as a number, stage 0 its low bit
abbrev pub crc_shift : ℕ → ℕ → ℕ
crc_shift r b =
    let f = (r / 128 + b) % 2 in
    f + 2 * ((r + f) % 2) + 4 * ((r / 2 + f) % 2) + 8 * (r / 4 % 32)

-- k shifts, over the low bits of w
unfoldable pub crc_run : ℕ → ℕ → ℕ → ℕ
crc_run zero r w = r
crc_run (suc k) r w = crc_run k (crc_shift r (w % 2)) (w / 2)

-- the register complemented, stage 7 as the low bit
unfoldable pub crc_field : ℕ → ℕ
crc_field r =
    (1 - r / 128 % 2) + 2 * (1 - r / 64 % 2) + 4 * (1 - r / 32 % 2) + 8 * (1 - r / 16 % 2)
    + 16 * ((1 - r / 8 % 2) + 2 * (1 - r / 4 % 2) + 4 * (1 - r / 2 % 2) + 8 * (1 - r % 2))
