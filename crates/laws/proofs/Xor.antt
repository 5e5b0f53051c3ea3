-- The xor of two bits is their sum modulo 2. Assumes nothing.
use Prim.Native.Nat.{◌+◌, ◌%◌}
use lib.Bits.{bit_xor}
use Rattle.laws.specs.Claim.{Claim, ◌is◌, up_to, Holds, sound}

abbrev pub xor_claim : Claim
xor_claim = up_to 2 λ a. up_to 2 λ b. bit_xor a b is (a + b) % 2

pub xor_bits : Holds xor_claim
xor_bits = sound xor_claim tt
