-- Which set of C calls this is.
use Rattle.std.specs.Prelude.{ℕ}

-- THE number of the set of C calls (docs/C-API.md): one more with every change of a call and every call added. The code is proved to give
-- it; the header's HT_CORE_ABI is compared with it.
abbrev pub abi_number : ℕ
abi_number = 1
