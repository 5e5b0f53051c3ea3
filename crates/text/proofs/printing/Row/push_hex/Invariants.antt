-- What is left to push gives the row, two bytes longer by each that was pushed; its text is the old one and the digits behind it.
use Rattle.std.proofs.Common.{◌≡◌, ◌+◌, ◌*◌, ◌++◌, take, drop}
use Rattle.text.specs.Printing.{text_of, ZerosBehind, pushed_all, hex_bytes}
use Rattle.text.proofs.printing.Row.push_hex.Given as goal

abbrev pub invariant-loop-b : goal.invariant-loop-b
invariant-loop-b l =
    (pushed_all l.self (hex_bytes (drop l.b-index l.bytes)) ≡ pushed_all l.initial.self (hex_bytes l.bytes))
    × (l.self.len ≡ l.initial.self.len + 2 * l.b-index)
    × (text_of l.self ≡ text_of l.initial.self ++ hex_bytes (take l.b-index l.bytes)) × (ZerosBehind l.initial.self → ZerosBehind l.self)
