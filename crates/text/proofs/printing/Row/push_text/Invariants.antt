-- What is left to push gives the row, a byte longer by each that was pushed; its text is the old one and what was read behind it.
use Rattle.std.proofs.Common.{◌≡◌, ◌+◌, ◌++◌, take, drop}
use Rattle.text.specs.Printing.{text_of, ZerosBehind, pushed_all}
use Rattle.text.proofs.printing.Row.push_text.Given as goal

abbrev pub invariant-loop-b : goal.invariant-loop-b
invariant-loop-b l =
    (pushed_all l.self (drop l.b-index l.text) ≡ pushed_all l.initial.self l.text) × (l.self.len ≡ l.initial.self.len + l.b-index)
    × (text_of l.self ≡ text_of l.initial.self ++ take l.b-index l.text) × (ZerosBehind l.initial.self → ZerosBehind l.self)
