-- What is left to read gives the number, and what is read has room to grow.
use Rattle.std.proofs.Common.{◌≡◌, ◌+◌, ◌*◌, ◌≤◌, drop}
use Rattle.parsing.specs.Parsing.{decimal_from, decimal_value}
use Rattle.parsing.proofs.Values.{tens}
use Rattle.parsing.proofs.numbers.decimal_value.Given as goal

abbrev pub invariant-loop-b : goal.invariant-loop-b
invariant-loop-b l = (l.value + 23 ≤ 23 * tens l.b-index) × (decimal_from l.value (drop l.b-index l.digits) ≡ decimal_value l.digits)
