-- `symbol_bits`: before each place, every point passed is given and its label bits are stored.
use Rattle.std.proofs.Common.{◌≡◌, List, ℕ, None}
use Rattle.detector.proofs.SearchLaws.{RowsHeard, PlacesHeard}
use Rattle.detector.proofs.search.symbol_bits.Given as goal

-- `symbol_bits`: before each place, every point passed is given and its label bits are stored.
abbrev pub invariant-streams : goal.invariant-streams
invariant-streams l = (l.found ≡ None) × RowsHeard l.fn.plan l.points l.format l.n l.i l.initial.bits l.bits

abbrev pub invariant-loop-f : goal.invariant-loop-f
invariant-loop-f l = (l.found ≡ None) × ((d : List ℕ) → RowsHeard l.fn.plan l.points l.format l.n l.i d l.initial.bits
    → PlacesHeard l.fn.plan l.points l.format l.n l.i l.f d l.bits)
