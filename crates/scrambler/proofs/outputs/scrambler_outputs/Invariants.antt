-- `scrambler_outputs` stores one output a turn: it steps on in the first period, and copies from a period before after it.
use Rattle.std.proofs.Common.{◌≡◌, ◌<◌, min}
use Rattle.laws.specs.Filled.{Filled}
use Rattle.chain.specs.Scrambler.{state_at, scrambler_bit}
use Rattle.scrambler.proofs.outputs.scrambler_outputs.Given as goal

abbrev pub invariant-loop-t : goal.invariant-loop-t
invariant-loop-t l =
    Filled 0 0 (λ k. scrambler_bit l.state k) l.t l.fn.outputs l.outputs × (l.now_at ≡ state_at l.state l.t) × (l.now_at < 128)

abbrev pub invariant-loop-t-2 : goal.invariant-loop-t-2
invariant-loop-t-2 l = Filled 0 0 (λ k. scrambler_bit l.state k) (min l.t l.count) l.fn.outputs l.outputs
