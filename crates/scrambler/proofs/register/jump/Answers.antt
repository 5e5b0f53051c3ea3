-- `jump` makes 2^k steps for each bit of the number that is 1.
use Rattle.std.proofs.Common.{◌≡◌, ◌∙◌, sym, ap, ◌%◌, ◌^◌, arith}
use Rattle.chain.specs.Scrambler.{state_at}
use Rattle.chain.proofs.ScramblerLaws.{state_zero, state_small, by_period}
use Rattle.scrambler.proofs.Jumps.{bit_taken, bit_left}
use Rattle.scrambler.proofs.register.jump.Goals as goal
use Rattle.scrambler.proofs.register.jump.Goals.{then-m-k-eq1, else-m-k-eq1}

pub loop-k-init : goal.loop-k-init
loop-k-init c = sym (state_zero _) ∙ ap (state_at _) (omega arith)

pub leap-state-requires : goal.leap-state-requires
leap-state-requires c = (rw c.loop-k.invariant (state_small _ _ c.requires), omega arith)

pub loop-k-preserved : goal.loop-k-preserved
loop-k-preserved c = elim c.if-m-k-eq1.branch [
  | then-m-k-eq1 w ↦ w.state-is ∙ w.leap-state.ensures ∙ rw c.loop-k.invariant (bit_taken _ _ _ w.if-m-k-eq1.true)
  | else-m-k-eq1 w ↦ w.state-is ∙ c.loop-k.invariant ∙ bit_left _ _ _ w.if-m-k-eq1.false
]

pub returns : goal.returns
returns c =
    let e : c.loop-k.k ≡ 7 = omega arith in
    let m : c.args.n % 127 % 2 ^ c.loop-k.k ≡ c.args.n % 127 = rw e (omega arith) in
    c.loop-k.invariant ∙ ap (state_at _) m ∙ by_period _ _ c.requires
