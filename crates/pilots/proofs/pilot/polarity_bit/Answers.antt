-- `polarity_bit` jumps as far as the format says.
use Rattle.std.proofs.Common.{◌≡◌, arith, ne_eqb, lit<}
use Rattle.chain.proofs.ScramblerLaws.{state_small}
use Rattle.pilots.specs.Pilots.{polarity_start}
use Rattle.pilots.proofs.PilotLaws.{polarity_at, polarity_small}
use Rattle.pilots.proofs.pilot.polarity_bit.Goals.{then-format-eq1, else-format-eq1}
use Rattle.pilots.proofs.pilot.polarity_bit.Goals as goal

pub output_of-requires : goal.output_of-requires
output_of-requires c = rw c.jump.ensures (state_small _ _ (lit< tt))

pub returns : goal.returns
returns c =
    let told = polarity_at c.args.format c.args.n _ _ _ c.jump.ensures c.output_of.ensures (omega (arith, start)) in
    (told, rw told (polarity_small _ _))
  where
    start : c.if-format-eq1.start ≡ polarity_start c.args.format
    start = elim c.if-format-eq1.branch [
      | then-format-eq1 w ↦ rw (w.start-is, w.if-format-eq1.true)
      | else-format-eq1 w ↦ let n = ne_eqb c.args.format 1 w.if-format-eq1.false in rw (w.start-is, n)
    ]
