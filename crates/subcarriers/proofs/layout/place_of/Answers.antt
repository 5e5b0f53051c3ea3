-- `place_of` goes by the parts of the channel.
use Rattle.std.proofs.Common.{◌≡◌, arith, ne_eqb}
use Rattle.subcarriers.specs.Subcarriers.{used_subcarriers, place_found, subcarrier_from}
use Rattle.subcarriers.proofs.SubcarrierLaws.{bounds_of, Ranged, form}
use Rattle.subcarriers.proofs.layout.place_of.Goals.{Joined-width-eq40, then-width-eq40, else-width-eq40}
use Rattle.subcarriers.proofs.layout.place_of.Goals.{else-low-k-via-then-low-k+else-k-gap, else-low-k-via-else-low-k}
use Rattle.subcarriers.proofs.layout.place_of.Goals.{else-above-k-via-then-above-k+else-k-top, else-above-k-via-else-above-k}
use Rattle.subcarriers.proofs.layout.place_of.Goals as goal

-- the bounds are the width's
parts : (c : Joined-width-eq40)
    → Ranged c.if-width-eq40.low c.args.k (place_found (used_subcarriers c.args.width) (subcarrier_from c.args.k))
parts c = form c.args.width c.args.k c.if-width-eq40.low bounds c.requires
  where
    bounds : c.if-width-eq40.low ≡ bounds_of c.args.width
    bounds = elim c.if-width-eq40.branch [
      | then-width-eq40 w ↦ rw (w.low-is, w.if-width-eq40.true)
      | else-width-eq40 w ↦ let n = ne_eqb c.args.width 40 w.if-width-eq40.false in rw (w.low-is, n)
    ]

pub returns-then-k-gap : goal.returns-then-k-gap
returns-then-k-gap c = (parts (goal.at.returns-then-k-gap c).Joined-width-eq40).lower c.if-low-k.true c.if-k-gap.true

pub returns-then-k-top : goal.returns-then-k-top
returns-then-k-top c = (parts (goal.at.returns-then-k-top c).Joined-width-eq40).upper c.if-above-k.true c.if-k-top.true

pub returns : goal.returns
returns c =
    let r = parts (goal.at.returns c).Joined-width-eq40 in
    elim c.else-above-k.branch [
      | else-above-k-via-then-above-k+else-k-top w ↦ r.beyond (omega arith)
      | else-above-k-via-else-above-k w ↦ elim c.else-low-k.branch [
        | else-low-k-via-then-low-k+else-k-gap v ↦ r.between (omega arith) (omega arith)
        | else-low-k-via-else-low-k v ↦ r.below (omega arith)
      ]
    ]
