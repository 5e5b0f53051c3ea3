-- `subcarrier_of` goes by width and half of the channel.
use Rattle.std.proofs.Common.{◌≡◌, ne_eqb}
use Rattle.subcarriers.proofs.NumberLaws.{signed_shifts, lower_number, upper_number}
use Rattle.subcarriers.proofs.layout.subcarrier_of.Goals.{then-width-eq40, else-width-eq40, then-f-half, else-f-half}
use Rattle.subcarriers.proofs.layout.subcarrier_of.Goals as goal

pub returns : goal.returns
returns c = elim c.if-f-half.branch [
  | then-f-half w ↦ lower_number c.args.width c.args.f _ c.if-width-eq40.half c.requires.t c.requires.f_bound shifts w.if-f-half.true
      w.shift-is
  | else-f-half w ↦ upper_number c.args.width c.args.f _ c.if-width-eq40.half c.requires.t c.requires.f_bound shifts w.if-f-half.false
      w.shift-is
]
  where
    shifts : c.if-width-eq40.half ≡ signed_shifts c.args.width
    shifts = elim c.if-width-eq40.branch [
      | then-width-eq40 w ↦ rw (w.half-is, w.if-width-eq40.true)
      | else-width-eq40 w ↦ let n = ne_eqb c.args.width 40 w.if-width-eq40.false in rw (w.half-is, n)
    ]
