-- `labels_of` asks for half labels by the numbers of accepted settings.
use Rattle.frame.proofs.FrameLaws.{labels_asked, labels_held}
use Rattle.frame.proofs.points.labels_of.Goals as goal

pub half_labels-requires : goal.half_labels-requires
half_labels-requires c = rw c.plan_of.ensures (labels_asked _ _ _ _ c.requires.0 c.requires.1)

pub returns : goal.returns
returns c = labels_held c.args.s _ _ c.args.halves.now _ c.requires.0 c.requires.1 (rw c.plan_of.ensures at c.half_labels.ensures)
