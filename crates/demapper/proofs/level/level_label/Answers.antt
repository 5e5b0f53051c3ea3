-- `level_label`: the label at the pattern's key, where the pattern stands there.
use Rattle.demapper.proofs.LabelLaws.{label_there, label_other}
use Rattle.demapper.proofs.level.level_label.Goals as goal

pub returns-then-pattern-levels : goal.returns-then-pattern-levels
returns-then-pattern-levels c = label_there c.args.s c.args.levels.now c.args.labels.now c.requires c.args.x _ _ c.bits_of-pattern.ensures
    c.key_of-k.ensures.0 c.key_of-k.ensures.1 c.if-pattern-levels.true

pub returns-else-pattern-levels : goal.returns-else-pattern-levels
returns-else-pattern-levels c = label_other c.args.s c.args.levels.now c.args.labels.now c.requires c.args.x _ _ c.bits_of-pattern.ensures
    c.key_of-k.ensures.0 c.if-pattern-levels.false
