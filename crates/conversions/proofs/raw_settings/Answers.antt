-- `raw_settings` is the definition, field by field.
use Rattle.std.proofs.Common.{refl}
use Rattle.conversions.proofs.raw_settings.Goals as goal

pub returns : goal.returns
returns c = refl
