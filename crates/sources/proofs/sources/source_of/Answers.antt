-- `source_of` is the closed inverse.
use Rattle.sources.proofs.SourceLaws.{laid_source}
use Rattle.sources.proofs.sources.source_of.Goals as goal

pub returns : goal.returns
returns g c = λ f b l. laid_source l _ c.requires.inside
