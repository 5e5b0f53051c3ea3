-- `found_number`: stream and subcarrier are small.
use Rattle.std.proofs.Common.{◌∙◌, ap, arith, ℕ, ◌+◌, ◌*◌, pos, to_z-of_z}
use Rattle.reader_numbers.proofs.NumberLaws.{place_number_is}
use Rattle.reader_numbers.proofs.found_number.Goals as goal

pub returns : goal.returns
returns c = (
  ap (λ (k : ℕ). pos (256 * k + (c.index.result + 64))) c.from.ensures
      ∙ place_number_is c.args.stream c.index.result c.args.subcarrier (c.index.ensures.0
      ∙ to_z-of_z c.ranges.subcarrier) c.index.ensures.1,
  omega (arith, c.from.ensures, c.index.ensures.1),
)
