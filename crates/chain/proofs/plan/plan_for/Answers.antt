-- `plan_for`: the columns of its table are the definition's lists.
use Rattle.std.proofs.Common.{◌≡◌, sym, ℕ, ◌%◌, map, get_or}
use Rattle.std.proofs.Math.ListN.{get_or-map}
use Rattle.chain.specs.declared.plan.TheConstants.{SCHEMES}
use Rattle.chain.specs.Plan.{plan_of}
use Rattle.chain.proofs.plan.plan_for.Goals as goal

abbrev Row : Type 0
Row = ℕ × ℕ × ℕ

abbrev none : Row
none = (0, 0, 0)

-- a column of the table
column : (f : Row → ℕ) (k : ℕ) → f (get_or SCHEMES k none) ≡ get_or (map f SCHEMES) k (f none)
column f k = sym (get_or-map f SCHEMES k none)

pub returns : goal.returns
unfolding plan_of
returns c =
    let k = c.args.mcs % 8 in
    rw (c.carriers_of-carriers.ensures, column (λ r. r.0) k, column (λ r. r.1) k, column (λ r. r.2) k)
