-- `put_carried` goes by what is carried.
use Rattle.std.proofs.Common.{◌∙◌, sym, ap, pos}
use Rattle.query.specs.declared.query.Carried.{Carried}
use Rattle.conversions.specs.Results.{carried_number, carried_into}
use Rattle.conversions.proofs.Put.{one_put, two_put}
use Rattle.conversions.proofs.put_carried.Goals as goal

pub returns-in-Silent : goal.returns-in-Silent
returns-in-Silent c = let e = sym c.in-Silent.is in
    (ap (λ (k : Carried). pos (carried_number k)) e, ap (λ (k : Carried). carried_into k c.args.out.now) e)

pub returns-in-Pilot : goal.returns-in-Pilot
returns-in-Pilot c = let e = sym c.in-Pilot.is in (
  ap (λ (k : Carried). pos (carried_number k)) e,
  one_put c.args.out.now _ c.requires
      ∙ ap (λ (k : Carried). carried_into k c.args.out.now) e,
)

pub returns-in-Data : goal.returns-in-Data
returns-in-Data c = let e = sym c.in-Data.is in (
  ap (λ (k : Carried). pos (carried_number k)) e,
  two_put c.args.out.now _ _ c.requires
      ∙ ap (λ (k : Carried). carried_into k c.args.out.now) e,
)
