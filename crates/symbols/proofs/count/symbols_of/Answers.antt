-- `symbols_of` meets its contract, by what the plan's facts say of the sizes. Assumes nothing.
use Rattle.std.proofs.Common.{◌≡◌, ◌∙◌, sym, ap, ap₂, subst, arith, ℕ, ◌+◌, ◌*◌}
use Rattle.chain.specs.Plan.{Fits}
use Rattle.chain.specs.declared.plan.Plan.{Plan}
use Rattle.settings.specs.Settings.{encoders_of}
use Rattle.symbols.specs.Symbols.{ceil, symbols_of}
use Rattle.settings.proofs.SettingsLaws.{plan_fits, encoders_few, planned_encoders}
use Rattle.symbols.proofs.count.symbols_of.Goals.{After-plan_of-plan}
use Rattle.symbols.proofs.count.symbols_of.Goals as goal

encoders_are : (c : After-plan_of-plan) → c.plan_of-plan.result.encoders ≡ encoders_of c.args.s.mcs
encoders_are c = ap (λ (p : Plan). p.encoders) c.plan_of-plan.ensures ∙ planned_encoders c.args.s

plan_right : (c : After-plan_of-plan) → Fits c.plan_of-plan.result
plan_right c = subst Fits (sym c.plan_of-plan.ensures) (plan_fits c.args.s c.requires)

pub tail_bits-requires : goal.tail_bits-requires
tail_bits-requires c = omega (arith, encoders_are (goal.at.tail_bits-requires c).After-plan_of-plan, encoders_few c.args.s.mcs)

pub overflow_sub-result : goal.overflow_sub-result
overflow_sub-result c = omega (arith, (plan_right (goal.at.overflow_sub-result c).After-plan_of-plan).dbps_some)

pub overflow_add-result : goal.overflow_add-result
overflow_add-result c = omega (
  arith,
  (plan_right (goal.at.overflow_add-result c).After-plan_of-plan).dbps_most,
  c.tail_bits.ensures.1,
  c.requires.length_most,
)

pub nonzero_div-result : goal.nonzero_div-result
nonzero_div-result c = omega (arith, (plan_right (goal.at.nonzero_div-result c).After-plan_of-plan).dbps_some)

pub returns : goal.returns
unfolding symbols_of
returns c =
    ap₂ (λ (t d : ℕ). ceil (16 + 8 * c.args.s.length + t) d)
    (c.tail_bits.ensures.0 ∙ ap (λ (e : ℕ). 6 * e) (encoders_are (goal.at.returns c).After-plan_of-plan))
    (ap (λ (p : Plan). p.dbps) c.plan_of-plan.ensures)
