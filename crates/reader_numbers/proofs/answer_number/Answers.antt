-- `answer_number`: document 01's number of each answer.
use Rattle.std.proofs.Common.{◌≡◌, ◌∙◌, sym, ap, subst, ℕ, ◌<◌, Err}
use Rattle.acceptance.specs.declared.accept.StepRefusal.TheVariants.{Refused}
use Rattle.reader.specs.Step.{step_number}
use Rattle.conversions.proofs.Minus.{number_small}
use Rattle.reader_numbers.proofs.answer_number.Goals as goal

pub returns-in-Err-Refused : goal.returns-in-Err-Refused
returns-in-Err-Refused c =
    let inner : c.in-Err-Refused.field-0 ≡ Refused c.in-Err-Refused.r = rw c.in-Err-Refused.is at c.in-Err-Refused.field-0-is in (
      c.number-in-Err-Refused.ensures ∙ ap step_number (sym (c.in-Err-Refused.is ∙ ap Err inner)),
      subst (λ (n : ℕ). n < 16) (sym c.number-in-Err-Refused.ensures) (number_small c.in-Err-Refused.r),
    )
