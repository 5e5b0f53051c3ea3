-- `read_frame_call`: a number for each answer.
use Rattle.std.proofs.Common.{Err, ◌≡◌, sym, ap, ◌∙◌, ne_eqb, rules}
use Rattle.frame_steps.specs.declared.steps.FrameRefusal.TheVariants.{Refused as FrameRefused}
use Rattle.settings.specs.declared.settings.Refusal.{Refusal}
use Rattle.settings.specs.Settings.{number_of}
use Rattle.conversions.specs.Results.{refused_result}
use Rattle.frame_steps.proofs.LoopLaws.{refusal_some}
use Rattle.frame_reader.specs.Result.{frame_result}
use Rattle.std.proofs.lemmas.Bool.{ne_eqb}
use Rattle.frame_reader.proofs.call.read_frame_call.Goals as goal

-- a refusal is its number negated
refused_as : (r : Refusal) → refused_result r ≡ frame_result (Err (FrameRefused r))
refused_as r = simp (ne_eqb (number_of r) 0 (refusal_some r))

pub returns-in-Ok : goal.returns-in-Ok
returns-in-Ok c = record {
  value = search rules ∙ ap frame_result (sym c.in-Ok.is ∙ c.read_frame.ensures.answered);
  payload_after = c.read_frame.ensures.left;
}

pub returns-in-Err-BadPoint : goal.returns-in-Err-BadPoint
returns-in-Err-BadPoint c = record {
  value = search rules ∙ c.refused.ensures
      ∙ ap frame_result (sym (c.in-Err-BadPoint.is ∙ ap Err c.in-Err-BadPoint.field-0-is) ∙ c.read_frame.ensures.answered);
  payload_after = c.read_frame.ensures.left;
}

pub returns-in-Err-BadSymbol : goal.returns-in-Err-BadSymbol
returns-in-Err-BadSymbol c = record {
  value = search rules ∙ c.refused-in-Err-BadSymbol.ensures ∙ refused_as c.in-Err-BadSymbol.r
      ∙ ap frame_result (sym (c.in-Err-BadSymbol.is ∙ ap Err c.in-Err-BadSymbol.field-0-is) ∙ c.read_frame.ensures.answered);
  payload_after = c.read_frame.ensures.left;
}

pub returns-in-Err-Refused : goal.returns-in-Err-Refused
returns-in-Err-Refused c = record {
  value = search rules ∙ c.refused-in-Err-Refused.ensures ∙ refused_as c.in-Err-Refused.r
      ∙ ap frame_result (sym (c.in-Err-Refused.is ∙ ap Err c.in-Err-Refused.field-0-is) ∙ c.read_frame.ensures.answered);
  payload_after = c.read_frame.ensures.left;
}
