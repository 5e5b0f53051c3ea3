-- `step_call` goes by whether the number is a state's.
use Rattle.std.proofs.Common.{ℕ, ◌+◌, ◌*◌, ◌∙◌, ap, arith, pos, w64}
use mir.Facts.{to_z_pos}
use Rattle.reader_calls.proofs.CallLaws.{step_none, step_some, step_held}
use Rattle.reader_calls.proofs.step_call.Goals as goal

pub returns-then-no_state : goal.returns-then-no_state
returns-then-no_state c = let w = step_none c.args.settings c.args.state c.args.points.now c.args.payload.now c.if-no_state.true-raw in
    record {
      value = rw c.number.ensures (to_z_pos w64 {n = 12 + 4096 * c.closed_number.result} (omega (arith, c.closed_number.ensures.1))
          ∙ ap (λ (k : ℕ). pos (12 + 4096 * k)) c.closed_number.ensures.0 ∙ ap pos w.0);
      payload_after = w.1;
    }

pub stepped_number-requires : goal.stepped_number-requires
stepped_number-requires c = step_held c.args.settings c.args.state c.args.points.now c.reader_of.result c.step-stepped.result _
    c.reader_of.ensures c.step-stepped.ensures.value

pub returns : goal.returns
returns c = let w = step_some c.args.settings c.args.state c.args.points.now c.args.payload.now _ c.reader_of.result c.step-stepped.result
    c.stepped_number.result c.if-no_state.false-raw
    c.reader_of.ensures c.step-stepped.ensures.value c.step-stepped.ensures.payload_after c.stepped_number.ensures.0 in
    record {
      value = to_z_pos w64 {n = c.stepped_number.result} (omega (arith, c.stepped_number.ensures.1)) ∙ ap pos w.0;
      payload_after = w.1;
    }
