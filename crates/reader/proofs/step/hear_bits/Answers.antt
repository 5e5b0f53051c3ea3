-- `hear_bits` goes by whether inputs exist that give the coded bits.
use Rattle.std.proofs.Common.{◌∙◌, refl, sym, arith}
use Rattle.reader.proofs.HearLaws.{inputs_asked, inputs_at, frame_asked, sound_by, after_by, bits_heard, bits_refused}
use Rattle.deinterleaver.specs.Deinterleaved.{label_bit_in}
use Rattle.settings.specs.Settings.{plan_for}
use Rattle.reader.proofs.step.hear_bits.Goals as goal

pub symbol_inputs-decoded-requires : goal.symbol_inputs-decoded-requires
symbol_inputs-decoded-requires c = inputs_asked c.args.s c.args.reader c.plan_of.result c.plan_of.ensures _ _ _ c.requires (omega arith)

pub hear_inputs-requires : goal.hear_inputs-requires
hear_inputs-requires c = frame_asked c.args.s c.args.reader c.plan_of.result c.plan_of.ensures c.args.bits.now _ _
    c.symbol_inputs-decoded.ensures.filled _ c.requires (omega (arith, c.symbol_inputs-decoded.ensures.filled.same))

pub returns-then-sound : goal.returns-then-sound
returns-then-sound c = let told = bits_heard c.args.s c.requires.right c.args.reader (label_bit_in (plan_for c.args.s) c.args.bits.now)
    c.symbol_inputs-decoded.new.inputs
    (inputs_at c.args.s c.args.reader c.plan_of.result c.plan_of.ensures c.args.bits.now _ _ c.symbol_inputs-decoded.ensures.filled)
    _ _ _ _
    (sym (sound_by c.args.s c.args.reader c.plan_of.result c.plan_of.ensures c.args.bits.now
    c.symbol_inputs-decoded.result.sound c.symbol_inputs-decoded.ensures.sound_value) ∙ c.if-sound.true)
    (after_by c.args.s c.args.reader c.plan_of.result c.plan_of.ensures c.args.bits.now c.symbol_inputs-decoded.result.histories
    c.symbol_inputs-decoded.ensures.histories_value) c.hear_inputs.ensures in
    record {
      value = told.0;
      payload_after = told.1;
    }

pub returns : goal.returns
returns c = record {
  value = bits_refused c.args.s c.requires.right c.args.reader (label_bit_in (plan_for c.args.s) c.args.bits.now) _
      (sym (sound_by c.args.s c.args.reader c.plan_of.result c.plan_of.ensures c.args.bits.now c.symbol_inputs-decoded.result.sound
      c.symbol_inputs-decoded.ensures.sound_value) ∙ c.if-sound.false) c.ended.ensures;
  payload_after = refl;
}
