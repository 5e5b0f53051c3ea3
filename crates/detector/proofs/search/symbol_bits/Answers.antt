-- `symbol_bits`: before each place, every point passed is given and its label bits are stored.
use Rattle.std.proofs.Common.{◌∙◌, ℕ, T, arith, sym, subst}
use Rattle.laws.specs.Test.{among}
use Rattle.chain.proofs.Counts.{axis_known}
use Rattle.chain.specs.Plan.{axis_counts}
use Rattle.detector.proofs.SearchLaws.{places_more, rows_more, answer_all, answer_at_lem}
use Rattle.detector.proofs.search.symbol_bits.Goals as goal

pub invariant_of-hearing : goal.invariant_of-hearing
invariant_of-hearing c =
    let s = c.axis_bits-s in
    record {
      fits = c.requires.fits;
      tables = record {
        known = c.requires.fits.bits;
        axis_is = s.ensures;
        tables = record {
          axis = subst (λ (k : ℕ). T (among axis_counts k)) (sym s.ensures) (axis_known c.args.plan.bits c.requires.fits.bits);
          levels_are = c.level_keys-levels.ensures;
          labels_are = c.label_keys-labels.ensures;
        };
      };
      numbered = c.uses_of-uses.ensures;
      near = c.requires.near;
      polar = c.polarity_bit.ensures.1;
    }

pub loop-f-preserved : goal.loop-f-preserved
loop-f-preserved c = (
  c.loop-f.invariant.0,
  λ d rows.
      places_more c.args.plan c.args.points.now c.args.format c.args.n c.requires.fits c.streams.i c.loop-f.f d
      c.loop-f.bits _ (omega (arith, c.loop-f-test.true, c.places_of-places.ensures)) (c.loop-f.invariant.1 d rows)
      c.hear_place.ensures.heard
      (sym (c.hear_place.ensures.given c.args.format c.polarity_bit.ensures.0) ∙ c.if-not-hear_place.false),
)

pub streams-preserved : goal.streams-preserved
streams-preserved c = (
  c.loop-f.invariant.0,
  rows_more c.args.plan c.args.points.now c.args.format c.args.n c.requires.fits c.streams.i c.loop-f.f _ _
      (omega arith) (c.loop-f.invariant.1 c.args.bits.now c.streams.invariant.1),
)

pub returns-after-streams : goal.returns-after-streams
returns-after-streams c =
    let r = answer_all c.args.plan c.args.points.now c.args.format c.args.n c.requires.fits c.streams.i _ _ c.streams-test.false
    c.streams.invariant.1 in
    rw c.streams.invariant.0 (record { value = r.0; bits_shown = r.1 })

pub returns-then-not-hear_place : goal.returns-then-not-hear_place
returns-then-not-hear_place c =
    let r = answer_at_lem c.args.plan c.args.points.now c.args.format c.args.n c.requires.fits c.streams.i c.loop-f.f _ c.loop-f.bits _
    c.streams-test.true (omega (arith, c.loop-f-test.true, c.places_of-places.ensures))
    (c.loop-f.invariant.1 c.args.bits.now c.streams.invariant.1)
    c.hear_place.ensures.heard (sym (c.hear_place.ensures.given c.args.format c.polarity_bit.ensures.0) ∙ c.if-not-hear_place.true) in
    record { value = r.0; bits_shown = r.1 }
