-- `label_sources`: the interleaver's table, parsed in place, is the table of label sources.
use Rattle.std.proofs.Common.{◌≡◌, ◌∙◌, sym, ap, subst, ℕ, ◌<◌, ◌≤◌, T, arith}
use Rattle.std.proofs.Common.{◌++◌, List, length, take, drop, length-take, get_or, get_or-take}
use Rattle.laws.specs.Test.{among}
use Rattle.laws.specs.Filled.{Filled}
use Rattle.laws.proofs.Filling.{fill_at, fill_as, fill_lent_all}
use Rattle.chain.specs.Plan.{axis_counts, encoder_counts}
use Rattle.chain.specs.Interleaver.{source}
use Rattle.chain.proofs.InterleaverLaws.{plan_block}
use Rattle.chain.proofs.Counts.{axis_known, encoders_not_one}
use Rattle.sources.specs.Sources.{coded_slot, label_source, ParseAsked}
use Rattle.sources.proofs.SourceLaws.{small, source_small, parsed_table, three_left}
use Rattle.sources.proofs.sources.label_sources.Goals as goal
use Rattle.sources.proofs.sources.label_sources.Goals.{After-axis_bits}

pub sources_at-requires : goal.sources_at-requires
sources_at-requires c = let p = c.requires in record {
  known_width = p.fits.width;
  known_bits = p.fits.bits;
  room = omega (arith, plan_block c.args.plan p.fits);
}

module _ (c : After-axis_bits) where
  -- an axis has one bit, two or three
  axis : T (among axis_counts c.axis_bits.result)
  axis = subst (λ (s : ℕ). T (among axis_counts s)) (sym c.axis_bits.ensures) (axis_known c.args.plan.bits c.requires.fits.bits)

  three : (c.axis_bits.result ≡ 1 → ⊥) → (c.axis_bits.result ≡ 2 → ⊥) → c.axis_bits.result ≡ 3
  three = three_left _ axis

  -- there are one encoder or two
  two : (c.args.plan.encoders ≡ 1 → ⊥) → c.args.plan.encoders ≡ 2
  two = encoders_not_one _ c.requires.fits.encoders

  -- the part of the table that is parsed is a block
  lent : length (take c.args.plan.block c.sources_at.new.table) ≡ c.args.plan.block
  lent = simp length-take (omega (arith, c.sources_at.ensures.same, c.requires.room))

  -- what the parser is given, of any axis and number of encoders
  asked : (s e : ℕ) → T (among axis_counts s) → T (among encoder_counts e)
      → ParseAsked (take c.args.plan.block c.sources_at.new.table) s c.args.plan.streams e
  asked s e hs he =
      let p = c.args.plan in
      let f = c.requires.fits in
      let t = c.sources_at.ensures in
      record {
        axis = hs;
        few_streams = (small p f).streams;
        one_or_two = he;
        few = omega (arith, lent, (small p f).block);
        inside = λ r h.
            let few : r < p.block = omega (arith, lent) in
            let at = fill_at 0 (λ k. source p.width p.bits 0 k) t r (omega (arith, plan_block p f)) in
            rw (get_or-take p.block c.sources_at.new.table r 0 few, at) (source_small p f r few);
      }

  -- what it leaves
  tabled : {s e : ℕ} {d : List ℕ} → c.axis_bits.result ≡ s → c.args.plan.encoders ≡ e
      → (let block = take c.args.plan.block c.sources_at.new.table in
      Filled 0 0 (λ r. coded_slot s c.args.plan.streams e 0 (get_or block r 0)) (length block) block d)
      → Filled 0 0 (λ r. label_source c.args.plan r) c.args.plan.block c.args.table.now (d ++ drop c.args.plan.block c.sources_at.new.table)
  tabled {s} {e} bits encoders parsed =
      let t = c.sources_at.new.table in
      let room : c.args.plan.block ≤ length t = omega (arith, c.sources_at.ensures.same, c.requires.room) in
      let whole = fill_lent_all 0 0 _ _ c.args.plan.block t (omega arith) (omega arith) parsed in
      parsed_table c.args.plan c.requires.fits (sym c.axis_bits.ensures ∙ bits) encoders c.sources_at.ensures
      (fill_as 0 0 _ (λ r. coded_slot s c.args.plan.streams e 0 (get_or t r 0)) _ _ _
      (λ r h. ap (coded_slot s c.args.plan.streams e 0) (get_or-take c.args.plan.block t r 0 h)) whole)

pub parse-requires : goal.parse-requires
parse-requires c = asked (goal.at.parse-requires c).After-axis_bits _ _ tt tt

pub parse-requires-in-2-eq1 : goal.parse-requires-in-2-eq1
parse-requires-in-2-eq1 c = asked (goal.at.parse-requires-in-2-eq1 c).After-axis_bits _ _ tt tt

pub parse-requires-in_default-eq1 : goal.parse-requires-in_default-eq1
parse-requires-in_default-eq1 c = asked (goal.at.parse-requires-in_default-eq1 c).After-axis_bits _ _ tt tt

pub parse-requires-in-1-default : goal.parse-requires-in-1-default
parse-requires-in-1-default c = asked (goal.at.parse-requires-in-1-default c).After-axis_bits _ _ tt tt

pub parse-requires-in-2-default : goal.parse-requires-in-2-default
parse-requires-in-2-default c = asked (goal.at.parse-requires-in-2-default c).After-axis_bits _ _ tt tt

pub parse-requires-in_default : goal.parse-requires-in_default
parse-requires-in_default c = asked (goal.at.parse-requires-in_default c).After-axis_bits _ _ tt tt

pub returns-in-1-eq1 : goal.returns-in-1-eq1
returns-in-1-eq1 c = let w = (goal.at.returns-in-1-eq1 c).After-axis_bits in
    tabled w c.in-1-eq1.is-0 c.in-1-eq1.is-1 c.parse.ensures

pub returns-in-2-eq1 : goal.returns-in-2-eq1
returns-in-2-eq1 c = let w = (goal.at.returns-in-2-eq1 c).After-axis_bits in
    tabled w c.in-2-eq1.is-0 c.in-2-eq1.is-1 c.parse-in-2-eq1.ensures

pub returns-in_default-eq1 : goal.returns-in_default-eq1
returns-in_default-eq1 c = let w = (goal.at.returns-in_default-eq1 c).After-axis_bits in
    tabled w (three w c.in_default-eq1.is-0.0.1 c.in_default-eq1.is-0.1) c.in_default-eq1.is-1 c.parse-in_default-eq1.ensures

pub returns-in-1-default : goal.returns-in-1-default
returns-in-1-default c = let w = (goal.at.returns-in-1-default c).After-axis_bits in
    tabled w c.in-1-default.is-0 (two w c.in-1-default.is-1.1) c.parse-in-1-default.ensures

pub returns-in-2-default : goal.returns-in-2-default
returns-in-2-default c = let w = (goal.at.returns-in-2-default c).After-axis_bits in
    tabled w c.in-2-default.is-0 (two w c.in-2-default.is-1.1) c.parse-in-2-default.ensures

pub returns-in_default : goal.returns-in_default
returns-in_default c = let w = (goal.at.returns-in_default c).After-axis_bits in
    tabled w (three w c.in_default.is-0.0.1 c.in_default.is-0.1) (two w c.in_default.is-1.1) c.parse-in_default.ensures
