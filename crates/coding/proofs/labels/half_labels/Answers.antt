-- `half_labels`: the line of inputs, its coded bits and their half labels, one from the other.
use Rattle.std.proofs.Common.{◌+◌, ◌*◌, ◌≤◌, ◌++◌, ℕ, length, length-take, drop, replicate, arith, rules}
use Rattle.laws.specs.Filled.{Filled}
use Rattle.laws.proofs.Filling.{fill_lent_all, fill_small}
use Rattle.chain.specs.DataBits.{payload_bit, coder_input}
use Rattle.chain.specs.Encoder.{with_history}
use Rattle.chain.proofs.InputLaws.{input_bit, line_bit}
use Rattle.coding.proofs.CallLaws.{sizes, halves_are}
use Rattle.coding.proofs.labels.half_labels.Goals.{After-coder_inputs}
use Rattle.coding.proofs.labels.half_labels.Goals as goal

-- the line has the symbol's inputs
inputs : (c : After-coder_inputs) → let p = c.args.plan in
    let payload = c.args.payload.now in
    let x = coder_input (payload_bit payload) (length payload) p.encoders c.args.seed in
    Filled 0 0 (λ j. with_history x p.encoders (c.args.n * p.dbps + j))
    (p.dbps + 6 * p.encoders) (replicate 2172 0) (c.coder_inputs.new.line ++ drop (p.dbps + 6 * p.encoders) (replicate 2172 0))
inputs c =
    let z = sizes _ _ c.requires.fits c.requires.near in
    let few : c.args.plan.dbps + 6 * c.args.plan.encoders ≤ 2172 = omega (arith, z) in
    fill_lent_all 0 0 _ _ _ (replicate 2172 0) (omega arith) (omega arith) c.coder_inputs.ensures

pub overflow_add-inputs : goal.overflow_add-inputs
overflow_add-inputs c = omega (arith, sizes _ _ c.requires.fits c.requires.near)

pub slice_bounds-line-end : goal.slice_bounds-line-end
slice_bounds-line-end c = omega (arith, sizes _ _ c.requires.fits c.requires.near)

pub slice_bounds-coder_inputs-end : goal.slice_bounds-coder_inputs-end
slice_bounds-coder_inputs-end c =
    let all = length-take (c.args.plan.dbps + 6 * c.args.plan.encoders) (replicate {A = ℕ} 2172 0) in
    omega (arith, sizes _ _ c.requires.fits c.requires.near, all)

pub coder_inputs-requires : goal.coder_inputs-requires
coder_inputs-requires c = let q = c.requires in
    let z = sizes _ _ q.fits q.near in
    let all = length-take (c.args.plan.dbps + 6 * c.args.plan.encoders) (replicate {A = ℕ} 2172 0) in
    record {
      short = q.short;
      one_or_two = q.fits.encoders;
      seeded = q.seeded;
      near = z.first;
      some = omega (arith, z, all);
      few = omega (arith, z, all);
    }

pub coded_bits-requires : goal.coded_bits-requires
coded_bits-requires c = let q = c.requires in
    let z = sizes _ _ q.fits q.near in
    let g = c.groups_of.ensures in
    let line = inputs (goal.at.coded_bits-requires c).After-coder_inputs in
    rw g (record {
      one_or_two = q.fits.encoders;
      rate = q.fits.kept;
      room = search rules;
      fits = omega (arith, z);
      inputs = omega (arith, z, line.same);
      near = omega (arith, z);
      bits = λ e l. fill_small line (λ k. line_bit _ (λ d. input_bit _ _ _ _ d) _ _) e (omega (arith, z));
    })

pub returns : goal.returns
returns c = let q = c.requires in
    halves_are _ q.fits _ _ (inputs (goal.at.returns c).After-coder_inputs) (rw c.groups_of.ensures at c.coded_bits.ensures)
    c.symbol_halves.ensures
