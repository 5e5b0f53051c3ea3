-- The line that `coder_inputs` filled is one of bits, and the coded bits are as long as they were.
use Rattle.std.proofs.Common.{rules, sym, length-take-le}
use Rattle.laws.proofs.Filling.{fill_small}
use Rattle.chain.proofs.InputLaws.{input_bit, line_bit}
use Rattle.published.proofs.main.Goals as goal

pub coded_bits-requires : goal.coded_bits-requires
coded_bits-requires c =
    record {
      one_or_two = tt;
      rate = tt;
      room = search rules;
      fits = search rules;
      inputs = search rules;
      near = search rules;
      bits = fill_small c.coder_inputs.ensures (λ e. line_bit _ (λ d. input_bit _ _ _ _ d) _ _);
    }

pub slice_bounds-print_bits-end-3 : goal.slice_bounds-print_bits-end-3
slice_bounds-print_bits-end-3 c = sym (length-take-le 192 c.coded_bits.new.coded (search rules))
