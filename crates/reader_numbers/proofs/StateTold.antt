-- The number of a state tells its fields: the term of specs/Statements. Assumes nothing.
use native.Mathlib.Omega.{arith}
use Rattle.sig_words.proofs.WordLaws.{one_small}
use Rattle.reader_numbers.specs.Numbers.{state_number}
use Rattle.reader_numbers.specs.Statements.{StateTold}

pub state_told : StateTold
unfolding state_number
state_told st (symbol, (first, (second, (scrambler, part)))) =
    let ended = one_small st.ended in
    record {
      symbol = omega arith;
      first_history = omega arith;
      second_history = omega arith;
      scrambler = omega arith;
      part = omega arith;
      ended = omega arith;
    }
