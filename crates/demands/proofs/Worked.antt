-- P1 to P12 hold, by one computed test. Assumes nothing.
use Rattle.laws.specs.Claim.{table, Holds, sound}
use Rattle.chain.specs.Plan.{plan_of}
use Rattle.chain.specs.Scrambler.{state_at}
use Rattle.chain.specs.Encoder.{tap}
use Rattle.chain.specs.Puncture.{kept_of}
use Rattle.chain.specs.Parser.{axis_bits}
use Rattle.chain.specs.Interleaver.{columns, rows, rotation, block_of, by_columns, alternated, shift_of, rotated, place}
use Rattle.settings.specs.Settings.{plan_for}
use Rattle.symbols.specs.Symbols.{symbols_of}
use Rattle.pilots.specs.Pilots.{pattern_of, polarity_bit, pilot_sign}
use Rattle.demands.specs.Worked.{checked_by_hand}

pub checked_by_hand_lem : Holds (table checked_by_hand)
unfolding symbols_of plan_for plan_of state_at tap kept_of place by_columns alternated rotated columns rows rotation shift_of block_of axis_bits pilot_sign pattern_of polarity_bit
checked_by_hand_lem = sound (table checked_by_hand) tt
