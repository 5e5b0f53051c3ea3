-- `place_call` goes by whether the number is a state's.
use Rattle.reader_numbers.specs.Numbers.{PlaceRight}
use Rattle.std.proofs.Common.{◌∙◌, sym, subst, rules}
use Rattle.reader_calls.proofs.CallLaws.{place_none, place_some, place_right}
use Rattle.reader_calls.proofs.place_call.Goals as goal

pub returns-then-no_state : goal.returns-then-no_state
returns-then-no_state c = search rules ∙ c.refused.ensures
    ∙ place_none c.args.settings c.args.state c.args.points.now c.if-no_state.true-raw

pub place_number-requires : goal.place_number-requires
place_number-requires c = subst PlaceRight (sym c.place.ensures) (place_right c.reader_of.result c.args.points.now)

pub returns : goal.returns
returns c = search rules ∙ c.place_number.ensures
    ∙ place_some c.args.settings c.args.state c.args.points.now c.reader_of.result c.place.result c.if-no_state.false-raw
    c.reader_of.ensures c.place.ensures
