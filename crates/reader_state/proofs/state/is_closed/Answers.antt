-- `is_closed` makes the definition's tests one after the other.
use Rattle.std.proofs.Common.{◌≡◌, subst, true, false, ◌||◌, ℕ, leb, leb-false}
use Rattle.laws.proofs.Reflect.{or_false}
use Rattle.symbols.specs.Symbols.{symbols_of}
use Rattle.reader_state.proofs.StateLaws.{closed_past, closed_by, symbol_few}
use Rattle.reader_state.proofs.state.is_closed.Goals.{Else-past}
use Rattle.reader_state.proofs.state.is_closed.Goals as goal

going : (c : Else-past) → (c.args.reader.ended || leb (symbols_of c.args.s) c.args.reader.symbol) ≡ false
going c = subst (λ (k : ℕ). (c.args.reader.ended || leb k c.args.reader.symbol) ≡ false) c.symbols_of.ensures c.if-past.false

pub returns-then-past : goal.returns-then-past
returns-then-past c = closed_past c.args.s c.args.reader
    (subst (λ (k : ℕ). (c.args.reader.ended || leb k c.args.reader.symbol) ≡ true) c.symbols_of.ensures c.if-past.true)

pub bad_part-requires : goal.bad_part-requires
bad_part-requires c =
    let within = (or_false c.args.reader.ended (leb (symbols_of c.args.s) c.args.reader.symbol)
    (going (goal.at.bad_part-requires c).Else-past)).1 in
    (c.requires, symbol_few c.args.s c.requires _ (leb-false _ _ within))

pub returns : goal.returns
returns c = closed_by c.args.s c.args.reader _ _ _ (going (goal.at.returns c).Else-past)
    c.bad_histories.ensures c.bad_scrambler.ensures c.bad_part.ensures
