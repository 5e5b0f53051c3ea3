-- `points` goes by the tests of its refusals; where none applies, the symbol is written.
use Rattle.std.proofs.Common.{Ok, ◌≡◌, ◌∙◌, sym, ap, Bool, false, ℕ, ltb, leb, length}
use Rattle.settings.specs.Settings.{check_of}
use Rattle.symbols.specs.Symbols.{symbols_of}
use Rattle.frame.specs.Points.{floats_of}
use Rattle.frame.proofs.PointsLaws.{points_written}
use Rattle.frame.proofs.points.points.Goals as goal

pub returns : goal.returns
returns c =
    let accepted : check_of c.args.raw ≡ Ok c.in-Ok.s = sym c.check-checked.ensures ∙ c.in-Ok.is in
    let past_is : (b : Bool) → leb c.symbols_of.result c.args.symbol ≡ b
    → leb (symbols_of c.in-Ok.s) c.args.symbol ≡ b = λ b e. ap (λ (k : ℕ). leb k c.args.symbol) (sym c.symbols_of.ensures) ∙ e in
    let small_is : (b : Bool) → ltb (length c.args.out.now) c.floats_of-floats.result ≡ b
    → ltb (length c.args.out.now) (floats_of c.in-Ok.s) ≡ b = λ b e. ap (λ (k : ℕ). ltb (length c.args.out.now) k)
    (sym c.floats_of-floats.ensures.0) ∙ e in
    let a = c.args in
    let r =
    points_written c.in-Ok.s a.payload.now a.symbol a.out.now (check_of a.raw) _ (accepted)
    c.if-short.false-raw (past_is false c.if-past.false-raw) (small_is false c.if-small.false-raw) c.write_symbol.ensures in
    record {
      value = ap Ok c.floats_of-floats.ensures.0 ∙ r.0;
      out_after = r.1;
    }
