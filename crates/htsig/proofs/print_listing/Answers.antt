-- `print_listing` writes the header first, and then what the listing has after it.
use Rattle.std.proofs.Common.{rules, true, false, refl}
use Rattle.std.proofs.lemmas.Result.{on_ok_weaker}
use Rattle.htsig.proofs.Writing.{listing_written}
use Rattle.htsig.proofs.print_listing.Goals as goal

pub returns-then-too_long : goal.returns-then-too_long
returns-then-too_long g c =
    on_ok_weaker c.write_all-then-too_long.result
    (λ written. listing_written _ _ _ _ _ c.args.input.now true (search rules) c.header.ensures c.too_long_text.ensures
    c.in_ok-write_all.ensures.bytes written)
    c.write_all-then-too_long.ensures.bytes

pub returns : goal.returns
returns g c =
    on_ok_weaker c.print_lines.result
    (λ written. listing_written _ _ _ _ _ c.args.input.now false (search rules) c.header.ensures refl c.in_ok-write_all.ensures.bytes
    written)
    c.print_lines.ensures
