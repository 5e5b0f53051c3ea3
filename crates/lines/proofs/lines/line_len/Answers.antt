-- The bytes that `line_len` counts are the stretch in the line.
use Rattle.std.proofs.Common.{◌≡◌, ◌∙◌, ap, refl, eqb, length, arith, rules, tests}
use Rattle.std.specs.List.{position}
use Rattle.std.specs.Option.{unwrap_or}
use Rattle.std.proofs.lemmas.Iterator.{YieldsList-from_slice}
use Rattle.std.proofs.lemmas.Iterator.Search.{position_from_yields_List}
use Rattle.laws.specs.Stretch.{stretch}
use Rattle.laws.proofs.Stretches.{stretch_position, stretch_within}
use Rattle.lines.specs.Lines.{is_in_line}
use Rattle.lines.proofs.lines.line_len.Goals as goal

pub returns : goal.returns
returns c =
    let text = c.args.text.now in
    let found : c.position.result ≡ position (λ b. eqb b 10) text =
    position_from_yields_List _ _ _ _ c.position.ensures.ran (YieldsList-from_slice text cc) (λ x b q k. search (rules, tests)) in
    let all : c.unwrap_or.result ≡ stretch is_in_line text =
    c.unwrap_or.ensures ∙ ap (λ o. unwrap_or o (length text)) found ∙ stretch_position _ is_in_line (λ b. refl) text in
    (all, omega (arith, all, stretch_within is_in_line text))
