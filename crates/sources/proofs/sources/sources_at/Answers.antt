-- `sources_at` takes the numbers that the width and B have.
use Rattle.chain.specs.Parser.{axis_bits}
use Rattle.chain.specs.Interleaver.{columns, rows}
use Rattle.chain.proofs.Counts.{width_other, bits_other}
use Rattle.sources.proofs.SourceLaws.{laid_is, laid_filled}
use Rattle.sources.proofs.sources.sources_at.Goals as goal

pub returns-in-40-eq1 : goal.returns-in-40-eq1
unfolding columns rows axis_bits
returns-in-40-eq1 c = laid_filled (laid_is 40 1 tt tt c.in-40-eq1.is-0 c.in-40-eq1.is-1) c.stream_sources.ensures

pub returns-in-40-eq2 : goal.returns-in-40-eq2
unfolding columns rows axis_bits
returns-in-40-eq2 c = laid_filled (laid_is 40 2 tt tt c.in-40-eq2.is-0 c.in-40-eq2.is-1) c.stream_sources-in-40-eq2.ensures

pub returns-in-40-eq4 : goal.returns-in-40-eq4
unfolding columns rows axis_bits
returns-in-40-eq4 c = laid_filled (laid_is 40 4 tt tt c.in-40-eq4.is-0 c.in-40-eq4.is-1) c.stream_sources-in-40-eq4.ensures

pub returns-in-40-default : goal.returns-in-40-default
unfolding columns rows axis_bits
returns-in-40-default c = let n = c.in-40-default.is-1 in
    laid_filled (laid_is 40 6 tt tt c.in-40-default.is-0 (bits_other _ c.requires.known_bits n.0.0.1 n.0.1 n.1))
    c.stream_sources-in-40-default.ensures

pub returns-in_default-eq1 : goal.returns-in_default-eq1
unfolding columns rows axis_bits
returns-in_default-eq1 c =
    laid_filled (laid_is 20 1 tt tt (width_other _ c.requires.known_width c.in_default-eq1.is-0.1) c.in_default-eq1.is-1)
    c.stream_sources-in_default-eq1.ensures

pub returns-in_default-eq2 : goal.returns-in_default-eq2
unfolding columns rows axis_bits
returns-in_default-eq2 c =
    laid_filled (laid_is 20 2 tt tt (width_other _ c.requires.known_width c.in_default-eq2.is-0.1) c.in_default-eq2.is-1)
    c.stream_sources-in_default-eq2.ensures

pub returns-in_default-eq4 : goal.returns-in_default-eq4
unfolding columns rows axis_bits
returns-in_default-eq4 c =
    laid_filled (laid_is 20 4 tt tt (width_other _ c.requires.known_width c.in_default-eq4.is-0.1) c.in_default-eq4.is-1)
    c.stream_sources-in_default-eq4.ensures

pub returns-in_default : goal.returns-in_default
unfolding columns rows axis_bits
returns-in_default c =
    let n = c.in_default.is-1 in
    let b = bits_other _ c.requires.known_bits n.0.0.1 n.0.1 n.1 in
    laid_filled (laid_is 20 6 tt tt (width_other _ c.requires.known_width c.in_default.is-0.1) b)
    c.stream_sources-in_default.ensures
