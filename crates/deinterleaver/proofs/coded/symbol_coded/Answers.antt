-- `symbol_coded` places the label bits stream by stream.
use Rattle.deinterleaver.proofs.PlaceLaws.{placed_more}
use Rattle.deinterleaver.proofs.coded.symbol_coded.Goals as goal

pub loop-i-preserved : goal.loop-i-preserved
loop-i-preserved c = placed_more _ c.requires.fits _ _ _ _ _ c.loop-i-test.true c.loop-i.invariant c.stream_coded.ensures
