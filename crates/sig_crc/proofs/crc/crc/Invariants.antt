-- `sig_crc::crc::crc`: what is left of the run, from the register and the number that are left, is the whole run.
use Rattle.std.proofs.Common.{◌≡◌, ◌-◌, ◌<◌}
use Rattle.sig_crc.specs.Crc.{crc_run}
use Rattle.sig_crc.proofs.crc.crc.Given as goal

abbrev pub invariant-loop : goal.invariant-loop
invariant-loop l = (l.r < 256) × (crc_run (34 - l.counter) l.r l.w ≡ crc_run 34 255 l.head)
