-- `sig_crc::crc::crc`: each turn takes one shift of the run.
use Rattle.std.proofs.Common.{◌≡◌, sym, ◌∙◌, ℕ, ◌+◌, ◌/◌, ◌%◌, arith, add-one}
use Rattle.sig_crc.specs.Crc.{crc_run, crc_shift}
use Rattle.sig_crc.proofs.crc.crc.Goals as goal

-- one turn takes one shift of the run
run_step : (n k r w s : ℕ) → n ≡ k + 1 → s ≡ crc_shift r (w % 2) → crc_run k s (w / 2) ≡ crc_run n r w
unfolding crc_run
run_step n k r w s e t = rw (e, t, add-one)

run_done : (n r w : ℕ) → n ≡ 0 → crc_run n r w ≡ r
unfolding crc_run
run_done n r w e = rw e

pub loop-preserved : goal.loop-preserved
loop-preserved c = let l = c.loop in
    (c.crc_shift-r.ensures.1, run_step _ _ _ _ _ (omega arith) c.crc_shift-r.ensures.0 ∙ l.invariant.1)

pub returns : goal.returns
returns c = let l = c.loop in
    (sym (run_done _ l.r l.w (omega arith)) ∙ l.invariant.1, l.invariant.0)
