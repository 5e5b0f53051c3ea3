-- The answer by the count.
use Rattle.std.proofs.Common.{sym, ◌∙◌}
use Rattle.settings.specs.Settings.{check_of}
use Rattle.listing.proofs.RowLaws.{count_small, six_bytes, row_accepted, row_refused}
use Rattle.listing.proofs.rows.answered_row.Goals as goal

pub accepted_row-requires : goal.accepted_row-requires
accepted_row-requires c = (
  c.inputs_row-inputs.ensures.1,
  (
    count_small c.raw_for-raw.result _ (sym c.in-Ok.is ∙ c.symbol_count.ensures),
    six_bytes (check_of c.raw_for-raw.result) _ c.sig_bytes-sig.ensures,
  ),
)

pub returns-in-Err : goal.returns-in-Err
returns-in-Err c = row_refused _ _ _ _ _ _ c.raw_for-raw.result c.inputs_row-inputs.ensures.0 c.raw_for-raw.ensures
    _ (sym c.in-Err.is ∙ c.symbol_count.ensures) c.refused_row.ensures

pub returns-in-Ok : goal.returns-in-Ok
returns-in-Ok c = row_accepted _ _ _ _ _ _ c.raw_for-raw.result c.inputs_row-inputs.ensures.0 c.raw_for-raw.ensures
    _ _ (sym c.in-Ok.is ∙ c.symbol_count.ensures) c.sig_bytes-sig.ensures c.accepted_row.ensures
