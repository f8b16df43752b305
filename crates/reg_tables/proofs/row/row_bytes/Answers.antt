use Rattle.std.proofs.Common.{◌≢◌, ◌∙◌}
use Rattle.csv.specs.declared.writer.QuoteStyle.TheVariants as style
use Rattle.reg_tables.specs.Tables.{line_text}
use Rattle.reg_tables.proofs.row.row_bytes.Goals as goal

pub returns-in-Ok : goal.returns-in-Ok
unfolding line_text
returns-in-Ok c =
    let from = c.from_writer-writer.ensures in
    let plain : c.from_writer-writer.result.cfg.style ≢ style.NonNumeric = rw (from.cfg, c.new.ensures) (λ e. cc e) in
    let h = c.in_ok-write_fields.ensures.bytes from.fields from.wrote plain in
    let text = rw (from.cfg, c.new.ensures, from.wtr, c.new-2.ensures.items, from.empty) at h in
    c.in-Ok.ensures.ok ∙ text
