use Rattle.std.proofs.Common.{◌∙◌}
use Rattle.reg_tree_text.proofs.SentTexts.{swapped, stops_full, exits}
use Rattle.reg_tables.specs.Timelines.{timed}
use Rattle.reg_tables.proofs.TimelineTexts.{cells_told}
use Rattle.reg_tables.proofs.timeline.put_cells.Goals as goal

pub returns-in_err-time : goal.returns-in_err-time
returns-in_err-time g c = λ begin whole left s. exits _ _ _ _ c.from_residual.ensures.1 (stops_full begin _ whole _ _ _ s)

pub returns : goal.returns
returns g c =
    λ begin whole left s.
    c.put_row.ensures begin whole left
    (swapped begin _ whole _ _ left _ _ s
    (cells_told c.args.name.now (timed c.args.key.now) _ _ _ (c.as_bytes.ensures.value ∙ c.in_ok-time.ensures) c.as_bytes-2.ensures.value c.deref.ensures.value))
