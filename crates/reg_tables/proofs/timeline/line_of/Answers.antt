use Rattle.reg_tables.specs.Timelines.{timed}
use Rattle.reg_tables.proofs.TimelineTexts.{text_built}
use Rattle.reg_tables.proofs.timeline.line_of.Goals as goal

pub returns : goal.returns
returns c =
    text_built c.args.name.now (timed c.args.key.now) _ _ _ _ _ _ _ c.deref.ensures.value c.in_ok-text.ensures c.in_ok-push_str.ensures.bytes c.in_ok-push_str-2.ensures.bytes c.in_ok-push_str-3.ensures.bytes
    c.in_ok-write_escaped.ensures c.in_ok-push_str-4.ensures.bytes
