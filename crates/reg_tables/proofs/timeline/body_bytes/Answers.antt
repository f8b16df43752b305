use Rattle.std.proofs.Common.{ap, ◌∙◌}
use Rattle.std.specs.Fmt.{decimal}
use Rattle.reg_tables.specs.Timelines.{timed}
use Rattle.reg_tables.proofs.TimelineTexts.{body_built}
use Rattle.reg_tables.proofs.timeline.body_bytes.Goals as goal

pub returns : goal.returns
returns c =
    body_built c.args.name.now (timed c.args.key.now) _ _ _ _ _ _ _ _ _ _ c.deref.ensures.value (c.as_bytes.ensures.value ∙ (c.in_ok-seconds.ensures ∙ ap decimal c.seconds_of.ensures))
    c.new-bytes.ensures.items c.in_ok-extend_from_slice.ensures.items c.in_ok-push_field.ensures c.in_ok-push.ensures.items c.in_ok-push_field-2.ensures
    c.in_ok-extend_from_slice-2.ensures.items c.in_ok-extend_from_slice-3.ensures.items c.in_ok-extend_from_slice-4.ensures.items
