use Rattle.std.proofs.Common.{List, ℕ, ap, sym, ◌∙◌, ◌++◌}
use Rattle.reg_tables.proofs.TimelineTexts.{field_whole, field_parting}
use Rattle.reg_tables.proofs.timeline.push_byte.Goals as goal

pub returns-then-not-is_parting : goal.returns-then-not-is_parting
returns-then-not-is_parting c =
    c.in_ok-push.ensures.items
    ∙ ap (λ (w : List ℕ). c.args.bytes.now.items ++ w) (sym (field_whole c.args.byte (sym c.is_parting.ensures ∙ c.if-not-is_parting.true)))

pub returns : goal.returns
returns c =
    c.in_ok-extend_from_slice.ensures.items
    ∙ ap (λ (w : List ℕ). c.args.bytes.now.items ++ w)
    (field_parting c.args.byte (sym c.is_parting.ensures ∙ c.if-not-is_parting.false) _ _ c.digit.ensures c.digit-2.ensures)
