use Rattle.std.proofs.Common.{◌≡◌, true, length, ◌∙◌, subst, arith}
use Rattle.std.specs.Prelude.{vec_len, slice_set}
use Rattle.reg_notify.specs.Internal.Marks.{slot_of, mark_in}
use Rattle.reg_notify.proofs.MarkedTexts.{set-here, set-kept}
use Rattle.reg_notify.proofs.marks.Marks.set.Goals as goal

pub returns-clause-ok : goal.returns-clause-ok
returns-clause-ok c =
    let ok = c.lengthen.new.slots.ok in
    let long : vec_len c.lengthen.new.slots ≡ length c.lengthen.new.slots.items = ok.0 in
    let room = c.in_ok-lengthen.ensures.ok in
    let below = c.slot_of-slot.ensures.below in
    subst (λ s. mark_in (slice_set c.lengthen.new.slots.items c.slot_of-slot.result true) s ≡ true) c.slot_of-slot.ensures.slot
    (set-here c.lengthen.new.slots.items c.slot_of-slot.result (omega (arith, long, room, below)))

pub returns-clause-kept : goal.returns-clause-kept
returns-clause-kept c = λ other marked.
    let ok = c.lengthen.new.slots.ok in
    let long : vec_len c.lengthen.new.slots ≡ length c.lengthen.new.slots.items = ok.0 in
    let room = c.in_ok-lengthen.ensures.ok in
    let below = c.slot_of-slot.ensures.below in
    set-kept c.lengthen.new.slots.items c.slot_of-slot.result (slot_of other) (omega (arith, long, room, below))
    (c.in_ok-lengthen.ensures.same (slot_of other) ∙ marked)
