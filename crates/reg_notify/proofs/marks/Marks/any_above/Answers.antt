use Rattle.std.proofs.Common.{◌∙◌}
use Rattle.reg_notify.proofs.MarkedTexts.{any-found, any-step, any-whole}
use Rattle.reg_notify.proofs.marks.Marks.any_above.Goals as goal

pub loop-byte-preserved : goal.loop-byte-preserved
loop-byte-preserved c = record {
  any = any-step c.args.self.now.slots.items c.args.text.now c.loop-byte.byte-index c.loop-byte.slot _ c.loop-byte.invariant.any c.slot_past-slot.result
      c.loop-byte-test.true c.has_before.result c.has_before.ensures c.if-has_before.false c.slot_past-slot.ensures.slot;
  below = c.slot_past-slot.ensures.below;
}

pub returns-then-has_before : goal.returns-then-has_before
returns-then-has_before c =
    any-found c.args.self.now.slots.items c.args.text.now c.loop-byte.byte-index c.loop-byte.slot _ c.loop-byte.invariant.any c.loop-byte-test.true
    c.has_before.result c.has_before.ensures c.if-has_before.true

pub returns : goal.returns
returns c = c.has.ensures ∙
    any-whole c.args.self.now.slots.items c.args.text.now c.loop-byte.byte-index c.loop-byte.slot _ c.loop-byte.invariant.any c.loop-byte-test.false
