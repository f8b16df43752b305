use Rattle.reg_notify.proofs.MarkedTexts.{slot-step, slot-whole}
use Rattle.reg_notify.proofs.marks.slot_of.Goals as goal

pub loop-byte-preserved : goal.loop-byte-preserved
loop-byte-preserved c = record {
  slot = slot-step c.args.text.now c.loop-byte.byte-index c.loop-byte.slot c.slot_past-slot.result _ c.loop-byte-test.true
      c.loop-byte.invariant.slot c.slot_past-slot.ensures.slot;
  below = c.slot_past-slot.ensures.below;
}

pub returns-clause-slot : goal.returns-clause-slot
returns-clause-slot c = slot-whole c.args.text.now c.loop-byte.byte-index c.loop-byte.slot _ c.loop-byte-test.false c.loop-byte.invariant.slot
