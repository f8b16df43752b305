use Rattle.std.proofs.Common.{refl}
use Rattle.reg_records.proofs.SubkeyListWriting.{none-listed, one-listed, all-written, all-reads}
use Rattle.reg_records.proofs.lists.put_list.Goals as goal

pub loop-index-init : goal.loop-index-init
loop-index-init c = none-listed _ _ c.args.cell c.args.form c.args.entries.now _ refl c.put_head.ensures.written

pub loop-index-preserved : goal.loop-index-preserved
loop-index-preserved c =
    one-listed _ _ _ c.args.cell c.args.form c.args.entries.now c.loop-index.index _
    (record { offset = 0; hint = 0 }) c.loop-index-test.true refl c.loop-index.invariant c.put_entry.ensures.written c.put_entry.ensures.offset
    c.put_entry.ensures.hint

pub returns-clause-written : goal.returns-clause-written
returns-clause-written c = all-written _ _ c.args.cell c.args.form c.args.entries.now c.loop-index.index c.loop-index-test.false c.loop-index.invariant

pub returns-clause-reads : goal.returns-clause-reads
returns-clause-reads c = all-reads _ _ c.args.cell c.args.form c.args.entries.now c.loop-index.index c.loop-index-test.false c.loop-index.invariant c.requires.count
