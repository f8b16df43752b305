use Rattle.std.proofs.Common.{inl}
use Rattle.reg_dotreg_writer.proofs.FileChanges.{all-writable}
use Rattle.reg_dotreg_writer.proofs.changing.export_changes.Goals as goal

pub returns-in-Ok-clause-ok : goal.returns-in-Ok-clause-ok
returns-in-Ok-clause-ok g c = record {
  can_write = all-writable c.args.old.now.tree c.args.new.now.tree (rw c.in-Ok-None.field-0-is at c.in-Ok-None.ensures);
  written = c.in-Ok.ensures.ok;
  none = c.in-Ok.ensures.none;
}

pub returns-in-Err-write_changes-clause-err : goal.returns-in-Err-write_changes-clause-err
returns-in-Err-write_changes-clause-err g c = (
  inl (all-writable c.args.old.now.tree c.args.new.now.tree (rw c.in-Ok-None.field-0-is at c.in-Ok-None.ensures)),
  c.in-Err-write_changes.ensures.err,
)
