use Rattle.std.proofs.Common.{refl}
use Rattle.reg_edits.proofs.copying.copy_from.Goals as goal

pub returns-in-Ok-copy-clause-ok : goal.returns-in-Ok-copy-clause-ok
returns-in-Ok-copy-clause-ok g c = record {
  old = c.in-Ok.numbered.tree.tree;
  sequence = c.in-Ok.numbered.sequence;
  reads = c.in-Ok.ensures.ok;
  is_copied = c.in-Ok-copy.ensures.ok;
  saved_at = refl;
  next = c.next_sequence.ensures;
}

pub returns-in-Err-copy-clause-err : goal.returns-in-Err-copy-clause-err
returns-in-Err-copy-clause-err g c = (c.in-Ok.numbered.tree.tree, c.in-Ok.numbered.sequence, c.in-Ok.ensures.ok, c.in-Err-copy.ensures.err)
