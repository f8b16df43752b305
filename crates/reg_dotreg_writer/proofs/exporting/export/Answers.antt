use Rattle.std.proofs.Common.{sym, ◌∙◌}
use Rattle.std.specs.Prelude.{option_copied}
use Rattle.reg_dotreg_writer.proofs.ShownRoots.{root-good, is-exported, is-cut_off}
use Rattle.reg_dotreg_writer.proofs.exporting.export.Goals as goal

pub unwritable_at-requires-clause-root : goal.unwritable_at-requires-clause-root
unwritable_at-requires-clause-root g c =
    (root-good (option_copied c.args.front) c.args.tree.now.tree c.root-node.ensures.tree c.root-node.ensures.limits
    (sym c.can_stand.ensures ∙ c.if-not-can_stand.false) c.root_of-root.result.now c.root_of-root.ensures).some

pub write_file-requires-clause-root : goal.write_file-requires-clause-root
write_file-requires-clause-root g c =
    (root-good (option_copied c.args.front) c.args.tree.now.tree c.root-node.ensures.tree c.root-node.ensures.limits
    (sym c.can_stand.ensures ∙ c.if-not-can_stand.false) c.root_of-root.result.now c.root_of-root.ensures).some

pub write_file-requires-clause-allowed : goal.write_file-requires-clause-allowed
write_file-requires-clause-allowed g c =
    (root-good (option_copied c.args.front) c.args.tree.now.tree c.root-node.ensures.tree c.root-node.ensures.limits
    (sym c.can_stand.ensures ∙ c.if-not-can_stand.false) c.root_of-root.result.now c.root_of-root.ensures).allowed

pub returns-in-Ok-clause-ok : goal.returns-in-Ok-clause-ok
returns-in-Ok-clause-ok g c =
    is-exported c.args.tree.now c.args.path.now (option_copied c.args.front) c.in-Some.node c.root_of-root.result.now c.args.is_utf8 _ _
    (sym c.can_stand.ensures ∙ c.if-not-can_stand.false) c.in-Some.ensures c.root_of-root.ensures
    (rw c.in-Ok-None.field-0-is at c.in-Ok-None.ensures) c.in-Ok.ensures.ok

pub returns-in-Err-write_file-clause-err : goal.returns-in-Err-write_file-clause-err
returns-in-Err-write_file-clause-err g c =
    is-cut_off c.args.tree.now c.args.path.now (option_copied c.args.front) c.in-Some.node c.root_of-root.result.now c.args.is_utf8 _ _
    (sym c.can_stand.ensures ∙ c.if-not-can_stand.false) c.in-Some.ensures c.root_of-root.ensures _
    (rw c.in-Ok-None.field-0-is at c.in-Ok-None.ensures) c.in-Err-write_file.ensures.err
