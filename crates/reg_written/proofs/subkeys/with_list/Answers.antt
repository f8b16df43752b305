use Rattle.std.proofs.Common.{◌∙◌, sym}
use Rattle.reg_arena.specs.Cells.{cell_at}
use Rattle.reg_written.specs.Internal.ShownSiblings.{shown}
use Rattle.reg_written.proofs.EntriesRead.{list-refused, list-taken}
use Rattle.reg_written.proofs.subkeys.with_list.Goals as goal

pub returns-then-not-is_written_list : goal.returns-then-not-is_written_list
returns-then-not-is_written_list c =
    sym (list-refused (cell_at c.args.bins.now) c.args.parent c.args.fields.now (shown c.args.before) c.args.list.now c.in-Ok.head.form c.in-Ok.head.count c.in-Ok.ensures.read
    (sym c.is_written_list.ensures ∙ c.if-not-is_written_list.true))

pub returns : goal.returns
returns c =
    c.with_entries.ensures
    ∙ sym (list-taken (cell_at c.args.bins.now) c.args.parent c.args.fields.now (shown c.args.before) c.args.list.now c.in-Ok.head.form c.in-Ok.head.count c.in-Ok.ensures.read
    (sym c.is_written_list.ensures ∙ c.if-not-is_written_list.false))
