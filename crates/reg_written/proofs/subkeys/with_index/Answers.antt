use Rattle.std.proofs.Common.{◌∙◌, sym}
use Rattle.reg_arena.specs.Cells.{cell_at}
use Rattle.reg_written.specs.Internal.ShownSiblings.{shown}
use Rattle.reg_written.proofs.EntriesRead.{root-taken}
use Rattle.reg_written.proofs.subkeys.with_index.Goals as goal

pub returns-else-head-lt2 : goal.returns-else-head-lt2
returns-else-head-lt2 c =
    c.with_lists.ensures
    ∙ sym (root-taken (cell_at c.args.bins.now) c.args.parent c.args.fields.now (shown c.args.before) c.args.list.now c.in-Ok.head.form c.in-Ok.head.count c.in-Ok.ensures.read
    c.in-IndexRoot.is c.if-head-lt2.false)
