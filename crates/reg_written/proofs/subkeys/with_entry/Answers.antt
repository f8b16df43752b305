use Rattle.std.proofs.Common.{◌∙◌, sym, false, true}
use Rattle.reg_arena.specs.Cells.{cell_at}
use Rattle.reg_written.specs.Internal.ShownSiblings.{shown}
use Rattle.reg_written.proofs.EntriesRead.{no-fault, one-is}
use Rattle.reg_written.proofs.subkeys.with_entry.Goals as goal

pub returns-in_default : goal.returns-in_default
returns-in_default c =
    absurd (no-fault (cell_at c.args.bins.now) c.args.entry.offset c.content.result.now c.in_default.field-0 c.requires c.content.ensures c.in_default.ensures)

pub returns-then-not-is_next : goal.returns-then-not-is_next
returns-then-not-is_next c =
    sym (one-is (cell_at c.args.bins.now) c.args.parent c.args.fields.now (shown c.args.before) c.args.entry c.content.result.now _ c.requires c.content.ensures c.in-Ok.ensures false
    (sym c.is_next.ensures ∙ c.if-not-is_next.true))

pub returns : goal.returns
returns c =
    sym (one-is (cell_at c.args.bins.now) c.args.parent c.args.fields.now (shown c.args.before) c.args.entry c.content.result.now _ c.requires c.content.ensures c.in-Ok.ensures true
    (sym c.is_next.ensures ∙ c.if-not-is_next.false))
