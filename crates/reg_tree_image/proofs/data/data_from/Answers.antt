use Rattle.std.proofs.Common.{sym, ◌∙◌}
use Rattle.reg_arena.specs.Cells.{cell_at}
use Rattle.reg_tree_image.specs.Internal.NamedRecords.{data_in}
use Rattle.reg_tree_image.proofs.Readers.DataForms.{inline-follows, big-follows}
use Rattle.reg_tree_image.proofs.data.data_from.Goals as goal

pub returns-then-size-ge-INLINE-clause-follows :
    goal.returns-then-size-ge-INLINE-clause-follows
returns-then-size-ge-INLINE-clause-follows c path =
    inline-follows _ c.args.minor path c.args.size c.args.offset data_in _ _ c.if-size-ge-INLINE.true
    (c.inline_data.ensures.gives (cell_at c.args.bins.now) c.args.minor path)

pub returns-clause-follows : goal.returns-clause-follows
returns-clause-follows c path =
    big-follows _ c.args.minor path c.args.size c.args.offset
    data_in _ _ _ c.if-size-ge-INLINE.false c.if-size-gt-DATA_LIMIT.false
    (sym c.if-is_single.false ∙ c.is_single.ensures) (c.big_data.ensures.follows path)
