use Rattle.reg_arena.specs.Arena.{heap_of}
use Rattle.reg_heap.specs.Edits.{values_at}
use Rattle.std.proofs.Common.{sym, subst}
use Rattle.reg_heap.specs.Paths.{Path}
use Rattle.reg_values.specs.NewValues.{all_told}
use Rattle.reg_tree.specs.MoreValues.{MayExtend}
use Rattle.reg_tree_image.proofs.built_keys.put_more.Goals as goal

pub extend_values-requires-clause-more : goal.extend_values-requires-clause-more
extend_values-requires-clause-more c p at =
    let m = c.requires.more in
    subst (λ (q : Path). MayExtend (heap_of c.args.tree.now.bins) c.args.node.offset (values_at c.args.tree.now.tree q) (all_told c.args.values.now))
    (sym (c.root.ensures.one_path p m.0 c.args.node at m.1)) m.2
