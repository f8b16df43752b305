use Rattle.reg_arena.specs.Arena.{heap_of}
use Rattle.reg_tree.specs.LongerLists.{longer_sizes}
use Rattle.reg_tree.specs.TreeKeys.{Keys}
use Rattle.reg_tree.proofs.Invariant.NodeLemmas.{holds_then, there_at}
use Rattle.reg_tree.proofs.LengthenList.KeyLengthened.{lengthens}
use Rattle.reg_tree.proofs.ValueChange.NotedNames.{none_noted}
use Rattle.reg_tree.proofs.ValueChange.ValueCells.{takes_seen}
use Rattle.reg_tree.proofs.tree.Tree.lengthen_list.Goals as goal

pub lengthen-requires : goal.lengthen-requires
lengthen-requires c = there_at _ _ c.self.invariant.0 _ c.self.view_is _ c.requires.node

pub invariant_of-self : goal.invariant_of-self
invariant_of-self c = (
  holds_then _ _ c.self.invariant.0 _ c.self.view_is _ c.lengthen.result c.args.node c.requires.node _ c.lengthen.ensures.ok c.lengthen.ensures.err,
  none_noted _ _ _ c.forget.ensures,
)

pub returns-clause-lengthens : goal.returns-clause-lengthens
returns-clause-lengthens c =
    lengthens _ _ c.self.invariant.0 _ c.self.view_is _ c.lengthen.result c.args.node c.requires.node c.args.more c.lengthen.ensures.ok
    c.lengthen.ensures.lengths c.lengthen.ensures.room
    (takes_seen _ _ _ c.self.view_is c.lengthen.new.arena c.lengthen.result (λ (keys : Keys). longer_sizes (heap_of keys.bins) c.args.node.offset c.args.more)
    c.lengthen.ensures.cells c.lengthen.ensures.stay c.lengthen.ensures.growth c.lengthen.ensures.kept)
