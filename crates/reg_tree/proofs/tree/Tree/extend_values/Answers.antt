use Rattle.reg_values.specs.NewValues.{all_told, each_value_sizes}
use Rattle.reg_tree.specs.TreeKeys.{Keys}
use Rattle.reg_tree.proofs.Invariant.NodeLemmas.{there_at, holds_then, changed_ok, changed_nodes}
use Rattle.reg_tree.proofs.Invariant.LengthsSeen.{lengths_changed}
use Rattle.reg_tree.proofs.ValueChange.ValueCells.{takes_seen}
use Rattle.reg_tree.proofs.ValueChange.NotedNames.{none_noted}
use Rattle.reg_tree.proofs.ValueChange.ValuesMore.{more_seen, room_seen}
use Rattle.reg_tree.proofs.tree.Tree.extend_values.Goals as goal

pub extend-requires-clause-more : goal.extend-requires-clause-more
extend-requires-clause-more c =
    let n = c.requires.node in (
      there_at _ _ c.self.invariant.0 _ c.self.view_is _ n,
      more_seen _ _ _ c.self.view_is _ _ _ (c.requires.more n.0 n.1),
    )

pub invariant_of-self : goal.invariant_of-self
invariant_of-self c = (
  holds_then _ _ c.self.invariant.0 _ c.self.view_is _ c.extend.result c.args.node c.requires.node _ c.extend.ensures.ok c.extend.ensures.err,
  none_noted _ _ _ c.forget.ensures,
)

pub returns-clause-ok : goal.returns-clause-ok
returns-clause-ok c =
    changed_ok _ _ c.self.invariant.0 _ c.self.view_is _ c.extend.result c.args.node c.requires.node _ c.extend.ensures.ok c.extend.ensures.err

pub returns-clause-nodes : goal.returns-clause-nodes
returns-clause-nodes c =
    changed_nodes _ _ c.self.invariant.0 _ c.self.view_is _ c.extend.result c.args.node c.requires.node _ c.extend.ensures.ok c.extend.ensures.err

pub returns-clause-room : goal.returns-clause-room
returns-clause-room c = λ room r. c.extend.ensures.room room (room_seen _ _ _ c.self.view_is _ _ r)

pub returns-clause-lengths : goal.returns-clause-lengths
returns-clause-lengths c = lengths_changed _ _ c.self.invariant.0 _ c.self.view_is _ c.extend.result c.args.node _ c.extend.ensures.lengths

pub returns-clause-takes : goal.returns-clause-takes
returns-clause-takes c =
    takes_seen _ _ _ c.self.view_is c.extend.new.arena c.extend.result (λ (keys : Keys). each_value_sizes (all_told c.args.values.now))
    c.extend.ensures.cells c.extend.ensures.stay c.extend.ensures.growth c.extend.ensures.kept
