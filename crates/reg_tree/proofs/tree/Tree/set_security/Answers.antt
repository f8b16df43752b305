use Rattle.std.proofs.Common.{refl}
use Rattle.reg_tree.proofs.DescribeKey.DescriptionSeen.{described_holds, described_tree, described_nodes, described_lengths, described_cells, described_growth, described_space}
use Rattle.reg_tree.proofs.Invariant.NodeLemmas.{there_at}
use Rattle.reg_tree.proofs.ValueChange.NotedNames.{none_noted}
use Rattle.reg_tree.proofs.tree.Tree.set_security.Goals as goal

pub set-requires-clause-here : goal.set-requires-clause-here
set-requires-clause-here c = (there_at _ _ c.self.invariant.0 _ c.self.view_is _ c.requires.node, refl)

pub invariant_of-self : goal.invariant_of-self
invariant_of-self c = (
  described_holds _ _ c.self.invariant.0 _ c.self.view_is c.set.new.arena c.set.new.securities c.set.result c.args.node _ c.set.ensures.ok c.requires.node c.set.ensures.err c.set.ensures.table,
  none_noted _ _ _ c.forget.ensures,
)

pub returns-clause-ok : goal.returns-clause-ok
returns-clause-ok c = described_tree _ _ c.self.invariant.0 _ c.self.view_is c.set.new.arena c.set.new.securities c.set.result c.args.node _ c.set.ensures.ok

pub returns-clause-cells : goal.returns-clause-cells
returns-clause-cells c =
    described_cells _ _ c.self.invariant.0 _ c.self.view_is c.set.new.arena c.set.new.securities c.set.result c.args.node c.args.descriptor.now c.set.ensures.cells c.requires.node

pub returns-clause-growth : goal.returns-clause-growth
returns-clause-growth c =
    described_growth _ _ c.self.invariant.0 _ c.self.view_is c.set.new.arena c.set.new.securities c.set.result c.args.node c.args.descriptor.now c.set.ensures.growth c.requires.node

pub returns-clause-nodes : goal.returns-clause-nodes
returns-clause-nodes c = described_nodes _ _ c.self.invariant.0 _ c.self.view_is c.set.new.arena c.set.new.securities c.set.result c.args.node _ c.set.ensures.ok c.requires.node

pub returns-clause-lengths : goal.returns-clause-lengths
returns-clause-lengths c =
    described_lengths _ _ c.self.invariant.0 _ c.self.view_is c.set.new.arena c.set.new.securities c.set.result c.args.node c.set.ensures.lengths c.requires.node

pub returns-clause-space : goal.returns-clause-space
returns-clause-space c =
    described_space _ _ c.self.invariant.0 _ c.self.view_is c.set.new.arena c.set.new.securities c.set.result c.args.node c.args.descriptor.now c.set.ensures.space
    c.requires.node
