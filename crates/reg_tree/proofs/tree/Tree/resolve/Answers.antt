use Rattle.reg_tree.proofs.Invariant.NodeLemmas.{there_at, shallow_at, resolved, resolved-depth}
use Rattle.reg_tree.proofs.tree.Tree.resolve.Goals as goal

pub resolve-requires-clause-here : goal.resolve-requires-clause-here
resolve-requires-clause-here c = there_at _ _ c.self.invariant.0 _ c.self.view_is _ c.requires.from

pub resolve-requires-clause-depth : goal.resolve-requires-clause-depth
resolve-requires-clause-depth c = shallow_at _ _ c.self.invariant.0 _ c.self.view_is _ c.requires.from

pub returns-clause-depth : goal.returns-clause-depth
returns-clause-depth c = resolved-depth _ _ c.self.invariant.0 _ c.self.view_is c.args.from c.requires.from _ c.resolve.result c.resolve.ensures

pub returns-clause-found : goal.returns-clause-found
returns-clause-found c = resolved _ _ c.self.invariant.0 _ c.self.view_is c.args.from _ c.resolve.result c.resolve.ensures
