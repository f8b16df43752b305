use Rattle.reg_tree.proofs.Invariant.NodeLemmas.{there_at, shallow_at}
use Rattle.reg_tree.proofs.PathWalk.ReachedSeen.{reached_seen, missing_seen, there_seen, absent_seen}
use Rattle.reg_tree.proofs.tree.Tree.reach.Goals as goal

pub reach-requires-clause-here : goal.reach-requires-clause-here
reach-requires-clause-here c = there_at _ _ c.self.invariant.0 _ c.self.view_is _ c.requires.from

pub reach-requires-clause-depth : goal.reach-requires-clause-depth
reach-requires-clause-depth c = shallow_at _ _ c.self.invariant.0 _ c.self.view_is _ c.requires.from

pub returns-clause-reached : goal.returns-clause-reached
returns-clause-reached c = reached_seen _ _ c.self.invariant.0 _ c.self.view_is c.args.from _ c.reach.result c.reach.ensures.reaches c.requires.path c.reach.ensures.place

pub returns-clause-missing : goal.returns-clause-missing
returns-clause-missing c = missing_seen _ _ c.self.invariant.0 _ c.self.view_is c.args.from _ c.reach.result c.reach.ensures.reaches

pub returns-clause-there : goal.returns-clause-there
returns-clause-there c = there_seen _ _ c.self.invariant.0 _ c.self.view_is c.args.from _ c.reach.result c.reach.ensures.reaches

pub returns-clause-absent : goal.returns-clause-absent
returns-clause-absent c = absent_seen _ _ c.self.invariant.0 _ c.self.view_is c.args.from _ c.reach.result c.reach.ensures.reaches
