use Rattle.reg_tree.proofs.InsertKey.CreateReached.{leads_at, limit_seen}
use Rattle.reg_tree.proofs.tree.Tree.is_limited.Goals as goal

pub is_limited-requires : goal.is_limited-requires
is_limited-requires c =
    let r = c.requires.reached in
    (r.0, r.1, leads_at _ _ c.self.invariant.0 _ c.self.view_is c.args.reached r.0 r.1 r.2 r.3.0 r.3.1)

pub returns : goal.returns
returns c = limit_seen _ _ c.self.invariant.0 _ c.self.view_is c.args.reached c.is_limited.ensures
