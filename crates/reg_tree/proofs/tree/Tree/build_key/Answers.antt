use Rattle.reg_tree.proofs.BuildKey.BuiltSeen.{like_there, may_there, holds_built, built_seen, builds_seen, lacks_seen, lengths_built, made_built, nodes_built}
use Rattle.reg_tree.proofs.InsertKey.CreateReached.{place_at, reaches_at}
use Rattle.reg_tree.proofs.ValueChange.NotedNames.{none_noted}
use Rattle.reg_tree.proofs.tree.Tree.build_key.Goals as goal

pub security_like-known-requires : goal.security_like-known-requires
security_like-known-requires c = (
  c.self.inside.root,
  c.self.inside.securities,
  c.self.invariant.0,
  c.args.key.descriptor.now,
  like_there _ _ c.self.invariant.0 _ c.self.view_is c.args.parent c.args.key c.requires.room c.args.like c.requires.like,
)

pub build_below-requires-clause-known : goal.build_below-requires-clause-known
build_below-requires-clause-known c =
    c.security_like-known.ensures _ _ c.self.invariant.0 c.args.key.descriptor.now
    (like_there _ _ c.self.invariant.0 _ c.self.view_is c.args.parent c.args.key c.requires.room c.args.like c.requires.like)

pub build_below-requires-clause-here : goal.build_below-requires-clause-here
build_below-requires-clause-here c = may_there _ _ c.self.invariant.0 _ c.self.view_is c.args.parent c.args.key c.requires.room c.requires.parent

pub build_below-requires-clause-reached : goal.build_below-requires-clause-reached
build_below-requires-clause-reached c = reaches_at _ _ c.self.invariant.0 _ c.self.view_is c.args.reached c.args.parent _ c.requires.reached

pub build_below-requires-clause-place : goal.build_below-requires-clause-place
build_below-requires-clause-place c = place_at _ _ c.self.invariant.0 _ c.self.view_is c.args.reached c.args.parent _ c.requires.reached

pub invariant_of-self : goal.invariant_of-self
invariant_of-self c = (
  holds_built _ _ c.self.invariant.0 _ c.self.view_is c.args.parent c.args.key c.requires.room c.build_below.new.arena c.build_below.new.securities c.build_below.result
      c.build_below.ensures.ok c.requires.parent c.build_below.ensures.err c.build_below.ensures.table,
  none_noted _ _ _ c.forget.ensures,
)

pub returns-clause-ok : goal.returns-clause-ok
returns-clause-ok c =
    built_seen _ _ c.self.invariant.0 _ c.self.view_is c.args.parent c.args.key c.requires.room c.build_below.new.arena c.build_below.new.securities c.build_below.result
    c.build_below.ensures.ok

pub returns-clause-nodes : goal.returns-clause-nodes
returns-clause-nodes c =
    nodes_built _ _ c.self.invariant.0 _ c.self.view_is c.args.parent c.args.key c.requires.room c.build_below.new.arena c.build_below.new.securities c.build_below.result
    c.build_below.ensures.ok c.requires.parent

pub returns-clause-builds : goal.returns-clause-builds
returns-clause-builds c =
    builds_seen _ _ c.self.invariant.0 _ c.self.view_is c.args.parent c.args.key c.requires.room c.build_below.new.arena c.build_below.result c.build_below.ensures.builds

pub returns-clause-space : goal.returns-clause-space
returns-clause-space c =
    lacks_seen _ _ c.self.invariant.0 _ c.self.view_is c.args.parent c.args.key c.requires.room c.build_below.result c.build_below.ensures.space

pub returns-clause-lengths : goal.returns-clause-lengths
returns-clause-lengths c = lengths_built _ _ c.self.invariant.0 _ c.self.view_is c.args.parent c.args.key c.requires.room c.build_below.new.arena c.build_below.result _ c.build_below.ensures.lengths

pub returns-clause-made : goal.returns-clause-made
returns-clause-made c =
    made_built _ _ c.self.invariant.0 _ c.self.view_is c.args.parent c.args.key c.requires.room c.build_below.new.arena c.build_below.result c.build_below.ensures.made
