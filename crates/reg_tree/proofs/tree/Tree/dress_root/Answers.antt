use Rattle.reg_tree.proofs.BuildKey.BuiltRoot.{root-here, root-may, root-bare, root-holds, root-built, root-lengths, root-takes}
use Rattle.reg_tree.proofs.ValueChange.NotedNames.{none_noted}
use Rattle.reg_tree.proofs.tree.Tree.dress_root.Goals as goal

pub dress-requires-clause-here : goal.dress-requires-clause-here
dress-requires-clause-here c = (
  root-here _ _ c.self.invariant.0 _ c.self.view_is c.args.key c.requires.root,
  root-may _ _ c.self.invariant.0 _ c.self.view_is c.args.key c.requires.root,
)

pub dress-requires-clause-bare : goal.dress-requires-clause-bare
dress-requires-clause-bare c = root-bare _ _ c.self.invariant.0 _ c.self.view_is c.args.key c.requires.root

pub invariant_of-self : goal.invariant_of-self
invariant_of-self c = (
  root-holds _ _ c.self.invariant.0 _ c.self.view_is c.args.key c.requires.root c.dress.new.arena c.dress.result c.dress.ensures.ok c.dress.ensures.err,
  none_noted _ _ _ c.forget.ensures,
)

pub returns-clause-ok : goal.returns-clause-ok
returns-clause-ok c = root-built _ _ c.self.invariant.0 _ c.self.view_is c.args.key c.requires.root c.dress.new.arena c.dress.result c.dress.ensures.ok c.dress.ensures.err

pub returns-clause-takes : goal.returns-clause-takes
returns-clause-takes c =
    root-takes _ _ c.self.invariant.0 _ c.self.view_is c.args.key c.requires.root c.dress.new.arena c.dress.result c.dress.ensures.ok c.dress.ensures.err
    c.dress.ensures.cells c.dress.ensures.stay c.dress.ensures.growth c.dress.ensures.kept

pub returns-clause-lengths : goal.returns-clause-lengths
returns-clause-lengths c =
    root-lengths _ _ c.self.invariant.0 _ c.self.view_is c.args.key c.requires.root c.dress.new.arena c.dress.result c.dress.ensures.ok c.dress.ensures.err
    c.dress.ensures.lengths
