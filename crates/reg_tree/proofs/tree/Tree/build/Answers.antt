use Rattle.std.proofs.Common.{◌∙◌, ap, length}
use Rattle.std.specs.Prelude.{Err}
use Rattle.reg_tree.proofs.BuildKey.BuiltRoot.{never-full}
use Rattle.reg_tree.proofs.InsertKey.PathGrowth.{name_short}
use Rattle.reg_tree.proofs.tree.Tree.build.Goals as goal

pub unreachable-requires : goal.unreachable-requires
unreachable-requires c =
    never-full _ (length c.args.key.name.now) (length c.args.key.descriptor.now) (name_short c.args.key.name.now c.requires.name) c.requires.descriptor c.in-Ok.ensures.bin
    (c.dress_root.ensures.full (c.in-Err-Full.is ∙ ap (λ f. Err f) c.in-Err-Full.field-0-is))

pub returns-in-Ok-dress_root-clause-builds : goal.returns-in-Ok-dress_root-clause-builds
returns-in-Ok-dress_root-clause-builds c = record {
  bare = c.in-Ok.tree;
  begun = c.in-Ok.ensures.cells;
  class = c.in-Ok-dress_root.ensures.takes;
  root = c.in-Ok-dress_root.ensures.root;
  tree = c.in-Ok-dress_root.ensures.ok;
}

pub returns-in-Ok-dress_root-clause-lengths : goal.returns-in-Ok-dress_root-clause-lengths
returns-in-Ok-dress_root-clause-lengths c = c.in-Ok-dress_root.ensures.lengths ∙ c.in-Ok.ensures.lengths
