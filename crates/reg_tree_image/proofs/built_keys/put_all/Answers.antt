use Rattle.std.proofs.Common.{[]}
use Rattle.reg_tree_image.proofs.Readers.AllValues.{none-there, values-put}
use Rattle.reg_tree_image.proofs.Readers.PutValues.{may-follow}
use Rattle.reg_tree_image.proofs.built_keys.put_all.Goals as goal

pub build_values-requires-clause-bare : goal.build_values-requires-clause-bare
build_values-requires-clause-bare c p at =
    let b = c.requires.bare in
    none-there c.args.tree.now c.args.node c.args.time b p (c.root.ensures.one_path p b.path c.args.node at b.at)

pub build_values-requires-clause-new : goal.build_values-requires-clause-new
build_values-requires-clause-new c = may-follow _ [] c.requires.values.new

pub returns-in-Ok-clause-ok : goal.returns-in-Ok-clause-ok
returns-in-Ok-clause-ok c p at base r put none timed =
    values-put c.args.tree.now.tree _ base p r _ c.args.time put timed (c.in-Ok.ensures.ok p at)
