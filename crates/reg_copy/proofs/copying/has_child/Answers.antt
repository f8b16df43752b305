use Rattle.std.proofs.Common.{◌∙◌}
use Rattle.reg_diff.proofs.ToldPaths.{one_name}
use Rattle.reg_copy.proofs.KeyRoom.{resolved-test}
use Rattle.reg_copy.proofs.copying.has_child.Goals as goal

pub resolve-requires-clause-path : goal.resolve-requires-clause-path
resolve-requires-clause-path c = (one_name c.args.name.now c.requires.name).valid

pub returns : goal.returns
returns c p at =
    c.is_some.ensures
    ∙ resolved-test c.args.tree.now p c.args.name.now (one_name c.args.name.now c.requires.name).names c.resolve.result (c.resolve.ensures.found p at)
