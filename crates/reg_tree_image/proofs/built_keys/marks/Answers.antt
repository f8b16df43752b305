use Rattle.std.proofs.Common.{◌∙◌}
use Rattle.std.proofs.lemmas.Nat.{and_assoc}
use Rattle.reg_tree_image.proofs.built_keys.marks.Goals as goal

pub returns-clause-free : goal.returns-clause-free
returns-clause-free c = and_assoc 103 c.args.flags 65496 ∙ c.requires
