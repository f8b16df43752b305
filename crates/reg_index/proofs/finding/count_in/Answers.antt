use Rattle.std.proofs.Common.{◌∙◌}
use Rattle.reg_index.proofs.ListsRead.{leaf-enough, leaf-number}
use Rattle.reg_index.proofs.finding.count_in.Goals as goal

pub count_at-requires : goal.count_at-requires
count_at-requires c = let s = c.requires in leaf-enough s.0 s.1 c.args.leaf.now (s.2, s.3) s.4

pub returns : goal.returns
returns c = λ heap offset entries is here. leaf-number heap offset c.args.leaf.now c.from.result here (c.from.ensures ∙ c.count_at.ensures) entries is
