use Rattle.std.proofs.Common.{sym, ap, ◌∙◌}
use Rattle.reg_tree_image.specs.Internal.NamesMet.{text_hash}
use Rattle.reg_tree_image.proofs.Readers.EqualNames.{one-more}
use Rattle.reg_tree_image.proofs.met_names.MetNames.put.Goals as goal

pub returns-clause-met : goal.returns-clause-met
returns-clause-met c =
    one-more c.args.name.now c.args.self.now.folded.keys c.insert.new.self.keys c.hash_of-hash.result c.in-Ok.copy c.in-Ok.ensures (c.hash_of-hash.ensures ∙ ap text_hash c.as_slice.ensures.value)
    (sym c.if-not-is_new.false ∙ c.in-Ok-insert.ensures.added) c.in-Ok-insert.ensures.keys
