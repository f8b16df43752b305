use Rattle.std.proofs.Common.{ap, sym, ◌∙◌}
use Rattle.std.specs.Prelude.{flat_map}
use Rattle.reg_tree_text.proofs.SentTexts.{opened, swapped, exits}
use Rattle.reg_tables.specs.Tables.{key_text}
use Rattle.reg_tables.specs.Internal.Layouts.{laid, more_laid, keys_laid}
use Rattle.reg_tables.proofs.json_table.put_keys.Goals as goal

pub put_key-requires : goal.put_key-requires
put_key-requires g c = (_, c.requires.1.stands.at)

pub returns-in_err-put_key : goal.returns-in_err-put_key
returns-in_err-put_key g c =
    λ all go begin whole left s.
    exits _ _ _ _ c.from_residual.ensures.1
    (c.in_err-put_key.ensures go.stands.path go.stands.at go.told go.stands.key (c.deref.ensures.value ∙ go.stands.text) begin whole _
    (opened begin _ whole (laid c.args.layout (key_text go.told)) (flat_map (more_laid c.args.layout) go.rest) left _ _
    (swapped begin _ whole _ _ left _ _ s (sym (ap (keys_laid c.args.layout) go.all_is)))))

pub put_more-requires : goal.put_more-requires
put_more-requires g c = (_, _, c.requires.1.stands)

pub returns : goal.returns
returns g c =
    λ all go begin whole left s.
    c.put_more.ensures go.told go.rest go.stands begin whole left
    (c.in_ok-put_key.ensures go.stands.path go.stands.at go.told go.stands.key (c.deref.ensures.value ∙ go.stands.text) begin whole _
    (opened begin _ whole (laid c.args.layout (key_text go.told)) (flat_map (more_laid c.args.layout) go.rest) left _ _
    (swapped begin _ whole _ _ left _ _ s (sym (ap (keys_laid c.args.layout) go.all_is)))))
