use Rattle.std.specs.Prelude.{flat_map}
use Rattle.reg_names.specs.Names.{text_of}
use Rattle.reg_tree_text.proofs.SentTexts.{swapped, opened, exits}
use Rattle.reg_find.specs.Findings.{key_found, value_found}
use Rattle.reg_find.proofs.FoundLines.{values_same}
use Rattle.reg_find.proofs.finding.put_key.Goals as goal

pub returns-in_err-put_name-clause-puts : goal.returns-in_err-put_name-clause-puts
returns-in_err-put_name-clause-puts g c =
    λ p at told here path begin whole left s.
    (let matches = g.P.Pattern.matches c.args.pattern.now in
    exits _ _ _ _ c.from_residual.ensures.1
    (c.in_err-put_name.ensures.puts p at told here path begin whole _
    (opened begin _ whole (key_found matches c.args.scope told)
    (flat_map (value_found matches c.args.scope (text_of told.names)) told.key.values) left _ _ s)))

pub returns-clause-puts : goal.returns-clause-puts
returns-clause-puts g c =
    λ p at told here path begin whole left s.
    (let matches = g.P.Pattern.matches c.args.pattern.now in
    c.put_values.ensures.puts p at begin whole left
    (swapped begin _ whole _ _ left _ _
    (c.in_ok-put_name.ensures.puts p at told here path begin whole _
    (opened begin _ whole (key_found matches c.args.scope told)
    (flat_map (value_found matches c.args.scope (text_of told.names)) told.key.values) left _ _ s))
    (values_same c.args.tree.now.tree p told matches _ c.args.scope _ here c.in_ok-put_name.ensures.same path)))
