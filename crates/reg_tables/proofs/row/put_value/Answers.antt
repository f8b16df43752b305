use Rattle.reg_heap.specs.Edits.{values_at}
use Rattle.reg_tree_text.proofs.SentTexts.{swapped, stops_full, exits}
use Rattle.reg_tables.proofs.TableTexts.{member-same}
use Rattle.reg_tables.proofs.row.put_value.Goals as goal

pub returns-in_err-bytes : goal.returns-in_err-bytes
returns-in_err-bytes g c = λ p at member here begin whole left s. exits _ _ _ _ c.from_residual.ensures.1 (stops_full begin _ whole _ _ _ s)

pub returns : goal.returns
returns g c =
    λ p at member here begin whole left s.
    c.put_member.ensures begin whole left
    (swapped begin _ whole _ _ left _ _ s
    (member-same c.args.path.now (values_at c.args.tree.now.tree p) c.args.index member here _ _ _ (c.in-Some.ensures.told p at) _ _ c.deref.ensures.value (c.in_ok-bytes.ensures.told p at)))
