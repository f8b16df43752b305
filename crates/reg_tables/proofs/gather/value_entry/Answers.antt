use Rattle.reg_heap.specs.Edits.{values_at}
use Rattle.reg_tables.proofs.GatheredKeys.{value-told}
use Rattle.reg_tables.proofs.gather.value_entry.Goals as goal

pub returns : goal.returns
returns c =
    λ p at m here.
    value-told (values_at c.args.tree.now.tree p) c.args.index m here _ _ _ (c.in-Some.ensures.told p at) _ c.in_ok-name_text.ensures _ _ _ c.in_ok-form_of.ensures
    c.deref.ensures.value (c.in_ok-bytes.ensures.told p at)
