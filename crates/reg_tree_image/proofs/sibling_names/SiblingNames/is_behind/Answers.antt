use Rattle.std.proofs.Common.{◌≡◌, ◌-◌, Some, slice_get, length, subst, sym, ap, ◌∙◌}
use Rattle.std.specs.Ordering.{is_lt}
use Rattle.std.proofs.lemmas.Cmp.{is_lt_index}
use Rattle.reg_names.specs.Names.{name_cmp}
use Rattle.reg_tree_image.proofs.Readers.RisingNames.{behind-last}
use Rattle.reg_tree_image.proofs.sibling_names.SiblingNames.is_behind.Goals as goal

pub returns-in-Some : goal.returns-in-Some
returns-in-Some c e =
    behind-last c.args.self.now.rising.items c.in-Some.last.now c.args.name.now c.args.self.now.in_order
    (subst (λ xs. Some c.in-Some.last.now ≡ slice_get xs (length xs - 1)) c.as_slice.ensures.value c.in-Some.ensures.value)
    (ap is_lt (sym (c.name_order.ensures ∙ ap (λ n. name_cmp n c.args.name.now) c.as_slice-in-Some.ensures.value))
    ∙ (is_lt_index c.name_order.result ∙ (sym c.eq.ensures ∙ e)))
