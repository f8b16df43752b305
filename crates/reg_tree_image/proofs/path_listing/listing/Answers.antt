use Rattle.std.proofs.Common.{List, map, sym, ap, ◌∙◌, subst}
use Rattle.reg_tree_image.specs.declared.values.ReadValue.{ReadValue}
use Rattle.reg_tree_image.specs.KeyListing.{listed_member}
use Rattle.reg_tree_image.specs.Internal.FitKeys.{AreFit}
use Rattle.reg_tree_image.specs.Internal.NamedRecords.{members_in}
use Rattle.reg_tree_image.proofs.path_listing.listing.Goals as goal

pub listed_values-requires : goal.listed_values-requires
listed_values-requires c = subst (λ (values : List ReadValue). AreFit (members_in values)) (sym c.as_slice.ensures.value) c.requires

pub returns-clause-ok : goal.returns-clause-ok
returns-clause-ok c = record {
  values = c.in_ok-values.ensures.ok ∙ ap (λ (values : List ReadValue). map listed_member (members_in values)) c.as_slice.ensures.value;
  subkeys = c.put_in_order.ensures;
}
