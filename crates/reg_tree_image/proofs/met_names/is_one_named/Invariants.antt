use Rattle.std.proofs.Common.{◌≡◌, false, take}
use Rattle.std.specs.List.{list_any}
use Rattle.reg_heap.specs.Members.{same_name as is_same}
use Rattle.reg_tree_image.specs.declared.values.ReadValue.{ReadValue}
use Rattle.reg_tree_image.specs.Internal.NamedRecords.{member_in}
use Rattle.reg_tree_image.proofs.met_names.is_one_named.Given as goal

abbrev pub invariant-loop-value : goal.invariant-loop-value
invariant-loop-value l = list_any (λ (v : ReadValue). is_same (member_in v).name l.name) (take l.value-index l.values) ≡ false
