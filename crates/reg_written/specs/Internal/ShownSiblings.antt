-- What the code holds of a key's subkeys.
use Rattle.std.specs.Prelude.{◌&&◌, nat_lt, nat_le, Bool, Option}
use Rattle.std.specs.Option.{option_map}
use Rattle.reg_heap.specs.declared.limits.TheConstants.{LEAF_LIMIT}
use Rattle.reg_records.specs.declared.lists.ListHead.{ListHead}
use Rattle.reg_written.specs.declared.subkeys.Siblings.{Siblings as Held}
use Rattle.reg_written.specs.Internal.KeyTests.{Siblings, is_hash_leaf}

abbrev pub shown : Held → Siblings
shown siblings = record { left = siblings.left; last = option_map (λ n. n.now) siblings.last }

abbrev pub shown_in : Option Held → Option Siblings
shown_in siblings = option_map shown siblings

-- a list of keys, by what stands before its entries
abbrev pub is_list_head : ListHead → Bool
is_list_head head = is_hash_leaf head.form && (nat_lt 0 head.count && nat_le head.count LEAF_LIMIT)
