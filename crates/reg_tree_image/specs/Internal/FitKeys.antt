-- What was read of a key is within the limits, so that the key can be built.
use Rattle.std.specs.Prelude.{◌≡◌, ℕ, ◌≤◌, ◌+◌, bit_and, true, false, List, [], ◌∷◌, ◌++◌, length, ⊤}
use Rattle.std.specs.List.{list_any}
use Rattle.std.specs.Cow.{cow_slice_items}
use Rattle.reg_names.specs.Names.{is_key_name}
use Rattle.reg_heap.specs.declared.limits.TheConstants.{DESCRIPTOR_LIMIT, VALUES_LIMIT}
use Rattle.reg_heap.specs.Paths.{Member}
use Rattle.reg_heap.specs.Members.{same_name}
use Rattle.reg_heap.specs.Trees.{IsSmallValue}
use Rattle.reg_tree_image.specs.declared.keys.NamedKey.{NamedKey}
use Rattle.reg_tree_image.specs.declared.key_parts.KeyParts.{KeyParts}
use Rattle.reg_tree_image.specs.Internal.NamedRecords.{members_in}

-- a name that may be a key's, and flags without 0x40
pub record IsFitName (k : NamedKey) : Type 0 where
  pub name : is_key_name (cow_slice_items k.name) ≡ true
  pub profile : bit_and k.node.fields.flags 64 ≡ 0

-- no value of that name is among these
abbrev pub IsOther : List Member → List ℕ → Type 0
IsOther before name = list_any (λ (m : Member). same_name m.name name) before ≡ false

-- each of these values is within the limits, and none before it has its name
abbrev pub AreNew : List Member → List Member → Type 0
AreNew before [] = ⊤
AreNew before (m ∷ members) = IsSmallValue m × IsOther before m.name × AreNew (before ++ m ∷ []) members

-- the values of a key
pub record AreFit (members : List Member) : Type 0 where
  pub new : AreNew [] members
  pub few : length members ≤ VALUES_LIMIT

-- values that may come behind those that a key has
pub record AreFitBehind (before members : List Member) : Type 0 where
  pub new : AreNew before members
  pub few : length before + length members ≤ VALUES_LIMIT

-- a key's class, descriptor and values
pub record AreFitParts (k : KeyParts) : Type 0 where
  pub class : length k.class.now ≤ 65535
  pub described : 1 ≤ length k.descriptor.now
  pub descriptor : length k.descriptor.now ≤ DESCRIPTOR_LIMIT
  pub values : AreFit (members_in k.values.items)
