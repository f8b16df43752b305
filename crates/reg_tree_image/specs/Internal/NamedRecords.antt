-- What was read of a key or a value, as the walk has it.
use Rattle.std.specs.Prelude.{ℕ, List, map, take}
use Rattle.std.specs.Cow.{cow_slice_items}
use Rattle.reg_heap.specs.Paths.{Member}
use Rattle.reg_records.specs.KeyNodes.{KeyRecord}
use Rattle.reg_records.specs.KeyValues.{KeyValueRecord}
use Rattle.reg_tree_image.specs.declared.keys.NamedKey.{NamedKey}
use Rattle.reg_tree_image.specs.declared.key_parts.KeyParts.{KeyParts}
use Rattle.reg_tree_image.specs.declared.data.ReadData.{ReadData}
use Rattle.reg_tree_image.specs.declared.data.ReadData.TheVariants.{Held, Inline, Copied}
use Rattle.reg_tree_image.specs.declared.values.NamedValue.{NamedValue}
use Rattle.reg_tree_image.specs.declared.values.ReadValue.{ReadValue}

abbrev pub key_of : NamedKey → KeyRecord × List ℕ
key_of k = (record { fields = k.node.fields; name = k.node.name.now }, cow_slice_items k.name)

abbrev pub value_of : NamedValue → KeyValueRecord × List ℕ
value_of v = (record { fields = v.value.fields; name = v.value.name.now }, cow_slice_items v.name)

-- the bytes of a value's data: in one cell, in the field of its offset, or in several cells and copied
abbrev pub data_in : ReadData → List ℕ
data_in (Held bytes) = bytes.now
data_in (Inline field count) = take count field
data_in (Copied bytes) = bytes.items

-- a value with its data
abbrev pub member_in : ReadValue → Member
member_in v = record { name = cow_slice_items v.name; kind = v.kind; bytes = data_in v.bytes }

-- values, in their order
abbrev pub members_in : List ReadValue → List Member
members_in values = map member_in values

-- a key's class, descriptor and values
abbrev pub parts_in : KeyParts → List ℕ × List ℕ × List Member
parts_in k = (k.class.now, k.descriptor.now, members_in k.values.items)
