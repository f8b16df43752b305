-- The walk over a hive's records: what each names, in order (Suhanov, Windows registry file format specification, "Key node",
-- "Subkeys list", "Key values list", "Key value", "Big data", "Key security").
use Rattle.std.specs.Prelude.{ℕ, zero, suc, ◌==◌, nat_le, if◌then◌else◌, Option, Some, None, List, [], ◌∷◌, ◌++◌, map, length}
use Rattle.std.specs.Option.{option_map, option_and_then}
use Rattle.std.specs.Result.{result_ok}
use Rattle.reg_heap.specs.Heaps.{Heap}
use Rattle.reg_heap.specs.Kinds.{Kind, Found}
use Rattle.reg_heap.specs.Kinds.Kind.{Key, Class, SubList, Leaf, ValueList, Value, Data, BigHead, BigList, Segment, Security}
use Rattle.reg_records.specs.Letters.{is_signed}
use Rattle.reg_records.specs.KeyNodes.{KeyRecord, nk_of}
use Rattle.reg_records.specs.KeyValues.{KeyValueRecord, vk_of}
use Rattle.reg_records.specs.KeySecurities.{KeySecurityRecord, sk_of}
use Rattle.reg_records.specs.OffsetRows.{row_in}
use Rattle.reg_records.specs.SubkeyLists.{Entry, Form, list_of, offsets_in}
use Rattle.reg_records.specs.declared.lists.ListForm.TheVariants.{IndexRoot, IndexLeaf, FastLeaf, HashLeaf}
use Rattle.reg_records.specs.BigData.{Named, named, plainly, if_any, BigData, segment_size, is_inline, inline_size, segments_for, segments, db_of}

-- nothing more is named, where the content has so many bytes
abbrev pub enough : ℕ → List ℕ → Option (List Named)
enough size content = if nat_le size (length content) then Some [] else None

-- a key names its class, its security, the list of its values and its subkeys list
abbrev pub key_names : KeyRecord → List Named
key_names key =
    if_any Class key.fields.class_length key.fields.class
    ++ (plainly Security key.fields.security ∷ []
    ++ (if_any ValueList key.fields.values key.fields.values_list
    ++ if_any SubList key.fields.subkeys key.fields.subkeys_list))

-- a value names its data, unless that is empty or stands in the value itself, where it has at most 4 bytes
abbrev pub value_names : KeyValueRecord → Option (List Named)
value_names value =
    if is_inline value.fields.size then (if nat_le (inline_size value.fields.size) 4 then Some [] else None)
    else if nat_le value.fields.size segment_size then Some (if_any Data value.fields.size value.fields.offset)
    else Some (named BigHead value.fields.size value.fields.offset ∷ [])

-- a big data record names its list of segments, which it has as many of as the size needs, or more
abbrev pub big_names : ℕ → BigData → Option (List Named)
big_names size big =
    if nat_le (segments_for size) big.count then Some (named BigList size big.list ∷ []) else None

-- an index root names leaves, and no other list names lists
abbrev pub leaves_named : Form → List Entry → Option (List Named)
leaves_named IndexRoot entries = Some (map (plainly Leaf) (offsets_in entries))
leaves_named IndexLeaf entries = None
leaves_named FastLeaf entries = None
leaves_named HashLeaf entries = None

-- a leaf names keys
abbrev pub keys_named : Form → List Entry → Option (List Named)
keys_named IndexRoot entries = None
keys_named IndexLeaf entries = Some (map (plainly Key) (offsets_in entries))
keys_named FastLeaf entries = Some (map (plainly Key) (offsets_in entries))
keys_named HashLeaf entries = Some (map (plainly Key) (offsets_in entries))

-- a security has a descriptor, and names nothing that is walked
abbrev pub security_names : KeySecurityRecord → Option (List Named)
security_names security = if length security.descriptor == 0 then None else Some []

-- what the record of a kind names, in order, from its content; None where no such record stands there
abbrev pub names_of : Kind → ℕ → List ℕ → Option (List Named)
names_of Key size content = option_map key_names (result_ok (nk_of content))
names_of Class size content = enough size content
names_of SubList size content = option_and_then (λ list. leaves_named list.form list.entries) (list_of content)
names_of Leaf size content = option_and_then (λ list. keys_named list.form list.entries) (list_of content)
names_of ValueList size content = option_map (map (plainly Value)) (row_in size content)
names_of Value size content = option_and_then value_names (result_ok (vk_of content))
names_of Data size content = enough size content
names_of BigHead size content = option_and_then (big_names size) (db_of content)
names_of BigList size content = option_map (segments size) (row_in (segments_for size) content)
names_of Segment size content = enough size content
names_of Security size content = option_and_then security_names (result_ok (sk_of content))

-- a key names its subkeys list, which is an index root or itself a leaf
abbrev pub kind_met : Kind → List ℕ → Kind
kind_met Key content = Key
kind_met Class content = Class
kind_met SubList content = if is_signed 114 105 content then SubList else Leaf
kind_met Leaf content = Leaf
kind_met ValueList content = ValueList
kind_met Value content = Value
kind_met Data content = Data
kind_met BigHead content = BigHead
kind_met BigList content = BigList
kind_met Segment content = Segment
kind_met Security content = Security

-- the lists that come of each, one behind the other; None where one is None
abbrev pub gather : {A B : Type 0} → (A → Option (List B)) → List A → Option (List B)
gather f [] = Some []
gather f (x ∷ xs) = option_and_then (λ ys. option_map (λ zs. ys ++ zs) (gather f xs)) (f x)

-- a record of a kind that is met, and behind it all that it names, each walked by `go`
abbrev pub met : (Named → Option (List Found)) → Kind → Named → List ℕ → Option (List Found)
met go kind n content = option_map (λ below. record { kind = kind; offset = n.offset } ∷ below) (option_and_then (gather go) (names_of kind n.size content))

-- the record named, and behind it all that it names, in order; each step down takes one of fuel. None where there is no
-- allocated cell, or a record is bad, or fuel ends
unfoldable pub walk : ℕ → Heap → Named → Option (List Found)
walk zero heap n = None
walk (suc fuel) heap n = option_and_then (λ content. met (walk fuel heap) (kind_met n.kind content) n content) (heap n.offset)
