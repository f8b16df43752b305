-- The walk of the bins meets no fault of a reader, and no want of memory.
use Rattle.std.proofs.Common.{refl, ◌==◌, nat_lt, not, bit_and, nat_le, ◌||◌, ℕ, zero, suc, ◌++◌, Bool, true, false, Result, Ok, Err, List}
use Rattle.std.proofs.Common.{[], ◌∷◌, length, take}
use Rattle.reg_names.specs.declared.TheConstants.{PATH_LIMIT, KEY_NAME_LIMIT, VALUE_NAME_LIMIT}
use Rattle.reg_names.specs.Names.{is_key_name_byte, is_value_name_byte}
use Rattle.reg_heap.specs.Heaps.{Heap}
use Rattle.reg_heap.specs.Paths.{Path, Member}
use Rattle.byteorder.specs.Endian.{little_bytes}
use Rattle.std.specs.List.{list_any}
use Rattle.reg_heap.specs.declared.limits.TheConstants.{DATA_LIMIT, DESCRIPTOR_LIMIT, SUBKEYS_LIMIT, VALUES_LIMIT}
use Rattle.reg_heap.specs.Members.{same_name}
use Rattle.reg_heap.specs.Edits.{child_path}
use Rattle.reg_heap.specs.Kinds.{Kind}
use Rattle.reg_heap.specs.Kinds.Kind.{Key, SubList, Class, Data, Leaf, Value, ValueList, Security, BigHead, BigList}
use Rattle.reg_records.specs.declared.RecordFault.{RecordFault}
use Rattle.reg_records.specs.declared.RecordFault.TheVariants.{Short, Signature, Length, NotInProfile as PastProfile}
use Rattle.reg_records.specs.declared.lists.ListForm.TheVariants.{IndexRoot, IndexLeaf, FastLeaf, HashLeaf}
use Rattle.reg_records.specs.declared.nk.KeyFields.{KeyFields}
use Rattle.reg_records.specs.KeyNodes.{KeyRecord, nk_of}
use Rattle.reg_records.specs.KeyValues.{KeyValueRecord, vk_of}
use Rattle.reg_records.specs.KeySecurities.{sk_of}
use Rattle.reg_records.specs.OffsetRows.{row_in}
use Rattle.reg_shape.specs.Walk.{kind_met}
use Rattle.reg_shape.specs.Nodes.{member_of}
use Rattle.reg_records.specs.SubkeyLists.{Entry, Form, list_of}
use Rattle.reg_records.specs.BigData.{Named, segment_size, segments, segments_for, is_inline, inline_size, db_of}
use Rattle.reg_arena.specs.Cells.{bins_of, cells_of_bins, content_in}
use Rattle.reg_tree_image.specs.declared.LoadFault.TheVariants.{Record, Loop, Twice, NotInProfile, Limit, Bins, Cells}
use Rattle.reg_tree_image.specs.WalkSteps.{Step, given, note, not_named, is_new, is_absent, cell}
use Rattle.reg_tree_image.specs.LoadingWalk.{read, name_in, key_name, value_name, root_path, no_sibling, keys_each, leaf_as, bytes_from}
use Rattle.reg_tree_image.specs.LoadingWalk.{row_from, pieces_from}
use Rattle.reg_tree_image.specs.LoadingWalk.{class_from, descriptor_from, big_from, far_from, named_value, named_key, head_from, leaf_from}
use Rattle.reg_tree_image.specs.LoadingWalk.{lists_each, listed_as}
use Rattle.reg_tree_image.specs.LoadingWalk.{list_from, subkeys_from, data_by, value_from, values_each, values_from, parts_from, rest_from}
use Rattle.reg_tree_image.specs.LoadingWalk.{key_from}
use Rattle.reg_tree_image.specs.Images.{bins_walk}
use Rattle.reg_tree_image.proofs.Devices.FaultsOfSteps.{Meets, meets-give, meets-check, meets-given, meets-bind, meets-then, meets-fault}

meets-read : {R : Type 0} (r : Result R RecordFault) → Meets (read r)
meets-read (Ok r) = meets-give r
meets-read {R} (Err Short) = meets-fault Record (read {R = R} (Err Short)) tt (λ seen. refl)
meets-read {R} (Err Signature) = meets-fault Record (read {R = R} (Err Signature)) tt (λ seen. refl)
meets-read {R} (Err Length) = meets-fault Record (read {R = R} (Err Length)) tt (λ seen. refl)
meets-read {R} (Err PastProfile) = meets-fault NotInProfile (read {R = R} (Err PastProfile)) tt (λ seen. refl)

meets-name : (single : Bool) (most : ℕ) (allowed : ℕ → Bool) (name : List ℕ) → Meets (name_in single most allowed name)
meets-name single most allowed name =
    meets-then _ _ (meets-check Record _ tt)
    (meets-then _ _ (meets-check Limit _ tt) (meets-then _ _ (meets-check NotInProfile _ tt) (meets-give _)))

meets-key_name : (key : KeyRecord) → Meets (key_name key)
meets-key_name key =
    meets-then _ _ (meets-check Record (nat_lt 0 (length key.name)) tt)
    (meets-name (not (bit_and key.fields.flags 32 == 0)) KEY_NAME_LIMIT is_key_name_byte key.name)

meets-value_name : (value : KeyValueRecord) → Meets (value_name value)
meets-value_name value = meets-name (not (bit_and value.fields.flags 1 == 0)) VALUE_NAME_LIMIT is_value_name_byte value.name

meets-no_sibling : (path : Path) → Meets (no_sibling path)
meets-no_sibling path seen = meets-check Twice _ tt seen

meets-cell : (heap : Heap) (path : List ℕ) (kind : List ℕ → Kind) (offset : ℕ) → Meets (cell heap path kind offset)
meets-cell heap path kind offset =
    meets-bind (given Record (heap offset)) _ (meets-given Record (heap offset) tt) (λ content.
    meets-then _ _ (meets-check Loop (is_absent offset path) tt)
    (meets-then (not_named (kind content) offset) _ (λ seen. meets-check Twice (is_new (kind content) offset seen.found) tt seen)
    (meets-then (note (record { kind = kind content; offset = offset })) _
    (λ seen. meets-give tt (record seen { found = seen.found ++ (record { kind = kind content; offset = offset }) ∷ [] }))
    (meets-give content))))

-- keys that are walked each
meets-keys : (go : ℕ → Step (Unit {0})) (n : ℕ) (entries : List Entry) → ((offset : ℕ) → Meets (go offset)) → Meets (keys_each go n entries)
meets-keys go n [] g = meets-give n
meets-keys go n (e ∷ entries) g =
    meets-then _ _ (meets-check Limit (nat_lt n SUBKEYS_LIMIT) tt)
    (meets-then (go e.offset) _ (g e.offset) (meets-keys go (suc n) entries g))

meets-leaf : (form : Form) → Meets (leaf_as form)
meets-leaf IndexRoot = meets-check Record false tt
meets-leaf IndexLeaf = meets-give tt
meets-leaf FastLeaf = meets-give tt
meets-leaf HashLeaf = meets-give tt

module _ (heap : Heap) where
  meets-bytes : (path : List ℕ) (n : Named) → Meets (bytes_from heap path n)
  meets-bytes path n =
      meets-bind _ _ (meets-cell heap path (λ _. n.kind) n.offset) (λ content.
      meets-then _ _ (meets-check Record (nat_le n.size (length content)) tt) (meets-give (take n.size content)))

  pub meets-row : (path : List ℕ) (kind : Kind) (count offset : ℕ) → Meets (row_from heap path kind count offset)
  meets-row path kind count offset = meets-bind _ _ (meets-cell heap path (λ _. kind) offset)
      (λ content. meets-given Record (row_in count content) tt)

  meets-pieces : (path so_far : List ℕ) (names : List Named) → Meets (pieces_from heap path so_far names)
  meets-pieces path so_far [] = meets-give so_far
  meets-pieces path so_far (n ∷ names) = meets-bind _ _ (meets-bytes path n) (λ piece. meets-pieces path (so_far ++ piece) names)

  meets-class : (path : List ℕ) (size offset : ℕ) → Meets (class_from heap path size offset)
  meets-class path zero offset = meets-give []
  meets-class path (suc n) offset = meets-bytes path (record { kind = Class; size = suc n; offset = offset })

  meets-descriptor : (path : List ℕ) (offset : ℕ) → Meets (descriptor_from heap path offset)
  meets-descriptor path offset =
      meets-bind _ _ (meets-cell heap path (λ _. Security) offset) (λ content.
      meets-bind _ _ (meets-read (sk_of content)) (λ security.
      meets-then _ _ (meets-check Record (nat_lt 0 (length security.descriptor)) tt)
      (meets-then _ _ (meets-check Limit (nat_le (length security.descriptor) DESCRIPTOR_LIMIT) tt) (meets-give security.descriptor))))

  meets-big : (path : List ℕ) (size offset : ℕ) → Meets (big_from heap path size offset)
  meets-big path size offset =
      meets-bind _ _ (meets-cell heap path (λ _. BigHead) offset) (λ content.
      meets-bind _ _ (meets-given Record (db_of content) tt) (λ big.
      meets-then _ _ (meets-check Record (nat_le (segments_for size) big.count) tt)
      (meets-bind _ _ (meets-row path BigList (segments_for size) big.list) (λ row. meets-pieces path [] (segments size row)))))

  meets-far : (path : List ℕ) (single : Bool) (size offset : ℕ) → Meets (far_from heap path single size offset)
  meets-far path single zero offset = meets-give []
  meets-far path true (suc n) offset = meets-bytes path (record { kind = Data; size = suc n; offset = offset })
  meets-far path false (suc n) offset = meets-big path (suc n) offset

  pub meets-named_value : (path : List ℕ) (offset : ℕ) → Meets (named_value heap path offset)
  meets-named_value path offset =
      meets-bind _ _ (meets-cell heap path (λ _. Value) offset) (λ content.
      meets-bind _ _ (meets-read (vk_of content)) (λ value.
      meets-bind _ _ (meets-value_name value) (λ name. meets-give (value, name))))

  pub meets-named_key : (path : List ℕ) (offset : ℕ) → Meets (named_key heap path offset)
  meets-named_key path offset =
      meets-bind _ _ (meets-cell heap path (λ _. Key) offset) (λ content.
      meets-bind _ _ (meets-read (nk_of content)) (λ key.
      meets-bind _ _ (meets-key_name key) (λ name. meets-give (key, name))))

  meets-head : (path : List ℕ) (here : List ℕ → Path) (offset : ℕ) → Meets (head_from heap path here offset)
  meets-head path here offset =
      meets-bind _ _ (meets-named_key path offset) (λ head. meets-then _ _ (meets-no_sibling (here head.1)) (meets-give head))

  pub meets-leaf_from : (path : List ℕ) (offset : ℕ) → Meets (leaf_from heap path offset)
  meets-leaf_from path offset =
      meets-bind _ _ (meets-cell heap path (λ _. Leaf) offset) (λ content.
      meets-bind _ _ (meets-given Record (list_of content) tt) (λ list. meets-then _ _ (meets-leaf list.form) (meets-give list)))

  meets-lists : (go : ℕ → Step (Unit {0})) (path : List ℕ) (n : ℕ) (entries : List Entry) → ((offset : ℕ) → Meets (go offset)) →
      Meets (lists_each heap go path n entries)
  meets-lists go path n [] g = meets-give tt
  meets-lists go path n (e ∷ entries) g =
      meets-bind _ _ (meets-leaf_from path e.offset)
      (λ list. meets-bind _ _ (meets-keys go n list.entries g) (λ m. meets-lists go path m entries g))

  meets-listed : (go : ℕ → Step (Unit {0})) (path : List ℕ) (entries : List Entry) (form : Form) → ((offset : ℕ) → Meets (go offset)) →
      Meets (listed_as heap go path entries form)
  meets-listed go path entries IndexRoot g = meets-lists go path 0 entries g
  meets-listed go path entries IndexLeaf g = meets-then _ _ (meets-keys go 0 entries g) (meets-give tt)
  meets-listed go path entries FastLeaf g = meets-then _ _ (meets-keys go 0 entries g) (meets-give tt)
  meets-listed go path entries HashLeaf g = meets-then _ _ (meets-keys go 0 entries g) (meets-give tt)

  pub meets-list_from : (path : List ℕ) (offset : ℕ) → Meets (list_from heap path offset)
  meets-list_from path offset = meets-bind _ _ (meets-cell heap path (kind_met SubList) offset)
      (λ content. meets-given Record (list_of content) tt)

  meets-subkeys : (go : ℕ → Step (Unit {0})) (path : List ℕ) (count offset : ℕ) → ((offset : ℕ) → Meets (go offset)) →
      Meets (subkeys_from heap go path count offset)
  meets-subkeys go path zero offset g = meets-give tt
  meets-subkeys go path (suc n) offset g = meets-bind _ _ (meets-list_from path offset)
      (λ list. meets-listed go path list.entries list.form g)

module _ (heap : Heap) (minor : ℕ) where
  pub meets-data : (path : List ℕ) (inline : Bool) (size offset : ℕ) → Meets (data_by heap minor path inline size offset)
  meets-data path true size offset =
      meets-then _ _ (meets-check Record (nat_le (inline_size size) 4) tt) (meets-give (take (inline_size size) (little_bytes 4 offset)))
  meets-data path false size offset =
      meets-then _ _ (meets-check Limit (nat_le size DATA_LIMIT) tt)
      (meets-far heap path (nat_le size segment_size || (minor == 3)) size offset)

  meets-value : (path : List ℕ) (before : List Member) (offset : ℕ) → Meets (value_from heap minor path before offset)
  meets-value path before offset =
      meets-bind _ _ (meets-named_value heap path offset) (λ value.
      meets-then _ _ (meets-check Twice (not (list_any (λ (m : Member). same_name m.name value.1) before)) tt)
      (meets-bind _ _ (meets-data path (is_inline value.0.fields.size) value.0.fields.size value.0.fields.offset)
      (λ bytes. meets-give (member_of value.0 bytes))))

  meets-values_each : (path : List ℕ) (before : List Member) (offsets : List ℕ) → Meets (values_each heap minor path before offsets)
  meets-values_each path before [] = meets-give before
  meets-values_each path before (offset ∷ offsets) =
      meets-bind _ _ (meets-value path before offset) (λ member. meets-values_each path (before ++ member ∷ []) offsets)

  pub meets-values : (path : List ℕ) (count offset : ℕ) → Meets (values_from heap minor path count offset)
  meets-values path zero offset = meets-give []
  meets-values path (suc n) offset =
      meets-then _ _ (meets-check Limit (nat_le (suc n) VALUES_LIMIT) tt)
      (meets-bind _ _ (meets-row heap path ValueList (suc n) offset) (λ row. meets-values_each path [] row))

  meets-parts : (path : List ℕ) (key : KeyFields) → Meets (parts_from heap minor path key)
  meets-parts path key =
      meets-bind _ _ (meets-class heap path key.class_length key.class) (λ class.
      meets-bind _ _ (meets-descriptor heap path key.security) (λ descriptor.
      meets-bind _ _ (meets-values path key.values key.values_list) (λ values. meets-give (class, descriptor, values))))

  meets-rest : (path : List ℕ) (at : Path) (key : KeyRecord) (name : List ℕ) → Meets (rest_from heap minor path at key name)
  meets-rest path at key name = meets-bind _ _ (meets-parts path key.fields) (λ parts seen. meets-give tt _)

  meets-key : (levels : ℕ) (path : List ℕ) (here : List ℕ → Path) (offset : ℕ) → Meets (key_from heap minor levels path here offset)
  unfolding key_from
  meets-key zero path here offset = meets-bind _ _ (meets-head heap path here offset) (λ head. meets-check Limit false tt)
  meets-key (suc levels) path here offset =
      meets-bind _ _ (meets-head heap path here offset) (λ head.
      meets-then _ _ (meets-rest (offset ∷ path) (here head.1) head.0 head.1)
      (meets-subkeys heap (key_from heap minor levels (offset ∷ path) (child_path (here head.1))) (offset ∷ path) head.0.fields.subkeys
      head.0.fields.subkeys_list (meets-key levels (offset ∷ path) (child_path (here head.1)))))

pub bins-meet : (bins : List ℕ) (minor root : ℕ) → Meets (bins_walk bins minor root)
unfolding bins_walk
bins-meet bins minor root =
    meets-bind _ _ (meets-given Bins (bins_of bins) tt) (λ places.
    meets-bind _ _ (meets-given Cells (cells_of_bins bins places) tt) (λ cells.
    meets-key (content_in bins cells) minor (suc PATH_LIMIT) [] root_path root))
