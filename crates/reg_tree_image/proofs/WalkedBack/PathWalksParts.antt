-- What the records of a walk gave and named, they give and name wherever fewer were named.
use Rattle.std.proofs.Common.{◌≡◌, ℕ, ◌≤◌, arith, zero, suc, ◌==◌, ◌%◌, ◌||◌, nat_le, nat_lt, not, Bool, true, false, Ok, List, [], ◌∷◌, ◌++◌, length, take, bit_and, ap}
use Rattle.std.specs.List.{list_all, list_any}
use Rattle.byteorder.specs.Endian.{little_bytes}
use Rattle.reg_names.specs.declared.TheConstants.{KEY_NAME_LIMIT, VALUE_NAME_LIMIT}
use Rattle.reg_names.specs.Names.{is_key_name_byte, is_value_name_byte}
use Rattle.reg_heap.specs.declared.limits.TheConstants.{DATA_LIMIT, DESCRIPTOR_LIMIT, VALUES_LIMIT}
use Rattle.reg_heap.specs.Paths.{Member}
use Rattle.reg_heap.specs.Heaps.{Heap}
use Rattle.reg_heap.specs.Members.{same_name}
use Rattle.reg_heap.specs.Kinds.{Kind, is_own, times, owned}
use Rattle.reg_heap.specs.Kinds.Kind.{Key, Class, SubList, Leaf, ValueList, Value, Data, BigHead, BigList, Security}
use Rattle.reg_records.specs.declared.lists.ListForm.TheVariants.{IndexRoot, IndexLeaf, FastLeaf, HashLeaf}
use Rattle.reg_records.specs.declared.nk.KeyFields.{KeyFields}
use Rattle.reg_records.specs.KeyNodes.{KeyRecord, nk_of}
use Rattle.reg_records.specs.KeyValues.{KeyValueRecord, vk_of}
use Rattle.reg_records.specs.KeySecurities.{sk_of}
use Rattle.reg_records.specs.OffsetRows.{row_in}
use Rattle.reg_records.specs.SubkeyLists.{Form, list_of}
use Rattle.reg_records.specs.BigData.{Named, segment_size, is_inline, inline_size, segments_for, segments, db_of}
use Rattle.reg_shape.specs.Walk.{kind_met}
use Rattle.reg_shape.specs.Nodes.{letters, member_of}
use Rattle.reg_tree_image.specs.declared.LoadFault.TheVariants.{Record, Twice, NotInProfile, Limit}
use Rattle.reg_tree_image.specs.WalkSteps.{Seen, ◌>>=◌, give, cell}
use Rattle.reg_tree_image.specs.LoadingWalk.{read, name_in, key_name, value_name, bytes_from, row_from, pieces_from, class_from, descriptor_from, big_from, far_from, named_value, named_key, leaf_as, leaf_from, list_from, data_by, value_from, values_each, values_from, parts_from}
use Rattle.reg_shape.proofs.Wholeness.ShapeCounts.{tally-append}
use Rattle.reg_tree_image.proofs.WalkedBack.BackSteps.{bind-back, cell-back}
use Rattle.reg_tree_image.proofs.WalkedBack.PathWalksSteps.{Repeats, repeats-give, repeats-bind, repeats-check, repeats-given, repeats-last, repeats-read, repeats-cell, fewer-then}

-- ---- names

repeats-name : (path : List ℕ) (single : Bool) (most : ℕ) (allowed : ℕ → Bool) (name : List ℕ) → Repeats path (name_in single most allowed name) (name_in single most allowed name)
repeats-name path single most allowed name =
    repeats-check path Record (single || (length name % 2 == 0)) _ _ (
    repeats-check path Limit (nat_le (length (letters single name)) most) _ _ (repeats-check path NotInProfile (list_all allowed (letters single name)) _ _ (repeats-give path (letters single name))))

repeats-key-name : (path : List ℕ) (key : KeyRecord) → Repeats path (key_name key) (key_name key)
repeats-key-name path key =
    repeats-check path Record (nat_lt 0 (length key.name)) _ _ (repeats-name path (not (bit_and key.fields.flags 32 == 0)) KEY_NAME_LIMIT is_key_name_byte key.name)

repeats-value-name : (path : List ℕ) (value : KeyValueRecord) → Repeats path (value_name value) (value_name value)
repeats-value-name path value = repeats-name path (not (bit_and value.fields.flags 1 == 0)) VALUE_NAME_LIMIT is_value_name_byte value.name

repeats-form : (path : List ℕ) (form : Form) → Repeats path (leaf_as form) (leaf_as form)
repeats-form path IndexRoot = λ seen y after e. absurd (cc)
repeats-form path IndexLeaf = repeats-give path tt
repeats-form path FastLeaf = repeats-give path tt
repeats-form path HashLeaf = repeats-give path tt

module _ (heap : Heap) (above path : List ℕ) where
  repeats-bytes : (n : Named) → Repeats path (bytes_from heap above n) (bytes_from heap path n)
  repeats-bytes n = repeats-bind path _ _ _ _ (repeats-cell heap above path (λ _. n.kind) n.offset) (λ content. repeats-check path Record (nat_le n.size (length content)) _ _ (repeats-give path (take n.size content)))

  pub repeats-row : (kind : Kind) (count offset : ℕ) → Repeats path (row_from heap above kind count offset) (row_from heap path kind count offset)
  repeats-row kind count offset = repeats-bind path _ _ _ _ (repeats-cell heap above path (λ _. kind) offset) (λ content. repeats-last path Record (row_in count content))

  repeats-pieces : (so_far : List ℕ) (names : List Named) → Repeats path (pieces_from heap above so_far names) (pieces_from heap path so_far names)
  repeats-pieces so_far [] = repeats-give path so_far
  repeats-pieces so_far (n ∷ names) = repeats-bind path _ _ _ _ (repeats-bytes n) (λ piece. repeats-pieces (so_far ++ piece) names)

  pub repeats-class : (size offset : ℕ) → Repeats path (class_from heap above size offset) (class_from heap path size offset)
  repeats-class zero offset = repeats-give path []
  repeats-class (suc n) offset = repeats-bytes (record { kind = Class; size = suc n; offset = offset })

  pub repeats-descriptor : (offset : ℕ) → Repeats path (descriptor_from heap above offset) (descriptor_from heap path offset)
  repeats-descriptor offset =
      repeats-bind path _ _ _ _ (repeats-cell heap above path (λ _. Security) offset) (λ content.
      repeats-read path (sk_of content) _ _ (λ security.
      repeats-check path Record (nat_lt 0 (length security.descriptor)) _ _ (repeats-check path Limit (nat_le (length security.descriptor) DESCRIPTOR_LIMIT) _ _ (repeats-give path security.descriptor))))

  repeats-big : (size offset : ℕ) → Repeats path (big_from heap above size offset) (big_from heap path size offset)
  repeats-big size offset =
      repeats-bind path _ _ _ _ (repeats-cell heap above path (λ _. BigHead) offset) (λ content.
      repeats-given path Record (db_of content) _ _ (λ big.
      repeats-check path Record (nat_le (segments_for size) big.count) _ _ (repeats-bind path _ _ _ _ (repeats-row BigList (segments_for size) big.list) (λ row. repeats-pieces [] (segments size row)))))

  repeats-far : (single : Bool) (size offset : ℕ) → Repeats path (far_from heap above single size offset) (far_from heap path single size offset)
  repeats-far single zero offset = repeats-give path []
  repeats-far true (suc n) offset = repeats-bytes (record { kind = Data; size = suc n; offset = offset })
  repeats-far false (suc n) offset = repeats-big (suc n) offset

  pub repeats-value-named : (offset : ℕ) → Repeats path (named_value heap above offset) (named_value heap path offset)
  repeats-value-named offset =
      repeats-bind path _ _ _ _ (repeats-cell heap above path (λ _. Value) offset) (λ content.
      repeats-read path (vk_of content) _ _ (λ value.
      repeats-bind path _ _ _ _ (repeats-value-name path value) (λ name. repeats-give path (value, name))))

  -- ---- a key's record, and its lists

  pub repeats-key-named : (offset : ℕ) → Repeats path (named_key heap above offset) (named_key heap path offset)
  repeats-key-named offset =
      repeats-bind path _ _ _ _ (repeats-cell heap above path (λ _. Key) offset) (λ content.
      repeats-read path (nk_of content) _ _ (λ key.
      repeats-bind path _ _ _ _ (repeats-key-name path key) (λ name. repeats-give path (key, name))))

  -- a key that was named is one of the path below it
  pub named-keys : (offset : ℕ) (now : Seen) (head : KeyRecord × List ℕ) (mid : Seen) → named_key heap path offset now ≡ Ok (head, mid) →
      ((o : ℕ) → times o path ≤ owned o now.found) → (o : ℕ) → times o (offset ∷ path) ≤ owned o mid.found
  named-keys offset now head mid e k o =
      let with_name = λ (key : KeyRecord). key_name key >>= (λ name. give (key, name)) in
      let n = bind-back (cell heap path (λ _. Key) offset) (λ content. read (nk_of content) >>= with_name) now head mid e in
      let c = cell-back heap path (λ _. Key) offset now n.first n.mid n.first_is in
      let r = repeats-read path (nk_of n.first) with_name with_name (λ key.
      repeats-bind path (key_name key) (key_name key) (λ name. give (key, name)) (λ name. give (key, name)) (repeats-key-name path key) (λ name. repeats-give path (key, name)))
      n.mid head mid n.then_is in
      let one = ap (owned o) c.found in
      let a = tally-append (is_own o) now.found (record { kind = Key; offset = offset } ∷ []) in
      let more = fewer-then n.mid mid r.met (ap (λ (s : Seen). s.found) r.is) (is_own o) in
      let l = k o in
      omega (arith, one, a, more, l)

  pub repeats-leaf : (offset : ℕ) → Repeats path (leaf_from heap above offset) (leaf_from heap path offset)
  repeats-leaf offset =
      repeats-bind path _ _ _ _ (repeats-cell heap above path (λ _. Leaf) offset) (λ content.
      repeats-given path Record (list_of content) _ _ (λ list.
      repeats-bind path _ _ _ _ (repeats-form path list.form) (λ u. repeats-give path list)))

  pub repeats-list : (offset : ℕ) → Repeats path (list_from heap above offset) (list_from heap path offset)
  repeats-list offset = repeats-bind path _ _ _ _ (repeats-cell heap above path (kind_met SubList) offset) (λ content. repeats-last path Record (list_of content))

module _ (heap : Heap) (minor : ℕ) (above path : List ℕ) where
  pub repeats-data : (inline : Bool) (size offset : ℕ) → Repeats path (data_by heap minor above inline size offset) (data_by heap minor path inline size offset)
  repeats-data true size offset = repeats-check path Record (nat_le (inline_size size) 4) _ _ (repeats-give path (take (inline_size size) (little_bytes 4 offset)))
  repeats-data false size offset = repeats-check path Limit (nat_le size DATA_LIMIT) _ _ (repeats-far heap above path (nat_le size segment_size || (minor == 3)) size offset)

  repeats-value : (before : List Member) (offset : ℕ) → Repeats path (value_from heap minor above before offset) (value_from heap minor path before offset)
  repeats-value before offset =
      repeats-bind path _ _ _ _ (repeats-value-named heap above path offset) (λ value.
      repeats-check path Twice (not (list_any (λ (m : Member). same_name m.name value.1) before)) _ _ (
      repeats-bind path _ _ _ _ (repeats-data (is_inline value.0.fields.size) value.0.fields.size value.0.fields.offset) (λ bytes.
      repeats-give path (member_of value.0 bytes))))

  repeats-each : (before : List Member) (offsets : List ℕ) → Repeats path (values_each heap minor above before offsets) (values_each heap minor path before offsets)
  repeats-each before [] = repeats-give path before
  repeats-each before (offset ∷ offsets) = repeats-bind path _ _ _ _ (repeats-value before offset) (λ member. repeats-each (before ++ member ∷ []) offsets)

  pub repeats-values : (count offset : ℕ) → Repeats path (values_from heap minor above count offset) (values_from heap minor path count offset)
  repeats-values zero offset = repeats-give path []
  repeats-values (suc n) offset =
      repeats-check path Limit (nat_le (suc n) VALUES_LIMIT) _ _ (repeats-bind path _ _ _ _ (repeats-row heap above path ValueList (suc n) offset) (λ row. repeats-each [] row))

  pub repeats-parts : (key : KeyFields) → Repeats path (parts_from heap minor above key) (parts_from heap minor path key)
  repeats-parts key =
      repeats-bind path _ _ _ _ (repeats-class heap above path key.class_length key.class) (λ class.
      repeats-bind path _ _ _ _ (repeats-descriptor heap above path key.security) (λ descriptor.
      repeats-bind path _ _ _ _ (repeats-values key.values key.values_list) (λ values.
      repeats-give path (class, descriptor, values))))
