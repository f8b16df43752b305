-- The walk of the bins along a path meets no fault of a reader, and no want of memory.
use Rattle.std.proofs.Common.{ℕ, zero, suc, nat_le, Bool, true, false, Option, Some, None, List, [], ◌∷◌, ◌++◌}
use Rattle.reg_heap.specs.declared.limits.TheConstants.{VALUES_LIMIT}
use Rattle.reg_heap.specs.Heaps.{Heap}
use Rattle.reg_heap.specs.Kinds.Kind.{ValueList}
use Rattle.reg_heap.specs.Members.{same_name}
use Rattle.reg_heap.specs.Paths.{Member}
use Rattle.reg_records.specs.BigData.{is_inline}
use Rattle.reg_records.specs.SubkeyLists.{Entry, Form}
use Rattle.reg_records.specs.declared.lists.ListForm.TheVariants.{IndexRoot, IndexLeaf, FastLeaf, HashLeaf}
use Rattle.reg_shape.specs.Nodes.{member_of}
use Rattle.reg_arena.specs.Cells.{bins_of, cells_of_bins, content_in}
use Rattle.reg_tree_image.specs.declared.LoadFault.TheVariants.{Bins, Cells, Limit}
use Rattle.reg_tree_image.specs.WalkSteps.{Step, give}
use Rattle.reg_tree_image.specs.PathWalk.{Reached, or_else, go_on, either, key_among, key_in_lists, key_as, subkey_from, reached_from, key_of_path}
use Rattle.reg_tree_image.specs.PathWalk.{value_among, value_from, value_reached, value_of_path}
use Rattle.reg_tree_image.specs.PathLoads.{Walk, bins_path, value_walk, key_walk}
use Rattle.reg_tree_image.specs.KeyListing.{KeyRead, names_each, names_in_lists, names_as, subkey_names, key_read, reached_read, key_on_path}
use Rattle.reg_tree_image.proofs.Devices.FaultsOfSteps.{Meets, meets-give, meets-check, meets-given, meets-bind, meets-then}
use Rattle.reg_tree_image.proofs.Devices.FaultsOfWalks.{meets-row, meets-named_value, meets-named_key, meets-leaf_from, meets-list_from, meets-data, meets-values}

meets-either : {A : Type 0} (b : Bool) (s t : Step A) → Meets s → Meets t → Meets (either b s t)
meets-either true s t m n = m
meets-either false s t m n = n

meets-or : {A : Type 0} (found : Option A) (next : Step (Option A)) → Meets next → Meets (or_else found next)
meets-or (Some x) next m = meets-give (Some x)
meets-or None next m = m

meets-on : {A : Type 0} (found : Option A) (next : A → Step (Option A)) → ((x : A) → Meets (next x)) → Meets (go_on found next)
meets-on {A} None next m = meets-give {A = Option A} None
meets-on (Some x) next m = m x

module _ (heap : Heap) where
  meets-among : (path name : List ℕ) (entries : List Entry) → Meets (key_among heap path name entries)
  meets-among path name [] = meets-give {A = Option Reached} None
  meets-among path name (e ∷ entries) =
      meets-bind _ _ (meets-named_key heap path e.offset) (λ head.
      meets-either (same_name head.1 name) (give (Some (record { offset = e.offset; key = head.0; name = head.1; above = path })))
      (key_among heap path name entries)
      (meets-give (Some (record { offset = e.offset; key = head.0; name = head.1; above = path }))) (meets-among path name entries))

  meets-in-lists : (path name : List ℕ) (entries : List Entry) → Meets (key_in_lists heap path name entries)
  meets-in-lists path name [] = meets-give {A = Option Reached} None
  meets-in-lists path name (e ∷ entries) =
      meets-bind _ _ (meets-leaf_from heap path e.offset) (λ list.
      meets-bind _ _ (meets-among path name list.entries) (λ found. meets-or found (key_in_lists heap path name entries) (meets-in-lists path name entries)))

  meets-as : (path name : List ℕ) (entries : List Entry) (form : Form) → Meets (key_as heap path name entries form)
  meets-as path name entries IndexRoot = meets-in-lists path name entries
  meets-as path name entries IndexLeaf = meets-among path name entries
  meets-as path name entries FastLeaf = meets-among path name entries
  meets-as path name entries HashLeaf = meets-among path name entries

  meets-subkey : (path name : List ℕ) (count offset : ℕ) → Meets (subkey_from heap path name count offset)
  meets-subkey path name zero offset = meets-give {A = Option Reached} None
  meets-subkey path name (suc n) offset = meets-bind _ _ (meets-list_from heap path offset) (λ list. meets-as path name list.entries list.form)

  meets-reached : (names : List (List ℕ)) (at : Reached) → Meets (reached_from heap names at)
  meets-reached [] at = meets-give (Some at)
  meets-reached (name ∷ names) at =
      meets-bind _ _ (meets-subkey (at.offset ∷ at.above) name at.key.fields.subkeys at.key.fields.subkeys_list)
      (λ found. meets-on found (reached_from heap names) (meets-reached names))

  meets-path : (names : List (List ℕ)) (root : ℕ) → Meets (key_of_path heap names root)
  meets-path names root =
      meets-bind _ _ (meets-named_key heap [] root) (λ head. meets-reached names (record { offset = root; key = head.0; name = head.1; above = [] }))

module _ (heap : Heap) (minor : ℕ) where
  meets-value-among : (path name : List ℕ) (offsets : List ℕ) → Meets (value_among heap minor path name offsets)
  meets-value-among path name [] = meets-give {A = Option Member} None
  meets-value-among path name (offset ∷ offsets) =
      meets-bind _ _ (meets-named_value heap path offset) (λ value.
      meets-either (same_name value.1 name) _ (value_among heap minor path name offsets)
      (meets-bind _ _ (meets-data heap minor path (is_inline value.0.fields.size) value.0.fields.size value.0.fields.offset)
      (λ bytes. meets-give (Some (member_of value.0 bytes))))
      (meets-value-among path name offsets))

  meets-value-from : (path name : List ℕ) (count offset : ℕ) → Meets (value_from heap minor path name count offset)
  meets-value-from path name zero offset = meets-give {A = Option Member} None
  meets-value-from path name (suc n) offset =
      meets-then _ _ (meets-check Limit (nat_le (suc n) VALUES_LIMIT) tt)
      (meets-bind _ _ (meets-row heap path ValueList (suc n) offset) (λ row. meets-value-among path name row))

  meets-value-reached : (name : List ℕ) (found : Option Reached) → Meets (value_reached heap minor name found)
  meets-value-reached name None = meets-give {A = Option (Option Member)} None
  meets-value-reached name (Some at) =
      meets-bind _ _ (meets-value-from (at.offset ∷ at.above) name at.key.fields.values at.key.fields.values_list) (λ value. meets-give (Some value))

  meets-value : (names : List (List ℕ)) (root : ℕ) (name : List ℕ) → Meets (value_of_path heap minor names root name)
  meets-value names root name = meets-bind _ _ (meets-path heap names root) (λ found. meets-value-reached name found)

-- the keys right below it, and its values
module _ (heap : Heap) where
  meets-names : (path : List ℕ) (before : List (List ℕ)) (entries : List Entry) → Meets (names_each heap path before entries)
  meets-names path before [] = meets-give before
  meets-names path before (e ∷ entries) =
      meets-bind _ _ (meets-named_key heap path e.offset) (λ head. meets-names path (before ++ head.1 ∷ []) entries)

  meets-names-in-lists : (path : List ℕ) (before : List (List ℕ)) (entries : List Entry) → Meets (names_in_lists heap path before entries)
  meets-names-in-lists path before [] = meets-give before
  meets-names-in-lists path before (e ∷ entries) =
      meets-bind _ _ (meets-leaf_from heap path e.offset) (λ list.
      meets-bind _ _ (meets-names path before list.entries) (λ names. meets-names-in-lists path names entries))

  meets-names-as : (path : List ℕ) (before : List (List ℕ)) (entries : List Entry) (form : Form) → Meets (names_as heap path before entries form)
  meets-names-as path before entries IndexRoot = meets-names-in-lists path before entries
  meets-names-as path before entries IndexLeaf = meets-names path before entries
  meets-names-as path before entries FastLeaf = meets-names path before entries
  meets-names-as path before entries HashLeaf = meets-names path before entries

  meets-subkey-names : (path : List ℕ) (before : List (List ℕ)) (count offset : ℕ) → Meets (subkey_names heap path before count offset)
  meets-subkey-names path before zero offset = meets-give before
  meets-subkey-names path before (suc n) offset =
      meets-bind _ _ (meets-list_from heap path offset) (λ list. meets-names-as path before list.entries list.form)

module _ (heap : Heap) (minor : ℕ) where
  meets-read : (found : Option Reached) → Meets (reached_read heap minor found)
  meets-read None = meets-give {A = Option KeyRead} None
  meets-read (Some at) =
      meets-bind (key_read heap minor at) _
      (meets-bind _ _ (meets-values heap minor (at.offset ∷ at.above) at.key.fields.values at.key.fields.values_list) (λ values.
      meets-bind _ _ (meets-subkey-names heap (at.offset ∷ at.above) [] at.key.fields.subkeys at.key.fields.subkeys_list) (λ subkeys.
      meets-give (record { values = values; subkeys = subkeys }))))
      (λ key. meets-give (Some key))

  meets-key : (names : List (List ℕ)) (root : ℕ) → Meets (key_on_path heap minor names root)
  meets-key names root = meets-bind _ _ (meets-path heap names root) meets-read

-- a walk meets none
abbrev pub WalkMeets : {A : Type 0} → Walk A → Type 0
WalkMeets walk = (heap : Heap) (minor root : ℕ) → Meets (walk heap minor root)

pub value-meets : (names : List (List ℕ)) (name : List ℕ) → WalkMeets (value_walk names name)
value-meets names name heap minor root = meets-value heap minor names root name

pub key-meets : (names : List (List ℕ)) → WalkMeets (key_walk names)
key-meets names heap minor root = meets-key heap minor names root

pub path-meets : {A : Type 0} (walk : Walk A) → WalkMeets walk → (bins : List ℕ) (minor root : ℕ) → Meets (bins_path walk bins minor root)
unfolding bins_path
path-meets walk meets bins minor root =
    meets-bind _ _ (meets-given Bins (bins_of bins) tt) (λ places.
    meets-bind _ _ (meets-given Cells (cells_of_bins bins places) tt) (λ cells. meets (content_in bins cells) minor root))
