-- The tree that a heap of bytes spells is of bytes.
use Rattle.std.proofs.Common.{ℕ, zero, suc, Option, Some, None, List, [], ◌∷◌, ◌++◌, map, sym, ◌∙◌, subst, length}
use Rattle.std.specs.Prelude.{IfSome, ⊤}
use Rattle.std.specs.Option.{option_map, option_and_then}
use Rattle.std.specs.List.{AllByRecursion}
use Rattle.std.specs.FinMap.{find, from_entries, get-from_entries}
use Rattle.std.specs.Ordering.{eq_by_cmp}
use Rattle.reg_heap.specs.Paths.{Path, Tree, Rec, Member, path_cmp}
use Rattle.reg_heap.specs.Heaps.{Heap}
use Rattle.reg_heap.specs.Kinds.{Found}
use Rattle.reg_heap.specs.Kinds.Kind.{Class}
use Rattle.reg_records.specs.BigData.{if_any}
use Rattle.reg_records.specs.KeyNodes.{KeyRecord, key_at}
use Rattle.reg_records.specs.KeySecurities.{KeySecurityRecord, security_at}
use Rattle.reg_records.specs.SubkeyLists.{offsets_in}
use Rattle.reg_shape.specs.Nodes.{Node, pieces_at, members_at, index_at, node_of, node_in, entries_of, look}
use Rattle.reg_shape.specs.Walk.{gather}
use Rattle.reg_shape.specs.Spelt.{rec_of, rec_in, behind, keys_of, keys_from, below_root, spelt}
use Rattle.reg_shape.proofs.Refinement.SpeltTrees.{path_total}
use Rattle.reg_tree.specs.TreeKeys.{IsWholeTree}
use Rattle.reg_arena.specs.Cells.{cell_at}
use Rattle.reg_tree.specs.ValueBytes.{AreBytes, HoldsBytes, IsOfBytes}
use Rattle.reg_tree.proofs.ByteValues.ReadBytes.{IsOfCells, cells-bytes, some-either, members-bytes}

-- ---- results that may be missing

if-any : {A : Type 0} (o : Option A) → IfSome o (λ _. ⊤)
if-any None = tt
if-any (Some a) = tt

if-then : {A B : Type 0} (P : A → Type 0) (Q : B → Type 0) (f : A → Option B) (o : Option A) → IfSome o P → ((a : A) → P a → IfSome (f a) Q) →
    IfSome (option_and_then f o) Q
if-then P Q f None p q = tt
if-then P Q f (Some a) p q = q a p

if-mapped : {A B : Type 0} (P : A → Type 0) (Q : B → Type 0) (f : A → B) (o : Option A) → IfSome o P → ((a : A) → P a → Q (f a)) →
    IfSome (option_map f o) Q
if-mapped P Q f None p q = tt
if-mapped P Q f (Some a) p q = q a p

-- ---- lists of keys

abbrev KeyOfBytes : Rec → Type 0
KeyOfBytes key = AllByRecursion HoldsBytes key.values

abbrev AreOfBytes : List (Path × Rec) → Type 0
AreOfBytes keys = AllByRecursion (λ (e : Path × Rec). KeyOfBytes e.1) keys

both-of : (xs ys : List (Path × Rec)) → AreOfBytes xs → AreOfBytes ys → AreOfBytes (xs ++ ys)
both-of [] ys a b = b
both-of (x ∷ xs) ys a b = (a.0, both-of xs ys a.1 b)

mapped-of : (f : Path × Rec → Path × Rec) → ((e : Path × Rec) → KeyOfBytes e.1 → KeyOfBytes (f e).1) → (xs : List (Path × Rec)) → AreOfBytes xs →
    AreOfBytes (map f xs)
mapped-of f h [] a = tt
mapped-of f h (x ∷ xs) a = (h x a.0, mapped-of f h xs a.1)

gathered-of : (go : ℕ → Option (List (Path × Rec))) → ((offset : ℕ) → IfSome (go offset) AreOfBytes) → (offsets : List ℕ) →
    IfSome (gather go offsets) AreOfBytes
gathered-of go h [] = tt
gathered-of go h (o ∷ offsets) =
    if-then AreOfBytes AreOfBytes (λ ys. option_map (λ zs. ys ++ zs) (gather go offsets)) (go o) (h o)
    (λ ys p. if-mapped AreOfBytes AreOfBytes (λ zs. ys ++ zs) (gather go offsets) (gathered-of go h offsets) (λ zs q. both-of ys zs p q))

-- ---- keys as they are read

module _ (heap : Heap) (h : IsOfCells heap) where
  abbrev NodeOfBytes : Node → Type 0
  NodeOfBytes node = AllByRecursion HoldsBytes node.values

  node-bytes : (offset : ℕ) (key : KeyRecord) → IfSome (node_in heap offset key) NodeOfBytes
  node-bytes offset key =
      if-then (λ _. ⊤) NodeOfBytes
      (λ (class : List ℕ × List Found). option_and_then (λ (values : List Member × List Found).
      option_map (node_of offset key class values) (index_at heap key.fields.subkeys key.fields.subkeys_list))
      (members_at key.fields.values key.fields.values_list heap))
      (pieces_at (if_any Class key.fields.class_length key.fields.class) heap) (if-any (pieces_at (if_any Class key.fields.class_length key.fields.class) heap))
      (λ class _. if-then (λ (values : List Member × List Found). AllByRecursion HoldsBytes values.0) NodeOfBytes
      (λ values. option_map (node_of offset key class values) (index_at heap key.fields.subkeys key.fields.subkeys_list))
      (members_at key.fields.values key.fields.values_list heap) (members-bytes heap h key.fields.values key.fields.values_list)
      (λ values v. if-mapped (λ _. ⊤) NodeOfBytes (node_of offset key class values) (index_at heap key.fields.subkeys key.fields.subkeys_list)
      (if-any (index_at heap key.fields.subkeys key.fields.subkeys_list)) (λ index _. v)))

  look-bytes : (offset : ℕ) → IfSome (look heap offset) NodeOfBytes
  unfolding look
  look-bytes offset =
      if-then (λ _. ⊤) NodeOfBytes (node_in heap offset) (key_at heap offset) (if-any (key_at heap offset)) (λ key _. node-bytes offset key)

  key-bytes : (go : ℕ → Option (List (Path × Rec))) → ((offset : ℕ) → IfSome (go offset) AreOfBytes) → (node : Node) → NodeOfBytes node →
      IfSome (keys_of go heap node) AreOfBytes
  key-bytes go all node n =
      if-then KeyOfBytes AreOfBytes (λ rec. option_map (behind rec) (gather go (offsets_in (entries_of node.index)))) (rec_in heap node)
      (if-mapped (λ _. ⊤) KeyOfBytes (λ (s : KeySecurityRecord). rec_of node s.descriptor) (security_at heap node.key.fields.security)
      (if-any (security_at heap node.key.fields.security)) (λ s _. n))
      (λ rec r. if-mapped AreOfBytes AreOfBytes (behind rec) (gather go (offsets_in (entries_of node.index)))
      (gathered-of go all (offsets_in (entries_of node.index)))
      (λ below b. mapped-of _ (λ e k. k) (([], rec) ∷ below) (r, b)))

  keys-bytes : (fuel offset : ℕ) → IfSome (keys_from fuel heap offset) AreOfBytes
  unfolding keys_from
  keys-bytes zero offset = tt
  keys-bytes (suc fuel) offset =
      if-then NodeOfBytes AreOfBytes (keys_of (keys_from fuel heap) heap) (look heap offset) (look-bytes offset)
      (key-bytes (keys_from fuel heap) (keys-bytes fuel))

  -- ---- the tree

  found-of : (q : Path) (es : List (Path × Rec)) → AreOfBytes es → IfSome (find path_cmp q es) KeyOfBytes
  found-of q [] a = tt
  found-of q (e ∷ es) a = some-either KeyOfBytes (eq_by_cmp path_cmp q e.0) (Some e.1) (find path_cmp q es) a.0 (found-of q es a.1)

  entries-bytes : (es : List (Path × Rec)) → AreOfBytes es → IsOfBytes (from_entries es)
  entries-bytes es a = record { values = λ path key e. subst (λ (o : Option Rec). IfSome o KeyOfBytes) (sym (get-from_entries path_total es path) ∙ e) (found-of path es a) }

  spelt-bytes : (fuel root : ℕ) → IfSome (spelt fuel heap root) IsOfBytes
  unfolding spelt
  spelt-bytes fuel root =
      if-mapped AreOfBytes IsOfBytes (λ keys. from_entries (map below_root keys)) (keys_from fuel heap root) (keys-bytes fuel root)
      (λ keys k. entries-bytes (map below_root keys) (mapped-of below_root (λ e k. k) keys k))

pub tree-bytes : (bytes : List ℕ) (root : ℕ) (tree : Tree) → AreBytes bytes → IsWholeTree bytes root tree → IsOfBytes tree
tree-bytes bytes root tree a w =
    subst (λ (o : Option Tree). IfSome o IsOfBytes) w.spells (spelt-bytes (cell_at bytes) (cells-bytes bytes a) (length w.cells) root)
