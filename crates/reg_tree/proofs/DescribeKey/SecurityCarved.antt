-- A cell carved for a descriptor, if it takes one: the tree is as it was, and may be described; and what came when it was, and how the
-- bins grew.
use Rattle.std.proofs.Common.{◌≡◌, ℕ, zero, suc, ◌+◌, ◌<◌, Option, Some, None, IsSome, is_some, cond, List, [], ◌∷◌, length, refl, sym, ap, ◌∙◌, subst, arith}
use Rattle.std.specs.Option.{option_map}
use Rattle.std.proofs.lemmas.Bool.{false≢true}
use Rattle.reg_heap.specs.Paths.{Path, Tree}
use Rattle.reg_heap.specs.Edits.{edited, with_descriptor}
use Rattle.reg_heap.specs.Heaps.{Heap, CellFrame, allocated}
use Rattle.reg_heap.specs.Kinds.{times}
use Rattle.reg_arena.specs.Arena.{Bins, heap_of}
use Rattle.reg_arena.specs.EachCell.{GrowsFor}
use Rattle.reg_arena.specs.NewCells.{cell_size}
use Rattle.reg_records.specs.RecordCells.{held}
use Rattle.reg_records.specs.KeySecurities.{KeySecurityRecord}
use Rattle.reg_records.proofs.KeySecurityCodec.{security_at-same}
use Rattle.reg_shape.specs.Internal.Forests.{Branch}
use Rattle.reg_shape.specs.Nodes.{Node}
use Rattle.reg_shape.specs.Internal.Shapes.{tree_of}
use Rattle.reg_shape.specs.Internal.Grafts.{IsShape}
use Rattle.reg_shape.specs.PathLookup.{key_offset_at}
use Rattle.reg_shape.proofs.Wholeness.ShapeRecords.{at-most-one, is-allocated, allocated-is}
use Rattle.reg_values.specs.ValueLists.{Makes}
use Rattle.reg_values.proofs.ValueFreeing.FrameChains.{times-same}
use Rattle.reg_index.specs.Subkeys.{KeepsCells, taken}
use Rattle.reg_security.specs.Rings.{DescriptorCells, Finds, cell_of}
use Rattle.reg_security.proofs.TableCells.{finds-same}
use Rattle.reg_tree.specs.CellSizes.{planned_sizes, security_sizes}
use Rattle.reg_tree.specs.KeyLengths.{lengths_of}
use Rattle.reg_tree.specs.TreeKeys.{tree_in}
use Rattle.reg_tree.specs.Internal.DescriptorChange.{IsCarvedFor, IsDescribable, IsDescribed, IsPlaced}
use Rattle.reg_tree.specs.Internal.KeyNodeChanges.{LeavesOthers}
use Rattle.reg_tree.specs.Internal.LengthChanges.{LengthsStay}
use Rattle.reg_tree.specs.Internal.TreeInvariant.{HasShortClasses, IsHere, IsChanged}
use Rattle.reg_tree.proofs.InsertKey.CreatePathMade.{growth-then}
use Rattle.reg_tree.proofs.InsertKey.SpareCellsCarved.{calm, shape-spared, tree-spared, offsets-spared}
use Rattle.reg_tree.proofs.Invariant.CellReadings.{key-exists, key-moved, is_some_of}
use Rattle.reg_tree.proofs.Invariant.DescribedKeys.{described_sizes}
use Rattle.reg_tree.proofs.Invariant.KeyOfShape as keyed
use Rattle.reg_tree.proofs.Invariant.KeyOfTree.{spelt_is}
use Rattle.reg_tree.proofs.Invariant.UntouchedCells.{there-is}

-- ---- a cell that came

module _ (h k : Heap) (c : ℕ) (come : CellFrame h k (λ z. 0) (λ z. times z (c ∷ []))) where
  came-there : IsSome (k c)
  came-there = is-allocated k c (let a = come.count c in let t = times-same c in omega (arith, a, t))

  was-none : h c ≡ None
  was-none = by (h c) refl
    where
      by : (o : Option (List ℕ)) → h c ≡ o → h c ≡ None
      by None e = e
      by (Some x) e =
          let a = come.count c in
          let t = times-same c in
          let o = at-most-one k c in
          let there = allocated-is h c (ap is_some e) in
          absurd (omega (arith, a, t, o, there))

  only-came : (z : ℕ) → h z ≡ None → IsSome (k z) → 0 < times z (c ∷ [])
  only-came z none there = by (times z (c ∷ [])) refl
    where
      by : (t : ℕ) → times z (c ∷ []) ≡ t → 0 < times z (c ∷ [])
      by zero e = absurd (false≢true (sym (ap is_some (come.same z refl e ∙ none)) ∙ there))
      by (suc t) e = omega (arith, e)

-- no cell came
pub makes-none : (h k : Heap) → KeepsCells h k → Makes h k []
makes-none h k keeps = record {
  offsets = [];
  sizes_are = refl;
  once = λ z. omega arith;
  fresh = λ z l. absurd (omega (arith, l));
  only = λ z none there. absurd (false≢true (sym (ap is_some none) ∙ (keeps z there).0));
}

-- one came, and stays
pub makes-one : (h k j : Heap) (c size : ℕ) (ring : List ℕ) → CellFrame h k (λ z. 0) (λ z. times z (c ∷ [])) → length (held k c) + 4 ≡ size →
    KeepsCells k j → LeavesOthers k j ring → times c ring ≡ 0 → Makes h j (size ∷ [])
makes-one h k j c size ring come long keeps leaves apart = record {
  offsets = c ∷ [];
  sizes_are = ap (λ n. (n + 4) ∷ []) (keeps c (leaves c (came-there h k c come) apart)).1 ∙ ap (λ n. n ∷ []) long;
  once = λ z. (let a = come.count z in let o = at-most-one k z in omega (arith, a, o));
  fresh = λ z l. subst (λ z. h z ≡ None) (sym (there-is z c l)) (was-none h k c come);
  only = λ z none there. only-came h k c come z none (keeps z there).0;
}

-- ---- a key of the tree

module _ (old mid : Bins) (before after : DescriptorCells) (descriptor : List ℕ) (key : ℕ) (t : IsHere old.bytes key) (same : t.table ≡ before) where
  abbrev h : Heap
  h = heap_of old

  abbrev k : Heap
  k = heap_of mid

  abbrev keys : Branch Node
  keys = t.holds.keys

  abbrev ring : List ℕ
  ring = t.holds.ring

  finds : Finds before h ring
  finds = subst (λ (table : DescriptorCells). Finds table h ring) same t.holds.finds

  -- the sizes of what it takes
  pub sizes : security_sizes (tree_in old.bytes t.root) descriptor ≡ cond (is_some (cell_of before descriptor)) [] (cell_size (20 + length descriptor) ∷ [])
  sizes =
      described_sizes old.bytes t.root t.table t.holds descriptor
      ∙ ap (λ (table : DescriptorCells). cond (is_some (cell_of table descriptor)) [] (cell_size (20 + length descriptor) ∷ [])) same

  pub sizes-one : cell_of before descriptor ≡ None → security_sizes (tree_in old.bytes t.root) descriptor ≡ cell_size (20 + length descriptor) ∷ []
  sizes-one e = sizes ∙ ap (λ o. cond (is_some o) [] (cell_size (20 + length descriptor) ∷ [])) e

  pub sizes-none : IsSome (cell_of before descriptor) → security_sizes (tree_in old.bytes t.root) descriptor ≡ []
  sizes-none e = sizes ∙ ap (λ b. cond b [] (cell_size (20 + length descriptor) ∷ [])) e

  -- ---- the tree is as it was

  pub shape-then : (cell : Option ℕ) → IsCarvedFor old mid before after descriptor cell → IsShape k t.root keys ring (taken cell)
  shape-then None c = subst (λ (b : Bins). IsShape (heap_of b) t.root keys ring []) (sym c.0) t.holds.shape
  shape-then (Some z) c = shape-spared h k t.root keys ring (z ∷ []) t.holds.shape c.1

  tree-then : (cell : Option ℕ) → IsCarvedFor old mid before after descriptor cell → tree_of k keys ≡ tree_of h keys
  tree-then None c = ap (λ (b : Bins). tree_of (heap_of b) keys) c.0
  tree-then (Some z) c = tree-spared h k t.root keys ring (z ∷ []) t.holds.shape c.1

  pub offsets-then : (cell : Option ℕ) → IsCarvedFor old mid before after descriptor cell → (q : Path) → key_offset_at k t.root q ≡ key_offset_at h t.root q
  offsets-then None c q = ap (λ (b : Bins). key_offset_at (heap_of b) t.root q) c.0
  offsets-then (Some z) c q = offsets-spared h k t.root keys ring (z ∷ []) t.holds.shape c.1 q

  still : (cell : Option ℕ) → IsCarvedFor old mid before after descriptor cell → (z : ℕ) → 0 < allocated h z → k z ≡ h z
  still None c z l = ap (λ (b : Bins). heap_of b z) c.0
  still (Some x) c z l = calm h k t.root keys ring (x ∷ []) t.holds.shape c.1 z l

  -- ---- it may be described

  pub placed-then : (cell : Option ℕ) → IsCarvedFor old mid before after descriptor cell → IsPlaced k ring after descriptor cell
  placed-then None c = (
    subst (λ (b : Bins). Finds after (heap_of b) ring) (sym c.0) (subst (λ (table : DescriptorCells). Finds table h ring) (sym c.1.0) finds),
    subst (λ (table : DescriptorCells). IsSome (cell_of table descriptor)) (sym c.1.0) c.1.1,
  )
  placed-then (Some x) c = (
    c.0.2 k ring
        (finds-same before h k ring finds
        (λ z l. ap (option_map (λ (s : KeySecurityRecord). s.descriptor))
        (security_at-same h k z (still (Some x) c z (let e = t.holds.shape.exact z in omega (arith, e, l)))))),
    record { exists = came-there h k x c.1; enough = (let n = c.2 in omega (arith, n)) },
  )

  pub classes-then : (cell : Option ℕ) → IsCarvedFor old mid before after descriptor cell → HasShortClasses (tree_of k keys)
  classes-then cell c = subst HasShortClasses (spelt_is old.bytes t.root t.holds ∙ sym (tree-then cell c)) t.holds.classes

  abbrev pub describable : (cell : Option ℕ) → IsCarvedFor old mid before after descriptor cell → IsDescribable mid.bytes key after descriptor cell
  describable cell c = record {
    root = t.root;
    path = t.path;
    keys = keys;
    ring = ring;
    shape = shape-then cell c;
    at = offsets-then cell c t.path ∙ t.at;
    placed = placed-then cell c;
    classes = classes-then cell c;
  }

  -- ---- when it was described

  module _ (cell : Option ℕ) (c : IsCarvedFor old mid before after descriptor cell) (new : Bins) (table : DescriptorCells) (moment : ℕ)
      (i : IsDescribed mid.bytes new.bytes t.root t.path keys ring table descriptor moment) where
    pub is-changed : IsChanged old.bytes new.bytes t.root table t.path (with_descriptor descriptor moment)
    is-changed = record {
      holds = i.holds;
      tree = i.tree
          ∙ ap (λ (tree : Tree). edited tree t.path (with_descriptor descriptor moment)) (tree-then cell c ∙ sym (spelt_is old.bytes t.root t.holds));
      offsets = λ q. i.offsets q ∙ offsets-then cell c q;
    }

    pub lengths-stay : LengthsStay h (heap_of new) t.root
    lengths-stay q o at now =
        let key = keyed.key_is h t.root keys ring [] t.holds.shape q o at in
        let there = allocated-is h o (key-exists h o (is_some_of _ _ key)) in
        i.lengths q o (offsets-then cell c q ∙ at) ∙ ap (option_map lengths_of) (key-moved h k o (still cell c o (omega (arith, there))))

  pub makes : (cell : Option ℕ) → IsCarvedFor old mid before after descriptor cell → (new : Bins) (table : DescriptorCells) (moment : ℕ) →
      IsDescribed mid.bytes new.bytes t.root t.path keys ring table descriptor moment →
      Makes h (heap_of new) (security_sizes (tree_in old.bytes t.root) descriptor)
  makes None c new table moment i =
      subst (Makes h (heap_of new)) (sym (sizes-none c.1.1))
      (makes-none h (heap_of new) (subst (λ (b : Bins). KeepsCells (heap_of b) (heap_of new)) c.0 i.keeps))
  makes (Some x) c new table moment i =
      subst (Makes h (heap_of new)) (sym (sizes-one c.0.1))
      (makes-one h k (heap_of new) x (cell_size (20 + length descriptor)) ring c.1 c.2 i.keeps i.leaves
      (let e = t.holds.shape.exact x in
      let n : ◌≡◌ {A = ℕ} (allocated h x) 0 = ap (λ (o : Option (List ℕ)). cond (is_some o) 1 0) (was-none h k x c.1) in
      omega (arith, e, n)))

  -- ---- how the bins grew

  pub grows : (cell : Option ℕ) → IsCarvedFor old mid before after descriptor cell → (new : Bins) → length new.bytes ≡ length mid.bytes →
      GrowsFor old.bytes mid.bytes (planned_sizes (option_map (λ _. cell_size (20 + length descriptor)) cell)) →
      GrowsFor old.bytes new.bytes (security_sizes (tree_in old.bytes t.root) descriptor)
  grows None c new long g =
      subst (GrowsFor old.bytes new.bytes) (sym (sizes-none c.1.1)) (growth-then old.bytes mid.bytes new.bytes [] long g)
  grows (Some x) c new long g =
      subst (GrowsFor old.bytes new.bytes) (sym (sizes-one c.0.1)) (growth-then old.bytes mid.bytes new.bytes (cell_size (20 + length descriptor) ∷ []) long g)
