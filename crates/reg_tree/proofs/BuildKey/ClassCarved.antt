-- A cell carved for a class, if it takes one: the tree is as it was, and its key may get marks and the class; and the tree when it did.
use Rattle.std.proofs.Common.{◌≡◌, inl, inr, ℕ, ◌+◌, ◌<◌, ◌≤◌, Option, Some, None, List, [], ◌∷◌, length, refl, sym, ap, ◌∙◌, subst, arith}
use Rattle.std.specs.Option.{option_map}
use Rattle.std.specs.Prelude.{MatchOption}
use Rattle.std.proofs.lemmas.List.{append-nil}
use Rattle.reg_heap.specs.declared.limits.TheConstants.{BINS_LIMIT, GROWTH_BOUND}
use Rattle.reg_heap.specs.Paths.{Path, Tree}
use Rattle.reg_heap.specs.Heaps.{Heap, allocated}
use Rattle.reg_heap.specs.Edits.{edited}
use Rattle.reg_arena.specs.Arena.{Bins, heap_of}
use Rattle.reg_arena.specs.Cells.{cell_at}
use Rattle.reg_arena.specs.NewBin.{PassesLimit}
use Rattle.reg_arena.specs.NewCells.{cell_size, total_of}
use Rattle.reg_records.specs.KeySecurities.{KeySecurityRecord}
use Rattle.reg_records.proofs.KeySecurityCodec.{security_at-same}
use Rattle.reg_shape.specs.Nodes.{Node}
use Rattle.reg_shape.specs.Internal.Forests.{Branch}
use Rattle.reg_shape.specs.Internal.Shapes.{tree_of}
use Rattle.reg_shape.specs.Internal.Grafts.{IsShape}
use Rattle.reg_shape.specs.PathLookup.{key_offset_at}
use Rattle.reg_shape.proofs.Wholeness.ShapeRecords.{allocated-is, is-allocated}
use Rattle.reg_values.proofs.ValueFreeing.FrameChains.{times-same}
use Rattle.reg_index.specs.Subkeys.{taken}
use Rattle.reg_security.specs.Rings.{Finds}
use Rattle.reg_security.proofs.TableCells.{finds-same}
use Rattle.reg_tree.specs.BuiltKeys.{class_sizes}
use Rattle.reg_tree.specs.CellSizes.{planned_sizes}
use Rattle.reg_tree.specs.KeyLengths.{lengths_of}
use Rattle.reg_tree.specs.Internal.LengthChanges.{LengthsStay}
use Rattle.reg_tree.specs.Internal.KeyBuilding.{HasNoClass, IsCarvedForClass, IsClassCell, IsMarkable, MayHaveClass, marked}
use Rattle.reg_tree.specs.Internal.SpareCells.{IsClassSize, StillStand}
use Rattle.reg_tree.specs.TreeKeys.{tree_in}
use Rattle.reg_tree.specs.Internal.TreeInvariant.{HasShortClasses, IsHere, IsChanged}
use Rattle.reg_tree.proofs.Invariant.CellReadings.{is_some_of, key-exists, key-moved}
use Rattle.reg_tree.proofs.Invariant.KeyOfShape as keyed
use Rattle.reg_tree.proofs.Invariant.KeyOfTree.{spelt_is, spelt_of}
use Rattle.reg_tree.proofs.Invariant.ShortClasses.{classed-short}
use Rattle.reg_tree.proofs.InsertKey.SpareCellsCarved.{calm, shape-spared, tree-spared, offsets-spared}

-- ---- the size of its cell

pub one-class : (class : List ℕ) (size : ℕ) → (1 ≤ length class) × (size ≡ cell_size (length class)) → size ∷ [] ≡ class_sizes class
one-class [] size is = let some = is.0 in absurd (omega (arith, some))
one-class (byte ∷ class) size is = ap (λ size. size ∷ []) is.1

abbrev pub IsClassOf : List ℕ → Option ℕ → Type 0
IsClassOf class size = MatchOption size (class ≡ []) (λ size. (1 ≤ length class) × (size ≡ cell_size (length class)))

pub planned-class : (class : List ℕ) (size : Option ℕ) → IsClassOf class size → planned_sizes size ≡ class_sizes class
planned-class [] None is = refl
planned-class (byte ∷ class) None is = absurd (cc)
planned-class class (Some size) is = one-class class size is

pub class-size : (class : List ℕ) (size : Option ℕ) → length class < 65536 → IsClassOf class size → IsClassSize size
class-size class None short is = tt
class-size class (Some size) short is = (length class, short, is.1)

-- a bin for one class's cell is small
pub near-limit : (bytes : List ℕ) (size : ℕ) → size < 65536 → PassesLimit bytes (total_of (cell_size size ∷ [])) → BINS_LIMIT < length bytes + GROWTH_BOUND
near-limit bytes size small past = let l = past.least.least GROWTH_BOUND refl (omega (arith, small)) in let p = past.passes in omega (arith, l, p)

module _ (old mid : Bins) (key : ℕ) (name class : List ℕ) (bare : HasNoClass (heap_of old) key name) (t : IsHere old.bytes key)
    (above : MayHaveClass (heap_of old) t.root t.path (length class)) (short : length class < 65536) where
  abbrev h : Heap
  h = heap_of old

  abbrev k : Heap
  k = heap_of mid

  abbrev keys : Branch Node
  keys = t.holds.keys

  abbrev ring : List ℕ
  ring = t.holds.ring

  -- ---- the tree is as it was

  module _ (cell : Option ℕ) (c : IsCarvedForClass old mid class cell) where
    pub shape-then : IsShape k t.root keys ring (taken cell)
    shape-then = by cell c
      where
        by : (cell : Option ℕ) → IsCarvedForClass old mid class cell → IsShape k t.root keys ring (taken cell)
        by None c = subst (λ (b : Bins). IsShape (heap_of b) t.root keys ring []) (sym c.0) t.holds.shape
        by (Some z) c = shape-spared h k t.root keys ring (z ∷ []) t.holds.shape c.1

    pub tree-then : tree_of k keys ≡ tree_of h keys
    tree-then = by cell c
      where
        by : (cell : Option ℕ) → IsCarvedForClass old mid class cell → tree_of k keys ≡ tree_of h keys
        by None c = ap (λ (b : Bins). tree_of (heap_of b) keys) c.0
        by (Some z) c = tree-spared h k t.root keys ring (z ∷ []) t.holds.shape c.1

    pub offsets-then : (q : Path) → key_offset_at k t.root q ≡ key_offset_at h t.root q
    offsets-then q = by cell c
      where
        by : (cell : Option ℕ) → IsCarvedForClass old mid class cell → key_offset_at k t.root q ≡ key_offset_at h t.root q
        by None c = ap (λ (b : Bins). key_offset_at (heap_of b) t.root q) c.0
        by (Some z) c = offsets-spared h k t.root keys ring (z ∷ []) t.holds.shape c.1 q

    still : (z : ℕ) → 0 < allocated h z → k z ≡ h z
    still z = by cell c
      where
        by : (cell : Option ℕ) → IsCarvedForClass old mid class cell → 0 < allocated h z → k z ≡ h z
        by None c l = ap (λ (b : Bins). heap_of b z) c.0
        by (Some x) c l = calm h k t.root keys ring (x ∷ []) t.holds.shape c.1 z l

    pub cell-then : IsClassCell k cell class
    cell-then = by cell c
      where
        by : (cell : Option ℕ) → IsCarvedForClass old mid class cell → IsClassCell k cell class
        by None c = c.1
        by (Some x) c = (
          c.0,
          record {
            exists = is-allocated k x (let a = c.1.count x in let o = times-same x in omega (arith, a, o));
            enough = (let n = c.2 in omega (arith, n));
          },
        )

    pub finds-then : Finds t.table k ring
    finds-then =
        finds-same t.table h k ring t.holds.finds
        (λ z l. ap (option_map (λ (s : KeySecurityRecord). s.descriptor))
        (security_at-same h k z (still z (let e = t.holds.shape.exact z in omega (arith, e, l)))))

    -- a key node stays
    pub node-still : (q : Path) (o : ℕ) → key_offset_at h t.root q ≡ Some o → k o ≡ h o
    node-still q o e =
        let r = keyed.key_is h t.root keys ring [] t.holds.shape q o e in
        let a = allocated-is h o (key-exists h o (is_some_of _ _ r)) in
        still o (omega (arith, a))

    pub above-then : MayHaveClass k t.root t.path (length class)
    above-then = by above
      where
        by : MayHaveClass h t.root t.path (length class) → MayHaveClass k t.root t.path (length class)
        by (inl e) = inl e
        by (inr a) = inr (record {
          above = a.above;
          name = a.name;
          parts = a.parts;
          offset = a.offset;
          at = offsets-then a.above ∙ a.at;
          key = a.key;
          reads = key-moved h k a.offset (node-still a.above a.offset a.at) ∙ a.reads;
          enough = a.enough;
        })

    abbrev pub markable : IsMarkable mid.bytes key name cell class []
    markable = record {
      root = t.root;
      path = t.path;
      keys = keys;
      ring = ring;
      shape = subst (IsShape k t.root keys ring) (sym (append-nil (taken cell))) shape-then;
      at = offsets-then t.path ∙ t.at;
      cell_is = cell-then;
      bare = λ r e. bare r (sym (key-moved h k key (node-still t.path key t.at)) ∙ e);
      above = above-then;
    }

    -- ---- when it got them

    module _ (new : List ℕ) (marks : ℕ) (i : StillStand k (cell_at new) t.root ring [] (edited (tree_of k keys) t.path (marked marks class))) where
      tree-now : tree_in new t.root ≡ edited (tree_in old.bytes t.root) t.path (marked marks class)
      tree-now =
          spelt_of new t.root i.now ring i.shape
          ∙ (i.spells
          ∙ ap (λ (tree : Tree). edited tree t.path (marked marks class)) (tree-then ∙ sym (spelt_is old.bytes t.root t.holds)))

      pub dressed : IsChanged old.bytes new t.root t.table t.path (marked marks class)
      dressed = record {
        holds = record {
          keys = i.now;
          ring = ring;
          shape = i.shape;
          finds = finds-same t.table k (cell_at new) ring finds-then i.described;
          classes = subst HasShortClasses (sym tree-now) (classed-short (tree_in old.bytes t.root) t.path (marked marks class) (λ r. short) t.holds.classes);
        };
        tree = tree-now;
        offsets = λ q. i.offsets q ∙ offsets-then q;
      }

      -- each key has the largest lengths that it had
      pub dressed-lengths : LengthsStay k (cell_at new) t.root → LengthsStay h (cell_at new) t.root
      dressed-lengths stay = λ q o at now. stay q o (offsets-then q ∙ at) now ∙ ap (option_map lengths_of) (key-moved h k o (node-still q o at))
