-- The last of the keys that were made of a path, described by what is given.
use Rattle.std.proofs.Common.{◌≡◌, ℕ, ◌+◌, ◌<◌, ◌≤◌, cond, Option, Some, None, IsSome, is_some, List, [], ◌∷◌, ◌++◌, map, length, refl, sym, ap, ◌∙◌, subst}
use Rattle.std.proofs.Common.{arith}
use Rattle.std.specs.Option.{option_and_then}
use Rattle.reg_names.specs.Names.{folded, path_of}
use Rattle.reg_heap.specs.declared.limits.TheConstants.{DESCRIPTOR_LIMIT}
use Rattle.reg_heap.specs.Paths.{Tree}
use Rattle.reg_heap.specs.Edits.{edited, missing, last_there, with_descriptor}
use Rattle.reg_heap.specs.Heaps.{Heap}
use Rattle.reg_heap.specs.Kinds.{times}
use Rattle.reg_arena.specs.Arena.{Bins}
use Rattle.reg_arena.specs.EachCell.{GrowsFor}
use Rattle.reg_arena.specs.Cells.{cell_at}
use Rattle.reg_arena.specs.NewCells.{cell_size}
use Rattle.reg_index.specs.declared.Place.{Place}
use Rattle.reg_index.specs.Subkeys.{KeepsCells, taken}
use Rattle.reg_security.specs.Rings.{DescriptorCells, Finds, Expects, cell_of}
use Rattle.reg_security.proofs.TableCells.{finds-same}
use Rattle.reg_shape.specs.Whole.{descriptor_at}
use Rattle.reg_shape.specs.Internal.Grafts.{IsShape}
use Rattle.reg_shape.specs.PathLookup.{key_offset_at}
use Rattle.reg_shape.proofs.Lookup.LookupOfShape.{offset-append}
use Rattle.reg_shape.proofs.Wholeness.ShapeRecords.{is-allocated}
use Rattle.reg_values.specs.ValueLists.{Makes}
use Rattle.reg_tree.specs.declared.node.Node.{Node as TreeNode}
use Rattle.reg_tree.specs.CellSizes.{planned_sizes, made_sizes, security_sizes, given_sizes, create_sizes, LacksRoom}
use Rattle.reg_tree.specs.TreeKeys.{Keys, tree_in}
use Rattle.reg_tree.specs.Internal.DescriptorChange.{IsExpected, IsPlaced, IsDescribable, IsDescribed}
use Rattle.reg_tree.specs.Internal.KeyCreation.{IsCreated, IsGrownAll}
use Rattle.reg_tree.specs.Internal.KeyNodeChanges.{LeavesOthers}
use Rattle.reg_tree.specs.Internal.PathWalks.{Reaches}
use Rattle.reg_tree.specs.Internal.SpareCells.{HaveSizes, IsSecuritySize}
use Rattle.reg_tree.specs.Internal.TreeInvariant.{HasShortClasses, TreeInvariant, IsHere}
use Rattle.reg_tree.proofs.Invariant.DescribedKeys.{described_is}
use Rattle.reg_tree.proofs.Invariant.ShortClasses.{made-short}
use Rattle.reg_tree.proofs.Invariant.KeyOfTree.{get-none}
use Rattle.reg_tree.proofs.PathWalk.PathSteps.{not_walked}
use Rattle.reg_tree.proofs.InsertKey.CreatePath.{missing-are}
use Rattle.reg_tree.proofs.InsertKey.CreatePathMade.{growth-then}
use Rattle.reg_tree.proofs.InsertKey.MadeCells.{makes-leaving}
use Rattle.reg_tree.proofs.InsertKey.CarvedCells.{none-left}
use Rattle.reg_tree.proofs.InsertKey.LastDescribed.{given_last}

-- ---- the cell that it takes

-- the table expects a descriptor where the ring's securities describe what they did
expects-same : (t : DescriptorCells) (h k : Heap) (ring descriptor : List ℕ) → Expects t h ring descriptor →
    ((z : ℕ) → 0 < times z ring → descriptor_at k z ≡ descriptor_at h z) → Expects t k ring descriptor
expects-same t h k ring descriptor x same = record {
  found = λ other cell apart e. (let d = x.found other cell apart e in (d.0, same cell d.0 ∙ d.1));
  listed = λ other cell d. x.listed other cell (d.0, sym (same cell d.0) ∙ d.1);
  room = x.room;
  free = λ cell l e. x.free cell l (sym (same cell l) ∙ e);
}

pub placed-last : (old new : DescriptorCells) (h k : Heap) (ring descriptor : List ℕ) (more cell : Option ℕ) → IsExpected old new descriptor more → Finds old h ring →
    ((z : ℕ) → 0 < times z ring → descriptor_at k z ≡ descriptor_at h z) → HaveSizes k (taken cell) (planned_sizes more) → IsPlaced k ring new descriptor cell
placed-last old new h k ring descriptor None None x finds same room =
    (subst (λ t. Finds t k ring) (sym x.0) (finds-same old h k ring finds same), subst (λ t. IsSome (cell_of t descriptor)) (sym x.0) x.1)
placed-last old new h k ring descriptor None (Some cell) x finds same room = absurd room
placed-last old new h k ring descriptor (Some size) None x finds same room = absurd room
placed-last old new h k ring descriptor (Some size) (Some cell) x finds same room =
    let long = x.0 in
    let enough = room.0.enough in (
      expects-same new h k ring descriptor (x.2 h ring finds) same,
      record { exists = room.0.exists; enough = omega (arith, long, enough) },
    )

-- the size that was answered is one of a descriptor's cell
pub security-size : (old new : DescriptorCells) (descriptor : List ℕ) (more : Option ℕ) → length descriptor ≤ DESCRIPTOR_LIMIT → IsExpected old new descriptor more →
    IsSecuritySize more
security-size old new descriptor None short x = tt
security-size old new descriptor (Some size) short x = (length descriptor, short, x.0)

-- no cell is made for a descriptor that some key has, and for another one just its own
pub security_is : (bytes : List ℕ) (root : ℕ) (table after : DescriptorCells) → TreeInvariant bytes root table → (descriptor : List ℕ) (more : Option ℕ) →
    IsExpected table after descriptor more → security_sizes (tree_in bytes root) descriptor ≡ planned_sizes more
unfolding security_sizes
security_is bytes root table after holds descriptor None x =
    ap (λ b. cond b [] (cell_size (20 + length descriptor) ∷ [])) (sym (described_is bytes root table holds descriptor) ∙ x.1)
security_is bytes root table after holds descriptor (Some size) x =
    ap (λ b. cond b [] (cell_size (20 + length descriptor) ∷ [])) (sym (described_is bytes root table holds descriptor) ∙ ap is_some x.1)
    ∙ ap (λ s. s ∷ []) (sym x.0)

given-some : (tree : Tree) (names : List (List ℕ)) (descriptor : List ℕ) → (names ≡ [] → ⊥) → given_sizes tree names (Some descriptor) ≡ security_sizes tree descriptor
given-some tree [] descriptor some = absurd (some refl)
given-some tree (name ∷ names) descriptor some = refl

-- ---- the key

module _ (old new : List ℕ) (from : TreeNode) (t : IsHere old from.offset) (names : List (List ℕ)) (moment : ℕ) (more class cell : Option ℕ) (made : TreeNode)
    (g : IsGrownAll old new t.root t.path names moment t.holds.ring (taken class ++ taken cell) from made)
    (none : HaveSizes (cell_at new) (taken class) []) (room : HaveSizes (cell_at new) (taken cell) (planned_sizes more))
    (after : DescriptorCells) (descriptor : List ℕ) (x : IsExpected t.table after descriptor more) where
  abbrev pub describable : IsDescribable new made.offset after descriptor cell
  describable = record {
    root = t.root;
    path = t.path ++ map folded names;
    keys = g.now;
    ring = t.holds.ring;
    shape = subst (λ cells. IsShape (cell_at new) t.root g.now t.holds.ring (cells ++ taken cell)) (none-left (cell_at new) class none) g.shape;
    at = g.offset;
    placed = placed-last t.table after (cell_at old) (cell_at new) t.holds.ring descriptor more cell x t.holds.finds g.described room;
    classes = subst HasShortClasses (sym g.tree) (made-short (tree_in old t.root) t.path names None moment t.holds.classes);
  }

  pub created_described : (final : List ℕ) (table : DescriptorCells) → (names ≡ [] → ⊥) → key_offset_at (cell_at old) t.root (t.path ++ map folded names) ≡ None →
      IsDescribed new final t.root (t.path ++ map folded names) g.now t.holds.ring table descriptor moment →
      IsCreated old final t.root table t.path from names (Some descriptor) moment made
  created_described final table some none d = record {
    holds = d.holds;
    tree = d.tree
        ∙ (ap (λ (tree : Tree). edited tree (t.path ++ map folded names) (with_descriptor descriptor moment)) g.tree
        ∙ sym (given_last (tree_in old t.root) t.path names descriptor moment some (get-none old t.root t.holds (t.path ++ map folded names) none)));
    offset = d.offsets (t.path ++ map folded names) ∙ g.offset;
    depth = g.depth;
    keeps = λ q o e. d.offsets q ∙ g.keeps q o e;
    lengths = record {
      here = λ o e. d.lengths (last_there (tree_in old t.root) t.path names) o (g.keeps (last_there (tree_in old t.root) t.path names) o e) ∙ g.lengths.here o e;
      others = λ q o n e. d.lengths q o (g.keeps q o e) ∙ g.lengths.others q o n e;
    };
    noted = λ front back o parts filled found. (
        let before = sym (d.offsets (last_there (tree_in old t.root) t.path names ++ map folded front)) ∙ found in
        d.lengths (last_there (tree_in old t.root) t.path names ++ map folded front) o before ∙ g.noted front back o parts filled before);
  }

-- ---- below the last key that is there on a path

module _ (bins : Bins) (from : TreeNode) (t : IsHere bins.bytes from.offset) (path : List ℕ) (parent : TreeNode) (rest : List ℕ)
    (r : Reaches (cell_at bins.bytes) from path parent rest) (moment : ℕ) (some : path_of rest ≡ [] → ⊥) where
  abbrev heap : Heap
  heap = cell_at bins.bytes

  abbrev seen : Keys
  seen = record { bins = bins; root = t.root; tree = tree_in bins.bytes t.root }

  pub none_at_end : key_offset_at heap t.root (t.path ++ map folded (path_of path)) ≡ None
  none_at_end =
      offset-append heap t.root t.path (map folded (path_of path))
      ∙ (ap (option_and_then (λ c. key_offset_at heap c (map folded (path_of path)))) t.at ∙ not_walked heap from path parent rest r some)

  pub some_names : path_of path ≡ [] → ⊥
  some_names e = some (sym (missing-are bins.bytes from t path parent rest r moment) ∙ ap (missing seen.tree t.path) e)

  module _ (after : DescriptorCells) (descriptor : List ℕ) (more : Option ℕ) (x : IsExpected t.table after descriptor more) where
    sizes_with : (place : Place) → made_sizes seen t.path (path_of path) place ++ planned_sizes more ≡ create_sizes seen t.path (path_of path) place (Some descriptor)
    sizes_with place =
        ap (λ sizes. made_sizes seen t.path (path_of path) place ++ sizes)
        (sym (given-some seen.tree (missing seen.tree t.path (path_of path)) descriptor (λ e. some (sym (missing-are bins.bytes from t path parent rest r moment) ∙ e)) ∙
        security_is bins.bytes t.root t.table after t.holds descriptor more x))

    pub room_with : (place : Place) → LacksRoom bins (made_sizes seen t.path (path_of path) place ++ planned_sizes more) →
        LacksRoom bins (create_sizes seen t.path (path_of path) place (Some descriptor))
    room_with place lacks = subst (LacksRoom bins) (sizes_with place) lacks

    pub growth_with : (place : Place) → (mid new : List ℕ) → length new ≡ length mid →
        GrowsFor bins.bytes mid (made_sizes seen t.path (path_of path) place ++ planned_sizes more) → GrowsFor bins.bytes new (create_sizes seen t.path (path_of path) place (Some descriptor))
    growth_with place mid new long grown = growth-then bins.bytes mid new _ long (subst (GrowsFor bins.bytes mid) (sizes_with place) grown)

    pub cells_with : (new final : Heap) (place : Place) → Makes heap new (made_sizes seen t.path (path_of path) place ++ planned_sizes more) → KeepsCells new final →
        LeavesOthers new final t.holds.ring → Makes heap final (create_sizes seen t.path (path_of path) place (Some descriptor))
    cells_with new final place makes keeps leaves =
        subst (Makes heap final) (sizes_with place)
        (makes-leaving heap new final t.holds.ring _ makes keeps leaves (λ z l. is-allocated heap z (let e = t.holds.shape.exact z in omega (arith, e, l))))
