-- A key built below another: what each step needs, and the tree at the end.
use Rattle.std.proofs.Common.{◌≡◌, ℕ, zero, suc, ◌<◌, ◌≤◌, Option, Some, None, List, [], ◌∷◌, ◌++◌, inr, length, take, refl, sym, ap, ◌∙◌, subst, arith, length-append, length-take}
use Rattle.std.specs.FinMap.{get}
use Rattle.std.proofs.lemmas.Option.{same_Some}
use Rattle.reg_names.specs.Names.{folded}
use Rattle.reg_heap.specs.Heaps.{Heap}
use Rattle.reg_heap.specs.Kinds.{Found, times}
use Rattle.reg_heap.specs.Kinds.Kind.{Class}
use Rattle.reg_heap.specs.Paths.{Path, Tree, Rec}
use Rattle.reg_heap.specs.Edits.{edited, child_path, with_descriptor, with_keys}
use Rattle.reg_arena.specs.Cells.{cell_at}
use Rattle.reg_arena.proofs.FreeList.ThreadLinks.{times-append}
use Rattle.reg_records.specs.declared.nk.KeyFields.{KeyFields}
use Rattle.reg_records.specs.BigData.{if_any, named}
use Rattle.reg_records.specs.KeyNodes.{KeyRecord, key_at}
use Rattle.reg_shape.specs.Nodes.{Node, pieces_at}
use Rattle.reg_shape.specs.Spelt.{rec_of}
use Rattle.reg_shape.specs.PathLookup.{key_offset_at}
use Rattle.reg_shape.specs.Whole.{descriptor_at}
use Rattle.reg_shape.specs.Internal.Forests.{Branch}
use Rattle.reg_shape.specs.Internal.Shapes.{descriptor_in, tree_of}
use Rattle.reg_shape.specs.Internal.Grafts.{IsShape}
use Rattle.reg_shape.proofs.Refinement.RefinementAtPath.{name-written}
use Rattle.reg_values.proofs.ValueData.DataPieces.{piece-open}
use Rattle.reg_index.specs.Subkeys.{taken}
use Rattle.reg_security.specs.Rings.{DescriptorCells}
use Rattle.reg_tree.specs.declared.build.NewKey.{NewKey}
use Rattle.reg_tree.specs.declared.node.Node.{Node as TreeNode}
use Rattle.reg_tree.specs.BuiltKeys.{MayBuild, class_sizes}
use Rattle.reg_tree.specs.CellSizes.{planned_sizes}
use Rattle.reg_tree.specs.TreeKeys.{tree_in}
use Rattle.reg_tree.specs.Internal.DescriptorChange.{IsDescribable, IsDescribed, IsExpected}
use Rattle.reg_tree.specs.Internal.KeyBuilding.{HasNoClass, IsBuilt, IsClassCell, IsMarkable, MayHaveClass, marked}
use Rattle.reg_tree.specs.Internal.KeyCreation.{IsGrownAll}
use Rattle.reg_tree.specs.Internal.SpareCells.{HaveSizes, IsGrowing, StillStand}
use Rattle.reg_tree.specs.Internal.TreeInvariant.{HasShortClasses, IsHere}
use Rattle.reg_tree.proofs.Invariant.KeyOfShape as keyed
use Rattle.reg_tree.proofs.Invariant.KeyOfTree.{branch, key_is, rec_there}
use Rattle.reg_tree.proofs.Invariant.ShortClasses.{classed-short, made-short}
use Rattle.reg_tree.proofs.InsertKey.DescribedLast.{placed-last}
use Rattle.reg_tree.proofs.InsertKey.SpareCellsKept.{sizes-kept}
use Rattle.reg_tree.proofs.BuildKey.BuiltTrees.{built-is, made, made-there}

-- ---- a key that is told without a class

-- a class that reads as no bytes has no length
none-long : (h : Heap) (size offset : ℕ) (class : List ℕ) (zs : List Found) → class ≡ [] → pieces_at (if_any Class size offset) h ≡ Some (class, zs) → size ≡ 0
none-long h zero offset class zs e r = refl
none-long h (suc n) offset class zs e r =
    let p = piece-open h (named Class (suc n) offset) [] class zs r in
    let all = ap length (sym p.is ∙ e) in
    let parts = length-append (take (suc n) p.content) p.rest in
    let taken = length-take (suc n) p.content in
    let long = p.long in
    absurd (omega (arith, all, parts, taken, long))

module _ (h : Heap) (root : ℕ) (keys : Branch Node) (ring spare : List ℕ) (w : IsShape h root keys ring spare) (p : Path) (key : ℕ)
    (at : key_offset_at h root p ≡ Some key) (r : Rec) (told : get (tree_of h keys) p ≡ Some r) (none : r.class ≡ []) where
  abbrev n : Node
  n = (keyed.branch h root keys ring spare w p key at).node

  its-rec : rec_of n (descriptor_in h n.key.fields.security) ≡ r
  its-rec = same_Some _ _ (sym (keyed.rec_there h root keys ring spare w p key at) ∙ told)

  pub bare : HasNoClass h key r.name
  bare k e =
      let same : n.key ≡ k = same_Some _ _ (sym (keyed.key_is h root keys ring spare w p key at) ∙ e) in
      let l = keyed.looked h root keys ring spare w p key at in
      subst (λ (k : KeyRecord). (k.name ≡ r.name) × (k.fields.class_length ≡ 0)) same (
        sym (name-written h root (keyed.branch h root keys ring spare w p key at).offset n (keyed.seen h root keys ring spare w p key at).written) ∙ ap (λ (r : Rec). r.name) its-rec,
        none-long h n.key.fields.class_length n.key.fields.class n.class l.class_cells (ap (λ (r : Rec). r.class) its-rec ∙ none) l.class_is,
      )

-- ---- cells of sizes

pub class-cell : (h : Heap) (cell : Option ℕ) (class : List ℕ) → HaveSizes h (taken cell) (class_sizes class) → IsClassCell h cell class
class-cell h None [] room = refl
class-cell h None (byte ∷ class) room = absurd room
class-cell h (Some z) [] room = absurd room
class-cell h (Some z) (byte ∷ class) room =
    let enough = room.0.enough in (omega arith, record { exists = room.0.exists; enough = omega (arith, enough) })

-- ---- a key made at its parent's time, its class noted there, marked, and described

module _ (old mid : List ℕ) (parent node : TreeNode) (t : IsHere old parent.offset) (key : NewKey) (fields : KeyFields) (class cell : Option ℕ)
    (g : IsGrownAll old mid t.root t.path (key.name.now ∷ []) fields.time t.holds.ring (taken class ++ taken cell) parent node) where
  abbrev pub path : Path
  path = child_path t.path key.name.now

  abbrev pub spare : List ℕ
  spare = taken class ++ taken cell

  -- the key above, when it was made
  abbrev pub parent-growing : IsGrowing mid parent.offset spare
  parent-growing = record { root = t.root; path = t.path; keys = g.now; ring = t.holds.ring; shape = g.shape; at = g.keeps t.path parent.offset t.at }

  module _ (are : (r : KeyRecord) → key_at (cell_at old) parent.offset ≡ Some r → fields ≡ r.fields) (may : MayBuild (tree_in old t.root) t.path key.name.now)
      (next : List ℕ) (s : StillStand (cell_at mid) (cell_at next) t.root t.holds.ring spare (tree_of (cell_at mid) g.now)) where
    abbrev pub above : Rec
    above = rec_of (branch old parent.offset t).node (descriptor_in (cell_at old) (branch old parent.offset t).node.key.fields.security)

    pub its-time : above.time ≡ fields.time
    its-time = sym (ap (λ (f : KeyFields). f.time) (are (branch old parent.offset t).node.key (key_is old parent.offset t)))

    pub tree-next : tree_of (cell_at next) s.now ≡ with_keys (tree_in old t.root) t.path (key.name.now ∷ []) None fields.time
    tree-next = s.spells ∙ g.tree

    pub offset-next : key_offset_at (cell_at next) t.root path ≡ Some node.offset
    offset-next = s.offsets path ∙ g.offset

    pub above-next : key_offset_at (cell_at next) t.root t.path ≡ Some parent.offset
    above-next = s.offsets t.path ∙ g.keeps t.path parent.offset t.at

    -- it may be marked
    module _ (roomy : (r : KeyRecord) → key_at (cell_at next) parent.offset ≡ Some r → length key.class.now ≤ r.fields.largest_subkey_class) (size : Option ℕ)
        (sizes : planned_sizes size ≡ class_sizes key.class.now) (room : HaveSizes (cell_at mid) (taken class) (planned_sizes size)) where
      pub may-have : MayHaveClass (cell_at next) t.root path (length key.class.now)
      may-have = inr (record {
        above = t.path;
        name = folded key.name.now;
        parts = refl;
        offset = parent.offset;
        at = above-next;
        key = (keyed.branch (cell_at next) t.root s.now t.holds.ring spare s.shape t.path parent.offset above-next).node.key;
        reads = keyed.key_is (cell_at next) t.root s.now t.holds.ring spare s.shape t.path parent.offset above-next;
        enough = roomy _ (keyed.key_is (cell_at next) t.root s.now t.holds.ring spare s.shape t.path parent.offset above-next);
      })

      pub room-next : HaveSizes (cell_at next) (taken class) (class_sizes key.class.now)
      room-next =
          subst (HaveSizes (cell_at next) (taken class)) sizes
          (sizes-kept (cell_at mid) (cell_at next) (taken class) (planned_sizes size)
          (λ z l. s.spare z (let a = times-append z (taken class) (taken cell) in omega (arith, a, l))) room)

      abbrev pub markable : IsMarkable next node.offset key.name.now class key.class.now (taken cell)
      markable = record {
        root = t.root;
        path = path;
        keys = s.now;
        ring = t.holds.ring;
        shape = s.shape;
        at = offset-next;
        cell_is = class-cell (cell_at next) class key.class.now room-next;
        bare = bare (cell_at next) t.root s.now t.holds.ring spare s.shape path node.offset offset-next
            (made (tree_in old t.root) t.path key.name.now fields.time above (rec_there old parent.offset t) its-time may.free)
            (ap (λ (tree : Tree). get tree path) tree-next
            ∙ made-there (tree_in old t.root) t.path key.name.now fields.time above (rec_there old parent.offset t) its-time may.free) refl;
        above = may-have;
      }

    -- and described then
    module _ (last : List ℕ)
        (m : StillStand (cell_at next) (cell_at last) t.root t.holds.ring (taken cell) (edited (tree_of (cell_at next) s.now) path (marked key.marks key.class.now))) where
      pub tree-then : tree_of (cell_at last) m.now ≡
          edited (with_keys (tree_in old t.root) t.path (key.name.now ∷ []) None fields.time) path (marked key.marks key.class.now)
      tree-then = m.spells ∙ ap (λ (tree : Tree). edited tree path (marked key.marks key.class.now)) tree-next

      pub described-then : (z : ℕ) → 0 < times z t.holds.ring → descriptor_at (cell_at last) z ≡ descriptor_at (cell_at old) z
      described-then z l = m.described z l ∙ (s.described z l ∙ g.described z l)

      module _ (short : length key.class.now < 65536) (more : Option ℕ) (room : HaveSizes (cell_at mid) (taken cell) (planned_sizes more))
          (after : DescriptorCells) (x : IsExpected t.table after key.descriptor.now more) where
        pub room-then : HaveSizes (cell_at last) (taken cell) (planned_sizes more)
        room-then =
            sizes-kept (cell_at mid) (cell_at last) (taken cell) (planned_sizes more)
            (λ z l. m.spare z l ∙ s.spare z (let a = times-append z (taken class) (taken cell) in omega (arith, a, l))) room

        abbrev pub describable : IsDescribable last node.offset after key.descriptor.now cell
        describable = record {
          root = t.root;
          path = path;
          keys = m.now;
          ring = t.holds.ring;
          shape = m.shape;
          at = m.offsets path ∙ offset-next;
          placed = placed-last t.table after (cell_at old) (cell_at last) t.holds.ring key.descriptor.now more cell x t.holds.finds described-then room-then;
          classes = subst HasShortClasses (sym tree-then)
              (classed-short (with_keys (tree_in old t.root) t.path (key.name.now ∷ []) None fields.time) path (marked key.marks key.class.now) (λ r. short)
              (made-short (tree_in old t.root) t.path (key.name.now ∷ []) None fields.time t.holds.classes));
        }

      pub built : (new : List ℕ) (table : DescriptorCells) → IsDescribed last new t.root path m.now t.holds.ring table key.descriptor.now key.time →
          parent.depth ≡ length t.path → IsBuilt old new t.root table t.path key node
      built new table d deep = record {
        holds = d.holds;
        tree = d.tree
            ∙ (ap (λ (tree : Tree). edited tree path (with_descriptor key.descriptor.now key.time)) tree-then
            ∙ built-is (tree_in old t.root) t.path key.name.now fields.time above (rec_there old parent.offset t) its-time may.free key.marks
            key.class.now key.descriptor.now key.time);
        offset = d.offsets path ∙ (m.offsets path ∙ offset-next);
        depth = (let m = g.depth in omega (arith, m, deep));
        keeps = λ q o e. d.offsets q ∙ (m.offsets q ∙ (s.offsets q ∙ g.keeps q o e));
      }
