-- A key of a tree: where it stands, what it reads as, and what the tree has at its path.
use Rattle.std.proofs.Common.{◌≡◌, ℕ, ◌+◌, ◌≤◌, Option, Some, None, IsSome, is_some, List, [], ◌++◌, length, refl, sym, ap, ◌∙◌, subst, arith}
use Rattle.std.specs.Prelude.{unwrap_or}
use Rattle.std.specs.Option.{option_map, option_and_then}
use Rattle.std.specs.FinMap.{get, empty}
use Rattle.std.proofs.lemmas.Option.{none-some, same_Some}
use Rattle.reg_names.specs.declared.TheConstants.{PATH_LIMIT}
use Rattle.reg_heap.specs.Paths.{Path, Tree, Member}
use Rattle.reg_heap.specs.Heaps.{Heap, allocated}
use Rattle.reg_heap.specs.Kinds.{Found, times, owned}
use Rattle.reg_heap.specs.Edits.{values_at, values_of}
use Rattle.reg_shape.specs.Internal.Forests.{Branch, total_of}
use Rattle.reg_arena.specs.declared.Cell.{Cell}
use Rattle.reg_arena.specs.Cells.{cells_of, cell_at}
use Rattle.reg_arena.proofs.Tiling.CellLayout.{has_cells}
use Rattle.reg_records.specs.KeyNodes.{key_at}
use Rattle.reg_shape.specs.Nodes.{Node, members_at}
use Rattle.reg_shape.specs.Spelt.{spelt, rec_of}
use Rattle.reg_shape.specs.Internal.Shapes.{cells_of as own_cells, index_cells, owns, descriptor_in, tree_of, depth, StandsIn, IsSeen, IsWholeShape}
use Rattle.reg_shape.specs.Internal.Grafts.{IsShape, branch_at}
use Rattle.reg_shape.specs.PathLookup.{key_offset_at}
use Rattle.reg_shape.proofs.Walking.WalkRefinement.{IsLooked, look-open}
use Rattle.reg_shape.proofs.Wholeness.AllocatedCells.{whole-in, spelt-in}
use Rattle.reg_shape.proofs.Graft.Branches.{shape-whole}
use Rattle.reg_shape.proofs.Lookup.LookupOfShape.{placed}
use Rattle.reg_shape.proofs.Refinement.RefinementAtPath.{told}
use Rattle.reg_values.specs.ValueLists.{AreValues}
use Rattle.reg_values.proofs.ValueListing.ValueListOpening.{values-length}
use Rattle.reg_security.specs.Rings.{DescriptorCells}
use Rattle.reg_tree.specs.TreeKeys.{tree_in, IsWholeTree}
use Rattle.reg_tree.specs.Internal.TreeInvariant.{TreeInvariant, IsHere}
use Rattle.reg_tree.specs.Internal.KeyNodeChanges.{HasList}
use Rattle.reg_tree.proofs.Invariant.CellReadings.{is_some_of}
use Rattle.reg_tree.proofs.Invariant.OwnCells.{own-parts}
use Rattle.reg_tree.proofs.Invariant.KeyOfShape as keyed

-- ---- a tree as its keys stand

module _ (bytes : List ℕ) (root : ℕ) (keys : Branch Node) (ring : List ℕ) (w : IsShape (cell_at bytes) root keys ring []) where
  pub whole-of : IsWholeShape (cell_at bytes) root keys ring
  whole-of = shape-whole (cell_at bytes) root keys ring w

  root_looked : IsLooked (cell_at bytes) keys.offset keys.node
  root_looked = look-open (cell_at bytes) keys.offset keys.node w.stands.0.reads

  cells-there : (cells : List Cell) × (cells_of bytes ≡ Some cells)
  cells-there = has_cells bytes keys.offset root_looked.content root_looked.here

  pub spelt_of : tree_in bytes root ≡ tree_of (cell_at bytes) keys
  unfolding tree_in
  spelt_of =
      ap (λ (o : Option (List Cell)). unwrap_or (option_and_then (λ (cells : List Cell). spelt (length cells) (cell_at bytes) root) o) empty) cells-there.1
      ∙ ap (λ (o : Option Tree). unwrap_or o empty) (spelt-in bytes root keys ring cells-there.0 cells-there.1 whole-of)

-- ---- a whole tree

module _ (bytes : List ℕ) (root : ℕ) {table : DescriptorCells} (t : TreeInvariant bytes root table) where
  abbrev pub heap : Heap
  heap = cell_at bytes

  abbrev keys : Branch Node
  keys = t.keys

  pub whole : IsWholeShape heap root keys t.ring
  whole = whole-of bytes root keys t.ring t.shape

  there : (cells : List Cell) × (cells_of bytes ≡ Some cells)
  there = cells-there bytes root keys t.ring t.shape

  pub spelt_is : tree_in bytes root ≡ tree_of heap keys
  spelt_is = spelt_of bytes root keys t.ring t.shape

  pub whole_tree : IsWholeTree bytes root (tree_in bytes root)
  whole_tree =
      let w = whole-in bytes root keys t.ring there.0 there.1 whole in
      record { cells = w.cells; cells_are = w.cells_are; whole = w.whole; spells = spelt-in bytes root keys t.ring w.cells w.cells_are whole ∙ ap Some (sym spelt_is) }

  -- the key at the end of a path is the branch there
  pub offset_is : (p : Path) → key_offset_at heap root p ≡ option_map (λ (b : Branch Node). b.offset) (branch_at p keys)
  offset_is p = subst (λ r. key_offset_at heap r p ≡ option_map (λ (b : Branch Node). b.offset) (branch_at p keys)) t.shape.offset (placed heap root keys p t.shape.stands)

  -- what the tree has at a path is what is told of the branch there
  pub rec_is : (p : Path) → get (tree_in bytes root) p ≡ option_map (λ (b : Branch Node). rec_of b.node (descriptor_in heap b.node.key.fields.security)) (branch_at p keys)
  rec_is p = ap (λ (tree : Tree). get tree p) spelt_is ∙ told heap root keys t.shape.stands p

  pub get-none : (p : Path) → key_offset_at heap root p ≡ None → get (tree_in bytes root) p ≡ None
  get-none p e = rec_is p ∙ by (branch_at p keys) (sym (offset_is p) ∙ e)
    where
      by : (o : Option (Branch Node)) → option_map (λ (b : Branch Node). b.offset) o ≡ None → option_map (λ (b : Branch Node). rec_of b.node (descriptor_in heap b.node.key.fields.security)) o ≡ None
      by None e = refl
      by (Some b) e = absurd (none-some _ (sym e))

  pub get-some : (p : Path) (o : ℕ) → key_offset_at heap root p ≡ Some o → IsSome (get (tree_in bytes root) p)
  get-some p o e = by (branch_at p keys) (sym (offset_is p) ∙ e) (rec_is p)
    where
      by : (b : Option (Branch Node)) → option_map (λ (b : Branch Node). b.offset) b ≡ Some o →
          get (tree_in bytes root) p ≡ option_map (λ (b : Branch Node). rec_of b.node (descriptor_in heap b.node.key.fields.security)) b →
          IsSome (get (tree_in bytes root) p)
      by None e g = absurd (none-some _ e)
      by (Some b) e g = ap is_some g

  pub offset-root : key_offset_at heap root [] ≡ Some root
  unfolding key_offset_at
  offset-root = refl

-- ---- one key

module _ (bytes : List ℕ) (key : ℕ) (t : IsHere bytes key) where
  abbrev h : Heap
  h = cell_at bytes

  abbrev all : Branch Node
  all = t.holds.keys

  abbrev pub branch : Branch Node
  branch = keyed.branch h t.root all t.holds.ring [] t.holds.shape t.path key t.at

  pub branch_is : branch_at t.path all ≡ Some branch
  branch_is = keyed.branch_is h t.root all t.holds.ring [] t.holds.shape t.path key t.at

  pub offset : branch.offset ≡ key
  offset = keyed.offset h t.root all t.holds.ring [] t.holds.shape t.path key t.at

  pub stands : StandsIn h t.root branch
  stands = keyed.stands h t.root all t.holds.ring [] t.holds.shape t.path key t.at

  pub seen : IsSeen h t.root branch.offset branch.node
  seen = stands.0

  pub looked : IsLooked h branch.offset branch.node
  looked = look-open h branch.offset branch.node seen.reads

  pub key_is : key_at h key ≡ Some branch.node.key
  key_is = keyed.key_is h t.root all t.holds.ring [] t.holds.shape t.path key t.at

  pub key_there : IsSome (key_at h key)
  key_there = is_some_of _ _ key_is

  pub branch_once : (z : ℕ) → total_of (owns z) branch + (times z t.holds.ring + times z []) ≤ allocated h z
  branch_once = keyed.branch_once h t.root all t.holds.ring [] t.holds.shape t.path key t.at

  -- each of its own cells is met once
  pub own_once : (z : ℕ) → owned z (own_cells branch.node) ≤ allocated h z
  own_once = keyed.own_once h t.root all t.holds.ring [] t.holds.shape t.path key t.at

  pub shallow : length t.path + depth branch.below ≤ PATH_LIMIT
  shallow = keyed.shallow h t.root all t.holds.ring [] t.holds.shape t.path key t.at

  -- what the tree has at its path
  pub rec_there : get (tree_in bytes t.root) t.path ≡ Some (rec_of branch.node (descriptor_in h branch.node.key.fields.security))
  rec_there = rec_is bytes t.root t.holds t.path ∙ ap (option_map (λ (b : Branch Node). rec_of b.node (descriptor_in h b.node.key.fields.security))) branch_is

  pub values_are : values_at (tree_in bytes t.root) t.path ≡ branch.node.values
  values_are = ap values_of rec_there

  pub are_values : AreValues h branch.node.key.fields.values branch.node.key.fields.values_list
  are_values = record {
    members = branch.node.values;
    met = looked.value_cells;
    reads = looked.values_are;
    once = λ z. (let a = own_once z in
        let o = ap (λ (found : List Found). owned z (found ++ index_cells branch.node.index)) looked.cells ∙
        own-parts z branch.offset branch.node.key looked.class_cells looked.value_cells branch.node.index in omega (arith, a, o));
    written = seen.written.values.list;
  }

  -- the list of its values as its key node names it
  module _ (count list : ℕ) (has : HasList h key count list) where
    is-list : (count ≡ branch.node.key.fields.values) × (list ≡ branch.node.key.fields.values_list)
    is-list = has branch.node.key key_is

    pub list_reads : members_at count list h ≡ Some (branch.node.values, looked.value_cells)
    list_reads = ap (λ n. members_at n list h) is-list.0 ∙ (ap (λ o. members_at branch.node.key.fields.values o h) is-list.1 ∙ looked.values_are)

    pub list_values : AreValues h count list
    list_values = subst (λ n. AreValues h n list) (sym is-list.0) (subst (λ o. AreValues h branch.node.key.fields.values o) (sym is-list.1) are_values)

    pub list_length : count ≡ length (values_at (tree_in bytes t.root) t.path)
    list_length = sym (values-length h count list list_values) ∙ ap (λ (ms : List Member). length ms) (sym (values_are ∙ same-members))
      where
        same-members : branch.node.values ≡ list_values.members
        same-members = ap (λ (p : List Member × List Found). p.0) (same_Some _ _ (sym list_reads ∙ list_values.reads))
