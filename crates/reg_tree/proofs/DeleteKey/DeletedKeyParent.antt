-- A key without subkeys and its parent: the cells of each, each met once, and its security.
use Rattle.std.proofs.Common.{◌≡◌, ℕ, ◌+◌, ◌<◌, ◌≤◌, Some, List, [], ◌∷◌, ap, ◌∙◌, arith}
use Rattle.reg_heap.specs.Paths.{Path}
use Rattle.reg_heap.specs.Heaps.{Heap, allocated}
use Rattle.reg_heap.specs.Kinds.{times, is_own, owned}
use Rattle.reg_shape.specs.Internal.Forests.{Forest, Branch, total, total_of}
use Rattle.reg_records.specs.SubkeyLists.{Entry}
use Rattle.reg_shape.specs.Nodes.{Node, entries_of}
use Rattle.reg_shape.specs.Nodes.Index.{Unlisted}
use Rattle.reg_shape.specs.Internal.Shapes.{index_cells, cells_of, owns, shares, StandsIn}
use Rattle.reg_shape.specs.Internal.Grafts.{IsShape, IsLeafAt, branch_in, branch_at, unhang}
use Rattle.reg_shape.proofs.Graft.Branches.{branch-stands, branch-total}
use Rattle.reg_shape.proofs.Wholeness.ShapeCounts.{tally-append}
use Rattle.reg_shape.proofs.Graft.ForestInsert.{leaf-at, total-unhang}
use Rattle.reg_shape.proofs.Walking.WalkRefinement.{IsLooked, look-open}
use Rattle.reg_shape.proofs.Wholeness.ShapeRecords.{shares-own}
use Rattle.reg_index.specs.Subkeys.{cells_of_index}
use Rattle.reg_index.proofs.SubkeysFrame.{owned-index}
use Rattle.reg_tree.specs.Internal.KeyNodeChanges.{raised}
use Rattle.reg_tree.proofs.DeleteKey.DeletedKeyCells.{own-met}
use Rattle.reg_tree.proofs.DeleteKey.DeletedKeyPosition.{IsHead, head, unlisted}

-- a largest length that no length raises
pub raised-none : (largest : ℕ) → raised largest 0 ≡ largest
raised-none largest = omega arith

-- ---- before: the parent `was`, and the key `b` below it

module _ (h0 : Heap) (root : ℕ) (keys : Branch Node) (ring : List ℕ) (w : IsShape h0 root keys ring []) (p : Path) (was : Branch Node)
    (e : branch_at p keys ≡ Some was)
    (x : List ℕ) (b : Branch Node) (found : branch_in (x ∷ []) was.below ≡ Some b) (childless : b.node.key.fields.subkeys ≡ 0) where
  abbrev m : Node
  m = was.node

  abbrev n : Node
  n = b.node

  abbrev entries : List Entry
  entries = entries_of m.index

  pub stands : StandsIn h0 root was
  stands = branch-stands h0 root was p keys e w.stands

  pub key_stands : StandsIn h0 root b
  key_stands = branch-stands h0 root b (x ∷ []) was found stands

  pub l : IsLooked h0 was.offset m
  l = look-open h0 was.offset m stands.0.reads

  pub n_l : IsLooked h0 b.offset n
  n_l = look-open h0 b.offset n key_stands.0.reads

  abbrev pub spot : IsHead x was.below b
  spot = head h0 root was stands x b found

  abbrev rest : Forest Node
  rest = unhang spot.index was.below

  pub leaf : IsLeafAt spot.index b.offset n was.below
  leaf = leaf-at h0 root spot.index b.offset n was.below spot.rest stands.2 spot.at childless

  abbrev s : ℕ
  s = n.key.fields.security

  named : 0 < total_of (shares s) was
  named =
      let o = shares-own h0 root b.offset n key_stands.0.reads in
      let t = branch-total (shares s) b (x ∷ []) was found in
      omega (arith, o, t)

  -- its security is in the ring
  pub secured : 0 < times s ring
  secured = let t = branch-total (shares s) was p keys e in let o = named in (w.ringed s).0 (omega (arith, o, t))

  -- its cells, and its parent's
  abbrev old_list : List ℕ
  old_list = cells_of_index m.index

  pub index-cells : (z : ℕ) → owned z (index_cells m.index) ≡ times z old_list
  index-cells z = owned-index z m.index

  pub m-parts : (z : ℕ) → owned z (cells_of m) ≡ times z (was.offset ∷ []) + (owned z l.class_cells + owned z l.value_cells) + times z old_list
  m-parts z =
      let a = tally-append (is_own z) m.cells (index_cells m.index) in
      let c = ap (owned z) l.cells ∙ own-met z was.offset m.key l.class_cells l.value_cells in
      let i = index-cells z in
      omega (arith, a, c, i)

  pub n-unlisted : n.index ≡ Unlisted
  n-unlisted = unlisted h0 n.key.fields.subkeys n.key.fields.subkeys_list n.index n_l.index_is childless

  pub n-parts : (z : ℕ) → owned z (cells_of n) ≡ owned z n.cells
  n-parts z =
      let a = tally-append (is_own z) n.cells (index_cells n.index) in
      let i : ◌≡◌ {A = ℕ} (owned z (index_cells n.index)) 0 = ap (λ i. owned z (index_cells i)) n-unlisted in
      omega (arith, a, i)

  pub below-parts : (f : ℕ → Node → ℕ) → total f rest + f b.offset n ≡ total f was.below
  below-parts f = total-unhang f spot.index b.offset n was.below leaf

  -- each of these cells is met once
  pub room : (z : ℕ) → (times z (was.offset ∷ []) + (owned z l.class_cells + owned z l.value_cells) + times z old_list) +
      (total (owns z) rest + owned z n.cells) + times z ring ≤ allocated h0 z
  room z =
      let t = branch-total (owns z) was p keys e in
      let x = w.exact z in
      let a = m-parts z in
      let c = n-parts z in
      let d = below-parts (owns z) in
      omega (arith, t, x, a, c, d)
