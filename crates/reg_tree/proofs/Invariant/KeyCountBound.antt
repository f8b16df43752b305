-- There are fewer keys than bytes, so that a security's count of its keys always has room for one more.
use Rattle.std.proofs.Common.{◌≡◌, ℕ, ◌+◌, ◌≤◌, ◌<◌, Bool, true, false, cond, eqb, Some, List, [], ◌∷◌, ◌++◌, length, sym, ap, ◌∙◌, arith, length-append}
use Rattle.std.specs.Option.{option_map}
use Rattle.std.proofs.lemmas.Option.{same_Some}
use Rattle.reg_arena.proofs.FreeList.ThreadLinks.{times-append}
use Rattle.reg_arena.specs.declared.Cell.{Cell}
use Rattle.reg_arena.specs.Cells.{Bin, Tiles, AreBins, cells_in, cells_of, cell_at}
use Rattle.reg_arena.proofs.Tiling.CellLayout.{in_bins, has_cells}
use Rattle.reg_heap.specs.Heaps.{Heap, allocated}
use Rattle.reg_heap.specs.Kinds.{Found, times, owned, shared}
use Rattle.reg_shape.specs.Internal.Forests.{Forest, Branch, total, total_of, Stand}
use Rattle.reg_shape.specs.Internal.Forests.Forest.{End, Rooted as Hangs}
use Rattle.reg_records.specs.KeySecurities.{KeySecurityRecord, security_at}
use Rattle.reg_shape.specs.Nodes.{Node}
use Rattle.reg_shape.specs.Written.{Fits}
use Rattle.reg_shape.specs.Internal.Shapes.{index_cells, cells_of as own_cells, owns, shares, IsSeen}
use Rattle.reg_shape.specs.Whole.{count_at}
use Rattle.reg_shape.specs.Internal.Grafts.{IsShape}
use Rattle.reg_shape.proofs.Wholeness.FewerNumbers.{fewer, one-among}
use Rattle.reg_shape.proofs.Walking.WalkRefinement.{look-open}
use Rattle.reg_shape.proofs.Wholeness.AllocatedCells.{cells-most}
use Rattle.reg_shape.proofs.Wholeness.ShapeRecords.{all-at}
use Rattle.reg_shape.proofs.Walking.InnerReadings.{class-inner, members-inner}
use Rattle.reg_tree.proofs.Invariant.OwnCells.{own-parts, shared-parts, inner-unshared}
use Rattle.reg_tree.proofs.InsertKey.ParentReindexed.{shared-index}

-- ---- cells and bytes

tiles-many : (bytes : List ℕ) (at stop : ℕ) (cells : List Cell) → Tiles bytes at stop cells → at + length cells ≤ stop
tiles-many bytes at stop [] t = omega (arith, t)
tiles-many bytes at stop (c ∷ cells) t =
    let r = tiles-many bytes (at + c.size) stop cells t.2 in
    let p = t.1.positive in
    omega (arith, r, p)

bins-many : (bytes : List ℕ) (at : ℕ) (layout : List Bin) → AreBins bytes at layout → at + length (cells_in layout) ≤ length bytes
bins-many bytes at [] a = omega (arith, a)
bins-many bytes at (b ∷ layout) a =
    let t = tiles-many bytes (at + 32) (at + b.size) b.cells a.2 in
    let r = bins-many bytes (at + b.size) layout a.3 in
    let l = length-append b.cells (cells_in layout) in
    omega (arith, t, r, l)

few-cells : (bytes : List ℕ) (cells : List Cell) → cells_of bytes ≡ Some cells → length cells ≤ length bytes
few-cells bytes cells e = let b = in_bins bytes cells e in let l = bins-many bytes 0 b.0 b.1 in let n = ap length b.2 in omega (arith, l, n)

-- ---- keys and cells

offsets_of : Forest Node → List ℕ
offsets_of End = []
offsets_of (Hangs o n b s) = o ∷ offsets_of b ++ offsets_of s

own-offset : (h : Heap) (root o : ℕ) (n : Node) → IsSeen h root o n → (z : ℕ) → cond (eqb o z) 1 0 ≤ owned z (own_cells n)
own-offset h root o n s z =
    let l = look-open h o n s.reads in
    let p = ap (λ (found : List Found). owned z (found ++ index_cells n.index)) l.cells ∙ own-parts z o n.key l.class_cells l.value_cells n.index in
    omega (arith, p)

own-offsets : (h : Heap) (root : ℕ) (F : Forest Node) → Stand (IsSeen h root) Fits F → (z : ℕ) → times z (offsets_of F) ≤ total (owns z) F
unfolding offsets_of
own-offsets h root End a z = omega arith
own-offsets h root (Hangs o n b s) a z =
    let here = own-offset h root o n a.0.0 z in
    let under = own-offsets h root b a.0.2 z in
    let next = own-offsets h root s a.1 z in
    let t = times-append z (offsets_of b) (offsets_of s) in
    omega (arith, here, under, next, t)

-- a key names one security
one-shared : (h : Heap) (root o : ℕ) (n : Node) → IsSeen h root o n → (z : ℕ) → shared z (own_cells n) ≤ 1
one-shared h root o n s z =
    let l = look-open h o n s.reads in
    let k = n.key.fields in
    let p = ap (λ (found : List Found). shared z (found ++ index_cells n.index)) l.cells ∙ shared-parts z o n.key l.class_cells l.value_cells n.index in
    let c = inner-unshared z l.class_cells (class-inner h k.class_length k.class (n.class, l.class_cells) l.class_is) in
    let v = inner-unshared z l.value_cells (members-inner h k.values k.values_list (n.values, l.value_cells) l.values_are) in
    let i = shared-index z n.index in
    let f = at-most (eqb k.security z) in
    omega (arith, p, c, v, i, f)
  where
    at-most : (b : Bool) → cond b 1 0 ≤ 1
    at-most true = omega arith
    at-most false = omega arith

shared-offsets : (h : Heap) (root : ℕ) (F : Forest Node) → Stand (IsSeen h root) Fits F → (z : ℕ) → total (shares z) F ≤ length (offsets_of F)
unfolding offsets_of
shared-offsets h root End a z = omega arith
shared-offsets h root (Hangs o n b s) a z =
    let here = one-shared h root o n a.0.0 z in
    let under = shared-offsets h root b a.0.2 z in
    let next = shared-offsets h root s a.1 z in
    let l = length-append (offsets_of b) (offsets_of s) in
    omega (arith, here, under, next, l)

module _ (bytes : List ℕ) (root : ℕ) (keys : Branch Node) (ring spare : List ℕ) (w : IsShape (cell_at bytes) root keys ring spare) where
  abbrev h : Heap
  h = cell_at bytes

  abbrev all : List ℕ
  all = keys.offset ∷ offsets_of keys.below

  own-all : (z : ℕ) → times z all + times z ring ≤ allocated h z
  own-all z =
      let here = own-offset h root keys.offset keys.node w.stands.0 z in
      let under = own-offsets h root keys.below w.stands.2 z in
      let x = w.exact z in
      omega (arith, here, under, x)

  there : (cells : List Cell) × (cells_of bytes ≡ Some cells)
  there = let l = look-open h keys.offset keys.node w.stands.0.reads in has_cells bytes keys.offset l.content l.here

  few : (r : ℕ) → 0 < times r ring → length (r ∷ all) ≤ length bytes
  few r l =
      let m = cells-most bytes there.0 there.1 in
      let c = few-cells bytes there.0 there.1 in
      let f = fewer (r ∷ all) m.offsets (λ z. (let a = own-all z in let b = m.all z in let c = one-among r z ring l in omega (arith, a, b, c))) in
      let n = m.few in
      omega (arith, f, n, c)

  users-few : (z : ℕ) → 0 < times z ring → total_of (shares z) keys < length bytes
  users-few z l =
      let here = one-shared h root keys.offset keys.node w.stands.0 z in
      let under = shared-offsets h root keys.below w.stands.2 z in
      let f = few z l in
      omega (arith, here, under, f)

  -- the count of a security
  pub count-few : (z : ℕ) → 0 < times z ring → (s : KeySecurityRecord) → security_at h z ≡ Some s → s.fields.count < length bytes
  count-few z l s e =
      let counts = all-at (λ z. count_at h z ≡ Some (total_of (shares z) keys)) ring z w.counts l in
      let c : ◌≡◌ {A = ℕ} s.fields.count (total_of (shares z) keys) = same_Some _ _ (sym (ap (option_map (λ (s : KeySecurityRecord). s.fields.count)) e) ∙ counts) in
      let f = users-few z l in
      omega (arith, c, f)
