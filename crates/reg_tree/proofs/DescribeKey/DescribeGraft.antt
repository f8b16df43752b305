-- A key described by another descriptor, as a graft of its branch.
use Rattle.std.proofs.Common.{◌≡◌, ℕ, zero, suc, ◌+◌, ◌<◌, ◌≤◌, Option, Some, List, [], ◌∷◌, refl, sym, ap, ◌∙◌, subst, arith}
use Rattle.std.specs.Prelude.{unwrap_or}
use Rattle.reg_heap.specs.Paths.{Path}
use Rattle.reg_heap.specs.Heaps.{Heap, allocated}
use Rattle.reg_heap.specs.Kinds.{times, owned, shared}
use Rattle.reg_records.specs.RecordCells.{held}
use Rattle.reg_records.specs.KeyNodes.{key_at, IsPlainKey}
use Rattle.reg_shape.specs.Internal.Forests.{Branch, heads, total, total_of}
use Rattle.reg_shape.specs.Nodes.{Node, met_of}
use Rattle.reg_shape.specs.Whole.{descriptor_at}
use Rattle.reg_shape.specs.Internal.Shapes.{index_cells, cells_of, owns, shares, descriptor_in, IsSeen}
use Rattle.reg_shape.specs.Internal.Grafts.{IsShape, IsGrafted, branch_at, uses_in}
use Rattle.reg_shape.proofs.Frame.KeyFrame.{Keeps}
use Rattle.reg_shape.proofs.Frame.WrittenFrame.{same-held}
use Rattle.reg_shape.proofs.Graft.Branches.{branch-total}
use Rattle.reg_shape.proofs.Walking.WalkRefinement.{IsLooked}
use Rattle.reg_shape.proofs.Wholeness.ShapeRecords.{at-most-one, is-allocated, allocated-is}
use Rattle.reg_shape.proofs.Wholeness.WholeAfterExchange.{forest-kept}
use Rattle.reg_values.proofs.ValueFreeing.FrameChains.{times-same}
use Rattle.reg_index.specs.Subkeys.{taken}
use Rattle.reg_tree.specs.Internal.KeyNodeChanges.{LeavesOthers, Notes, noted_security}
use Rattle.reg_tree.specs.Internal.DescriptorChange.{Joins}
use Rattle.reg_tree.proofs.DeleteKey.SecurityReleased.{ReleasesFrom, used-in}
use Rattle.reg_tree.proofs.DescribeKey.KeyRedescribed.{sees-redescribed, fits-redescribed, owned-redescribed}
use Rattle.reg_tree.proofs.DescribeKey.DescribeFrame as frame
use Rattle.reg_tree.proofs.Invariant.CellReadings.{key-moved}
use Rattle.reg_tree.proofs.Invariant.DescribedKeys.{names-once}
use Rattle.reg_tree.proofs.Invariant.UntouchedCells.{not-there, there-is}

module _ (h : Heap) (root : ℕ) (keys : Branch Node) (ring : List ℕ) (cell : Option ℕ) (w : IsShape h root keys ring (taken cell)) (p : Path)
    (b : Branch Node) (e : branch_at p keys ≡ Some b)
    (h1 : Heap) (after : List ℕ) (s : ℕ) (descriptor : List ℕ) (j : Joins h h1 ring after cell s descriptor)
    (h2 : Heap) (moment : ℕ) (notes : Notes h1 h2 b.offset (noted_security s moment))
    (h3 : Heap) (ring' : List ℕ) (re : ReleasesFrom h2 h3 after ring' b.node.key.fields.security) where
  abbrev n : Node
  n = b.node

  abbrev gone : ℕ
  gone = n.key.fields.security

  abbrev l : IsLooked h b.offset n
  l = frame.l h root keys ring cell w p b e

  seen-before : IsSeen h root b.offset n
  seen-before = (frame.stands h root keys ring cell w p b e).0

  room : (z : ℕ) → total_of (owns z) b + (times z ring + times z (taken cell)) ≤ allocated h z
  room = frame.room h root keys ring cell w p b e

  parts : (z : ℕ) → owned z (cells_of n) ≡ times z (b.offset ∷ []) + (owned z l.class_cells + owned z l.value_cells) + owned z (index_cells n.index)
  parts = frame.parts h root keys ring cell w p b e

  uses-then : (z : ℕ) → uses_in h2 after z ≡ uses_in h ring z + times z (s ∷ [])
  uses-then = frame.uses-then h root keys ring cell w p b e h1 after s descriptor j h2 moment notes

  uses-before : (z : ℕ) → uses_in h ring z ≡ total_of (shares z) keys
  uses-before = frame.uses-before h root keys ring cell w p b e h1 after s descriptor j h2 moment notes

  -- ---- what stays

  other : (z : ℕ) → times z after ≡ 0 → h3 z ≡ h2 z
  other z a = re.frame.same z a (let v = re.within z in omega (arith, v, a))

  -- a cell that is no security's
  past : (z : ℕ) → times z (taken cell) ≡ 0 → times z ring ≡ 0 → h3 z ≡ h2 z
  past z a c = other z (let m = j.members z in omega (arith, m, a, c))

  -- and not the key node's
  calm : (z : ℕ) → times z (taken cell) ≡ 0 → times z ring ≡ 0 → times z (b.offset ∷ []) ≡ 0 → h3 z ≡ h z
  calm z a c d =
      past z a c
      ∙ (notes.others z (not-there z b.offset d)
      ∙ frame.calm-joined h root keys ring cell w p b e h1 after s descriptor j z a c)

  class-calm : Keeps h h3 l.class_cells
  class-calm z some = let r = room z in let q = parts z in let o = at-most-one h z in
      calm z (omega (arith, r, q, o, some)) (omega (arith, r, q, o, some)) (omega (arith, r, q, o, some))

  values-calm : Keeps h h3 l.value_cells
  values-calm z some = let r = room z in let q = parts z in let o = at-most-one h z in
      calm z (omega (arith, r, q, o, some)) (omega (arith, r, q, o, some)) (omega (arith, r, q, o, some))

  index-calm : Keeps h h3 (index_cells n.index)
  index-calm z some = let r = room z in let q = parts z in let o = at-most-one h z in
      calm z (omega (arith, r, q, o, some)) (omega (arith, r, q, o, some)) (omega (arith, r, q, o, some))

  below-calm : (z : ℕ) → 0 < total (owns z) b.below → h3 z ≡ h z
  below-calm z some = let r = room z in let q = parts z in let o = at-most-one h z in
      calm z (omega (arith, r, q, o, some)) (omega (arith, r, q, o, some)) (omega (arith, r, q, o, some))

  -- ---- the key

  offset-now : h3 b.offset ≡ h2 b.offset
  offset-now =
      let z = b.offset in let r = room z in let q = parts z in let t = times-same z in let o = at-most-one h z in
      past z (omega (arith, r, q, t, o)) (omega (arith, r, q, t, o))

  key-now : key_at h3 b.offset ≡ Some (noted_security s moment n.key)
  key-now = key-moved h2 h3 b.offset offset-now ∙ frame.key-then h root keys ring cell w p b e h1 after s descriptor j h2 moment notes

  plain-now : IsPlainKey (held h3 b.offset)
  plain-now =
      subst IsPlainKey (sym (same-held h2 h3 b.offset offset-now))
      (notes.plain (subst IsPlainKey (sym (same-held h h1 b.offset (frame.offset-mid h root keys ring cell w p b e h1 after s descriptor j))) seen-before.written.plain))

  abbrev pub now : Node
  now = record {
    key = noted_security s moment n.key;
    class = n.class;
    values = n.values;
    cells = met_of b.offset (noted_security s moment n.key) l.class_cells l.value_cells;
    index = n.index;
  }

  seen-now : IsSeen h3 root b.offset now
  seen-now = sees-redescribed h h3 root b.offset n seen-before l s moment key-now plain-now class-calm values-calm index-calm

  owned-now : (z : ℕ) → owned z (cells_of now) ≡ owned z (cells_of n)
  owned-now = owned-redescribed h h3 root b.offset n seen-before l s moment key-now plain-now class-calm values-calm index-calm

  shared-before : (z : ℕ) → shared z (cells_of n) ≡ times z (gone ∷ [])
  shared-before = names-once h b.offset n seen-before.reads

  shared-now : (z : ℕ) → shared z (cells_of now) ≡ times z (s ∷ [])
  shared-now = names-once h3 b.offset now seen-now.reads

  -- ---- the graft

  abbrev pub is : Branch Node
  is = record { offset = b.offset; node = now; below = b.below }

  recounted-now : (z : ℕ) → uses_in h3 ring' z + total_of (shares z) b ≡ uses_in h ring z + total_of (shares z) is
  recounted-now z =
      let a = re.fewer z in
      let c = uses-then z in
      let d = shared-before z in
      let f = shared-now z in
      omega (arith, a, c, d, f)

  -- the security that was joined is in the ring
  pub joined-now : 0 < times s ring'
  joined-now =
      let a = recounted-now s in
      let c = uses-before s in
      let t = branch-total (shares s) b p keys e in
      let f = shared-now s in
      let o = times-same s in
      used-in h3 ring' s (omega (arith, a, c, t, f, o))

  described-now : (z : ℕ) → 0 < times z ring' → descriptor_at h3 z ≡ descriptor_at h1 z
  described-now z m =
      re.described z m ∙ frame.described-then h root keys ring cell w p b e h1 after s descriptor j h2 moment notes z (let v = re.within z in omega (arith, v, m))

  pub describes-now : descriptor_in h3 s ≡ descriptor
  describes-now = ap (λ d. unwrap_or d []) (described-now s joined-now ∙ j.describes)

  allocated-now : (z : ℕ) → allocated h3 z + times z after ≡ allocated h z + times z ring'
  allocated-now z =
      let a = re.frame.count z in
      let c = frame.allocated-then h root keys ring cell w p b e h1 after s descriptor j h2 moment notes z in
      omega (arith, a, c)

  pub grafts : IsGrafted h h3 root b is ring (taken cell) ring' []
  grafts = record {
    offset = refl;
    alike = record { name = refl; parent = refl; class_length = refl };
    stands = (
      seen-now,
      fits-redescribed h h3 root b.offset n seen-before l s moment key-now plain-now class-calm values-calm index-calm (heads b.below)
          (frame.stands h root keys ring cell w p b e).1,
      forest-kept h h3 root b.below (frame.stands h root keys ring cell w p b e).2 below-calm,
    );
    count = λ z. (
        let a = allocated-now z in
        let m = j.members z in
        let d = owned-now z in
        omega (arith, a, m, d));
    same = λ z some none spare apart. (let q = parts z in calm z spare apart (omega (arith, none, q)));
    closed = re.closed;
    described = λ z there m. described-now z m ∙ j.described z there;
    used = re.used;
    recounted = recounted-now;
  }

  -- ---- the cells that are there

  -- each that is no security's of the ring stays
  pub leaves : LeavesOthers h h3 ring
  leaves z there none = is-allocated h3 z (by (times z (taken cell)) refl)
    where
      some : 0 < allocated h z
      some = let a = allocated-is h z there in omega (arith, a)

      by : (t : ℕ) → times z (taken cell) ≡ t → 0 < allocated h3 z
      by zero free = let a = allocated-now z in let m = j.members z in let s = some in omega (arith, a, m, s, none, free)
      by (suc t) is =
          let q = j.newest z in
          let same = ap (λ y. times y ring') (there-is z s (omega (arith, q, is))) in
          let a = allocated-now z in
          let m = j.members z in
          let f = some in
          let g = joined-now in
          let u = room z in
          let o = at-most-one h z in
          omega (arith, a, m, f, same, g, none, is, u, o)
