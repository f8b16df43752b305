-- A key whose key node noted the length of a class of a key below it: the tree is what it was, and its cells are as they were.
use Rattle.std.proofs.Common.{◌≡◌, ◌≢◌, ℕ, ◌+◌, ◌≤◌, ◌<◌, max, Some, List, ◌++◌, refl, sym, ap, ◌∙◌, subst, arith}
use Rattle.std.proofs.lemmas.Option.{same_Some}
use Rattle.reg_heap.specs.Paths.{Path, Rec}
use Rattle.reg_heap.specs.Heaps.{Heap, allocated}
use Rattle.reg_heap.specs.Kinds.{Found, times, is_own, owned}
use Rattle.reg_heap.specs.Kinds.Kind.{Key, Class}
use Rattle.reg_records.specs.BigData.{if_any}
use Rattle.reg_records.specs.KeyNodes.{KeyRecord, key_at, IsPlainKey}
use Rattle.reg_records.specs.RecordCells.{held}
use Rattle.reg_shape.specs.Nodes.{Node, pieces_at}
use Rattle.reg_shape.specs.Spelt.{rec_of}
use Rattle.reg_shape.specs.PathLookup.{key_offset_at}
use Rattle.reg_shape.specs.Internal.Forests.{Branch, total_of}
use Rattle.reg_shape.specs.Internal.Shapes.{index_cells, cells_of, owns, descriptor_in, tree_of, IsSeen}
use Rattle.reg_shape.specs.Internal.Exchanges.{IsExchanged}
use Rattle.reg_shape.specs.Internal.Grafts.{IsShape, IsGrafted, IsGraftedInRing, branch_at, graft_at}
use Rattle.reg_shape.proofs.Frame.KeyFrame.{Keeps, agree-inner}
use Rattle.reg_shape.proofs.Frame.ReadingFrame.{pieces-local}
use Rattle.reg_shape.proofs.Graft.GraftOfExchange.{exchange-grafts}
use Rattle.reg_shape.proofs.Graft.GraftInRing.{descriptor-recounted, graft-in-ring, tree-same-below-in-ring}
use Rattle.reg_shape.proofs.Graft.WholeAfterGraft.{grafted}
use Rattle.reg_shape.proofs.Lookup.LookupAfterGraft.{offsets-same}
use Rattle.reg_shape.proofs.Refinement.RefinementAfterGraft.{grafted-name}
use Rattle.reg_shape.proofs.Walking.InnerReadings.{class-inner}
use Rattle.reg_shape.proofs.Walking.WalkRefinement.{IsLooked}
use Rattle.reg_shape.proofs.Wholeness.ShapeRecords.{at-most-one}
use Rattle.reg_tree.specs.Internal.KeyBuilding.{noted_class, with_class_length}
use Rattle.reg_tree.specs.Internal.LengthChanges.{LengthsChange}
use Rattle.reg_tree.specs.Internal.KeyNodeChanges.{Notes}
use Rattle.reg_tree.specs.Internal.SpareCells.{StillStand}
use Rattle.reg_tree.proofs.Invariant.CellReadings.{is_some_of, key-exists}
use Rattle.reg_tree.proofs.Invariant.LengthsAfterGraft.{lengths_change}
use Rattle.reg_tree.proofs.Invariant.KeyOfShape as keyed
use Rattle.reg_tree.proofs.Invariant.OwnCells.{own-parts, key-here}
use Rattle.reg_tree.proofs.Invariant.UntouchedCells.{written-allocated}
use Rattle.reg_tree.proofs.InsertKey.SpareCellsCarved.{insert-same}
use Rattle.reg_tree.proofs.BuildKey.KeyRewritten.{rewritten, sees-rewritten, fits-rewritten, owned-rewritten, shared-rewritten}

module _ (h j : Heap) (root : ℕ) (keys : Branch Node) (ring spare : List ℕ) (w : IsShape h root keys ring spare) (p : Path) (key : ℕ)
    (at : key_offset_at h root p ≡ Some key) (size : ℕ) (notes : Notes h j key (noted_class size)) where
  abbrev was : Branch Node
  was = keyed.branch h root keys ring spare w p key at

  abbrev n : Node
  n = was.node

  was-is : branch_at p keys ≡ Some was
  was-is = keyed.branch_is h root keys ring spare w p key at

  seen : IsSeen h root was.offset n
  seen = keyed.seen h root keys ring spare w p key at

  abbrev l : IsLooked h was.offset n
  l = keyed.looked h root keys ring spare w p key at

  room : (z : ℕ) → total_of (owns z) was + (times z ring + times z spare) ≤ allocated h z
  room = keyed.branch_once h root keys ring spare w p key at

  offset : was.offset ≡ key
  offset = keyed.offset h root keys ring spare w p key at

  key-is : key_at h key ≡ Some n.key
  key-is = keyed.key_is h root keys ring spare w p key at

  there : Notes h j was.offset (noted_class size)
  there = subst (λ o. Notes h j o (noted_class size)) (sym offset) notes

  parts : (z : ℕ) → owned z (cells_of n) ≡ is_own z (record { kind = Key; offset = was.offset }) + ((owned z l.class_cells + owned z l.value_cells) + owned z (index_cells n.index))
  parts z = ap (λ (found : List Found). owned z (found ++ index_cells n.index)) l.cells ∙ own-parts z was.offset n.key l.class_cells l.value_cells n.index

  -- a cell that the key has beside its key node, or that is spare, is another
  other : (z : ℕ) → 0 < (owned z l.class_cells + (owned z l.value_cells + owned z (index_cells n.index))) + times z spare → z ≢ was.offset
  other z some e =
      let q = parts z in
      let r = room z in
      let m = at-most-one h z in
      let one = key-here z was.offset e in
      absurd (omega (arith, q, r, m, one, some))

  class-calm : Keeps h j l.class_cells
  class-calm z some = there.others z (other z (omega (arith, some)))

  values-calm : Keeps h j l.value_cells
  values-calm z some = there.others z (other z (omega (arith, some)))

  index-calm : Keeps h j (index_cells n.index)
  index-calm z some = there.others z (other z (omega (arith, some)))

  spare-calm : (z : ℕ) → 0 < times z spare → j z ≡ h z
  spare-calm z some = there.others z (other z (omega (arith, some)))

  key-before : key_at h was.offset ≡ Some n.key
  key-before = subst (λ o. key_at h o ≡ Some n.key) (sym offset) key-is

  key-now : key_at j was.offset ≡ Some (noted_class size n.key)
  key-now = there.reads n.key key-before

  plain-now : IsPlainKey (held j was.offset)
  plain-now = there.plain seen.written.plain

  class-now : pieces_at (if_any Class n.key.fields.class_length n.key.fields.class) j ≡ Some (n.class, l.class_cells)
  class-now =
      pieces-local (if_any Class n.key.fields.class_length n.key.fields.class) h j (n.class, l.class_cells) l.class_is
      (agree-inner h j l.class_cells (class-inner h n.key.fields.class_length n.key.fields.class (n.class, l.class_cells) l.class_is) class-calm)

  abbrev largest : ℕ
  largest = max n.key.fields.largest_subkey_class size

  abbrev after : Node
  after = rewritten h j root was.offset n seen l n.key.fields.flags n.key.fields.time n.key.fields.class n.key.fields.class_length largest
      key-now plain-now n.class l.class_cells class-now values-calm index-calm refl seen.written.class

  exchanged : IsExchanged h j root was.offset n after
  exchanged = record {
    frame = record {
      count = λ z. (
          let a = written-allocated h j was.offset there.others (key-exists h was.offset (is_some_of _ _ key-before)) (key-exists j was.offset (is_some_of _ _ key-now)) z in
          let o = owned-rewritten h j root was.offset n seen l n.key.fields.flags n.key.fields.time n.key.fields.class n.key.fields.class_length largest
          key-now plain-now n.class l.class_cells class-now values-calm index-calm refl seen.written.class z in
          omega (arith, a, o));
      same = λ z gone came. there.others z (λ e. (let q = parts z in let one = key-here z was.offset e in absurd (omega (arith, q, one, gone))));
    };
    seen = sees-rewritten h j root was.offset n seen l n.key.fields.flags n.key.fields.time n.key.fields.class n.key.fields.class_length largest
        key-now plain-now n.class l.class_cells class-now values-calm index-calm refl seen.written.class;
    alike = record { name = refl; parent = refl; class_length = refl };
    fits = fits-rewritten h j root was.offset n seen l n.key.fields.flags n.key.fields.time n.key.fields.class n.key.fields.class_length largest
        key-now plain-now n.class l.class_cells class-now values-calm index-calm refl seen.written.class (omega arith);
    security = shared-rewritten h j root was.offset n seen l n.key.fields.flags n.key.fields.time n.key.fields.class n.key.fields.class_length largest
        key-now plain-now n.class l.class_cells class-now values-calm index-calm refl seen.written.class;
  }

  abbrev is : Branch Node
  is = record was { node = after }

  in-ring : IsGraftedInRing h j root was is ring spare spare
  in-ring = exchange-grafts h j root was after ring spare exchanged room (keyed.stands h root keys ring spare w p key at) w.closed

  grafts : IsGrafted h j root was is ring spare ring spare
  grafts = graft-in-ring h j root p keys was is ring spare spare was-is in-ring w

  abbrev now : Branch Node
  now = graft_at p after was.below keys

  shape : IsShape j root now ring spare
  shape = grafted h j root p keys was is ring spare ring spare was-is grafts (keyed.shallow h root keys ring spare w p key at) w

  abbrev rec : Rec
  rec = rec_of n (descriptor_in h n.key.fields.security)

  spells-now : tree_of j now ≡ tree_of h keys
  spells-now =
      tree-same-below-in-ring h j root p keys was is ring spare spare was-is in-ring w refl
      ∙ insert-same (tree_of h keys) p rec (keyed.rec_there h root keys ring spare w p key at)

  pub still-stand : StillStand h j root ring spare (tree_of h keys)
  still-stand = record {
    now = now;
    shape = shape;
    spells = spells-now;
    offsets = λ q. offsets-same h j root p keys was is ring spare ring spare was-is grafts w refl q;
    described = λ z s. descriptor-recounted h j was is z (in-ring.recounted z s);
    spare = spare-calm;
  }

  -- the largest lengths that the key notes
  pub lengths-noted : LengthsChange h j root p (with_class_length size)
  lengths-noted =
      lengths_change h j root p keys was is was-is (grafted-name h j root p keys was is ring spare ring spare was-is grafts w)
      w.offset w.stands shape.offset shape.stands
      (λ y r o m n e f. ap (λ (z : ℕ × Node). z.1) (same_Some _ _ (sym f ∙ e))) (with_class_length size) refl
      (λ q o at. offsets-same h j root p keys was is ring spare ring spare was-is grafts w refl q ∙ at)

  -- a class of that length has room
  pub roomy : (k : KeyRecord) → key_at j key ≡ Some k → size ≤ k.fields.largest_subkey_class
  roomy k e =
      let r = notes.reads n.key key-is in
      let same = same_Some _ _ (sym r ∙ e) in
      subst (λ (k : KeyRecord). size ≤ k.fields.largest_subkey_class) same (omega arith)
