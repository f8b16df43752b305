-- A key described by another descriptor: what each step of it needs, and the tree before and after.
use Rattle.std.proofs.Common.{◌≡◌, ℕ, ◌-◌, ◌<◌, ◌≤◌, Option, Some, IsSome, List, [], refl, sym, ap, ◌∙◌, subst}
use Rattle.std.specs.FinMap.{get, insert}
use Rattle.std.proofs.lemmas.Option.{same_Some}
use Rattle.reg_heap.specs.Paths.{Path, Rec}
use Rattle.reg_heap.specs.Edits.{edited, with_descriptor}
use Rattle.reg_heap.specs.Heaps.{Heap}
use Rattle.reg_heap.specs.Kinds.{times}
use Rattle.reg_arena.specs.Cells.{cell_at}
use Rattle.reg_records.specs.declared.nk.KeyFields.{KeyFields}
use Rattle.reg_records.specs.KeyNodes.{KeyRecord, key_at}
use Rattle.reg_shape.specs.Internal.Forests.{Branch}
use Rattle.reg_shape.specs.Nodes.{Node}
use Rattle.reg_shape.specs.Spelt.{rec_of}
use Rattle.reg_shape.specs.Whole.{IsRing, count_at}
use Rattle.reg_shape.specs.Internal.Shapes.{descriptor_in, tree_of}
use Rattle.reg_shape.specs.Internal.Grafts.{IsShape, IsGrafted, branch_at, graft_at}
use Rattle.reg_shape.specs.PathLookup.{key_offset_at}
use Rattle.reg_shape.proofs.Graft.WholeAfterGraft.{grafted}
use Rattle.reg_shape.proofs.Lookup.LookupAfterGraft.{offsets-same}
use Rattle.reg_shape.proofs.Refinement.RefinementAfterGraft.{grafted-name, tree-same-below}
use Rattle.reg_index.specs.Subkeys.{KeepsCells, taken}
use Rattle.reg_index.proofs.KeptCells.{kept-then}
use Rattle.reg_security.specs.Rings.{DescriptorCells, Finds, IsRemoved, Recounts}
use Rattle.reg_tree.specs.TreeKeys.{tree_in}
use Rattle.reg_tree.specs.Internal.DescriptorChange.{IsDescribable, IsDescribed, Joins}
use Rattle.reg_tree.specs.Internal.KeyNodeChanges.{Notes, noted_security}
use Rattle.reg_tree.specs.Internal.LengthChanges.{LengthsStay}
use Rattle.reg_tree.specs.Internal.TreeInvariant.{HasShortClasses, TreeInvariant}
use Rattle.reg_tree.proofs.DeleteKey.SecurityReleased.{Releases, released}
use Rattle.reg_tree.proofs.DescribeKey.SecurityJoined.{HasJoined}
use Rattle.reg_tree.proofs.DescribeKey.DescribeFrame as frame
use Rattle.reg_tree.proofs.DescribeKey.DescribeGraft as graft
use Rattle.reg_tree.proofs.Invariant.CellReadings.{is_some_of}
use Rattle.reg_tree.proofs.Invariant.KeyOfShape as keyed
use Rattle.reg_tree.proofs.Invariant.ShortClasses.{edited-short}
use Rattle.reg_tree.proofs.Invariant.KeyOfTree.{spelt_of}
use Rattle.reg_tree.proofs.Invariant.LengthsAfterGraft.{lengths_stay}
use Rattle.reg_tree.proofs.ValueChange.TreeAfterValueChange.{edited-at}

module _ (old : List ℕ) (key : ℕ) (table : DescriptorCells) (descriptor : List ℕ) (cell : Option ℕ) (d : IsDescribable old key table descriptor cell) where
  abbrev h : Heap
  h = cell_at old

  abbrev w : IsShape h d.root d.keys d.ring (taken cell)
  w = d.shape

  abbrev b : Branch Node
  b = keyed.branch h d.root d.keys d.ring (taken cell) w d.path key d.at

  b-is : branch_at d.path d.keys ≡ Some b
  b-is = keyed.branch_is h d.root d.keys d.ring (taken cell) w d.path key d.at

  b-offset : b.offset ≡ key
  b-offset = keyed.offset h d.root d.keys d.ring (taken cell) w d.path key d.at

  key-is : key_at h key ≡ Some b.node.key
  key-is = keyed.key_is h d.root d.keys d.ring (taken cell) w d.path key d.at

  pub key-there : IsSome (key_at h key)
  key-there = is_some_of _ _ key-is

  abbrev gone : ℕ
  gone = b.node.key.fields.security

  -- ---- what the steps need

  module _ (fields : KeyFields) (are : (r : KeyRecord) → key_at h key ≡ Some r → fields ≡ r.fields) where
    its-security : fields.security ≡ gone
    its-security = ap (λ (f : KeyFields). f.security) (are b.node.key key-is)

    pub join-ready : 0 < times fields.security d.ring
    join-ready = subst (λ s. 0 < times s d.ring) (sym its-security) (frame.secured h d.root d.keys d.ring cell w d.path b b-is)

    module _ (h1 : Heap) (s : ℕ) (u : DescriptorCells) (joins : (other : ℕ) → (d : IsDescribable old other table descriptor cell) →
        0 < times fields.security d.ring → HasJoined h h1 d.ring cell s descriptor u) where
      abbrev after : List ℕ
      after = (joins key d join-ready).0

      abbrev j : Joins h h1 d.ring after cell s descriptor
      j = (joins key d join-ready).1

      pub note-ready : IsSome (key_at h1 key)
      note-ready =
          subst (λ k. IsSome (key_at h1 k)) b-offset
          (is_some_of _ _ (frame.key-mid h d.root d.keys d.ring cell w d.path b b-is h1 after s descriptor j))

      module _ (h2 : Heap) (moment : ℕ) (noted : Notes h1 h2 key (noted_security s moment)) where
        notes : Notes h1 h2 b.offset (noted_security s moment)
        notes = subst (λ k. Notes h1 h2 k (noted_security s moment)) (sym b-offset) noted

        ring-then : IsRing h2 after
        ring-then = frame.ring-then h d.root d.keys d.ring cell w d.path b b-is h1 after s descriptor j h2 moment notes

        gone-then : 0 < times gone after
        gone-then = frame.gone-then h d.root d.keys d.ring cell w d.path b b-is h1 after s descriptor j h2 moment notes

        finds-then : Finds u h2 after
        finds-then = frame.finds-then h d.root d.keys d.ring cell w d.path b b-is h1 after s descriptor j h2 moment notes u (joins key d join-ready).2

        -- what the release of its security needs
        pub release-ring : (ring : List ℕ) × IsRing h2 ring × (0 < times fields.security ring) × Finds u h2 ring
        release-ring = (after, ring-then, subst (λ s. 0 < times s after) (sym its-security) gone-then, finds-then)

        pub release-some : (n : ℕ) → count_at h2 fields.security ≡ Some n → 1 ≤ n
        release-some n e =
            frame.some-then h d.root d.keys d.ring cell w d.path b b-is h1 after s descriptor j h2 moment notes n (ap (count_at h2) (sym its-security) ∙ e)

        module _ (new : List ℕ) (v : DescriptorCells)
            (fewer : (n : ℕ) → count_at h2 fields.security ≡ Some n → 1 < n → Recounts h2 (cell_at new) fields.security (λ n. n - 1) × (v ≡ u) ×
            ((ring : List ℕ) → IsRing h2 ring → Finds u h2 ring → IsRing (cell_at new) ring × Finds v (cell_at new) ring))
            (last : count_at h2 fields.security ≡ Some 1 → (ring : List ℕ) → IsRing h2 ring → 0 < times fields.security ring → Finds u h2 ring →
            (r : IsRemoved h2 (cell_at new) ring fields.security) × Finds v (cell_at new) r.after) where
          abbrev h3 : Heap
          h3 = cell_at new

          counted : (n : ℕ) × (count_at h2 gone ≡ Some n)
          counted = frame.count-then h d.root d.keys d.ring cell w d.path b b-is h1 after s descriptor j h2 moment notes

          releases : Releases h2 h3 after gone v
          releases =
              subst (λ s. Releases h2 h3 after s v) its-security
              (released h2 h3 after fields.security ring-then (subst (λ s. 0 < times s after) (sym its-security) gone-then)
              (frame.used-then h d.root d.keys d.ring cell w d.path b b-is h1 after s descriptor j h2 moment notes)
              u v finds-then fewer last counted.0 (ap (count_at h2) its-security ∙ counted.1))

          abbrev ring' : List ℕ
          ring' = releases.after

          abbrev came : Branch Node
          came = graft.is h d.root d.keys d.ring cell w d.path b b-is h1 after s descriptor j h2 moment notes h3 ring' releases.from

          grafts : IsGrafted h h3 d.root b came d.ring (taken cell) ring' []
          grafts = graft.grafts h d.root d.keys d.ring cell w d.path b b-is h1 after s descriptor j h2 moment notes h3 ring' releases.from

          abbrev now : Branch Node
          now = graft_at d.path came.node came.below d.keys

          shape-now : IsShape h3 d.root now ring' []
          shape-now =
              grafted h h3 d.root d.path d.keys b came d.ring (taken cell) ring' [] b-is grafts
              (keyed.shallow h d.root d.keys d.ring (taken cell) w d.path key d.at) w

          abbrev rec : Rec
          rec = rec_of b.node (descriptor_in h gone)

          rec-there : get (tree_of h d.keys) d.path ≡ Some rec
          rec-there = keyed.rec_there h d.root d.keys d.ring (taken cell) w d.path key d.at

          tree-now : tree_in new d.root ≡ edited (tree_of h d.keys) d.path (with_descriptor descriptor moment)
          tree-now =
              spelt_of new d.root now ring' shape-now
              ∙ (tree-same-below h h3 d.root d.path d.keys b came d.ring (taken cell) ring' [] b-is grafts w refl
              ∙ (ap (λ text. insert (tree_of h d.keys) d.path (rec_of came.node text))
              (graft.describes-now h d.root d.keys d.ring cell w d.path b b-is h1 after s descriptor j h2 moment notes h3 ring' releases.from)
              ∙ sym (edited-at (tree_of h d.keys) d.path rec (with_descriptor descriptor moment) rec-there)))

          holds-now : TreeInvariant new d.root v
          holds-now = record {
            keys = now;
            ring = ring';
            shape = shape-now;
            finds = releases.finds;
            classes = subst HasShortClasses (sym tree-now) (edited-short (tree_of h d.keys) d.path (with_descriptor descriptor moment) (λ r e. refl) d.classes);
          }

          offsets-now : (q : Path) → key_offset_at h3 d.root q ≡ key_offset_at h d.root q
          offsets-now q = offsets-same h h3 d.root d.path d.keys b came d.ring (taken cell) ring' [] b-is grafts w refl q

          -- the largest lengths that are noted stay
          lengths-now : LengthsStay h h3 d.root
          lengths-now =
              lengths_stay h h3 d.root d.path d.keys b came b-is
              (grafted-name h h3 d.root d.path d.keys b came d.ring (taken cell) ring' [] b-is grafts w)
              w.offset w.stands shape-now.offset shape-now.stands (λ y r o m n e f. ap (λ (z : ℕ × Node). z.1) (same_Some _ _ (sym f ∙ e))) refl

          pub is-described : KeepsCells h h1 → KeepsCells h1 h2 → KeepsCells h2 h3 → IsDescribed old new d.root d.path d.keys d.ring v descriptor moment
          is-described k1 k2 k3 = record {
            holds = holds-now;
            tree = tree-now;
            offsets = offsets-now;
            lengths = λ q o at. lengths-now q o at (offsets-now q ∙ at);
            keeps = kept-then h h2 h3 (kept-then h h1 h2 k1 k2) k3;
            leaves = graft.leaves h d.root d.keys d.ring cell w d.path b b-is h1 after s descriptor j h2 moment notes h3 ring' releases.from;
          }
