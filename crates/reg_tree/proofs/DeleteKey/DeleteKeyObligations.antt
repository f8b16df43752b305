-- A key deleted: what each step of it needs, and the tree before and after.
use Rattle.std.proofs.Common.{◌≡◌, ◌≢◌, ℕ, ◌-◌, ◌<◌, ◌≤◌, Bool, true, false, cond, Some, None, List, [], ◌∷◌, ◌++◌, refl, sym, ap, ◌∙◌, subst}
use Rattle.std.specs.Option.{option_map}
use Rattle.std.specs.FinMap.{get, insert, remove}
use Rattle.reg_names.specs.Names.{folded}
use Rattle.reg_heap.specs.Paths.{Path, Tree, Rec}
use Rattle.reg_heap.specs.Edits.{edited, at_time, without_key}
use Rattle.reg_heap.specs.Heaps.{Heap, CellFrame}
use Rattle.reg_heap.specs.Kinds.{times, owned}
use Rattle.reg_shape.specs.Internal.Forests.{Branch, total_of}
use Rattle.reg_heap.proofs.ChildrenOfPath.{path-is}
use Rattle.reg_arena.specs.Cells.{cell_at}
use Rattle.reg_records.specs.declared.nk.KeyFields.{KeyFields}
use Rattle.reg_records.specs.KeyNodes.{KeyRecord, key_at}
use Rattle.reg_records.specs.SubkeyLists.{Entry}
use Rattle.reg_shape.specs.Nodes.{Node, entries_of, look}
use Rattle.reg_shape.specs.Spelt.{rec_of, name_of}
use Rattle.reg_shape.specs.Whole.{IsRing, count_at}
use Rattle.reg_shape.specs.Internal.Shapes.{shares, descriptor_in, tree_of, StandsIn}
use Rattle.reg_shape.specs.Internal.Grafts.{IsShape, IsGrafted, branch_in, branch_at, graft_at}
use Rattle.reg_shape.specs.PathLookup.{key_offset_at}
use Rattle.reg_shape.proofs.Graft.WholeAfterGraft.{grafted}
use Rattle.reg_shape.proofs.Graft.ForestInsertFits.{deep-unhung}
use Rattle.reg_shape.proofs.Refinement.RefinementAfterGraft.{grafted-name, tree-unhung}
use Rattle.reg_shape.proofs.Lookup.LookupAfterGraft.{offsets-unhung}
use Rattle.reg_shape.proofs.Refinement.RefinementAfterEdit.{same_path, name-is}
use Rattle.std.proofs.lemmas.Option.{none-some, same_Some}
use Rattle.reg_shape.specs.Internal.Exchanges.{is_named, found_in}
use Rattle.reg_shape.specs.Internal.Grafts.{IsLeafAt}
use Rattle.reg_shape.proofs.Graft.ForestInsert.{found-unhang}
use Rattle.reg_shape.proofs.Refinement.RefinementAtPath.{apart-stands}
use Rattle.reg_security.specs.Rings.{DescriptorCells, Finds, IsRemoved, Recounts}
use Rattle.reg_tree.specs.TreeKeys.{tree_in}
use Rattle.reg_tree.specs.KeyLengths.{lengths_of}
use Rattle.reg_tree.specs.Internal.LengthChanges.{LengthsStay}
use Rattle.reg_tree.specs.Internal.TreeInvariant.{HasShortClasses, TreeInvariant, IsHere}
use Rattle.reg_tree.specs.Internal.KeyDeletion.{IsListed, IsUnlinked, IsSole, IsDeleted}
use Rattle.reg_tree.proofs.ValueChange.TreeAfterValueChange.{edited-at}
use Rattle.reg_tree.proofs.DeleteKey.KeyAbove as above
use Rattle.reg_tree.proofs.DeleteKey.SecurityReleased.{Releases, released}
use Rattle.reg_tree.proofs.DeleteKey.DeleteKeyFrame.{secured, key-left, sole, ring-then, used-then, count-then, some-then, finds-then}
use Rattle.reg_tree.proofs.DeleteKey.DeleteKeyGraft.{is, grafts, described-above}
use Rattle.reg_tree.proofs.DeleteKey.DeletedKeyParent.{spot, leaf, raised-none}
use Rattle.reg_tree.proofs.DeleteKey.DeletedKeyPosition.{above-is, listed, parent-is}
use Rattle.reg_tree.proofs.Invariant.ShortClasses.{deleted-short}
use Rattle.reg_tree.proofs.Invariant.KeyOfTree.{spelt_of, spelt_is, rec_is, branch, offset, key_is}
use Rattle.reg_tree.proofs.Invariant.LengthsAfterGraft.{lengths_stay}

-- paths that differ are not the same
other-path : (p q : Path) → p ≢ q → same_path p q ≡ false
other-path p q n = by (same_path p q) refl
  where
    by : (t : Bool) → same_path p q ≡ t → t ≡ false
    by true t = absurd (n (path-is p q t))
    by false t = refl

module _ (old : List ℕ) (key : ℕ) (t : IsHere old key) (childless : (branch old key t).node.key.fields.subkeys ≡ 0) (inner : t.path ≢ []) where
  abbrev h : Heap
  h = cell_at old

  abbrev keys : Branch Node
  keys = t.holds.keys

  abbrev ring : List ℕ
  ring = t.holds.ring

  abbrev w : IsShape h t.root keys ring []
  w = t.holds.shape

  abbrev b : Branch Node
  b = branch old key t

  -- ---- its parent

  abbrev p : Path
  p = (above.parts old key t inner).0

  abbrev x : List ℕ
  x = (above.parts old key t inner).1

  abbrev was : Branch Node
  was = above.was old key t inner

  was-is : branch_at p keys ≡ Some was
  was-is = above.was-is old key t inner

  stands-was : StandsIn h t.root was
  stands-was = above.stands-was old key t inner

  found : branch_in (x ∷ []) was.below ≡ Some b
  found = above.found old key t inner

  abbrev entries : List Entry
  entries = entries_of was.node.index

  abbrev index : ℕ
  index = (spot h t.root keys ring w p was was-is x b found childless).index

  called : folded (name_of b.node.key) ≡ x
  called = sym (name-is x (folded (name_of b.node.key)) (spot h t.root keys ring w p was was-is x b found childless).named)

  -- ---- what the steps need

  module _ (fields : KeyFields) (are : (r : KeyRecord) → key_at h key ≡ Some r → fields ≡ r.fields) where
    parent-offset : fields.parent ≡ was.offset
    parent-offset = ap (λ (f : KeyFields). f.parent) (are b.node.key (key_is old key t)) ∙ parent-is h t.root was stands-was x b found

    its-security : fields.security ≡ b.node.key.fields.security
    its-security = ap (λ (f : KeyFields). f.security) (are b.node.key (key_is old key t))

    listed-here : IsListed h fields.parent key was.node.key entries index
    listed-here = subst (λ o. IsListed h o key was.node.key entries index) (sym parent-offset)
        (subst (λ k. IsListed h was.offset k was.node.key entries index) (offset old key t) (listed h t.root was stands-was x b found))

    module _ (h2 : Heap) (moment : ℕ) (unlinks : (above : KeyRecord) → (entries : List Entry) → (index : ℕ) →
        IsListed h fields.parent key above entries index → IsUnlinked h h2 fields.parent above entries index moment) where
      un : IsUnlinked h h2 was.offset was.node.key entries index moment
      un = subst (λ o. IsUnlinked h h2 o was.node.key entries index moment) parent-offset (unlinks was.node.key entries index listed-here)

      pub free-ready : IsSole h2 key
      free-ready = subst (IsSole h2) (offset old key t) (sole h t.root keys ring w p was was-is x b found childless h2 moment un)

      module _ (h4 : Heap) (frees : (node : Node) → look h2 key ≡ Some node → CellFrame h2 h4 (λ z. owned z node.cells) (λ z. 0)) where
        freed : CellFrame h2 h4 (λ z. owned z b.node.cells) (λ z. 0)
        freed = frees b.node (subst (λ k. look h2 k ≡ Some b.node) (offset old key t) (key-left h t.root keys ring w p was was-is x b found childless h2 moment un))

        abbrev gone : ℕ
        gone = b.node.key.fields.security

        -- what the release of its security needs
        pub release-ring : (table : DescriptorCells) → t.table ≡ table → (ring : List ℕ) × IsRing h4 ring × (0 < times fields.security ring) × Finds table h4 ring
        release-ring table same = (
          ring,
          ring-then h t.root keys ring w p was was-is x b found childless h2 moment un h4 freed,
          subst (λ s. 0 < times s ring) (sym its-security) (secured h t.root keys ring w p was was-is x b found childless),
          subst (λ (table : DescriptorCells). Finds table h4 ring) same
              (finds-then h t.root keys ring w p was was-is x b found childless h2 moment un h4 freed t.table t.holds.finds),
        )

        pub release-some : (n : ℕ) → count_at h4 fields.security ≡ Some n → 1 ≤ n
        release-some n e =
            some-then h t.root keys ring w p was was-is x b found childless h2 moment un h4 freed n (ap (count_at h4) (sym its-security) ∙ e)

        module _ (new : List ℕ) (before after : DescriptorCells) (same : t.table ≡ before)
            (fewer : (n : ℕ) → count_at h4 fields.security ≡ Some n → 1 < n → Recounts h4 (cell_at new) fields.security (λ n. n - 1) × (after ≡ before) ×
            ((ring : List ℕ) → IsRing h4 ring → Finds before h4 ring → IsRing (cell_at new) ring × Finds after (cell_at new) ring))
            (last : count_at h4 fields.security ≡ Some 1 → (ring : List ℕ) → IsRing h4 ring → 0 < times fields.security ring → Finds before h4 ring →
            (r : IsRemoved h4 (cell_at new) ring fields.security) × Finds after (cell_at new) r.after) where
          abbrev h5 : Heap
          h5 = cell_at new

          releases : Releases h4 h5 ring gone after
          unfolding release-ring
          releases =
              let r = release-ring before same in
              subst (λ s. Releases h4 h5 ring s after) its-security
              (released h4 h5 ring fields.security r.1 r.2 (used-then h t.root keys ring w p was was-is x b found childless h2 moment un h4 freed)
              before after r.3 fewer last (total_of (shares gone) keys)
              (ap (count_at h4) its-security ∙ count-then h t.root keys ring w p was was-is x b found childless h2 moment un h4 freed))

          abbrev ring' : List ℕ
          ring' = releases.after

          abbrev came : Branch Node
          came = is h t.root keys ring w p was was-is x b found childless h2 moment un h4 freed h5 ring' releases.from

          grafts-here : IsGrafted h h5 t.root was came ring [] ring' []
          grafts-here = grafts h t.root keys ring w p was was-is x b found childless h2 moment un h4 freed h5 ring' releases.from

          abbrev now : Branch Node
          now = graft_at p came.node came.below keys

          shape-now : IsShape h5 t.root now ring' []
          shape-now = grafted h h5 t.root p keys was came ring [] ring' [] was-is grafts-here (deep-unhung p keys was index was-is w.shallow) w

          abbrev rec : Rec
          rec = rec_of was.node (descriptor_in h was.node.key.fields.security)

          rec-there : get (tree_in old t.root) p ≡ Some rec
          rec-there = rec_is old t.root t.holds p ∙ ap (option_map (λ (b : Branch Node). rec_of b.node (descriptor_in h b.node.key.fields.security))) was-is

          tree-now : tree_in new t.root ≡ without_key (tree_in old t.root) t.path moment
          tree-now =
              spelt_of new t.root now ring' shape-now
              ∙ (tree-unhung h h5 t.root p keys was came ring [] ring' [] was-is grafts-here w index b.offset b.node x called refl
              (leaf h t.root keys ring w p was was-is x b found childless)
              ∙ (ap (λ d. remove (insert (tree_of h keys) p (rec_of came.node d)) (p ++ x ∷ []))
              (described-above h t.root keys ring w p was was-is x b found childless h2 moment un h4 freed h5 ring' releases.from)
              ∙ (ap (λ (tree : Tree). remove (insert tree p (at_time moment rec)) (p ++ x ∷ [])) (sym (spelt_is old t.root t.holds))
              ∙ (ap (λ (tree : Tree). remove tree (p ++ x ∷ [])) (sym (edited-at (tree_in old t.root) p rec (at_time moment) rec-there))
              ∙ (ap (λ q. remove (edited (tree_in old t.root) q (at_time moment)) (p ++ x ∷ [])) (sym (above-is p x))
              ∙ ap (λ q. without_key (tree_in old t.root) q moment) (sym (above.parts old key t inner).2))))))

          holds-now : TreeInvariant new t.root after
          holds-now = record {
            keys = now;
            ring = ring';
            shape = shape-now;
            finds = releases.finds;
            classes = subst HasShortClasses (sym tree-now) (deleted-short (tree_in old t.root) t.path moment t.holds.classes);
          }

          offsets-now : (q : Path) → q ≢ t.path → key_offset_at h5 t.root q ≡ key_offset_at h t.root q
          offsets-now q n =
              offsets-unhung h h5 t.root p keys was came ring [] ring' [] was-is grafts-here w index b.offset b.node x called refl
              (leaf h t.root keys ring w p was was-is x b found childless) q
              ∙ ap (λ same. cond same None (key_offset_at h t.root q)) (other-path q (p ++ x ∷ []) (λ e. n (e ∙ sym (above.parts old key t inner).2)))

          pub is-deleted : IsDeleted old new t.root after t.path moment
          is-deleted = record { holds = holds-now; tree = tree-now; offsets = offsets-now }

          -- the largest lengths that are noted stay
          leaf-there : IsLeafAt index b.offset b.node was.below
          leaf-there = leaf h t.root keys ring w p was was-is x b found childless

          below-same : (y : List ℕ) (r : Path) (o : ℕ) (m n : Node) → found_in (y ∷ r) was.below ≡ Some (o, m) → found_in (y ∷ r) came.below ≡ Some (o, n) → n ≡ m
          below-same y r o m n e f = by (is_named y b.node) (sym (found-unhang index b.offset b.node was.below (apart-stands h t.root was stands-was) leaf-there y r) ∙ f)
            where
              by : (named : Bool) → cond named None (found_in (y ∷ r) was.below) ≡ Some (o, n) → n ≡ m
              by true g = absurd (none-some _ g)
              by false g = ap (λ (z : ℕ × Node). z.1) (same_Some _ _ (sym g ∙ e))

          pub lengths-stay : LengthsStay h h5 t.root
          unfolding holds-now
          lengths-stay =
              lengths_stay h h5 t.root p keys was came was-is (grafted-name h h5 t.root p keys was came ring [] ring' [] was-is grafts-here w)
              w.offset w.stands holds-now.shape.offset holds-now.shape.stands below-same
              (ap (λ n. record (lengths_of was.node.key) { subkey_name = n }) (raised-none was.node.key.fields.largest_subkey_name))
