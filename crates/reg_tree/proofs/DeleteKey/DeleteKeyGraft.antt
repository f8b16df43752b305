-- A key taken from its parent and its cells given up, as a graft of the parent's branch.
use Rattle.std.proofs.Common.{◌≡◌, ℕ, ◌+◌, ◌%◌, ◌<◌, ◌≤◌, Some, List, [], ◌∷◌, refl, sym, ap, ◌∙◌, subst, arith}
use Rattle.std.specs.Prelude.{unwrap_or}
use Rattle.std.specs.List.{AllByRecursion}
use Rattle.reg_heap.specs.declared.limits.TheConstants.{SUBKEYS_LIMIT}
use Rattle.reg_heap.specs.Paths.{Path}
use Rattle.reg_heap.specs.Heaps.{Heap, CellFrame, allocated}
use Rattle.reg_heap.specs.Kinds.{times, owned, shared}
use Rattle.reg_shape.specs.Internal.Forests.{Forest, Branch, heads, total, total_of}
use Rattle.reg_records.specs.RecordCells.{held}
use Rattle.reg_records.specs.KeyNodes.{key_at, IsPlainKey}
use Rattle.reg_records.specs.SubkeyLists.{Entry, offsets_in}
use Rattle.reg_shape.specs.Nodes.{Node, entries_of, met_of}
use Rattle.reg_shape.specs.Written.{Fits}
use Rattle.reg_shape.specs.Internal.Shapes.{index_cells, cells_of, owns, shares, descriptor_in, IsSeen, StandsIn}
use Rattle.reg_shape.specs.Whole.{descriptor_at}
use Rattle.reg_shape.specs.Internal.Grafts.{IsShape, IsGrafted, branch_in, branch_at, unhang, uses_in}
use Rattle.reg_shape.proofs.Graft.Branches.{branch-total}
use Rattle.reg_shape.proofs.Graft.WholeAfterGraft.{uses-named}
use Rattle.reg_shape.proofs.Wholeness.WholeAfterExchange.{all-weaker}
use Rattle.reg_shape.proofs.Graft.ForestInsert.{stand-unhang}
use Rattle.reg_shape.proofs.Graft.ForestInsertFits.{fits-unhung, stands-unhung}
use Rattle.reg_shape.proofs.Frame.KeyFrame.{Keeps}
use Rattle.reg_shape.proofs.Frame.WrittenFrame.{same-held}
use Rattle.reg_shape.proofs.Walking.WalkRefinement.{IsLooked}
use Rattle.reg_shape.proofs.Wholeness.ShapeRecords.{shares-own, at-most-one}
use Rattle.reg_values.proofs.ValueFreeing.FrameChains.{times-same}
use Rattle.reg_index.specs.Subkeys.{AreSubkeys, Moves, cells_of_index, own, without}
use Rattle.reg_index.proofs.EntryTaken.{length-without}
use Rattle.reg_index.proofs.SubkeysOpening.{own-is}
use Rattle.reg_index.proofs.SubkeysFrame.{owned-index}
use Rattle.reg_index.proofs.RefinementOfSubkeys.{subkeys-elsewhere}
use Rattle.reg_tree.specs.Internal.KeyNodeChanges.{noted_subkeys}
use Rattle.reg_tree.specs.Internal.KeyDeletion.{IsUnlinked}
use Rattle.reg_tree.proofs.DeleteKey.DeletedKeyPosition.{IsHead, by-offsets, heads-owned, listed}
use Rattle.reg_tree.proofs.DeleteKey.SecurityReleased.{ReleasesFrom, used-in}
use Rattle.reg_tree.proofs.Invariant.CellReadings.{key-moved}
use Rattle.reg_tree.proofs.InsertKey.ParentReindexed.{sees-reindexed, owned-reindexed, shared-reindexed}
use Rattle.reg_tree.proofs.Invariant.UntouchedCells.{not-there}
use Rattle.reg_tree.proofs.DeleteKey.DeletedKeyParent.{raised-none}
use Rattle.reg_tree.proofs.DeleteKey.DeletedKeyParent as before
use Rattle.reg_tree.proofs.DeleteKey.DeleteKeyFrame as frame

module _ (h0 : Heap) (root : ℕ) (keys : Branch Node) (ring : List ℕ) (w : IsShape h0 root keys ring []) (p : Path) (was : Branch Node)
    (e : branch_at p keys ≡ Some was)
    (x : List ℕ) (b : Branch Node) (found : branch_in (x ∷ []) was.below ≡ Some b) (childless : b.node.key.fields.subkeys ≡ 0) where
  abbrev m : Node
  m = was.node

  abbrev n : Node
  n = b.node

  abbrev entries : List Entry
  entries = entries_of m.index

  abbrev s : ℕ
  s = n.key.fields.security

  abbrev old_list : List ℕ
  old_list = cells_of_index m.index

  stands : StandsIn h0 root was
  stands = frame.stands h0 root keys ring w p was e x b found childless

  abbrev l : IsLooked h0 was.offset m
  l = before.l h0 root keys ring w p was e x b found childless

  abbrev spot : IsHead x was.below b
  spot = before.spot h0 root keys ring w p was e x b found childless

  abbrev rest : Forest Node
  rest = unhang spot.index was.below

  index-cells : (z : ℕ) → owned z (index_cells m.index) ≡ times z old_list
  index-cells = frame.index-cells h0 root keys ring w p was e x b found childless

  m-parts : (z : ℕ) → owned z (cells_of m) ≡ times z (was.offset ∷ []) + (owned z l.class_cells + owned z l.value_cells) + times z old_list
  m-parts = frame.m-parts h0 root keys ring w p was e x b found childless

  n-parts : (z : ℕ) → owned z (cells_of n) ≡ owned z n.cells
  n-parts = frame.n-parts h0 root keys ring w p was e x b found childless

  below-parts : (f : ℕ → Node → ℕ) → total f rest + f b.offset n ≡ total f was.below
  below-parts = frame.below-parts h0 root keys ring w p was e x b found childless

  room : (z : ℕ) → (times z (was.offset ∷ []) + (owned z l.class_cells + owned z l.value_cells) + times z old_list) + (total (owns z) rest + owned z n.cells) + times z ring ≤ allocated h0 z
  room = frame.room h0 root keys ring w p was e x b found childless

  module _ (h2 : Heap) (moment : ℕ) (un : IsUnlinked h0 h2 was.offset m.key entries spot.index moment) where
    abbrev h1 : Heap
    h1 = un.mid

    moves : Moves h0 h1 old_list (own h1 un.count un.list)
    moves = frame.moves h0 root keys ring w p was e x b found childless h2 moment un

    calm-mid : (z : ℕ) → 0 < allocated h0 z → times z old_list ≡ 0 → h1 z ≡ h0 z
    calm-mid = frame.calm-mid h0 root keys ring w p was e x b found childless h2 moment un

    offset-mid : h1 was.offset ≡ h0 was.offset
    offset-mid = frame.offset-mid h0 root keys ring w p was e x b found childless h2 moment un

    key-then : key_at h2 was.offset ≡ Some (noted_subkeys un.count un.list 0 moment m.key)
    key-then = frame.key-then h0 root keys ring w p was e x b found childless h2 moment un

    same-number : (z : ℕ) → allocated h2 z ≡ allocated h1 z
    same-number = frame.same-number h0 root keys ring w p was e x b found childless h2 moment un

    module _ (h4 : Heap) (freed : CellFrame h2 h4 (λ z. owned z n.cells) (λ z. 0)) where
      calm-freed : (z : ℕ) → 0 < allocated h0 z → times z old_list ≡ 0 → times z (was.offset ∷ []) ≡ 0 → owned z n.cells ≡ 0 → h4 z ≡ h0 z
      calm-freed = frame.calm-freed h0 root keys ring w p was e x b found childless h2 moment un h4 freed

      described-then : (z : ℕ) → 0 < times z ring → descriptor_at h4 z ≡ descriptor_at h0 z
      described-then = frame.described-then h0 root keys ring w p was e x b found childless h2 moment un h4 freed

      uses-then : (z : ℕ) → uses_in h4 ring z ≡ uses_in h0 ring z
      uses-then = frame.uses-then h0 root keys ring w p was e x b found childless h2 moment un h4 freed

      names-once : (z : ℕ) → shared z (cells_of n) ≡ times z (s ∷ [])
      names-once = frame.names-once h0 root keys ring w p was e x b found childless h2 moment un h4 freed

      module _ (h5 : Heap) (ring' : List ℕ) (re : ReleasesFrom h4 h5 ring ring' s) where
        abbrev entries' : List Entry
        entries' = without spot.index entries

        other : (z : ℕ) → times z ring ≡ 0 → h5 z ≡ h4 z
        other z a = re.frame.same z a (let v = re.within z in omega (arith, v, a))

        calm : (z : ℕ) → 0 < allocated h0 z → times z old_list ≡ 0 → times z (was.offset ∷ []) ≡ 0 → owned z n.cells ≡ 0 → times z ring ≡ 0 → h5 z ≡ h0 z
        calm z some a c d f = other z f ∙ calm-freed z some a c d

        class-calm : Keeps h0 h5 l.class_cells
        class-calm z some = let r = room z in let o = at-most-one h0 z in
            calm z (omega (arith, r, some)) (omega (arith, r, o, some)) (omega (arith, r, o, some)) (omega (arith, r, o, some))
            (omega (arith, r, o, some))

        values-calm : Keeps h0 h5 l.value_cells
        values-calm z some = let r = room z in let o = at-most-one h0 z in
            calm z (omega (arith, r, some)) (omega (arith, r, o, some)) (omega (arith, r, o, some)) (omega (arith, r, o, some))
            (omega (arith, r, o, some))

        rest-calm : (z : ℕ) → 0 < total (owns z) rest → h5 z ≡ h0 z
        rest-calm z some = let r = room z in let o = at-most-one h0 z in
            calm z (omega (arith, r, some)) (omega (arith, r, o, some)) (omega (arith, r, o, some)) (omega (arith, r, o, some))
            (omega (arith, r, o, some))

        -- the parent's key node

        offset-calm : h5 was.offset ≡ h2 was.offset
        offset-calm =
            let z = was.offset in let r = room z in let t = times-same z in let o = at-most-one h0 z in
            other z (omega (arith, r, t, o)) ∙ freed.same z (omega (arith, r, t, o)) refl

        key-now : key_at h5 was.offset ≡ Some (noted_subkeys un.count un.list 0 moment m.key)
        key-now = key-moved h2 h5 was.offset offset-calm ∙ key-then

        plain-now : IsPlainKey (held h5 was.offset)
        plain-now =
            subst IsPlainKey (sym (same-held h2 h5 was.offset offset-calm)) (un.notes.plain (subst IsPlainKey (sym (same-held h0 h1 was.offset offset-mid)) stands.0.written.plain))

        -- its subkeys

        abbrev pub after : Node
        after = record {
          key = noted_subkeys un.count un.list 0 moment m.key;
          class = m.class;
          values = m.values;
          cells =
              met_of was.offset (noted_subkeys un.count un.list 0 moment m.key) l.class_cells l.value_cells;
          index = un.subkeys.index;
        }

        fits : Fits was.offset after (heads rest)
        fits =
            let r = ap (λ n. n % 65536) (raised-none m.key.fields.largest_subkey_name) in
            fits-unhung was.offset spot.index m after un.subkeys.entries_are (omega (arith, r)) (omega arith) was.below stands.1

        entries-owned : AllByRecursion (λ (e : Entry). 0 < total (owns e.offset) rest) entries'
        entries-owned =
            by-offsets (λ z. 0 < total (owns z) rest) (heads rest) entries' (fits.offsets ∙ ap offsets_in un.subkeys.entries_are)
            (heads-owned h0 root rest (stand-unhang (IsSeen h0 root) Fits spot.index was.below stands.2))

        entries-stay : AllByRecursion (λ (e : Entry). key_at h5 e.offset ≡ key_at h1 e.offset) entries'
        entries-stay = all-weaker (λ (e : Entry). 0 < total (owns e.offset) rest) (λ (e : Entry). key_at h5 e.offset ≡ key_at h1 e.offset)
            (λ e some. (
            let z = e.offset in let r = room z in let o = at-most-one h0 z in
            key-moved h1 h5 z (rest-calm z some ∙ sym (calm-mid z (omega (arith, r, some)) (omega (arith, r, o, some))))))
            entries' entries-owned

        list-stays : (z : ℕ) → 0 < times z (own h1 un.count un.list) → h5 z ≡ h1 z
        list-stays z some =
            let r = room z in
            let c = moves.count z in
            let o = at-most-one h1 z in
            other z (omega (arith, r, c, o, some)) ∙ (freed.same z (omega (arith, r, c, o, some)) refl ∙ un.notes.others z (not-there z was.offset (omega (arith, r, c, o, some))))

        abbrev subkeys-now : AreSubkeys h5 un.count un.list entries'
        subkeys-now = subkeys-elsewhere h1 h5 un.count un.list entries' un.subkeys list-stays entries-stay

        few : un.count ≤ SUBKEYS_LIMIT
        few =
            let l = length-without spot.index entries (listed h0 root was stands x b found).within in
            let n = un.subkeys.number in
            let w = stands.0.written.subkeys in
            let f = stands.0.written.few in
            omega (arith, l, n, w, f)

        seen-now : IsSeen h5 root was.offset after
        seen-now = sees-reindexed h0 h5 root was.offset m stands.0 l un.count un.list 0 moment entries' key-now plain-now class-calm values-calm subkeys-now (omega arith) few

        -- the counts

        owned-now : (z : ℕ) → owned z (cells_of after) + times z old_list ≡ owned z (cells_of m) + times z (own h1 un.count un.list)
        owned-now z =
            let a = owned-reindexed h0 h5 root was.offset m stands.0 l un.count un.list 0 moment entries' key-now plain-now class-calm values-calm subkeys-now z in
            let c = index-cells z in
            let d = owned-index z un.subkeys.index in
            let f = ap (times z) (own-is h1 un.count un.list un.subkeys.index un.subkeys.read) in
            omega (arith, a, c, d, f)

        shared-now : (z : ℕ) → shared z (cells_of after) ≡ shared z (cells_of m)
        shared-now z = shared-reindexed h0 h5 root was.offset m stands.0 l un.count un.list 0 moment entries' key-now plain-now class-calm values-calm subkeys-now z

        -- ---- the graft

        abbrev pub is : Branch Node
        is = record { offset = was.offset; node = after; below = rest }

        recounted-now : (z : ℕ) → uses_in h5 ring' z + total_of (shares z) was ≡ uses_in h0 ring z + total_of (shares z) is
        recounted-now z =
            let a = re.fewer z in
            let c = uses-then z in
            let d = shared-now z in
            let f = below-parts (shares z) in
            let g = names-once z in
            omega (arith, a, c, d, f, g)

        pub grafts : IsGrafted h0 h5 root was is ring [] ring' []
        grafts = record {
          offset = refl;
          alike = record { name = refl; parent = refl; class_length = refl };
          stands = stands-unhung h0 h5 root was after spot.index seen-now stands.2 fits rest-calm;
          count = λ z. (
              let a = re.frame.count z in
              let c = freed.count z in
              let d = same-number z in
              let f = moves.count z in
              let g = owned-now z in
              let i = below-parts (owns z) in
              let j = n-parts z in
              omega (arith, a, c, d, f, g, i, j));
          same = λ z some none spare apart. (
              let i = below-parts (owns z) in
              let j = n-parts z in
              let q = m-parts z in
              calm z some (omega (arith, none, q)) (omega (arith, none, q)) (omega (arith, none, i, j)) apart);
          closed = re.closed;
          described = λ z l m. re.described z m ∙ described-then z l;
          used = re.used;
          recounted = recounted-now;
        }

        -- the parent's security describes what it did
        pub described-above : descriptor_in h5 m.key.fields.security ≡ descriptor_in h0 m.key.fields.security
        described-above =
            let z = m.key.fields.security in
            let o = shares-own h0 root was.offset m stands.0.reads in
            let d = shared-now z in
            let a = recounted-now z in
            let c = uses-named h0 root keys ring [] w z in
            let t = branch-total (shares z) was p keys e in
            let now = used-in h5 ring' z (omega (arith, o, d, a, c, t)) in
            let l = re.within z in
            ap (λ d. unwrap_or d []) (re.described z now ∙ described-then z (omega (arith, now, l)))
