-- A key's last list moved into the cell that was carved for it: which cells stay, and the key as it is then.
use Rattle.std.proofs.Common.{◌≡◌, ◌≢◌, ℕ, zero, suc, ◌+◌, ◌*◌, ◌%◌, ◌<◌, ◌≤◌, Some, List, [], ◌∷◌, ◌++◌, length, map, refl, sym, ap, ◌∙◌, subst, arith}
use Rattle.std.specs.List.{AllByRecursion}
use Rattle.reg_names.specs.Names.{hash}
use Rattle.reg_arena.proofs.FreeList.ThreadLinks.{times-append}
use Rattle.reg_arena.specs.Cells.{cell_at}
use Rattle.reg_heap.specs.Heaps.{AreNew, CellFrame, Heap, allocated}
use Rattle.reg_heap.specs.Kinds.{Found, times, is_own, owned}
use Rattle.reg_heap.specs.Kinds.Kind.{Key}
use Rattle.reg_records.specs.KeyNodes.{KeyRecord, key_at, IsPlainKey}
use Rattle.reg_records.specs.RecordCells.{held}
use Rattle.reg_records.specs.SubkeyLists.{Entry, offsets_in}
use Rattle.reg_records.proofs.KeyNodeCodec.{key_at-same}
use Rattle.reg_shape.specs.Nodes.{Node, entries_of}
use Rattle.reg_shape.specs.Written.{Fits}
use Rattle.reg_shape.specs.Internal.Exchanges.{IsExchanged}
use Rattle.reg_shape.specs.Internal.Forests.{Branch, heads, total}
use Rattle.reg_shape.specs.Internal.Shapes.{index_cells, cells_of, owns, IsSeen, StandsIn}
use Rattle.reg_shape.proofs.Frame.KeyFrame.{Keeps}
use Rattle.reg_shape.proofs.Frame.WrittenFrame.{same-held}
use Rattle.reg_shape.proofs.Graft.ForestInsertFits.{all-mapped}
use Rattle.reg_shape.proofs.Walking.WalkRefinement.{IsLooked}
use Rattle.reg_shape.proofs.Wholeness.ShapeRecords.{allocated-is, at-most-one}
use Rattle.reg_index.specs.Subkeys.{AreSubkeys, cells_of_index, own}
use Rattle.reg_index.proofs.RefinementOfSubkeys.{subkeys-elsewhere}
use Rattle.reg_index.proofs.SubkeysFrame.{own-stays, owned-index}
use Rattle.reg_index.proofs.SubkeysOpening.{own-is}
use Rattle.reg_tree.specs.Internal.KeyNodeChanges.{Notes, noted_subkeys}
use Rattle.reg_tree.specs.Internal.ListLengthening.{IsLengthened, listed_at}
use Rattle.reg_tree.specs.Internal.TreeInvariant.{IsHere}
use Rattle.reg_tree.proofs.DeleteKey.DeletedKeyParent.{raised-none}
use Rattle.reg_tree.proofs.InsertKey.ParentReindexed.{reindexed, sees-reindexed, owned-reindexed, shared-reindexed}
use Rattle.reg_tree.proofs.Invariant.CellReadings.{is_some_of, key-exists}
use Rattle.reg_tree.proofs.Invariant.KeyOfTree as tree
use Rattle.reg_tree.proofs.Invariant.OwnCells.{own-parts, key-here}
use Rattle.reg_tree.proofs.Invariant.UntouchedCells.{all-heads, all-of, moved-calm, moved-none, there-is, written-allocated}
use Rattle.reg_tree.proofs.LengthenList.ListCarved.{own-then, still}

-- a key node whose subkeys are listed elsewhere, as a change of its subkeys notes it: as many, none of a longer name, at the same time
pub as-noted : (list : ℕ) (key : KeyRecord) → listed_at list key ≡ noted_subkeys key.fields.subkeys list 0 key.fields.time key
as-noted list key =
    ap (λ n. record key { fields = record key.fields { subkeys_list = list; largest_subkey_name = n } }) (sym (raised-none key.fields.largest_subkey_name))

-- ---- the cells: `h0` before, `h1` with a cell carved, `h2` with the list moved into it, `h3` when that was noted in the key node

module _ (old mid new : List ℕ) (key cell size : ℕ) (t : IsHere old key) (adds : AreNew (cell_at old) (cell_at mid) (cell ∷ []) (size ∷ []))
    (l : IsLengthened (cell_at mid) (cell_at new) key cell (tree.branch old key t).node.key (entries_of (tree.branch old key t).node.index)) where
  abbrev h0 : Heap
  h0 = cell_at old

  abbrev h1 : Heap
  h1 = cell_at mid

  abbrev h2 : Heap
  h2 = l.mid

  abbrev h3 : Heap
  h3 = cell_at new

  abbrev was : Branch Node
  was = tree.branch old key t

  abbrev node : Node
  node = was.node

  abbrev its : KeyRecord
  its = node.key

  abbrev count : ℕ
  count = its.fields.subkeys

  abbrev entries : List Entry
  entries = entries_of node.index

  abbrev looked : IsLooked h0 was.offset node
  looked = tree.looked old key t

  abbrev seen : IsSeen h0 t.root was.offset node
  seen = tree.seen old key t

  abbrev P : ℕ
  P = was.offset

  abbrev K : ℕ → ℕ
  K z = is_own z (record { kind = Key; offset = P })

  abbrev old_list : List ℕ
  old_list = cells_of_index node.index

  abbrev new_list : List ℕ
  new_list = own h2 count l.list

  its-notes : Notes h2 h3 P (listed_at l.list)
  its-notes = subst (λ o. Notes h2 h3 o (listed_at l.list)) (sym (tree.offset old key t)) l.notes

  own-index : (z : ℕ) → owned z (index_cells node.index) ≡ times z old_list
  own-index z = owned-index z node.index

  parts : (z : ℕ) → owned z (cells_of node) ≡ K z + ((owned z looked.class_cells + owned z looked.value_cells) + owned z (index_cells node.index))
  parts z = ap (λ (found : List Found). owned z (found ++ index_cells node.index)) looked.cells ∙ own-parts z P its looked.class_cells looked.value_cells node.index

  -- every cell is one thing alone
  budget : (z : ℕ) → (K z + (owned z looked.class_cells + owned z looked.value_cells)) + (times z old_list + total (owns z) was.below) ≤ allocated h0 z
  budget z = let b = tree.branch_once old key t z in let p = parts z in let i = own-index z in omega (arith, b, p, i)

  one : (z : ℕ) → allocated h0 z ≤ 1
  one z = at-most-one h0 z

  -- the cells that gave way
  gone : (z : ℕ) → times z (own h1 count its.fields.subkeys_list ++ cell ∷ []) ≡ times z old_list + times z (cell ∷ [])
  gone z =
      let s = times-append z (own h1 count its.fields.subkeys_list) (cell ∷ []) in
      let o = ap (times z) (own-then old mid key cell size t adds ∙ own-is h0 count its.fields.subkeys_list node.index looked.index_is) in
      omega (arith, s, o)

  calm1 : (z : ℕ) → 0 < allocated h0 z → h1 z ≡ h0 z
  calm1 = still old mid key cell size t adds

  -- the cell that was carved wasn't there
  fresh : (z : ℕ) → allocated h0 z + times z (cell ∷ []) ≤ 1
  fresh z = let c = adds.come.count z in let m = at-most-one h1 z in omega (arith, c, m)

  not-gone : (z : ℕ) → 0 < allocated h0 z → times z old_list ≡ 0 → times z (own h1 count its.fields.subkeys_list ++ cell ∷ []) ≡ 0
  not-gone z some none = let g = gone z in let f = fresh z in omega (arith, g, f, some, none)

  there1 : (z : ℕ) → 0 < allocated h0 z → 0 < allocated h1 z
  there1 z some = let c = adds.come.count z in omega (arith, c, some)

  calm2 : (z : ℕ) → 0 < allocated h0 z → times z old_list ≡ 0 → h2 z ≡ h0 z
  calm2 z some none =
      moved-calm h1 h2 (own h1 count its.fields.subkeys_list ++ cell ∷ []) new_list l.moves z (there1 z some) (not-gone z some none)
      ∙ calm1 z some

  not-new : (z : ℕ) → 0 < allocated h0 z → times z old_list ≡ 0 → times z new_list ≡ 0
  not-new z some none =
      moved-none h1 h2 (own h1 count its.fields.subkeys_list ++ cell ∷ []) new_list l.moves z (there1 z some) (not-gone z some none)

  not-P : (z : ℕ) → K z ≡ 0 → z ≢ P
  not-P z none e = let k = key-here z P e in omega (arith, none, k)

  calm3 : (z : ℕ) → K z ≡ 0 → h3 z ≡ h2 z
  calm3 z none = its-notes.others z (not-P z none)

  calm : (z : ℕ) → 0 < allocated h0 z → K z ≡ 0 → times z old_list ≡ 0 → h3 z ≡ h0 z
  calm z some none free = calm3 z none ∙ calm2 z some free

  pub class-calm : Keeps h0 h3 looked.class_cells
  class-calm z some = let b = budget z in let o = one z in calm z (omega (arith, b, some)) (omega (arith, b, o, some)) (omega (arith, b, o, some))

  pub values-calm : Keeps h0 h3 looked.value_cells
  values-calm z some = let b = budget z in let o = one z in calm z (omega (arith, b, some)) (omega (arith, b, o, some)) (omega (arith, b, o, some))

  -- ---- the key node

  P-own : K P ≡ 1
  P-own = key-here P P refl

  P-there : 0 < allocated h0 P
  P-there = let b = budget P in let k = P-own in omega (arith, b, k)

  P-free : times P old_list ≡ 0
  P-free = let b = budget P in let o = one P in let k = P-own in omega (arith, b, o, k)

  P-calm : h2 P ≡ h0 P
  P-calm = calm2 P P-there P-free

  P-was : key_at h0 P ≡ Some its
  P-was = subst (λ o. key_at h0 o ≡ Some its) (sym (tree.offset old key t)) (tree.key_is old key t)

  P-then : key_at h2 P ≡ Some its
  P-then = key_at-same h0 h2 P P-calm ∙ P-was

  pub key-listed : key_at h3 P ≡ Some (listed_at l.list its)
  key-listed = its-notes.reads its P-then

  pub key-now : key_at h3 P ≡ Some (noted_subkeys count l.list 0 its.fields.time its)
  key-now = key-listed ∙ ap Some (as-noted l.list its)

  pub plain-now : IsPlainKey (held h3 P)
  plain-now = its-notes.plain (subst IsPlainKey (sym (same-held h0 h2 P P-calm)) seen.written.plain)

  -- ---- the subkeys

  pub list-calm : (z : ℕ) → 0 < times z new_list → h3 z ≡ h2 z
  list-calm z some = its-notes.others z (λ e. (
      let n = not-new P P-there P-free in
      let m = subst (λ o. 0 < times o new_list) e some in
      omega (arith, n, m)))

  below-late : (z : ℕ) → 0 < total (owns z) was.below → key_at h3 z ≡ key_at h2 z
  below-late z some = let b = budget z in let o = one z in key_at-same h2 h3 z (calm3 z (omega (arith, b, o, some)))

  keys-still : AllByRecursion (λ (e : Entry). key_at h3 e.offset ≡ key_at h2 e.offset) entries
  keys-still =
      let Q : ℕ → Type 0 = λ o. key_at h3 o ≡ key_at h2 o in
      let stands : StandsIn h0 t.root was = tree.stands old key t in
      all-mapped (λ (e : Entry). e.offset) Q entries
      (subst (AllByRecursion Q) stands.1.offsets (all-of (λ (e : ℕ × Node). e.0) Q (heads was.below) (all-heads h0 t.root Q was.below stands.2 below-late)))

  pub subkeys-now : AreSubkeys h3 count l.list entries
  subkeys-now = subkeys-elsewhere h2 h3 count l.list entries l.subkeys list-calm keys-still

  own-now : own h3 count l.list ≡ new_list
  own-now = own-stays h2 h3 count l.list entries l.subkeys list-calm

  its-cells : (z : ℕ) → owned z (index_cells subkeys-now.index) ≡ times z new_list
  its-cells z = owned-index z subkeys-now.index ∙ ap (times z) (sym (own-is h3 count l.list subkeys-now.index subkeys-now.read) ∙ own-now)

  -- ---- the key

  abbrev pub after : Node
  after = reindexed h0 h3 t.root P node seen looked count l.list 0 its.fields.time entries key-now plain-now class-calm values-calm subkeys-now

  sees-now : IsSeen h3 t.root P after
  sees-now =
      sees-reindexed h0 h3 t.root P node seen looked count l.list 0 its.fields.time entries key-now plain-now class-calm values-calm subkeys-now
      (omega arith) seen.written.few

  owned-now : (z : ℕ) → owned z (cells_of after) + times z old_list ≡ owned z (cells_of node) + times z new_list
  owned-now z =
      let o = owned-reindexed h0 h3 t.root P node seen looked count l.list 0 its.fields.time entries key-now plain-now class-calm values-calm subkeys-now z in
      let a = own-index z in
      let b = its-cells z in
      omega (arith, o, a, b)

  allocated-now : (z : ℕ) → allocated h3 z ≡ allocated h2 z
  allocated-now z =
      written-allocated h2 h3 P its-notes.others (key-exists h2 P (is_some_of _ _ P-then)) (key-exists h3 P (is_some_of _ _ key-now)) z

  -- the cell that was carved is the list's now
  taken-in : (z : ℕ) → times z new_list ≡ 0 → times z (cell ∷ []) ≡ 0
  taken-in z none = by (times z (cell ∷ [])) refl
    where
      by : (n : ℕ) → times z (cell ∷ []) ≡ n → times z (cell ∷ []) ≡ 0
      by zero e = e
      by (suc n) e =
          let same = there-is z cell (omega (arith, e)) in
          let there = subst (λ o. allocated h2 o ≡ 1) (sym same) (allocated-is h2 cell l.stay) in
          let c = l.moves.count z in
          let g = gone z in
          let m = at-most-one h1 z in
          absurd (omega (arith, there, c, g, m, e, none))

  frame : CellFrame h0 h3 (λ z. owned z (cells_of node)) (λ z. owned z (cells_of after))
  frame = record {
    count = λ z. (
        let a = allocated-now z in
        let m = l.moves.count z in
        let g = gone z in
        let c = adds.come.count z in
        let o = owned-now z in
        omega (arith, a, m, g, c, o));
    same = λ z none came.
        let p = parts z in
        let i = own-index z in
        let o = owned-now z in
        let free : times z new_list ≡ 0 = omega (arith, p, i, o, none, came) in
        let carved = taken-in z free in
        let g = gone z in
        calm3 z (omega (arith, p, none))
        ∙ (l.moves.same z (omega (arith, g, carved, p, i, none)) free ∙ adds.come.same z refl carved);
  }

  fits-now : (below : List (ℕ × Node)) → Fits P node below → Fits P after below
  fits-now below f =
      let same = sym subkeys-now.entries_are in
      record {
        offsets = subst (λ (es : List Entry). map (λ (e : ℕ × Node). e.0) below ≡ offsets_in es) same f.offsets;
        hashes = subst (λ (es : List Entry). map (λ (e : ℕ × Node). hash e.1.key.name) below ≡ map (λ (e : Entry). e.hint) es) same f.hashes;
        order = f.order;
        parents = f.parents;
        longest_name =
            subst (λ n. AllByRecursion (λ (e : ℕ × Node). 2 * length e.1.key.name ≤ n % 65536) below) (sym (raised-none its.fields.largest_subkey_name)) f.longest_name;
        longest_class = f.longest_class;
      }

  pub exchanged : IsExchanged h0 h3 t.root P node after
  exchanged = record {
    frame = frame;
    seen = sees-now;
    alike = record { name = refl; parent = refl; class_length = refl };
    fits = fits-now;
    security =
        shared-reindexed h0 h3 t.root P node seen looked count l.list 0 its.fields.time entries key-now plain-now class-calm values-calm subkeys-now;
  }
