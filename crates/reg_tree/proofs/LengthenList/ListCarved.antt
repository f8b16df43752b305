-- A cell carved for a key's last list: the list may be moved into it, and the key node is there still when it was.
use Rattle.std.proofs.Common.{◌≡◌, ℕ, zero, suc, ◌+◌, ◌-◌, ◌*◌, ◌<◌, ◌≤◌, Some, IsSome, is_some, List, [], ◌∷◌, ◌++◌, length, replicate, refl, sym, ap, ◌∙◌, subst, arith}
use Rattle.std.proofs.lemmas.Bool.{false≢true}
use Rattle.reg_arena.proofs.FreeList.ThreadLinks.{times-append}
use Rattle.reg_arena.specs.Cells.{cell_at}
use Rattle.reg_heap.specs.Heaps.{AreNew, Heap, allocated}
use Rattle.reg_heap.specs.Kinds.{times, is_own}
use Rattle.reg_records.specs.KeyNodes.{key_at}
use Rattle.reg_records.specs.RecordCells.{held}
use Rattle.reg_records.specs.SubkeyLists.{Entry}
use Rattle.reg_records.proofs.KeyNodeCodec.{key_at-same}
use Rattle.reg_shape.specs.Nodes.{Index, Node, entries_of, index_at}
use Rattle.reg_shape.specs.Internal.Shapes.{index_cells}
use Rattle.reg_shape.proofs.Wholeness.ShapeCounts.{tally-append}
use Rattle.reg_shape.proofs.Wholeness.ShapeRecords.{allocated-is, at-most-one}
use Rattle.reg_index.specs.Lengthening.{last_list}
use Rattle.reg_index.specs.Subkeys.{AreSubkeys, Moves, own}
use Rattle.reg_index.proofs.RefinementOfSubkeys.{subkeys-elsewhere}
use Rattle.reg_index.proofs.SubkeysFrame.{Stay, all-map, index-stays, key-stays, own-stays, owned-index}
use Rattle.reg_index.proofs.SubkeysOnce.{own-no-key}
use Rattle.reg_index.proofs.SubkeysOpening.{index-is, own-is}
use Rattle.reg_tree.specs.LongerLists.{longer_sizes}
use Rattle.reg_tree.specs.Internal.KeyNodeChanges.{HasSubkeysList}
use Rattle.reg_tree.specs.Internal.ListLengthening.{IsLengthenable, its_index}
use Rattle.reg_tree.specs.Internal.TreeInvariant.{IsHere}
use Rattle.reg_tree.proofs.Invariant.CellReadings.{is_some_of, key-exists}
use Rattle.reg_tree.proofs.Invariant.KeyOfTree.{branch, key_is, looked, own_once}
use Rattle.reg_tree.proofs.Invariant.UntouchedCells.{there-is}
use Rattle.reg_tree.proofs.InsertKey.CarvedCells.{zeros-ready}
use Rattle.reg_tree.proofs.InsertKey.SpareCellsCarved.{calm}
use Rattle.reg_tree.proofs.LengthenList.SubkeyRoom.{few, needed}
use Rattle.reg_tree.proofs.PathWalk.SubkeysFound.{own_subkeys}

module _ (old mid : List ℕ) (key cell size : ℕ) (t : IsHere old key) (new : AreNew (cell_at old) (cell_at mid) (cell ∷ []) (size ∷ [])) where
  abbrev h : Heap
  h = cell_at old

  abbrev k : Heap
  k = cell_at mid

  abbrev node : Node
  node = (branch old key t).node

  abbrev count : ℕ
  count = node.key.fields.subkeys

  abbrev list : ℕ
  list = node.key.fields.subkeys_list

  abbrev entries : List Entry
  entries = entries_of node.index

  -- each cell that was there is as it was
  pub still : (z : ℕ) → 0 < allocated h z → k z ≡ h z
  still = calm h k t.root t.holds.keys t.holds.ring (cell ∷ []) t.holds.shape new.come

  key-there : IsSome (key_at h key)
  key-there = is_some_of _ _ (key_is old key t)

  pub key-then : key_at k key ≡ Some node.key
  key-then = key_at-same h k key (still key (let a = allocated-is h key (key-exists h key key-there) in omega (arith, a))) ∙ key_is old key t

  -- its index's cells are its own
  pub own-here : (z : ℕ) → times z (own h count list) ≤ allocated h z
  own-here z =
      let i = owned-index z node.index in
      let c = ap (times z) (own-is h count list node.index (looked old key t).index_is) in
      let o = own_once old key t z in
      let parts = tally-append (is_own z) node.cells (index_cells node.index) in
      omega (arith, i, c, o, parts)

  list-still : (z : ℕ) → 0 < times z (own h count list) → k z ≡ h z
  list-still z l = let o = own-here z in still z (omega (arith, o, l))

  keys-still : Stay h k entries
  keys-still = all-map (λ (e : Entry). IsSome (key_at h e.offset)) (λ (e : Entry). key_at k e.offset ≡ key_at h e.offset) entries
      (λ e some. key_at-same h k e.offset (still e.offset (let a = allocated-is h e.offset (key-exists h e.offset some) in omega (arith, a))))
      (own_subkeys old key t).keys

  pub list-then : AreSubkeys k count list entries
  list-then = subkeys-elsewhere h k count list entries (own_subkeys old key t) list-still keys-still

  pub own-then : own k count list ≡ own h count list
  own-then = own-stays h k count list entries (own_subkeys old key t) list-still

  pub index-then : its_index k node.key ≡ its_index h node.key
  index-then =
      let is : index_at h count list ≡ Some node.index = (looked old key t).index_is in
      index-is k count list node.index
      (index-stays h k count list node.index is (λ z l. list-still z (subst (λ cells. 0 < times z cells) (sym (own-is h count list node.index is)) l)))
      ∙ sym (index-is h count list node.index is)

  pub once : (z : ℕ) → times z (own k count list ++ cell ∷ []) ≤ 1
  once z =
      let s = times-append z (own k count list) (cell ∷ []) in
      let o = ap (times z) own-then in
      let a = own-here z in
      let c = new.come.count z in
      let m = at-most-one k z in
      omega (arith, s, o, a, c, m)

  pub zeros : k cell ≡ Some (replicate (size - 4) 0)
  zeros = new.zeros 0 (omega arith)

  module _ (more : ℕ) (e : size ∷ [] ≡ longer_sizes h key more) where
    pub long : length (held k cell) + 4 ≡ size
    long = let n = (needed old key more t size e).1 in (zeros-ready k cell size zeros (omega (arith, n))).1

    pub enough : 4 + 8 * length (last_list (its_index k node.key)).list.entries ≤ length (held k cell)
    enough =
        let n = needed old key more t size e in
        let f = few old key more t n.0 in
        let s = n.1 in
        let l = long in
        let i = ap (λ (i : Index). length (last_list i).list.entries) index-then in
        omega (arith, s, f, l, i)

    -- the list may be moved
    abbrev pub lengthenable : IsLengthenable k key cell
    lengthenable = record {
      record_is = node.key;
      entries = entries;
      reads = key-then;
      subkeys = list-then;
      some = (needed old key more t size e).0;
      room = record { exists = ap is_some zeros; enough = enough };
      bare = (let n = (needed old key more t size e).1 in (zeros-ready k cell size zeros (omega (arith, n))).2);
      once = once;
    }

-- ---- the list moved

module _ (h k : Heap) (key cell count list : ℕ) (after : List ℕ) (l : IsLengthenable h key cell) (has : HasSubkeysList h key count list)
    (moves : Moves h k (own h count list ++ cell ∷ []) after) where
  there : IsSome (key_at h key)
  there = is_some_of _ _ l.reads

  not-cell : times key (cell ∷ []) ≡ 0
  not-cell = by (times key (cell ∷ [])) refl
    where
      by : (n : ℕ) → times key (cell ∷ []) ≡ n → times key (cell ∷ []) ≡ 0
      by zero e = e
      by (suc n) e =
          let same = there-is key cell (omega (arith, e)) in
          absurd (false≢true (sym (ap is_some (ap (key_at h) same ∙ l.bare)) ∙ there))

  not-own : times key (own h count list) ≡ 0
  not-own =
      let e = has l.record_is l.reads in
      ap (λ n. times key (own h n list)) e.0
      ∙ (ap (λ o. times key (own h l.record_is.fields.subkeys o)) e.1
      ∙ own-no-key h l.record_is.fields.subkeys l.record_is.fields.subkeys_list l.entries l.subkeys key there)

  -- its key node is there
  pub key-still : IsSome (key_at k key)
  key-still =
      let s = times-append key (own h count list) (cell ∷ []) in
      let c = not-cell in
      let o = not-own in
      subst IsSome
      (sym (key-stays h k (λ z. times z (own h count list ++ cell ∷ [])) (λ z. times z after) key moves there (omega (arith, s, c, o))))
      there
