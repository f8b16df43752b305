-- A tree before and after a key's last list was given room: the same keys.
use Rattle.std.proofs.Common.{◌≡◌, ℕ, ◌+◌, ◌-◌, ◌*◌, ◌<◌, Option, Some, None, IsSome, List, [], ◌∷◌, ◌++◌, length, take, drop, refl, sym, ap, ◌∙◌, subst, arith, length-append, length-take, length-drop}
use Rattle.std.specs.Prelude.{Result, Ok, Err, OnOk, get_or, suc}
use Rattle.std.specs.FinMap.{get, insert}
use Rattle.std.proofs.lemmas.Option.{same_Some}
use Rattle.std.proofs.Math.Seq.{get_or-append_seam}
use Rattle.reg_arena.proofs.FreeList.ThreadLinks.{times-append}
use Rattle.reg_arena.specs.Arena.{Bins, heap_of}
use Rattle.reg_arena.specs.Cells.{cell_at}
use Rattle.reg_arena.specs.declared.ArenaFault.{ArenaFault}
use Rattle.reg_heap.specs.Heaps.{AreNew, Heap}
use Rattle.reg_heap.specs.Kinds.{times}
use Rattle.reg_heap.specs.Paths.{Path, Tree, Rec}
use Rattle.reg_heap.specs.Edits.{edited}
use Rattle.reg_records.specs.KeyNodes.{KeyRecord, key_at}
use Rattle.reg_records.specs.RecordCells.{HasRoom}
use Rattle.reg_shape.specs.Nodes.{Index, KeyList, Node, entries_of, lists_of}
use Rattle.reg_shape.specs.Spelt.{rec_of, name_of}
use Rattle.reg_shape.specs.Internal.Exchanges.{IsExchanged}
use Rattle.reg_shape.specs.Internal.Forests.{Branch}
use Rattle.reg_shape.specs.Internal.Grafts.{IsShape, IsGrafted, IsGraftedInRing, graft_at}
use Rattle.reg_shape.specs.Internal.Shapes.{descriptor_in}
use Rattle.reg_shape.proofs.Graft.GraftOfExchange.{exchange-grafts}
use Rattle.reg_shape.proofs.Graft.GraftInRing.{descriptor-recounted, graft-in-ring, tree-same-below-in-ring}
use Rattle.reg_shape.proofs.Graft.WholeAfterGraft.{grafted}
use Rattle.reg_shape.proofs.Lookup.LookupAfterGraft.{offsets-same}
use Rattle.reg_shape.proofs.Refinement.RefinementAfterGraft.{grafted-name}
use Rattle.reg_values.specs.ValueLists.{KeepsSizes, Makes}
use Rattle.reg_index.specs.Lengthening.{last_list, last_moved, last_of, wanted}
use Rattle.reg_index.specs.Subkeys.{KeepsCells, exchanged, index_of, index_under, leaf_list, no_list, own}
use Rattle.reg_index.proofs.KeptCells.{kept-then}
use Rattle.reg_index.proofs.LongerSizes.{some-lists}
use Rattle.reg_index.proofs.SubkeysFrame.{index-stays}
use Rattle.reg_index.proofs.SubkeysOpening.{index-is, own-is}
use Rattle.reg_security.specs.Rings.{DescriptorCells}
use Rattle.reg_security.proofs.TableCells.{finds-same}
use Rattle.reg_tree.specs.declared.node.Node.{Node as TreeNode}
use Rattle.reg_tree.specs.BuiltKeys.{TakesCells}
use Rattle.reg_tree.specs.KeyLengths.{lengths_of}
use Rattle.reg_tree.specs.LongerLists.{HasRoomFor, HasSubkeyRoom, LengthensList, longer_sizes}
use Rattle.reg_tree.specs.TreeKeys.{IsThere, Keys, tree_in}
use Rattle.reg_tree.specs.Internal.KeyNodeChanges.{LeavesOthers}
use Rattle.reg_tree.specs.Internal.LengthChanges.{LengthsStay}
use Rattle.reg_tree.specs.Internal.ListLengthening.{IsLengthened, as_it_was, its_index, listed_at}
use Rattle.reg_tree.specs.Internal.TreeInvariant.{HasShortClasses, TreeInvariant, IsHere, IsChanged}
use Rattle.reg_tree.proofs.DeleteKey.DeletedKeyParent.{raised-none}
use Rattle.reg_tree.proofs.DescribeKey.SecurityCarved.{makes-one}
use Rattle.reg_tree.proofs.InsertKey.MadeCells.{kept_sizes, moved-leaves, same-kept}
use Rattle.reg_tree.proofs.InsertKey.SpareCellsCarved.{insert-same}
use Rattle.reg_tree.proofs.Invariant.KeyOfTree as tree
use Rattle.reg_tree.proofs.Invariant.KeyOfTree.{spelt_of, spelt_is}
use Rattle.reg_tree.proofs.Invariant.LengthsAfterGraft.{lengths_stay}
use Rattle.reg_tree.proofs.Invariant.LengthsSeen.{lengths_seen}
use Rattle.reg_tree.proofs.Invariant.NodeLemmas.{nodes_then, seen_as, there_at, tree_then}
use Rattle.reg_tree.proofs.Invariant.UntouchedCells.{there-is, times-one}
use Rattle.reg_tree.proofs.LengthenList.ListCarved.{index-then, list-then, long, once}
use Rattle.reg_tree.proofs.LengthenList.ListMoved.{after, exchanged as exchanged_key, key-listed, list-calm}
use Rattle.reg_tree.proofs.LengthenList.SubkeyRoom.{needed}

-- ---- a key that is as it was

pub same-key : (t : Tree) (p : Path) → edited t p as_it_was ≡ t
same-key t p = by (get t p) refl
  where
    by : (o : Option Rec) → get t p ≡ o → edited t p as_it_was ≡ t
    by None e = rw e refl
    by (Some r) e = ap (λ (o : Option Rec). elim o [ None ↦ t | Some r ↦ insert t p r ]) e ∙ insert-same t p r e

pub is-unchanged : (bytes : List ℕ) (key : ℕ) (t : IsHere bytes key) → IsChanged bytes bytes t.root t.table t.path as_it_was
is-unchanged bytes key t = record { holds = t.holds; tree = sym (same-key (tree_in bytes t.root) t.path); offsets = λ p. refl }

-- ---- the last list

lists-under : (offset : ℕ) (lists : List KeyList) → lists_of (index_under offset lists) ≡ lists
lists-under offset [] = refl
lists-under offset (list ∷ []) = refl
lists-under offset (first ∷ second ∷ others) = refl

last-exchanged : (list : KeyList) (lists : List KeyList) → 0 < length lists → last_of (exchanged (length lists - 1) (list ∷ []) lists) ≡ list
last-exchanged list lists some =
    let front = take (length lists - 1) lists in
    let rest = drop (suc (length lists - 1)) lists in
    let a = length-append front (list ∷ rest) in
    let b = length-take (length lists - 1) lists in
    let c = length-drop (suc (length lists - 1)) lists in
    let last : length (front ++ list ∷ rest) - 1 ≡ length front = omega (arith, a, b, c, some) in
    ap (λ n. get_or (front ++ list ∷ rest) n no_list) last ∙ get_or-append_seam front list rest no_list

pub last-now : (cell offset : ℕ) (index : Index) → 0 < length (lists_of index) →
    last_list (index_under offset (last_moved cell (lists_of index))) ≡ leaf_list cell (last_list index).list.entries
last-now cell offset index some =
    ap last_of (lists-under offset (last_moved cell (lists_of index)))
    ∙ last-exchanged (leaf_list cell (last_list index).list.entries) (lists_of index) some

-- ---- the key

module _ (old mid new : List ℕ) (key cell size : ℕ) (t : IsHere old key) (adds : AreNew (cell_at old) (cell_at mid) (cell ∷ []) (size ∷ []))
    (l : IsLengthened (cell_at mid) (cell_at new) key cell (tree.branch old key t).node.key (entries_of (tree.branch old key t).node.index)) where
  abbrev h : Heap
  h = cell_at old

  abbrev j : Heap
  j = cell_at new

  abbrev was : Branch Node
  was = tree.branch old key t

  abbrev its : KeyRecord
  its = was.node.key

  abbrev keys : Branch Node
  keys = t.holds.keys

  abbrev ring : List ℕ
  ring = t.holds.ring

  abbrev now : Node
  now = after old mid new key cell size t adds l

  exchanged_now : IsExchanged h j t.root was.offset was.node now
  exchanged_now = exchanged_key old mid new key cell size t adds l

  abbrev is : Branch Node
  is = record was { node = now }

  in-ring : IsGraftedInRing h j t.root was is ring [] []
  in-ring = exchange-grafts h j t.root was now ring [] exchanged_now (tree.branch_once old key t) (tree.stands old key t) t.holds.shape.closed

  grafts : IsGrafted h j t.root was is ring [] ring []
  grafts = graft-in-ring h j t.root t.path keys was is ring [] [] (tree.branch_is old key t) in-ring t.holds.shape

  abbrev all : Branch Node
  all = graft_at t.path now was.below keys

  shape : IsShape j t.root all ring []
  shape = grafted h j t.root t.path keys was is ring [] ring [] (tree.branch_is old key t) grafts (tree.shallow old key t) t.holds.shape

  -- the tree is as it was
  tree-now : tree_in new t.root ≡ tree_in old t.root
  tree-now =
      spelt_of new t.root all ring shape
      ∙ (tree-same-below-in-ring h j t.root t.path keys was is ring [] [] (tree.branch_is old key t) in-ring t.holds.shape refl
      ∙ (ap (λ (tree : Tree). insert tree t.path (rec_of now (descriptor_in h now.key.fields.security))) (sym (spelt_is old t.root t.holds))
      ∙ insert-same (tree_in old t.root) t.path (rec_of was.node (descriptor_in h its.fields.security)) (tree.rec_there old key t)))

  holds-now : TreeInvariant new t.root t.table
  holds-now = record {
    keys = all;
    ring = ring;
    shape = shape;
    finds = finds-same t.table h j ring t.holds.finds (λ z l. descriptor-recounted h j was is z (in-ring.recounted z l));
    classes = subst HasShortClasses (sym tree-now) t.holds.classes;
  }

  pub is-changed : IsChanged old new t.root t.table t.path as_it_was
  is-changed = record {
    holds = holds-now;
    tree = tree-now ∙ sym (same-key (tree_in old t.root) t.path);
    offsets = λ q. offsets-same h j t.root t.path keys was is ring [] ring [] (tree.branch_is old key t) grafts t.holds.shape refl q;
  }

  named : name_of now.key ≡ name_of its
  named = grafted-name h j t.root t.path keys was is ring [] ring [] (tree.branch_is old key t) grafts t.holds.shape

  -- each key notes the largest lengths that it did
  pub lengths-stay : LengthsStay h j t.root
  lengths-stay =
      lengths_stay h j t.root t.path keys was is (tree.branch_is old key t) named t.holds.shape.offset t.holds.shape.stands shape.offset shape.stands
      (λ y r o m n e f. ap (λ (z : ℕ × Node). z.1) (same_Some _ _ (sym f ∙ e)))
      (ap (λ n. record (lengths_of its) { subkey_name = n }) (raised-none its.fields.largest_subkey_name))

  -- ---- the cells

  abbrev count : ℕ
  count = its.fields.subkeys

  keeps : KeepsCells (cell_at mid) j
  keeps = kept-then (cell_at mid) l.mid j l.keeps (same-kept l.mid j l.sizes)

  leaves : LeavesOthers (cell_at mid) j (own (cell_at mid) count its.fields.subkeys_list)
  leaves z there none =
      (l.sizes z).0
      ∙ moved-leaves (cell_at mid) l.mid (own (cell_at mid) count its.fields.subkeys_list) (cell ∷ []) (own l.mid count l.list) l.moves
      (λ z some. subst (λ o. IsSome (l.mid o)) (sym (there-is z cell some)) l.stay) z there none

  apart : times cell (own (cell_at mid) count its.fields.subkeys_list) ≡ 0
  apart =
      let o = once old mid key cell size t adds cell in
      let s = times-append cell (own (cell_at mid) count its.fields.subkeys_list) (cell ∷ []) in
      let i = times-one cell in
      omega (arith, o, s, i)

  pub stay : KeepsSizes h j
  stay = kept_sizes h (cell_at mid) j (λ z. times z (cell ∷ [])) adds.come keeps

  module _ (more : ℕ) (e : size ∷ [] ≡ longer_sizes h key more) where
    pub makes : Makes h j (longer_sizes h key more)
    makes =
        subst (Makes h j) e
        (makes-one h (cell_at mid) j cell size (own (cell_at mid) count its.fields.subkeys_list) adds.come (long old mid key cell size t adds more e) keeps leaves apart)

    -- ---- the room

    abbrev last : KeyList
    last = last_list (its_index h its)

    lists-there : 0 < length (lists_of (its_index h its))
    lists-there =
        let s = list-then old mid key cell size t adds in
        subst (λ (i : Index). 0 < length (lists_of i))
        (sym (index-is (cell_at mid) count its.fields.subkeys_list s.index s.read) ∙ index-then old mid key cell size t adds)
        (some-lists (cell_at mid) count its.fields.subkeys_list (needed old key more t size e).0 _ s)

    index-kept : index_of j count l.list ≡ index_of l.mid count l.list
    index-kept =
        let s = l.subkeys in
        index-is j count l.list s.index
        (index-stays l.mid j count l.list s.index s.read
        (λ z some. list-calm old mid new key cell size t adds l z (subst (λ cells. 0 < times z cells) (sym (own-is l.mid count l.list s.index s.read)) some)))
        ∙ sym (index-is l.mid count l.list s.index s.read)

    last-is : last_list (index_of j count l.list) ≡ leaf_list cell last.list.entries
    last-is =
        ap last_list
        (index-kept ∙ (l.index ∙ ap (λ (i : Index). index_under its.fields.subkeys_list (last_moved cell (lists_of i))) (index-then old mid key cell size t adds)))
        ∙ last-now cell its.fields.subkeys_list (its_index h its) lists-there

    room : HasRoom j cell (4 + 8 * wanted last more)
    room =
        let there : IsSome (j cell) = (l.sizes cell).0 ∙ l.stay in
        let n = (keeps cell there).1 in
        let s = long old mid key cell size t adds more e in
        let w = (needed old key more t size e).1 in
        record { exists = there; enough = omega (arith, n, s, w) }

    pub has-now : HasSubkeyRoom j key more
    has-now = record {
      key = listed_at l.list its;
      reads = subst (λ o. key_at j o ≡ Some (listed_at l.list its)) (tree.offset old key t) (key-listed old mid new key cell size t adds l);
      holds = λ some. subst (λ (list : KeyList). HasRoomFor j list more) (sym last-is) room;
    }

-- ---- as it is seen

module _ (bins : Bins) (root : ℕ) {table : DescriptorCells} (holds : TreeInvariant bins.bytes root table) (now : Keys) (view_is : seen_as bins root ≡ now)
    (new : Bins) (result : Result (Unit {0}) ArenaFault) (node : TreeNode) (some : IsThere now node) (more : ℕ)
    (ok : (t : IsHere bins.bytes node.offset) → OnOk result (IsChanged bins.bytes new.bytes t.root t.table t.path as_it_was))
    (lengths : (t : IsHere bins.bytes node.offset) → OnOk result (LengthsStay (heap_of bins) (heap_of new) t.root)) where
  pub lengthens : OnOk result (HasSubkeyRoom (heap_of new) node.offset more) →
      OnOk result (TakesCells now (seen_as new root) (longer_sizes (heap_of now.bins) node.offset more)) →
      OnOk result (LengthensList now (seen_as new root) node more)
  lengthens room takes = by result (ok (there_at bins root holds now view_is node some)) (lengths (there_at bins root holds now view_is node some)) room takes
    where
      by : (r : Result (Unit {0}) ArenaFault) → OnOk r (IsChanged bins.bytes new.bytes root table some.0 as_it_was) →
          OnOk r (LengthsStay (heap_of bins) (heap_of new) root) → OnOk r (HasSubkeyRoom (heap_of new) node.offset more) →
          OnOk r (TakesCells now (seen_as new root) (longer_sizes (heap_of now.bins) node.offset more)) →
          OnOk r (LengthensList now (seen_as new root) node more)
      by (Ok x) c l h k = record {
        tree = tree_then bins root holds now view_is new some.0 as_it_was c ∙ same-key now.tree some.0;
        root = ap (λ (keys : Keys). keys.root) view_is;
        nodes = nodes_then bins root holds now view_is new some.0 as_it_was c;
        lengths = lengths_seen bins root now view_is new l;
        room = h;
        takes = k;
      }
      by (Err x) c l h k = tt
