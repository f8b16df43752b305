-- Cells carved for keys to be made: the tree is as it was, and those cells are spare.
use Rattle.std.proofs.Common.{◌≡◌, ℕ, ◌+◌, ◌≤◌, ◌<◌, Bool, true, false, cond, Option, Some, None, List, [], ◌∷◌, map, length, refl, sym, ap, ◌∙◌, subst, arith}
use Rattle.std.specs.Option.{option_and_then}
use Rattle.std.specs.Ordering.{eq_by_cmp}
use Rattle.std.specs.FinMap.{get, insert, get-insert, same_map}
use Rattle.std.specs.Prelude.{IsSome, Err}
use Rattle.std.proofs.lemmas.Option.{none-some, same_Some}
use Rattle.reg_names.specs.declared.TheConstants.{PATH_LIMIT}
use Rattle.reg_names.specs.Names.{folded}
use Rattle.reg_heap.specs.declared.limits.TheConstants.{SUBKEYS_LIMIT}
use Rattle.reg_heap.specs.Paths.{Path, Tree, Rec, path_cmp}
use Rattle.reg_heap.specs.Edits.{child_path}
use Rattle.reg_heap.specs.Heaps.{Heap, allocated, CellFrame}
use Rattle.reg_heap.specs.Kinds.{times, is_own}
use Rattle.reg_shape.specs.Internal.Forests.{Branch, total_of}
use Rattle.reg_heap.proofs.ChildrenOfPath.{path-is}
use Rattle.reg_arena.specs.Cells.{cell_at}
use Rattle.reg_records.specs.KeyNodes.{KeyRecord, key_at}
use Rattle.reg_shape.specs.Nodes.{Node, entries_of}
use Rattle.reg_shape.specs.Spelt.{rec_of}
use Rattle.reg_shape.specs.Written.{IsWrittenSecurity}
use Rattle.reg_shape.specs.Internal.Shapes.{index_cells, owns, shares, descriptor_in, tree_of, StandsIn}
use Rattle.reg_shape.specs.Internal.Grafts.{IsShape, IsGrafted, IsGraftedInRing, IsRecounted}
use Rattle.reg_shape.specs.PathLookup.{key_offset_at, subkey_named}
use Rattle.reg_records.proofs.KeyNodeCodec.{key_at-same}
use Rattle.reg_shape.proofs.Frame.WrittenFrame.{seen-kept}
use Rattle.reg_shape.proofs.Refinement.SpeltTrees.{path_total, path_same}
use Rattle.reg_shape.proofs.Wholeness.ShapeCounts.{tally-append}
use Rattle.reg_shape.proofs.Wholeness.ShapeRecords.{all-at, at-most-one}
use Rattle.reg_shape.proofs.Wholeness.WholeAfterExchange.{forest-kept}
use Rattle.reg_shape.proofs.Graft.GraftOfExchange.{recounted-same}
use Rattle.reg_shape.proofs.Graft.WholeAfterGraft.{grafted}
use Rattle.reg_shape.proofs.Graft.GraftInRing.{graft-in-ring, tree-same-below-in-ring}
use Rattle.reg_shape.proofs.Lookup.LookupAfterGraft.{offsets-same}
use Rattle.reg_shape.proofs.Lookup.LookupOfShape.{offset-none, offset-more, offset-append}
use Rattle.reg_shape.proofs.Refinement.RefinementAtPath.{told}
use Rattle.reg_records.specs.SubkeyLists.{Entry}
use Rattle.reg_shape.proofs.Wholeness.ShapeRecords.{allocated-is}
use Rattle.reg_index.specs.declared.Place.{Place}
use Rattle.reg_index.specs.Subkeys.{AreSubkeys, IsIndexFor, IsPlaceIn, flat, index_of, names_in, own}
use Rattle.reg_index.proofs.PlannedSizes.{flat-elsewhere, place-elsewhere, sizes-elsewhere}
use Rattle.reg_index.proofs.RefinementOfSubkeys.{subkeys-elsewhere}
use Rattle.reg_index.proofs.SubkeysOpening.{own-is}
use Rattle.reg_index.proofs.SubkeysFrame.{Stay, all-map, names-stay, owned-index}
use Rattle.reg_tree.specs.CellSizes.{own_sizes, planned, planned_by}
use Rattle.reg_tree.specs.Internal.ReachedPlaces.{BelongsAt, BelongsFirst}
use Rattle.reg_tree.proofs.Invariant.CellReadings.{key-exists}
use Rattle.reg_tree.proofs.DeleteKey.SubkeyUnlinked.{same-entries}
use Rattle.reg_tree.specs.declared.node.Node.{Node as TreeNode}
use Rattle.reg_tree.specs.Internal.TreeInvariant.{IsHere}
use Rattle.reg_tree.specs.Internal.SpareCells.{AreReady, MayGrowAll, IsSpared}
use Rattle.reg_tree.proofs.Invariant.KeyOfTree as here
use Rattle.reg_tree.proofs.Invariant.KeyOfTree.{branch, key_is, looked, offset}
use Rattle.reg_tree.proofs.PathWalk.SubkeysFound.{own_subkeys}
use Rattle.reg_tree.proofs.Invariant.UntouchedCells.{offset-own}

-- a record put where it is changes nothing
pub insert-same : (t : Tree) (p : Path) (r : Rec) → get t p ≡ Some r → insert t p r ≡ t
insert-same t p r e = same_map path_total path_same (insert t p r) t (λ q. get-insert path_total t p r q ∙ by q (eq_by_cmp path_cmp q p) refl)
  where
    by : (q : Path) (b : Bool) → eq_by_cmp path_cmp q p ≡ b → cond b (Some r) (get t q) ≡ get t q
    by q true f = sym (ap (get t) (path-is q p f) ∙ e)
    by q false f = refl

module _ (h k : Heap) (root : ℕ) (keys : Branch Node) (ring spare : List ℕ) (w : IsShape h root keys ring []) (come : CellFrame h k (λ z. 0) (λ z. times z spare)) where
  -- a cell that was allocated holds what it held
  pub calm : (z : ℕ) → 0 < allocated h z → k z ≡ h z
  calm z l = come.same z refl (let c = come.count z in let o = at-most-one k z in omega (arith, c, o, l))

  calm-own : (z : ℕ) → 0 < total_of (owns z) keys → k z ≡ h z
  calm-own z l = calm z (let x = w.exact z in omega (arith, x, l))

  stands : StandsIn k root keys
  stands = (
    seen-kept h k root keys.offset keys.node w.stands.0 (λ z l. calm-own z (omega (arith, l))),
    w.stands.1,
    forest-kept h k root keys.below w.stands.2 (λ z l. calm-own z (omega (arith, l))),
  )

  calm-ring : (z : ℕ) → 0 < times z ring → k z ≡ h z
  calm-ring z l = calm z (let x = w.exact z in omega (arith, x, l))

  recounted : (z : ℕ) → 0 < times z ring → IsRecounted h k (total_of (shares z) keys) (total_of (shares z) keys) z
  recounted z l = recounted-same h k (total_of (shares z) keys) (total_of (shares z) keys) z (calm-ring z l) refl (all-at (IsWrittenSecurity h) ring z w.closed.written l)

  in-ring : IsGraftedInRing h k root keys keys ring [] spare
  in-ring = record {
    offset = refl;
    alike = record { name = refl; parent = refl; class_length = refl };
    stands = stands;
    count = λ z. (let c = come.count z in omega (arith, c));
    same = λ z some none a b. calm z some;
    securities = λ z. ((λ l. l), λ l. l);
    recounted = recounted;
  }

  grafts : IsGrafted h k root keys keys ring [] ring spare
  grafts = graft-in-ring h k root [] keys keys keys ring [] spare refl in-ring w

  pub shape-spared : IsShape k root keys ring spare
  shape-spared = grafted h k root [] keys keys keys ring [] ring spare refl grafts (omega (arith, w.shallow)) w

  pub tree-spared : tree_of k keys ≡ tree_of h keys
  tree-spared =
      tree-same-below-in-ring h k root [] keys keys keys ring [] spare refl in-ring w refl
      ∙ insert-same (tree_of h keys) [] (rec_of keys.node (descriptor_in h keys.node.key.fields.security)) (told h root keys w.stands [])

  pub offsets-spared : (q : Path) → key_offset_at k root q ≡ key_offset_at h root q
  offsets-spared q = offsets-same h k root [] keys keys keys ring [] ring spare refl grafts w refl q

-- ---- keys may be made in them

module _ (old mid : List ℕ) (parent : TreeNode) (t : IsHere old parent.offset) (names : List (List ℕ)) (place : Place) (more left spare : List ℕ)
    (s : IsSpared old mid parent.offset place names more left spare)
    (missing : (name : List ℕ) (others : List (List ℕ)) → names ≡ name ∷ others → subkey_named (cell_at old) (folded name) parent.offset ≡ None)
    (deep : length t.path + length names ≤ PATH_LIMIT)
    (few : (r : KeyRecord) → key_at (cell_at old) parent.offset ≡ Some r → r.fields.subkeys < SUBKEYS_LIMIT) where
  abbrev h : Heap
  h = cell_at old

  abbrev k : Heap
  k = cell_at mid

  abbrev keys : Branch Node
  keys = t.holds.keys

  still : (z : ℕ) → 0 < allocated h z → k z ≡ h z
  still = calm h k t.root keys t.holds.ring spare t.holds.shape s.come

  offset-then : (q : Path) → key_offset_at k t.root q ≡ key_offset_at h t.root q
  offset-then = offsets-spared h k t.root keys t.holds.ring spare t.holds.shape s.come

  pub at-then : key_offset_at k t.root t.path ≡ Some parent.offset
  at-then = offset-then t.path ∙ t.at

  node : Node
  node = (branch old parent.offset t).node

  abbrev P : ℕ
  P = parent.offset

  P-allocated : 0 < allocated h P
  P-allocated =
      let b = branch old P t in
      let o = subst (λ p. 0 < total_of (owns p) b) (offset old P t) (let o = offset-own h b.offset b.node (here.seen old P t).reads in omega (arith, o)) in
      let l = here.branch_once old P t P in
      omega (arith, o, l)

  pub key-then : key_at k P ≡ key_at h P
  key-then = key_at-same h k P (still P P-allocated)

  pub missing-then : (name : List ℕ) (others : List (List ℕ)) → names ≡ name ∷ others → subkey_named k (folded name) P ≡ None
  missing-then name others e =
      none-of (subkey_named k (folded name) P)
      (sym (offset-more k P (folded name) [])
      ∙ (sym (ap (option_and_then (λ c. key_offset_at k c (folded name ∷ []))) at-then)
      ∙ (sym (offset-append k t.root t.path (folded name ∷ []))
      ∙ (offset-then (child_path t.path name)
      ∙ (offset-append h t.root t.path (folded name ∷ [])
      ∙ (ap (option_and_then (λ c. key_offset_at h c (folded name ∷ []))) t.at
      ∙ (offset-more h P (folded name) [] ∙ ap (option_and_then (λ d. key_offset_at h d [])) (missing name others e))))))))
    where
      none-of : (o : Option ℕ) → option_and_then (λ d. key_offset_at k d []) o ≡ None → o ≡ None
      none-of None e = refl
      none-of (Some d) e = absurd (none-some _ (sym e ∙ offset-none k d))

  -- its subkeys and their names are what they were, and so a name belongs where it did
  abbrev its : Node
  its = (branch old P t).node

  abbrev entries : List Entry
  entries = entries_of its.index

  list-still : (z : ℕ) → 0 < times z (own h its.key.fields.subkeys its.key.fields.subkeys_list) → k z ≡ h z
  list-still z l =
      let i = owned-index z its.index in
      let c = ap (times z) (own-is h its.key.fields.subkeys its.key.fields.subkeys_list its.index (looked old P t).index_is) in
      let own_list = here.own_once old P t z in
      let parts = tally-append (is_own z) its.cells (index_cells its.index) in
      still z (omega (arith, i, c, own_list, parts, l))

  keys-still : Stay h k entries
  keys-still = all-map (λ (e : Entry). IsSome (key_at h e.offset)) (λ (e : Entry). key_at k e.offset ≡ key_at h e.offset) entries
      (λ e some. key_at-same h k e.offset (still e.offset (let a = allocated-is h e.offset (key-exists h e.offset some) in omega (arith, a))))
      (own_subkeys old P t).keys

  list-then : AreSubkeys k its.key.fields.subkeys its.key.fields.subkeys_list entries
  list-then = subkeys-elsewhere h k its.key.fields.subkeys its.key.fields.subkeys_list entries (own_subkeys old P t) list-still keys-still

  -- so are the cells that one more takes, at a place where one may come
  module _ (at : Place) (within : IsPlaceIn (index_of h its.key.fields.subkeys its.key.fields.subkeys_list) at) where
    pub planned-then : planned k P at ≡ planned h P at
    planned-then =
        let here : key_at h P ≡ Some its.key = key_is old P t in
        ap (planned_by k at) (key-then ∙ here)
        ∙ (sizes-elsewhere h k its.key.fields.subkeys its.key.fields.subkeys_list entries (own_subkeys old P t) list-still at within
        ∙ sym (ap (planned_by h at) here))

  pub place-within : (at : Place) → BelongsFirst h P names at → (names ≡ [] → ⊥) → IsPlaceIn (index_of h its.key.fields.subkeys its.key.fields.subkeys_list) at
  place-within at belongs some = by names refl
    where
      by : (ns : List (List ℕ)) → names ≡ ns → IsPlaceIn (index_of h its.key.fields.subkeys its.key.fields.subkeys_list) at
      by [] e = absurd (some e)
      by (name ∷ others) e = (belongs name others e its.key (key_is old P t)).0

  abbrev Belongs : List ℕ → Place → KeyRecord → Type 0
  Belongs name at r =
      IsPlaceIn (index_of k r.fields.subkeys r.fields.subkeys_list) at
      × ((entries : List Entry) → AreSubkeys k r.fields.subkeys r.fields.subkeys_list entries →
      IsIndexFor (names_in k entries) (folded name) (Err (flat k r.fields.subkeys r.fields.subkeys_list at)))

  belongs-its : (name : List ℕ) (at : Place) → BelongsAt h P name at → Belongs name at its.key
  belongs-its name at belongs =
      let was = belongs its.key (key_is old P t) in (
        place-elsewhere h k its.key.fields.subkeys its.key.fields.subkeys_list entries (own_subkeys old P t) list-still at was.0,
        λ es s. (let read = same-entries k its.key.fields.subkeys its.key.fields.subkeys_list entries es list-then s in
            subst (λ es. IsIndexFor (names_in k es) (folded name) (Err (flat k its.key.fields.subkeys its.key.fields.subkeys_list at))) read
            (subst (λ names. IsIndexFor names (folded name) (Err (flat k its.key.fields.subkeys its.key.fields.subkeys_list at))) (sym (names-stay h k entries keys-still))
            (subst (λ i. IsIndexFor (names_in h entries) (folded name) (Err i))
            (sym (flat-elsewhere h k its.key.fields.subkeys its.key.fields.subkeys_list entries (own_subkeys old P t) list-still at))
            (was.1 entries (own_subkeys old P t))))),
      )

  pub belongs-then : (name : List ℕ) (at : Place) → BelongsAt h P name at → BelongsAt k P name at
  belongs-then name at belongs r reads =
      subst (Belongs name at) (same_Some _ _ (sym (key_is old P t) ∙ (sym key-then ∙ reads))) (belongs-its name at belongs)

  -- where no key is to be made, no cells are taken
  pub ready-then : (ns : List (List ℕ)) → names ≡ ns → BelongsFirst h P names place → AreReady k left (planned h P place) (map own_sizes ns) spare →
      AreReady k left (planned k P place) (map own_sizes ns) spare
  ready-then [] e belongs ready = ready
  ready-then (name ∷ others) e belongs ready =
      subst (λ plan. AreReady k left plan (map own_sizes (name ∷ others)) spare) (sym (planned-then place (belongs name others e its.key (key_is old P t)).0)) ready

  unfoldable pub may_grow_all : BelongsFirst h P names place → MayGrowAll mid parent names place left spare
  may_grow_all belongs = record {
    growing = record {
      root = t.root;
      path = t.path;
      keys = keys;
      ring = t.holds.ring;
      shape =
          shape-spared h k t.root keys t.holds.ring spare t.holds.shape s.come;
      at = at-then;
    };
    missing = missing-then;
    deep = deep;
    few = λ r e. few r (sym key-then ∙ e);
    ready = ready-then names refl belongs s.ready;
  }
