-- A key's subkeys, from the first to the next.
use Rattle.std.proofs.Common.{◌≡◌, ℕ, ◌+◌, ◌<◌, ◌≤◌, Option, Some, None, List, [], ◌∷◌, length, get_or, refl, sym, ap, ◌∙◌, subst, arith}
use Rattle.std.specs.Prelude.{MatchOption}
use Rattle.reg_heap.specs.Heaps.{Heap}
use Rattle.reg_heap.specs.Paths.{Path, children_of}
use Rattle.reg_arena.specs.Arena.{Bins, heap_of}
use Rattle.reg_arena.specs.Cells.{cell_at}
use Rattle.reg_records.specs.SubkeyLists.{Entry}
use Rattle.reg_index.specs.declared.Place.{Place}
use Rattle.reg_index.specs.Subkeys.{AreSubkeys, StandsIn, flat, index_of}
use Rattle.reg_index.proofs.SubkeysBehind.{here-within}
use Rattle.reg_security.specs.Rings.{DescriptorCells}
use Rattle.reg_tree.specs.declared.node.Node.{Node}
use Rattle.reg_tree.specs.declared.node.Subkey.{Subkey}
use Rattle.reg_tree.specs.CellSizes.{first_place}
use Rattle.reg_tree.specs.SubkeyWalk.{IsSubkeyAt}
use Rattle.reg_tree.specs.TreeKeys.{Keys, tree_in, IsAt}
use Rattle.reg_tree.specs.Internal.TreeInvariant.{TreeInvariant, IsHere}
use Rattle.reg_tree.specs.Internal.KeyNodeChanges.{HasSubkeysList}
use Rattle.reg_tree.specs.Internal.PathWalks.{IsSubkey}
use Rattle.reg_tree.specs.Internal.ReachedPlaces.{IsPlaceAt, IsPlaceOf, IsPlacedSubkey, place_index}
use Rattle.reg_tree.proofs.InsertKey.SubkeyByName.{no_entry}
use Rattle.reg_tree.proofs.Invariant.NodeLemmas.{seen_as}
use Rattle.reg_tree.proofs.KeyAnswers.RefinementOfKey.{subkey_told}
use Rattle.reg_tree.proofs.KeyAnswers.SubkeyBehind.{index-is, place_of_list}
use Rattle.reg_tree.proofs.PathWalk.SubkeysFound.{subkeys}
use Rattle.reg_tree.proofs.PruneTree.ChildPlaces.{first-for}

module _ (bytes : List ℕ) (key : ℕ) (t : IsHere bytes key) (count list : ℕ) (has : HasSubkeysList (cell_at bytes) key count list) where
  abbrev h : Heap
  h = cell_at bytes

  abbrev paths : List Path
  paths = children_of (tree_in bytes t.root) t.path

  -- a place, as its subkeys are named, and as the key node has it
  place_of_key : (place : Place) (index : ℕ) → StandsIn (index_of h count list) place → flat h count list place ≡ index → IsPlaceAt h key index place
  place_of_key place index stands is = record {
    stands = λ r reads.
        subst (λ n. StandsIn (index_of h n r.fields.subkeys_list) place) (has r reads).0
        (subst (λ o. StandsIn (index_of h count o) place) (has r reads).1 stands);
    index_is = sym (index-is bytes key t count list has place) ∙ is;
  }

  pub placed_at : (place : Place) (index : ℕ) → StandsIn (index_of h count list) place × (flat h count list place ≡ index) → IsPlaceAt h key index place
  placed_at place index is = place_of_key place index is.0 is.1

  pub placed_first : (count ≡ 0 → ⊥) → IsPlaceAt h key 0 first_place
  placed_first some = let f = first-for h count list _ (subkeys bytes key t count list has) some in place_of_key first_place 0 f.stands f.flat_is

  pub placed_next : (place next : Place) → StandsIn (index_of h count list) next × (flat h count list next ≡ flat h count list place + 1) →
      IsPlaceAt h key (place_index h key place + 1) next
  placed_next place next is = place_of_key next (place_index h key place + 1) is.0 (is.1 ∙ ap (λ n. n + 1) (index-is bytes key t count list has place))

  -- the subkey at a place
  pub placed_told : (from : Node) (place : Place) (index child : ℕ) → IsPlaceAt h key index place →
      ((es : List Entry) → AreSubkeys h count list es → (get_or es (flat h count list place) no_entry).offset ≡ child) →
      IsSubkey h t.root t.path paths from index (Some (record { offset = child; depth = from.depth + 1 }))
  placed_told from place index child p at =
      let s = subkeys bytes key t count list has in
      let l = here-within h count list place (place_of_list bytes key t count list has place p.stands) _ s in
      let n = s.number in
      subst (λ i. IsSubkey h t.root t.path paths from i (Some (record { offset = child; depth = from.depth + 1 })))
      (index-is bytes key t count list has place ∙ p.index_is)
      (subkey_told bytes key t count list has from (flat h count list place) child (omega (arith, l, n)) at)

-- ---- as they are seen

none_there : (paths : List Path) → length paths ≤ 0 → paths ≡ []
none_there [] l = refl
none_there (p ∷ paths) l = absurd (omega (arith, l))

module _ (bins : Bins) (root : ℕ) {table : DescriptorCells} (holds : TreeInvariant bins.bytes root table) (now : Keys)
    (view_is : seen_as bins root ≡ now) (node : Node) (p : Path) (at : IsAt now p node) where
  -- the places of subkeys
  place_seen : (index : ℕ) (subkey : Subkey) → IsSubkeyAt now p node index subkey → IsPlaceAt (heap_of bins) node.offset index subkey.place
  place_seen index subkey s = (subst (λ k. IsSubkeyAt k p node index subkey) (sym view_is) s).place

  pub place_there : (index : ℕ) (subkey : Subkey) → IsSubkeyAt now p node index subkey → IsPlaceOf (heap_of bins) node.offset subkey.place
  place_there index subkey s = (place_seen index subkey s).stands

  pub seen : (index : ℕ) (result : Option Subkey) →
      IsPlacedSubkey (heap_of bins) root p (children_of (tree_in bins.bytes root) p) node index result →
      MatchOption result (length (children_of now.tree p) ≤ index) (λ subkey. IsSubkeyAt now p node index subkey)
  seen index None s = subst (λ (k : Keys). length (children_of k.tree p) ≤ index) view_is s
  seen index (Some subkey) s =
      let d = at.depth in
      let e = s.0.2 in
      let n = s.0.3 in
      let is : IsSubkeyAt (seen_as bins root) p node index subkey =
      record { within = s.0.0; at = record { offset = s.0.1; depth = omega (arith, d, e, n) }; place = s.1 } in
      subst (λ (k : Keys). IsSubkeyAt k p node index subkey) view_is is

  pub first_seen : (result : Option Subkey) → IsPlacedSubkey (heap_of bins) root p (children_of (tree_in bins.bytes root) p) node 0 result →
      MatchOption result (children_of now.tree p ≡ []) (λ subkey. IsSubkeyAt now p node 0 subkey)
  first_seen None s = none_there (children_of now.tree p) (seen 0 None s)
  first_seen (Some subkey) s = seen 0 (Some subkey) s

  last_seen : (index : ℕ) (result : Option Subkey) → index < length (children_of now.tree p) →
      MatchOption result (length (children_of now.tree p) ≤ index + 1) (λ next. IsSubkeyAt now p node (index + 1) next) →
      MatchOption result (index + 1 ≡ length (children_of now.tree p)) (λ next. IsSubkeyAt now p node (index + 1) next)
  last_seen index None l s = omega (arith, l, s)
  last_seen index (Some next) l s = s

  pub next_seen : (index : ℕ) (subkey : Subkey) (result : Option Subkey) → IsSubkeyAt now p node index subkey →
      IsPlacedSubkey (heap_of bins) root p (children_of (tree_in bins.bytes root) p) node
      (place_index (heap_of bins) node.offset subkey.place + 1) result →
      MatchOption result (index + 1 ≡ length (children_of now.tree p)) (λ next. IsSubkeyAt now p node (index + 1) next)
  next_seen index subkey result is s =
      last_seen index result is.within
      (seen (index + 1) result
      (subst (λ i. IsPlacedSubkey (heap_of bins) root p (children_of (tree_in bins.bytes root) p) node (i + 1) result) (place_seen index subkey is).index_is s))
