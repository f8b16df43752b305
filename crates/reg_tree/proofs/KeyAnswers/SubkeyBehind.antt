-- The subkey behind the one at a place.
use Rattle.std.proofs.Common.{◌≡◌, ℕ, ◌+◌, ◌<◌, ◌≤◌, Some, None, List, length, get_or, sym, ap, ◌∙◌, subst, arith}
use Rattle.reg_heap.specs.Heaps.{Heap}
use Rattle.reg_heap.specs.Paths.{Path, children_of}
use Rattle.reg_arena.specs.Cells.{cell_at}
use Rattle.reg_records.specs.KeyNodes.{KeyRecord}
use Rattle.reg_records.specs.SubkeyLists.{Entry}
use Rattle.reg_index.specs.declared.Place.{Place}
use Rattle.reg_index.specs.Subkeys.{AreSubkeys, StandsIn, flat, index_of}
use Rattle.reg_tree.specs.declared.node.Node.{Node}
use Rattle.reg_tree.specs.TreeKeys.{tree_in}
use Rattle.reg_tree.specs.Internal.TreeInvariant.{IsHere}
use Rattle.reg_tree.specs.Internal.PathWalks.{IsSubkey}
use Rattle.reg_tree.specs.Internal.KeyNodeChanges.{HasSubkeysList}
use Rattle.reg_tree.specs.Internal.ReachedPlaces.{IsPlaceOf, index_by, place_index}
use Rattle.reg_tree.proofs.InsertKey.SubkeyByName.{no_entry}
use Rattle.reg_tree.proofs.Invariant.KeyOfTree.{branch, key_is}
use Rattle.reg_tree.proofs.KeyAnswers.RefinementOfKey.{no_subkey, subkey_told}
use Rattle.reg_tree.proofs.PathWalk.SubkeysFound.{subkeys}

module _ (bytes : List ℕ) (key : ℕ) (t : IsHere bytes key) (count list : ℕ) (has : HasSubkeysList (cell_at bytes) key count list) (place : Place) where
  abbrev h : Heap
  h = cell_at bytes

  abbrev k : KeyRecord
  k = (branch bytes key t).node.key

  is-list : (count ≡ k.fields.subkeys) × (list ≡ k.fields.subkeys_list)
  is-list = has k (key_is bytes key t)

  -- a place, as the key node has it, and as its subkeys are named
  pub place_of_list : IsPlaceOf h key place → StandsIn (index_of h count list) place
  place_of_list p =
      subst (λ n. StandsIn (index_of h n list) place) (sym is-list.0)
      (subst (λ o. StandsIn (index_of h k.fields.subkeys o) place) (sym is-list.1) (p k (key_is bytes key t)))

  abbrev index : ℕ
  index = flat h count list place

  pub index-is : index ≡ place_index h key place
  index-is =
      ap (λ n. flat h n list place) is-list.0
      ∙ (ap (λ o. flat h k.fields.subkeys o place) is-list.1 ∙ ap (index_by h place) (sym (key_is bytes key t)))

  abbrev paths : List Path
  paths = children_of (tree_in bytes t.root) t.path

  pub behind_told : (from : Node) (child : ℕ) →
      ((es : List Entry) → AreSubkeys h count list es → (index + 1 < length es) × ((get_or es (index + 1) no_entry).offset ≡ child)) →
      IsSubkey h t.root t.path paths from (place_index h key place + 1) (Some (record { offset = child; depth = from.depth + 1 }))
  behind_told from child at =
      let s = subkeys bytes key t count list has in
      let n = s.number in
      let l = (at _ s).0 in
      subst (λ i. IsSubkey h t.root t.path paths from (i + 1) (Some (record { offset = child; depth = from.depth + 1 }))) index-is
      (subkey_told bytes key t count list has from (index + 1) child (omega (arith, n, l)) (λ es s. (at es s).1))

  pub none_behind : (from : Node) → ((es : List Entry) → AreSubkeys h count list es → length es ≤ index + 1) →
      IsSubkey h t.root t.path paths from (place_index h key place + 1) None
  none_behind from none =
      let s = subkeys bytes key t count list has in
      let n = s.number in
      let l = none _ s in
      subst (λ i. IsSubkey h t.root t.path paths from (i + 1) None) index-is (no_subkey bytes key t count list has from (index + 1) (omega (arith, n, l)))
