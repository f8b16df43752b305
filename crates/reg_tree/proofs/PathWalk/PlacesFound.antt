-- Where a key stands among its parent's subkeys, and where a name belongs.
use Rattle.std.proofs.Common.{◌≡◌, ℕ, Some, List, [], ◌∷◌, ◌++◌, get_or, sym, ap, ◌∙◌, subst, arith}
use Rattle.std.specs.Prelude.{Ok, Err}
use Rattle.reg_names.specs.Names.{folded}
use Rattle.reg_heap.specs.Heaps.{Heap}
use Rattle.reg_arena.specs.Cells.{cell_at}
use Rattle.reg_records.specs.SubkeyLists.{Entry}
use Rattle.reg_shape.specs.Internal.Forests.{Branch}
use Rattle.reg_shape.specs.Internal.Grafts.{branch_in}
use Rattle.reg_shape.specs.Nodes.{Node, entries_of}
use Rattle.reg_shape.proofs.Graft.Branches.{branch-append}
use Rattle.reg_index.specs.declared.Place.{Place}
use Rattle.reg_index.specs.Subkeys.{AreSubkeys, IsIndexFor, IsPlaceIn, StandsIn, flat, index_of, names_in}
use Rattle.reg_tree.specs.Internal.TreeInvariant.{IsHere}
use Rattle.reg_tree.specs.Internal.KeyNodeChanges.{HasSubkeysList}
use Rattle.reg_tree.specs.Internal.KeyDeletion.{IsListed}
use Rattle.reg_tree.specs.Internal.ReachedPlaces.{BelongsAt, StandsAt}
use Rattle.reg_tree.proofs.Invariant.KeyOfTree.{branch, branch_is, offset, stands, key_is}
use Rattle.reg_tree.proofs.DeleteKey.DeletedKeyPosition.{parent-is}
use Rattle.reg_tree.proofs.InsertKey.SubkeyByName.{no_entry}
use Rattle.reg_tree.proofs.PathWalk.PathSteps.{offset-then}
use Rattle.reg_tree.proofs.PathWalk.SubkeysFound.{own_subkeys, subkeys, index_within, child_found}

-- a name that isn't found belongs where the search says
pub belongs_at : (h : Heap) (key count list : ℕ) → HasSubkeysList h key count list → (name : List ℕ) (place : Place) →
    ((entries : List Entry) → AreSubkeys h count list entries → IsIndexFor (names_in h entries) (folded name) (Err (flat h count list place))) →
    IsPlaceIn (index_of h count list) place → BelongsAt h key name place
belongs_at h key count list has name place find within record_is reads =
    let same = has record_is reads in
    subst (λ n. IsPlaceIn (index_of h n record_is.fields.subkeys_list) place
    × ((entries : List Entry) → AreSubkeys h n record_is.fields.subkeys_list entries →
    IsIndexFor (names_in h entries) (folded name) (Err (flat h n record_is.fields.subkeys_list place)))) same.0
    (subst (λ o. IsPlaceIn (index_of h count o) place
    × ((entries : List Entry) → AreSubkeys h count o entries → IsIndexFor (names_in h entries) (folded name) (Err (flat h count o place)))) same.1
    (within, find))

module _ (bytes : List ℕ) (key : ℕ) (t : IsHere bytes key) (count list : ℕ) (has : HasSubkeysList (cell_at bytes) key count list) where
  abbrev h : Heap
  h = cell_at bytes

  abbrev was : Branch Node
  was = branch bytes key t

  abbrev entries : List Entry
  entries = entries_of was.node.index

  module _ (name : List ℕ) (place : Place) (child : ℕ)
      (find : (entries : List Entry) → AreSubkeys h count list entries → IsIndexFor (names_in h entries) (folded name) (Ok (flat h count list place)))
      (stood : StandsIn (index_of h count list) place)
      (at : (entries : List Entry) → AreSubkeys h count list entries → (get_or entries (flat h count list place) no_entry).offset ≡ child) where
    abbrev index : ℕ
    index = flat h count list place

    -- the key found is the tree's
    abbrev below : IsHere bytes child
    below = record {
      root = t.root;
      table = t.table;
      path = t.path ++ folded name ∷ [];
      holds = t.holds;
      at = offset-then h t.root t.path (folded name) key child t.at (sym (child_found bytes key t count list has name index child find at));
    }

    abbrev b : Branch Node
    b = branch bytes child below

    found : branch_in (folded name ∷ []) was.below ≡ Some b
    found = sym (branch-append was (folded name ∷ []) t.path t.holds.keys (branch_is bytes key t)) ∙ branch_is bytes child below

    parent : b.node.key.fields.parent ≡ key
    parent = parent-is h t.root was (stands bytes key t) (folded name) b found ∙ offset bytes key t

    listed : IsListed h key child was.node.key entries index
    listed = record {
      reads = key_is bytes key t;
      subkeys = own_subkeys bytes key t;
      within = (let w = index_within bytes key t count list has (folded name) index find in let n = (subkeys bytes key t count list has).number in omega (arith, w, n));
      offset = at entries (subkeys bytes key t count list has);
    }

    is-list : (count ≡ was.node.key.fields.subkeys) × (list ≡ was.node.key.fields.subkeys_list)
    is-list = has was.node.key (key_is bytes key t)

    same-flat : flat h count list place ≡ flat h was.node.key.fields.subkeys was.node.key.fields.subkeys_list place
    same-flat = ap (λ n. flat h n list place) is-list.0 ∙ ap (λ o. flat h was.node.key.fields.subkeys o place) is-list.1

    -- it stands where the search says
    pub stands_at : StandsAt h child place
    stands_at = record {
      record_is = b.node.key;
      above = was.node.key;
      entries = entries;
      reads = key_is bytes child below;
      listed = subst (λ o. IsListed h o child was.node.key entries (flat h was.node.key.fields.subkeys was.node.key.fields.subkeys_list place)) (sym parent)
          (subst (IsListed h key child was.node.key entries) same-flat listed);
      stands = subst (λ n. StandsIn (index_of h n was.node.key.fields.subkeys_list) place) is-list.0
          (subst (λ o. StandsIn (index_of h count o) place) is-list.1 stood);
    }
