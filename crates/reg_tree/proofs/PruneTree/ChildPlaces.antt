-- The place of a key among its parent's subkeys is that of its path among the paths right below its parent's.
use Rattle.std.proofs.Common.{◌≡◌, ℕ, ◌<◌, Some, List, [], ◌∷◌, ◌++◌, length, get_or, refl, sym, ap, ◌∙◌, subst, arith}
use Rattle.std.proofs.lemmas.List.{get_or-map, length-map}
use Rattle.std.proofs.lemmas.Option.{same_Some}
use Rattle.reg_heap.specs.Paths.{Path, Tree, children_of}
use Rattle.reg_heap.specs.Heaps.{Heap}
use Rattle.reg_heap.proofs.ChildrenOfPath.{below, children-named}
use Rattle.reg_arena.specs.Cells.{cell_at}
use Rattle.reg_records.specs.KeyNodes.{KeyRecord, key_at}
use Rattle.reg_records.specs.SubkeyLists.{Entry}
use Rattle.reg_shape.specs.Internal.Forests.{Branch}
use Rattle.reg_shape.specs.Internal.Grafts.{branch_in}
use Rattle.reg_shape.specs.Nodes.{Node, Index, entries_of, lists_of}
use Rattle.reg_shape.specs.Nodes.Index.{Unlisted, Listed, Rooted}
use Rattle.reg_shape.specs.PathLookup.{key_offset_at}
use Rattle.reg_shape.proofs.Graft.Branches.{branch-append}
use Rattle.reg_shape.specs.Written.{IsWrittenIndex}
use Rattle.reg_index.specs.declared.Place.{Place}
use Rattle.reg_index.specs.Subkeys.{AreSubkeys, StandsIn, flat, flat_in, index_of}
use Rattle.reg_index.proofs.SubkeysOpening.{index-is, same-subkeys}
use Rattle.reg_security.specs.Rings.{DescriptorCells}
use Rattle.reg_tree.specs.TreeKeys.{tree_in}
use Rattle.reg_tree.specs.Internal.TreeInvariant.{TreeInvariant, IsHere}
use Rattle.reg_tree.specs.Internal.KeyNodeChanges.{HasSubkeysList}
use Rattle.reg_tree.specs.Internal.KeyDeletion.{IsListed}
use Rattle.reg_tree.specs.CellSizes.{first_place}
use Rattle.reg_tree.specs.Internal.ReachedPlaces.{StandsAt, IsPlaceOf, index_by, place_index}
use Rattle.reg_tree.specs.Internal.TreeDeletion.{IsFirstSubkey}
use Rattle.reg_tree.proofs.DeleteKey.DeletedKeyPosition.{parent-is}
use Rattle.reg_tree.proofs.InsertKey.SubkeyByName.{no_entry}
use Rattle.reg_tree.proofs.Invariant.KeyOfTree.{branch, branch_is, offset, stands, key_is}
use Rattle.reg_tree.proofs.KeyAnswers.RefinementOfKey.{number_told, subkey_told}
use Rattle.reg_tree.proofs.PathWalk.IndexPlaces.{place_for}
use Rattle.reg_tree.proofs.PathWalk.SubkeysFound.{own_subkeys, subkeys}
use Rattle.reg_tree.proofs.PruneTree.PlaceAbove.{one_path}

-- ---- the paths right below one

-- each is the path with one name more
pub child-named : (t : Tree) (p : Path) (i : ℕ) → i < length (children_of t p) → (name : List ℕ) × (get_or (children_of t p) i [] ≡ p ++ name ∷ [])
child-named t p i l =
    let c = children-named t p in
    let n = ap length c.are ∙ length-map c.names (below p) in
    (get_or c.names i [], ap (λ ps. get_or ps i []) c.are ∙ get_or-map (below p) c.names i [] [] (omega (arith, l, n)))

none-there : (paths : List Path) → 0 ≡ length paths → paths ≡ []
none-there [] e = refl
none-there (p ∷ paths) e = absurd (omega (arith, e))

-- ---- places among a key's subkeys

-- a place of one, and the index that it is among all
pub record IsPlaceFor (heap : Heap) (count list index : ℕ) (place : Place) : Type 0 where
  pub stands : StandsIn (index_of heap count list) place
  pub flat_is : flat heap count list place ≡ index

-- by other names of their number and list
same-for : (heap : Heap) (count list count' list' index : ℕ) (place : Place) → count ≡ count' → list ≡ list' → IsPlaceFor heap count list index place →
    IsPlaceFor heap count' list' index place
same-for heap count list count' list' index place e f p = subst (λ n. IsPlaceFor heap n list' index place) e (subst (λ o. IsPlaceFor heap count o index place) f p)

-- the first is one where there are any
first-in : (index : Index) → IsWrittenIndex index → 0 < length (entries_of index) → StandsIn index first_place
first-in Unlisted w l = absurd (omega (arith, l))
first-in (Listed list) w l = (omega arith, (let s = w.some in omega (arith, s)))
first-in (Rooted offset []) w l = absurd (let n = w.0 in omega (arith, n))
first-in (Rooted offset (list ∷ lists)) w l = (omega arith, (let s = w.1.0.some in omega (arith, s)))

pub first-for : (heap : Heap) (count list : ℕ) (entries : List Entry) → AreSubkeys heap count list entries → (count ≡ 0 → ⊥) → IsPlaceFor heap count list 0 first_place
first-for heap count list entries s some = record {
  stands = subst (λ i. StandsIn i first_place) (sym (index-is heap count list s.index s.read))
      (first-in s.index s.written (let n = s.number in let e = ap length s.entries_are in omega (arith, some, n, e)));
  flat_is = refl;
}

-- ---- a key and those right below it

module _ (bytes : List ℕ) (key : ℕ) (t : IsHere bytes key) where
  abbrev h : Heap
  h = cell_at bytes

  abbrev b : Branch Node
  b = branch bytes key t

  abbrev paths : List Path
  paths = children_of (tree_in bytes t.root) t.path

  abbrev count : ℕ
  count = b.node.key.fields.subkeys

  abbrev list : ℕ
  list = b.node.key.fields.subkeys_list

  abbrev entries : List Entry
  entries = entries_of b.node.index

  own : HasSubkeysList h key count list
  own = λ r e. (
    ap (λ (k : KeyRecord). k.fields.subkeys) (same_Some _ _ (sym (key_is bytes key t) ∙ e)),
    ap (λ (k : KeyRecord). k.fields.subkeys_list) (same_Some _ _ (sym (key_is bytes key t) ∙ e)),
  )

  entries-same : (es : List Entry) → AreSubkeys h count list es → es ≡ entries
  entries-same es s = same-subkeys h count list es entries s (own_subkeys bytes key t)

  many : length entries ≡ length paths
  many = (own_subkeys bytes key t).number ∙ number_told bytes key t count list own

  -- the paths lead to the entries' keys
  leads : (i : ℕ) → i < length paths → key_offset_at h t.root (get_or paths i []) ≡ Some (get_or entries i no_entry).offset
  leads i l =
      (subkey_told bytes key t count list own (record { offset = key; depth = 0 }) i _ (let n = number_told bytes key t count list own in omega (arith, n, l))
      (λ es s. ap (λ es. (get_or es i no_entry).offset) (entries-same es s))).1

  -- each index has a place
  pub index-place : (i : ℕ) → i < length paths → (place : Place) × IsPlaceFor h count list i place
  index-place i l =
      let s = own_subkeys bytes key t in
      let n = ap length s.entries_are in
      let m = many in
      let r = place_for (lists_of s.index) i (omega (arith, n, m, l)) in
      let e = index-is h count list s.index s.read in (
        r.place,
        record { stands = subst (λ i. StandsIn i r.place) (sym e) (r.list, r.within); flat_is = ap (λ i. flat_in i r.place) e ∙ r.flat },
      )

  module _ (count list : ℕ) (has : HasSubkeysList h key count list) where
    pub first-none : count ≡ 0 → paths ≡ []
    first-none e = none-there paths (sym e ∙ number_told bytes key t count list has)

-- ---- a key right below another

module _ (bytes : List ℕ) (root : ℕ) {table : DescriptorCells} (holds : TreeInvariant bytes root table) (q : Path) (x : List ℕ) (parent key : ℕ)
    (at-parent : key_offset_at (cell_at bytes) root q ≡ Some parent) (at-key : key_offset_at (cell_at bytes) root (q ++ x ∷ []) ≡ Some key) where
  abbrev heap : Heap
  heap = cell_at bytes

  abbrev above : IsHere bytes parent
  above = record { root = root; table = table; path = q; holds = holds; at = at-parent }

  abbrev here : IsHere bytes key
  here = record { root = root; table = table; path = q ++ x ∷ []; holds = holds; at = at-key }

  abbrev was : Branch Node
  was = branch bytes parent above

  abbrev is : Branch Node
  is = branch bytes key here

  found : branch_in (x ∷ []) was.below ≡ Some is
  found = sym (branch-append was (x ∷ []) q holds.keys (branch_is bytes parent above)) ∙ branch_is bytes key here

  parent-named : is.node.key.fields.parent ≡ parent
  parent-named = parent-is heap root was (stands bytes parent above) x is found ∙ offset bytes parent above

  abbrev siblings : List Path
  siblings = children_of (tree_in bytes root) q

  abbrev number : ℕ
  number = was.node.key.fields.subkeys

  abbrev offset-list : ℕ
  offset-list = was.node.key.fields.subkeys_list

  pub stands_there : (i : ℕ) (place : Place) → IsPlaceFor heap number offset-list i place → i < length siblings → get_or siblings i [] ≡ q ++ x ∷ [] → StandsAt heap key place
  stands_there i place p l e =
      let listed : IsListed heap parent key was.node.key (entries bytes parent above) i = record {
        reads = key_is bytes parent above;
        subkeys = own_subkeys bytes parent above;
        within = (let m = many bytes parent above in omega (arith, m, l));
        offset = same_Some _ _ (sym (leads bytes parent above i l) ∙ (ap (key_offset_at heap root) e ∙ at-key));
      } in
      record {
        record_is = is.node.key;
        above = was.node.key;
        entries = entries bytes parent above;
        reads = key_is bytes key here;
        listed = subst (λ o. IsListed heap o key was.node.key (entries bytes parent above) (flat heap number offset-list place)) (sym parent-named)
            (subst (IsListed heap parent key was.node.key (entries bytes parent above)) (sym p.flat_is) listed);
        stands = p.stands;
      }

  -- a place at which it stands
  module _ (place : Place) (s : StandsAt heap key place) where
    same : s.record_is ≡ is.node.key
    same = same_Some _ _ (sym s.reads ∙ key_is bytes key here)

    parent-is-it : s.record_is.fields.parent ≡ parent
    parent-is-it = ap (λ (k : KeyRecord). k.fields.parent) same ∙ parent-named

    above-is-it : s.above ≡ was.node.key
    above-is-it = same_Some _ _ (sym s.listed.reads ∙ (ap (key_at heap) parent-is-it ∙ key_is bytes parent above))

    abbrev i : ℕ
    i = flat heap s.above.fields.subkeys s.above.fields.subkeys_list place

    index-is-it : i ≡ place_index heap parent place
    index-is-it = ap (λ (k : KeyRecord). flat heap k.fields.subkeys k.fields.subkeys_list place) above-is-it ∙ ap (index_by heap place) (sym (key_is bytes parent above))

    entries-are : s.entries ≡ entries bytes parent above
    entries-are =
        entries-same bytes parent above s.entries
        (subst (λ (k : KeyRecord). AreSubkeys heap k.fields.subkeys k.fields.subkeys_list s.entries) above-is-it s.listed.subkeys)

    within : i < length siblings
    within = let n = ap length entries-are in let m = many bytes parent above in let w = s.listed.within in omega (arith, n, m, w)

    leads-here : key_offset_at heap root (get_or siblings i []) ≡ Some key
    leads-here = leads bytes parent above i within ∙ ap Some (ap (λ es. (get_or es i no_entry).offset) (sym entries-are) ∙ s.listed.offset)

    pub place_there : (place_index heap parent place < length siblings) × (get_or siblings (place_index heap parent place) [] ≡ q ++ x ∷ [])
    place_there = subst (λ i. (i < length siblings) × (get_or siblings i [] ≡ q ++ x ∷ [])) index-is-it
        (within, one_path bytes key (record { root = root; table = table; path = get_or siblings i []; holds = holds; at = leads-here }) here)

    pub place_of_parent : IsPlaceOf heap parent place
    place_of_parent r reads =
        let e = above-is-it ∙ same_Some _ _ (sym (key_is bytes parent above) ∙ reads) in
        subst (λ (k : KeyRecord). StandsIn (index_of heap k.fields.subkeys k.fields.subkeys_list) place) e s.stands

-- ---- the first of a key's subkeys

module _ (bytes : List ℕ) (key : ℕ) (t : IsHere bytes key) (count list : ℕ) (has : HasSubkeysList (cell_at bytes) key count list) where
  pub first-stands : (count ≡ 0 → ⊥) → StandsIn (index_of (cell_at bytes) count list) first_place
  first-stands some = (first-for (cell_at bytes) count list _ (subkeys bytes key t count list has) some).stands

  pub first-some : (child : ℕ) → (count ≡ 0 → ⊥) →
      ((es : List Entry) → AreSubkeys (cell_at bytes) count list es → (get_or es (flat (cell_at bytes) count list first_place) no_entry).offset ≡ child) →
      IsFirstSubkey bytes t.root t.path (Some (record { key = child; place = first_place }))
  first-some child some at =
      let n = number_told bytes key t count list has in
      let l : 0 < count = omega (arith, some) in
      let m : 0 < length (children_of (tree_in bytes t.root) t.path) = omega (arith, n, l) in
      let f = first-for (cell_at bytes) count list _ (subkeys bytes key t count list has) some in
      let s = subkey_told bytes key t count list has (record { offset = key; depth = 0 }) 0 child l at in
      let named = child-named (tree_in bytes t.root) t.path 0 m in
      let leads = ap (key_offset_at (cell_at bytes) t.root) (sym named.1) ∙ s.1 in
      let h = has _ (key_is bytes key t) in (
        named.0,
        leads,
        stands_there bytes t.root t.holds t.path named.0 key child t.at leads 0 first_place (same-for (cell_at bytes) count list _ _ 0 first_place h.0 h.1 f) m named.1,
      )
