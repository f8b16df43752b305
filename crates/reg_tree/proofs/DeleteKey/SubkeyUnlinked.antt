-- A subkey found by its name, and taken out of its parent's list.
use Rattle.std.proofs.Common.{◌≡◌, ℕ, zero, suc, ◌<◌, Some, IsSome, inl, inr, List, [], ◌∷◌, length, get_or, refl, sym, ap, ◌∙◌, subst, arith}
use Rattle.std.specs.Prelude.{Ok, Err}
use Rattle.std.specs.List.{AllByRecursion}
use Rattle.std.specs.Ordering.{nat_cmp}
use Rattle.std.specs.declared.cmp.Ordering.{Ordering}
use Rattle.std.specs.declared.cmp.Ordering.TheVariants.{Less}
use Rattle.std.specs.Cmp.Lexicographic.{slice_cmp, nat_list_cmp_total}
use Rattle.std.proofs.lemmas.Bool.{cases_lt}
use Rattle.std.proofs.lemmas.Cmp.{tied_itself}
use Rattle.std.proofs.lemmas.List.{get_or-map, length-map}
use Rattle.reg_names.specs.Names.{folded}
use Rattle.reg_heap.specs.Heaps.{Heap}
use Rattle.reg_heap.specs.Kinds.{times}
use Rattle.std.proofs.lemmas.Option.{same_Some}
use Rattle.reg_records.specs.declared.nk.KeyFields.{KeyFields}
use Rattle.reg_records.specs.KeyNodes.{KeyRecord, key_at}
use Rattle.reg_shape.specs.Nodes.{entries_of}
use Rattle.reg_records.specs.SubkeyLists.{Entry}
use Rattle.reg_index.specs.declared.Place.{Place}
use Rattle.reg_index.specs.Subkeys.{AreSubkeys, IsIndexFor, Moves, Rises, StandsIn, flat, index_of, name_at, name_or_none, names_in, own, without}
use Rattle.reg_index.proofs.SubkeysOnce.{own-no-key}
use Rattle.reg_index.proofs.SubkeysFrame.{key-stays}
use Rattle.reg_tree.specs.Internal.KeyNodeChanges.{HasSubkeysList, Notes, noted_subkeys}
use Rattle.reg_tree.specs.Internal.KeyDeletion.{IsListed, IsUnlinked}
use Rattle.reg_tree.specs.Internal.ReachedPlaces.{StandsAt}
use Rattle.reg_tree.proofs.Invariant.CellReadings.{some_of, is_some_of}

abbrev none : Entry
none = record { offset = 0; hint = 0 }

abbrev order : List ℕ → List ℕ → Ordering
order = slice_cmp nat_cmp

-- no name comes before itself
not-itself : (a b n : List ℕ) → a ≡ n → b ≡ n → order a b ≡ Less → ⊥
not-itself a b n p q l = let e = sym l ∙ ((λ i. order (p i) (q i)) ∙ tied_itself nat_list_cmp_total n) in cc

-- names that rise have a name once
once : (names : List (List ℕ)) (n : List ℕ) (i j : ℕ) → Rises names → i < length names → j < length names → get_or names i [] ≡ n → get_or names j [] ≡ n → i ≡ j
once names n i j r p q e f = elim (cases_lt i j) [
  | inl l ↦ absurd (not-itself (get_or names i []) (get_or names j []) n e f (r i j l q))
  | inr l ↦ elim (cases_lt j i) [
    | inl m ↦ absurd (not-itself (get_or names j []) (get_or names i []) n f e (r j i m p))
    | inr m ↦ omega (arith, l, m)
  ]
]

all-at : (P : Entry → Type 0) (entries : List Entry) (index : ℕ) → AllByRecursion P entries → index < length entries → P (get_or entries index none)
all-at P [] index a l = absurd (omega arith)
all-at P (e ∷ es) zero a l = a.0
all-at P (e ∷ es) (suc i) a l = all-at P es i a.1 (omega arith)

module _ (h : Heap) (parent key : ℕ) (above : KeyRecord) (entries : List Entry) (index : ℕ) (l : IsListed h parent key above entries index) where
  -- the key is there
  pub listed-there : IsSome (key_at h key)
  listed-there = subst (λ o. IsSome (key_at h o)) l.offset (all-at (λ (e : Entry). IsSome (key_at h e.offset)) entries index l.subkeys.keys l.within)

  pub parent-there : IsSome (key_at h parent)
  parent-there = is_some_of _ _ l.reads

  abbrev names : List (List ℕ)
  names = names_in h entries

  many : length names ≡ length entries
  many = length-map entries (λ (e : Entry). folded (name_at h e.offset))

  its-name : get_or names index [] ≡ folded (name_at h key)
  its-name = get_or-map (λ (e : Entry). folded (name_at h e.offset)) entries index none [] l.within ∙ ap (λ o. folded (name_at h o)) l.offset

  module _ (name : List ℕ) (named : (r : KeyRecord) → key_at h key ≡ Some r → name ≡ r.name) where
    name-is : folded name ≡ folded (name_at h key)
    name-is = let k = some_of (key_at h key) listed-there in ap folded (named k.0 k.1 ∙ sym (ap name_or_none k.1))

    -- it is found at its index
    pub found-there : (found : ℕ) → IsIndexFor names (folded name) (Ok found) → found ≡ index
    found-there found p =
        let n = many in
        let w = l.within in
        once names (folded name) found index l.subkeys.rising p.0 (omega (arith, n, w)) p.1 (its-name ∙ sym name-is)

    pub not-missing : (offset : ℕ) → IsIndexFor names (folded name) (Err offset) → ⊥
    not-missing offset p =
        let n = many in
        let w = l.within in
        let here = its-name ∙ sym name-is in
        elim (cases_lt index offset) [
          | inl b ↦ not-itself (get_or names index []) (folded name) (folded name) here refl (p.1 index b)
          | inr b ↦ not-itself (folded name) (get_or names index []) (folded name) refl here (p.2 index b (omega (arith, n, w)))
        ]

  module _ (count list : ℕ) (has : HasSubkeysList h parent count list) where
    abbrev same : (count ≡ above.fields.subkeys) × (list ≡ above.fields.subkeys_list)
    same = has above l.reads

    pub listed-subkeys : AreSubkeys h count list entries
    listed-subkeys = subst (λ n. AreSubkeys h n list entries) (sym same.0) (subst (λ o. AreSubkeys h above.fields.subkeys o entries) (sym same.1) l.subkeys)

    -- a place, as the key node has it, and as its subkeys are named
    pub stands-list : (place : Place) → StandsIn (index_of h above.fields.subkeys above.fields.subkeys_list) place → StandsIn (index_of h count list) place
    stands-list place s = subst (λ n. StandsIn (index_of h n list) place) (sym same.0) (subst (λ o. StandsIn (index_of h above.fields.subkeys o) place) (sym same.1) s)

    pub stands-key : (place : Place) → StandsIn (index_of h count list) place → StandsIn (index_of h above.fields.subkeys above.fields.subkeys_list) place
    stands-key place s = subst (λ n. StandsIn (index_of h n above.fields.subkeys_list) place) same.0 (subst (λ o. StandsIn (index_of h count o) place) same.1 s)

    pub flat-list : (place : Place) → flat h count list place ≡ flat h above.fields.subkeys above.fields.subkeys_list place
    flat-list place = ap (λ n. flat h n list place) same.0 ∙ ap (λ o. flat h above.fields.subkeys o place) same.1

    pub parent-stays : (k : Heap) (after : List ℕ) → Moves h k (own h count list) after → key_at k parent ≡ key_at h parent
    parent-stays k after m =
        key-stays h k (λ z. times z (own h count list)) (λ z. times z after) parent m parent-there
        (own-no-key h count list entries listed-subkeys parent parent-there)

    pub unlinked : (found count' list' : ℕ) (mid new : Heap) (moment : ℕ) → found ≡ index
        → ((es : List Entry) → AreSubkeys h count list es → AreSubkeys mid count' list' (without found es)) →
        Moves h mid (own h count list) (own mid count' list') → Notes mid new parent (noted_subkeys count' list' 0 moment)
        → IsUnlinked h new parent above entries index moment
    unlinked found count' list' mid new moment e after moves notes = record {
      mid = mid;
      count = count';
      list = list';
      subkeys = subst (λ i. AreSubkeys mid count' list' (without i entries)) e (after entries listed-subkeys);
      moves = subst (λ o. Moves h mid (own h above.fields.subkeys o) (own mid count' list')) same.1 (subst (λ n. Moves h mid (own h n list) (own mid count' list')) same.0 moves);
      notes = notes;
    }

-- ---- a key's one place

-- two readings of a list are the same
same-above : (h : Heap) (parent key : ℕ) (one other : KeyRecord) (entries rest : List Entry) (i j : ℕ) →
    IsListed h parent key one entries i → IsListed h parent key other rest j → one ≡ other
same-above h parent key one other entries rest i j l m = same_Some _ _ (sym l.reads ∙ m.reads)

pub same-entries : (h : Heap) (count offset : ℕ) (entries rest : List Entry) → AreSubkeys h count offset entries → AreSubkeys h count offset rest → entries ≡ rest
same-entries h count offset entries rest s r = sym s.entries_are ∙ (ap entries_of (same_Some _ _ (sym s.read ∙ r.read)) ∙ r.entries_are)

-- in one list it stands at one index
same-place : (h : Heap) (parent key : ℕ) (above : KeyRecord) (entries : List Entry) (i j : ℕ) →
    IsListed h parent key above entries i → IsListed h parent key above entries j → i ≡ j
same-place h parent key above entries i j l m =
    let n = many h parent key above entries i l in
    let v = l.within in
    let w = m.within in
    once (names_in h entries) (folded (name_at h key)) i j l.subkeys.rising (omega (arith, n, v)) (omega (arith, n, w))
    (its-name h parent key above entries i l) (its-name h parent key above entries j m)

module _ (h : Heap) (key : ℕ) (place : Place) (s : StandsAt h key place) (fields : KeyFields) (are : (r : KeyRecord) → key_at h key ≡ Some r → fields ≡ r.fields) where
  -- as its parent lists it, by the fields that were read
  pub listed_by : IsListed h fields.parent key s.above s.entries (flat h s.above.fields.subkeys s.above.fields.subkeys_list place)
  listed_by =
      subst (λ (f : KeyFields). IsListed h f.parent key s.above s.entries (flat h s.above.fields.subkeys s.above.fields.subkeys_list place))
      (sym (are s.record_is s.reads)) s.listed

  -- and where a search finds it
  pub found-stands : (count list : ℕ) (has : HasSubkeysList h fields.parent count list) (found : Place) → StandsIn (index_of h count list) found →
      (name : List ℕ) → ((r : KeyRecord) → key_at h key ≡ Some r → name ≡ r.name) →
      IsIndexFor (names_in h s.entries) (folded name) (Ok (flat h count list found)) → StandsAt h key found
  found-stands count list has found st name named f =
      let at : ℕ = flat h s.above.fields.subkeys s.above.fields.subkeys_list place in
      let e = found-there h fields.parent key s.above s.entries at listed_by name named (flat h count list found) f in
      let same = flat-list h fields.parent key s.above s.entries at listed_by count list has found in
      record {
        record_is = s.record_is;
        above = s.above;
        entries = s.entries;
        reads = s.reads;
        listed = subst (IsListed h s.record_is.fields.parent key s.above s.entries) (sym e ∙ same) s.listed;
        stands = stands-key h fields.parent key s.above s.entries at listed_by count list has found st;
      }

  -- and by any reading of the list
  pub listed_as : (above : KeyRecord) (entries : List Entry) (i : ℕ) → IsListed h fields.parent key above entries i →
      IsListed h fields.parent key above entries (flat h above.fields.subkeys above.fields.subkeys_list place)
  listed_as above entries i l =
      let a = same-above h fields.parent key s.above above s.entries entries (flat h s.above.fields.subkeys s.above.fields.subkeys_list place) i listed_by l in
      let m = subst (λ (k : KeyRecord). IsListed h fields.parent key k s.entries (flat h k.fields.subkeys k.fields.subkeys_list place)) a listed_by in
      let e = same-entries h above.fields.subkeys above.fields.subkeys_list s.entries entries m.subkeys l.subkeys in
      subst (λ es. IsListed h fields.parent key above es (flat h above.fields.subkeys above.fields.subkeys_list place)) e m

  pub unlinked_as : (k : Heap) (moment : ℕ) → ((key : ℕ) → (above : KeyRecord) → (entries : List Entry) →
      IsListed h fields.parent key above entries (flat h above.fields.subkeys above.fields.subkeys_list place) →
      IsUnlinked h k fields.parent above entries (flat h above.fields.subkeys above.fields.subkeys_list place) moment) → (above : KeyRecord) → (entries : List Entry) → (i : ℕ) →
      IsListed h fields.parent key above entries i → IsUnlinked h k fields.parent above entries i moment
  unlinked_as k moment unlinks above entries i l =
      let m = listed_as above entries i l in
      let e = same-place h fields.parent key above entries (flat h above.fields.subkeys above.fields.subkeys_list place) i m l in
      subst (λ i. IsUnlinked h k fields.parent above entries i moment) e (unlinks key above entries m)
