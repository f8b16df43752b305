-- What was found in one list, as a place among all.
use Rattle.std.proofs.Common.{◌≡◌, ℕ, suc, ◌+◌, ◌-◌, ◌<◌, ◌≤◌, IsSome, List, [], ◌∷◌, ◌++◌, length, take, drop, get_or, sym, ap, ◌∙◌, subst, arith, inl, inr, ◌⊎◌}
use Rattle.std.specs.Prelude.{Result, Ok, Err}
use Rattle.std.specs.List.{AllByRecursion}
use Rattle.std.specs.Ordering.{nat_cmp}
use Rattle.std.specs.declared.cmp.Ordering.TheVariants.{Less}
use Rattle.std.specs.Cmp.Lexicographic.{slice_cmp}
use Rattle.std.proofs.lemmas.Bool.{cases_lt}
use Rattle.reg_names.specs.Names.{folded, hash}
use Rattle.reg_heap.specs.Heaps.{Heap}
use Rattle.reg_records.specs.KeyNodes.{key_at}
use Rattle.reg_records.specs.SubkeyLists.{Entry}
use Rattle.reg_shape.specs.Nodes.{KeyList, Index, lists_of}
use Rattle.reg_shape.specs.Nodes.Index.{Unlisted, Listed, Rooted}
use Rattle.reg_index.specs.declared.Place.{Place}
use Rattle.reg_index.specs.Internal.IndexLists.{AreKeys}
use Rattle.reg_index.specs.Internal.NameSearches.{IsListFor}
use Rattle.reg_index.specs.Subkeys.{AreSubkeys, IsIndexFor, IsPlaceIn, StandsIn, entries_in, flat, flat_among, index_of, name_at, names_in, numbered}
use Rattle.reg_index.proofs.ListPlaces.{before-within, entries_before, entry-at, split-entries}
use Rattle.reg_index.proofs.NameSearch.{length-names, get-name}
use Rattle.reg_index.proofs.SubkeysOpening.{index-is, lists-long, keys-of}

-- ---- the keys of one list

all-left : (P : Entry → Type 0) (xs ys : List Entry) → AllByRecursion P (xs ++ ys) → AllByRecursion P xs
all-left P [] ys all = tt
all-left P (x ∷ xs) ys all = (all.0, all-left P xs ys all.1)

all-right : (P : Entry → Type 0) (xs ys : List Entry) → AllByRecursion P (xs ++ ys) → AllByRecursion P ys
all-right P [] ys all = all
all-right P (x ∷ xs) ys all = all-right P xs ys all.1

all-part : (P : Entry → Type 0) (lists : List KeyList) (number : ℕ) → number < length lists → AllByRecursion P (entries_in lists) →
    AllByRecursion P (numbered number lists).list.entries
all-part P lists number l all =
    all-left P (numbered number lists).list.entries (entries_in (drop (suc number) lists))
    (all-right P (entries_in (take number lists)) ((numbered number lists).list.entries ++ entries_in (drop (suc number) lists))
    (subst (AllByRecursion P) (split-entries lists number l) all))

abbrev no_entry : Entry
no_entry = record { offset = 0; hint = 0 }

-- a name of one list among all
part-name : (heap : Heap) (lists : List KeyList) (number index : ℕ) → number < length lists → index < length (numbered number lists).list.entries →
    get_or (names_in heap (entries_in lists)) (entries_before number lists + index) [] ≡ get_or (names_in heap (numbered number lists).list.entries) index []
part-name heap lists number index l m =
    let w = before-within lists number l in
    get-name heap (entries_in lists) (entries_before number lists + index) no_entry (omega (arith, w, m))
    ∙ (ap (λ (e : Entry). folded (name_at heap e.offset)) (entry-at lists (record { list = number; index = index }) no_entry (l, m))
    ∙ sym (get-name heap (numbered number lists).list.entries index no_entry m))

pub keys-part : (heap : Heap) (lists : List KeyList) (number : ℕ) → number < length lists → AreKeys heap (entries_in lists) → AreKeys heap (numbered number lists).list.entries
keys-part heap lists number l k = record {
  keys = all-part (λ (e : Entry). IsSome (key_at heap e.offset)) lists number l k.keys;
  hashes = all-part (λ (e : Entry). e.hint ≡ hash (name_at heap e.offset)) lists number l k.hashes;
  rising = λ i j m n.
      let e = length-names heap (numbered number lists).list.entries in
      let w = before-within lists number l in
      let a = entries_before number lists in
      (λ t. slice_cmp nat_cmp (sym (part-name heap lists number i l (omega (arith, m, n, e))) t) (sym (part-name heap lists number j l (omega (arith, n, e))) t))
      ∙ k.rising (a + i) (a + j) (omega (arith, m)) (omega (arith, n, e, w, length-names heap (entries_in lists)));
}

-- ---- a place that was found

-- an index in the list of a number, as one among all
abbrev pub shifted : ℕ → Result ℕ ℕ → Result ℕ ℕ
shifted before (Ok index) = Ok (before + index)
shifted before (Err index) = Err (before + index)

pub found-among : (heap : Heap) (lists : List KeyList) (name : List ℕ) (number : ℕ) (result : Result ℕ ℕ) → IsListFor heap lists name number →
    IsIndexFor (names_in heap (numbered number lists).list.entries) name result → IsIndexFor (names_in heap (entries_in lists)) name (shifted (entries_before number lists) result)
found-among heap lists name number (Ok index) b found =
    let m : index < length (numbered number lists).list.entries = omega (arith, found.0, length-names heap (numbered number lists).list.entries) in
    (omega (arith, m, before-within lists number b.within, length-names heap (entries_in lists)), part-name heap lists number index b.within m ∙ found.1)
found-among heap lists name number (Err index) b found = (
  omega (arith, found.0, n, w, length-names heap (entries_in lists)),
  (λ k l. before k l (cases_lt k a)),
  (λ k l m. behind k l m (cases_lt k (a + length part))),
)
  where
    a : ℕ
    a = entries_before number lists

    part : List Entry
    part = (numbered number lists).list.entries

    n : length (names_in heap part) ≡ length part
    n = length-names heap part

    w : a + length part ≤ length (entries_in lists)
    w = before-within lists number b.within

    here : (k : ℕ) → a ≤ k → k < a + length part → get_or (names_in heap (entries_in lists)) k [] ≡ get_or (names_in heap part) (k - a) []
    here k l m =
        ap (λ k. get_or (names_in heap (entries_in lists)) k []) {x = k} {y = a + (k - a)} (omega (arith, l))
        ∙ part-name heap lists number (k - a) b.within (omega (arith, l, m))

    before : (k : ℕ) → k < a + index → (k < a) ⊎ (a ≤ k) → slice_cmp nat_cmp (get_or (names_in heap (entries_in lists)) k []) name ≡ Less
    before k l (inl m) = b.between.before k (omega (arith, m))
    before k l (inr m) =
        ap (λ x. slice_cmp nat_cmp x name) (here k m (omega (arith, l, found.0, n))) ∙ found.1 (k - a) (omega (arith, l, m))

    behind : (k : ℕ) → a + index ≤ k → k < length (names_in heap (entries_in lists)) → (k < a + length part) ⊎ (a + length part ≤ k) →
        slice_cmp nat_cmp name (get_or (names_in heap (entries_in lists)) k []) ≡ Less
    behind k l m (inl h) =
        ap (slice_cmp nat_cmp name) (here k (omega (arith, l)) h) ∙ found.2 (k - a) (omega (arith, l)) (omega (arith, h, l, n))
    behind k l m (inr h) = b.between.behind k h m

-- ---- places of an index

pub place-in : (index : Index) (place : Place) → place.list < length (lists_of index) → place.index ≤ length (numbered place.list (lists_of index)).list.entries → IsPlaceIn index place
place-in Unlisted place l m = absurd (omega arith)
place-in (Listed list) place l m = (l, m)
place-in (Rooted offset lists) place l m = (l, m)

-- where there are subkeys
pub place-of : (index : Index) (place : Place) → 0 < length (lists_of index) → IsPlaceIn index place →
    (place.list < length (lists_of index)) × (place.index ≤ length (numbered place.list (lists_of index)).list.entries)
place-of Unlisted place l m = absurd (omega arith)
place-of (Listed list) place l m = m
place-of (Rooted offset lists) place l m = m

pub result-length : (heap : Heap) (entries : List Entry) (name : List ℕ) (index : ℕ) → IsIndexFor (names_in heap entries) name (Err index) → index ≤ length entries
result-length heap entries name index f = omega (arith, f.0, length-names heap entries)

-- ---- the subkeys' place

module _ (heap : Heap) (count offset : ℕ) (name : List ℕ) (number index : ℕ) where
  abbrev place : Place
  place = record { list = number; index = index }

  module _ (entries : List Entry) (s : AreSubkeys heap count offset entries) (b : IsListFor heap (lists_of s.index) name number) where
    flat-is : (index : ℕ) → flat heap count offset (record { list = number; index = index }) ≡ entries_before number (lists_of s.index) + index
    flat-is index = ap (λ i. flat_among (lists_of i) (record { list = number; index = index })) (index-is heap count offset s.index s.read)

    pub found-stands : IsIndexFor (names_in heap (numbered number (lists_of s.index)).list.entries) name (Ok index) →
        IsIndexFor (names_in heap entries) name (Ok (flat heap count offset (record { list = number; index = index })))
    found-stands f =
        subst (λ es. IsIndexFor (names_in heap es) name (Ok (flat heap count offset (record { list = number; index = index })))) s.entries_are
        (subst (λ n. IsIndexFor (names_in heap (entries_in (lists_of s.index))) name (Ok n)) (sym (flat-is index)) (found-among heap (lists_of s.index) name number (Ok index) b f))

    pub found-belongs : IsIndexFor (names_in heap (numbered number (lists_of s.index)).list.entries) name (Err index) →
        IsIndexFor (names_in heap entries) name (Err (flat heap count offset (record { list = number; index = index })))
    found-belongs f =
        subst (λ es. IsIndexFor (names_in heap es) name (Err (flat heap count offset (record { list = number; index = index })))) s.entries_are
        (subst (λ n. IsIndexFor (names_in heap (entries_in (lists_of s.index))) name (Err n)) (sym (flat-is index)) (found-among heap (lists_of s.index) name number (Err index) b f))

    pub stands-there : IsIndexFor (names_in heap (numbered number (lists_of s.index)).list.entries) name (Ok index) →
        StandsIn (index_of heap count offset) (record { list = number; index = index })
    stands-there f =
        subst (λ i. StandsIn i (record { list = number; index = index })) (sym (index-is heap count offset s.index s.read))
        (b.within, omega (arith, f.0, length-names heap (numbered number (lists_of s.index)).list.entries))

    pub belongs-there : IsIndexFor (names_in heap (numbered number (lists_of s.index)).list.entries) name (Err index) →
        IsPlaceIn (index_of heap count offset) (record { list = number; index = index })
    belongs-there f =
        subst (λ i. IsPlaceIn i (record { list = number; index = index })) (sym (index-is heap count offset s.index s.read))
        (place-in s.index (record { list = number; index = index }) b.within (result-length heap (numbered number (lists_of s.index)).list.entries name index f))

-- ---- the lists of subkeys

some-lists : (lists : List KeyList) → 0 < length (entries_in lists) → 0 < length lists
some-lists [] l = absurd (omega (arith, l))
some-lists (list ∷ lists) l = omega arith

pub lists-some : (heap : Heap) (count offset : ℕ) (entries : List Entry) (s : AreSubkeys heap count offset entries) → (count ≡ 0 → ⊥) → 0 < length (lists_of s.index)
lists-some heap count offset entries s some = some-lists (lists_of s.index) (lists-long heap count offset entries s 0 (omega (arith, some)))

pub lists-keys : (heap : Heap) (count offset : ℕ) (entries : List Entry) (s : AreSubkeys heap count offset entries) → AreKeys heap (entries_in (lists_of s.index))
lists-keys heap count offset entries s = subst (AreKeys heap) (sym s.entries_are) (keys-of heap count offset entries s)

-- a place among the lists that were read
pub flat-read : (heap : Heap) (count offset : ℕ) (place : Place) (entries : List Entry) (s : AreSubkeys heap count offset entries) →
    flat heap count offset place ≡ flat_among (lists_of s.index) place
flat-read heap count offset place entries s = ap (λ i. flat_among (lists_of i) place) (index-is heap count offset s.index s.read)
