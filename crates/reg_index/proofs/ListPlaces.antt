-- Places among the lists of an index, and as indexes among all entries.
use Rattle.std.proofs.Common.{◌≡◌, ℕ, zero, suc, ◌+◌, ◌-◌, ◌<◌, ◌≤◌, List, [], ◌∷◌, ◌++◌, length, take, drop, get_or, refl, ap, ◌∙◌, subst, arith, inl, inr, ◌⊎◌}
use Rattle.std.specs.List.{AllByRecursion}
use Rattle.std.proofs.lemmas.Bool.{cases_lt}
use Rattle.std.proofs.lemmas.Grind.{flat_map-append}
use Rattle.std.proofs.lemmas.List.{length-append, take_all, append-nil}
use Rattle.std.proofs.lemmas.List.Concat.{get_or-flat_map}
use Rattle.reg_heap.specs.Heaps.{Heap}
use Rattle.reg_records.specs.SubkeyLists.{Entry}
use Rattle.reg_shape.specs.Nodes.{KeyList}
use Rattle.reg_index.specs.declared.Place.{Place}
use Rattle.reg_index.specs.Internal.HashLeaves.{IsLeaf}
use Rattle.reg_index.specs.Internal.IndexLists.{HasLists, Stands, StandsAmong}
use Rattle.reg_index.specs.Subkeys.{entries_in, flat_among, no_list, numbered}

-- ---- lists that stand

pub all-stand : (heap : Heap) (offset : ℕ) (lists : List KeyList) → HasLists heap offset lists → AllByRecursion (Stands heap) lists
all-stand heap offset [] h = tt
all-stand heap offset (list ∷ []) h = (h.1, tt)
all-stand heap offset (first ∷ second ∷ others) h = h.1

pub stands-at : (heap : Heap) (lists : List KeyList) (number : ℕ) → AllByRecursion (Stands heap) lists → number < length lists → Stands heap (numbered number lists)
stands-at heap [] number all l = absurd (omega arith)
stands-at heap (list ∷ lists) zero all l = all.0
stands-at heap (list ∷ lists) (suc number) all l = stands-at heap lists number all.1 (omega arith)

pub list-stands : (heap : Heap) (offset : ℕ) (lists : List KeyList) (number : ℕ) → HasLists heap offset lists → number < length lists → Stands heap (numbered number lists)
list-stands heap offset lists number h l = stands-at heap lists number (all-stand heap offset lists h) l

-- ---- entries before a list, its own, and those behind it

abbrev pub entries_before : ℕ → List KeyList → ℕ
entries_before number lists = length (entries_in (take number lists))

pub split-lists : (lists : List KeyList) (number : ℕ) → number < length lists → lists ≡ take number lists ++ numbered number lists ∷ drop (suc number) lists
split-lists [] number l = absurd (omega arith)
split-lists (list ∷ lists) zero l = refl
split-lists (list ∷ lists) (suc number) l = ap (λ xs. list ∷ xs) (split-lists lists number (omega arith))

pub split-entries : (lists : List KeyList) (number : ℕ) → number < length lists →
    entries_in lists ≡ entries_in (take number lists) ++ ((numbered number lists).list.entries ++ entries_in (drop (suc number) lists))
split-entries lists number l =
    ap entries_in (split-lists lists number l)
    ∙ flat_map-append (λ (l : KeyList). l.list.entries) (take number lists) (numbered number lists ∷ drop (suc number) lists)

pub before-next : (lists : List KeyList) (number : ℕ) → number < length lists →
    entries_before (suc number) lists ≡ entries_before number lists + length (numbered number lists).list.entries
before-next [] number l = absurd (omega arith)
before-next (list ∷ lists) zero l = omega (arith, ap length (append-nil list.list.entries))
before-next (list ∷ lists) (suc number) l =
    let rest = before-next lists number (omega arith) in
    omega (arith, rest, length-append list.list.entries (entries_in (take (suc number) lists)), length-append list.list.entries (entries_in (take number lists)))

pub before-all : (lists : List KeyList) (number : ℕ) → length lists ≤ number → entries_before number lists ≡ length (entries_in lists)
before-all lists number l = ap (λ ls. length (entries_in ls)) (take_all number lists l)

pub before-within : (lists : List KeyList) (number : ℕ) → number < length lists →
    entries_before number lists + length (numbered number lists).list.entries ≤ length (entries_in lists)
before-within lists number l =
    let whole = ap length (split-entries lists number l) in
    omega (
      arith,
      whole,
      length-append (entries_in (take number lists)) ((numbered number lists).list.entries ++ entries_in (drop (suc number) lists)),
      length-append (numbered number lists).list.entries (entries_in (drop (suc number) lists)),
    )

-- the entry at a place
pub entry-at : (lists : List KeyList) (place : Place) (d : Entry) → StandsAmong lists place →
    get_or (entries_in lists) (flat_among lists place) d ≡ get_or (numbered place.list lists).list.entries place.index d
entry-at lists place d s = get_or-flat_map (λ (l : KeyList). l.list.entries) lists place.list place.index no_list d s.0 s.1

-- ---- the place of an index, list by list

pub first-place : (lists : List KeyList) (index : ℕ) → flat_among lists (record { list = 0; index = index }) ≡ index
first-place lists index = omega arith

-- it is in a list that is there
pub list-there : (lists : List KeyList) (place : Place) (index : ℕ) → index < length (entries_in lists) → flat_among lists place ≡ index → place.list < length lists
list-there lists place index l e = by (cases_lt place.list (length lists))
  where
    by : (place.list < length lists) ⊎ (length lists ≤ place.list) → place.list < length lists
    by (inl m) = m
    by (inr m) = absurd (omega (arith, before-all lists place.list m, e, l))

-- the next list
pub next-place : (heap : Heap) (offset : ℕ) (lists : List KeyList) (place : Place) (index count : ℕ) → HasLists heap offset lists → index < length (entries_in lists) →
    flat_among lists place ≡ index → count ≡ length (numbered place.list lists).list.entries → count ≤ place.index →
    flat_among lists (record { list = place.list + 1; index = place.index - count }) ≡ index
next-place heap offset lists place index count h l e c m =
    let there = list-there lists place index l e in
    let one : place.list + 1 ≡ suc place.list = omega arith in
    ap (λ n. entries_before n lists + (place.index - count)) one ∙ omega (arith, before-next lists place.list there, e, c, m)

pub one-passed : (heap : Heap) (offset : ℕ) (lists : List KeyList) (place : Place) (index count : ℕ) → HasLists heap offset lists → index < length (entries_in lists) →
    flat_among lists place ≡ index → count ≡ length (numbered place.list lists).list.entries → 1 ≤ count
one-passed heap offset lists place index count h l e c =
    omega (arith, c, (list-stands heap offset lists place.list h (list-there lists place index l e)).written.some)

-- the leaf of a number, and how many entries it has
pub leaf-of : (heap : Heap) (offset : ℕ) (lists : List KeyList) (number leaf : ℕ) → HasLists heap offset lists → number < length lists →
    (numbered number lists).offset ≡ leaf → IsLeaf heap leaf (numbered number lists).list.entries
leaf-of heap offset lists number leaf h l is = subst (λ o. IsLeaf heap o (numbered number lists).list.entries) is (list-stands heap offset lists number h l).leaf

pub count-of : (heap : Heap) (offset : ℕ) (lists : List KeyList) (number leaf count : ℕ) → HasLists heap offset lists → number < length lists →
    (numbered number lists).offset ≡ leaf → ((entries : List Entry) → IsLeaf heap leaf entries → count ≡ length entries)
    → count ≡ length (numbered number lists).list.entries
count-of heap offset lists number leaf count h l is counted = counted _ (leaf-of heap offset lists number leaf h l is)
