-- The subkey at a place, and the place behind it.
use Rattle.std.proofs.Common.{◌≡◌, ℕ, suc, ◌+◌, ◌<◌, ◌≤◌, List, length, get_or, sym, ap, subst, arith}
use Rattle.reg_heap.specs.Heaps.{Heap}
use Rattle.reg_records.specs.SubkeyLists.{Entry}
use Rattle.reg_shape.specs.Nodes.{lists_of}
use Rattle.reg_index.specs.declared.Place.{Place}
use Rattle.reg_index.specs.Internal.IndexLists.{StandsAmong}
use Rattle.reg_index.specs.Subkeys.{AreSubkeys, StandsIn, entries_in, flat, flat_among, flat_in, index_of, numbered}
use Rattle.reg_index.proofs.FoundPlaces.{flat-read}
use Rattle.reg_index.proofs.ListPlaces.{before-all, before-next, before-within, entries_before, list-stands}
use Rattle.reg_index.proofs.SubkeysOpening.{index-is, lists-has, subkey-at}

-- where the subkey of an index stands
pub place-is : (heap : Heap) (count offset : ℕ) (entries : List Entry) (s : AreSubkeys heap count offset entries) (place : Place) (index : ℕ) →
    StandsAmong (lists_of s.index) place → flat_among (lists_of s.index) place ≡ index →
    StandsIn (index_of heap count offset) place × (flat heap count offset place ≡ index)
place-is heap count offset entries s place index stands is =
    let read = sym (index-is heap count offset s.index s.read) in
    (subst (λ i. StandsIn i place) read stands, subst (λ i. flat_in i place ≡ index) read is)

module _ (heap : Heap) (count offset : ℕ) (place : Place) (stands : StandsIn (index_of heap count offset) place) (entries : List Entry) (s : AreSubkeys heap count offset entries) where
  pub place-stands : StandsAmong (lists_of s.index) place
  place-stands = subst (λ i. StandsIn i place) (index-is heap count offset s.index s.read) stands

  pub few-there : place.index < 500
  few-there = omega (arith, place-stands.1, (list-stands heap offset (lists_of s.index) place.list (lists-has heap count offset entries s) place-stands.0).written.few)

  total : length (entries_in (lists_of s.index)) ≡ length entries
  total = ap length s.entries_are

  pub here-is : (key : ℕ) → (get_or (numbered place.list (lists_of s.index)).list.entries place.index (record { offset = 0; hint = 0 })).offset ≡ key →
      (get_or entries (flat heap count offset place) (record { offset = 0; hint = 0 })).offset ≡ key
  here-is key is = subkey-at heap count offset entries s (flat heap count offset place) place key place-stands (sym (flat-read heap count offset place entries s)) is

  pub here-within : flat heap count offset place < length entries
  here-within =
      omega (arith, place-stands.1, flat-read heap count offset place entries s, before-within (lists_of s.index) place.list place-stands.0, total)

  -- a place as it is read
  read-place : (next : Place) → StandsAmong (lists_of s.index) next → StandsIn (index_of heap count offset) next
  read-place next is = subst (λ i. StandsIn i next) (sym (index-is heap count offset s.index s.read)) is

  -- the next one in its list
  module _ (more : place.index + 1 < length (numbered place.list (lists_of s.index)).list.entries) where
    abbrev next : Place
    next = record { list = place.list; index = place.index + 1 }

    pub next-place : StandsIn (index_of heap count offset) next × (flat heap count offset next ≡ flat heap count offset place + 1)
    next-place = (
      read-place next (place-stands.0, more),
      omega (arith, flat-read heap count offset place entries s, flat-read heap count offset next entries s),
    )

  -- the last one of its list
  module _ (last : length (numbered place.list (lists_of s.index)).list.entries ≤ place.index + 1) where
    behind-all : entries_before (suc place.list) (lists_of s.index) ≡ flat heap count offset place + 1
    behind-all = omega (arith, last, place-stands.1, before-next (lists_of s.index) place.list place-stands.0, flat-read heap count offset place entries s)

    one_more : suc place.list ≡ place.list + 1
    one_more = omega arith

    pub none-behind : length (lists_of s.index) ≤ place.list + 1 → length entries ≤ flat heap count offset place + 1
    none-behind l = omega (arith, behind-all, before-all (lists_of s.index) (suc place.list) (omega (arith, l)), total)

    module _ (more : place.list + 1 < length (lists_of s.index)) where
      abbrev first : Place
      first = record { list = place.list + 1; index = 0 }

      some-there : 0 < length (numbered (place.list + 1) (lists_of s.index)).list.entries
      some-there = omega (arith, (list-stands heap offset (lists_of s.index) (place.list + 1) (lists-has heap count offset entries s) more).written.some)

      pub first-place : StandsIn (index_of heap count offset) first × (flat heap count offset first ≡ flat heap count offset place + 1)
      first-place = (
        read-place first (more, some-there),
        omega (arith, behind-all, ap (λ n. entries_before n (lists_of s.index)) one_more, flat-read heap count offset first entries s),
      )

-- the key at a place behind another
pub behind-is : (heap : Heap) (count offset : ℕ) (place next : Place) (entries : List Entry) → AreSubkeys heap count offset entries →
    StandsIn (index_of heap count offset) next × (flat heap count offset next ≡ flat heap count offset place + 1) → (key : ℕ) →
    (get_or entries (flat heap count offset next) (record { offset = 0; hint = 0 })).offset ≡ key →
    (flat heap count offset place + 1 < length entries)
    × ((get_or entries (flat heap count offset place + 1) (record { offset = 0; hint = 0 })).offset ≡ key)
behind-is heap count offset place next entries s is key at =
    subst (λ i. (i < length entries) × ((get_or entries i (record { offset = 0; hint = 0 })).offset ≡ key)) is.1
    (here-within heap count offset next is.0 entries s, at)
