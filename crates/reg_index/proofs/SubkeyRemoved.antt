-- A subkey taken out.
use Rattle.std.proofs.Common.{◌≡◌, ℕ, ◌-◌, ◌<◌, List, [], length, sym, ap, ◌∙◌, subst, arith}
use Rattle.reg_heap.specs.Heaps.{Heap}
use Rattle.reg_records.specs.SubkeyLists.{Entry}
use Rattle.reg_shape.specs.Nodes.{KeyList, lists_of}
use Rattle.reg_index.specs.declared.Place.{Place}
use Rattle.reg_index.specs.Internal.IndexLists.{AreExchanged, HasLists, IsOnce, StandsAmong, cells_under}
use Rattle.reg_index.specs.Subkeys.{AreSubkeys, Moves, StandsIn, entries_in, flat, flat_among, index_of, index_under, lists_without, own, without}
use Rattle.reg_index.proofs.EntriesExchanged.{entries-without}
use Rattle.reg_index.proofs.EntryKeys.{keys-without}
use Rattle.reg_index.proofs.EntryTaken.{length-without}
use Rattle.reg_index.proofs.FoundPlaces.{flat-read}
use Rattle.reg_index.proofs.ListPlaces.{before-within}
use Rattle.reg_index.proofs.ListsParted.{under-same}
use Rattle.reg_index.proofs.SubkeysExchanged.{subkeys-exchanged, moves-exchanged, moves-only, none-carved}
use Rattle.reg_index.proofs.SubkeysOnce.{lists-once}
use Rattle.reg_index.proofs.SubkeysOpening.{index-is, index-under, keys-of, lists-has}

module _ (old : Heap) (count offset : ℕ) (place : Place) (stands : StandsIn (index_of old count offset) place) (entries : List Entry) (s : AreSubkeys old count offset entries) where
  pub stands-among : StandsAmong (lists_of s.index) place
  stands-among = subst (λ i. StandsIn i place) (index-is old count offset s.index s.read) stands

  flat-is : flat old count offset place ≡ flat_among (lists_of s.index) place
  flat-is = flat-read old count offset place entries s

  pub flat-within : flat old count offset place < length entries
  flat-within =
      omega (arith, flat-is, before-within (lists_of s.index) place.list stands-among.0, stands-among.1, ap length s.entries_are)

  left-are : entries_in (lists_without place (lists_of s.index))
      ≡ without (flat old count offset place) entries
  left-are =
      entries-without (lists_of s.index) place stands-among.0 stands-among.1
      ∙ (λ i. without (sym flat-is i) (s.entries_are i))

  module _ (new : Heap) (result : ℕ)
      (changed : (lists : List KeyList) → HasLists old offset lists → StandsAmong lists place → IsOnce (cells_under offset lists) →
      AreExchanged old new offset lists result (lists_without place lists) []) where
    exchange : AreExchanged old new offset (lists_of s.index) result (lists_without place (lists_of s.index)) []
    exchange = changed (lists_of s.index) (lists-has old count offset entries s) stands-among (lists-once old count offset entries s)

    number : length (without (flat old count offset place) entries) ≡ count - 1
    number = omega (arith, length-without (flat old count offset place) entries flat-within, s.number)

    pub fewer : AreSubkeys new (count - 1) result (without (flat old count offset place) entries)
    fewer =
        subkeys-exchanged old new count offset (count - 1) result [] entries (without (flat old count offset place) entries) _ s exchange (none-carved old) left-are
        (keys-without old (flat old count offset place) entries flat-within (keys-of old count offset entries s)) number

    pub fewer-moves : Moves old new (own old count offset) (own new (count - 1) result)
    fewer-moves =
        moves-only old new (own old count offset) (own new (count - 1) result)
        (moves-exchanged old new count offset (count - 1) result [] entries (without (flat old count offset place) entries) _ s exchange (none-carved old) left-are
        (keys-without old (flat old count offset place) entries flat-within (keys-of old count offset entries s)) number)

    -- the root of several lists stays in its cell
    pub fewer-indexed : ((lists : List KeyList) → HasLists old offset lists → StandsAmong lists place → 1 < length (lists_without place lists) → result ≡ offset) →
        index_of new (count - 1) result ≡ index_under offset (lists_without place (lists_of (index_of old count offset)))
    fewer-indexed at =
        index-under new (count - 1) result (lists_without place (lists_of s.index)) exchange.now (ap length left-are ∙ number)
        ∙ (under-same result offset (lists_without place (lists_of s.index)) (at (lists_of s.index) (lists-has old count offset entries s) stands-among)
        ∙ ap (λ i. index_under offset (lists_without place (lists_of i))) (sym (index-is old count offset s.index s.read)))
