-- A name that comes after the last one of the last list.
use Rattle.std.proofs.Common.{◌≡◌, ℕ, suc, ◌+◌, ◌<◌, IsSome, List, length, get_or, refl, ap, ◌∙◌, subst, arith}
use Rattle.std.specs.Prelude.{Err}
use Rattle.std.specs.declared.cmp.Ordering.TheVariants.{Less}
use Rattle.reg_names.specs.Names.{folded, name_cmp}
use Rattle.reg_heap.specs.Heaps.{Heap}
use Rattle.reg_records.specs.KeyNodes.{key_at}
use Rattle.reg_records.specs.SubkeyLists.{Entry}
use Rattle.reg_shape.specs.Nodes.{KeyList}
use Rattle.reg_index.specs.Internal.IndexLists.{AreKeys}
use Rattle.reg_index.specs.Internal.NameSearches.{Between, IsListFor}
use Rattle.reg_index.specs.Subkeys.{IsIndexFor, entries_in, name_at, names_in, numbered}
use Rattle.reg_index.proofs.FoundPlaces.{keys-part}
use Rattle.reg_index.proofs.ListPlaces.{before-all, before-next, entries_before, entry-at}
use Rattle.reg_index.proofs.NameSearch.{all-between, belongs, is-before, is-key, length-names}

abbrev no_entry : Entry
no_entry = record { offset = 0; hint = 0 }

-- the last key of the last list
module _ (heap : Heap) (lists : List KeyList) (keys : AreKeys heap (entries_in lists)) (number last key : ℕ) (name : List ℕ) (ends : suc number ≡ length lists)
    (end : suc last ≡ length (numbered number lists).list.entries) (is : (get_or (numbered number lists).list.entries last no_entry).offset ≡ key) where
  abbrev part : List Entry
  part = (numbered number lists).list.entries

  here : number < length lists
  here = omega (arith, ends)

  part_keys : AreKeys heap part
  part_keys = keys-part heap lists number here keys

  in_part : Between (names_in heap part) (folded name) 0 (length part)
  in_part = all-between heap (folded name) part (length part) refl

  pub last-key : IsSome (key_at heap key)
  last-key = is-key heap part part_keys 0 (length part) last key name (omega arith) (omega (arith, end)) in_part is

  all-is : entries_before number lists + suc last ≡ length (entries_in lists)
  all-is =
      let n = before-next lists number here in
      omega (arith, n, end, ap (λ n. entries_before n lists) ends, before-all lists (length lists) (omega arith))

  is-among : (get_or (entries_in lists) (entries_before number lists + last) no_entry).offset ≡ key
  is-among = ap (λ (e : Entry). e.offset) (entry-at lists (record { list = number; index = last }) no_entry (here, omega (arith, end))) ∙ is

  module _ (found : List ℕ) (name_is : found ≡ name_at heap key) (comes : Less ≡ name_cmp found name) where
    among : Between (names_in heap (entries_in lists)) (folded name) (entries_before number lists + last + 1) (length (entries_in lists))
    among =
        is-before heap (entries_in lists) keys 0 (length (entries_in lists)) (entries_before number lists + last) key name (omega arith) (omega (arith, all-is))
        (all-between heap (folded name) (entries_in lists) (length (entries_in lists)) refl) is-among found name_is comes

    in-last : IsListFor heap lists (folded name) number
    in-last = record {
      within = here;
      between = record {
        order_is = omega arith;
        within = omega (arith, all-is, end, length-names heap (entries_in lists));
        before = λ k l. among.before k (omega (arith, l));
        behind = λ k l m. absurd (omega (arith, l, m, all-is, end, length-names heap (entries_in lists)));
      };
    }

    at-end : (index : ℕ) → suc last ≡ index → IsIndexFor (names_in heap part) (folded name) (Err index)
    at-end index e =
        subst (λ i. IsIndexFor (names_in heap part) (folded name) (Err i)) {x = last + 1} {y = index} (omega (arith, e))
        (belongs heap part (last + 1) (length part) (folded name) (λ l. absurd (omega (arith, l, end)))
        (is-before heap part part_keys 0 (length part) last key name (omega arith) (omega (arith, end)) in_part is found name_is comes))

    pub behind-all : (index : ℕ) → suc last ≡ index →
        IsListFor heap lists (folded name) number × IsIndexFor (names_in heap (numbered number lists).list.entries) (folded name) (Err index)
    behind-all index e = (in-last, at-end index e)
