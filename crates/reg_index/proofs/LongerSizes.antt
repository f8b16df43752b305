-- The size of the cell in which the last list of a key's subkeys has room for more.
use Rattle.std.proofs.Common.{◌≡◌, ℕ, zero, suc, ◌+◌, ◌-◌, ◌*◌, ◌<◌, ◌≤◌, Bool, true, false, cond, nat_le, Option, Some, None, IsSome, List, [], ◌∷◌, length, refl, sym, ap, ◌∙◌, subst, arith}
use Rattle.std.proofs.lemmas.Bool.Decides.{nat_tests}
use Rattle.std.proofs.lemmas.Option.{none-some, same_Some}
use Rattle.reg_heap.specs.declared.limits.TheConstants.{LEAF_LIMIT}
use Rattle.reg_heap.specs.Heaps.{Heap}
use Rattle.reg_records.specs.RecordCells.{HasRoom, held}
use Rattle.reg_records.specs.SubkeyLists.{Entry}
use Rattle.reg_shape.specs.Nodes.{KeyList, lists_of}
use Rattle.reg_index.specs.Internal.HashLeaves.{IsLeaf}
use Rattle.reg_index.specs.Lengthening.{last_list, last_moved, last_of, longer_in, longer_size, wanted}
use Rattle.reg_index.specs.Subkeys.{AreSubkeys, exchanged, index_of, index_under, leaf_list, list_size, numbered}
use Rattle.reg_index.proofs.EntryTaken.{length-one}
use Rattle.reg_index.proofs.FoundPlaces.{lists-some}
use Rattle.reg_index.proofs.ListPlaces.{leaf-of, list-stands}
use Rattle.reg_index.proofs.ListsRead.{list-there}
use Rattle.reg_index.proofs.PlannedSizes.{IsSizeTo, test-size}
use Rattle.reg_index.proofs.SubkeysOpening.{index-is, lists-has}

-- ---- the last list, once it moved

numbered-exchanged : (number : ℕ) (list : KeyList) (lists : List KeyList) → number < length lists → numbered number (exchanged number (list ∷ []) lists) ≡ list
numbered-exchanged number list [] l = absurd (omega (arith, l))
numbered-exchanged zero list (x ∷ xs) l = refl
numbered-exchanged (suc number) list (x ∷ xs) l = numbered-exchanged number list xs (omega (arith, l))

pub last-of-moved : (cell : ℕ) (lists : List KeyList) → 0 < length lists → last_of (last_moved cell lists) ≡ leaf_list cell (last_of lists).list.entries
last-of-moved cell lists some =
    let there : length lists - 1 < length lists = omega (arith, some) in
    let list : KeyList = leaf_list cell (last_of lists).list.entries in
    ap (λ n. numbered (n - 1) (last_moved cell lists)) (length-one (length lists - 1) list lists there) ∙ numbered-exchanged (length lists - 1) list lists there

pub lists-under : (offset : ℕ) (lists : List KeyList) → lists_of (index_under offset lists) ≡ lists
lists-under offset [] = refl
lists-under offset (list ∷ []) = refl
lists-under offset (first ∷ second ∷ others) = refl

-- ---- room by a test of the cell

abbrev sized : Bool → ℕ → Option ℕ
sized b size = cond b None (Some size)

room-in : (needed long size : ℕ) → sized (nat_le needed long) size ≡ None → needed ≤ long
room-in needed long size none = by (nat_le needed long) refl none
  where
    by : (b : Bool) → nat_le needed long ≡ b → sized b size ≡ None → needed ≤ long
    by true t e = grind (arith, nat_tests, t)
    by false t e = absurd (none-some _ (sym e))

size-in : (b : Bool) (size found : ℕ) → sized b size ≡ Some found → found ≡ size
size-in true size found e = absurd (none-some _ e)
size-in false size found e = sym (same_Some _ _ e)

-- ---- as it is planned

module _ (heap : Heap) (count offset : ℕ) (some : 0 < count) (entries : List Entry) (s : AreSubkeys heap count offset entries) where
  pub some-lists : 0 < length (lists_of s.index)
  some-lists = lists-some heap count offset entries s (λ none. absurd (omega (arith, none, some)))

  there : length (lists_of s.index) - 1 < length (lists_of s.index)
  there = omega (arith, some-lists)

  pub last-leaf : (leaf : ℕ) → (last_of (lists_of s.index)).offset ≡ leaf → IsLeaf heap leaf (last_of (lists_of s.index)).list.entries
  last-leaf leaf is = leaf-of heap offset (lists_of s.index) (length (lists_of s.index) - 1) leaf (lists-has heap count offset entries s) there is

  pub last-few : length (last_of (lists_of s.index)).list.entries ≤ LEAF_LIMIT
  last-few = (list-stands heap offset (lists_of s.index) (length (lists_of s.index) - 1) (lists-has heap count offset entries s) there).written.few

  pub longer-is : (more : ℕ) (size : Option ℕ) → size ≡ longer_in heap (last_of (lists_of s.index)) more → size ≡ longer_size heap count offset more
  unfolding longer_size
  longer-is more size is = is ∙ ap (λ i. longer_in heap (last_list i) more) (sym (index-is heap count offset s.index s.read))

  last_is : last_list (index_of heap count offset) ≡ last_of (lists_of s.index)
  last_is = ap last_list (index-is heap count offset s.index s.read)

  -- room for what comes is room for what is there
  pub wanted-holds : (more : ℕ) → length (last_list (index_of heap count offset)).list.entries ≤ wanted (last_list (index_of heap count offset)) more
  wanted-holds more = omega (arith, last-few, ap (λ (list : KeyList). length list.list.entries) last_is)

  -- how large it is: at most as large as that of a list of 500
  pub longer-to : (more : ℕ) → IsSizeTo 4008 (longer_size heap count offset more)
  unfolding longer_size
  longer-to more =
      let last : KeyList = last_list (index_of heap count offset) in
      let one = (list-stands heap offset (lists_of s.index) (length (lists_of s.index) - 1) (lists-has heap count offset entries s) there).written.some in
      let some_wanted : 1 ≤ wanted last more = omega (arith, one, ap (λ (list : KeyList). length list.list.entries) last_is) in
      test-size 4008 (list_size (wanted last more)) (nat_le (4 + 8 * wanted last more) (length (held heap last.offset))) (omega arith, omega (arith, some_wanted), omega arith)

  pub longer-some : (more size : ℕ) → longer_size heap count offset more ≡ Some size → size ≡ list_size (wanted (last_list (index_of heap count offset)) more)
  unfolding longer_size
  longer-some more size is =
      let last : KeyList = last_list (index_of heap count offset) in
      size-in (nat_le (4 + 8 * wanted last more) (length (held heap last.offset))) (list_size (wanted last more)) size is

  -- none is planned where there is room
  pub longer-none : (more : ℕ) → longer_size heap count offset more ≡ None →
      HasRoom heap (last_list (index_of heap count offset)).offset (4 + 8 * wanted (last_list (index_of heap count offset)) more)
  unfolding longer_size
  longer-none more none =
      let last : KeyList = last_list (index_of heap count offset) in
      record {
        exists = subst (λ (list : KeyList). IsSome (heap list.offset)) (sym last_is) (list-there heap (last_of (lists_of s.index)).offset _ (last-leaf (last_of (lists_of s.index)).offset refl));
        enough = room-in (4 + 8 * wanted last more) (length (held heap last.offset)) (list_size (wanted last more)) none;
      }

  -- ---- once it moved into a cell of the planned size

  module _ (new : Heap) (result cell : ℕ) (moved : index_of new count result ≡ index_under offset (last_moved cell (lists_of (index_of heap count offset)))) where
    pub last-now : last_list (index_of new count result) ≡ leaf_list cell (last_list (index_of heap count offset)).list.entries
    last-now =
        ap last_list moved
        ∙ (ap last_of (lists-under offset (last_moved cell (lists_of (index_of heap count offset))))
        ∙ last-of-moved cell (lists_of (index_of heap count offset)) (omega (arith, some-lists, ap (λ i. length (lists_of i)) (index-is heap count offset s.index s.read))))

    pub longer-now : (more size : ℕ) → longer_size heap count offset more ≡ Some size → IsSome (new cell) → length (held new cell) + 4 ≡ size →
        HasRoom new (last_list (index_of new count result)).offset (4 + 8 * wanted (last_list (index_of new count result)) more)
    longer-now more size is there long =
        subst (λ (list : KeyList). HasRoom new list.offset (4 + 8 * wanted list more)) (sym last-now)
        (record { exists = there; enough = omega (arith, longer-some more size is, long) })
