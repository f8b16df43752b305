-- Entries of a list, read one after another.
use Rattle.std.proofs.Common.{◌≡◌, ◌≢◌, ℕ, zero, suc, ◌+◌, ◌<◌, ◌≤◌, ◌-◌, ◌&&◌, nat_lt, nat_le, is_some, Bool, true, false, cond, Option, Some, None, Ok, Err, List, length, drop, slice_get, refl, sym, ap, ◌∙◌, arith, add-one}
use Rattle.std.specs.Option.{option_and_then}
use Rattle.std.proofs.lemmas.Bool.{false≢true, lt-ltb, le-ltb}
use Rattle.reg_heap.specs.declared.limits.TheConstants.{LEAF_LIMIT}
use Rattle.reg_heap.specs.Heaps.{Heap}
use Rattle.reg_records.specs.declared.RecordFault.{RecordFault}
use Rattle.reg_records.specs.declared.nk.KeyFields.{KeyFields}
use Rattle.reg_records.specs.declared.lists.ListForm.TheVariants.{IndexRoot, IndexLeaf, FastLeaf, HashLeaf}
use Rattle.reg_records.specs.KeyNodes.{KeyRecord, nk_of, key_at}
use Rattle.reg_records.specs.SubkeyLists.{Entry, Form, SubkeysList, list_of, plain_entries, hinted_entries, entries_as}
use Rattle.reg_written.specs.Internal.KeyTests.{Siblings, is_behind, is_child, with_child, with_entry, with_entries, with_list, with_list_in, with_lists, with_form, with_index, is_hash_leaf, is_list}
use Rattle.reg_written.proofs.CellsRead.{drop-here, drop-past, ok-err, key-read, same-ok, both}

-- ---- one key

-- where the key's node reads, no fault is met
pub no-fault : (heap : Heap) (offset : ℕ) (r : List ℕ) (fault : RecordFault) → is_some (key_at heap offset) ≡ true → ((h : List ℕ) → heap offset ≡ Some h → r ≡ h) → nk_of r ≡ Err fault → ⊥
no-fault heap offset r fault s f e = let k = key-read heap offset r s f in ok-err (nk_of r) k.0 fault k.2 e

module _ (heap : Heap) (parent : ℕ) (fields : KeyFields) (before : Siblings) (entry : Entry) (r : List ℕ) (key : KeyRecord)
    (s : is_some (key_at heap entry.offset) ≡ true) (f : (h : List ℕ) → heap entry.offset ≡ Some h → r ≡ h) (e : nk_of r ≡ Ok key) where
  key-here : key_at heap entry.offset ≡ Some key
  key-here = let k = key-read heap entry.offset r s f in k.1 ∙ ap Some (same-ok _ _ (sym k.2 ∙ e))

  abbrev test : Bool
  test = nat_lt 0 before.left && (is_behind before.last key.name && is_child parent fields entry key)

  pub one-is : (b : Bool) → test ≡ b → with_entry heap parent fields before entry ≡ cond b (Some (record { left = before.left - 1; last = Some key.name })) None
  one-is b t = ap (with_child parent fields before entry) key-here ∙ ap (λ (b : Bool). cond b (Some (record { left = before.left - 1; last = Some key.name })) None) t

-- ---- entries in turn

module _ (heap : Heap) (parent : ℕ) (fields : KeyFields) where
  -- one more entry is taken
  pub turn : (entries : List Entry) (i : ℕ) (entry : Entry) (now : Siblings) (next : Option Siblings) → slice_get entries i ≡ Some entry → next ≡ with_entry heap parent fields now entry →
      with_entries heap parent fields (drop i entries) now ≡ option_and_then (with_entries heap parent fields (drop (i + 1) entries)) next
  turn entries i entry now next at e =
      ap (λ (es : List Entry). with_entries heap parent fields es now) (drop-here entries i entry at)
      ∙ (ap (option_and_then (with_entries heap parent fields (drop (suc i) entries))) (sym e)
      ∙ ap (λ (n : ℕ). option_and_then (with_entries heap parent fields (drop n entries)) next) (sym (add-one i)))

  pub turn-end : (entries : List Entry) (i : ℕ) (now : Siblings) → length entries ≤ i → with_entries heap parent fields (drop i entries) now ≡ Some now
  turn-end entries i now l = ap (λ (es : List Entry). with_entries heap parent fields es now) (drop-past entries i l)

  -- one more list is taken
  pub list-turn : (entries : List Entry) (i : ℕ) (entry : Entry) (now : Siblings) (next : Option Siblings) → slice_get entries i ≡ Some entry →
      next ≡ with_list_in heap parent fields (option_and_then list_of (heap entry.offset)) now →
      with_lists heap parent fields (drop i entries) now ≡ option_and_then (with_lists heap parent fields (drop (i + 1) entries)) next
  list-turn entries i entry now next at e =
      ap (λ (es : List Entry). with_lists heap parent fields es now) (drop-here entries i entry at)
      ∙ (ap (option_and_then (with_lists heap parent fields (drop (suc i) entries))) (sym e)
      ∙ ap (λ (n : ℕ). option_and_then (with_lists heap parent fields (drop n entries)) next) (sym (add-one i)))

  pub list-turn-end : (entries : List Entry) (i : ℕ) (now : Siblings) → length entries ≤ i → with_lists heap parent fields (drop i entries) now ≡ Some now
  list-turn-end entries i now l = ap (λ (es : List Entry). with_lists heap parent fields es now) (drop-past entries i l)

-- ---- how many entries

plain-many : (count at : ℕ) (content : List ℕ) → length (plain_entries count at content) ≡ count
plain-many zero at content = refl
plain-many (suc n) at content = ap suc (plain-many n (at + 4) content)

hinted-many : (count at : ℕ) (content : List ℕ) → length (hinted_entries count at content) ≡ count
hinted-many zero at content = refl
hinted-many (suc n) at content = ap suc (hinted-many n (at + 8) content)

pub as-many : (form : Form) (count at : ℕ) (content : List ℕ) → length (entries_as form count at content) ≡ count
as-many IndexRoot count at content = plain-many count at content
as-many IndexLeaf count at content = plain-many count at content
as-many FastLeaf count at content = hinted-many count at content
as-many HashLeaf count at content = hinted-many count at content

pub hash-leaf : (form : Form) → is_hash_leaf form ≡ true → form ≡ HashLeaf
hash-leaf IndexRoot e = absurd (false≢true e)
hash-leaf IndexLeaf e = absurd (false≢true e)
hash-leaf FastLeaf e = absurd (false≢true e)
hash-leaf HashLeaf e = refl

-- ---- a list by what stands before its entries

module _ (heap : Heap) (parent : ℕ) (fields : KeyFields) (before : Siblings) (content : List ℕ) (form : Form) (count : ℕ)
    (e : list_of content ≡ Some (record { form = form; entries = entries_as form count 4 content })) where
  abbrev entries : List Entry
  entries = entries_as form count 4 content

  abbrev its_list : SubkeysList
  its_list = record { form = form; entries = entries }

  list-test : (b : Bool) → (is_hash_leaf form && (nat_lt 0 count && nat_le count LEAF_LIMIT)) ≡ b → is_list its_list ≡ b
  list-test b t = ap (λ (n : ℕ). is_hash_leaf form && (nat_lt 0 n && nat_le n LEAF_LIMIT)) (as-many form count 4 content) ∙ t

  pub list-refused : (is_hash_leaf form && (nat_lt 0 count && nat_le count LEAF_LIMIT)) ≡ false → with_list_in heap parent fields (list_of content) before ≡ None
  list-refused t =
      ap (λ (o : Option SubkeysList). with_list_in heap parent fields o before) e
      ∙ ap (λ (b : Bool). cond b (with_entries heap parent fields entries before) None) (list-test false t)

  pub list-taken : (is_hash_leaf form && (nat_lt 0 count && nat_le count LEAF_LIMIT)) ≡ true →
      with_list_in heap parent fields (list_of content) before ≡ with_entries heap parent fields (entries_as HashLeaf count 4 content) before
  list-taken t =
      ap (λ (o : Option SubkeysList). with_list_in heap parent fields o before) e
      ∙ (ap (λ (b : Bool). cond b (with_entries heap parent fields entries before) None) (list-test true t)
      ∙ ap (λ (f : Form). with_entries heap parent fields (entries_as f count 4 content) before) (hash-leaf form (both (is_hash_leaf form) _ t).0))

  -- an index root of fewer than two lists
  pub root-refused : form ≡ IndexRoot → count < 2 → with_index heap parent fields (list_of content) before ≡ None
  root-refused r few =
      ap (λ (o : Option SubkeysList). with_index heap parent fields o before) e
      ∙ (ap (λ (f : Form). with_form heap parent fields its_list f before) r
      ∙ ap (λ (b : Bool). cond b (with_lists heap parent fields entries before) None) (le-ltb 1 (length entries) (let l = as-many form count 4 content in omega (arith, l, few))))

  pub root-taken : form ≡ IndexRoot → 2 ≤ count → with_index heap parent fields (list_of content) before ≡ with_lists heap parent fields (entries_as IndexRoot count 4 content) before
  root-taken r some =
      ap (λ (o : Option SubkeysList). with_index heap parent fields o before) e
      ∙ (ap (λ (f : Form). with_form heap parent fields its_list f before) r
      ∙ (ap (λ (b : Bool). cond b (with_lists heap parent fields entries before) None) (lt-ltb 1 (length entries) (let l = as-many form count 4 content in omega (arith, l, some)))
      ∙ ap (λ (f : Form). with_lists heap parent fields (entries_as f count 4 content) before) r))

  pub leaf-taken : form ≢ IndexRoot → with_index heap parent fields (list_of content) before ≡ with_list_in heap parent fields (list_of content) before
  leaf-taken n =
      ap (λ (o : Option SubkeysList). with_index heap parent fields o before) e
      ∙ (by form refl ∙ sym (ap (λ (o : Option SubkeysList). with_list_in heap parent fields o before) e))
    where
      by : (f : Form) → form ≡ f → with_form heap parent fields its_list f before ≡ with_list heap parent fields its_list before
      by IndexRoot r = absurd (n r)
      by IndexLeaf r = refl
      by FastLeaf r = refl
      by HashLeaf r = refl
