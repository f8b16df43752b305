-- Values that are read one after another.
use Rattle.std.proofs.Common.{◌≡◌, ℕ, zero, suc, ◌+◌, ◌<◌, ◌≤◌, ◌&&◌, Bool, true, is_some, Option, Some, Result, Ok, List, [], ◌∷◌, length, drop, get_or, refl, sym, ap, ◌∙◌, subst, arith, add-one}
use Rattle.std.specs.List.{AllByRecursion, list_all}
use Rattle.std.specs.Option.{option_and_then}
use Rattle.std.specs.Result.{result_ok}
use Rattle.reg_heap.specs.Heaps.{Heap}
use Rattle.reg_records.specs.declared.nk.KeyFields.{KeyFields}
use Rattle.reg_records.specs.RecordCells.{held}
use Rattle.reg_records.specs.KeyValues.{KeyValueRecord, vk_of, value_record_at}
use Rattle.reg_records.specs.OffsetRows.{offsets_at, offset_in}
use Rattle.reg_values.proofs.ValueListing.FoundValues.{offset-at, all-at}
use Rattle.reg_values.proofs.ValueListing.ValueListOpening.{length-offsets}
use Rattle.reg_written.specs.Internal.KeyCells.{HasValue}
use Rattle.reg_written.specs.Internal.KeyTests.{is_value, is_value_in, is_value_at}
use Rattle.reg_written.proofs.CellsRead.{held-is, same-ok, drop-past}

module _ (heap : Heap) (key : KeyFields) (offset : ℕ) (h : HasValue heap offset) (r : List ℕ) (f : (c : List ℕ) → heap offset ≡ Some c → r ≡ c) where
  r-is : r ≡ h.content
  r-is = f h.content h.here

  -- what is read is the value's record
  pub same-value : (value : KeyValueRecord) → vk_of r ≡ Ok value → h.value ≡ value
  same-value value e = same-ok _ _ (sym h.reads ∙ (ap vk_of (sym r-is) ∙ e))

  record-here : value_record_at heap offset ≡ Some h.value
  unfolding value_record_at
  record-here = ap (option_and_then (λ (c : List ℕ). result_ok (vk_of c))) h.here ∙ ap (λ (x : Result KeyValueRecord _). result_ok x) h.reads

  pub value-at : (value : KeyValueRecord) → vk_of r ≡ Ok value → is_value_at heap key offset ≡ is_value heap key r value
  value-at value e =
      ap (λ (o : Option KeyValueRecord). is_value_in heap key (held heap offset) o) record-here
      ∙ (ap (λ (c : List ℕ). is_value heap key c h.value) (held-is heap offset r (ap (λ (o : Option (List ℕ)). is_some o) h.here) f)
      ∙ ap (λ (v : KeyValueRecord). is_value heap key r v) (same-value value e))

-- ---- in turn

module _ (P : ℕ → Bool) where
  front : (xs : List ℕ) (i : ℕ) → i < length xs → list_all P (drop i xs) ≡ (P (get_or xs i 0) && list_all P (drop (suc i) xs))
  front [] i l = absurd (omega (arith, l))
  front (x ∷ xs) zero l = refl
  front (x ∷ xs) (suc i) l = front xs i (omega (arith, l))

  turn : (xs : List ℕ) (i : ℕ) (b : Bool) → i < length xs → P (get_or xs i 0) ≡ b → list_all P (drop i xs) ≡ (b && list_all P (drop (i + 1) xs))
  turn xs i b l e = front xs i l ∙ (ap (λ (t : Bool). t && list_all P (drop (suc i) xs)) e ∙ ap (λ (n : ℕ). b && list_all P (drop n xs)) (sym (add-one i)))

-- the values of a row, of which one is read by its offset
module _ (heap : Heap) (key : KeyFields) (list : ℕ) (row : List ℕ) (there : 0 < key.values → is_some (heap list) ≡ true) (f : (c : List ℕ) → heap list ≡ Some c → row ≡ c) where
  abbrev offsets : List ℕ
  offsets = offsets_at key.values 0 (held heap list)

  pub row-is : 0 < key.values → held heap list ≡ row
  row-is some = held-is heap list row (there some) f

  offset-is : (i offset : ℕ) → i < key.values → offset ≡ offset_in row i → get_or offsets i 0 ≡ offset
  offset-is i offset l e =
      offset-at key.values (held heap list) i l ∙ (ap (λ (c : List ℕ). offset_in c i) (row-is (omega (arith, l))) ∙ sym e)

  many : length offsets ≡ key.values
  many = length-offsets key.values 0 (held heap list)

  pub value-here : (P : ℕ → Type 0) (i offset : ℕ) → i < key.values → offset ≡ offset_in row i → AllByRecursion P offsets → P offset
  value-here P i offset l e a = subst P (offset-is i offset l e) (all-at P offsets i a (let m = many in omega (arith, l, m)))

  pub value-turn : (i offset : ℕ) (b : Bool) → i < key.values → offset ≡ offset_in row i → b ≡ is_value_at heap key offset →
      list_all (is_value_at heap key) (drop i offsets) ≡ (b && list_all (is_value_at heap key) (drop (i + 1) offsets))
  value-turn i offset b l e r =
      turn (is_value_at heap key) offsets i b (let m = many in omega (arith, l, m)) (ap (is_value_at heap key) (offset-is i offset l e) ∙ sym r)

  pub value-end : (i : ℕ) → key.values ≤ i → list_all (is_value_at heap key) (drop i offsets) ≡ true
  value-end i l = ap (list_all (is_value_at heap key)) (drop-past offsets i (let m = many in omega (arith, l, m)))

pub no-values : (P : ℕ → Bool) (count : ℕ) (content : List ℕ) → count ≡ 0 → list_all P (offsets_at count 0 content) ≡ true
unfolding offsets_at
no-values P count content e = ap (λ (n : ℕ). list_all P (offsets_at n 0 content)) e
