-- The cells that one subkey more takes.
use Rattle.std.proofs.Common.{◌≡◌, ℕ, zero, suc, ◌<◌, ◌≤◌, cond, Option, Some, None, List, [], ◌∷◌, length, refl, sym, ap, ◌∙◌, subst, arith}
use Rattle.std.proofs.lemmas.Bool.{eq-eqb, ne_eqb}
use Rattle.reg_heap.specs.declared.limits.TheConstants.{LEAF_LIMIT}
use Rattle.reg_heap.specs.Heaps.{Heap}
use Rattle.reg_records.specs.SubkeyLists.{Entry}
use Rattle.reg_shape.specs.Nodes.{Index, lists_of}
use Rattle.reg_shape.specs.Nodes.Index.{Unlisted, Listed, Rooted}
use Rattle.reg_index.specs.declared.Place.{Place}
use Rattle.reg_index.specs.declared.IndexCells.{IndexCells}
use Rattle.reg_index.specs.declared.plan.TheConstants.{FIRST_LIST_SIZE, FIRST_HALF, SECOND_HALF}
use Rattle.reg_index.specs.Subkeys.{AreSubkeys, IsPlaceIn, grown_size, index_of, index_under, insert_sizes, list_size, numbered, root_sizes, sizes_in}
use Rattle.reg_index.proofs.FoundPlaces.{lists-some, place-of}
use Rattle.reg_index.proofs.SubkeysOpening.{index-is, subkeys-open}

-- the sizes, by the index that was read
pub sizes-are : (heap : Heap) (count offset : ℕ) (place : Place) (entries : List Entry) (s : AreSubkeys heap count offset entries) →
    insert_sizes heap count offset place ≡ sizes_in heap s.index place.list
unfolding insert_sizes
sizes-are heap count offset place entries s = ap (λ i. sizes_in heap i place.list) (index-is heap count offset s.index s.read)

abbrev first : IndexCells
first = record { list = Some FIRST_LIST_SIZE; second = None; root = None }

pub first-sizes : (heap : Heap) (count offset : ℕ) (place : Place) → count ≡ 0 → first ≡ insert_sizes heap count offset place
unfolding insert_sizes
first-sizes heap zero offset place e = refl
first-sizes heap (suc count) offset place e = absurd (omega (arith, e))

abbrev two : Option ℕ → IndexCells
two root = record { list = Some (list_size FIRST_HALF); second = Some (list_size SECOND_HALF); root = root }

abbrev one : Option ℕ → IndexCells
one list = record { list = list; second = None; root = None }

pub full-sizes : (heap : Heap) (index : Index) (number : ℕ) → 0 < length (lists_of index) → length (numbered number (lists_of index)).list.entries ≡ LEAF_LIMIT →
    sizes_in heap index number ≡ two (root_sizes heap index)
full-sizes heap Unlisted number some e = absurd (omega (arith, some))
full-sizes heap (Listed list) number some e =
    ap (λ b. cond b (two (root_sizes heap (Listed list))) (one (grown_size heap (numbered number (list ∷ []))))) (eq-eqb _ _ e)
full-sizes heap (Rooted offset lists) number some e =
    ap (λ b. cond b (two (root_sizes heap (Rooted offset lists))) (one (grown_size heap (numbered number lists)))) (eq-eqb _ _ e)

pub part-sizes : (heap : Heap) (index : Index) (number : ℕ) → 0 < length (lists_of index) → (length (numbered number (lists_of index)).list.entries ≡ LEAF_LIMIT → ⊥) →
    sizes_in heap index number ≡ one (grown_size heap (numbered number (lists_of index)))
part-sizes heap Unlisted number some e = absurd (omega (arith, some))
part-sizes heap (Listed list) number some e =
    ap (λ b. cond b (two (root_sizes heap (Listed list))) (one (grown_size heap (numbered number (list ∷ []))))) (ne_eqb _ _ e)
part-sizes heap (Rooted offset lists) number some e =
    ap (λ b. cond b (two (root_sizes heap (Rooted offset lists))) (one (grown_size heap (numbered number lists)))) (ne_eqb _ _ e)

-- ---- as they are planned

module _ (heap : Heap) (count offset : ℕ) (place : Place) (entries : List Entry) (s : AreSubkeys heap count offset entries) (some : count ≡ 0 → ⊥) where
  pub planned-two : (root : Option ℕ) → length (numbered place.list (lists_of s.index)).list.entries ≡ LEAF_LIMIT → root ≡ root_sizes heap (index_under offset (lists_of s.index))
      → two root ≡ insert_sizes heap count offset place
  planned-two root full is =
      ap two (is ∙ ap (root_sizes heap) (sym (subkeys-open heap count offset entries s).under))
      ∙ sym (sizes-are heap count offset place entries s ∙ full-sizes heap s.index place.list (lists-some heap count offset entries s some) full)

  pub planned-one : (list : Option ℕ) → (length (numbered place.list (lists_of s.index)).list.entries ≡ LEAF_LIMIT → ⊥) →
      list ≡ grown_size heap (numbered place.list (lists_of s.index)) → one list ≡ insert_sizes heap count offset place
  planned-one list part is =
      ap one is ∙ sym (sizes-are heap count offset place entries s ∙ part-sizes heap s.index place.list (lists-some heap count offset entries s some) part)

  pub place-there : IsPlaceIn (index_of heap count offset) place →
      (place.list < length (lists_of s.index)) × (place.index ≤ length (numbered place.list (lists_of s.index)).list.entries)
  place-there p =
      place-of s.index place (lists-some heap count offset entries s some) (subst (λ i. IsPlaceIn i place) (index-is heap count offset s.index s.read) p)
