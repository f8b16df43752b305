-- The sizes of the cells that a change takes.
use Rattle.std.proofs.Common.{◌≡◌, ℕ, suc, ◌+◌, ◌-◌, ◌*◌, ◌<◌, ◌≤◌, min, cond, Some, None, List, [], ◌∷◌, ◌++◌, length, refl, sym, ap, ◌∙◌, subst, arith, add-one, append_assoc}
use Rattle.std.proofs.lemmas.Bool.{le-leb}
use Rattle.std.proofs.lemmas.List.{append-nil}
use Rattle.reg_records.specs.BigData.{segment_size, segments_for}
use Rattle.std.specs.Option.{option_and_then}
use Rattle.reg_heap.specs.Paths.{Member}
use Rattle.reg_heap.specs.Heaps.{Heap}
use Rattle.reg_heap.specs.Kinds.{Found}
use Rattle.reg_heap.specs.Members.{index_named}
use Rattle.reg_records.specs.declared.db.TheConstants.{SEGMENT_SIZE}
use Rattle.reg_records.specs.RecordCells.{held}
use Rattle.reg_records.specs.OffsetRows.{offset_in}
use Rattle.reg_records.specs.KeyValues.{KeyValueRecord, value_record_at}
use Rattle.reg_shape.specs.Nodes.{members_at}
use Rattle.reg_arena.specs.NewCells.{cell_size}
use Rattle.reg_values.specs.ValueSizes.{segment_sizes, data_sizes, stays, sizes_by, new_data_sizes, set_sizes}
use Rattle.reg_values.proofs.ValueData.DataPieces.{le-false, next-size}
use Rattle.reg_values.proofs.ValueData.SegmentReading.{segment-is}

-- so many sizes are there, and the others come behind them
pub record Sized (count size i : ℕ) (base done : List ℕ) : Type 0 where
  pub is : done ++ segment_sizes (count - i) (size - segment_size * i) ≡ base ++ segment_sizes count size

pub sized-none : (count size : ℕ) (base : List ℕ) → Sized count size 0 base base
sized-none count size base =
    let n : size - segment_size * 0 ≡ size = omega arith in
    let m : count - 0 ≡ count = omega arith in
    record { is = ap (λ s. base ++ segment_sizes (count - 0) s) n ∙ ap (λ k. base ++ segment_sizes k size) m }

pub sized-more : (count size i n : ℕ) (base done : List ℕ) → i < count → n ≡ cell_size (min segment_size (size - segment_size * i)) →
    Sized count size i base done → Sized count size (i + 1) base (done ++ n ∷ [])
sized-more count size i n base done l e s =
    let m : count - i ≡ suc (count - suc i) = omega arith in
    let left : ℕ = size - segment_size * i in
    record {
      is = append_assoc done (n ∷ []) (segment_sizes (count - (i + 1)) (size - segment_size * (i + 1)))
          ∙ ap (λ j. done ++ n ∷ segment_sizes (count - j) (size - segment_size * j)) (add-one i)
          ∙ ap (λ n. done ++ n ∷ segment_sizes (count - suc i) (size - segment_size * suc i)) e
          ∙ ap (λ t. done ++ cell_size (min segment_size left) ∷ segment_sizes (count - suc i) t) (sym (next-size segment_size size i))
          ∙ ap (λ k. done ++ segment_sizes k left) (sym m) ∙ s.is;
    }

pub sized-all : (count size i : ℕ) (base done : List ℕ) → count ≤ i → Sized count size i base done → done ≡ base ++ segment_sizes count size
sized-all count size i base done l s =
    let m : count - i ≡ 0 = omega arith in
    sym (append-nil done) ∙ ap (λ k. done ++ segment_sizes k (size - segment_size * i)) (sym m) ∙ s.is

pub piece-size : (size i n k : ℕ) → k ≡ min (size - SEGMENT_SIZE * i) SEGMENT_SIZE → n ≡ cell_size k → n ≡ cell_size (min segment_size (size - segment_size * i))
unfolding segment_size
piece-size size i n k e f = f ∙ ap cell_size (omega (arith, e))

-- ---- data

pub few-sizes : (size : ℕ) → size ≤ 4 → data_sizes size ≡ []
unfolding data_sizes
few-sizes size l = rw (le-leb size 4 l) refl

pub one-size : (size : ℕ) → 4 < size → size ≤ SEGMENT_SIZE → data_sizes size ≡ cell_size size ∷ []
unfolding data_sizes
one-size size l m = rw (le-false size 4 l, le-leb size segment_size (subst (λ n. size ≤ n) (sym segment-is) m)) refl

pub big-sizes : (size : ℕ) → SEGMENT_SIZE < size → data_sizes size ≡ cell_size 8 ∷ cell_size (4 * segments_for size) ∷ segment_sizes (segments_for size) size
unfolding data_sizes
big-sizes size l = rw (le-false size 4 (omega arith), le-false size segment_size (subst (λ n. n < size) (sym segment-is) l)) refl

-- ---- all sizes

pub added_sizes : (a b c d : List ℕ) (n : ℕ) → b ≡ (a ++ n ∷ []) ++ c → a ≡ [] → b ++ d ≡ n ∷ c ++ d
added_sizes a b c d n e z = ap (λ b. b ++ d) e ∙ ap (λ a. ((a ++ n ∷ []) ++ c) ++ d) z

module _ (heap : Heap) (count offset : ℕ) (name : List ℕ) (size : ℕ) (members : List Member) (met : List Found) (e : members_at count offset heap ≡ Some (members, met)) where
  pub sizes-some : (index : ℕ) (old : KeyValueRecord) → Some index ≡ index_named name members →
      value_record_at heap (offset_in (held heap offset) index) ≡ Some old →
      cond (stays heap old.fields size) [] (data_sizes size) ≡ set_sizes heap count offset name size
  unfolding set_sizes
  sizes-some index old p r =
      sym (ap (λ o. sizes_by heap count offset (length name) size (option_and_then (λ (read : List Member × List Found). index_named name read.0) o)) e
      ∙ ap (sizes_by heap count offset (length name) size) (sym p) ∙ ap (new_data_sizes heap size) r)

  pub sizes-none : None ≡ index_named name members → sizes_by heap count offset (length name) size None ≡ set_sizes heap count offset name size
  unfolding set_sizes
  sizes-none p =
      sym (ap (λ o. sizes_by heap count offset (length name) size (option_and_then (λ (read : List Member × List Found). index_named name read.0) o)) e
      ∙ ap (sizes_by heap count offset (length name) size) (sym p))

pub sizes-there : (heap : Heap) (count offset : ℕ) (name : List ℕ) (size : ℕ) (members : List Member) (met : List Found) (index cell : ℕ) →
    members_at count offset heap ≡ Some (members, met) → Some index ≡ index_named name members → cell ≡ offset_in (held heap offset) index
    → new_data_sizes heap size (value_record_at heap cell) ≡ set_sizes heap count offset name size
unfolding set_sizes
sizes-there heap count offset name size members met index cell e p c =
    ap (λ o. new_data_sizes heap size (value_record_at heap o)) c
    ∙ sym (ap (λ o. sizes_by heap count offset (length name) size (option_and_then (λ (read : List Member × List Found). index_named name read.0) o))
    e ∙ ap (sizes_by heap count offset (length name) size) (sym p))
