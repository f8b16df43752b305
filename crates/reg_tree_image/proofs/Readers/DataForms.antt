-- A value's data, by what its size says: in the record, in one cell, or behind a big data record.
use Rattle.std.proofs.Common.{◌≡◌, ℕ, suc, zero, ◌-◌, ◌<◌, ◌≤◌, ◌==◌, ◌||◌, nat_le, Bool, true, false, Result, Ok, List, take, refl, sym, ap, ◌∙◌, subst, arith}
use Rattle.std.proofs.lemmas.Bool.{false≢true}
use Rattle.std.proofs.lemmas.Bool.Decides.{nat_tests}
use Rattle.byteorder.specs.Endian.{little_bytes}
use Rattle.reg_heap.specs.Heaps.{Heap}
use Rattle.reg_records.specs.BigData.{segment_size, is_inline}
use Rattle.reg_tree_image.specs.declared.LoadFault.{LoadFault}
use Rattle.reg_tree_image.specs.declared.LoadFault.TheVariants.{Record}
use Rattle.reg_tree_image.specs.declared.table.CellState.{CellState}
use Rattle.reg_tree_image.specs.WalkSteps.{Seen, Step, onward, give, check}
use Rattle.reg_tree_image.specs.LoadingWalk.{far_from, big_from, data_by}
use Rattle.reg_tree_image.specs.Internal.ReaderOutcomes.{Gives, Follows}
use Rattle.reg_tree_image.proofs.Readers.ReachedSteps.{reaches-same, reaches-follows, gives-follows}

less : (a b : ℕ) → a ≤ b → nat_le a b ≡ true
less a b l = grind (arith, nat_tests)

above : (a b : ℕ) → b < a → nat_le a b ≡ false
above a b l = grind (arith, nat_tests)

module _ (heap : Heap) (minor : ℕ) (path : List ℕ) (size offset : ℕ) where
  far-by : (single : Bool) → size ≤ 1048576 → single ≡ (nat_le size segment_size || (minor == 3)) → (seen : Seen) →
      data_by heap minor path false size offset seen ≡ far_from heap path single size offset seen
  far-by single l e seen = let b = less size 1048576 l in rw (b, ← e) refl

-- the field's first bytes
pub inline-read : (heap : Heap) (minor : ℕ) (path : List ℕ) (size offset : ℕ) (field : List ℕ) → field ≡ little_bytes 4 offset →
    size - 2147483648 ≤ 4 → (seen : Seen) →
    data_by heap minor path true size offset seen ≡ Ok (take (size - 2147483648) field, seen)
inline-read heap minor path size offset field e l seen =
    let bytes : Step (List ℕ) = give (take (size - 2147483648) (little_bytes 4 offset)) in
    ap (λ b. onward (λ _. bytes) (check Record b seen)) (less (size - 2147483648) 4 l)
    ∙ ap (λ field. Ok (take (size - 2147483648) field, seen)) (sym e)

pub inline-follows : {X : Type 0} (heap : Heap) (minor : ℕ) (path : List ℕ) (size offset : ℕ) (view : X → List ℕ) (old : List CellState)
    (r : Result X LoadFault) → 2147483648 ≤ size →
    Gives view (data_by heap minor path true size offset) r →
    Follows heap path view (data_by heap minor path (is_inline size) size offset) old old r
inline-follows heap minor path size offset view old r l g =
    subst (λ b. Follows heap path view (data_by heap minor path b size offset) old old r) (sym (less 2147483648 size l))
    (gives-follows heap path view (data_by heap minor path true size offset) old r g)

module _ {X : Type 0} (heap : Heap) (minor : ℕ) (path : List ℕ) (size offset : ℕ) (view : X → List ℕ) (old new : List CellState)
    (r : Result X LoadFault) where
  pub far-follows : (single : Bool) → size < 2147483648 → size ≤ 1048576 → single ≡ (nat_le size segment_size || (minor == 3)) →
      Follows heap path view (far_from heap path single size offset) old new r →
      Follows heap path view (data_by heap minor path (is_inline size) size offset) old new r
  far-follows single s l e f =
      subst (λ b. Follows heap path view (data_by heap minor path b size offset) old new r) (sym (above 2147483648 size s))
      (reaches-follows heap path view (data_by heap minor path false size offset) (far_from heap path single size offset) old old new r
      (reaches-same heap path (data_by heap minor path false size offset) (far_from heap path single size offset) old
      (far-by heap minor path size offset single l e)) f)

-- what isn't in one cell isn't empty
big-not-empty : {X : Type 0} (heap : Heap) (path : List ℕ) (size offset : ℕ) (three : Bool) (view : X → List ℕ) (old new : List CellState)
    (r : Result X LoadFault) →
    false ≡ (nat_le size segment_size || three) → Follows heap path view (big_from heap path size offset) old new r →
    Follows heap path view (far_from heap path false size offset) old new r
unfolding segment_size
big-not-empty heap path zero offset three view old new r e f = absurd (false≢true e)
big-not-empty heap path (suc n) offset three view old new r e f = f

pub big-follows : {X : Type 0} (heap : Heap) (minor : ℕ) (path : List ℕ) (size offset : ℕ) (view : X → List ℕ) (old new : List CellState)
    (r : Result X LoadFault) → size < 2147483648 → size ≤ 1048576 →
    false ≡ (nat_le size segment_size || (minor == 3)) → Follows heap path view (big_from heap path size offset) old new r →
    Follows heap path view (data_by heap minor path (is_inline size) size offset) old new r
big-follows heap minor path size offset view old new r s l e f =
    far-follows heap minor path size offset view old new r false s l e (big-not-empty heap path size offset (minor == 3) view old new r e f)
