-- Cells that are all met: those that a walk named, where the table has none that wasn't named.
use Rattle.std.proofs.Common.{◌≡◌, ℕ, zero, suc, ◌+◌, ◌==◌, ◌%◌, ◌/◌, Bool, true, false, cond, List, [], ◌∷◌, get_or, refl, sym, ap, ◌∙◌, subst, arith}
use Rattle.std.specs.Prelude.{IsSome, is_some}
use Rattle.std.specs.List.{AllByRecursion}
use Rattle.std.proofs.lemmas.Bool.{eqb-true}
use Rattle.std.proofs.lemmas.List.Sums.{sum_by-cons}
use Rattle.reg_heap.specs.Heaps.{Heap}
use Rattle.reg_heap.specs.Kinds.{Found, is_security, is_own, is_shared, owned, shared}
use Rattle.reg_shape.specs.Whole.{Meets}
use Rattle.reg_tree_image.specs.declared.table.CellState.{CellState}
use Rattle.reg_tree_image.specs.declared.table.CellState.TheVariants.{Unallocated}
use Rattle.reg_tree_image.specs.Internal.CellStates.{IsTable, state_by, state_in, not_yet, unnamed}

-- what is met is allocated
pub meets-there : (heap : Heap) (found : List Found) (offset : ℕ) → AllByRecursion (λ (f : Found). IsSome (heap f.offset)) found → Meets found offset → IsSome (heap offset)
meets-there heap [] offset a m = absurd (omega (arith, m))
meets-there heap (f ∷ found) offset a m = by (λ (none : is_own offset f + is_shared offset f ≡ 0). meets-there heap found offset a.1 (omega (arith, m, none))) (f.offset == offset) refl
  where
    neither : (b : Bool) → ◌≡◌ {A = ℕ} (cond b 0 (cond false 1 0) + cond b (cond false 1 0) 0) 0
    neither true = refl
    neither false = refl

    by : (is_own offset f + is_shared offset f ≡ 0 → IsSome (heap offset)) → (t : Bool) → (f.offset == offset) ≡ t → IsSome (heap offset)
    by later true e = subst (λ (o : ℕ). IsSome (heap o)) (eqb-true f.offset offset e) a.0
    by later false e =
        later (ap (λ (t : Bool). cond (is_security f.kind) 0 (cond t 1 0) + cond (is_security f.kind) (cond t 1 0) 0) e ∙ neither (is_security f.kind))

none-at : (states : List CellState) (i : ℕ) → unnamed states ≡ 0 → not_yet (get_or states i Unallocated) ≡ 0
none-at [] i e = refl
none-at (s ∷ states) zero e = let c = sum_by-cons not_yet s states in omega (arith, c, e)
none-at (s ∷ states) (suc i) e = none-at states i (let c = sum_by-cons not_yet s states in omega (arith, c, e))

none-in : (states : List CellState) (offset : ℕ) → unnamed states ≡ 0 → not_yet (state_in states offset) ≡ 0
none-in states offset e = by (offset % 8 == 0)
  where
    by : (b : Bool) → not_yet (cond b (get_or states (offset / 8) Unallocated) Unallocated) ≡ 0
    by true = none-at states (offset / 8) e
    by false = refl

-- where no cell is left that wasn't named, each that is allocated is met
pub all-met : (heap : Heap) (found : List Found) (states : List CellState) (offset : ℕ) → IsTable heap found [] states → unnamed states ≡ 0 → IsSome (heap offset) → Meets found offset
all-met heap found states offset t e there = by (owned offset found) refl (shared offset found) refl
  where
    state : not_yet (state_by (is_some (heap offset)) true (owned offset found == 0) (shared offset found == 0)) ≡ 0
    state = ap not_yet (sym (t.each offset)) ∙ none-in states offset e

    by : (n : ℕ) → owned offset found ≡ n → (m : ℕ) → shared offset found ≡ m → Meets found offset
    by zero o zero s =
        let one : ◌≡◌ {A = ℕ} 1 0 =
        sym (ap (λ (b : Bool). not_yet (state_by b true (owned offset found == 0) (shared offset found == 0))) there
        ∙ (ap (λ (n : ℕ). not_yet (state_by true true (n == 0) (shared offset found == 0))) o ∙ ap (λ (n : ℕ). not_yet (state_by true true true (n == 0))) s)) ∙ state in
        absurd (omega (arith, one))
    by zero o (suc m) s = omega (arith, s)
    by (suc n) o m s = omega (arith, o)
