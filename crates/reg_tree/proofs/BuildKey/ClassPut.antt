-- A class written into its cell.
use Rattle.std.proofs.Common.{◌≡◌, ◌≢◌, ℕ, ◌+◌, ◌==◌, Bool, true, false, Option, Some, List, ◌++◌, length, drop, if◌then◌else◌, refl, sym, ap, ◌∙◌, subst, arith}
use Rattle.std.proofs.lemmas.Bool.{eqb-true}
use Rattle.reg_heap.specs.ByteWords.{splice}
use Rattle.reg_heap.specs.Heaps.{Heap}
use Rattle.reg_records.specs.RecordCells.{held}
use Rattle.reg_shape.proofs.Wholeness.FewerNumbers.{same-number}
use Rattle.reg_tree.specs.Internal.KeyBuilding.{PutsClass}

none-more : (n : ℕ) → 0 + n ≡ n
none-more n = omega arith

module _ (h k : Heap) (c : ℕ) (class : List ℕ) (written : (z : ℕ) → k z ≡ (if z == c then Some (splice 0 class (held h c)) else h z)) where
  here : k c ≡ Some (class ++ drop (length class) (held h c))
  unfolding splice
  here =
      written c
      ∙ (ap (λ b. if b then Some (splice 0 class (held h c)) else h c) (same-number c)
      ∙ ap (λ n. Some (class ++ drop n (held h c))) (none-more (length class)))

  others : (z : ℕ) → z ≢ c → k z ≡ h z
  others z n = written z ∙ by (z == c) refl
    where
      by : (b : Bool) → (z == c) ≡ b → (if b then Some (splice 0 class (held h c)) else h z) ≡ h z
      by true e = absurd (n (eqb-true z c e))
      by false e = refl

  pub puts : (cell : Option ℕ) → cell ≡ Some c → PutsClass h k cell class
  puts cell e = subst (λ o. PutsClass h k o class) (sym e) (here, others)
