-- Bins that an arena took, and a table of which each cell was named.
use Rattle.std.proofs.Common.{◌≡◌, ℕ, ◌==◌, ◌&&◌, Bool, true, false, Option, List, [], ◌∷◌, length, unwrap_or, refl, sym, ap, ◌∙◌, subst, arith}
use Rattle.std.specs.Prelude.{◌↔◌}
use Rattle.std.specs.List.{list_all}
use Rattle.std.specs.Option.{option_and_then}
use Rattle.std.specs.FinMap.{get, empty}
use Rattle.std.proofs.lemmas.Bool.{eqb-true, eq-eqb, false≢true}
use Rattle.std.proofs.lemmas.List.Sums.{sum_by-cons}
use Rattle.reg_heap.specs.Heaps.{Heap}
use Rattle.reg_heap.specs.Paths.{Tree}
use Rattle.reg_arena.specs.declared.Cell.{Cell}
use Rattle.reg_arena.specs.Cells.{cells_of, cell_at}
use Rattle.reg_shape.specs.Spelt.{spelt}
use Rattle.reg_shape.specs.Whole.{IsWhole}
use Rattle.reg_tree.specs.TreeKeys.{IsWholeWith, tree_in as tree_at}
use Rattle.reg_tree_image.specs.declared.table.CellState.{CellState}
use Rattle.reg_tree_image.specs.Internal.CellStates.{not_yet, unnamed}

-- ---- other bytes with the same cells

module _ (old new : List ℕ) (cells : cells_of new ≡ cells_of old) (contents : (offset : ℕ) → cell_at new offset ≡ cell_at old offset) where
  same-heap : cell_at new ≡ cell_at old
  same-heap = λ i offset. contents offset i

  pub same-tree : (root : ℕ) → tree_at new root ≡ tree_at old root
  unfolding tree_at
  same-tree root =
      ap (λ (o : Option (List Cell)). unwrap_or (option_and_then (λ (cells : List Cell). spelt (length cells) (cell_at new) root) o) empty) cells
      ∙ ap (λ (heap : Heap). unwrap_or (option_and_then (λ (cells : List Cell). spelt (length cells) heap root) (cells_of old)) empty) same-heap

  record Carried (heap : Heap) (root : ℕ) (ring : List ℕ) : Type 0 where
    fuel : ℕ
    whole : IsWhole heap fuel root
    ring_is : whole.ring ≡ ring

  pub whole-carried : (root : ℕ) (ring : List ℕ) → IsWholeWith old root ring → IsWholeWith new root ring
  whole-carried root ring w =
      let c : Carried (cell_at new) root ring =
      subst (λ (heap : Heap). Carried heap root ring) (sym same-heap) (record { fuel = w.fuel; whole = w.whole; ring_is = w.ring_is }) in
      record {
        fuel = c.fuel;
        whole = c.whole;
        ring_is = c.ring_is;
        short = λ p r g. w.short p r (ap (λ (t : Tree). get t p) (sym (same-tree root)) ∙ g);
      }

-- ---- a table without a cell that wasn't named

both : (a b : Bool) → (a && b) ≡ true → (a ≡ true) × (b ≡ true)
both true b e = (refl, e)
both false b e = absurd (false≢true e)

settled-none : (states : List CellState) → list_all (λ s. not_yet s == 0) states ≡ true → unnamed states ≡ 0
settled-none [] e = refl
settled-none (s ∷ states) e =
    let b = both (not_yet s == 0) _ e in
    let one = eqb-true (not_yet s) 0 b.0 in
    let rest = settled-none states b.1 in
    let c = sum_by-cons not_yet s states in
    omega (arith, one, rest, c)

none-settled : (states : List CellState) → unnamed states ≡ 0 → list_all (λ s. not_yet s == 0) states ≡ true
none-settled [] e = refl
none-settled (s ∷ states) e =
    let c = sum_by-cons not_yet s states in
    let one = eq-eqb (not_yet s) 0 (omega (arith, c, e)) in
    ap (λ (b : Bool). b && list_all (λ s. not_yet s == 0) states) one ∙ none-settled states (omega (arith, c, e))

pub settled-iff : (states : List CellState) (b : Bool) → b ≡ list_all (λ s. not_yet s == 0) states → (b ≡ true) ↔ (unnamed states ≡ 0)
settled-iff states b e = (λ p. settled-none states (sym e ∙ p), λ n. e ∙ none-settled states n)

pub settled-as : (xs ys : List CellState) → xs ≡ ys → list_all (λ s. not_yet s == 0) xs ≡ list_all (λ s. not_yet s == 0) ys
settled-as xs ys e = ap (list_all (λ s. not_yet s == 0)) e
