-- Spare cells that stay where others are taken.
use Rattle.std.proofs.Common.{◌≡◌, ℕ, ◌+◌, ◌-◌, ◌≤◌, ◌<◌, Option, Some, None, IsSome, List, [], ◌∷◌, ◌++◌, length, sym, ap, ◌∙◌, subst, arith}
use Rattle.reg_arena.proofs.FreeList.ThreadLinks.{times-append}
use Rattle.reg_heap.specs.Heaps.{Heap}
use Rattle.reg_heap.specs.Kinds.{times}
use Rattle.reg_index.specs.declared.IndexCells.{IndexCells}
use Rattle.reg_index.specs.Subkeys.{IsReady, IsReadyCell, each_of, taken}
use Rattle.reg_index.proofs.ReadyCells.{each-count}
use Rattle.reg_records.proofs.KeyNodeCodec.{key_at-same}
use Rattle.reg_shape.proofs.Frame.WrittenFrame.{same-held}
use Rattle.reg_tree.specs.CellSizes.{first_cells}
use Rattle.reg_tree.specs.Internal.SpareCells.{HaveSizes, AreReady}
use Rattle.reg_tree.proofs.Invariant.UntouchedCells.{times-one}

some-times : (x : ℕ) (before after : List ℕ) → 0 < times x (before ++ x ∷ after)
some-times x before after = let t = times-append x before (x ∷ after) in let one = times-one x in omega (arith, t, one)

cell-same : (h k : Heap) (plan cell : Option ℕ) → ((z : ℕ) → 0 < times z (taken cell) → k z ≡ h z) → IsReadyCell h plan cell → IsReadyCell k plan cell
cell-same h k None None c r = r
cell-same h k None (Some cell) c r = absurd r
cell-same h k (Some size) None c r = absurd r
cell-same h k (Some size) (Some cell) c r =
    let same = c cell (some-times cell [] []) in (
      subst IsSome (sym same) r.0,
      ap (λ (bytes : List ℕ). length bytes + 4) (same-held h k cell same) ∙ r.1,
      key_at-same h k cell same ∙ r.2,
    )

-- cells that are ready stay so, where they hold what they held
pub ready-same : (h k : Heap) (plan cells : IndexCells) → ((z : ℕ) → 0 < times z (each_of cells) → k z ≡ h z) → IsReady h plan cells → IsReady k plan cells
ready-same h k plan cells c r = record {
  list = cell-same h k plan.list cells.list (λ z l. c z (let e = each-count cells z in omega (arith, e, l))) r.list;
  second = cell-same h k plan.second cells.second (λ z l. c z (let e = each-count cells z in omega (arith, e, l))) r.second;
  root = cell-same h k plan.root cells.root (λ z l. c z (let e = each-count cells z in omega (arith, e, l))) r.root;
}

pub sizes-kept : (h k : Heap) (cells sizes : List ℕ) → ((z : ℕ) → 0 < times z cells → k z ≡ h z) → HaveSizes h cells sizes → HaveSizes k cells sizes
sizes-kept h k [] [] c r = tt
sizes-kept h k [] (size ∷ sizes) c r = absurd r
sizes-kept h k (cell ∷ cells) [] c r = absurd r
sizes-kept h k (cell ∷ cells) (size ∷ sizes) c r = (
  (let same = c cell (some-times cell [] cells) in
      record { exists = subst IsSome (sym same) r.0.exists; enough = subst (λ (bytes : List ℕ). size - 4 ≤ length bytes) (sym (same-held h k cell same)) r.0.enough }),
  sizes-kept h k cells sizes (λ z l. c z (omega (arith, l))) r.1,
)

pub ready-kept : (h k : Heap) (last : List ℕ) (plan : IndexCells) (owns : List (List ℕ)) (spare : List ℕ) → ((z : ℕ) → 0 < times z spare → k z ≡ h z) →
    AreReady h last plan owns spare → AreReady k last plan owns spare
ready-kept h k last plan [] spare c r = r
ready-kept h k last plan (sizes ∷ more) spare c r = record {
  cells = r.cells;
  own = r.own;
  left = r.left;
  spare_is = r.spare_is;
  ready = ready-same h k plan r.cells (λ z l. c z (there z (let t = parts z in omega (arith, t, l)))) r.ready;
  room = sizes-kept h k r.own sizes (λ z l. c z (there z (let t = parts z in omega (arith, t, l)))) r.room;
  rest = ready-kept h k last first_cells more r.left (λ z l. c z (there z (let t = parts z in omega (arith, t, l)))) r.rest;
}
  where
    parts : (z : ℕ) → times z (each_of r.cells ++ (r.own ++ r.left)) ≡ times z (each_of r.cells) + (times z r.own + times z r.left)
    parts z = let a = times-append z (each_of r.cells) (r.own ++ r.left) in let b = times-append z r.own r.left in omega (arith, a, b)

    there : (z : ℕ) → 0 < times z (each_of r.cells ++ (r.own ++ r.left)) → 0 < times z spare
    there z l = subst (λ s. 0 < times z s) (sym r.spare_is) l

-- the cells that are left stand among the spare ones
pub left-spare : (h : Heap) (last : List ℕ) (plan : IndexCells) (owns : List (List ℕ)) (spare : List ℕ) → AreReady h last plan owns spare →
    (z : ℕ) → 0 < times z last → 0 < times z spare
left-spare h last plan [] spare r z l = subst (λ s. 0 < times z s) (sym r) l
left-spare h last plan (sizes ∷ more) spare r z l =
    let rest = left-spare h last first_cells more r.left r.rest z l in
    let a = times-append z (each_of r.cells) (r.own ++ r.left) in
    let b = times-append z r.own r.left in
    subst (λ s. 0 < times z s) (sym r.spare_is) (omega (arith, rest, a, b))
