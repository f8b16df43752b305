-- The cells that come where a key is built, and how the bins grow for them.
use Rattle.std.proofs.Common.{◌≡◌, ℕ, ◌+◌, ◌-◌, ◌≤◌, ◌==◌, ◌&&◌, if◌then◌else◌, Bool, true, false, Option, Some, None, is_some, List, [], ◌∷◌, ◌++◌, length, take, drop}
use Rattle.std.proofs.Common.{refl, sym, ap, ◌∙◌, subst, arith, length-take, length-drop}
use Rattle.std.specs.Prelude.{unwrap_or}
use Rattle.reg_heap.specs.Heaps.{Heap}
use Rattle.reg_heap.specs.Paths.{Path, Tree}
use Rattle.reg_arena.specs.declared.Cell.{Cell}
use Rattle.reg_arena.specs.Arena.{Bins, heap_of}
use Rattle.reg_arena.specs.Cells.{cells_of, cell_at, content_in, content_of}
use Rattle.reg_arena.specs.EachCell.{GrowsFor}
use Rattle.reg_arena.specs.NewCells.{cell_size}
use Rattle.reg_shape.proofs.Wholeness.ShapeRecords.{is-allocated}
use Rattle.reg_values.specs.ValueLists.{KeepsSizes, Makes}
use Rattle.reg_index.specs.Subkeys.{KeepsCells}
use Rattle.reg_index.specs.declared.Place.{Place}
use Rattle.reg_security.specs.Rings.{DescriptorCells}
use Rattle.reg_tree.specs.declared.build.NewKey.{NewKey}
use Rattle.reg_tree.specs.declared.node.Node.{Node}
use Rattle.reg_tree.specs.BuiltKeys.{TakesCells, build_sizes, built_key, class_sizes}
use Rattle.reg_tree.specs.CellSizes.{made_sizes, planned_sizes, security_sizes}
use Rattle.reg_tree.specs.TreeKeys.{Keys, tree_in}
use Rattle.reg_tree.specs.Internal.DescriptorChange.{IsExpected}
use Rattle.reg_tree.specs.Internal.KeyBuilding.{IsCarvedForClass}
use Rattle.reg_tree.specs.Internal.KeyNodeChanges.{LeavesOthers, SameSizes}
use Rattle.reg_tree.specs.Internal.TreeInvariant.{IsHere, TreeInvariant}
use Rattle.reg_tree.proofs.DescribeKey.SecurityCarved.{makes-none, makes-one}
use Rattle.reg_tree.proofs.InsertKey.CreatePathMade.{growth-then}
use Rattle.reg_tree.proofs.InsertKey.DescribedLast.{security_is}
use Rattle.reg_tree.proofs.InsertKey.MadeCells.{kept_sizes, makes_after, makes-leaving, same-kept, sizes-then, stay-keeping}
use Rattle.reg_tree.proofs.Invariant.NodeLemmas.{seen_as}

-- ---- cells of the same sizes

part-long : (old new : List ℕ) (n k : ℕ) → length new ≡ length old → length (take n (drop k new)) ≡ length (take n (drop k old))
part-long old new n k long =
    let a = length-take n (drop k new) in
    let b = length-take n (drop k old) in
    let c = length-drop k new in
    let d = length-drop k old in
    omega (arith, a, b, c, d, long)

content-sizes : (old new : List ℕ) (cells : List Cell) (offset : ℕ) → length new ≡ length old →
    (is_some (content_in new cells offset) ≡ is_some (content_in old cells offset))
    × (length (unwrap_or (content_in new cells offset) []) ≡ length (unwrap_or (content_in old cells offset) []))
content-sizes old new [] offset long = (refl, refl)
content-sizes old new (cell ∷ cells) offset long = by ((cell.offset == offset) && cell.allocated) (content-sizes old new cells offset long)
  where
    part : List ℕ → List ℕ
    part bytes = take (cell.size - 4) (drop (cell.offset + 4) bytes)

    by : (b : Bool) → (is_some (content_in new cells offset) ≡ is_some (content_in old cells offset))
        × (length (unwrap_or (content_in new cells offset) []) ≡ length (unwrap_or (content_in old cells offset) [])) →
        (is_some (if b then Some (part new) else content_in new cells offset) ≡ is_some (if b then Some (part old) else content_in old cells offset))
        × (length (unwrap_or (if b then Some (part new) else content_in new cells offset) [])
        ≡ length (unwrap_or (if b then Some (part old) else content_in old cells offset) []))
    by true rest = (refl, part-long old new (cell.size - 4) (cell.offset + 4) long)
    by false rest = rest

-- where the cells stand as they did, each holds as many bytes
pub same-sizes : (old new : List ℕ) → cells_of new ≡ cells_of old → length new ≡ length old → SameSizes (cell_at old) (cell_at new)
unfolding cell_at
same-sizes old new same long offset = by (cells_of old) (cells_of new) same
  where
    by : (a b : Option (List Cell)) → b ≡ a → (is_some (content_of new b offset) ≡ is_some (content_of old a offset))
        × (length (unwrap_or (content_of new b offset) []) ≡ length (unwrap_or (content_of old a offset) []))
    by None b e = rw e (refl, refl)
    by (Some cells) b e = rw e (content-sizes old new cells offset long)

-- each cell that stayed has its size yet
stay-after : (h k j : Heap) → KeepsSizes h k → SameSizes k j → KeepsSizes h j
stay-after h k j stay sizes z there now = (sizes z).1 ∙ stay z there (sym (sizes z).0 ∙ now)

-- ---- a class's cell

long-class : (class : List ℕ) → 1 ≤ length class → cell_size (length class) ∷ [] ≡ class_sizes class
long-class [] l = absurd (omega (arith, l))
long-class (b ∷ bs) l = refl

pub class-makes : (old mid new : Bins) (class : List ℕ) (cell : Option ℕ) → IsCarvedForClass old mid class cell → cells_of new.bytes ≡ cells_of mid.bytes →
    length new.bytes ≡ length mid.bytes → Makes (heap_of old) (heap_of new) (class_sizes class)
class-makes old mid new class cell c same long = by cell c
  where
    sizes : SameSizes (heap_of mid) (heap_of new)
    sizes = same-sizes mid.bytes new.bytes same long

    by : (cell : Option ℕ) → IsCarvedForClass old mid class cell → Makes (heap_of old) (heap_of new) (class_sizes class)
    by None c =
        subst (λ class. Makes (heap_of old) (heap_of new) (class_sizes class)) (sym c.1)
        (makes-none (heap_of old) (heap_of new) (subst (λ (b : Bins). KeepsCells (heap_of b) (heap_of new)) c.0 (same-kept (heap_of mid) (heap_of new) sizes)))
    by (Some z) c =
        subst (Makes (heap_of old) (heap_of new)) (long-class class c.0)
        (makes_after (heap_of old) (heap_of mid) (heap_of new) _
        (makes-one (heap_of old) (heap_of mid) (heap_of mid) z _ [] c.1 c.2 (λ x there. (there, refl)) (λ x there none. there) refl) sizes)

-- each cell that was there has its size
pub class-stays : (old mid new : Bins) (class : List ℕ) (cell : Option ℕ) → IsCarvedForClass old mid class cell → cells_of new.bytes ≡ cells_of mid.bytes →
    length new.bytes ≡ length mid.bytes → KeepsSizes (heap_of old) (heap_of new)
class-stays old mid new class cell c same long = by cell c
  where
    keeps : KeepsCells (heap_of mid) (heap_of new)
    keeps = same-kept (heap_of mid) (heap_of new) (same-sizes mid.bytes new.bytes same long)

    by : (cell : Option ℕ) → IsCarvedForClass old mid class cell → KeepsSizes (heap_of old) (heap_of new)
    by None c = subst (λ (b : Bins). KeepsSizes (heap_of b) (heap_of new)) c.0 (λ z there now. (keeps z now).1)
    by (Some z) c = kept_sizes (heap_of old) (heap_of mid) (heap_of new) _ c.1 keeps

-- ---- a key's cells

module _ (bytes : List ℕ) (root : ℕ) (table after : DescriptorCells) (holds : TreeInvariant bytes root table) (old : Keys) (of : old.tree ≡ tree_in bytes root)
    (path : Path) (key : NewKey) (names : List (List ℕ)) (one : names ≡ key.name.now ∷ []) (size more : Option ℕ) (sizes : planned_sizes size ≡ class_sizes key.class.now)
    (x : IsExpected table after key.descriptor.now more) (place : Place) where
  -- of the sizes that were planned
  pub sizes-built : made_sizes old path names place ++ (planned_sizes size ++ planned_sizes more) ≡ build_sizes old path (built_key key) place
  sizes-built =
      ap (λ names. made_sizes old path names place ++ (planned_sizes size ++ planned_sizes more)) one
      ∙ (ap (λ class. made_sizes old path (key.name.now ∷ []) place ++ (class ++ planned_sizes more)) sizes
      ∙ ap (λ security. made_sizes old path (key.name.now ∷ []) place ++ (class_sizes key.class.now ++ security))
      (sym (ap (λ (tree : Tree). security_sizes tree key.descriptor.now) of ∙ security_is bytes root table after holds key.descriptor.now more x)))

-- they came where the key was made; then cells were written over twice, and it was described
module _ (bins mid next last new : Bins) (parent : Node) (t : IsHere bins.bytes parent.offset) (sizes : List ℕ) (makes : Makes (heap_of bins) (heap_of mid) sizes)
    (stay : KeepsSizes (heap_of bins) (heap_of mid)) (growth : GrowsFor bins.bytes mid.bytes sizes) (kept : length bins.bytes ≤ length mid.bytes)
    (cells_next : cells_of next.bytes ≡ cells_of mid.bytes) (long_next : length next.bytes ≡ length mid.bytes)
    (cells_then : cells_of last.bytes ≡ cells_of next.bytes) (long_then : length last.bytes ≡ length next.bytes)
    (keeps : KeepsCells (heap_of last) (heap_of new)) (leaves : LeavesOthers (heap_of last) (heap_of new) t.holds.ring)
    (long : length new.bytes ≡ length last.bytes) where
  same : SameSizes (heap_of mid) (heap_of last)
  same = sizes-then (heap_of mid) (heap_of next) (heap_of last) (same-sizes mid.bytes next.bytes cells_next long_next) (same-sizes next.bytes last.bytes cells_then long_then)

  pub takes-built : (root : ℕ) → TakesCells (seen_as bins root) (seen_as new root) sizes
  takes-built root = record {
    cells = makes-leaving (heap_of bins) (heap_of last) (heap_of new) t.holds.ring sizes (makes_after (heap_of bins) (heap_of mid) (heap_of last) sizes makes same) keeps leaves
        (λ z l. is-allocated (heap_of bins) z (let e = t.holds.shape.exact z in omega (arith, e, l)));
    stay = stay-keeping (heap_of bins) (heap_of last) (heap_of new) (stay-after (heap_of bins) (heap_of mid) (heap_of last) stay same) keeps;
    growth = growth-then bins.bytes mid.bytes new.bytes sizes (long ∙ (long_then ∙ long_next)) growth;
    kept = omega (arith, kept, long, long_then, long_next);
  }
