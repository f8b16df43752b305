-- Room that was made by a cell that was carved and freed again: the keys stand as they stood.
use Rattle.std.proofs.Common.{◌≡◌, ℕ, ◌+◌, ◌-◌, ◌≤◌, ◌<◌, ◌%◌, Some, List, [], ◌∷◌, ◌++◌, length, replicate, take, drop, refl, sym, ap, ◌∙◌, subst, arith}
use Rattle.std.specs.Prelude.{Result, Ok, Err, OnOk, Contains, get_or, min}
use Rattle.std.proofs.lemmas.List.{append_assoc, length-append, length-replicate, length-take}
use Rattle.std.proofs.lemmas.Option.{same_Some}
use Rattle.std.proofs.Math.Seq.{get_or-append_seam}
use Rattle.reg_arena.specs.declared.Cell.{Cell}
use Rattle.reg_arena.specs.Arena.{Bins}
use Rattle.reg_arena.specs.Cells.{cell_at}
use Rattle.reg_arena.specs.EachCell.{GrowsFor}
use Rattle.reg_arena.specs.Frees.{Frees, IsFreePiece}
use Rattle.reg_arena.specs.NewCells.{used, unused}
use Rattle.reg_arena.proofs.Tiling.CellLayout.{allocated-some}
use Rattle.reg_shape.specs.Internal.Grafts.{IsShape}
use Rattle.reg_shape.specs.Internal.Shapes.{tree_of}
use Rattle.reg_security.specs.Rings.{DescriptorCells, Finds}
use Rattle.reg_tree.specs.TreeKeys.{Keys, tree_in}
use Rattle.reg_tree.specs.MoreRoom.{HasFit, MakesRoom}
use Rattle.reg_tree.specs.Internal.TreeInvariant.{TreeInvariant, HasShortClasses}
use Rattle.reg_tree.proofs.Invariant.KeyOfTree.{spelt_of, spelt_is}
use Rattle.reg_tree.proofs.Invariant.NodeLemmas.{seen_as}

-- ---- the free cell

pub in-middle : (front : List Cell) (cell : Cell) (rest : List Cell) → Contains (front ++ cell ∷ rest) cell
in-middle front cell rest = (length front, simp length-append (omega arith), get_or-append_seam front cell rest cell)

-- a free piece doesn't end before it begins
piece : (lo hi : ℕ) (cells : List Cell) → IsFreePiece lo hi cells → lo ≤ hi
piece lo hi [] e = omega (arith, e)
piece lo hi (cell ∷ []) e = let l = e.1 in omega (arith, l)
piece lo hi (cell ∷ other ∷ cells) e = absurd e

-- a cell of zeros that was freed became a free cell of its size at least
pub freed-fits : (mid new : List ℕ) (at size : ℕ) → 0 < size → size % 8 ≡ 0 → cell_at mid at ≡ Some (replicate (size - 4) 0) → Frees mid new at → HasFit new size
freed-fits mid new at size some eights zeros f = record {
  cells = f.before ++ unused f.lo (f.hi - f.lo) ∷ f.after;
  cells_are = f.now;
  cell = unused f.lo (f.hi - f.lo);
  among = in-middle f.before (unused f.lo (f.hi - f.lo)) f.after;
  free = refl;
  fits = omega (arith, left, right, large);
}
  where
    left : f.lo ≤ at
    left = piece f.lo at f.left f.left_is

    right : at + f.size ≤ f.hi
    right = piece (at + f.size) f.hi f.right f.right_is

    place : f.before ++ ((f.left ++ used at f.size ∷ f.right) ++ f.after) ≡ (f.before ++ f.left) ++ used at f.size ∷ (f.right ++ f.after)
    place = simp append_assoc refl

    content : cell_at mid at ≡ Some (take (f.size - 4) (drop (at + 4) mid))
    content =
        allocated-some mid ((f.before ++ f.left) ++ used at f.size ∷ (f.right ++ f.after)) (used at f.size) (f.was ∙ ap Some place)
        (in-middle (f.before ++ f.left) (used at f.size) (f.right ++ f.after)) refl

    long : size - 4 ≡ min (f.size - 4) (length (drop (at + 4) mid))
    long =
        sym (length-replicate (size - 4) 0) ∙ (ap (λ (xs : List ℕ). length xs) (same_Some _ _ (sym zeros ∙ content))
        ∙ length-take (f.size - 4) (drop (at + 4) mid))

    large : size ≤ f.size
    large = omega (arith, long, some, eights)

-- the offset of the one cell that a carve put out
pub first-offset : (out items offsets : List ℕ) (at cell : ℕ) → items ≡ [] → out ≡ items ++ offsets → offsets ≡ at ∷ [] → cell ≡ get_or out 0 cell → get_or offsets 0 0 ≡ cell
first-offset out items offsets at cell none all one first =
    ap (λ (xs : List ℕ). get_or xs 0 0) one
    ∙ sym (first ∙ ap (λ (xs : List ℕ). get_or xs 0 cell) (all ∙ (ap (λ (xs : List ℕ). xs ++ offsets) none ∙ one)))

-- ---- the keys

module _ (old new : Bins) (root : ℕ) {table : DescriptorCells} (holds : TreeInvariant old.bytes root table) (same : cell_at new.bytes ≡ cell_at old.bytes) where
  shape-still : IsShape (cell_at new.bytes) root holds.keys holds.ring []
  shape-still = subst (λ heap. IsShape heap root holds.keys holds.ring []) (sym same) holds.shape

  tree-still : tree_in new.bytes root ≡ tree_in old.bytes root
  tree-still =
      spelt_of new.bytes root holds.keys holds.ring shape-still
      ∙ (ap (λ heap. tree_of heap holds.keys) same ∙ sym (spelt_is old.bytes root holds))

  pub holds-still : TreeInvariant new.bytes root table
  holds-still = record {
    keys = holds.keys;
    ring = holds.ring;
    shape = shape-still;
    finds = subst (λ heap. Finds table heap holds.ring) (sym same) holds.finds;
    classes = subst (λ tree. HasShortClasses tree) (sym tree-still) holds.classes;
  }

  module _ (now : Keys) (view_is : seen_as old root ≡ now) {E : Type 0} (result : Result (Unit {0}) E) (size : ℕ) where
    pub makes-room : OnOk result (HasFit new.bytes size) → OnOk result (GrowsFor old.bytes new.bytes (size ∷ [])) →
        OnOk result (length old.bytes ≤ length new.bytes) → OnOk result (MakesRoom now (seen_as new root) size)
    makes-room fits growth kept = by result fits growth kept
      where
        made : HasFit new.bytes size → GrowsFor old.bytes new.bytes (size ∷ []) → length old.bytes ≤ length new.bytes → MakesRoom (seen_as old root) (seen_as new root) size
        made fits growth kept = record { cells = same; root = refl; tree = tree-still; fits = fits; growth = growth; kept = kept }

        by : (r : Result (Unit {0}) E) → OnOk r (HasFit new.bytes size) → OnOk r (GrowsFor old.bytes new.bytes (size ∷ [])) →
            OnOk r (length old.bytes ≤ length new.bytes) → OnOk r (MakesRoom now (seen_as new root) size)
        by (Ok x) f g k = subst (λ keys. MakesRoom keys (seen_as new root) size) view_is (made f g k)
        by (Err e) f g k = tt
