-- The image of a whole hive loads.
use Rattle.std.proofs.Common.{◌≡◌, ℕ, ◌≤◌, ◌%◌, IsSome, is_some, Some, Ok, List, length, refl, sym, ap, ◌∙◌, arith}
use Rattle.std.proofs.lemmas.Option.{same_Some}
use Rattle.reg_heap.specs.Paths.{Tree}
use Rattle.reg_arena.specs.Cells.{cell_at}
use Rattle.reg_arena.proofs.Tiling.ArenaInvariant.{AreBins-pages}
use Rattle.reg_arena.proofs.Tiling.CellLayout.{in_bins}
use Rattle.reg_shape.specs.Spelt.{spelt}
use Rattle.reg_shape.specs.Whole.{Whole}
use Rattle.reg_shape.specs.Internal.Shapes.{tree_of}
use Rattle.reg_shape.proofs.Walking.WalkRefinement.{look-open}
use Rattle.reg_shape.proofs.Wholeness.AllocatedCells.{spelt-in}
use Rattle.reg_tree_image.specs.Images.{image_of, loaded}
use Rattle.reg_tree_image.proofs.NamedCells.CellContents.{content-is}
use Rattle.reg_tree.proofs.Invariant.ShapesOfWholeHives.{branch, its_keys, shape-of-whole}
use Rattle.reg_tree_image.proofs.CleanWalks.CleanImages.{image-loads}

module _ (bins : List ℕ) (root : ℕ) (w : Whole bins root) where
  pub spelt-is : spelt (length w.cells) (cell_at bins) root ≡ Some (tree_of (cell_at bins) (its_keys (cell_at bins) (length w.cells) root w.whole))
  spelt-is = spelt-in bins root (its_keys (cell_at bins) (length w.cells) root w.whole) w.whole.ring w.cells w.cells_are
      (shape-of-whole (cell_at bins) (length w.cells) root w.whole)

  pub spells : IsSome (spelt (length w.cells) (cell_at bins) root)
  spells = ap is_some spelt-is

  pub pages : length bins % 4096 ≡ 0
  pages = let l = in_bins bins w.cells w.cells_are in AreBins-pages bins 0 l.0 refl l.1

  pub whole-loads : length bins ≤ 268435456 → (moment sequence : ℕ) (tree : Tree) → spelt (length w.cells) (cell_at bins) root ≡ Some tree →
      loaded (image_of bins root moment sequence) ≡ Ok tree
  whole-loads few moment sequence tree e =
      let l = look-open (cell_at bins) root (branch (cell_at bins) (length w.cells) root w.whole).node (branch (cell_at bins) (length w.cells) root w.whole).seen.reads in
      let held = content-is bins root l.content l.here in
      image-loads bins root moment sequence (let a = held.eight in let b = held.within in omega (arith, a, b, few)) few
      (let a = held.eight in let b = held.within in omega (arith, a, b)) pages w.cells (its_keys (cell_at bins) (length w.cells) root w.whole) w.whole.ring w.cells_are
      (shape-of-whole (cell_at bins) (length w.cells) root w.whole)
      ∙ ap Ok (same_Some _ _ (sym spelt-is ∙ e))
