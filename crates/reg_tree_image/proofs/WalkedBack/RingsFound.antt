-- What the second pass finds, and what the first one knows.
use Rattle.std.proofs.Common.{◌≡◌, ℕ, suc, ◌<◌, ◌==◌, false, Option, Some, None, Result, Ok, Err, List, [], map, get_or, refl, ap, ◌∙◌}
use Rattle.std.specs.Prelude.{IfOk, IfSome, MatchOption}
use Rattle.std.specs.List.{AllByRecursion}
use Rattle.std.specs.Option.{option_and_then}
use Rattle.reg_names.specs.declared.TheConstants.{PATH_LIMIT}
use Rattle.reg_arena.specs.declared.Cell.{Cell}
use Rattle.reg_arena.specs.Cells.{Bin, AreBins, cells_of_bins, cells_of, cell_at}
use Rattle.reg_arena.proofs.Tiling.CellLayout.{in_bins}
use Rattle.reg_shape.specs.Whole.{IsWritten, Whole}
use Rattle.reg_tree.specs.TreeKeys.{IsWholeWith, tree_in as tree_at}
use Rattle.reg_written.specs.ReadKeys.{security_in}
use Rattle.reg_written.specs.SecurityRings.{IsRingOf}
use Rattle.reg_tree_image.specs.declared.LoadFault.{LoadFault}
use Rattle.reg_tree_image.specs.declared.table.CellState.{CellState}
use Rattle.reg_tree_image.specs.WalkSteps.{Seen}
use Rattle.reg_tree_image.specs.LoadingWalk.{root_path, key_from}
use Rattle.reg_tree_image.specs.Images.{nothing, bins_walk, tree_in}
use Rattle.reg_tree_image.specs.Internal.CellStates.{IsTable, unnamed}
use Rattle.reg_tree_image.specs.Internal.CellScans.{IsScanned}
use Rattle.reg_tree_image.specs.Internal.KeysNamed.{key_offsets}
use Rattle.reg_tree_image.specs.Internal.WholeTests.{IsMet}
use Rattle.reg_tree_image.proofs.WalkedBack.AllMet.{all-met}
use Rattle.reg_tree_image.proofs.WalkedBack.WholePasses.{passes-named}
use Rattle.reg_tree_image.proofs.WalkedBack.WholeBins.{met-whole, met-told, whole-ring}

-- ---- rings

module _ (bins : List ℕ) (root : ℕ) (keys : List ℕ) (m : IsMet bins root keys) (written : AllByRecursion (IsWritten (cell_at bins) root) keys) {V : Type 0} (items : V → List ℕ) where
  abbrev Found : Option V → Type 0
  Found found = MatchOption found ((ring : List ℕ) → IsRingOf (cell_at bins) (map (security_in (cell_at bins)) keys) ring → ⊥)
      (λ (ring : V). IsRingOf (cell_at bins) (map (security_in (cell_at bins)) keys) (items ring))

  one-ring : ((i : ℕ) → get_or bins i 0 < 256) → (found : Option V) → Found found → MatchOption found (Whole bins root → ⊥) (λ (ring : V). IsWholeWith bins root (items ring))
  one-ring bytes None f = λ w. f w.whole.ring (whole-ring bins root keys m w)
  one-ring bytes (Some ring) f = met-whole bins root keys m written (items ring) f bytes

  pub found-ring : ((i : ℕ) → get_or bins i 0 < 256) → (r : Result (Option V) LoadFault) → IfOk r Found →
      IfOk r (λ (found : Option V). MatchOption found (Whole bins root → ⊥) (λ (ring : V). IsWholeWith bins root (items ring)))
  found-ring bytes (Ok found) f = one-ring bytes found f
  found-ring bytes (Err fault) f = tt

  one-tree : (found : Option V) → Found found → IfSome found (λ (ring : V). tree_in (bins_walk bins 5 root nothing) ≡ Ok (tree_at bins root))
  one-tree None f = tt
  one-tree (Some ring) f = met-told bins root keys m written (items ring) f

  pub found-tree : (r : Result (Option V) LoadFault) → IfOk r Found → IfOk r (λ (found : Option V). IfSome found (λ (ring : V). tree_in (bins_walk bins 5 root nothing) ≡ Ok (tree_at bins root)))
  found-tree (Ok found) f = one-tree found f
  found-tree (Err fault) f = tt

-- ---- the first pass

pub scanned-cells : (bins : List ℕ) (states : List CellState) → IsScanned bins states → (cells : List Cell) × (cells_of bins ≡ Some cells)
unfolding cells_of
scanned-cells bins states s = (s.cells, ap (option_and_then (cells_of_bins bins)) s.places_are ∙ s.cells_are)

pub scanned-bins : (bins : List ℕ) (states : List CellState) → IsScanned bins states → (layout : List Bin) × AreBins bins 0 layout
scanned-bins bins states s = let c = scanned-cells bins states s in let l = in_bins bins c.0 c.1 in (l.0, l.1)

module _ (bins : List ℕ) (root : ℕ) (first : List CellState) (s : IsScanned bins first) (seen : Seen)
    (e : key_from (cell_at bins) 5 (suc PATH_LIMIT) [] root_path root nothing ≡ Ok (tt, seen)) (states : List CellState) (t : IsTable (cell_at bins) seen.found [] states) where
  pub met-is : unnamed states ≡ 0 → (keys : List ℕ) → ((5 == 3) ≡ false → keys ≡ key_offsets seen.found) → IsMet bins root keys
  met-is n keys k =
      let c = scanned-cells bins first s in
      record { cells = c.0; cells_are = c.1; seen = seen; walked = e; met = λ o there. all-met (cell_at bins) seen.found states o t n there; keys_are = k refl }

  pub not-whole : (unnamed states ≡ 0 → ⊥) → Whole bins root → ⊥
  not-whole n w = n (passes-named bins root w 5 refl seen e states t)
