-- The tree of foreign bins: scanned, and then walked.
use Rattle.std.proofs.Common.{◌≡◌, Bool, ℕ, suc, Result, Ok, Err, IsOk, OnOk, IfOk, IfErr, List, [], inl, inr, refl, sym, ap, ◌∙◌, subst}
use Rattle.reg_names.specs.declared.TheConstants.{PATH_LIMIT}
use Rattle.reg_heap.specs.Paths.{Tree}
use Rattle.reg_heap.specs.Heaps.{Heap}
use Rattle.reg_arena.specs.Cells.{cells_of_bins, cells_of, content_in, content_of, cell_at}
use Rattle.std.specs.Option.{option_and_then}
use Rattle.reg_tree_image.specs.declared.LoadFault.{LoadFault}
use Rattle.reg_tree_image.specs.declared.LoadFault.TheVariants.{Bins, Cells, Limit, Memory}
use Rattle.reg_tree_image.specs.declared.table.CellState.{CellState}
use Rattle.reg_tree_image.specs.WalkSteps.{Seen, ◌>>=◌, onward, given}
use Rattle.reg_tree_image.specs.LoadingWalk.{key_from, root_path}
use Rattle.reg_tree_image.specs.Images.{bins_walk, nothing, tree_in, tree_told}
use Rattle.reg_tree_image.specs.Internal.CellScans.{IsScanned, IsNoScan}
use Rattle.reg_tree_image.specs.Internal.CellStates.{IsTable}
use Rattle.reg_tree_image.specs.WalkedKeys.{Comes}
use Rattle.reg_tree_image.specs.CrowdedBins.{AreCrowded}
use Rattle.reg_tree_image.specs.Internal.Stacks.{IsRootCrowded, FailsAs}
use Rattle.reg_tree_image.specs.Internal.CheckedStacks.{Meets}
use Rattle.reg_tree_image.proofs.Readers.CheckedSteps.{only-meets}

module _ (bins : List ℕ) (minor root : ℕ) where
  -- the keys of a heap, from the root on
  abbrev pub keys-walked : Heap → Result (Unit {0} × Seen) LoadFault
  keys-walked heap = key_from heap minor (suc PATH_LIMIT) [] root_path root nothing

  -- where a header or a size is bad, or memory lacks
  pub scan-fails : (crowded : Type 0) (fault : LoadFault) → IsNoScan bins fault → FailsAs crowded fault (bins_walk bins minor root nothing)
  unfolding bins_walk
  scan-fails crowded Bins n =
      ap (λ places. onward (λ places. given Cells (cells_of_bins bins places) >>=
      (λ cells. key_from (content_in bins cells) minor (suc PATH_LIMIT) [] root_path root)) (given Bins places nothing)) n
  scan-fails crowded Cells n =
      ap (λ places. onward (λ places. given Cells (cells_of_bins bins places) >>=
      (λ cells. key_from (content_in bins cells) minor (suc PATH_LIMIT) [] root_path root)) (given Bins places nothing)) n.1
      ∙ ap (λ cells. onward (λ cells. key_from (content_in bins cells) minor (suc PATH_LIMIT) [] root_path root)
      (given Cells cells nothing)) n.2
  scan-fails crowded Limit n = absurd n
  scan-fails crowded Memory n = tt
  scan-fails crowded fault n = absurd n

  module _ (states : List CellState) (s : IsScanned bins states) where
    -- the cells are those of the bins
    pub heap-is : content_in bins s.cells ≡ cell_at bins
    unfolding cells_of cell_at
    heap-is = ap (λ c. content_of bins c) (sym (ap (option_and_then (cells_of_bins bins)) s.places_are ∙ s.cells_are))

    pub scanned : IsTable (cell_at bins) [] [] states
    scanned = subst (λ (heap : Heap). IsTable heap [] [] states) heap-is s.table

    -- what is left are the keys
    pub bins-walked : bins_walk bins minor root nothing ≡ keys-walked (cell_at bins)
    unfolding bins_walk
    bins-walked =
        ap (λ places. onward (λ places. given Cells (cells_of_bins bins places) >>=
        (λ cells. key_from (content_in bins cells) minor (suc PATH_LIMIT) [] root_path root)) (given Bins places nothing)) s.places_are
        ∙ (ap (λ cells. onward (λ cells. key_from (content_in bins cells) minor (suc PATH_LIMIT) [] root_path root)
        (given Cells cells nothing)) s.cells_are
        ∙ ap keys-walked heap-is)

    pub tree-built : {T : Type 0} (tree_of : T → Tree) (r : Result T LoadFault) →
        IfOk r (λ tree. (seen : Seen) × (keys-walked (cell_at bins) ≡ Ok (tt, seen)) × (tree_of tree ≡ tree_told seen)) →
        IfOk r (λ tree. tree_in (bins_walk bins minor root nothing) ≡ Ok (tree_of tree))
    tree-built tree_of (Ok tree) w = ap tree_in (bins-walked ∙ w.1) ∙ ap Ok (sym w.2)
    tree-built tree_of (Err fault) w = tt

    crowds : {ahead : Bool} → IsRootCrowded ahead (cell_at bins) minor root → AreCrowded ahead bins minor root
    crowds c = record {
      places = s.places;
      cells = s.cells;
      places_are = s.places_are;
      cells_are = s.cells_are;
      after = c.0;
      comes = subst (λ (heap : Heap). Comes heap minor c.0 (suc PATH_LIMIT) [] root_path root nothing) (sym heap-is) c.1;
      crowded = c.2;
    }

    fails : (ahead : Bool) (fault : LoadFault) (whole : Result (Unit {0} × Seen) LoadFault) → FailsAs (IsRootCrowded ahead (cell_at bins) minor root) fault whole →
        FailsAs (AreCrowded ahead bins minor root) fault whole
    fails ahead Memory whole w = tt
    fails ahead Limit whole (inl e) = inl e
    fails ahead Limit whole (inr c) = inr (crowds c)
    fails ahead fault whole w = w

    pub tree-fails : {T : Type 0} (ahead : Bool) (r : Result T LoadFault) →
        IfErr r (λ fault. FailsAs (IsRootCrowded ahead (cell_at bins) minor root) fault (keys-walked (cell_at bins))) →
        IfErr r (λ fault. FailsAs (AreCrowded ahead bins minor root) fault (bins_walk bins minor root nothing))
    tree-fails ahead (Ok tree) w = tt
    tree-fails ahead (Err fault) w =
        subst (λ whole. FailsAs (AreCrowded ahead bins minor root) fault whole) (sym bins-walked) (fails ahead fault _ w)

-- ---- the keys tested, and none built

module _ (bins : List ℕ) (minor root : ℕ) where
  abbrev Whole : Result (Unit {0} × Seen) LoadFault
  Whole = bins_walk bins minor root nothing

  -- where a header or a size is bad, or memory lacks
  pub scan-meets : (fault : LoadFault) → IsNoScan bins fault → Meets fault Whole
  scan-meets fault n = only-meets fault Whole (scan-fails bins minor root ⊥ fault n)

  module _ (states : List CellState) (s : IsScanned bins states) where
    pub tested : (r : Result (Unit {0}) LoadFault) (P Q : Seen → Type 0) →
        OnOk r ((seen : Seen) × (keys-walked bins minor root (cell_at bins) ≡ Ok (tt, seen)) × P seen × Q seen) → OnOk r (IsOk Whole)
    tested (Ok done) P Q w =
        subst (λ (r : Result (Unit {0} × Seen) LoadFault). IsOk r) (sym (bins-walked bins minor root states s ∙ w.1)) refl
    tested (Err fault) P Q w = tt

    pub test-fails : (r : Result (Unit {0}) LoadFault) → IfErr r (λ fault. Meets fault (keys-walked bins minor root (cell_at bins))) →
        IfErr r (λ fault. Meets fault Whole)
    test-fails (Ok done) m = tt
    test-fails (Err fault) m = subst (λ whole. Meets fault whole) (sym (bins-walked bins minor root states s)) m
