-- The keys of a tree's bins, walked and built anew: the walk meets no fault, and tells the tree.
use Rattle.std.proofs.Common.{◌≡◌, false, ℕ, ◌⊎◌, Some, is_ok, Result, Ok, Err, IfOk, IfErr, List, length, inl, inr, refl, sym, ap, ◌∙◌, subst}
use Rattle.std.proofs.lemmas.Bool.{false≢true}
use Rattle.std.proofs.lemmas.Option.{same_Some}
use Rattle.reg_heap.specs.Paths.{Tree}
use Rattle.reg_arena.specs.Cells.{cell_at}
use Rattle.reg_records.proofs.RecordWriting.{same_ok}
use Rattle.reg_shape.specs.Spelt.{spelt}
use Rattle.reg_shape.specs.Whole.{Whole}
use Rattle.reg_shape.specs.Internal.Shapes.{tree_of}
use Rattle.reg_tree.specs.TreeKeys.{Keys, IsWholeTree}
use Rattle.reg_tree_image.specs.declared.LoadFault.{LoadFault}
use Rattle.reg_tree_image.specs.declared.LoadFault.TheVariants.{Limit, Memory}
use Rattle.reg_tree_image.specs.WalkSteps.{Seen}
use Rattle.reg_tree_image.specs.Images.{bins_walk, nothing, tree_in}
use Rattle.reg_tree_image.specs.CrowdedBins.{AreCrowded}
use Rattle.reg_tree_image.specs.Internal.Stacks.{FailsAs}
use Rattle.reg_tree_image.proofs.CleanWalks.CleanHives.{hive-walked, hive-told}
use Rattle.reg_tree_image.proofs.CleanWalks.CleanImages.{bins-walked}
use Rattle.reg_tree.proofs.Invariant.ShapesOfWholeHives.{its_keys, shape-of-whole}
use Rattle.reg_tree_image.proofs.CleanWalks.WholeImages.{spelt-is}

module _ (bins : List ℕ) (root : ℕ) where
  whole-walked : (w : Whole bins root) (tree : Tree) → spelt (length w.cells) (cell_at bins) root ≡ Some tree →
      tree_in (bins_walk bins 5 root nothing) ≡ Ok tree
  whole-walked w tree e =
      let keys = its_keys (cell_at bins) (length w.cells) root w.whole in
      let shape = shape-of-whole (cell_at bins) (length w.cells) root w.whole in
      ap tree_in (bins-walked bins w.cells 5 root nothing w.cells_are ∙ hive-walked (cell_at bins) root keys w.whole.ring shape)
      ∙ ap Ok (hive-told (cell_at bins) root keys w.whole.ring shape ∙ same_Some _ _ (sym (spelt-is bins root w) ∙ e))

  tree-walked : (tree : Tree) → IsWholeTree bins root tree → tree_in (bins_walk bins 5 root nothing) ≡ Ok tree
  tree-walked tree w = whole-walked (record { cells = w.cells; cells_are = w.cells_are; whole = w.whole }) tree w.spells

-- a walk that told a tree fails for want of memory or of room alone
only-wants : (crowded : Type 0) (fault : LoadFault) (walk : Result (Unit {0} × Seen) LoadFault) (tree : Tree) → tree_in walk ≡ Ok tree →
    FailsAs crowded fault walk → (fault ≡ Memory) ⊎ ((fault ≡ Limit) × crowded)
only-wants crowded Memory walk tree told f = inl refl
only-wants crowded Limit walk tree told (inl e) = absurd (false≢true (ap is_ok (sym (ap tree_in e) ∙ told)))
only-wants crowded Limit walk tree told (inr c) = inr (refl, c)
only-wants crowded fault walk tree told f = absurd (false≢true (ap is_ok (sym (ap tree_in f) ∙ told)))

-- bins that were read, with a root, are those of a tree's keys
module _ (keys : Keys) (whole : IsWholeTree keys.bins.bytes keys.root keys.tree) (read : List ℕ) (root : ℕ) (same : read ≡ keys.bins.bytes)
    (same_root : root ≡ keys.root) where
  abbrev walk : Result (Unit {0} × Seen) LoadFault
  walk = bins_walk read 5 root nothing

  told : tree_in walk ≡ Ok keys.tree
  told =
      ap (λ bins. tree_in (bins_walk bins 5 root nothing)) same
      ∙ (ap (λ n. tree_in (bins_walk keys.bins.bytes 5 n nothing)) same_root ∙ tree-walked keys.bins.bytes keys.root keys.tree whole)

  pub rebuilt : {T : Type 0} (tree_of : T → Tree) (r : Result T LoadFault) → IfOk r (λ new. tree_in walk ≡ Ok (tree_of new)) →
      IfOk r (λ new. tree_of new ≡ keys.tree)
  rebuilt tree_of (Ok new) built = same_ok _ _ (sym built ∙ told)
  rebuilt tree_of (Err fault) built = tt

  pub not-rebuilt : {T : Type 0} (r : Result T LoadFault) → IfErr r (λ fault. FailsAs (AreCrowded false read 5 root) fault walk) →
      IfErr r (λ fault. (fault ≡ Memory) ⊎ ((fault ≡ Limit) × AreCrowded false keys.bins.bytes 5 keys.root))
  not-rebuilt (Ok new) f = tt
  not-rebuilt (Err fault) f =
      subst (λ bins. (fault ≡ Memory) ⊎ ((fault ≡ Limit) × AreCrowded false bins 5 keys.root)) same
      (subst (λ n. (fault ≡ Memory) ⊎ ((fault ≡ Limit) × AreCrowded false read 5 n)) same_root
      (only-wants (AreCrowded false read 5 root) fault walk keys.tree told f))
