-- How far a path leads, as it is seen in the tree.
use Rattle.std.proofs.Common.{◌≡◌, ◌≢◌, ℕ, true, Some, None, List, [], ◌∷◌, ◌++◌, length, refl, sym, ap, subst, arith}
use Rattle.std.proofs.lemmas.List.Splits.{length-slice_split}
use Rattle.reg_names.specs.Names.{path_of, is_path, is_backslash}
use Rattle.reg_heap.specs.Paths.{Path, Tree}
use Rattle.reg_heap.specs.Edits.{folded_path, missing}
use Rattle.reg_arena.specs.Arena.{Bins, heap_of}
use Rattle.reg_security.specs.Rings.{DescriptorCells}
use Rattle.reg_tree.specs.declared.node.Node.{Node}
use Rattle.reg_tree.specs.declared.node.Reached.{Reached}
use Rattle.reg_tree.specs.TreeKeys.{Keys, IsAt, IsResolved}
use Rattle.reg_tree.specs.Reaching.{IsWalkedTo}
use Rattle.reg_tree.specs.Internal.TreeInvariant.{TreeInvariant}
use Rattle.reg_tree.specs.Internal.PathWalks.{Reaches}
use Rattle.reg_tree.specs.Internal.ReachedPlaces.{IsPlace}
use Rattle.reg_tree.proofs.Invariant.NodeLemmas.{seen_as, here_at, of_tree, resolved}
use Rattle.reg_tree.proofs.PathWalk.PathSteps.{walked, not_walked}
use Rattle.reg_tree.proofs.InsertKey.CreatePath.{missing-are}

-- a text that isn't empty has names
pub named : (text : List ℕ) → text ≢ [] → path_of text ≡ [] → ⊥
named [] some e = absurd (some refl)
named (b ∷ bs) some e = let l = length-slice_split is_backslash (b ∷ bs) in let z : length (path_of (b ∷ bs)) ≡ 0 = ap length e in omega (arith, l, z)

module _ (bins : Bins) (root : ℕ) {table : DescriptorCells} (holds : TreeInvariant bins.bytes root table) (now : Keys) (view_is : seen_as bins root ≡ now)
    (from : Node) (path : List ℕ) (reached : Reached) (r : Reaches (heap_of bins) from path reached.node reached.missing.now) where
  pub reached_seen : is_path path ≡ true → IsPlace (heap_of bins) path reached.node.offset reached.missing.now reached.place → IsWalkedTo now from path reached
  reached_seen valid place = subst (λ k. IsWalkedTo k from path reached) view_is (record { valid = valid; reaches = r; place = place })

  -- the names left are those that are missing
  pub missing_seen : (p : Path) → IsAt now p from → path_of reached.missing.now ≡ missing now.tree p (path_of path)
  missing_seen p at = of_tree bins root holds now view_is (λ (t : Tree). path_of reached.missing.now ≡ missing t p (path_of path))
      (sym (missing-are bins.bytes from (here_at bins root holds now view_is from p at) path reached.node reached.missing.now r 0))

  -- none is left, or some are
  pub there_seen : (p : Path) → IsAt now p from → reached.missing.now ≡ [] → IsResolved now (p ++ folded_path path) (Some reached.node)
  there_seen p at none = resolved bins root holds now view_is from (folded_path path) (Some reached.node)
      (walked (heap_of bins) from path reached.node reached.missing.now r.passes (ap path_of none)) p at

  pub absent_seen : (p : Path) → IsAt now p from → reached.missing.now ≢ [] → IsResolved now (p ++ folded_path path) None
  absent_seen p at some = resolved bins root holds now view_is from (folded_path path) None
      (not_walked (heap_of bins) from path reached.node reached.missing.now r (named reached.missing.now some)) p at
