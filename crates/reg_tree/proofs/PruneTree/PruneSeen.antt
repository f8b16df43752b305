-- A tree's keys and nodes where a tree is deleted or a key emptied, as they are seen.
use Rattle.std.proofs.Common.{◌≡◌, ◌≢◌, ◌⊎◌, ◌↔◌, ℕ, true, false, List, [], ◌++◌, map, refl, sym, ap, ◌∙◌, subst}
use Rattle.std.specs.Prelude.{Result, Ok, Err, OnOk, OnErr}
use Rattle.reg_names.specs.Names.{folded, path_of}
use Rattle.reg_heap.specs.Paths.{Path}
use Rattle.reg_heap.specs.Edits.{without_tree, emptied, is_within, is_under, any_kept_within}
use Rattle.reg_arena.specs.Arena.{Bins}
use Rattle.reg_security.specs.Rings.{DescriptorCells}
use Rattle.reg_tree.specs.declared.fault.TreeFault.{TreeFault}
use Rattle.reg_tree.specs.declared.fault.TreeFault.TheVariants.{NoDelete}
use Rattle.reg_tree.specs.declared.node.Node.{Node}
use Rattle.reg_tree.specs.declared.node.Reached.{Reached}
use Rattle.reg_tree.specs.TreeKeys.{Keys, tree_in, IsAt, IsThere}
use Rattle.reg_tree.specs.Reaching.{IsWalkedTo}
use Rattle.reg_tree.specs.Internal.TreeInvariant.{TreeInvariant, IsHere}
use Rattle.reg_tree.specs.Internal.KeyDeletion.{IsPruned, IsEmptied}
use Rattle.reg_tree.proofs.Invariant.NodeLemmas.{on_ok, seen_as, here_at, there_at, of_tree}
use Rattle.reg_tree.proofs.PathWalk.ReachedNodes.{reached_at, reached_inner}

module _ (bins : Bins) (root : ℕ) {table : DescriptorCells} (holds : TreeInvariant bins.bytes root table) (now : Keys) (view_is : seen_as bins root ≡ now) where
  -- ---- a tree deleted

  module _ (new : Bins) {after : DescriptorCells} (moment : ℕ) (p : Path) (d : IsPruned bins.bytes new.bytes root after p moment) where
    pub pruned_then : tree_in new.bytes root ≡ without_tree now.tree p moment
    pruned_then = of_tree bins root holds now view_is (λ t. tree_in new.bytes root ≡ without_tree t p moment) d.tree

    -- each key's node stays that isn't at or below it
    pub others_then : (q : Path) → (other : Node) → IsAt now q other → is_within p q ≡ false → IsAt (seen_as new root) q other
    others_then q other at w = let a = subst (λ k. IsAt k q other) (sym view_is) at in record { offset = d.offsets q w ∙ a.offset; depth = a.depth }

  -- ---- a key emptied

  module _ (new : Bins) {after : DescriptorCells} (moment : ℕ) (p : Path) (d : IsEmptied bins.bytes new.bytes root after p moment) where
    pub emptied_then : tree_in new.bytes root ≡ emptied now.tree p moment
    emptied_then = of_tree bins root holds now view_is (λ t. tree_in new.bytes root ≡ emptied t p moment) d.tree

    -- each key's node stays that isn't below it
    pub nodes_then : (q : Path) → (other : Node) → IsAt now q other → is_under p q ≡ false → IsAt (seen_as new root) q other
    nodes_then q other at u = let a = subst (λ k. IsAt k q other) (sym view_is) at in record { offset = d.offsets q u ∙ a.offset; depth = a.depth }

  -- ---- the key that a path leads to

  module _ (reached : Reached) (there : (from : Node) × (path : List ℕ) × IsWalkedTo now from path reached × IsThere now from × (path_of path ≢ []))
      (none : reached.missing.now ≡ []) where
    abbrev from : Node
    from = there.0

    abbrev path : List ℕ
    path = there.1

    abbrev r : IsWalkedTo now from path reached
    r = there.2

    none-left : path_of reached.missing.now ≡ []
    none-left = ap path_of none

    abbrev pub node_reached : IsThere now reached.node
    node_reached = (there.3.0 ++ map folded r.reaches.passes.names, reached_at now from path reached.node reached.missing.now r.reaches.passes there.3.0 there.3.1)

    -- it isn't the root
    pub below_root : (p : Path) → IsAt now p reached.node → p ≢ []
    below_root p at = reached_inner now from path reached.node reached.missing.now r.reaches.passes there.3.0 there.3.1 none-left there.4 p at

  -- ---- a tree deleted, or a fault

  module _ (result : Result (Unit {0}) TreeFault) (node : Node) where
    abbrev Here : Type 0
    Here = IsHere bins.bytes node.offset

    module _ (new : Bins) (after : DescriptorCells) (moment : ℕ)
        (ok : (t : Here) → t.table ≡ table → OnOk result (IsPruned bins.bytes new.bytes t.root after t.path moment)) where
      pub pruned_holds : IsThere now node → OnErr result (new ≡ bins) → OnErr result (after ≡ table) → TreeInvariant new.bytes root after
      pruned_holds some err kept = by result (ok (there_at bins root holds now view_is node some) refl) err kept
        where
          by : (r : Result (Unit {0}) TreeFault) → OnOk r (IsPruned bins.bytes new.bytes root after some.0 moment) → OnErr r (new ≡ bins) →
              OnErr r (after ≡ table) → TreeInvariant new.bytes root after
          by (Ok x) d e f = d.holds
          by (Err x) d e f = subst (λ (table : DescriptorCells). TreeInvariant new.bytes root table) (sym f) (subst (λ (b : Bins). TreeInvariant b.bytes root table) (sym e) holds)

      pub pruned_tree : (p : Path) → IsAt now p node → OnOk result (tree_in new.bytes root ≡ without_tree now.tree p moment)
      pruned_tree p at = on_ok result (pruned_then new moment p) (ok (here_at bins root holds now view_is node p at) refl)

      pub pruned_nodes : (p : Path) → IsAt now p node →
          OnOk result ((q : Path) → (other : Node) → IsAt now q other → is_within p q ≡ false → IsAt (seen_as new root) q other)
      pruned_nodes p at = on_ok result (others_then new moment p) (ok (here_at bins root holds now view_is node p at) refl)

    pub kept_seen : ((t : Here) → ((result ≡ Err NoDelete) ↔ ((t.path ≡ []) ⊎ (any_kept_within (tree_in bins.bytes t.root) t.path ≡ true)))) → (p : Path) → IsAt now p node →
        ((result ≡ Err NoDelete) ↔ ((p ≡ []) ⊎ (any_kept_within now.tree p ≡ true)))
    kept_seen told p at = of_tree bins root holds now view_is (λ t. ((result ≡ Err NoDelete) ↔ ((p ≡ []) ⊎ (any_kept_within t p ≡ true)))) (told (here_at bins root holds now view_is node p at))
