-- A tree's nodes where a key is deleted.
use Rattle.std.proofs.Common.{◌≡◌, ◌≢◌, ℕ, [], Err, refl, sym, ◌∙◌, subst, ◌↔◌}
use Rattle.std.specs.Prelude.{Result, Ok, OnOk, OnErr}
use Rattle.reg_heap.specs.Paths.{Path, children_of}
use Rattle.reg_heap.specs.Edits.{without_key, IsKept}
use Rattle.reg_arena.specs.Arena.{Bins}
use Rattle.reg_security.specs.Rings.{DescriptorCells}
use Rattle.reg_tree.specs.declared.node.Node.{Node}
use Rattle.reg_tree.specs.declared.fault.TreeFault.{TreeFault}
use Rattle.reg_tree.specs.declared.fault.TreeFault.TheVariants.{HasChildren, NoDelete}
use Rattle.reg_tree.specs.TreeKeys.{Keys, tree_in, IsAt, IsThere}
use Rattle.reg_tree.specs.Internal.TreeInvariant.{TreeInvariant, IsHere}
use Rattle.reg_tree.specs.Internal.KeyDeletion.{IsDeleted}
use Rattle.reg_tree.proofs.Invariant.NodeLemmas.{on_ok, seen_as, here_at, there_at, of_tree}

-- what is seen where the key at a path was deleted
module _ (bins : Bins) (root : ℕ) {table : DescriptorCells} (holds : TreeInvariant bins.bytes root table) (now : Keys) (view_is : seen_as bins root ≡ now)
    (new : Bins) {after : DescriptorCells} (moment : ℕ) (p : Path) (d : IsDeleted bins.bytes new.bytes root after p moment) where
  pub tree_then : tree_in new.bytes root ≡ without_key now.tree p moment
  tree_then = of_tree bins root holds now view_is (λ t. tree_in new.bytes root ≡ without_key t p moment) d.tree

  -- each other key's node stays
  pub nodes_then : (q : Path) → (other : Node) → IsAt now q other → q ≢ p → IsAt (seen_as new root) q other
  nodes_then q other at n = let a = subst (λ k. IsAt k q other) (sym view_is) at in record { offset = d.offsets q n ∙ a.offset; depth = a.depth }

module _ (bins : Bins) (root : ℕ) {table : DescriptorCells} (holds : TreeInvariant bins.bytes root table) (now : Keys) (view_is : seen_as bins root ≡ now)
    (result : Result (Unit {0}) TreeFault) (node : Node) where
  abbrev Here : Type 0
  Here = IsHere bins.bytes node.offset

  module _ (new : Bins) (after : DescriptorCells) (moment : ℕ)
      (ok : (t : Here) → t.table ≡ table → OnOk result (IsDeleted bins.bytes new.bytes t.root after t.path moment)) where
    pub deleted_holds : IsThere now node → OnErr result (new ≡ bins) → OnErr result (after ≡ table) → TreeInvariant new.bytes root after
    deleted_holds some err kept = by result (ok (there_at bins root holds now view_is node some) refl) err kept
      where
        by : (r : Result (Unit {0}) TreeFault) → OnOk r (IsDeleted bins.bytes new.bytes root after some.0 moment) → OnErr r (new ≡ bins) →
            OnErr r (after ≡ table) → TreeInvariant new.bytes root after
        by (Ok x) d e f = d.holds
        by (Err x) d e f = subst (λ (table : DescriptorCells). TreeInvariant new.bytes root table) (sym f) (subst (λ (b : Bins). TreeInvariant b.bytes root table) (sym e) holds)

    pub deleted_tree : (p : Path) → IsAt now p node → OnOk result (tree_in new.bytes root ≡ without_key now.tree p moment)
    deleted_tree p at = on_ok result (tree_then bins root holds now view_is new moment p) (ok (here_at bins root holds now view_is node p at) refl)

    pub deleted_nodes : (p : Path) → IsAt now p node → OnOk result ((q : Path) → (other : Node) → IsAt now q other → q ≢ p → IsAt (seen_as new root) q other)
    deleted_nodes p at = on_ok result (nodes_then bins root holds now view_is new moment p) (ok (here_at bins root holds now view_is node p at) refl)

  -- what holds of the tree spelt holds of the tree seen
  pub children_seen : ((t : Here) → ((result ≡ Err HasChildren) ↔ (children_of (tree_in bins.bytes t.root) t.path ≢ []))) → (p : Path) →
      IsAt now p node → ((result ≡ Err HasChildren) ↔ (children_of now.tree p ≢ []))
  children_seen told p at = of_tree bins root holds now view_is (λ t. ((result ≡ Err HasChildren) ↔ (children_of t p ≢ []))) (told (here_at bins root holds now view_is node p at))

  pub kept_seen : ((t : Here) → ((result ≡ Err NoDelete) ↔ ((children_of (tree_in bins.bytes t.root) t.path ≡ []) × IsKept (tree_in bins.bytes t.root) t.path))) → (p : Path) → IsAt now p node
      → ((result ≡ Err NoDelete) ↔ ((children_of now.tree p ≡ []) × IsKept now.tree p))
  kept_seen told p at = of_tree bins root holds now view_is (λ t. ((result ≡ Err NoDelete) ↔ ((children_of t p ≡ []) × IsKept t p))) (told (here_at bins root holds now view_is node p at))
