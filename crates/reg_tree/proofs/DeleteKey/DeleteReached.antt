-- The key that a path leads to, deleted.
use Rattle.std.proofs.Common.{◌≡◌, ◌≢◌, ℕ, false, ◌==◌, ◌||◌, not, nat_lt, List, [], ◌∷◌, ◌++◌, map, length, refl, sym, ap, ◌∙◌, subst, arith}
use Rattle.std.specs.Prelude.{bit_and}
use Rattle.std.proofs.lemmas.Bool.{or_left, lt-ltb, false≢true}
use Rattle.reg_names.specs.Names.{folded, path_of}
use Rattle.reg_heap.specs.declared.marks.TheConstants.{NO_DELETE}
use Rattle.reg_heap.specs.Paths.{Path, Tree, children_of}
use Rattle.reg_heap.specs.Edits.{may_not_go, marks_of}
use Rattle.reg_arena.specs.Arena.{Bins, heap_of}
use Rattle.std.specs.FinMap.{get}
use Rattle.reg_security.specs.Rings.{DescriptorCells}
use Rattle.reg_tree.specs.declared.node.Node.{Node}
use Rattle.reg_tree.specs.declared.node.Reached.{Reached}
use Rattle.reg_tree.specs.TreeKeys.{Keys, tree_in, IsAt, IsThere}
use Rattle.reg_tree.specs.Reaching.{IsWalkedTo}
use Rattle.reg_tree.specs.Internal.TreeInvariant.{TreeInvariant, IsHere}
use Rattle.reg_tree.specs.Internal.KeyDeletion.{IsLone}
use Rattle.reg_tree.specs.Internal.ReachedPlaces.{StandsAt}
use Rattle.reg_tree.proofs.Invariant.NodeLemmas.{seen_as, here_at}
use Rattle.reg_tree.proofs.PathWalk.ReachedNodes.{reached_at, reached_inner}

-- a key that may go has no subkeys
lone-children : (t : Tree) (p : Path) → may_not_go t p ≡ false → children_of t p ≡ []
lone-children t p e = by (children_of t p) e
  where
    by : (paths : List Path) → (nat_lt 0 (length paths) || not (bit_and (marks_of (get t p)) NO_DELETE == 0)) ≡ false → paths ≡ []
    by [] f = refl
    by (q ∷ paths) f =
        let some = or_left (nat_lt 0 (length (q ∷ paths))) (not (bit_and (marks_of (get t p)) NO_DELETE == 0)) (lt-ltb 0 (length (q ∷ paths)) (omega arith)) in
        absurd (false≢true (sym f ∙ some))

module _ (bins : Bins) (root : ℕ) {table : DescriptorCells} (holds : TreeInvariant bins.bytes root table) (now : Keys) (view_is : seen_as bins root ≡ now) (reached : Reached)
    (there : (from : Node) × (path : List ℕ) × IsWalkedTo now from path reached × IsThere now from × (path_of path ≢ [])) (none : reached.missing.now ≡ [])
    (goes : (p : Path) → IsAt now p reached.node → may_not_go now.tree p ≡ false) where
  abbrev from : Node
  from = there.0

  abbrev path : List ℕ
  path = there.1

  abbrev r : IsWalkedTo now from path reached
  r = there.2

  none-left : path_of reached.missing.now ≡ []
  none-left = ap path_of none

  abbrev pub node_there : IsThere now reached.node
  node_there = (there.3.0 ++ map folded r.reaches.passes.names, reached_at now from path reached.node reached.missing.now r.reaches.passes there.3.0 there.3.1)

  -- it isn't the root, and has no subkeys
  pub lone_at : (p : Path) (at : IsAt now p reached.node) → IsLone bins.bytes reached.node.offset (here_at bins root holds now view_is reached.node p at)
  lone_at p at = (
    reached_inner now from path reached.node reached.missing.now r.reaches.passes there.3.0 there.3.1 none-left there.4 p at,
    lone-children (tree_in bins.bytes root) p (ap (λ (k : Keys). may_not_go k.tree p) view_is ∙ goes p at),
  )

  abbrev pub lone_there : (t : IsHere bins.bytes reached.node.offset) × (t.table ≡ table) × IsLone bins.bytes reached.node.offset t
  lone_there = (here_at bins root holds now view_is reached.node node_there.0 node_there.1, refl, lone_at node_there.0 node_there.1)

  -- where it stands among its parent's subkeys
  pub stands_there : StandsAt (heap_of bins) reached.node.offset reached.place
  stands_there = subst (λ (k : Keys). StandsAt (heap_of k.bins) reached.node.offset reached.place) (sym view_is) (r.place.stands none-left there.4)
