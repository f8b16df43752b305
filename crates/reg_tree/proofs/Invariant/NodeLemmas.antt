-- A tree's nodes and the keys that they are of.
use Rattle.std.proofs.Common.{◌≡◌, ℕ, Option, Some, None, IsSome, is_some, [], ◌++◌, length, refl, sym, ap, ◌∙◌, subst, arith, ◌≤◌, length-append, true≢false}
use Rattle.std.specs.Prelude.{Result, Ok, Err, OnOk, OnErr, IfSome, MatchOption, get_or, ◌<◌}
use Rattle.std.specs.Option.{option_and_then}
use Rattle.std.specs.FinMap.{get}
use Rattle.reg_names.specs.declared.TheConstants.{PATH_LIMIT}
use Rattle.reg_heap.specs.Paths.{Path, Tree, Rec, children_of}
use Rattle.reg_heap.specs.Edits.{edited}
use Rattle.reg_arena.specs.Arena.{Bins, heap_of}
use Rattle.reg_shape.specs.PathLookup.{key_offset_at}
use Rattle.reg_shape.proofs.Lookup.LookupOfShape.{offset-append}
use Rattle.reg_security.specs.Rings.{DescriptorCells}
use Rattle.reg_tree.specs.declared.node.Node.{Node}
use Rattle.reg_tree.specs.TreeKeys.{Keys, tree_in, IsAt, IsThere, IsResolved, KeepsNodes}
use Rattle.reg_tree.specs.Internal.PathWalks.{IsWalked, IsSubkey}
use Rattle.reg_tree.proofs.Invariant.KeyOfTree.{offset-root, get-none, get-some, shallow}
use Rattle.reg_tree.specs.Internal.TreeInvariant.{TreeInvariant, IsHere, IsChanged}

-- a node that is there is a key's
abbrev pub here : {table : DescriptorCells} (k : Keys) (node : Node) (p : Path) → TreeInvariant k.bins.bytes k.root table → IsAt k p node → IsHere k.bins.bytes node.offset
here {table} k node p holds at = record { root = k.root; table = table; path = p; holds = holds; at = at.offset }

abbrev pub there : {table : DescriptorCells} (k : Keys) (node : Node) → TreeInvariant k.bins.bytes k.root table → IsThere k node → IsHere k.bins.bytes node.offset
there k node holds some = here k node some.0 holds some.1

-- keys that stay where they stand keep their nodes
pub keeps : (old new : Keys) → new.root ≡ old.root → ((p : Path) → key_offset_at (heap_of new.bins) old.root p ≡ key_offset_at (heap_of old.bins) old.root p) → KeepsNodes old new
keeps old new root same p node at = record { offset = subst (λ r. key_offset_at (heap_of new.bins) r p ≡ Some node.offset) (sym root) (same p ∙ at.offset); depth = at.depth }

pub on_ok : {E A B : Type 0} (r : Result (Unit {0}) E) → (A → B) → OnOk r A → OnOk r B
on_ok (Ok x) f a = f a
on_ok (Err e) f a = a

-- ---- a tree as it is seen

abbrev pub seen_as : Bins → ℕ → Keys
seen_as bins root = record { bins = bins; root = root; tree = tree_in bins.bytes root }

module _ (bins : Bins) (root : ℕ) {table : DescriptorCells} (holds : TreeInvariant bins.bytes root table) (now : Keys) (view_is : seen_as bins root ≡ now) where
  abbrev pub here_at : (node : Node) (p : Path) → IsAt now p node → IsHere bins.bytes node.offset
  here_at node p at = here (seen_as bins root) node p holds (subst (λ k. IsAt k p node) (sym view_is) at)

  abbrev pub there_at : (node : Node) → IsThere now node → IsHere bins.bytes node.offset
  there_at node some = here_at node some.0 some.1

  -- what holds of the tree spelt holds of the tree seen
  pub of_tree : (P : Tree → Type 0) → P (tree_in bins.bytes root) → P now.tree
  of_tree P h = subst (λ (k : Keys). P k.tree) view_is h

  -- and the other way about
  pub to_tree : (P : Tree → Type 0) → P now.tree → P (tree_in bins.bytes root)
  to_tree P h = subst (λ (k : Keys). P k.tree) (sym view_is) h

  -- what a change of a key is, as it is seen
  module _ (new : Bins) (p : Path) (f : Rec → Rec) (c : IsChanged bins.bytes new.bytes root table p f) where
    pub tree_then : tree_in new.bytes root ≡ edited now.tree p f
    tree_then = of_tree (λ t. tree_in new.bytes root ≡ edited t p f) c.tree

    pub nodes_then : KeepsNodes now (seen_as new root)
    nodes_then = subst (λ k. KeepsNodes k (seen_as new root)) view_is (keeps (seen_as bins root) (seen_as new root) refl c.offsets)

  module _ {E : Type 0} (new : Bins) (result : Result (Unit {0}) E) (node : Node) (some : IsThere now node) (f : Rec → Rec)
      (ok : (t : IsHere bins.bytes node.offset) → OnOk result (IsChanged bins.bytes new.bytes t.root t.table t.path f)) (err : OnErr result (new ≡ bins)) where
    pub holds_then : TreeInvariant new.bytes root table
    holds_then = by result (ok (there_at node some)) err
      where
        by : (r : Result (Unit {0}) E) → OnOk r (IsChanged bins.bytes new.bytes root table some.0 f) → OnErr r (new ≡ bins) → TreeInvariant new.bytes root table
        by (Ok x) c e = c.holds
        by (Err x) c e = subst (λ (b : Bins). TreeInvariant b.bytes root table) (sym e) holds

    pub changed_ok : (p : Path) → IsAt now p node → OnOk result (tree_in new.bytes root ≡ edited now.tree p f)
    changed_ok p at = on_ok result (λ c. tree_then new p f c) (ok (here_at node p at))

    pub changed_nodes : OnOk result (KeepsNodes now (seen_as new root))
    changed_nodes = on_ok result (λ c. nodes_then new some.0 f c) (ok (there_at node some))

    pub unchanged : OnErr result (seen_as new root ≡ now)
    unchanged = by result err
      where
        by : (r : Result (Unit {0}) E) → OnErr r (new ≡ bins) → OnErr r (seen_as new root ≡ now)
        by (Ok x) e = e
        by (Err x) e = ap (λ b. seen_as b root) e ∙ view_is

  -- ---- nodes found

  pub root_at : IsAt now [] (record { offset = root; depth = 0 })
  root_at = subst (λ k. IsAt k [] (record { offset = root; depth = 0 })) view_is (record { offset = offset-root bins.bytes root holds; depth = refl })

  walked-on : (from : Node) (p q : Path) → IsAt (seen_as bins root) p from → key_offset_at (heap_of bins) root (p ++ q) ≡ key_offset_at (heap_of bins) from.offset q
  walked-on from p q at = offset-append (heap_of bins) root p q ∙ ap (option_and_then (λ c. key_offset_at (heap_of bins) c q)) at.offset

  pub resolved : (from : Node) (q : Path) (result : Option Node) → IsWalked (heap_of bins) from q result → (p : Path) → IsAt now p from → IsResolved now (p ++ q) result
  resolved from q None w p at =
      let a = subst (λ k. IsAt k p from) (sym view_is) at in
      of_tree (λ t. get t (p ++ q) ≡ None) (get-none bins.bytes root holds (p ++ q) (walked-on from p q a ∙ w))
  resolved from q (Some node) w p at =
      let a = subst (λ k. IsAt k p from) (sym view_is) at in
      let offset = walked-on from p q a ∙ w.0 in
      let l = length-append p q in
      let d = w.1 in
      let e = a.depth in (
        subst (λ k. IsAt k (p ++ q) node) view_is (record { offset = offset; depth = omega (arith, l, d, e) }),
        of_tree (λ t. IsSome (get t (p ++ q))) (get-some bins.bytes root holds (p ++ q) node.offset offset),
      )

  pub shallow_at : (node : Node) → IsThere now node → node.depth ≤ PATH_LIMIT
  shallow_at node some =
      let t = there_at node some in
      let s = shallow bins.bytes node.offset t in
      let d = some.1.depth in
      omega (arith, s, d)

  -- a node's key is in the tree
  pub at-there : (node : Node) (p : Path) → IsAt now p node → IsSome (get now.tree p)
  at-there node p at =
      let t = here_at node p at in
      of_tree (λ (t : Tree). IsSome (get t p)) (get-some bins.bytes root holds p node.offset t.at)

  -- every key's path has at most 512 names
  pub there-shallow : (p : Path) → IsSome (get now.tree p) → length p ≤ PATH_LIMIT
  there-shallow p some = by (key_offset_at (heap_of bins) root p) refl
    where
      by : (o : Option ℕ) → key_offset_at (heap_of bins) root p ≡ o → length p ≤ PATH_LIMIT
      by None e =
          let none : get now.tree p ≡ None = of_tree (λ t. get t p ≡ None) (get-none bins.bytes root holds p e) in
          absurd (true≢false (sym some ∙ ap is_some none))
      by (Some o) e =
          let s = shallow bins.bytes o (record { root = root; table = table; path = p; holds = holds; at = e }) in
          omega (arith, s)

  pub resolved-depth : (from : Node) → IsThere now from → (q : Path) (result : Option Node) → IsWalked (heap_of bins) from q result → IfSome result (λ node. node.depth ≤ PATH_LIMIT)
  resolved-depth from some q None w = tt
  resolved-depth from some q (Some node) w = shallow_at node (some.0 ++ q, (resolved from q (Some node) w some.0 some.1).0)

  -- a subkey's node
  pub subkey_found : (node : Node) (index : ℕ) (result : Option Node) (p : Path) → IsAt now p node → IsSubkey (heap_of bins) root p (children_of (tree_in bins.bytes root) p) node index result
      → MatchOption result (length (children_of now.tree p) ≤ index) (λ child. (index < length (children_of now.tree p)) × IsAt now (get_or (children_of now.tree p) index []) child)
  subkey_found node index None p at s = of_tree (λ t. length (children_of t p) ≤ index) s
  subkey_found node index (Some child) p at s =
      let d = at.depth in
      let e = s.2 in
      let n = s.3 in
      subst (λ (k : Keys). (index < length (children_of k.tree p)) × IsAt k (get_or (children_of k.tree p) index []) child) view_is
      (s.0, record { offset = s.1; depth = omega (arith, d, e, n) })
