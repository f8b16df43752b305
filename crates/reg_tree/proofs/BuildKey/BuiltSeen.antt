-- A tree as it is seen, where a key was built, or wasn't.
use Rattle.std.proofs.Common.{◌≡◌, ℕ, Option, Some, None, [], ◌∷◌, length, refl, sym, subst, arith, length-append}
use Rattle.std.specs.Prelude.{Result, Ok, Err, OnOk, OnErr, IfOk, IfErr, IfSome}
use Rattle.std.specs.FinMap.{get, insert}
use Rattle.reg_names.specs.Names.{folded}
use Rattle.reg_heap.specs.Paths.{Path, Tree}
use Rattle.reg_heap.specs.Edits.{child_path, descriptor_of}
use Rattle.reg_arena.specs.Arena.{Bins, heap_of}
use Rattle.reg_arena.specs.declared.ArenaFault.{ArenaFault}
use Rattle.reg_arena.specs.declared.ArenaFault.TheVariants.{Full}
use Rattle.reg_security.specs.Rings.{DescriptorCells}
use Rattle.reg_tree.specs.declared.build.NewKey.{NewKey}
use Rattle.reg_tree.specs.declared.node.Node.{Node}
use Rattle.reg_tree.specs.BuiltKeys.{BuildsKey, LacksKeyRoom, MayBuild, built_key}
use Rattle.reg_tree.specs.TreeKeys.{Keys, tree_in, IsAt, IsThere, KeepsNodes}
use Rattle.reg_tree.specs.KeyLengths.{Lengths, ChangesLengths, NotesMade}
use Rattle.reg_tree.specs.Internal.DescriptorChange.{IsLike, KeepsFinds}
use Rattle.reg_tree.specs.Internal.KeyBuilding.{IsBuilt}
use Rattle.reg_tree.specs.Internal.LengthChanges.{LengthsChange, MadeLengths}
use Rattle.reg_tree.specs.Internal.TreeInvariant.{TreeInvariant, IsHere}
use Rattle.reg_tree.proofs.InsertKey.CreateKeepsNodes.{on_ok}
use Rattle.reg_tree.proofs.Invariant.NodeLemmas.{seen_as, here_at, there_at, of_tree, to_tree}

module _ (bins : Bins) (root : ℕ) {table : DescriptorCells} (holds : TreeInvariant bins.bytes root table) (now : Keys) (view_is : seen_as bins root ≡ now)
    (parent : Node) (key : NewKey) (room : (p : Path) → IsAt now p parent → MayBuild now.tree p key.name.now) where
  -- it may be built
  may_at : (p : Path) → IsAt now p parent → MayBuild (tree_in bins.bytes root) p key.name.now
  may_at p at = to_tree bins root holds now view_is (λ (tree : Tree). MayBuild tree p key.name.now) (room p at)

  pub may_there : IsThere now parent → (t : IsHere bins.bytes parent.offset) × (t.table ≡ table) × (parent.depth ≡ length t.path)
      × MayBuild (tree_in bins.bytes t.root) t.path key.name.now
  may_there some = (there_at bins root holds now view_is parent some, refl, some.1.depth, may_at some.0 some.1)

  -- a key that has the same descriptor
  pub like_there : (like : Option Node) → IfSome like (λ node. (q : Path) × IsAt now q node × (descriptor_of (get now.tree q) ≡ key.descriptor.now)) →
      IsLike bins.bytes root key.descriptor.now like
  like_there None l = tt
  like_there (Some node) l = (
    l.0,
    (here_at bins root holds now view_is node l.0 l.1).at,
    to_tree bins root holds now view_is (λ (tree : Tree). descriptor_of (get tree l.0) ≡ key.descriptor.now) l.2,
  )

  module _ (new : Bins) (after : DescriptorCells) (result : Result Node ArenaFault)
      (ok : (t : IsHere bins.bytes parent.offset) → t.table ≡ table → parent.depth ≡ length t.path → MayBuild (tree_in bins.bytes t.root) t.path key.name.now →
      IfOk result (λ node. IsBuilt bins.bytes new.bytes t.root after t.path key node)) where
    its : (p : Path) → IsAt now p parent → IfOk result (λ node. IsBuilt bins.bytes new.bytes root after p key node)
    its p at = ok (here_at bins root holds now view_is parent p at) refl at.depth (may_at p at)

    pub holds_built : IsThere now parent → OnErr result (new ≡ bins) → OnErr result (KeepsFinds table after) → TreeInvariant new.bytes root after
    holds_built some err kept = by result (its some.0 some.1) err kept
      where
        by : (r : Result Node ArenaFault) → IfOk r (λ node. IsBuilt bins.bytes new.bytes root after some.0 key node) → OnErr r (new ≡ bins) → OnErr r (KeepsFinds table after) →
            TreeInvariant new.bytes root after
        by (Ok node) b e k = b.holds
        by (Err fault) b e k = subst (λ (b : Bins). TreeInvariant b.bytes root after) (sym e) (record {
          keys = holds.keys;
          ring = holds.ring;
          shape = holds.shape;
          finds = k (heap_of bins) holds.ring holds.finds;
          classes = holds.classes;
        })

    pub built_seen : (p : Path) → IsAt now p parent →
        IfOk result (λ node. (tree_in new.bytes root ≡ insert now.tree (child_path p key.name.now) (built_key key)) × IsAt (seen_as new root) (child_path p key.name.now) node)
    built_seen p at = by result (its p at)
      where
        by : (r : Result Node ArenaFault) → IfOk r (λ node. IsBuilt bins.bytes new.bytes root after p key node) →
            IfOk r (λ node. (tree_in new.bytes root ≡ insert now.tree (child_path p key.name.now) (built_key key)) × IsAt (seen_as new root) (child_path p key.name.now) node)
        by (Ok node) b = (
          of_tree bins root holds now view_is (λ tree. tree_in new.bytes root ≡ insert tree (child_path p key.name.now) (built_key key)) b.tree,
          record { offset = b.offset; depth = (let d = b.depth in let l = length-append p (folded key.name.now ∷ []) in omega (arith, d, l)) },
        )
        by (Err fault) b = tt

    pub nodes_built : IsThere now parent → OnOk result (KeepsNodes now (seen_as new root))
    nodes_built some = by result (its some.0 some.1)
      where
        by : (r : Result Node ArenaFault) → IfOk r (λ node. IsBuilt bins.bytes new.bytes root after some.0 key node) → OnOk r (KeepsNodes now (seen_as new root))
        by (Ok node) b =
            subst (λ k. KeepsNodes k (seen_as new root)) view_is
            (λ q other at. record { offset = b.keeps q other.offset at.offset; depth = at.depth })
        by (Err fault) b = tt

  -- what it took
  pub builds_seen : (new : Bins) (result : Result Node ArenaFault) → ((t : IsHere bins.bytes parent.offset) → t.table ≡ table → parent.depth ≡ length t.path →
      MayBuild (tree_in bins.bytes t.root) t.path key.name.now → OnOk result (BuildsKey (seen_as bins t.root) (seen_as new t.root) t.path (built_key key))) →
      (p : Path) → IsAt now p parent → OnOk result (BuildsKey now (seen_as new root) p (built_key key))
  builds_seen new result builds p at =
      subst (λ (k : Keys). OnOk result (BuildsKey k (seen_as new root) p (built_key key))) view_is
      (builds (here_at bins root holds now view_is parent p at) refl at.depth (may_at p at))

  -- or what there was no room for
  pub lacks_seen : (result : Result Node ArenaFault) → ((t : IsHere bins.bytes parent.offset) → t.table ≡ table → parent.depth ≡ length t.path →
      MayBuild (tree_in bins.bytes t.root) t.path key.name.now → IfErr result (λ fault. fault ≡ Full → LacksKeyRoom (seen_as bins t.root) t.path (built_key key))) →
      (p : Path) → IsAt now p parent → (result ≡ Err Full) → LacksKeyRoom now p (built_key key)
  lacks_seen result lacks p at e =
      subst (λ (k : Keys). LacksKeyRoom k p (built_key key)) view_is
      (by result e (lacks (here_at bins root holds now view_is parent p at) refl at.depth (may_at p at)))
    where
      by : {X : Type 0} (r : Result Node ArenaFault) → r ≡ Err Full → IfErr r (λ fault. fault ≡ Full → X) → X
      by (Ok node) f l = absurd (cc (f))
      by (Err fault) f l = l (cc (f))

  -- the largest lengths
  pub lengths_built : (new : Bins) (result : Result Node ArenaFault) (change : Lengths → Lengths) → ((t : IsHere bins.bytes parent.offset) → t.table ≡ table → parent.depth ≡ length t.path →
      MayBuild (tree_in bins.bytes t.root) t.path key.name.now → OnOk result (LengthsChange (heap_of bins) (heap_of new) t.root t.path change)) →
      (p : Path) → IsAt now p parent → OnOk result (ChangesLengths now (seen_as new root) p change)
  lengths_built new result change ok p at =
      on_ok result
      (λ c. subst (λ (k : Keys). ChangesLengths k (seen_as new root) p change) view_is
      (record { here = λ n a. c.here n.offset a.offset; others = λ q n d a. c.others q n.offset d a.offset }))
      (ok (here_at bins root holds now view_is parent p at) refl at.depth (may_at p at))

  pub made_built : (new : Bins) (result : Result Node ArenaFault) → ((t : IsHere bins.bytes parent.offset) → t.table ≡ table → parent.depth ≡ length t.path →
      MayBuild (tree_in bins.bytes t.root) t.path key.name.now → OnOk result (MadeLengths (heap_of new) t.root t.path (key.name.now ∷ []))) →
      (p : Path) → IsAt now p parent → OnOk result (NotesMade (seen_as new root) p (key.name.now ∷ []))
  made_built new result ok p at =
      on_ok result (λ made front back node parts some there. made front back node.offset parts some there.offset)
      (ok (here_at bins root holds now view_is parent p at) refl at.depth (may_at p at))
