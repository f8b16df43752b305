-- The largest lengths of a tree's keys, as they are seen by their nodes.
use Rattle.std.proofs.Common.{◌≡◌, ℕ, subst}
use Rattle.std.specs.Prelude.{Result, OnOk}
use Rattle.reg_heap.specs.Paths.{Path}
use Rattle.reg_arena.specs.Arena.{Bins, heap_of}
use Rattle.reg_security.specs.Rings.{DescriptorCells}
use Rattle.reg_tree.specs.declared.node.Node.{Node}
use Rattle.reg_tree.specs.TreeKeys.{Keys, IsAt, IsThere}
use Rattle.reg_tree.specs.KeyLengths.{Lengths, ChangesLengths, KeepsLengths}
use Rattle.reg_tree.specs.Internal.LengthChanges.{LengthsChange, LengthsStay}
use Rattle.reg_tree.specs.Internal.TreeInvariant.{TreeInvariant, IsHere}
use Rattle.reg_tree.proofs.Invariant.NodeLemmas.{on_ok, seen_as, here_at}

-- each key that is still there has its largest lengths, as it is seen
pub lengths_seen : (bins : Bins) (root : ℕ) (now : Keys) → seen_as bins root ≡ now → (new : Bins) → LengthsStay (heap_of bins) (heap_of new) root → KeepsLengths now (seen_as new root)
lengths_seen bins root now view_is new stay = subst (λ k. KeepsLengths k (seen_as new root)) view_is (λ q n a b. stay q n.offset a.offset b.offset)

module _ {E : Type 0} (bins : Bins) (root : ℕ) {table : DescriptorCells} (holds : TreeInvariant bins.bytes root table) (now : Keys)
    (view_is : seen_as bins root ≡ now) (new : Bins) (result : Result (Unit {0}) E) (node : Node) where
  pub lengths_changed : (change : Lengths → Lengths) → ((t : IsHere bins.bytes node.offset) → OnOk result (LengthsChange (heap_of bins) (heap_of new) t.root t.path change)) →
      (p : Path) → IsAt now p node → OnOk result (ChangesLengths now (seen_as new root) p change)
  lengths_changed change ok p at =
      on_ok result
      (λ c. subst (λ k. ChangesLengths k (seen_as new root) p change) view_is
      (record { here = λ n a. c.here n.offset a.offset; others = λ q n d a. c.others q n.offset d a.offset }))
      (ok (here_at bins root holds now view_is node p at))

  pub lengths_kept : ((t : IsHere bins.bytes node.offset) → OnOk result (LengthsStay (heap_of bins) (heap_of new) t.root)) → IsThere now node → OnOk result (KeepsLengths now (seen_as new root))
  lengths_kept ok some = on_ok result (λ c. lengths_seen bins root now view_is new c) (ok (here_at bins root holds now view_is node some.0 some.1))
