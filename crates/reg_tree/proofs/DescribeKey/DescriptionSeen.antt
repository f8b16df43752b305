-- A tree as it is seen, where a key was described anew, or wasn't.
use Rattle.std.proofs.Common.{◌≡◌, List, ℕ, refl, sym, subst}
use Rattle.std.specs.Prelude.{Result, Ok, Err, OnOk, OnErr, IfErr}
use Rattle.reg_heap.specs.Paths.{Path, Rec}
use Rattle.reg_heap.specs.Edits.{edited}
use Rattle.reg_arena.specs.Arena.{Bins, heap_of}
use Rattle.reg_arena.specs.EachCell.{GrowsFor}
use Rattle.reg_arena.specs.declared.ArenaFault.{ArenaFault}
use Rattle.reg_arena.specs.declared.ArenaFault.TheVariants.{Full}
use Rattle.reg_security.specs.Rings.{DescriptorCells}
use Rattle.reg_values.specs.ValueLists.{Makes}
use Rattle.reg_tree.specs.declared.node.Node.{Node}
use Rattle.reg_tree.specs.CellSizes.{security_sizes, LacksRoom}
use Rattle.reg_tree.specs.KeyLengths.{KeepsLengths}
use Rattle.reg_tree.specs.TreeKeys.{Keys, tree_in, IsAt, IsThere, KeepsNodes}
use Rattle.reg_tree.specs.Internal.DescriptorChange.{KeepsFinds}
use Rattle.reg_tree.specs.Internal.LengthChanges.{LengthsStay}
use Rattle.reg_tree.specs.Internal.TreeInvariant.{TreeInvariant, IsHere, IsChanged}
use Rattle.reg_tree.proofs.Invariant.LengthsSeen.{lengths_seen}
use Rattle.reg_tree.proofs.Invariant.NodeLemmas.{keeps, on_ok, seen_as, here_at, there_at, of_tree}

module _ (bins : Bins) (root : ℕ) {table : DescriptorCells} (holds : TreeInvariant bins.bytes root table) (now : Keys) (view_is : seen_as bins root ≡ now)
    (new : Bins) (after : DescriptorCells) (result : Result (Unit {0}) ArenaFault) (node : Node) where
  abbrev Here : Type 0
  Here = IsHere bins.bytes node.offset

  module _ (f : Rec → Rec) (ok : (t : Here) → t.table ≡ table → OnOk result (IsChanged bins.bytes new.bytes t.root after t.path f)) where
    -- a table that finds what it found is the tree's as well
    pub described_holds : IsThere now node → OnErr result (new ≡ bins) → OnErr result (KeepsFinds table after) → TreeInvariant new.bytes root after
    described_holds some err kept = by result (ok (there_at bins root holds now view_is node some) refl) err kept
      where
        by : (r : Result (Unit {0}) ArenaFault) → OnOk r (IsChanged bins.bytes new.bytes root after some.0 f) → OnErr r (new ≡ bins) →
            OnErr r (KeepsFinds table after) → TreeInvariant new.bytes root after
        by (Ok x) c e k = c.holds
        by (Err x) c e k =
            subst (λ (b : Bins). TreeInvariant b.bytes root after) (sym e)
            (record { keys = holds.keys; ring = holds.ring; shape = holds.shape; finds = k (heap_of bins) holds.ring holds.finds; classes = holds.classes })

    pub described_tree : (p : Path) → IsAt now p node → OnOk result (tree_in new.bytes root ≡ edited now.tree p f)
    described_tree p at =
        on_ok result (λ c. of_tree bins root holds now view_is (λ t. tree_in new.bytes root ≡ edited t p f) c.tree)
        (ok (here_at bins root holds now view_is node p at) refl)

    pub described_nodes : IsThere now node → OnOk result (KeepsNodes now (seen_as new root))
    described_nodes some =
        on_ok result (λ c. subst (λ k. KeepsNodes k (seen_as new root)) view_is (keeps (seen_as bins root) (seen_as new root) refl c.offsets))
        (ok (there_at bins root holds now view_is node some) refl)

  pub described_lengths : ((t : Here) → t.table ≡ table → OnOk result (LengthsStay (heap_of bins) (heap_of new) t.root)) → IsThere now node →
      OnOk result (KeepsLengths now (seen_as new root))
  described_lengths ok some = on_ok result (λ c. lengths_seen bins root now view_is new c) (ok (there_at bins root holds now view_is node some) refl)

  pub described_cells : (descriptor : List ℕ) →
      ((t : Here) → t.table ≡ table → OnOk result (Makes (heap_of bins) (heap_of new) (security_sizes (tree_in bins.bytes t.root) descriptor))) →
      IsThere now node → OnOk result (Makes (heap_of now.bins) (heap_of new) (security_sizes now.tree descriptor))
  described_cells descriptor ok some =
      subst (λ (k : Keys). OnOk result (Makes (heap_of k.bins) (heap_of new) (security_sizes k.tree descriptor))) view_is
      (ok (there_at bins root holds now view_is node some) refl)

  pub described_growth : (descriptor : List ℕ) →
      ((t : Here) → t.table ≡ table → OnOk result (GrowsFor bins.bytes new.bytes (security_sizes (tree_in bins.bytes t.root) descriptor))) →
      IsThere now node → OnOk result (GrowsFor now.bins.bytes new.bytes (security_sizes now.tree descriptor))
  described_growth descriptor ok some =
      subst (λ (k : Keys). OnOk result (GrowsFor k.bins.bytes new.bytes (security_sizes k.tree descriptor))) view_is
      (ok (there_at bins root holds now view_is node some) refl)

  pub described_space : (descriptor : List ℕ) →
      ((t : Here) → t.table ≡ table → IfErr result (λ fault. fault ≡ Full → LacksRoom bins (security_sizes (tree_in bins.bytes t.root) descriptor))) →
      IsThere now node → IfErr result (λ fault. fault ≡ Full → LacksRoom now.bins (security_sizes now.tree descriptor))
  described_space descriptor space some =
      subst (λ (k : Keys). IfErr result (λ fault. fault ≡ Full → LacksRoom k.bins (security_sizes k.tree descriptor))) view_is
      (space (there_at bins root holds now view_is node some) refl)
