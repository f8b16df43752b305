-- The cells that setting a value and building values takes, and how the bins grow for them.
use Rattle.std.proofs.Common.{◌≡◌, ℕ, ◌≤◌, List, length, sym, ◌∙◌, subst}
use Rattle.std.specs.Prelude.{Result, Ok, Err, OnOk}
use Rattle.reg_heap.specs.Heaps.{Heap}
use Rattle.reg_arena.specs.Arena.{Bins, heap_of}
use Rattle.reg_arena.specs.EachCell.{GrowsFor}
use Rattle.reg_arena.specs.declared.ArenaFault.{ArenaFault}
use Rattle.reg_values.specs.ValueLists.{KeepsSizes, Makes}
use Rattle.reg_tree.specs.BuiltKeys.{TakesCells}
use Rattle.reg_tree.specs.TreeKeys.{Keys}
use Rattle.reg_tree.specs.Internal.KeyNodeChanges.{SameSizes}
use Rattle.reg_tree.proofs.Invariant.NodeLemmas.{seen_as}

-- a cell keeps its size where cells are only written over
pub stay_after : (h h1 h2 : Heap) → KeepsSizes h h1 → SameSizes h1 h2 → KeepsSizes h h2
stay_after h h1 h2 stay same z before after = (same z).1 ∙ stay z before (sym (same z).0 ∙ after)

-- as it is seen
module _ (bins : Bins) (root : ℕ) (now : Keys) (view_is : seen_as bins root ≡ now) (new : Bins)
    (result : Result (Unit {0}) ArenaFault) where
  pub takes_seen : (sizes : Keys → List ℕ) → OnOk result (Makes (heap_of bins) (heap_of new) (sizes (seen_as bins root))) →
      OnOk result (KeepsSizes (heap_of bins) (heap_of new)) → OnOk result (GrowsFor bins.bytes new.bytes (sizes (seen_as bins root))) →
      OnOk result (length bins.bytes ≤ length new.bytes) → OnOk result (TakesCells now (seen_as new root) (sizes now))
  takes_seen sizes cells stay growth kept =
      subst (λ (k : Keys). OnOk result (TakesCells k (seen_as new root) (sizes k))) view_is (by result cells stay growth kept)
    where
      by : (r : Result (Unit {0}) ArenaFault) → OnOk r (Makes (heap_of bins) (heap_of new) (sizes (seen_as bins root))) →
          OnOk r (KeepsSizes (heap_of bins) (heap_of new)) → OnOk r (GrowsFor bins.bytes new.bytes (sizes (seen_as bins root))) →
          OnOk r (length bins.bytes ≤ length new.bytes) →
          OnOk r (TakesCells (seen_as bins root) (seen_as new root) (sizes (seen_as bins root)))
      by (Ok x) c s g k = record { cells = c; stay = s; growth = g; kept = k }
      by (Err x) c s g k = tt
