use Rattle.std.proofs.Common.{◌≡◌, ℕ, Some}
use Rattle.std.specs.FinMap.{get, insert}
use Rattle.reg_heap.specs.Paths.{Path, Rec}
use Rattle.reg_tree.specs.TreeKeys.{IsAt, KeepsNodes}
use Rattle.reg_copy.specs.Internal.Copying.{front_copy}
use Rattle.reg_copy.proofs.keys.copy_values.Given as goal

abbrev pub invariant-loop-index : goal.invariant-loop-index
invariant-loop-index l =
    KeepsNodes l.initial.target l.target
    × ((p q : Path) → (r : Rec) → (marks : ℕ) → IsAt l.source p l.node → get l.source.tree p ≡ Some r → IsAt l.initial.target q l.copy →
    get l.initial.target.tree q ≡ Some (front_copy marks 0 r) →
    l.target.tree ≡ insert l.initial.target.tree q (front_copy marks l.index r))
