-- The keys of two trees that a text leads to.
use Rattle.std.proofs.Common.{◌≡◌, ℕ, List, Some, ◌∙◌, ap}
use Rattle.reg_heap.specs.Paths.{Path, Tree}
use Rattle.reg_tree_text.specs.PathQueries.{key_at}
use Rattle.reg_diff.proofs.BranchNames.{same_path}

-- where both have one there, these are at one path
pub record IsInBoth (old new : Tree) (text : List ℕ) : Type 0 where
  pub path : Path
  pub old_key : key_at old text ≡ Some path
  pub new_key : key_at new text ≡ Some path

pub in-both : (old new : Tree) (text : List ℕ) (p q : Path) → key_at old text ≡ Some p → key_at new text ≡ Some q → IsInBoth old new text
in-both old new text p q here there =
    record { path = p; old_key = here; new_key = there ∙ ap (λ (x : Path). Some x) (same_path old new text p q here there) }
