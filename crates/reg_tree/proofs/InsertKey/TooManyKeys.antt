-- Whether keys to be made are too many.
use Rattle.std.proofs.Common.{◌≡◌, ◌⊎◌, inl, inr, ◌↔◌, ℕ, ◌+◌, ◌≤◌, ◌<◌, true, nat_le, List, length, sym, ◌∙◌, arith}
use Rattle.std.proofs.lemmas.Bool.Decides.{nat_tests}
use Rattle.reg_names.specs.declared.TheConstants.{PATH_LIMIT}
use Rattle.reg_heap.specs.declared.limits.TheConstants.{SUBKEYS_LIMIT, MADE_LIMIT}
use Rattle.reg_heap.specs.Paths.{children_of}
use Rattle.reg_arena.specs.Cells.{cell_at}
use Rattle.reg_tree.specs.Internal.KeyNodeChanges.{HasSubkeysList}
use Rattle.reg_tree.specs.TreeKeys.{tree_in}
use Rattle.reg_tree.specs.Internal.TreeInvariant.{IsHere}
use Rattle.reg_tree.proofs.DeleteKey.DeleteKeyFaults.{number}
use Rattle.reg_tree.proofs.Invariant.KeyOfTree.{key_is, branch}

-- a key's number of subkeys is how many keys are below it
subkeys-told : (bytes : List ℕ) (key : ℕ) (t : IsHere bytes key) (count list : ℕ) → HasSubkeysList (cell_at bytes) key count list → length (children_of (tree_in bytes t.root) t.path) ≡ count
subkeys-told bytes key t count list has = number bytes key t ∙ sym (has (branch bytes key t).node.key (key_is bytes key t)).0

third : (limit most deep names depth children count : ℕ) → names ≤ most → depth + names ≤ deep → children ≡ count →
    (nat_le limit count ≡ true) ↔ ((most < names) ⊎ ((deep < depth + names) ⊎ (limit ≤ children)))
third limit most deep names depth children count few shallow told = (
  λ e. inr (inr (grind (arith, nat_tests))),
  λ many. by many,
)
  where
    by : (most < names) ⊎ ((deep < depth + names) ⊎ (limit ≤ children)) → nat_le limit count ≡ true
    by (inl m) = absurd (omega (arith, m, few))
    by (inr (inl d)) = absurd (omega (arith, d, shallow))
    by (inr (inr s)) = grind (arith, nat_tests)

-- neither the names nor the path they make are too many
pub many-below : (bytes : List ℕ) (key : ℕ) (count list : ℕ) → HasSubkeysList (cell_at bytes) key count list → (number_of : ℕ) → number_of ≡ count →
    (names depth : ℕ) → names ≤ MADE_LIMIT → depth + names ≤ PATH_LIMIT → (t : IsHere bytes key)
    → (nat_le SUBKEYS_LIMIT number_of ≡ true) ↔ ((MADE_LIMIT < names) ⊎ ((PATH_LIMIT < depth + names) ⊎ (SUBKEYS_LIMIT ≤ length (children_of (tree_in bytes t.root) t.path))))
many-below bytes key count list has number_of is names depth few shallow t = third SUBKEYS_LIMIT MADE_LIMIT PATH_LIMIT names depth _ number_of few shallow
    (subkeys-told bytes key t count list has ∙ sym is)
