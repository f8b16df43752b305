-- Whether a key may be built right below another.
use Rattle.std.proofs.Common.{◌≡◌, ◌⊎◌, inl, inr, ℕ, ◌+◌, ◌<◌, ◌≤◌, true, false, cond, is_some, Option, Some, None, ◌++◌, List, [], ◌∷◌, length, sym, ap, ◌∙◌, subst, arith}
use Rattle.std.specs.FinMap.{get}
use Rattle.std.proofs.lemmas.Bool.{cases_lt}
use Rattle.reg_names.specs.declared.TheConstants.{PATH_LIMIT}
use Rattle.reg_names.specs.Names.{folded, is_key_name, path_of}
use Rattle.reg_heap.specs.declared.limits.TheConstants.{MADE_LIMIT, SUBKEYS_LIMIT}
use Rattle.reg_heap.specs.Paths.{Path, Tree, children_of}
use Rattle.reg_heap.specs.Edits.{child_path, folded_path, has_child, missing, last_there, are_too_many}
use Rattle.reg_tree.specs.declared.node.Node.{Node}
use Rattle.reg_tree.specs.BuiltKeys.{MayBuild}
use Rattle.reg_tree.specs.TreeKeys.{Keys, IsResolved}
use Rattle.reg_tree.specs.Internal.KeyCreation.{AreTooMany}
use Rattle.reg_tree.proofs.BuildKey.OneName.{name-path}
use Rattle.reg_tree.proofs.InsertKey.KeyLimits.{test-too_many, not_many}

module _ (tree : Tree) (p : Path) (name : List ℕ) (good : is_key_name name ≡ true) (free : get tree (child_path p name) ≡ None) where
  absent : has_child tree p name ≡ false
  absent = ap is_some free

  all-missing : missing tree p (name ∷ []) ≡ name ∷ []
  all-missing = ap (λ b. cond b [] (name ∷ [])) absent

  last-there : last_there tree p (name ∷ []) ≡ p
  last-there = ap (λ b. cond b (child_path p name) p) absent

  one-name : are_too_many tree p (path_of name) ≡ are_too_many tree p (name ∷ [])
  one-name = ap (are_too_many tree p) (name-path name good)

  crowded : (PATH_LIMIT < length p + 1) ⊎ (SUBKEYS_LIMIT ≤ length (children_of tree p)) → AreTooMany tree p (name ∷ [])
  crowded many =
      record {
        some = λ e. (let n = ap length (sym all-missing ∙ e) in absurd (omega (arith, n)));
        many = elim many [
          | inl deep ↦ inr (inl deep)
          | inr few ↦ inr (inr (subst (λ (q : Path). SUBKEYS_LIMIT ≤ length (children_of tree q)) (sym last-there) few))
        ];
      }

  pub may-build : are_too_many tree p (path_of name) ≡ false → MayBuild tree p name
  may-build e =
      record {
        free = free;
        deep = elim (cases_lt (length p) PATH_LIMIT) [
          | inl less ↦ less
          | inr more ↦ absurd (none (inl (omega (arith, more))))
        ];
        few = elim (cases_lt (length (children_of tree p)) SUBKEYS_LIMIT) [
          | inl less ↦ less
          | inr more ↦ absurd (none (inr more))
        ];
      }
    where
      none : (PATH_LIMIT < length p + 1) ⊎ (SUBKEYS_LIMIT ≤ length (children_of tree p)) → ⊥
      none many = not_many tree p (name ∷ []) (sym one-name ∙ e) (crowded many)

  pub refused : are_too_many tree p (path_of name) ≡ true → (PATH_LIMIT < length p + 1) ⊎ (SUBKEYS_LIMIT ≤ length (children_of tree p))
  refused e = by (test-too_many tree p (name ∷ []) (sym one-name ∙ e)).many
    where
      by : (MADE_LIMIT < length (missing tree p (name ∷ []))) ⊎ ((PATH_LIMIT < length p + length (name ∷ [])) ⊎
          (SUBKEYS_LIMIT ≤ length (children_of tree (last_there tree p (name ∷ []))))) →
          (PATH_LIMIT < length p + 1) ⊎ (SUBKEYS_LIMIT ≤ length (children_of tree p))
      by (inl l) = let n = ap length all-missing in absurd (omega (arith, l, n))
      by (inr (inl l)) = inl (omega (arith, l))
      by (inr (inr l)) = inr (subst (λ (q : Path). SUBKEYS_LIMIT ≤ length (children_of tree q)) last-there l)

-- ---- what a look-up says

pub resolved-test : (keys : Keys) (p : Path) (name : List ℕ) → folded_path name ≡ folded name ∷ [] → (found : Option Node) →
    IsResolved keys (p ++ folded_path name) found → is_some found ≡ is_some (get keys.tree (child_path p name))
resolved-test keys p name one None none = sym (ap is_some (ap (λ (w : Path). get keys.tree (p ++ w)) (sym one) ∙ none))
resolved-test keys p name one (Some node) there = sym (ap (λ (w : Path). is_some (get keys.tree (p ++ w))) (sym one) ∙ there.1)
