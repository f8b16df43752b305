-- A name as a path of one name; and a key of that name made right below another that has none.
use Rattle.std.proofs.Common.{◌≡◌, ◌≢◌, ◌⊎◌, inl, inr, ℕ, ◌+◌, ◌<◌, ◌≤◌, ◌==◌, ◌&&◌, not, nat_lt, nat_le, true, false, cond, is_some, List, [], ◌∷◌, length, refl, sym, ap, ◌∙◌, arith}
use Rattle.std.specs.List.{list_all}
use Rattle.std.proofs.lemmas.Bool.{and_parts, and_from, ltb-true}
use Rattle.reg_names.specs.declared.TheConstants.{KEY_NAME_LIMIT, PATH_LIMIT}
use Rattle.reg_names.specs.Names.{is_key_name, is_key_name_byte, is_value_name_byte, has_no_backslash, path_of}
use Rattle.reg_names.proofs.PathTexts.{path_of-text_of}
use Rattle.reg_heap.specs.declared.limits.TheConstants.{MADE_LIMIT, SUBKEYS_LIMIT}
use Rattle.reg_heap.specs.Paths.{Path, Tree, children_of}
use Rattle.reg_heap.specs.Edits.{child_path, has_child, missing, last_there, are_too_many}
use Rattle.reg_arena.specs.Cells.{cell_at}
use Rattle.reg_tree.specs.declared.node.Node.{Node as TreeNode}
use Rattle.reg_tree.specs.BuiltKeys.{MayBuild}
use Rattle.reg_tree.specs.TreeKeys.{tree_in}
use Rattle.reg_tree.specs.Internal.KeyCreation.{AreTooMany}
use Rattle.reg_tree.specs.Internal.PathWalks.{Reaches}
use Rattle.reg_tree.specs.Internal.TreeInvariant.{IsHere}
use Rattle.reg_tree.proofs.InsertKey.CreatePath.{missing-are}
use Rattle.reg_tree.proofs.InsertKey.KeyLimits.{test-false}

-- ---- the path

bytes-good : (name : List ℕ) → is_key_name name ≡ true → list_all is_key_name_byte name ≡ true
bytes-good name e =
    (and_parts (list_all is_key_name_byte name) (nat_lt 0 (length name))
    (and_parts (list_all is_key_name_byte name && nat_lt 0 (length name)) (nat_le (length name) KEY_NAME_LIMIT) e).0).0

unparted : (name : List ℕ) → list_all is_key_name_byte name ≡ true → has_no_backslash name ≡ true
unparted [] e = refl
unparted (b ∷ bs) e =
    let both = and_parts (is_key_name_byte b) (list_all is_key_name_byte bs) e in
    and_from (not (b == 92)) (has_no_backslash bs) (and_parts (is_value_name_byte b) (not (b == 92)) both.0).1 (unparted bs both.1)

name-some : (name : List ℕ) → is_key_name name ≡ true → name ≢ []
name-some name e none =
    let some = ltb-true 0 (length name) (and_parts (list_all is_key_name_byte name) (nat_lt 0 (length name))
    (and_parts (list_all is_key_name_byte name && nat_lt 0 (length name)) (nat_le (length name) KEY_NAME_LIMIT) e).0).1 in
    let n = ap length none in
    absurd (omega (arith, some, n))

pub name-path : (name : List ℕ) → is_key_name name ≡ true → path_of name ≡ name ∷ []
name-path name e =
    path_of-text_of (name ∷ []) (and_from (has_no_backslash name) true (unparted name (bytes-good name e)) refl)
    (λ same. name-some name e (ap (λ (names : List (List ℕ)). first names) same))
  where
    first : List (List ℕ) → List ℕ
    first [] = []
    first (x ∷ xs) = x

-- ---- the key

module _ (tree : Tree) (p : Path) (name : List ℕ) (may : MayBuild tree p name) where
  free : has_child tree p name ≡ false
  free = ap is_some may.free

  pub all-missing : missing tree p (name ∷ []) ≡ name ∷ []
  all-missing = ap (λ b. cond b [] (name ∷ [])) free

  pub last-there : last_there tree p (name ∷ []) ≡ p
  last-there = ap (λ b. cond b (child_path p name) p) free

  too-many : AreTooMany tree p (name ∷ []) → ⊥
  too-many m = by m.many
    where
      by : (MADE_LIMIT < length (missing tree p (name ∷ []))) ⊎ ((PATH_LIMIT < length p + length (name ∷ [])) ⊎
          (SUBKEYS_LIMIT ≤ length (children_of tree (last_there tree p (name ∷ []))))) → ⊥
      by (inl l) = let n = ap length all-missing in absurd (omega (arith, l, n))
      by (inr (inl l)) = let d = may.deep in absurd (omega (arith, l, d))
      by (inr (inr l)) = let n = ap (λ p. length (children_of tree p)) last-there in let f = may.few in absurd (omega (arith, l, n, f))

  pub not-many : are_too_many tree p (name ∷ []) ≡ false
  not-many = sym (test-false tree p (name ∷ []) too-many)

-- a path of the name leads to the key itself, and the name is missing
module _ (old : List ℕ) (parent node : TreeNode) (t : IsHere old parent.offset) (name rest : List ℕ) (good : is_key_name name ≡ true)
    (may : MayBuild (tree_in old t.root) t.path name) (r : Reaches (cell_at old) parent name node rest) where
  pub few-names : are_too_many (tree_in old t.root) t.path (path_of name) ≡ false
  few-names = ap (are_too_many (tree_in old t.root) t.path) (name-path name good) ∙ not-many (tree_in old t.root) t.path name may

  pub some-rest : rest ≢ []
  some-rest e =
      let left = sym (missing-are old parent t name node rest r 0) ∙ (ap (missing (tree_in old t.root) t.path) (name-path name good) ∙ all-missing (tree_in old t.root) t.path name may) in
      let n = ap length (sym (ap path_of e) ∙ left) in
      absurd (omega (arith, n))
