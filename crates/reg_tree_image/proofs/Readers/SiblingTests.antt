-- No sibling has the name of a key: what the tree's look-up says of the keys that were told.
use Rattle.std.proofs.Common.{◌≡◌, ◌≢◌, ℕ, ◌<◌, ◌==◌, ◌||◌, ◌&&◌, nat_lt, nat_le, not, Bool, true, false, cond, Option, Some, None}
use Rattle.std.proofs.Common.{is_some, IsSome, List, [], ◌∷◌, ◌++◌, map}
use Rattle.std.proofs.Common.{length, refl, sym, ap, ◌∙◌, subst, arith}
use Rattle.std.specs.List.{list_any, list_all}
use Rattle.std.specs.Ordering.{eq_by_cmp}
use Rattle.std.specs.FinMap.{get, find, from_entries, get-from_entries}
use Rattle.std.proofs.lemmas.Bool.{false≢true}
use Rattle.reg_names.specs.declared.TheConstants.{KEY_NAME_LIMIT, PATH_LIMIT}
use Rattle.reg_names.specs.Names.{folded, is_key_name, is_key_name_byte, is_value_name_byte, has_no_backslash, path_of, is_path}
use Rattle.reg_names.specs.Names.{are_key_names}
use Rattle.reg_names.proofs.PathTexts.{path_of-text_of}
use Rattle.std.proofs.lemmas.Bool.Decides.{nat_tests}
use Rattle.reg_heap.specs.Paths.{Path, Rec, Tree, path_cmp}
use Rattle.reg_heap.specs.Edits.{child_path, folded_path}
use Rattle.reg_heap.proofs.ChildrenOfPath.{path-is}
use Rattle.reg_shape.proofs.Refinement.SpeltTrees.{path_total}
use Rattle.reg_tree.specs.declared.node.Node.{Node}
use Rattle.reg_tree.specs.TreeKeys.{Keys, IsResolved}
use Rattle.reg_tree.proofs.InsertKey.PathGrowth.{path-self}
use Rattle.reg_tree_image.specs.WalkSteps.{Seen}
use Rattle.reg_tree_image.specs.LoadingWalk.{is_free}
use Rattle.reg_tree_image.specs.Images.{tree_told}

same-either : (p q : Path) → eq_by_cmp path_cmp p q ≡ eq_by_cmp path_cmp q p
same-either p q = by (eq_by_cmp path_cmp p q) refl (eq_by_cmp path_cmp q p) refl
  where
    by : (a : Bool) → eq_by_cmp path_cmp p q ≡ a → (b : Bool) → eq_by_cmp path_cmp q p ≡ b → a ≡ b
    by true e true f = refl
    by false e false f = refl
    by true e false f = sym (sym f ∙ subst (λ q. eq_by_cmp path_cmp q p ≡ true) (path-is p q e) (path-self p))
    by false e true f = sym e ∙ subst (λ p. eq_by_cmp path_cmp p q ≡ true) (path-is q p f) (path-self q)

free-found : (p : Path) (told : List (Path × Rec)) →
    list_any (λ (e : Path × Rec). eq_by_cmp path_cmp e.0 p) told ≡ is_some (find path_cmp p told)
free-found p [] = refl
free-found p (e ∷ told) = ap (λ b. b || list_any (λ (e : Path × Rec). eq_by_cmp path_cmp e.0 p) told) (same-either e.0 p)
    ∙ by (free-found p told) (eq_by_cmp path_cmp p e.0)
  where
    by : list_any (λ (e : Path × Rec). eq_by_cmp path_cmp e.0 p) told ≡ is_some (find path_cmp p told) → (b : Bool) →
        (b || list_any (λ (e : Path × Rec). eq_by_cmp path_cmp e.0 p) told) ≡ is_some (cond b (Some e.1) (find path_cmp p told))
    by rest true = refl
    by rest false = rest

-- no key was told at a path where the tree of what was told has none
pub free-is : (p : Path) (told : List (Path × Rec)) → is_free p told ≡ not (is_some (get (from_entries {R = path_cmp} told) p))
free-is p told = ap not (free-found p told ∙ ap is_some (sym (get-from_entries path_total told p)))

-- ---- a name as a path

one-name : (limit : ℕ) → 0 < limit → (names : List (List ℕ)) (name : List ℕ) → names ≡ name ∷ [] → is_key_name name ≡ true →
    are_key_names limit names ≡ true
unfolding are_key_names
one-name limit l names name e k = rw e (rw k (few limit l))
  where
    few : (n : ℕ) → 0 < n → nat_le 1 n ≡ true
    few n l = grind (arith, nat_tests)

no-backslash : (name : List ℕ) → list_all is_key_name_byte name ≡ true → has_no_backslash name ≡ true
no-backslash [] e = refl
no-backslash (b ∷ name) e = by (no-backslash name) (is_value_name_byte b) (not (b == 92)) (list_all is_key_name_byte name) refl e
  where
    by : (list_all is_key_name_byte name ≡ true → has_no_backslash name ≡ true) → (v n r : Bool) → list_all is_key_name_byte name ≡ r →
        ((v && n) && r) ≡ true → (n && has_no_backslash name) ≡ true
    by rest true true true q e = rest q
    by rest true true false q e = absurd (false≢true e)
    by rest true false r q e = absurd (false≢true e)
    by rest false n r q e = absurd (false≢true e)

record IsKeyName (name : List ℕ) : Type 0 where
  good : list_all is_key_name_byte name ≡ true
  some : nat_lt 0 (length name) ≡ true

key-name-open : (name : List ℕ) → is_key_name name ≡ true → IsKeyName name
key-name-open name k = by (list_all is_key_name_byte name) (nat_lt 0 (length name)) (nat_le (length name) KEY_NAME_LIMIT) refl refl k
  where
    by : (a b c : Bool) → list_all is_key_name_byte name ≡ a → nat_lt 0 (length name) ≡ b → (a && b && c) ≡ true → IsKeyName name
    by true true c p q e = record { good = p; some = q }
    by true false c p q e = absurd (false≢true e)
    by false b c p q e = absurd (false≢true e)

-- a key's name is the path of one name
pub name-path : (name : List ℕ) → is_key_name name ≡ true → path_of name ≡ name ∷ []
name-path name k =
    let o = key-name-open name k in
    path_of-text_of (name ∷ []) (ap (λ b. b && true) (no-backslash name o.good))
    (λ e. absurd (some name o.some (same_head name [] [] [] e)))
  where
    same_head : (x y : List ℕ) (xs ys : List (List ℕ)) → ◌≡◌ {A = List (List ℕ)} (x ∷ xs) (y ∷ ys) → x ≡ y
    same_head x y xs ys e = ap (λ (ns : List (List ℕ)). first ns) e
      where
        first : List (List ℕ) → List ℕ
        first [] = []
        first (n ∷ ns) = n

    some : (name : List ℕ) → nat_lt 0 (length name) ≡ true → name ≡ [] → ⊥
    some name l e = false≢true (sym (ap (λ (n : List ℕ). nat_lt 0 (length n)) e) ∙ l)

pub path-valid : (name given : List ℕ) → given ≡ name → is_key_name name ≡ true → is_path given ≡ true
path-valid name given e k = one-name PATH_LIMIT (omega arith) (path_of given) name (ap path_of e ∙ name-path name k) k

-- the path that a look-up below a key goes
looked : (p : Path) (name given : List ℕ) → given ≡ name → is_key_name name ≡ true → p ++ folded_path given ≡ child_path p name
looked p name given e k = ap (λ n. p ++ folded_path n) e ∙ ap (λ ns. p ++ map folded ns) (name-path name k)

-- what the look-up says of the path of a name below a key
pub free-below : (keys : Keys) (p : Path) (name given : List ℕ) → given ≡ name → is_key_name name ≡ true → (found : Option Node) →
    IsResolved keys (p ++ folded_path given) found → is_some found ≡ false → get keys.tree (child_path p name) ≡ None
free-below keys p name given e k None r n = subst (λ q. get keys.tree q ≡ None) (looked p name given e k) r
free-below keys p name given e k (Some node) r n = absurd (false≢true (sym n))

pub taken-below : (keys : Keys) (seen : Seen) → keys.tree ≡ tree_told seen → (p : Path) (name given : List ℕ) → given ≡ name →
    is_key_name name ≡ true → (found : Option Node) → IsResolved keys (p ++ folded_path given) found → is_some found ≡ true →
    IsSome (get (tree_told seen) (child_path p name))
taken-below keys seen t p name given e k None r n = absurd (false≢true n)
taken-below keys seen t p name given e k (Some node) r n =
    subst (λ (tree : Tree). IsSome (get tree (child_path p name))) t (subst (λ q. IsSome (get keys.tree q)) (looked p name given e k) r.1)

-- ---- what a walk left of a path

pub none-left : (text : List ℕ) (e : Bool) → e ≡ (length text == 0) → e ≡ true → text ≡ []
none-left [] e h k = refl
none-left (b ∷ bs) e h k =
    let z : (length (b ∷ bs) == 0) ≡ false = grind (arith, nat_tests) in
    absurd (false≢true (sym (h ∙ z) ∙ k))

pub some-left : (text : List ℕ) (e : Bool) → e ≡ (length text == 0) → e ≡ false → text ≢ []
some-left [] e h k n = false≢true (sym k ∙ h)
some-left (b ∷ bs) e h k n = let z = ap length n in absurd (omega (arith, z))
