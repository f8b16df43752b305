-- What was found by a handle, as commits take it.
use Rattle.std.proofs.Common.{◌≡◌, ◌≢◌, ℕ, ◌<◌, ◌≤◌, Bool, true, false, is_some, List, [], ◌∷◌, ◌++◌, map, length, Option, Some, None, refl, sym, ap, ◌∙◌, subst, true≢false, arith}
use Rattle.std.specs.Prelude.{◌==◌, MatchOption}
use Rattle.std.proofs.lemmas.Grind.{common_steps}
use Rattle.std.proofs.lemmas.Bool.Decides.{nat_tests}
use Rattle.reg_names.specs.declared.TheConstants.{PATH_LIMIT}
use Rattle.reg_heap.specs.declared.limits.TheConstants.{VALUES_LIMIT}
use Rattle.reg_names.specs.Names.{folded, path_of, is_path}
use Rattle.reg_heap.specs.Paths.{Path, Member}
use Rattle.reg_heap.specs.Members.{value_named, index_named}
use Rattle.reg_heap.specs.Edits.{folded_path, missing, are_too_many}
use Rattle.reg_model.specs.Worlds.{path_at, path_from, same_path, IsStanding}
use Rattle.reg_model.specs.Causes.{is_bad_target, no_value_room}
use Rattle.reg_model.proofs.HandleInvariant.{Has, target-below}
use Rattle.reg_tree.specs.TreeKeys.{IsAt}
use Rattle.reg_tree.specs.declared.node.Node.{Node}
use Rattle.reg_tree.proofs.ValueChange.ValueAtPlace.{named_if}
use Rattle.reg_calls.specs.declared.store.Store.{Store}
use Rattle.reg_calls.specs.Internal.Stores.{IsTarget}
use Rattle.reg_calls.specs.Internal.Admissions.{IsTextOf}
use Rattle.reg_calls.proofs.HandleLookUps.{target-at, target-from, target-has}
use Rattle.reg_calls.proofs.TableAndLimitLemmas.{path-short}

module _ (store : Store) (session h : ℕ) (t : IsTarget store session h) where
  -- a handle's key, and the key at a path from it
  pub found-at : (node : Node) → IsAt store.tree t.path node → IsAt store.tree (path_at session h store.handles.handles) node
  found-at node at = subst (λ (p : Path). IsAt store.tree p node) (sym (target-at store session h t)) at

  pub found-from : (path : List ℕ) (node : Node) → IsAt store.tree (t.path ++ folded_path path) node → IsAt store.tree (path_from session h store.handles.handles path) node
  found-from path node at = subst (λ (p : Path). IsAt store.tree p node) (sym (target-from store session h t path)) at

  -- the names of that path that are missing
  pub missing-at : (path rest : List ℕ) → path_of rest ≡ missing store.tree.tree t.path (path_of path) →
      path_of rest ≡ missing store.tree.tree (path_at session h store.handles.handles) (path_of path)
  missing-at path rest e = e ∙ ap (λ (p : Path). missing store.tree.tree p (path_of path)) (sym (target-at store session h t))

  -- the text of that path
  module _ (above path : List ℕ) (leads : path_of above ≡ t.path) where
    pub found-text : (text : List ℕ) → path_of text ≡ path_of above ++ folded_path path → is_path text ≡ true → map folded (path_of text) ≡ path_of text → IsTextOf store session h path text
    found-text text names valid again =
        record { names = names ∙ ap (λ (p : Path). p ++ folded_path path) leads ∙ sym (target-from store session h t path); valid = valid; folded = again }

    -- it has at most 512 names, where the key is there, and where it may be made
    pub there-short : ((q : Path) → Has store.tree.tree q → length q ≤ PATH_LIMIT) → Has store.tree.tree (t.path ++ folded_path path) → length (path_of above ++ folded_path path) ≤ PATH_LIMIT
    there-short shallow there = subst (λ (p : Path). length (p ++ folded_path path) ≤ PATH_LIMIT) (sym leads) (shallow (t.path ++ folded_path path) there)

    pub made-short : ((q : Path) → Has store.tree.tree q → length q ≤ PATH_LIMIT) → IsStanding store.tree.tree store.handles.handles → are_too_many store.tree.tree t.path (path_of path) ≡ false →
        length (path_of above ++ folded_path path) ≤ PATH_LIMIT
    made-short shallow stand few =
        subst (λ (p : Path). length (p ++ folded_path path) ≤ PATH_LIMIT) (sym leads) (path-short store.tree.tree t.path (path_of path) shallow (target-has store session h t stand) few)

-- a path that isn't bad as a target has a name
pub target-names : (path : List ℕ) → is_bad_target path ≡ false → path_of path ≢ []
target-names path good none = true≢false (sym (ap (λ (names : List (List ℕ)). same_path [] (map folded names)) none) ∙ target-below [] path good)

-- ---- places of values

-- a value without an index has room, where that isn't refused
pub has-room : (name : List ℕ) (members : List Member) (place : Option ℕ) → place ≡ None → place ≡ index_named name members → no_value_room name members ≡ false → length members < VALUES_LIMIT
has-room name members place none at room =
    let lacks : is_some (value_named name members) ≡ false = sym (named_if name members) ∙ ap (λ (o : Option ℕ). is_some o) (sym at ∙ none) in
    grind (arith, nat_tests, common_steps, lacks, room)

-- ---- what was admitted with a text or without one

pub some-part : {A : Type 0} (o : Option A) (x : A) → o ≡ Some x → (P : Type 0) (Q : A → Type 0) → MatchOption o P Q → Q x
some-part o x e P Q m = subst (λ o. MatchOption o P Q) e m

pub none-part : {A : Type 0} (o : Option A) → o ≡ None → (P : Type 0) (Q : A → Type 0) → MatchOption o P Q → P
none-part o e P Q m = subst (λ o. MatchOption o P Q) e m

-- ---- texts without names

pub is-empty : (text : List ℕ) (e : Bool) → e ≡ (length text == 0) → e ≡ true → text ≡ []
is-empty [] e is f = refl
is-empty (x ∷ xs) e is f = let none : (length (x ∷ xs) == 0) ≡ true = sym is ∙ f in absurd (grind (arith, nat_tests))

pub not-empty : (text : List ℕ) (e : Bool) → e ≡ (length text == 0) → e ≡ false → text ≢ []
not-empty text e is f none = true≢false (sym (ap (λ (t : List ℕ). length t == 0) none) ∙ (sym is ∙ f))
