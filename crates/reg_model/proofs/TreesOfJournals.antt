-- A tree stays a tree: with the root, each key's parent, last names that are the keys' own, and values whose names differ.
use Rattle.std.proofs.Common.{◌≡◌, ℕ, ◌≤◌, Bool, true, false, nat_lt, cond, ◌==◌, List, [], ◌∷◌, ◌++◌, length, Option, Some, None, refl, sym, ap, ◌∙◌, subst, arith}
use Rattle.std.specs.Prelude.{IsSome}
use Rattle.std.specs.List.{list_any}
use Rattle.std.specs.Ordering.{eq_by_cmp}
use Rattle.std.specs.FinMap.{get, get-empty, insert, empty, contains_key}
use Rattle.std.proofs.lemmas.Bool.{and_parts}
use Rattle.std.proofs.lemmas.Bool.Decides.{nat_tests}
use Rattle.std.proofs.lemmas.Cmp.{eq_by_cmp_equiv}
use Rattle.reg_names.specs.Names.{path_of}
use Rattle.reg_heap.specs.Paths.{Path, Tree, Rec, path_cmp, is_child, children_of}
use Rattle.reg_heap.specs.Edits.{with_keys, without_key}
use Rattle.reg_heap.specs.Trees.{IsTree, IsSmallKey, IsWithinLimits, NamesDiffer}
use Rattle.reg_heap.proofs.ChildrenOfPath.{children-contain, named}
use Rattle.reg_model.specs.Worlds.{World, Handle, path_at, path_from, without_branch, without_contents, after}
use Rattle.reg_model.specs.Causes.{State, change_cause}
use Rattle.reg_model.specs.Histories.{replay, state_of, IsLegal}
use Rattle.reg_model.specs.declared.call.Change.{Change}
use Rattle.reg_model.specs.declared.call.Change.TheVariants.{OpenRoot, OpenKey, CreateKey, SetValue, DeleteValue, DeleteKey, DeleteTree, SetSecurity, Notify, Close}
use Rattle.reg_model.specs.declared.reply.Entry.{Entry}
use Rattle.reg_model.proofs.AcceptedCalls.{both_false, target-path, CreateMet, create-met, DeleteMet, delete-met}
use Rattle.reg_model.proofs.HandleInvariant.{path_total, Upright, has-put, stands-at, standing-after, target-below, path-below}
use Rattle.reg_model.proofs.JournalGrowth.{replay-push}
use Rattle.reg_model.proofs.LegalJournals.{by_entries}
use Rattle.reg_model.proofs.TreesOfChanges.{by-same, keeps-descriptor, keeps-with, keeps-without, snoc-long, some-of, tree-branch, tree-edited, tree-emptied, tree-with_keys, tree-without}

-- ---- a tree of one root

not-root : (p : Path) (name : List ℕ) → p ++ name ∷ [] ≡ [] → ⊥
not-root p name e = let l = ap length e in let s = snoc-long p name in omega (arith, l, s)

abbrev pub one_root : Rec → Tree
one_root r = insert empty [] r

empty-has : (p : Path) (r : Rec) → get {R = path_cmp} empty p ≡ Some r → ⊥
empty-has p r e = let none : None ≡ Some r = sym (get-empty path_cmp p) ∙ e in absurd (cc)

none-below : (r : Rec) (p : Path) (name : List ℕ) (r' : Rec) → get (one_root r) (p ++ name ∷ []) ≡ Some r' → ⊥
none-below r p name r' e = by-same empty [] r (λ _. ⊥) (p ++ name ∷ []) r' e (not-root p name) (λ was. absurd (empty-has _ r' was))

pub tree-root : (r : Rec) → NamesDiffer r.values → IsTree (one_root r)
tree-root r d = record {
  root = has-put empty [] r;
  parents = λ p name h. let x = some-of (get (one_root r) (p ++ name ∷ [])) h in absurd (none-below r p name x.0 x.1);
  names = λ p name r' e. absurd (none-below r p name r' e);
  apart = λ p r' e. by-same empty [] r (λ (k : Rec). NamesDiffer k.values) p r' e (λ same. d) (λ was. absurd (empty-has _ r' was));
}

-- a tree of one root within the limits
root-only : (r : Rec) (p : Path) → IsSome (get (one_root r) p) → p ≡ []
root-only r p h = let x = some-of (get (one_root r) p) h in by-same empty [] r (λ _. p ≡ []) p x.0 x.1 (λ same. same) (λ was. absurd (empty-has p x.0 was))

first-any : (q : Path) (qs : List Path) → list_any (eq_by_cmp path_cmp q) (q ∷ qs) ≡ true
first-any q qs = let o = eq_by_cmp_equiv path_total in rw (o.refl q) refl

childless : (r : Rec) (p : Path) (qs : List Path) → children_of (one_root r) p ≡ qs → length qs ≤ 0
childless r p [] e = omega arith
childless r p (q ∷ qs) e =
    let any = subst (λ (xs : List Path). list_any (eq_by_cmp path_cmp q) xs ≡ true) (sym e) (first-any q qs) in
    let both = and_parts (is_child p q) (contains_key (one_root r) q) (sym (children-contain (one_root r) p q) ∙ any) in
    let below = named p q both.0 in
    absurd (not-root p below.0 (sym below.1 ∙ root-only r q both.1))

pub limits-root : (r : Rec) → IsSmallKey r → IsWithinLimits (one_root r)
limits-root r k = record {
  keys = λ p r' e. by-same empty [] r IsSmallKey p r' e (λ same. k) (λ was. absurd (empty-has p r' was));
  few = λ p. let l = childless r p (children_of (one_root r) p) refl in omega (arith, l);
  shallow = λ p h. let l = ap length (root-only r p h) in omega (arith, l);
}

-- ---- after an accepted change

empty-of : (xs : List Path) → nat_lt 0 (length xs) ≡ false → xs ≡ []
empty-of [] e = refl
empty-of (x ∷ xs) e = let l : length (x ∷ xs) ≤ 0 = grind (arith, nat_tests, e) in absurd (omega (arith, l))

module _ (s : State) (e : Entry) (r : Upright s.world.tree s.world.handles) (i : IsTree s.world.tree) where
  abbrev tree : Tree
  tree = s.world.tree

  abbrev hs : List Handle
  hs = s.world.handles

  tree-created : (h : ℕ) (path : List ℕ) (mask : ℕ) (given : Option (List ℕ)) → CreateMet s e.session h path mask given →
      IsTree (with_keys tree (path_at e.session h hs) (path_of path) given e.moment)
  tree-created h path mask given m =
      tree-with_keys tree (path_at e.session h hs) (path_of path) given e.moment i
      (subst (λ (p : Path). IsSome (get tree p)) (sym (target-path e.session h hs m.target)) (stands-at tree e.session h hs m.target r.stand))

  tree-deleted : (h : ℕ) (path : List ℕ) → DeleteMet s e.session h path → IsTree (without_key tree (path_from e.session h hs path) e.moment)
  tree-deleted h path m =
      let p = path_from e.session h hs path in
      let b = both_false (nat_lt 0 (length (children_of tree p))) _ m.goes in
      tree-without tree p e.moment i (target-below (path_at e.session h hs) path m.good) (empty-of (children_of tree p) b.0)

  tree-tree : (h : ℕ) (path : List ℕ) (b : Bool) → (length path == 0) ≡ b →
      IsTree (cond b (without_contents s.world (path_at e.session h hs) e.moment) (without_branch s.world (path_from e.session h hs path) e.moment)).tree
  tree-tree h path true is = tree-emptied tree (path_at e.session h hs) e.moment i
  tree-tree h path false is = tree-branch tree (path_from e.session h hs path) e.moment i (path-below (path_at e.session h hs) path is)

  pub tree-after : (c : ℕ) → change_cause s e.session e.change c ≡ None → IsTree (after s.world e).tree
  unfolding after
  tree-after c = elim e.change as (λ (change : Change). change_cause s e.session change c ≡ None → IsTree (after s.world (record e { change = change })).tree) [
    | OpenRoot mask ↦ λ none. i
    | OpenKey h path mask ↦ λ none. i
    | CreateKey h path mask given ↦ λ none. tree-created h path mask given (create-met s e.session h path mask given c none)
    | SetValue h name kind bytes ↦ λ none. tree-edited tree (path_at e.session h hs) _ i (keeps-with name kind bytes e.moment)
    | DeleteValue h name ↦ λ none. tree-edited tree (path_at e.session h hs) _ i (keeps-without name e.moment)
    | DeleteKey h path ↦ λ none. tree-deleted h path (delete-met s e.session h path c none)
    | DeleteTree h path ↦ λ none. tree-tree h path (length path == 0) refl
    | SetSecurity h descriptor ↦ λ none. tree-edited tree (path_at e.session h hs) _ i (keeps-descriptor descriptor e.moment)
    | Notify h filter subtree ↦ λ none. i
    | Close h ↦ λ none. i
  ]

-- ---- after a legal journal

record Grown (t : Tree) (hs : List Handle) : Type 0 where
  upright : Upright t hs
  tree : IsTree t

grown-all : (base : ℕ) (origin : Tree) (es : List Entry) → IsLegal base origin es → IsTree origin → Grown (replay origin es).tree (replay origin es).handles
grown-all base origin es l i =
    by_entries base origin (λ past. Grown (replay origin past).tree (replay origin past).handles)
    (λ past e f g. subst (λ (w : World). Grown w.tree w.handles) (sym (replay-push origin past e)) (record {
      upright = standing-after (state_of base origin past) e g.upright 0 f.accepted;
      tree = tree-after (state_of base origin past) e g.upright g.tree 0 f.accepted;
    })) [] es (record { upright = record { root = i.root; stand = tt }; tree = i }) l

pub tree-stays : (base : ℕ) (origin : Tree) (es : List Entry) → IsLegal base origin es → IsTree origin → IsTree (replay origin es).tree
tree-stays base origin es l i = let g = grown-all base origin es l i in g.tree
