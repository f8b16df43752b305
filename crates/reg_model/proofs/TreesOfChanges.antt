-- A tree stays a tree where a key is put into it, changed or removed: with the root, each key's parent, last names that are the keys' own,
-- and values whose names differ.
use Rattle.std.proofs.Common.{◌≡◌, ◌≢◌, ℕ, ◌+◌, Bool, true, false, cond, is_some, unwrap_or, not, List, [], ◌∷◌, ◌++◌, length, Option, Some, None, refl, sym, ap, ◌∙◌, subst, arith}
use Rattle.std.proofs.Common.{length-append, true≢false}
use Rattle.std.specs.Prelude.{IsSome}
use Rattle.std.specs.List.{AllByRecursion, list_any}
use Rattle.std.specs.Ordering.{eq_by_cmp}
use Rattle.std.specs.FinMap.{get, insert, remove, contains_key, get-insert, get-remove, retain_keys}
use Rattle.std.specs.Cmp.Lexicographic.{nat_list_cmp_total}
use Rattle.std.proofs.lemmas.Bool.{false≢true}
use Rattle.std.proofs.lemmas.Cmp.{tied_itself}
use Rattle.reg_names.specs.Names.{folded}
use Rattle.reg_heap.specs.Paths.{Path, Tree, Rec, Member, path_cmp, children_of}
use Rattle.reg_heap.specs.Members.{values_with, values_without, same_name}
use Rattle.reg_heap.specs.Edits.{edited, at_time, above, with_key, with_keys, without_key, with_value, without_value, with_descriptor, has_child, child_path, made_key, descriptor_of, if_last}
use Rattle.reg_heap.specs.Edits.{is_within, is_under, without_tree, without_values, has_contents, emptied}
use Rattle.reg_heap.proofs.DeletedTrees.{get-past, within-deeper, under-deeper}
use Rattle.reg_heap.specs.Trees.{IsTree, NamesDiffer}
use Rattle.reg_heap.proofs.ChildrenOfPath.{children-contain, is_child-below, path-is}
use Rattle.reg_model.specs.Worlds.{same_path}
use Rattle.reg_model.proofs.HandleInvariant.{path_total, has-insert, has-edited, has-put, root-without, root-not_under}

-- ---- a path and one name more

pub snoc-long : (p : Path) (a : List ℕ) → length (p ++ a ∷ []) ≡ length p + 1
snoc-long p a = length-append p (a ∷ [])

abbrev head_of : Path → List ℕ
head_of [] = []
head_of (x ∷ xs) = x

abbrev tail_of : Path → Path
tail_of [] = []
tail_of (x ∷ xs) = xs

pub snoc-same : (p q : Path) (a b : List ℕ) → p ++ a ∷ [] ≡ q ++ b ∷ [] → (p ≡ q) × (a ≡ b)
snoc-same [] [] a b e = (refl, ap head_of e)
snoc-same [] (y ∷ q) a b e = let l = ap length e in let s = snoc-long q b in absurd (omega (arith, l, s))
snoc-same (x ∷ p) [] a b e = let l = ap length e in let s = snoc-long p a in absurd (omega (arith, l, s))
snoc-same (x ∷ p) (y ∷ q) a b e =
    let rest = snoc-same p q a b (ap tail_of e) in
    (ap (λ (z : List ℕ). z ∷ p) (ap head_of e) ∙ ap (λ (r : Path). y ∷ r) rest.0, rest.1)

-- ---- a key put into a tree

-- where a key may be put: its parent is there, its name folds to the path's last, and its values' names differ
pub record Belongs (t : Tree) (q : Path) (r : Rec) : Type 0 where
  pub parent : (p : Path) (name : List ℕ) → q ≡ p ++ name ∷ [] → IsSome (get t p)
  pub name : (p : Path) (name : List ℕ) → q ≡ p ++ name ∷ [] → folded r.name ≡ name
  pub apart : NamesDiffer r.values

pub some-of : {A : Type 0} (o : Option A) → is_some o ≡ true → (x : A) × (o ≡ Some x)
some-of None h = absurd (false≢true h)
some-of (Some x) h = (x, refl)

some-is : {A : Type 0} (x y : A) → Some x ≡ Some y → x ≡ y
some-is x y e = cc

module _ (t : Tree) (q : Path) (r : Rec) where
  pub by-same : (P : Rec → Type 0) (x : Path) (r' : Rec) → get (insert t q r) x ≡ Some r' → (x ≡ q → P r) → (get t x ≡ Some r' → P r') → P r'
  by-same P x r' e here there = by (eq_by_cmp path_cmp x q) refl
    where
      by : (b : Bool) → eq_by_cmp path_cmp x q ≡ b → P r'
      by true same =
          let is : Some r ≡ Some r' = sym (get-insert path_total t q r x ∙ ap (λ (b : Bool). cond b (Some r) (get t x)) same) ∙ e in
          subst P (some-is r r' is) (here (path-is x q same))
      by false other = there (sym (get-insert path_total t q r x ∙ ap (λ (b : Bool). cond b (Some r) (get t x)) other) ∙ e)

  pub tree-put : IsTree t → Belongs t q r → IsTree (insert t q r)
  tree-put i b = record {
    root = has-insert t q r [] i.root;
    parents = λ p name h. let x = some-of (get (insert t q r) (p ++ name ∷ [])) h in
        has-insert t q r p (by-same (λ _. IsSome (get t p)) (p ++ name ∷ []) x.0 x.1 (λ same. b.parent p name (sym same)) (λ was. i.parents p name (rw was refl)));
    names = λ p name r' e. by-same (λ (k : Rec). folded k.name ≡ name) (p ++ name ∷ []) r' e (λ same. b.name p name (sym same)) (λ was. i.names p name r' was);
    apart = λ p r' e. by-same (λ (k : Rec). NamesDiffer k.values) p r' e (λ same. b.apart) (λ was. i.apart p r' was);
  }

-- ---- a key changed in its place

-- a change of a key that keeps its name, and values whose names differ
pub record Keeps (f : Rec → Rec) : Type 0 where
  pub name : (r : Rec) → (f r).name ≡ r.name
  pub apart : (r : Rec) → NamesDiffer r.values → NamesDiffer (f r).values

pub tree-edited : (t : Tree) (q : Path) (f : Rec → Rec) → IsTree t → Keeps f → IsTree (edited t q f)
tree-edited t q f i k = by (get t q) refl
  where
    by : (o : Option Rec) → get t q ≡ o → IsTree (elim o as (λ _. Tree) [ None ↦ t | Some r ↦ insert t q (f r) ])
    by None e = i
    by (Some r) e = tree-put t q (f r) i (record {
      parent = λ p name same. i.parents p name (subst (λ (x : Path). IsSome (get t x)) same (rw e refl));
      name = λ p name same. ap folded (k.name r) ∙ i.names p name r (subst (λ (x : Path). get t x ≡ Some r) same e);
      apart = k.apart r (i.apart q r e);
    })

pub keeps-time : (moment : ℕ) → Keeps (at_time moment)
keeps-time moment = record { name = λ r. refl; apart = λ r a. a }

-- ---- values set and removed

same-names : (a b : List ℕ) → same_name a b ≡ false → folded a ≢ folded b
same-names a b e same = absurd (true≢false (sym (same-true a b same) ∙ e))
  where
    same-true : (a b : List ℕ) → folded a ≡ folded b → same_name a b ≡ true
    same-true a b same = rw (same, tied_itself nat_list_cmp_total (folded b)) refl

-- a name that differs from those of some values differs from those after one more is set
apart-with : (v : Member) (name : List ℕ) (kind : ℕ) (bytes : List ℕ) (vs : List Member) → folded v.name ≢ folded name →
    AllByRecursion (λ (w : Member). folded v.name ≢ folded w.name) vs →
    AllByRecursion (λ (w : Member). folded v.name ≢ folded w.name) (values_with name kind bytes vs)
apart-with v name kind bytes [] ne a = (ne, tt)
apart-with v name kind bytes (x ∷ vs) ne a = by (same_name x.name name) (apart-with v name kind bytes vs ne a.1)
  where
    by : (b : Bool) → AllByRecursion (λ (w : Member). folded v.name ≢ folded w.name) (values_with name kind bytes vs) →
        AllByRecursion (λ (w : Member). folded v.name ≢ folded w.name) (cond b (record { name = x.name; kind = kind; bytes = bytes } ∷ vs) (x ∷ values_with name kind bytes vs))
    by true rest = a
    by false rest = (a.0, rest)

differ-with : (name : List ℕ) (kind : ℕ) (bytes : List ℕ) (vs : List Member) → NamesDiffer vs → NamesDiffer (values_with name kind bytes vs)
differ-with name kind bytes [] d = (tt, tt)
differ-with name kind bytes (x ∷ vs) d = by (same_name x.name name) refl (differ-with name kind bytes vs d.1)
  where
    by : (b : Bool) → same_name x.name name ≡ b → NamesDiffer (values_with name kind bytes vs) →
        NamesDiffer (cond b (record { name = x.name; kind = kind; bytes = bytes } ∷ vs) (x ∷ values_with name kind bytes vs))
    by true e rest = d
    by false e rest = (apart-with x name kind bytes vs (same-names x.name name e) d.0, rest)

all-without : (P : Member → Type 0) (name : List ℕ) (vs : List Member) → AllByRecursion P vs → AllByRecursion P (values_without name vs)
all-without P name [] a = tt
all-without P name (x ∷ vs) a = by (same_name x.name name) (all-without P name vs a.1)
  where
    by : (b : Bool) → AllByRecursion P (values_without name vs) → AllByRecursion P (cond b vs (x ∷ values_without name vs))
    by true rest = a.1
    by false rest = (a.0, rest)

differ-without : (name : List ℕ) (vs : List Member) → NamesDiffer vs → NamesDiffer (values_without name vs)
differ-without name [] d = tt
differ-without name (x ∷ vs) d = by (same_name x.name name) (differ-without name vs d.1)
  where
    by : (b : Bool) → NamesDiffer (values_without name vs) → NamesDiffer (cond b vs (x ∷ values_without name vs))
    by true rest = d.1
    by false rest = (all-without (λ (w : Member). folded x.name ≢ folded w.name) name vs d.0, rest)

pub keeps-with : (name : List ℕ) (kind : ℕ) (bytes : List ℕ) (moment : ℕ) → Keeps (with_value name kind bytes moment)
keeps-with name kind bytes moment = record { name = λ r. refl; apart = λ r a. differ-with name kind bytes r.values a }

pub keeps-without : (name : List ℕ) (moment : ℕ) → Keeps (without_value name moment)
keeps-without name moment = record { name = λ r. refl; apart = λ r a. differ-without name r.values a }

-- ---- a descriptor set

pub keeps-descriptor : (descriptor : List ℕ) (moment : ℕ) → Keeps (with_descriptor descriptor moment)
keeps-descriptor descriptor moment = record { name = λ r. refl; apart = λ r a. a }

-- ---- keys made

tree-with_key : (t : Tree) (p : Path) (name : List ℕ) (given : Option (List ℕ)) (moment : ℕ) → IsTree t → IsSome (get t p) → IsTree (with_key t p name given moment)
tree-with_key t p name given moment i there =
    let u = edited t p (at_time moment) in
    tree-put u (child_path p name) (made_key name (unwrap_or given (descriptor_of (get t p))) moment) (tree-edited t p (at_time moment) i (keeps-time moment)) (record {
      parent = λ q last same. subst (λ (x : Path). IsSome (get u x)) (snoc-same p q (folded name) last same).0 (has-edited t p (at_time moment) p there);
      name = λ q last same. (snoc-same p q (folded name) last same).1;
      apart = tt;
    })

tree-step : (b : Bool) (t : Tree) (p : Path) (name : List ℕ) (given : Option (List ℕ)) (moment : ℕ) → IsTree t → IsSome (get t p) → IsTree (cond b t (with_key t p name given moment))
tree-step true t p name given moment i there = i
tree-step false t p name given moment i there = tree-with_key t p name given moment i there

has-next : (b : Bool) (t : Tree) (p : Path) (name : List ℕ) (given : Option (List ℕ)) (moment : ℕ) → has_child t p name ≡ b →
    IsSome (get (cond b t (with_key t p name given moment)) (child_path p name))
has-next true t p name given moment h = h
has-next false t p name given moment h =
    has-put (edited t p (at_time moment)) (child_path p name) (made_key name (unwrap_or given (descriptor_of (get t p))) moment)

pub tree-with_keys : (t : Tree) (p : Path) (names : List (List ℕ)) (given : Option (List ℕ)) (moment : ℕ) → IsTree t → IsSome (get t p) → IsTree (with_keys t p names given moment)
tree-with_keys t p [] given moment i there = i
tree-with_keys t p (name ∷ names) given moment i there =
    tree-with_keys (cond (has_child t p name) t (with_key t p name (if_last names given) moment)) (child_path p name) names given moment
    (tree-step (has_child t p name) t p name (if_last names given) moment i there) (has-next (has_child t p name) t p name (if_last names given) moment refl)

-- ---- a key removed

gone : (u : Tree) (p : Path) (x : Path) (r : Rec) → get (remove u p) x ≡ Some r → (eq_by_cmp path_cmp x p ≡ false) × (get u x ≡ Some r)
gone u p x r e = by (eq_by_cmp path_cmp x p) refl
  where
    none : None ≡ Some r → ⊥
    none n = absurd (cc)

    by : (b : Bool) → eq_by_cmp path_cmp x p ≡ b → (eq_by_cmp path_cmp x p ≡ false) × (get u x ≡ Some r)
    by true same = absurd (none (sym (get-remove path_total u p x ∙ ap (λ (b : Bool). cond b None (get u x)) same) ∙ e))
    by false other = (other, sym (get-remove path_total u p x ∙ ap (λ (b : Bool). cond b None (get u x)) other) ∙ e)

-- a key of a tree without the key at p, where that has none below it
tree-removed : (u : Tree) (p : Path) → IsTree u → same_path [] p ≡ false → ((name : List ℕ) → IsSome (get u (p ++ name ∷ [])) → ⊥) → IsTree (remove u p)
tree-removed u p i below childless = record {
  root = rw (get-remove path_total u p [], below) i.root;
  parents = λ q name h. let x = some-of (get (remove u p) (q ++ name ∷ [])) h in let was = gone u p (q ++ name ∷ []) x.0 x.1 in
      stays-there q name (rw was.1 refl);
  names = λ q name r e. i.names q name r (gone u p (q ++ name ∷ []) r e).1;
  apart = λ q r e. i.apart q r (gone u p q r e).1;
}
  where
    stays-there : (q : Path) (name : List ℕ) → IsSome (get u (q ++ name ∷ [])) → IsSome (get (remove u p) q)
    stays-there q name h = by (eq_by_cmp path_cmp q p) refl
      where
        by : (b : Bool) → eq_by_cmp path_cmp q p ≡ b → IsSome (get (remove u p) q)
        by true same = absurd (childless name (subst (λ (x : Path). IsSome (get u (x ++ name ∷ []))) (path-is q p same) h))
        by false other = rw (get-remove path_total u p q, other) (i.parents q name h)

has-edited-back : (t : Tree) (q : Path) (f : Rec → Rec) (x : Path) → IsSome (get (edited t q f) x) → IsSome (get t x)
has-edited-back t q f x = by (get t q) refl
  where
    by : (o : Option Rec) → get t q ≡ o → IsSome (get (elim o as (λ _. Tree) [ None ↦ t | Some r ↦ insert t q (f r) ]) x) → IsSome (get t x)
    by None e h = h
    by (Some r) e h =
        let is = some-of (get (insert t q (f r)) x) h in
        by-same t q (f r) (λ _. IsSome (get t x)) x is.0 is.1 (λ same. subst (λ (y : Path). IsSome (get t y)) (sym same) (rw e refl)) (λ was. rw was refl)

contains-some : (t : Tree) (x : Path) → IsSome (get t x) → contains_key t x ≡ true
contains-some t x h = h

-- a key that has none right below it has none by any name
no-child : (t : Tree) (p : Path) → children_of t p ≡ [] → (name : List ℕ) → IsSome (get t (p ++ name ∷ [])) → ⊥
no-child t p none name h =
    let has : list_any (eq_by_cmp path_cmp (p ++ name ∷ [])) (children_of t p) ≡ true =
    children-contain t p (p ++ name ∷ []) ∙ rw (is_child-below p name, contains-some t (p ++ name ∷ []) h) refl in
    false≢true (subst (λ (xs : List Path). list_any (eq_by_cmp path_cmp (p ++ name ∷ [])) xs ≡ true) none has)

pub tree-without : (t : Tree) (p : Path) (moment : ℕ) → IsTree t → same_path [] p ≡ false → children_of t p ≡ [] → IsTree (without_key t p moment)
tree-without t p moment i below none =
    tree-removed (edited t (above p) (at_time moment)) p (tree-edited t (above p) (at_time moment) i (keeps-time moment)) below
    (λ name h. no-child t p none name (has-edited-back t (above p) (at_time moment) (p ++ name ∷ []) h))

-- ---- keys removed with all keys below them

-- a tree without the keys that pass a test, which the root doesn't, and each key below one does
tree-past : (u : Tree) (gone : Path → Bool) → IsTree u → gone [] ≡ false → ((q : Path) (name : List ℕ) → gone q ≡ true → gone (q ++ name ∷ []) ≡ true) →
    IsTree (retain_keys u (λ (q : Path). not (gone q)))
tree-past u gone i root deeper = record {
  root = rw (get-past u gone [], root) i.root;
  parents = λ q name h. let x = some-of (get left (q ++ name ∷ [])) h in let was = stays (q ++ name ∷ []) x.0 x.1 in
      stays-there q name was.0 (rw was.1 refl);
  names = λ q name r e. i.names q name r (stays (q ++ name ∷ []) r e).1;
  apart = λ q r e. i.apart q r (stays q r e).1;
}
  where
    left : Tree
    left = retain_keys u (λ (q : Path). not (gone q))

    stays : (x : Path) (r : Rec) → get (retain_keys u (λ (q : Path). not (gone q))) x ≡ Some r → (gone x ≡ false) × (get u x ≡ Some r)
    stays x r e = by (gone x) refl (sym (get-past u gone x) ∙ e)
      where
        by : (b : Bool) → gone x ≡ b → cond b None (get u x) ≡ Some r → (gone x ≡ false) × (get u x ≡ Some r)
        by true is e = absurd (cc)
        by false is e = (is, e)

    stays-there : (q : Path) (name : List ℕ) → gone (q ++ name ∷ []) ≡ false → IsSome (get u (q ++ name ∷ [])) → IsSome (get (retain_keys u (λ (x : Path). not (gone x))) q)
    stays-there q name below h = by (gone q) refl
      where
        by : (b : Bool) → gone q ≡ b → IsSome (get (retain_keys u (λ (x : Path). not (gone x))) q)
        by true is = absurd (false≢true (sym below ∙ deeper q name is))
        by false other = rw (get-past u gone q, other) (i.parents q name h)

keeps-empty : (moment : ℕ) → Keeps (without_values moment)
keeps-empty moment = record { name = λ r. refl; apart = λ r a. tt }

pub tree-branch : (t : Tree) (p : Path) (moment : ℕ) → IsTree t → same_path [] p ≡ false → IsTree (without_tree t p moment)
tree-branch t p moment i below =
    tree-past (edited t (above p) (at_time moment)) (is_within p) (tree-edited t (above p) (at_time moment) i (keeps-time moment)) (root-without p below)
    (λ q name is. within-deeper p q (name ∷ []) is)

pub tree-emptied : (t : Tree) (p : Path) (moment : ℕ) → IsTree t → IsTree (emptied t p moment)
tree-emptied t p moment i = by (has_contents t p)
  where
    by : (b : Bool) → IsTree (cond b (retain_keys (edited t p (without_values moment)) (λ (q : Path). not (is_under p q))) t)
    by true =
        tree-past (edited t p (without_values moment)) (is_under p) (tree-edited t p (without_values moment) i (keeps-empty moment)) (root-not_under p)
        (λ q name is. under-deeper p q (name ∷ []) is)
    by false = i
