-- What each kind of entry does to a tree: to whether a key is at a path, and to its values.
use Rattle.std.proofs.Common.{◌≡◌, ◌≢◌, ℕ, ◌==◌, Bool, true, false, cond, is_some, List, [], ◌∷◌, ◌++◌, length, map, drop, Option}
use Rattle.std.proofs.Common.{Some, None}
use Rattle.std.proofs.Common.{IsSome, refl, sym, ap, ◌∙◌, subst, arith, append_assoc}
use Rattle.std.specs.FinMap.{get}
use Rattle.std.proofs.lemmas.Bool.{false≢true}
use Rattle.std.proofs.lemmas.Bool.Decides.{nat_tests}
use Rattle.reg_names.specs.Names.{folded}
use Rattle.reg_heap.specs.Paths.{Path, Tree, Rec, Member}
use Rattle.reg_heap.specs.Members.{same_name, value_named}
use Rattle.reg_heap.specs.Edits.{values_of, values_at, edited, above, at_time, with_value, without_value, with_key, with_keys, has_child}
use Rattle.reg_heap.specs.Edits.{child_path, if_last, folded_path, is_within, without_tree}
use Rattle.reg_heap.specs.Trees.{IsTree}
use Rattle.reg_heap.proofs.ChildrenOfPath.{path-is}
use Rattle.reg_heap.proofs.DeletedTrees.{within-rest, within-append, get-without_tree}
use Rattle.reg_model.specs.Worlds.{same_path}
use Rattle.reg_model.proofs.HandleInvariant.{has-made}
use Rattle.reg_model.proofs.TreesOfChanges.{tree-edited, tree-with_keys, tree-branch, keeps-with, keeps-without}
use Rattle.reg_dotreg_writer.proofs.NamesOnWay.{front_there}
use Rattle.reg_dotreg_import.specs.Imports.{without_any_key, without_any_value}
use Rattle.reg_dotreg_law.proofs.SeenKeys.{Seen, seen, shown, is_same, some-shown, values_seen, values-shown, seen-edited}
use Rattle.reg_dotreg_law.proofs.SeenKeys.{seen-timed, seen-made}
use Rattle.reg_dotreg_law.proofs.SetValues.{at-itself}
use Rattle.reg_dotreg_law.proofs.ChildPaths.{no-true, none-below}
use Rattle.reg_dotreg_law.proofs.NamedValues.{named-same, without-same, without-other, spelt, with-same, with-other}

pub no-values : (o : Option Rec) → is_some o ≡ false → values_of o ≡ []
no-values None e = refl
no-values (Some r) e = absurd (cc)

no-member : (o : Option Member) → is_some o ≡ false → o ≡ None
no-member None e = refl
no-member (Some m) e = absurd (cc)

-- ---- keys made

module _ (moment : ℕ) where
  abbrev step : Tree → Path → List ℕ → Tree
  step t p m = cond (has_child t p m) t (with_key t p m None moment)

  none-given : (names : List (List ℕ)) → if_last names None ≡ None
  none-given [] = refl
  none-given (m ∷ names) = refl

  first-made : (t : Tree) (p : Path) (m : List ℕ) (names : List (List ℕ)) →
      with_keys t p (m ∷ names) None moment ≡ with_keys (step t p m) (child_path p m) names None moment
  first-made t p m names =
      ap (λ (g : Option (List ℕ)). with_keys (cond (has_child t p m) t (with_key t p m g moment)) (child_path p m) names None moment)
      (none-given names)

  -- no values change
  step-values : (t : Tree) (p : Path) (m : List ℕ) (x : Path) → values_at (step t p m) x ≡ values_at t x
  step-values t p m x = by (has_child t p m) refl
    where
      made : is_some (get t (child_path p m)) ≡ false → (b : Bool) → is_same x (child_path p m) ≡ b →
          values_seen (cond b (Some (m, [])) (seen t x)) ≡ values_at t x
      made missing true same =
          sym (subst (λ (y : Path). values_at t y ≡ []) (sym (path-is x (child_path p m) same))
          (no-values (get t (child_path p m)) missing))
      made missing false other = sym (values-shown (get t x))

      by : (b : Bool) → has_child t p m ≡ b → values_at (cond b t (with_key t p m None moment)) x ≡ values_at t x
      by true e = refl
      by false e =
          values-shown (get (with_key t p m None moment) x)
          ∙ (ap values_seen (seen-made t p m moment x) ∙ made e (is_same x (child_path p m)) refl)

  pub keys-values : (names : List (List ℕ)) (t : Tree) (p x : Path) → values_at (with_keys t p names None moment) x ≡ values_at t x
  keys-values [] t p x = refl
  keys-values (m ∷ names) t p x =
      ap (λ (u : Tree). values_at u x) (first-made t p m names)
      ∙ (keys-values names (step t p m) (child_path p m) x ∙ step-values t p m x)

  -- no key comes but on the way
  step-else : (t : Tree) (p : Path) (m : List ℕ) (x : Path) → is_same x (child_path p m) ≡ false →
      is_some (get (step t p m) x) ≡ is_some (get t x)
  step-else t p m x other = by (has_child t p m)
    where
      by : (b : Bool) → is_some (get (cond b t (with_key t p m None moment)) x) ≡ is_some (get t x)
      by true = refl
      by false =
          sym (some-shown (get (with_key t p m None moment) x))
          ∙ (ap (λ (s : Seen). is_some s) (seen-made t p m moment x)
          ∙ (ap (λ (b : Bool). is_some (cond b (Some (m, [])) (seen t x))) other ∙ some-shown (get t x)))

  pub keys-else : (names : List (List ℕ)) (t : Tree) (p x : Path) → is_within x (p ++ map folded names) ≡ false →
      is_some (get (with_keys t p names None moment) x) ≡ is_some (get t x)
  keys-else [] t p x out = refl
  keys-else (m ∷ names) t p x out =
      let child : Path = child_path p m in
      let longer : child ++ map folded names ≡ p ++ folded m ∷ map folded names = append_assoc p (folded m ∷ []) (map folded names) in
      let past : is_within x (child ++ map folded names) ≡ false = ap (is_within x) longer ∙ out in
      let other : is_same x child ≡ false =
      no-true (is_same x child) (λ e.
      false≢true (sym past ∙ subst (λ (y : Path). is_within y (child ++ map folded names) ≡ true) (sym (path-is x child e))
      (within-append child (map folded names)))) in
      ap (λ (u : Tree). is_some (get u x)) (first-made t p m names)
      ∙ (keys-else names (step t p m) child x past ∙ step-else t p m x other)

  -- the last is there, and all on the way to it
  pub keys-last : (names : List (List ℕ)) (t : Tree) → IsTree t → IsSome (get (with_keys t [] names None moment) (map folded names))
  keys-last names t i = has-made t [] names None moment i.root

  pub keys-tree : (names : List (List ℕ)) (t : Tree) → IsTree t → IsTree (with_keys t [] names None moment)
  keys-tree names t i = tree-with_keys t [] names None moment i i.root

  pub keys-way : (names : List (List ℕ)) (t : Tree) (x : Path) → IsTree t → is_within x (map folded names) ≡ true →
      is_some (get (with_keys t [] names None moment) x) ≡ true
  keys-way names t x i is =
      let u : Tree = with_keys t [] names None moment in
      front_there u (keys-tree names t i) x (drop (length x) (map folded names))
      (subst (λ (y : Path). IsSome (get u y)) (within-rest x (map folded names) is) (keys-last names t i))

  -- ---- a key gone with all below it

  shown-past : (b : Bool) (o : Option Rec) → shown (cond b None o) ≡ cond b None (shown o)
  shown-past true o = refl
  shown-past false o = refl

  past-none : (b : Bool) (s : Seen) → (b ≡ true → s ≡ None) → s ≡ cond b None s
  past-none true s h = h refl
  past-none false s h = refl

  absent-past : (t : Tree) (q x : Path) → IsTree t → is_some (get t q) ≡ false → seen t x ≡ cond (is_within q x) None (seen t x)
  absent-past t q x i missing =
      past-none (is_within q x) (seen t x) (λ is.
      ap shown (ap (get t) (within-rest q x is) ∙ none-below t i q (drop (length q) x) (none (get t q) missing)))
    where
      none : (o : Option Rec) → is_some o ≡ false → o ≡ None
      none None e = refl
      none (Some r) e = absurd (cc)

  branch-past : (t : Tree) (q x : Path) → seen (without_tree t q moment) x ≡ cond (is_within q x) None (seen t x)
  branch-past t q x =
      ap shown (get-without_tree t q moment x)
      ∙ (shown-past (is_within q x) (get (edited t (above q) (at_time moment)) x)
      ∙ ap (λ (s : Seen). cond (is_within q x) None s) (seen-timed t (above q) moment x))

  pub gone-past : (t : Tree) (path : List ℕ) → IsTree t → folded_path path ≢ [] → (x : Path) →
      seen (without_any_key t path moment) x ≡ cond (is_within (folded_path path) x) None (seen t x)
  gone-past t [] i some x = absurd (some refl)
  gone-past t (letter ∷ path) i some x =
      let q : Path = folded_path (letter ∷ path) in
      let longer : (length (letter ∷ path) == 0) ≡ false = grind (arith, nat_tests) in
      ap (λ (b : Bool). seen (cond b (without_any_key t [] moment) (cond (is_some (get t q)) (without_tree t q moment) t)) x) longer
      ∙ by (is_some (get t q)) refl
    where
      by : (b : Bool) → is_some (get t (folded_path (letter ∷ path))) ≡ b →
          seen (cond b (without_tree t (folded_path (letter ∷ path)) moment) t) x ≡
          cond (is_within (folded_path (letter ∷ path)) x) None (seen t x)
      by true e = branch-past t (folded_path (letter ∷ path)) x
      by false e = absent-past t (folded_path (letter ∷ path)) x i e

  pub gone-tree : (t : Tree) (path : List ℕ) → IsTree t → folded_path path ≢ [] → IsTree (without_any_key t path moment)
  gone-tree t [] i some = absurd (some refl)
  gone-tree t (letter ∷ path) i some =
      let q : Path = folded_path (letter ∷ path) in
      let longer : (length (letter ∷ path) == 0) ≡ false = grind (arith, nat_tests) in
      subst (λ (b : Bool). IsTree (cond b (without_any_key t [] moment) (cond (is_some (get t q)) (without_tree t q moment) t)))
      (sym longer)
      (by (is_some (get t q)))
    where
      below : same_path [] (folded_path (letter ∷ path)) ≡ false
      below = no-true (same_path [] (folded_path (letter ∷ path))) (λ e. some (sym (path-is [] (folded_path (letter ∷ path)) e)))

      by : (b : Bool) → IsTree (cond b (without_tree t (folded_path (letter ∷ path)) moment) t)
      by true = tree-branch t (folded_path (letter ∷ path)) moment i below
      by false = i

-- ---- a key changed in its place

pub edited-here : (t : Tree) (p : Path) (f : Rec → Rec) (r : Rec) → get t p ≡ Some r → values_at (edited t p f) p ≡ (f r).values
edited-here t p f r e =
    values-shown (get (edited t p f) p)
    ∙ (ap values_seen (seen-edited t p f r p e) ∙ ap values_seen (at-itself p (Some ((f r).name, (f r).values)) (seen t p)))

pub edited-else : (t : Tree) (p : Path) (f : Rec → Rec) (x : Path) → is_same x p ≡ false → seen (edited t p f) x ≡ seen t x
edited-else t p f x other = by (get t p) refl
  where
    by : (o : Option Rec) → get t p ≡ o → seen (edited t p f) x ≡ seen t x
    by None e = rw e refl
    by (Some r) e = seen-edited t p f r x e ∙ ap (λ (b : Bool). cond b (Some ((f r).name, (f r).values)) (seen t x)) other

pub edited-has : (t : Tree) (p : Path) (f : Rec → Rec) (x : Path) → is_some (get (edited t p f) x) ≡ is_some (get t x)
edited-has t p f x = by (get t p) refl
  where
    at : (r : Rec) → get t p ≡ Some r → (b : Bool) → is_same x p ≡ b →
        is_some (cond b (Some ((f r).name, (f r).values)) (seen t x)) ≡ is_some (get t x)
    at r e true same = sym (ap (λ (o : Option Rec). is_some o) (ap (get t) (path-is x p same) ∙ e))
    at r e false other = some-shown (get t x)

    by : (o : Option Rec) → get t p ≡ o → is_some (get (edited t p f) x) ≡ is_some (get t x)
    by None e = rw e refl
    by (Some r) e =
        sym (some-shown (get (edited t p f) x))
        ∙ (ap (λ (s : Seen). is_some s) (seen-edited t p f r x e) ∙ at r e (is_same x p) refl)

-- ---- a value gone

module _ (moment : ℕ) (t : Tree) (p : Path) (name : List ℕ) where
  abbrev left : Tree
  left = without_any_value t p name moment

  abbrev cut : Tree
  cut = edited t p (without_value name moment)

  pub lost-tree : IsTree t → IsTree left
  lost-tree i = by (is_some (value_named name (values_at t p)))
    where
      by : (b : Bool) → IsTree (cond b cut t)
      by true = tree-edited t p (without_value name moment) i (keeps-without name moment)
      by false = i

  pub lost-has : (x : Path) → is_some (get left x) ≡ is_some (get t x)
  lost-has x = by (is_some (value_named name (values_at t p)))
    where
      by : (b : Bool) → is_some (get (cond b cut t) x) ≡ is_some (get t x)
      by true = edited-has t p (without_value name moment) x
      by false = refl

  pub lost-else : (x : Path) → is_same x p ≡ false → seen left x ≡ seen t x
  lost-else x other = by (is_some (value_named name (values_at t p)))
    where
      by : (b : Bool) → seen (cond b cut t) x ≡ seen t x
      by true = edited-else t p (without_value name moment) x other
      by false = refl

  pub lost-same : (n : List ℕ) → IsTree t → folded name ≡ folded n → value_named n (values_at left p) ≡ None
  lost-same n i f = by (is_some (value_named name (values_at t p))) refl
    where
      none-here : (o : Option Rec) → get t p ≡ o → is_some (value_named name (values_of o)) ≡ true → value_named n (values_at cut p) ≡ None
      none-here None e some = absurd (false≢true some)
      none-here (Some r) e some =
          ap (value_named n) (edited-here t p (without_value name moment) r e) ∙ without-same name n r.values (i.apart p r e) f

      by : (b : Bool) → is_some (value_named name (values_at t p)) ≡ b → value_named n (values_at (cond b cut t) p) ≡ None
      by true e = none-here (get t p) refl e
      by false e = sym (named-same name n (values_at t p) f) ∙ no-member (value_named name (values_at t p)) e

  pub lost-other : (n : List ℕ) → same_name name n ≡ false → value_named n (values_at left p) ≡ value_named n (values_at t p)
  lost-other n other = by (is_some (value_named name (values_at t p)))
    where
      cut-other : (o : Option Rec) → get t p ≡ o → value_named n (values_at cut p) ≡ value_named n (values_of o)
      cut-other None e = rw e (ap (λ (o : Option Rec). value_named n (values_of o)) e)
      cut-other (Some r) e =
          ap (value_named n) (edited-here t p (without_value name moment) r e) ∙ without-other name n r.values other

      by : (b : Bool) → value_named n (values_at (cond b cut t) p) ≡ value_named n (values_at t p)
      by true = cut-other (get t p) refl
      by false = refl

-- ---- a value set

module _ (moment : ℕ) (t : Tree) (p : Path) (name : List ℕ) (kind : ℕ) (bytes : List ℕ) where
  abbrev set : Tree
  set = edited t p (with_value name kind bytes moment)

  pub set-tree : IsTree t → IsTree set
  set-tree i = tree-edited t p (with_value name kind bytes moment) i (keeps-with name kind bytes moment)

  pub set-same : (n : List ℕ) (r : Rec) → get t p ≡ Some r → folded name ≡ folded n →
      value_named n (values_at set p) ≡ Some (record { name = spelt (value_named n r.values) name; kind = kind; bytes = bytes })
  set-same n r e f = ap (value_named n) (edited-here t p (with_value name kind bytes moment) r e) ∙ with-same name kind bytes n r.values f

  pub set-other : (n : List ℕ) (r : Rec) → get t p ≡ Some r → same_name name n ≡ false →
      value_named n (values_at set p) ≡ value_named n r.values
  set-other n r e other = ap (value_named n) (edited-here t p (with_value name kind bytes moment) r e)
      ∙ with-other name kind bytes n r.values other
