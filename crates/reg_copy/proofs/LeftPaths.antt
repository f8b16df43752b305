-- Which paths are still to be copied, and how that changes by a step.
use Rattle.std.proofs.Common.{◌≡◌, ◌≢◌, ℕ, zero, suc, ◌<◌, Bool, true, false, cond, ◌||◌, List, [], ◌∷◌, ◌++◌, length, map, drop, get_or, Option, Some, None, refl, sym, ap, ◌∙◌, subst, arith, append_assoc, append-nil}
use Rattle.std.specs.Prelude.{IsSome}
use Rattle.std.specs.Cmp.Lexicographic.{slice_cmp}
use Rattle.std.specs.Ordering.{nat_cmp}
use Rattle.std.specs.declared.cmp.Ordering.{Ordering}
use Rattle.std.specs.declared.cmp.Ordering.TheVariants.{Less, Equal}
use Rattle.std.specs.FinMap.{get}
use Rattle.std.specs.List.{AllByRecursion}
use Rattle.std.specs.List.Sorted.{IsStrictlySortedBy}
use Rattle.std.specs.Option.{option_map}
use Rattle.std.specs.Cmp.Lexicographic.{nat_list_cmp_total}
use Rattle.std.proofs.lemmas.Bool.{false≢true}
use Rattle.std.proofs.lemmas.Cmp.{tied_itself}
use Rattle.std.proofs.lemmas.List.Folds.{list_any-append}
use Rattle.reg_heap.specs.Paths.{Path, Tree, Rec, children_of}
use Rattle.reg_heap.specs.Edits.{is_within, is_under}
use Rattle.reg_heap.specs.Trees.{IsTree}
use Rattle.reg_heap.proofs.ChildrenOfPath.{below, children-named}
use Rattle.reg_heap.proofs.DeletedTrees.{within-rest, within-self, within-append, under-parts, under-rest, under-append, under-deeper, under-self}
use Rattle.reg_tree.proofs.PruneTree.PathOrder.{child-at}
use Rattle.reg_copy.specs.Copies.{copy_of}
use Rattle.reg_copy.specs.Internal.Copying.{is_left, AreApart, copied_so_far}

-- ---- paths

drop-front : (p q : Path) → drop (length p) (p ++ q) ≡ q
drop-front [] q = refl
drop-front (x ∷ p) q = drop-front p q

-- two paths that go on from one by the same names are one
pub front-cancel : (p q r : Path) → p ++ q ≡ p ++ r → q ≡ r
front-cancel p q r e = sym (drop-front p q) ∙ (ap (drop (length p)) e ∙ drop-front p r)

pub closed : (tree : Tree) → IsTree tree → (p q : Path) → IsSome (get tree (p ++ q)) → IsSome (get tree p)
closed tree is p [] some = subst (λ (w : Path). IsSome (get tree w)) (append-nil p) some
closed tree is p (x ∷ q) some =
    is.parents p x (closed tree is (p ++ x ∷ []) q (subst (λ (w : Path). IsSome (get tree w)) (sym (append_assoc p (x ∷ []) q)) some))

-- a path that is at or below two keys right below another is so of one
one-name : (k : Path) (a b : List ℕ) (x : Path) → is_within (below k a) x ≡ true → is_within (below k b) x ≡ true → a ≡ b
one-name k a b x v w =
    let first = within-rest (below k a) x v ∙ append_assoc k (a ∷ []) (drop (length (below k a)) x) in
    let other = within-rest (below k b) x w ∙ append_assoc k (b ∷ []) (drop (length (below k b)) x) in
    let same : ◌≡◌ {A = Path} (a ∷ drop (length (below k a)) x) (b ∷ drop (length (below k b)) x) =
    front-cancel k (a ∷ drop (length (below k a)) x) (b ∷ drop (length (below k b)) x) (sym first ∙ other) in
    cc

-- ---- lists of paths

pub left-append : (xs ys : List Path) (p : Path) → is_left (xs ++ ys) p ≡ (is_left xs p || is_left ys p)
left-append xs ys p = list_any-append (λ (k : Path). is_within k p) xs ys

-- what is at or below one of the keys right below another is below that
under-names : (k : Path) (names : List (List ℕ)) (x : Path) → is_left (map (below k) names) x ≡ true → is_under k x ≡ true
under-names k [] x e = absurd (false≢true e)
under-names k (a ∷ names) x e = by (under-names k names x) (is_within (below k a) x) refl e
  where
    by : (is_left (map (below k) names) x ≡ true → is_under k x ≡ true) → (b : Bool) → is_within (below k a) x ≡ b →
        (b || is_left (map (below k) names) x) ≡ true → is_under k x ≡ true
    by rest true w e =
        subst (λ (y : Path). is_under k y ≡ true) (sym (within-rest (below k a) x w))
        (under-deeper k (below k a) (drop (length (below k a)) x) (under-append k a []))
    by rest false w e = rest e

pub left-under : (tree : Tree) (k x : Path) → is_left (children_of tree k) x ≡ true → is_under k x ≡ true
left-under tree k x e =
    let c = children-named tree k in
    under-names k c.names x (sym (ap (λ (paths : List Path). is_left paths x) c.are) ∙ e)

left-at : (paths : List Path) (i : ℕ) (x : Path) → i < length paths → is_within (get_or paths i []) x ≡ true → is_left paths x ≡ true
left-at [] i x l w = absurd (omega (arith, l))
left-at (k ∷ paths) zero x l w = rw w refl
left-at (k ∷ paths) (suc i) x l w = by (left-at paths i x (omega (arith, l)) w) (is_within k x)
  where
    by : is_left paths x ≡ true → (b : Bool) → (b || is_left paths x) ≡ true
    by rest true = refl
    by rest false = rest

-- a key below another is at or below one of those right below that
pub left-child : (tree : Tree) → IsTree tree → (k : Path) (name : List ℕ) (rest : Path) → IsSome (get tree (k ++ name ∷ rest)) →
    is_left (children_of tree k) (k ++ name ∷ rest) ≡ true
left-child tree is k name rest some =
    let longer = append_assoc k (name ∷ []) rest in
    let at = child-at tree k name (closed tree is (k ++ name ∷ []) rest (subst (λ (w : Path). IsSome (get tree w)) (sym longer) some)) in
    left-at (children_of tree k) at.0 (k ++ name ∷ rest) at.1
    (subst (λ (w : Path). is_within w (k ++ name ∷ rest) ≡ true) (sym at.2)
    (subst (λ (w : Path). is_within (k ++ name ∷ []) w ≡ true) longer (within-append (k ++ name ∷ []) rest)))

-- ---- no path is at or below two

less-other : (a b : List ℕ) → slice_cmp nat_cmp a b ≡ Less → a ≡ b → ⊥
less-other a b less same =
    let e : ◌≡◌ {A = Ordering} Equal Less = sym (tied_itself nat_list_cmp_total a) ∙ (ap (slice_cmp nat_cmp a) same ∙ less) in absurd (cc)

none-of-names : (k : Path) (a : List ℕ) (names : List (List ℕ)) → AllByRecursion (λ n. slice_cmp nat_cmp a n ≡ Less) names → (x : Path) →
    is_within (below k a) x ≡ true → is_left (map (below k) names) x ≡ false
none-of-names k a [] h x w = refl
none-of-names k a (b ∷ names) h x w = by (none-of-names k a names h.1 x w) (is_within (below k b) x) refl
  where
    by : is_left (map (below k) names) x ≡ false → (t : Bool) → is_within (below k b) x ≡ t → (t || is_left (map (below k) names) x) ≡ false
    by rest true v = absurd (less-other a b h.0 (one-name k a b x w v))
    by rest false v = rest

apart-names : (k : Path) (names : List (List ℕ)) → IsStrictlySortedBy (slice_cmp nat_cmp) names → AreApart (map (below k) names)
unfolding IsStrictlySortedBy
apart-names k [] h = tt
apart-names k (a ∷ names) h = (λ x w. none-of-names k a names h.0 x w, apart-names k names h.1)

pub apart-children : (tree : Tree) (k : Path) → AreApart (children_of tree k)
apart-children tree k = let c = children-named tree k in subst AreApart (sym c.are) (apart-names k c.names c.rising)

pub apart-append : (xs ys : List Path) → AreApart xs → AreApart ys →
    ((x : Path) → is_left xs x ≡ true → is_left ys x ≡ false) → AreApart (xs ++ ys)
apart-append [] ys a b none = b
apart-append (k ∷ xs) ys a b none = (λ x w. first x w, apart-append xs ys a.1 b (λ x l. none x (later x l)))
  where
    later : (x : Path) → is_left xs x ≡ true → (is_within k x || is_left xs x) ≡ true
    later x l = by (is_within k x)
      where
        by : (t : Bool) → (t || is_left xs x) ≡ true
        by true = refl
        by false = l

    first : (x : Path) → is_within k x ≡ true → is_left (xs ++ ys) x ≡ false
    first x w = left-append xs ys x ∙ (rw (a.0 x w) (none x (rw w refl)))

-- ---- a step

-- below a key that has a name
pub copy-below : (p : Path) (name : List ℕ) (r : Rec) → copy_of (p ++ name ∷ []) r ≡ r
copy-below [] name r = refl
copy-below (x ∷ p) name r = refl

none-or-some : (o : Option Rec) → (IsSome o → ⊥) → o ≡ None
none-or-some None n = refl
none-or-some (Some r) n = absurd (n refl)

-- a path below a key, or at it
module _ (tree : Tree) (is : IsTree tree) (k : Path) (beside : List Path) (apart : AreApart (k ∷ beside)) where
  -- the key itself is left no more
  pub done-here : is_left (children_of tree k ++ beside) k ≡ false
  done-here = left-append (children_of tree k) beside k ∙ by (is_left (children_of tree k) k) refl
    where
      by : (t : Bool) → is_left (children_of tree k) k ≡ t → (t || is_left beside k) ≡ false
      by true e = absurd (false≢true (sym (under-self k) ∙ left-under tree k k e))
      by false e = apart.0 k (within-self k)

  -- of another key it is the same to be left by its parent or by the keys right below that
  pub same-elsewhere : (x : Path) → x ≢ k → copied_so_far tree (children_of tree k ++ beside) x ≡ copied_so_far tree (k ∷ beside) x
  same-elsewhere x other =
      ap (λ (t : Bool). cond t None (option_map (copy_of x) (get tree x))) (left-append (children_of tree k) beside x)
      ∙ by (is_within k x) (is_left (children_of tree k) x) refl refl
    where
      rest : Option Rec
      rest = option_map (copy_of x) (get tree x)

      under : is_within k x ≡ true → is_under k x ≡ true
      under w = by-length (drop (length k) x) (within-rest k x w)
        where
          by-length : (names : Path) → x ≡ k ++ names → is_under k x ≡ true
          by-length [] e = absurd (other (e ∙ append-nil k))
          by-length (name ∷ names) e = subst (λ (y : Path). is_under k y ≡ true) (sym e) (under-append k name names)

      gone : is_within k x ≡ true → is_left (children_of tree k) x ≡ false → get tree x ≡ None
      gone w none =
          let parts = under-rest k x (under w) in
          none-or-some (get tree x) (λ some.
          false≢true (sym none ∙ subst (λ (y : Path). is_left (children_of tree k) y ≡ true) (sym parts.2)
          (left-child tree is k parts.0 parts.1 (subst (λ (y : Path). IsSome (get tree y)) parts.2 some))))

      by : (w c : Bool) → is_within k x ≡ w → is_left (children_of tree k) x ≡ c →
          cond (c || is_left beside x) None rest ≡ cond (w || is_left beside x) None rest
      by true true e f = refl
      by true false e f = rw (apart.0 x e, gone e f) refl
      by false true e f = absurd (false≢true (sym e ∙ (under-parts k x (left-under tree k x f)).0))
      by false false e f = refl

  pub apart-next : AreApart (children_of tree k ++ beside)
  apart-next =
      apart-append (children_of tree k) beside (apart-children tree k) apart.1 (λ x l. apart.0 x (under-parts k x (left-under tree k x l)).0)
