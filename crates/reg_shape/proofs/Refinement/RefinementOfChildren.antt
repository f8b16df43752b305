-- The children of a key in the tree that is spelt are the keys right below it.
use Rattle.std.proofs.Common.{◌≡◌, ℕ, Bool, true, false, cond, ◌&&◌, ◌||◌, T, Option, Some, None, List, [], ◌∷◌, ◌++◌, map, is_some, refl, sym, ap, ◌∙◌, subst}
use Rattle.std.specs.List.{AllByRecursion, list_any}
use Rattle.std.specs.List.Sorted.{IsStrictlySortedBy}
use Rattle.std.specs.Option.{option_map}
use Rattle.std.specs.Ordering.{nat_cmp, is_lt, is_eq, eq_by_cmp}
use Rattle.std.specs.declared.cmp.Ordering.{Ordering}
use Rattle.std.specs.declared.cmp.Ordering.TheVariants.{Less}
use Rattle.std.specs.Cmp.Lexicographic.{slice_cmp, nat_list_cmp_total}
use Rattle.std.specs.FinMap.{find, is_sorted, contains_key, slice_cmp-IsAntisymmetric, nat_cmp-IsAntisymmetric}
use Rattle.std.specs.FinMap.Entries.{below_all, same_entries}
use Rattle.reg_names.specs.Names.{folded}
use Rattle.reg_heap.specs.Paths.{Path, path_cmp, children_of}
use Rattle.reg_heap.specs.Heaps.{Heap}
use Rattle.reg_shape.specs.Internal.Forests.{Forest, Branch, heads, Stand}
use Rattle.reg_shape.specs.Internal.Forests.Forest.{End, Rooted as Hangs}
use Rattle.reg_heap.proofs.ChildrenOfPath.{below, is_child-below, path_cmp-below, AreNamed, children-named, children-contain}
use Rattle.reg_shape.specs.Nodes.{Node}
use Rattle.reg_shape.specs.Spelt.{name_of}
use Rattle.reg_shape.specs.Written.{Pairwise, Precedes, Fits}
use Rattle.reg_shape.specs.Internal.Shapes.{IsSeen, StandsIn, tree_of}
use Rattle.reg_shape.specs.Internal.Exchanges.{is_named}
use Rattle.reg_shape.specs.Internal.Grafts.{branch_in, branch_at}
use Rattle.reg_shape.proofs.Refinement.RefinementAfterEdit.{same_name}
use Rattle.reg_shape.proofs.Graft.Branches.{branch-stands, branch-append}
use Rattle.reg_shape.proofs.Refinement.RefinementAtPath.{name-written, tells_branch, told}

abbrev Name : Type 0
Name = List ℕ

abbrev name_order : Name → Name → Ordering
name_order = slice_cmp nat_cmp

-- ---- names that rise are the same where their members are

abbrev paired : List Name → List (Name × Unit {0})
paired xs = map (λ x. (x, tt)) xs

both-hold : (b c : Bool) → T b → T c → T (b && c)
both-hold true c t u = u
both-hold false c t u = absurd t

paired-below : (x : Name) (xs : List Name) → AllByRecursion (λ y. name_order x y ≡ Less) xs → T (below_all name_order x (paired xs))
paired-below x [] a = tt
paired-below x (y ∷ xs) a = both-hold (is_lt (name_order x y)) (below_all name_order x (paired xs)) (subst (λ o. T (is_lt o)) (sym a.0) tt) (paired-below x xs a.1)

paired-sorted : (xs : List Name) → IsStrictlySortedBy name_order xs → T (is_sorted name_order (paired xs))
unfolding IsStrictlySortedBy
paired-sorted [] a = tt
paired-sorted (x ∷ xs) a = both-hold (below_all name_order x (paired xs)) (is_sorted name_order (paired xs)) (paired-below x xs a.0) (paired-sorted xs a.1)

paired-find : (q : Name) (xs : List Name) → find name_order q (paired xs) ≡ cond (list_any (same_name q) xs) (Some tt) None
paired-find q [] = refl
paired-find q (x ∷ xs) = by (same_name q x) (paired-find q xs)
  where
    by : (b : Bool) → find name_order q (paired xs) ≡ cond (list_any (same_name q) xs) (Some tt) None →
        cond b (Some tt) (find name_order q (paired xs)) ≡ cond (b || list_any (same_name q) xs) (Some tt) None
    by true e = refl
    by false e = e

unpaired : (xs : List Name) → map (λ (e : Name × Unit {0}). e.0) (paired xs) ≡ xs
unpaired [] = refl
unpaired (x ∷ xs) = ap (λ ys. x ∷ ys) (unpaired xs)

pub names-same : (xs ys : List Name) → IsStrictlySortedBy name_order xs → IsStrictlySortedBy name_order ys → ((q : Name) → list_any (same_name q) xs ≡ list_any (same_name q) ys) → xs ≡ ys
names-same xs ys a b e =
    sym (unpaired xs)
    ∙ (ap (map (λ (e : Name × Unit {0}). e.0)) (same_entries name_order nat_list_cmp_total (slice_cmp-IsAntisymmetric nat_cmp-IsAntisymmetric)
    (paired xs) (paired ys) (paired-sorted xs a) (paired-sorted ys b) (λ q. paired-find q xs ∙ (ap (λ b. cond b (Some tt) None) (e q) ∙
    sym (paired-find q ys))))
    ∙ unpaired ys)

-- ---- the names of the keys right below a key

abbrev its_name : ℕ × Node → Name
its_name e = folded (name_of e.1.key)

abbrev names_below : Forest Node → List Name
names_below F = map its_name (heads F)

module _ (h : Heap) (root : ℕ) where
  rise-first : (offset : ℕ) (node : Node) (F : Forest Node) → IsSeen h root offset node → Stand (IsSeen h root) Fits F →
      AllByRecursion (λ (b : ℕ × Node). Precedes node.key.name b.1.key.name) (heads F) →
      AllByRecursion (λ y. name_order (folded (name_of node.key)) y ≡ Less) (names_below F)
  rise-first offset node End w a l = tt
  rise-first offset node (Hangs o n b s) w a l = (
    ap (λ a. slice_cmp nat_cmp (folded a) (folded (name_of n.key))) (name-written h root offset node w.written) ∙
        (ap (λ b. slice_cmp nat_cmp (folded node.key.name) (folded b)) (name-written h root o n a.0.0.written) ∙ l.0),
    rise-first offset node s w a.1 l.1,
  )

  names-rise : (F : Forest Node) → Stand (IsSeen h root) Fits F → Pairwise (λ (a b : ℕ × Node). Precedes a.1.key.name b.1.key.name) (heads F) → IsStrictlySortedBy name_order (names_below F)
  unfolding IsStrictlySortedBy
  names-rise End a l = tt
  names-rise (Hangs o n b s) a l = (rise-first o n s a.0.0 a.1 l.0, names-rise s a.1 l.1)

among : (x : Name) (F : Forest Node) → is_some (branch_in (x ∷ []) F) ≡ list_any (same_name x) (names_below F)
among x End = refl
among x (Hangs o n b s) = by (is_named x n) (among x s)
  where
    by : (t : Bool) → is_some (branch_in (x ∷ []) s) ≡ list_any (same_name x) (names_below s) →
        is_some (cond t (Some (record { offset = o; node = n; below = b })) (branch_in (x ∷ []) s)) ≡ (t || list_any (same_name x) (names_below s))
    by true e = refl
    by false e = e

pub any-below : (p : Path) (x : Name) (ns : List Name) → list_any (eq_by_cmp path_cmp (below p x)) (map (below p) ns) ≡ list_any (same_name x) ns
any-below p x [] = refl
any-below p x (n ∷ ns) = λ i. is_eq (path_cmp-below p x n i) || any-below p x ns i

-- ---- the children

module _ (h : Heap) (root : ℕ) (keys : Branch Node) (a : StandsIn h root keys) (p : Path) (b : Branch Node) (e : branch_at p keys ≡ Some b) where
  same-names : (c : AreNamed p (children_of (tree_of h keys) p)) (x : Name) → list_any (same_name x) c.names ≡ list_any (same_name x) (names_below b.below)
  same-names c x =
      sym (any-below p x c.names)
      ∙ (ap (list_any (eq_by_cmp path_cmp (below p x))) (sym c.are)
      ∙ (children-contain (tree_of h keys) p (below p x)
      ∙ (ap (λ t. t && contains_key (tree_of h keys) (below p x)) (is_child-below p x)
      ∙ (ap is_some (told h root keys a (below p x))
      ∙ (by (branch_at (below p x) keys)
      ∙ (ap is_some (branch-append b (x ∷ []) p keys e)
      ∙ among x b.below))))))
    where
      by : (o : Option (Branch Node)) → is_some (option_map (tells_branch h) o) ≡ is_some o
      by None = refl
      by (Some b) = refl

  pub children-told : children_of (tree_of h keys) p ≡ map (λ (e : ℕ × Node). p ++ folded (name_of e.1.key) ∷ []) (heads b.below)
  children-told =
      let c = children-named (tree_of h keys) p in
      let s = branch-stands h root b p keys e a in
      c.are ∙ (ap (map (below p)) (names-same c.names (names_below b.below) c.rising (names-rise h root b.below s.2 s.1.order) (same-names c)) ∙ twice (heads b.below))
    where
      twice : (es : List (ℕ × Node)) → map (below p) (map its_name es) ≡ map (λ (e : ℕ × Node). p ++ folded (name_of e.1.key) ∷ []) es
      twice [] = refl
      twice (e ∷ es) = ap (λ ps. (p ++ folded (name_of e.1.key) ∷ []) ∷ ps) (twice es)
