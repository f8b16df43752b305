-- Marks looked for from key to key, of those at or below a top.
use Rattle.std.proofs.Common.{◌≡◌, ◌⊎◌, inl, inr, ℕ, ◌<◌, ◌≤◌, ◌||◌, Bool, true, false, not, cond, Some, None, IsSome, List, [], ◌∷◌, ◌++◌, length, filter, refl, sym, ap, ◌∙◌, subst, arith}
use Rattle.std.specs.List.{list_any}
use Rattle.std.specs.Ordering.{is_lt, eq_by_cmp, ordering_reverse}
use Rattle.std.specs.declared.cmp.Ordering.{Ordering}
use Rattle.std.specs.declared.cmp.Ordering.TheVariants.{Less, Equal, Greater}
use Rattle.std.specs.FinMap.{get, keys, contains_key-keys, slice_cmp-IsAntisymmetric, nat_cmp-IsAntisymmetric}
use Rattle.std.proofs.lemmas.Bool.{false≢true, and_from}
use Rattle.std.proofs.lemmas.Cmp.{tied_itself}
use Rattle.std.proofs.lemmas.List.{append-nil}
use Rattle.reg_heap.specs.Paths.{Path, Tree, path_cmp}
use Rattle.reg_heap.specs.Edits.{is_marked, is_within, is_under, any_kept_within, any_kept_under, IsKept}
use Rattle.reg_heap.specs.Heaps.{Heap}
use Rattle.reg_heap.proofs.ChildrenOfPath.{path-is}
use Rattle.reg_arena.specs.Cells.{cell_at}
use Rattle.reg_shape.specs.PathLookup.{key_offset_at}
use Rattle.reg_shape.proofs.Refinement.SpeltTrees.{path_total}
use Rattle.reg_tree.specs.declared.node.Node.{Node}
use Rattle.reg_tree.specs.TreeKeys.{tree_in}
use Rattle.reg_tree.specs.Internal.TreeInvariant.{IsHere}
use Rattle.reg_tree.specs.Internal.KeyOrder.{HasTop, Precedes, NextKey, IsNextKey, TellsMarks}
use Rattle.reg_tree.proofs.Invariant.KeyOfTree.{get-some}
use Rattle.reg_tree.proofs.PruneTree.PathOrder.{front-same, none-before}
use Rattle.reg_tree.proofs.PruneTree.PathsWithin.{within-parts, within-is, under-parts, under-is, not-under-itself, any-one, any-told}
use Rattle.reg_tree.proofs.PruneTree.PlaceAbove.{at_place, at_placed}

-- ---- the order of paths

not-itself : (p : Path) → Precedes p p → ⊥
not-itself p l = let e = sym (tied_itself path_total p) ∙ l in cc

compare : (p q : Path) → Precedes p q ⊎ ((p ≡ q) ⊎ Precedes q p)
compare p q = by (path_cmp p q) refl
  where
    by : (o : Ordering) → path_cmp p q ≡ o → Precedes p q ⊎ ((p ≡ q) ⊎ Precedes q p)
    by Less e = inl e
    by Equal e = inr (inl (slice_cmp-IsAntisymmetric (slice_cmp-IsAntisymmetric nat_cmp-IsAntisymmetric) p q e))
    by Greater e = inr (inr (path_total.antisymm q p ∙ ap ordering_reverse e))

-- ---- how many keys are left

-- how many pass a test falls where one passes no more, and none passes anew
module _ {A : Type 0} (f g : A → Bool) (less : (x : A) → f x ≡ false → g x ≡ false) where
  fewer-all : (xs : List A) → length (filter g xs) ≤ length (filter f xs)
  fewer-all [] = omega arith
  fewer-all (x ∷ xs) = by (f x) (g x) refl refl (fewer-all xs)
    where
      by : (a b : Bool) → f x ≡ a → g x ≡ b → length (filter g xs) ≤ length (filter f xs) →
          length (cond b (x ∷ filter g xs) (filter g xs)) ≤ length (cond a (x ∷ filter f xs) (filter f xs))
      by true true d e l = omega (arith, l)
      by true false d e l = omega (arith, l)
      by false true d e l = absurd (false≢true (sym (less x d) ∙ e))
      by false false d e l = omega (arith, l)

  fewer-one : (h : A → Bool) → ((x : A) → h x ≡ true → (f x ≡ true) × (g x ≡ false)) → (xs : List A) → list_any h xs ≡ true → length (filter g xs) < length (filter f xs)
  fewer-one h gone [] e = absurd (false≢true e)
  fewer-one h gone (x ∷ xs) e = by (h x) refl e (fewer-one h gone xs) (f x) (g x) refl refl (fewer-all xs)
    where
      by : (c : Bool) → h x ≡ c → (c || list_any h xs) ≡ true → (list_any h xs ≡ true → length (filter g xs) < length (filter f xs)) →
          (a b : Bool) → f x ≡ a → g x ≡ b → length (filter g xs) ≤ length (filter f xs) →
          length (cond b (x ∷ filter g xs) (filter g xs)) < length (cond a (x ∷ filter f xs) (filter f xs))
      by true i e more true false d k l = omega (arith, l)
      by true i e more true true d k l = absurd (false≢true (sym (gone x i).1 ∙ k))
      by true i e more false b d k l = absurd (false≢true (sym d ∙ (gone x i).0))
      by false i e more true true d k l = let m = more e in omega (arith, m)
      by false i e more true false d k l = let m = more e in omega (arith, m)
      by false i e more false true d k l = absurd (false≢true (sym (less x d) ∙ k))
      by false i e more false false d k l = let m = more e in omega (arith, m)

-- how many of a tree's keys are at a path or behind it
pub keys_left : Tree → Path → ℕ
keys_left t p = length (filter (λ (q : Path). not (is_lt (path_cmp q p))) (keys t))

fewer-left : (t : Tree) (p q : Path) → IsSome (get t p) → Precedes p q → keys_left t q < keys_left t p
unfolding keys_left
fewer-left t p q some l =
    fewer-one (λ x. not (is_lt (path_cmp x p))) (λ x. not (is_lt (path_cmp x q)))
    (λ x e. ap (λ o. not (is_lt o)) (path_total.trans x p q (is-less (path_cmp x p) e) l)) (eq_by_cmp path_cmp p)
    (λ x e. (let same = path-is p x e in (
      ap (λ x. not (is_lt (path_cmp x p))) (sym same) ∙ ap (λ o. not (is_lt o)) (tied_itself path_total p),
      ap (λ x. not (is_lt (path_cmp x q))) (sym same) ∙
          ap (λ o. not (is_lt o)) l,
    )))
    (keys t) (sym (contains_key-keys t p) ∙ some)
  where
    is-less : (o : Ordering) → not (is_lt o) ≡ false → o ≡ Less
    is-less Less e = refl
    is-less Equal e = absurd (false≢true (sym e))
    is-less Greater e = absurd (false≢true (sym e))

-- ---- the search

-- a key from which the search goes on; none before it was marked
pub record Searches (bytes : List ℕ) (root : ℕ) (top names : Path) (node : Node) : Type 0 where
  pub now : Path
  pub at : key_offset_at (cell_at bytes) root (top ++ now) ≡ Some node.offset
  pub depth : node.depth ≡ length now
  pub from : Precedes now names → ⊥
  pub unmarked : (q : Path) → IsSome (get (tree_in bytes root) (top ++ q)) → (Precedes q names → ⊥) → Precedes q now → is_marked (tree_in bytes root) (top ++ q) ≡ false

module _ (bytes : List ℕ) (first : Node) (t : HasTop bytes first) where
  abbrev h : Heap
  h = cell_at bytes

  abbrev root : ℕ
  root = t.here.root

  abbrev spelt : Tree
  spelt = tree_in bytes root

  abbrev top : Path
  top = t.top

  abbrev names : Path
  names = t.names

  pub searches : Searches bytes root top names first
  searches = record {
    now = names;
    at = subst (λ p. key_offset_at h root p ≡ Some first.offset) t.parts t.here.at;
    depth = t.depth;
    from = not-itself names;
    unmarked = λ q some n l. absurd (n l);
  }

  module _ (node : Node) (s : Searches bytes root top names node) where
    abbrev pub search-top : HasTop bytes node
    search-top = record {
      here = record { root = root; table = t.here.table; path = top ++ s.now; holds = t.here.holds; at = s.at };
      top = top;
      names = s.now;
      parts = refl;
      depth = s.depth;
    }

    there : IsSome (get spelt (top ++ s.now))
    there = get-some bytes root t.here.holds (top ++ s.now) node.offset s.at

    -- it is marked
    pub tells-marked : is_marked spelt (top ++ s.now) ≡ true → TellsMarks spelt top names true
    tells-marked e = (s.now, there, s.from, e)

    module _ (not-it : is_marked spelt (top ++ s.now) ≡ false) where
      -- none up to it is marked
      none-yet : (q : Path) → IsSome (get spelt (top ++ q)) → (Precedes q names → ⊥) → (Precedes s.now q → ⊥) → is_marked spelt (top ++ q) ≡ false
      none-yet q some n m = elim (compare q s.now) [
        | inl l ↦ s.unmarked q some n l
        | inr o ↦ elim o [
          | inl e ↦ ap (λ q. is_marked spelt (top ++ q)) e ∙ not-it
          | inr l ↦ absurd (m l)
        ]
      ]

      -- no key is behind it
      pub tells-none : IsNextKey bytes root top s.now None → TellsMarks spelt top names false
      tells-none e = λ q some n. none-yet q some n (λ l. e q some l)

      module _ (next : Node) (k : NextKey bytes root top s.now next) where
        pub searches-on : Searches bytes root top names next
        searches-on = record {
          now = k.names_next;
          at = k.at;
          depth = k.depth;
          from = λ l. s.from (path_total.trans s.now k.names_next names k.behind l);
          unmarked = λ q some n l. none-yet q some n (λ m. k.first q some m l);
        }

        abbrev next-here : IsHere bytes next.offset
        next-here = record { root = root; table = t.here.table; path = top ++ k.names_next; holds = t.here.holds; at = k.at }

        pub fewer_left : at_place bytes next.offset keys_left < at_place bytes node.offset keys_left
        fewer_left =
            let a : at_place bytes next.offset keys_left ≡ keys_left spelt (top ++ k.names_next) = at_placed bytes next.offset keys_left next-here in
            let b : at_place bytes node.offset keys_left ≡ keys_left spelt (top ++ s.now) = at_placed bytes node.offset keys_left search-top.here in
            let l = fewer-left spelt (top ++ s.now) (top ++ k.names_next) there (front-same top s.now k.names_next ∙ k.behind) in
            omega (arith, a, b, l)

-- ---- what is told

module _ (bytes : List ℕ) (key : ℕ) (t : IsHere bytes key) where
  abbrev tree : Tree
  tree = tree_in bytes t.root

  pub told-within : (r : Bool) → TellsMarks tree t.path [] r → r ≡ any_kept_within tree t.path
  told-within r m = any-told tree (is_within t.path) t.path (λ q e. (_, within-parts t.path q e)) r (one r m) (none r m)
    where
      one : (r : Bool) → TellsMarks tree t.path [] r → r ≡ true →
          (q : Path) × IsSome (get tree (t.path ++ q)) × (is_within t.path (t.path ++ q) ≡ true) × (is_marked tree (t.path ++ q) ≡ true)
      one true m e = (m.0, m.1, within-is t.path (t.path ++ m.0) m.0 refl, m.3)
      one false m e = absurd (false≢true e)

      none : (r : Bool) → TellsMarks tree t.path [] r → r ≡ false → (q : Path) → IsSome (get tree (t.path ++ q)) → is_within t.path (t.path ++ q) ≡ true →
          is_marked tree (t.path ++ q) ≡ false
      none true m e = absurd (false≢true (sym e))
      none false m e = λ q some w. m q some (none-before q)

  -- a key that is marked itself
  pub kept-within : IsKept tree t.path → (t.path ≡ []) ⊎ (any_kept_within tree t.path ≡ true)
  kept-within k = elim k [
    | inl e ↦ inl e
    | inr m ↦ inr (any-one tree (is_within t.path) t.path (λ q e. (_, within-parts t.path q e)) t.path (get-some bytes t.root t.holds t.path key t.at)
        (and_from (is_within t.path t.path) (is_marked tree t.path) (within-is t.path t.path [] (sym (append-nil t.path))) (ap not m)))
  ]

  -- below the key: from the key behind it on
  told-under : (r : Bool) → (r ≡ true → (q : Path) × IsSome (get tree (t.path ++ q)) × Precedes [] q × (is_marked tree (t.path ++ q) ≡ true)) →
      (r ≡ false → (q : Path) → IsSome (get tree (t.path ++ q)) → Precedes [] q → is_marked tree (t.path ++ q) ≡ false) → r ≡ any_kept_under tree t.path
  told-under r one none =
      any-told tree (is_under t.path) t.path (λ q e. (let u = under-parts t.path q e in (u.0 ∷ u.1, u.2))) r
      (λ e. (let y = one e in (y.0, y.1, under y.0 y.2, y.3))) (λ e q some w. none e q some (over q w))
    where
      under : (q : Path) → Precedes [] q → is_under t.path (t.path ++ q) ≡ true
      under [] l = absurd (not-itself [] l)
      under (x ∷ q) l = under-is t.path (t.path ++ x ∷ q) x q refl

      over : (q : Path) → is_under t.path (t.path ++ q) ≡ true → Precedes [] q
      over [] w = absurd (false≢true (sym (ap (is_under t.path) (append-nil t.path) ∙ not-under-itself t.path) ∙ w))
      over (x ∷ q) w = refl

  pub none-under : IsNextKey bytes t.root t.path [] None → false ≡ any_kept_under tree t.path
  none-under e = told-under false (λ f. absurd (false≢true f)) (λ f q some l. absurd (e q some l))

  module _ (first : Node) (k : NextKey bytes t.root t.path [] first) where
    abbrev pub first-top : HasTop bytes first
    first-top = record {
      here = record { root = t.root; table = t.table; path = t.path ++ k.names_next; holds = t.holds; at = k.at };
      top = t.path;
      names = k.names_next;
      parts = refl;
      depth = k.depth;
    }

    pub some-under : (r : Bool) → TellsMarks tree t.path k.names_next r → r ≡ any_kept_under tree t.path
    some-under true m = told-under true (λ e. (m.0, m.1, behind m.0 m.2, m.3)) (λ e. absurd (false≢true (sym e)))
      where
        behind : (q : Path) → (Precedes q k.names_next → ⊥) → Precedes [] q
        behind [] n = absurd (n k.behind)
        behind (x ∷ q) n = refl
    some-under false m = told-under false (λ e. absurd (false≢true e)) (λ e q some l. m q some (λ b. k.first q some l b))
