-- How many keys are right below one, where a key is put into a tree.
use Rattle.std.proofs.Common.{◌≡◌, ◌+◌, ◌≤◌, Bool, true, false, cond, List, [], ◌∷◌, length, map, filter, sym, subst, arith}
use Rattle.std.specs.Cmp.{IsTotalOrder}
use Rattle.std.specs.Cmp.Lexicographic.{lists_total, nat_list_cmp_total}
use Rattle.std.specs.declared.cmp.Ordering.{Ordering}
use Rattle.std.specs.declared.cmp.Ordering.TheVariants.{Less, Equal, Greater}
use Rattle.std.specs.FinMap.{insert, entries, entries-insert}
use Rattle.std.specs.FinMap.Entries.{put, by_order}
use Rattle.reg_heap.specs.Paths.{Path, Tree, Rec, path_cmp, is_child, children_of}

one-more : (b : Bool) (x : Path) (xs : List Path) → length (cond b (x ∷ xs) xs) ≡ cond b 1 0 + length xs
one-more true x xs = omega arith
one-more false x xs = omega arith

pub at-most-one : (b : Bool) → cond b 1 0 ≤ 1
at-most-one true = omega arith
at-most-one false = omega arith

abbrev paths_of : List (Path × Rec) → List Path
paths_of es = map (λ (e : Path × Rec). e.0) es

count-put : (p q : Path) (r : Rec) (es : List (Path × Rec)) →
    length (filter (is_child p) (paths_of (put path_cmp q r es))) ≤ cond (is_child p q) 1 0 + length (filter (is_child p) (paths_of es))
count-put p q r [] = let l = one-more (is_child p q) q [] in omega (arith, l)
count-put p q r (e ∷ es) = by (count-put p q r es) (path_cmp q e.0)
  where
    others : List Path
    others = filter (is_child p) (paths_of es)

    by : length (filter (is_child p) (paths_of (put path_cmp q r es))) ≤ cond (is_child p q) 1 0 + length others → (o : Ordering) →
        length (filter (is_child p) (paths_of (by_order o ((q, r) ∷ e ∷ es) ((e.0, r) ∷ es) (e ∷ put path_cmp q r es)))) ≤
        cond (is_child p q) 1 0 + length (filter (is_child p) (paths_of (e ∷ es)))
    by c Less = let l = one-more (is_child p q) q (filter (is_child p) (paths_of (e ∷ es))) in omega (arith, l)
    by c Equal = omega arith
    by c Greater =
        let a = one-more (is_child p e.0) e.0 (filter (is_child p) (paths_of (put path_cmp q r es))) in
        let b = one-more (is_child p e.0) e.0 others in
        omega (arith, a, b, c)

total : IsTotalOrder path_cmp
total = lists_total nat_list_cmp_total

pub children-insert : (tree : Tree) (p q : Path) (r : Rec) →
    length (children_of (insert tree q r) p) ≤ cond (is_child p q) 1 0 + length (children_of tree p)
children-insert tree p q r =
    subst (λ (es : List (Path × Rec)). length (filter (is_child p) (paths_of es)) ≤ cond (is_child p q) 1 0 + length (children_of tree p))
    (sym (entries-insert total tree q r)) (count-put p q r (entries tree))
