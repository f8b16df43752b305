-- Whole trees deleted: which paths are at or below one, what is left in a tree, and which keys have mark 0x08.
use Rattle.std.proofs.Common.{◌≡◌, ℕ, ◌<◌, ◌≤◌, Bool, true, false, not, ◌&&◌, ◌||◌, is_some, List, [], ◌∷◌, ◌++◌, length, filter, drop, T, Option, None, refl, sym, ap, ◌∙◌, subst, arith, cond, nat_lt}
use Rattle.std.proofs.Common.{append_assoc, length-append}
use Rattle.std.specs.Prelude.{◌==◌, bit_and, Some}
use Rattle.std.specs.Cmp.{IsTotalOrder}
use Rattle.std.specs.Cmp.Lexicographic.{lists_total, nat_list_cmp_total}
use Rattle.std.specs.List.{list_any}
use Rattle.std.specs.Ordering.{eq_by_cmp}
use Rattle.std.specs.declared.cmp.Ordering.TheVariants.{Equal}
use Rattle.std.specs.FinMap.{get, get-entries, contains_key, contains_key-keys, keys, entries, entries_sorted, same_entries_map}
use Rattle.std.specs.FinMap.{insert, entries-insert, retain_keys, get-retain_keys, from_sorted, entries-from_sorted}
use Rattle.std.specs.FinMap.{IsAntisymmetric, slice_cmp-IsAntisymmetric, nat_cmp-IsAntisymmetric}
use Rattle.std.specs.FinMap.Entries.{put, is_sorted, same_entries, is_sorted-where_key, find-where_key, is_sorted-put}
use Rattle.std.proofs.lemmas.Bool.{and_parts, and_from, or_parts, false≢true}
use Rattle.std.proofs.lemmas.Bool.Decides.{nat_tests}
use Rattle.std.proofs.lemmas.Cmp.{eq_by_cmp_equiv}
use Rattle.std.proofs.lemmas.List.{append-nil}
use Rattle.std.proofs.lemmas.List.Folds.{list_any_none}
use Rattle.std.proofs.lemmas.Map.Views.{All-from_any}
use Rattle.std.proofs.lemmas.Slice.Eq.{starts_is, bytes_eq-Decides}
use Rattle.reg_heap.specs.declared.marks.TheConstants.{NO_DELETE}
use Rattle.reg_heap.specs.Paths.{Path, Tree, Rec, path_cmp}
use Rattle.reg_heap.specs.Edits.{edited, above, at_time, marks_of, is_marked, is_within, is_under, without_tree, without_values, has_contents, emptied, any_kept_within, any_kept_under}
use Rattle.reg_heap.proofs.ChildrenOfPath.{path-is}

-- ---- paths at or below one

-- a path at or below p is p and what comes behind it
pub within-rest : (p q : Path) → is_within p q ≡ true → q ≡ p ++ drop (length p) q
within-rest p q is = (starts_is bytes_eq-Decides q p (is_within p q) refl).0 is

pub within-append : (p rest : Path) → is_within p (p ++ rest) ≡ true
within-append p rest = (starts_is bytes_eq-Decides (p ++ rest) p (is_within p (p ++ rest)) refl).1 rest refl

pub within-self : (p : Path) → is_within p p ≡ true
within-self p = subst (λ (q : Path). is_within p q ≡ true) (append-nil p) (within-append p [])

-- a path below one that is at or below p is below p
pub within-deeper : (p q rest : Path) → is_within p q ≡ true → is_within p (q ++ rest) ≡ true
within-deeper p q rest is =
    let longer = append_assoc p (drop (length p) q) rest in
    subst (λ (x : Path). is_within p x ≡ true) (sym longer ∙ ap (λ (x : Path). x ++ rest) (sym (within-rest p q is))) (within-append p (drop (length p) q ++ rest))

pub within-long : (p q : Path) → is_within p q ≡ true → length p ≤ length q
within-long p q is =
    let sum = ap length (within-rest p q is) ∙ length-append p (drop (length p) q) in
    omega (arith, sum)

pub under-parts : (p q : Path) → is_under p q ≡ true → (is_within p q ≡ true) × (length p < length q)
under-parts p q is =
    let both = and_parts (is_within p q) (nat_lt (length p) (length q)) is in
    let longer = both.1 in
    (both.0, grind (arith, nat_tests, longer))

pub under-from : (p q : Path) → is_within p q ≡ true → length p < length q → is_under p q ≡ true
under-from p q is longer = and_from (is_within p q) (nat_lt (length p) (length q)) is (grind (arith, nat_tests, longer))

-- a path below p is p and a name or more
pub under-rest : (p q : Path) → is_under p q ≡ true → (name : List ℕ) × (names : Path) × (q ≡ p ++ name ∷ names)
under-rest p q is = by (drop (length p) q) (within-rest p q both.0) both.1
  where
    both : (is_within p q ≡ true) × (length p < length q)
    both = under-parts p q is

    by : (rest : Path) → q ≡ p ++ rest → length p < length q → (name : List ℕ) × (names : Path) × (q ≡ p ++ name ∷ names)
    by [] e longer = let same = ap length (e ∙ append-nil p) in absurd (omega (arith, same, longer))
    by (name ∷ names) e longer = (name, names, e)

pub under-append : (p : Path) (name : List ℕ) (names : Path) → is_under p (p ++ name ∷ names) ≡ true
under-append p name names =
    let sum = length-append p (name ∷ names) in
    under-from p (p ++ name ∷ names) (within-append p (name ∷ names)) (omega (arith, sum))

-- no path is below itself
pub under-self : (p : Path) → is_under p p ≡ false
under-self p = by (is_under p p) refl
  where
    by : (b : Bool) → is_under p p ≡ b → is_under p p ≡ false
    by true is = let longer = (under-parts p p is).1 in absurd (omega (arith, longer))
    by false is = is

pub under-deeper : (p q rest : Path) → is_under p q ≡ true → is_under p (q ++ rest) ≡ true
under-deeper p q rest is =
    let both = under-parts p q is in
    let sum = length-append q rest in
    let longer = both.1 in
    under-from p (q ++ rest) (within-deeper p q rest both.0) (omega (arith, sum, longer))

-- a path right below one that is at or below p is below p
pub under-next : (p q : Path) (name : List ℕ) → is_within p q ≡ true → is_under p (q ++ name ∷ []) ≡ true
under-next p q name is =
    let long = within-long p q is in
    let sum = length-append q (name ∷ []) in
    under-from p (q ++ name ∷ []) (within-deeper p q (name ∷ []) is) (omega (arith, sum, long))

-- ---- what is left in a tree

total : IsTotalOrder path_cmp
total = lists_total nat_list_cmp_total

same_path : IsAntisymmetric path_cmp
same_path = slice_cmp-IsAntisymmetric (slice_cmp-IsAntisymmetric nat_cmp-IsAntisymmetric)

alike : (test : Path → Bool) (q x : Path) → path_cmp q x ≡ Equal → test x ≡ test q
alike test q x same = ap test (sym (same_path q x same))

past-either : (b : Bool) (o : Option Rec) → cond (not b) o None ≡ cond b None o
past-either true o = refl
past-either false o = refl

-- of a tree without the keys that pass a test
pub get-past : (t : Tree) (gone : Path → Bool) (q : Path) → get (retain_keys t (λ (x : Path). not (gone x))) q ≡ cond (gone q) None (get t q)
get-past t gone q =
    get-retain_keys t (λ (x : Path). not (gone x)) q
    (alike (λ (x : Path). not (gone x)) q) ∙ past-either (gone q) (get t q)

pub get-without_tree : (t : Tree) (p : Path) (moment : ℕ) (q : Path) →
    get (without_tree t p moment) q ≡ cond (is_within p q) None (get (edited t (above p) (at_time moment)) q)
get-without_tree t p moment q = get-past (edited t (above p) (at_time moment)) (is_within p) q

pub get-emptied : (t : Tree) (p : Path) (moment : ℕ) (q : Path) → has_contents t p ≡ true →
    get (emptied t p moment) q ≡ cond (is_under p q) None (get (edited t p (without_values moment)) q)
get-emptied t p moment q some = rw some (get-past (edited t p (without_values moment)) (is_under p) q)

-- its entries are those whose paths fail it
pub entries-past : (t : Tree) (gone : Path → Bool) → entries (retain_keys t (λ (x : Path). not (gone x))) ≡ filter (λ (e : Path × Rec). not (gone e.0)) (entries t)
entries-past t gone =
    let stays : Path → Bool = λ x. not (gone x) in
    same_entries path_cmp total same_path (entries (retain_keys t stays)) (filter (λ (e : Path × Rec). stays e.0) (entries t))
    (entries_sorted (retain_keys t stays)) (is_sorted-where_key path_cmp stays (entries t) (entries_sorted t))
    (λ q. sym (get-entries (retain_keys t stays) q) ∙ get-retain_keys t stays q (alike stays q) ∙ ap (λ (o : Option Rec). cond (stays q) o None)
    (get-entries t q) ∙ sym (find-where_key path_cmp stays q (alike stays q) (entries t)))

-- of a tree that is written out
pub past-written : (es : List (Path × Rec)) (gone : Path → Bool) → T (is_sorted path_cmp es) →
    retain_keys (from_sorted {R = path_cmp} es) (λ (x : Path). not (gone x)) ≡ from_sorted (filter (λ (e : Path × Rec). not (gone e.0)) es)
past-written es gone h =
    same_entries_map _ _ (entries-past (from_sorted es) gone ∙ ap (filter (λ (e : Path × Rec). not (gone e.0))) (entries-from_sorted path_cmp es h) ∙
    sym (entries-from_sorted path_cmp (filter (λ (e : Path × Rec). not (gone e.0)) es) (is_sorted-where_key path_cmp (λ (x : Path). not (gone x)) es h)))

pub put-written : (es : List (Path × Rec)) (p : Path) (r : Rec) → T (is_sorted path_cmp es) → insert (from_sorted {R = path_cmp} es) p r ≡ from_sorted (put path_cmp p r es)
put-written es p r h =
    same_entries_map _ _ (entries-insert total (from_sorted es) p r ∙ ap (put path_cmp p r) (entries-from_sorted path_cmp es h) ∙
    sym (entries-from_sorted path_cmp (put path_cmp p r es) (is_sorted-put path_cmp total p r es h)))

-- ---- marks

-- a test that no key of a tree passes
fails-one : (test : Path → Bool) (q k : Path) (ks : List Path) (b : Bool) → eq_by_cmp path_cmp q k ≡ b → (test k || list_any test ks) ≡ false →
    (list_any test ks ≡ false → list_any (eq_by_cmp path_cmp q) ks ≡ true → test q ≡ false) → (b || list_any (eq_by_cmp path_cmp q) ks) ≡ true → test q ≡ false
fails-one test q k ks true same none rest some = rw (path-is q k same) (or_parts (test k) _ none).0
fails-one test q k ks false other none rest some = rest (or_parts (test k) _ none).1 some

fails-all : (test : Path → Bool) (q : Path) (ks : List Path) → list_any test ks ≡ false → list_any (eq_by_cmp path_cmp q) ks ≡ true → test q ≡ false
fails-all test q [] none some = absurd (false≢true some)
fails-all test q (k ∷ ks) none some = fails-one test q k ks (eq_by_cmp path_cmp q k) refl none (fails-all test q ks) some

pub none-passes : (t : Tree) (test : Path → Bool) (q : Path) → list_any test (keys t) ≡ false → contains_key t q ≡ true → test q ≡ false
none-passes t test q none there = fails-all test q (keys t) none (sym (contains_key-keys t q) ∙ there)

-- and the other way round
pub all-fail : (t : Tree) (test : Path → Bool) → ((q : Path) → contains_key t q ≡ true → test q ≡ false) → list_any test (keys t) ≡ false
all-fail t test fails =
    list_any_none test (keys t)
    (All-from_any (eq_by_cmp_equiv total) (λ (q : Path). test q ≡ false) (keys t) (λ q there. fails q (contains_key-keys t q ∙ there)))

-- where there is no key, there is no mark
marked-there : (t : Tree) (q : Path) → is_marked t q ≡ true → contains_key t q ≡ true
marked-there t q marked =
    elim (get t q) as (λ (o : Option Rec). not (bit_and (marks_of o) NO_DELETE == 0) ≡ true → is_some o ≡ true) [ None ↦ λ marked. absurd (false≢true marked) | Some r ↦ λ marked. refl ] marked

-- no key that passes a test has the mark
unmarked : (t : Tree) (test : Path → Bool) (q : Path) → list_any (λ (x : Path). test x && is_marked t x) (keys t) ≡ false → test q ≡ true → is_marked t q ≡ false
unmarked t test q none passes = by (is_marked t q) refl
  where
    by : (b : Bool) → is_marked t q ≡ b → is_marked t q ≡ false
    by true marked =
        absurd (false≢true (sym (none-passes t (λ (x : Path). test x && is_marked t x) q none (marked-there t q marked)) ∙ and_from (test q) (is_marked t q) passes marked))
    by false is = is

pub unmarked-within : (t : Tree) (p q : Path) → any_kept_within t p ≡ false → is_within p q ≡ true → is_marked t q ≡ false
unmarked-within t p q none is = unmarked t (is_within p) q none is

pub unmarked-under : (t : Tree) (p q : Path) → any_kept_under t p ≡ false → is_under p q ≡ true → is_marked t q ≡ false
unmarked-under t p q none is = unmarked t (is_under p) q none is

not_both : (a b : Bool) → (a ≡ true → b ≡ false) → (a && b) ≡ false
not_both true b then = then refl
not_both false b then = refl

-- and the other way round: all keys there that pass it lack the mark
pub none_kept-within : (t : Tree) (p : Path) → ((q : Path) → contains_key t q ≡ true → is_within p q ≡ true → is_marked t q ≡ false) → any_kept_within t p ≡ false
none_kept-within t p each =
    all-fail t (λ (q : Path). is_within p q && is_marked t q) (λ q there. not_both (is_within p q) (is_marked t q) (each q there))

pub none_kept-under : (t : Tree) (p : Path) → ((q : Path) → contains_key t q ≡ true → is_under p q ≡ true → is_marked t q ≡ false) → any_kept_under t p ≡ false
none_kept-under t p each =
    all-fail t (λ (q : Path). is_under p q && is_marked t q) (λ q there. not_both (is_under p q) (is_marked t q) (each q there))

-- a marked key is one
pub kept-within : (t : Tree) (p q : Path) → is_within p q ≡ true → is_marked t q ≡ true → any_kept_within t p ≡ true
kept-within t p q is marked = by (any_kept_within t p) refl
  where
    by : (b : Bool) → any_kept_within t p ≡ b → any_kept_within t p ≡ true
    by true e = e
    by false none = absurd (false≢true (sym (unmarked-within t p q none is) ∙ marked))

pub kept-under : (t : Tree) (p q : Path) → is_under p q ≡ true → is_marked t q ≡ true → any_kept_under t p ≡ true
kept-under t p q is marked = by (any_kept_under t p) refl
  where
    by : (b : Bool) → any_kept_under t p ≡ b → any_kept_under t p ≡ true
    by true e = e
    by false none = absurd (false≢true (sym (unmarked-under t p q none is) ∙ marked))
