-- A row more, and a row less: what stays of the altitudes and the cookies.
use Rattle.std.proofs.Common.{◌≡◌, ℕ, suc, ◌+◌, ◌<◌, ◌≤◌, Bool, true, false, not, ◌||◌, ◌==◌, nat_lt, nat_le, List, [], ◌∷◌, ◌++◌, map}
use Rattle.std.proofs.Common.{take, drop, length, slice_index_or, slice_get, option_map, unwrap_or, Some, zero, if◌then◌else◌, ◌⊎◌, inl, inr, refl, sym, ap, ◌∙◌, subst, arith}
use Rattle.std.specs.List.{list_all, insert, remove}
use Rattle.std.proofs.lemmas.Bool.{and_parts, and_from, or_parts, or_right, not-true, not_from_false, cases_lt, leb-true, leb-false, lt-ltb, ltb-true, eq-eqb, ne_eqb, eqb-false}
use Rattle.std.proofs.lemmas.List.{map-append, take-append-drop, take-map, drop-map}
use Rattle.std.proofs.lemmas.Option.{slice_get-map, slice_get-get_or}
use Rattle.std.proofs.lemmas.List.Folds.{list_all-append}
use Rattle.reg_callbacks.specs.Rows.{is_so_of_pairs, is_falling, are_distinct, are_below, count_above, is_among, IsOneMore}

-- ---- the place of a row

split : {X : Type 0} (xs : List X) (i : ℕ) (d : X) → i < length xs → xs ≡ take i xs ++ slice_index_or xs i d ∷ drop (suc i) xs
split [] i d l = absurd (omega (arith, l))
split (x ∷ xs) zero d l = refl
split (x ∷ xs) (suc i) d l = ap (λ ys. x ∷ ys) (split xs i d (omega (arith, l)))

pub one_more_than_rest : {X : Type 0} {before after : List X} {i : ℕ} {x : X} → i < length before → x ≡ slice_index_or before i x → after ≡ remove before i → IsOneMore x after before
one_more_than_rest {X} {before} {after} {i} {x} within is rest =
    record { front = take i before; back = drop (suc i) before; without = rest; with = split before i x within ∙ ap (λ y. take i before ++ y ∷ drop (suc i) before) (sym is) }

pub is_read : {X : Type 0} (f : X → ℕ) (xs : List X) (i n : ℕ) (x : X) → slice_get (map f xs) i ≡ Some n → i < length xs → x ≡ slice_index_or xs i x → f x ≡ n
is_read f xs i n x found within is =
    let first : option_map f (slice_get xs i) ≡ Some n = sym (slice_get-map f xs i) ∙ found in
    let second : Some (f (slice_index_or xs i x)) ≡ Some n = sym (ap (option_map f) (slice_get-get_or xs i x within)) ∙ first in
    ap f is ∙ ap (λ o. unwrap_or o 0) second

-- ---- tests of all

all_of_more : (p : ℕ → Bool) (front back : List ℕ) (n : ℕ) → list_all p (front ++ n ∷ back) ≡ true → (p n ≡ true) × (list_all p (front ++ back) ≡ true)
all_of_more p [] back n all = and_parts (p n) (list_all p back) all
all_of_more p (m ∷ front) back n all =
    let parts = and_parts (p m) (list_all p (front ++ n ∷ back)) all in
    let rest = all_of_more p front back n parts.1 in
    (rest.0, and_from (p m) (list_all p (front ++ back)) parts.0 rest.1)

all_with_more : (p : ℕ → Bool) (front back : List ℕ) (n : ℕ) → p n ≡ true → list_all p (front ++ back) ≡ true → list_all p (front ++ n ∷ back) ≡ true
all_with_more p [] back n one all = and_from (p n) (list_all p back) one all
all_with_more p (m ∷ front) back n one all =
    let parts = and_parts (p m) (list_all p (front ++ back)) all in
    and_from (p m) (list_all p (front ++ n ∷ back)) parts.0 (all_with_more p front back n one parts.1)

all_where : (p q : ℕ → Bool) → ((n : ℕ) → p n ≡ true → q n ≡ true) → (ns : List ℕ) → list_all p ns ≡ true → list_all q ns ≡ true
all_where p q gives [] all = refl
all_where p q gives (n ∷ ns) all =
    let parts = and_parts (p n) (list_all p ns) all in
    and_from (q n) (list_all q ns) (gives n parts.0) (all_where p q gives ns parts.1)

-- ---- tests of pairs

pairs_of_more : (r : ℕ → ℕ → Bool) (front back : List ℕ) (n : ℕ) → is_so_of_pairs r (front ++ n ∷ back) ≡ true → is_so_of_pairs r (front ++ back) ≡ true
pairs_of_more r [] back n all = (and_parts (list_all (r n) back) (is_so_of_pairs r back) all).1
pairs_of_more r (m ∷ front) back n all =
    let parts = and_parts (list_all (r m) (front ++ n ∷ back)) (is_so_of_pairs r (front ++ n ∷ back)) all in
    and_from (list_all (r m) (front ++ back)) (is_so_of_pairs r (front ++ back)) (all_of_more (r m) front back n parts.0).1 (pairs_of_more r front back n parts.1)

pairs_with_more :
    (r : ℕ → ℕ → Bool) (front back : List ℕ) (n : ℕ)
    → list_all (λ m. r m n) front ≡ true
    → list_all (r n) back ≡ true
    → is_so_of_pairs r (front ++ back) ≡ true
    → is_so_of_pairs r (front ++ n ∷ back) ≡ true
pairs_with_more r [] back n before after all = and_from (list_all (r n) back) (is_so_of_pairs r back) after all
pairs_with_more r (m ∷ front) back n before after all =
    let parts = and_parts (list_all (r m) (front ++ back)) (is_so_of_pairs r (front ++ back)) all in
    let firsts = and_parts (r m n) (list_all (λ k. r k n) front) before in
    and_from (list_all (r m) (front ++ n ∷ back)) (is_so_of_pairs r (front ++ n ∷ back))
    (all_with_more (r m) front back n firsts.0 parts.0)
    (pairs_with_more r front back n firsts.1 after parts.1)

-- ---- numbers

strictly : (n a : ℕ) → n ≤ a → (n ≡ a → ⊥) → n < a
strictly n a le ne = by (cases_lt n a)
  where
    by : (n < a) ⊎ (a ≤ n) → n < a
    by (inl l) = l
    by (inr ge) = absurd (ne (omega (arith, le, ge)))

turned : (n m : ℕ) → (n == m) ≡ false → (m == n) ≡ false
turned n m e = ne_eqb m n (λ same. eqb-false n m e (sym same))

differs_above : (n m : ℕ) → nat_lt n m ≡ true → not (m == n) ≡ true
differs_above n m l = let less = ltb-true n m l in not_from_false (m == n) (ne_eqb m n (λ e. omega (arith, less, e)))

differs_below : (n m : ℕ) → nat_lt n m ≡ true → not (n == m) ≡ true
differs_below n m l = let less = ltb-true n m l in not_from_false (n == m) (ne_eqb n m (λ e. omega (arith, less, e)))

all_parts : (p : ℕ → Bool) (front back : List ℕ) → list_all p (front ++ back) ≡ true → (list_all p front ≡ true) × (list_all p back ≡ true)
all_parts p front back all = and_parts (list_all p front) (list_all p back) (sym (list_all-append p front back) ∙ all)

-- ---- a number among others

among_itself : (front back : List ℕ) (n : ℕ) → is_among n (front ++ n ∷ back) ≡ true
among_itself [] back n = ap (λ b. b || is_among n back) (eq-eqb n n refl)
among_itself (m ∷ front) back n = or_right (m == n) (is_among n (front ++ n ∷ back)) (among_itself front back n)

none_among : (n : ℕ) (ns : List ℕ) → list_all (λ m. not (m == n)) ns ≡ true → is_among n ns ≡ false
none_among n [] all = refl
none_among n (m ∷ ns) all =
    let parts = and_parts (not (m == n)) (list_all (λ k. not (k == n)) ns) all in
    ap (λ b. b || is_among n ns) (not-true (m == n) parts.0) ∙ none_among n ns parts.1

gone_among : (front back : List ℕ) (n : ℕ) → are_distinct (front ++ n ∷ back) ≡ true → is_among n (front ++ back) ≡ false
gone_among [] back n differ = none_among n back (and_parts (list_all (λ m. not (m == n)) back) (are_distinct back) differ).0
gone_among (m ∷ front) back n differ =
    let parts = and_parts (list_all (λ k. not (k == m)) (front ++ n ∷ back)) (are_distinct (front ++ n ∷ back)) differ in
    let other = (all_of_more (λ k. not (k == m)) front back n parts.0).0 in
    ap (λ b. b || is_among n (front ++ back)) (turned n m (not-true (n == m) other)) ∙ gone_among front back n parts.1

-- ---- the place of an altitude

take_next : (n : ℕ) (ns : List ℕ) (i : ℕ) → take (i + 1) (n ∷ ns) ≡ n ∷ take i ns
take_next n ns i = let next : suc i ≡ i + 1 = omega (arith) in subst (λ k. take k (n ∷ ns) ≡ n ∷ take i ns) next refl

drop_next : (n : ℕ) (ns : List ℕ) (i : ℕ) → drop (i + 1) (n ∷ ns) ≡ drop i ns
drop_next n ns i = let next : suc i ≡ i + 1 = omega (arith) in subst (λ k. drop k (n ∷ ns) ≡ drop i ns) next refl

all_above : (a : ℕ) (ns : List ℕ) → list_all (λ m. nat_lt a m) (take (count_above a ns) ns) ≡ true
all_above a [] = refl
all_above a (n ∷ ns) = by (all_above a ns) (nat_le n a) refl
  where
    by :
        list_all (λ m. nat_lt a m) (take (count_above a ns) ns) ≡ true
        → (b : Bool)
        → nat_le n a ≡ b
        → list_all (λ m. nat_lt a m) (take (if nat_le n a then 0 else count_above a ns + 1) (n ∷ ns)) ≡ true
    by rest true e = ap (λ c. list_all (λ m. nat_lt a m) (take (if c then 0 else count_above a ns + 1) (n ∷ ns))) e
    by rest false e =
        ap (λ c. list_all (λ m. nat_lt a m) (take (if c then 0 else count_above a ns + 1) (n ∷ ns))) e
        ∙ (ap (list_all (λ m. nat_lt a m)) (take_next n ns (count_above a ns))
        ∙ and_from (nat_lt a n) (list_all (λ m. nat_lt a m) (take (count_above a ns) ns)) (lt-ltb a n (leb-false n a e)) rest)

all_beneath : (a : ℕ) (ns : List ℕ) → is_among a ns ≡ false → is_falling ns ≡ true → list_all (λ m. nat_lt m a) (drop (count_above a ns) ns) ≡ true
all_beneath a [] free falls = refl
all_beneath a (n ∷ ns) free falls = by (all_beneath a ns (or_parts (n == a) (is_among a ns) free).1 (and_parts (list_all (λ m. nat_lt m n) ns) (is_falling ns) falls).1) (nat_le n a) refl
  where
    by :
        list_all (λ m. nat_lt m a) (drop (count_above a ns) ns) ≡ true
        → (b : Bool)
        → nat_le n a ≡ b
        → list_all (λ m. nat_lt m a) (drop (if nat_le n a then 0 else count_above a ns + 1) (n ∷ ns)) ≡ true
    by others true e =
        let first = (or_parts (n == a) (is_among a ns) free).0 in
        let less = strictly n a (leb-true n a e) (eqb-false n a first) in
        let rest = (and_parts (list_all (λ m. nat_lt m n) ns) (is_falling ns) falls).0 in
        ap (λ c. list_all (λ m. nat_lt m a) (drop (if c then 0 else count_above a ns + 1) (n ∷ ns))) e
        ∙ and_from (nat_lt n a) (list_all (λ m. nat_lt m a) ns) (lt-ltb n a less)
        (all_where (λ m. nat_lt m n) (λ m. nat_lt m a) (λ m l. let lower = ltb-true m n l in lt-ltb m a (omega (arith, lower, less))) ns rest)
    by others false e = ap (λ c. list_all (λ m. nat_lt m a) (drop (if c then 0 else count_above a ns + 1) (n ∷ ns))) e ∙ (ap (list_all (λ m. nat_lt m a)) (drop_next n ns (count_above a ns)) ∙ others)

-- ---- a row less

module _ {X : Type 0} (x : X) (before after : List X) (more : IsOneMore x before after) (f : X → ℕ) where
  split_before : map f before ≡ map f more.front ++ map f more.back
  split_before = ap (map f) more.without ∙ map-append f more.front more.back

  split_after : map f after ≡ map f more.front ++ f x ∷ map f more.back
  split_after = ap (map f) more.with ∙ map-append f more.front (x ∷ more.back)

  pub pairs_less : (r : ℕ → ℕ → Bool) → is_so_of_pairs r (map f after) ≡ true → is_so_of_pairs r (map f before) ≡ true
  pairs_less r all = ap (is_so_of_pairs r) split_before ∙ pairs_of_more r (map f more.front) (map f more.back) (f x) (sym (ap (is_so_of_pairs r) split_after) ∙ all)

  pub all_less : (p : ℕ → Bool) → list_all p (map f after) ≡ true → list_all p (map f before) ≡ true
  all_less p each = ap (list_all p) split_before ∙ (all_of_more p (map f more.front) (map f more.back) (f x) (sym (ap (list_all p) split_after) ∙ each)).1

  -- its number was among the others', and is so no more
  pub was_among : (n : ℕ) → f x ≡ n → is_among n (map f after) ≡ true
  was_among n is =
      subst (λ m. is_among m (map f after) ≡ true) is (ap (is_among (f x)) split_after ∙ among_itself (map f more.front) (map f more.back) (f x))

  pub is_gone : (n : ℕ) → f x ≡ n → are_distinct (map f after) ≡ true → is_among n (map f before) ≡ false
  is_gone n is differ =
      subst (λ m. is_among m (map f before) ≡ false) is
      (ap (is_among (f x)) split_before ∙ gone_among (map f more.front) (map f more.back) (f x) (sym (ap are_distinct split_after) ∙ differ))

-- ---- a row more

module _ {X : Type 0} (x : X) (before after : List X) (i : ℕ) (is : after ≡ insert before i x) (f : X → ℕ) where
  halves : map f before ≡ take i (map f before) ++ drop i (map f before)
  halves = sym (take-append-drop i (map f before))

  with_it : map f after ≡ take i (map f before) ++ f x ∷ drop i (map f before)
  with_it =
      ap (map f) is
      ∙ (map-append f (take i before) (x ∷ drop i before)
      ∙ (ap (λ (ns : List ℕ). ns ++ f x ∷ map f (drop i before)) (sym (take-map f i before))
      ∙ ap (λ (ns : List ℕ). take i (map f before) ++ f x ∷ ns) (sym (drop-map f i before))))

  pub pairs_more :
      (r : ℕ → ℕ → Bool)
      → list_all (λ m. r m (f x)) (take i (map f before)) ≡ true
      → list_all (r (f x)) (drop i (map f before)) ≡ true
      → is_so_of_pairs r (map f before) ≡ true
      → is_so_of_pairs r (map f after) ≡ true
  pairs_more r above below all =
      ap (is_so_of_pairs r) with_it
      ∙ pairs_with_more r (take i (map f before)) (drop i (map f before)) (f x) above below (sym (ap (is_so_of_pairs r) halves) ∙ all)

  pub all_more : (p : ℕ → Bool) → p (f x) ≡ true → list_all p (map f before) ≡ true → list_all p (map f after) ≡ true
  all_more p one all =
      ap (list_all p) with_it
      ∙ all_with_more p (take i (map f before)) (drop i (map f before)) (f x) one (sym (ap (list_all p) halves) ∙ all)

  -- a cookie that is above all others differs from them
  pub distinct_more : are_below (f x) (map f before) ≡ true → are_distinct (map f before) ≡ true → are_distinct (map f after) ≡ true
  distinct_more below differ =
      let parts = all_parts (λ n. nat_lt n (f x)) (take i (map f before)) (drop i (map f before)) (sym (ap (are_below (f x)) halves) ∙ below) in
      pairs_more (λ n m. not (m == n))
      (all_where (λ n. nat_lt n (f x)) (λ m. not (f x == m)) (λ n l. differs_above n (f x) l) (take i (map f before)) parts.0)
      (all_where (λ n. nat_lt n (f x)) (λ m. not (m == f x)) (λ n l. differs_below n (f x) l) (drop i (map f before)) parts.1)
      differ

  pub below_more : are_below (f x) (map f before) ≡ true → are_below (f x + 1) (map f after) ≡ true
  below_more below =
      all_more (λ n. nat_lt n (f x + 1)) (lt-ltb (f x) (f x + 1) (omega (arith)))
      (all_where (λ n. nat_lt n (f x)) (λ n. nat_lt n (f x + 1)) (λ n l. let less = ltb-true n (f x) l in lt-ltb n (f x + 1) (omega (arith, less))) (map f before) below)

  -- an altitude that is at none of the others stands where they fall past it
  pub falling_more : i ≡ count_above (f x) (map f before) → is_among (f x) (map f before) ≡ false → is_falling (map f before) ≡ true → is_falling (map f after) ≡ true
  falling_more place free falls =
      pairs_more (λ n m. nat_lt m n)
      (subst (λ k. list_all (λ m. nat_lt (f x) m) (take k (map f before)) ≡ true) (sym place) (all_above (f x) (map f before)))
      (subst (λ k. list_all (λ m. nat_lt m (f x)) (drop k (map f before)) ≡ true) (sym place) (all_beneath (f x) (map f before) free falls))
      falls
