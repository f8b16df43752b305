-- Notices in the order of their watches: there is one such list of them.
use Rattle.std.proofs.Common.{◌≡◌, ℕ, ◌+◌, ◌<◌, ◌≤◌, suc, Bool, true, false, cond, eqb, List, [], ◌∷◌, length, map, get_or, refl, sym, ap, ◌∙◌, arith, ◌⊎◌}
use Rattle.std.proofs.Common.{inl, inr}
use Rattle.std.specs.List.{AllByRecursion, sum_by}
use Rattle.std.specs.List.Sorted.{IsPermutation, IsNonDecreasingBy, IsStrictlySortedBy}
use Rattle.std.specs.Ordering.{nat_cmp}
use Rattle.std.specs.declared.cmp.Ordering.TheVariants.{Less}
use Rattle.std.proofs.lemmas.Bool.{cond-true, cond-false, eq-eqb, ne_eqb, cases_order}
use Rattle.std.proofs.lemmas.Bool.Decides.{nat_tests}
use Rattle.std.proofs.lemmas.List.Sums.{sum_by-cons}
use Rattle.std.proofs.lemmas.List.Sorted.{sum_by-IsPermutation}
use Rattle.reg_model.specs.declared.notice.Reason.{Reason}
use Rattle.reg_model.specs.declared.notice.Reason.TheVariants.{Matched, Gone, Closed}
use Rattle.reg_notify.specs.declared.queues.Sent.{Sent}
use Rattle.reg_notify.specs.Internal.Firing.{AreInOrder}

abbrev watch : Sent → ℕ
watch x = x.notice.watch

-- ---- sums over notices

abbrev total : (Sent → ℕ) → List Sent → ℕ
total f [] = 0
total f (x ∷ xs) = f x + total f xs

total-is : (f : Sent → ℕ) (xs : List Sent) → sum_by f xs ≡ total f xs
total-is f [] = refl
total-is f (x ∷ xs) = sum_by-cons f x xs ∙ ap (λ (n : ℕ). f x + n) (total-is f xs)

-- those of one watch
abbrev of_watch : ℕ → (Sent → ℕ) → Sent → ℕ
of_watch n f x = cond (eqb (watch x) n) (f x) 0

-- a list without the watch has none of it
none-of : (n : ℕ) (f : Sent → ℕ) (xs : List Sent) → AllByRecursion (λ (z : Sent). eqb (watch z) n ≡ false) xs → total (of_watch n f) xs ≡ 0
none-of n f [] all = refl
none-of n f (x ∷ xs) all =
    let first : of_watch n f x ≡ 0 = cond-false _ _ _ all.0 in
    let rest = none-of n f xs all.1 in
    omega (arith, first, rest)

-- and where a count finds none, no sum does
none-counted : (n : ℕ) (f : Sent → ℕ) (xs : List Sent) → total (of_watch n (λ (z : Sent). 1)) xs ≡ 0 → total (of_watch n f) xs ≡ 0
none-counted n f [] none = refl
none-counted n f (x ∷ xs) none = by (eqb (watch x) n) refl (none-counted n f xs)
  where
    by : (b : Bool) → eqb (watch x) n ≡ b → (total (of_watch n (λ (z : Sent). 1)) xs ≡ 0 → total (of_watch n f) xs ≡ 0) → total (of_watch n f) (x ∷ xs) ≡ 0
    by true e rest =
        let one : of_watch n (λ (z : Sent). 1) x ≡ 1 = cond-true _ _ _ e in
        absurd (omega (arith, one, none))
    by false e rest =
        let left : total (of_watch n (λ (z : Sent). 1)) xs ≡ 0 = omega (arith, none) in
        let first : of_watch n f x ≡ 0 = cond-false _ _ _ e in
        let others = rest left in
        omega (arith, first, others)

-- ---- notices are told apart by their parts

abbrev number_of : Reason → ℕ
number_of Matched = 0
number_of Gone = 1
number_of Closed = 2

same-reason : (a b : Reason) → number_of a ≡ number_of b → a ≡ b
same-reason Matched Matched e = refl
same-reason Matched Gone e = absurd (omega (arith, e))
same-reason Matched Closed e = absurd (omega (arith, e))
same-reason Gone Matched e = absurd (omega (arith, e))
same-reason Gone Gone e = refl
same-reason Gone Closed e = absurd (omega (arith, e))
same-reason Closed Matched e = absurd (omega (arith, e))
same-reason Closed Gone e = absurd (omega (arith, e))
same-reason Closed Closed e = refl

same-sent : (x y : Sent) → ((f : Sent → ℕ) → f y ≡ f x) → y ≡ x
same-sent x y same =
    let session : y.session ≡ x.session = same (λ (z : Sent). z.session) in
    let number : y.notice.watch ≡ x.notice.watch = same (λ (z : Sent). z.notice.watch) in
    let by : y.notice.by ≡ x.notice.by = same (λ (z : Sent). z.notice.by) in
    let reason : y.notice.reason ≡ x.notice.reason = same-reason y.notice.reason x.notice.reason (same (λ (z : Sent). number_of z.notice.reason)) in
    rw (session, number, by, reason) refl

-- ---- two orders

-- no watch is below the first
abbrev Rises : List Sent → Type 0
Rises [] = Unit {0}
Rises (x ∷ xs) = AllByRecursion (λ (z : Sent). watch x ≤ watch z) xs × Rises xs

apart-above : (n m : ℕ) (xs : List Sent) → n < m → AllByRecursion (λ (z : Sent). m ≤ watch z) xs → AllByRecursion (λ (z : Sent). eqb (watch z) n ≡ false) xs
apart-above n m [] less all = tt
apart-above n m (x ∷ xs) less all =
    let first = all.0 in
    (ne_eqb (watch x) n (λ e. absurd (omega (arith, e, less, first))), apart-above n m xs less all.1)

-- each is above the first
abbrev Above : ℕ → List Sent → Type 0
Above n xs = AllByRecursion (λ (m : ℕ). nat_cmp n m ≡ Less) (map watch xs)

less-is : (n m : ℕ) → nat_cmp n m ≡ Less → n < m
less-is n m less = grind (arith, nat_tests)

above-least : (n : ℕ) (xs : List Sent) → Above n xs → AllByRecursion (λ (z : Sent). n + 1 ≤ watch z) xs
above-least n [] all = tt
above-least n (x ∷ xs) all = let l = less-is n (watch x) all.0 in (omega (arith, l), above-least n xs all.1)

none-above : (n k : ℕ) (xs : List Sent) → k ≤ n → Above n xs → AllByRecursion (λ (z : Sent). eqb (watch z) k ≡ false) xs
none-above n k xs le all = apart-above k (n + 1) xs (omega (arith, le)) (above-least n xs all)

abbrev SameSums : List Sent → List Sent → Type 0
SameSums xs ys = (f : Sent → ℕ) → total f ys ≡ total f xs

-- a list in order begins with the watch with which another one of the same notices begins
module _ (x y : Sent) (xs ys : List Sent) (above : Above (watch x) xs) (rises : AllByRecursion (λ (z : Sent). watch y ≤ watch z) ys)
    (same : SameSums (x ∷ xs) (y ∷ ys)) where
  one : (n : ℕ) → watch x ≡ n → of_watch n (λ (z : Sent). 1) x ≡ 1
  one n e = cond-true _ _ _ (eq-eqb (watch x) n e)

  not-below : watch x < watch y → ⊥
  not-below less =
      let s = same (of_watch (watch x) (λ (z : Sent). 1)) in
      let here = one (watch x) refl in
      let first : of_watch (watch x) (λ (z : Sent). 1) y ≡ 0 = cond-false _ _ _ (ne_eqb (watch y) (watch x) (λ e. absurd (omega (arith, e, less)))) in
      let rest = none-of (watch x) (λ (z : Sent). 1) ys (apart-above (watch x) (watch y) ys less rises) in
      omega (arith, s, here, first, rest)

  not-above : watch y < watch x → ⊥
  not-above less =
      let s = same (of_watch (watch y) (λ (z : Sent). 1)) in
      let here : of_watch (watch y) (λ (z : Sent). 1) y ≡ 1 = cond-true _ _ _ (eq-eqb (watch y) (watch y) refl) in
      let first : of_watch (watch y) (λ (z : Sent). 1) x ≡ 0 = cond-false _ _ _ (ne_eqb (watch x) (watch y) (λ e. absurd (omega (arith, e, less)))) in
      let rest = none-of (watch y) (λ (z : Sent). 1) xs (none-above (watch x) (watch y) xs (omega (arith, less)) above) in
      omega (arith, s, here, first, rest)

  first-watch : watch y ≡ watch x
  first-watch = by (cases_order (watch y) (watch x))
    where
      by : (watch y ≡ watch x) ⊎ ((watch y < watch x) ⊎ (watch x < watch y)) → watch y ≡ watch x
      by (inl e) = e
      by (inr (inl l)) = absurd (not-above l)
      by (inr (inr l)) = absurd (not-below l)

  each-sum : (f : Sent → ℕ) → f y ≡ f x
  each-sum f =
      let e = first-watch in
      let n = watch x in
      let s = same (of_watch n f) in
      let c = same (of_watch n (λ (z : Sent). 1)) in
      let here : of_watch n f x ≡ f x = cond-true _ _ _ (eq-eqb n n refl) in
      let there : of_watch n f y ≡ f y = cond-true _ _ _ (eq-eqb (watch y) n e) in
      let here_one : of_watch n (λ (z : Sent). 1) x ≡ 1 = cond-true _ _ _ (eq-eqb n n refl) in
      let there_one : of_watch n (λ (z : Sent). 1) y ≡ 1 = cond-true _ _ _ (eq-eqb (watch y) n e) in
      let none = none-of n f xs (none-above n n xs (omega arith) above) in
      let none_one = none-of n (λ (z : Sent). 1) xs (none-above n n xs (omega arith) above) in
      let no_more : total (of_watch n (λ (z : Sent). 1)) ys ≡ 0 = omega (arith, c, here_one, there_one, none_one) in
      let nothing = none-counted n f ys no_more in
      omega (arith, s, here, there, none, nothing)

  first-same : y ≡ x
  first-same = same-sent x y each-sum

  rest-same : SameSums xs ys
  rest-same f = let e = each-sum f in let s = same f in omega (arith, e, s)

one-order : (xs ys : List Sent) → AreInOrder xs → Rises ys → SameSums xs ys → ys ≡ xs
unfolding IsStrictlySortedBy
one-order [] [] up rises same = refl
one-order [] (y ∷ ys) up rises same = let s = same (λ (z : Sent). 1) in absurd (omega (arith, s))
one-order (x ∷ xs) [] up rises same = let s = same (λ (z : Sent). 1) in absurd (omega (arith, s))
one-order (x ∷ xs) (y ∷ ys) up rises same =
    ap (λ (z : Sent). z ∷ ys) (first-same x y xs ys up.0 rises.0 same)
    ∙ ap (λ (l : List Sent). x ∷ l) (one-order xs ys up.1 rises.1 (rest-same x y xs ys up.0 rises.0 same))

-- ---- what a sort says

from_places : (n : ℕ) (xs : List Sent) → ((k : ℕ) (d : Sent) → k < length xs → n ≤ watch (get_or xs k d)) → AllByRecursion (λ (z : Sent). n ≤ watch z) xs
from_places n [] all = tt
from_places n (x ∷ xs) all = (all 0 x (omega arith), from_places n xs (λ k d less. all (suc k) d (omega (arith, less))))

rises-sorted : (xs : List Sent) → IsNonDecreasingBy watch xs → Rises xs
rises-sorted [] sorted = tt
rises-sorted (x ∷ xs) sorted = (
  from_places (watch x) xs (λ k d less. sorted 0 (suc k) d (omega arith) (omega (arith, less))),
  rises-sorted xs (λ i j d le less. sorted (suc i) (suc j) d (omega (arith, le)) (omega (arith, less))),
)

-- what is sorted of some notices whose watches rise is that list
pub sorted-is : (xs ys : List Sent) → AreInOrder xs → IsPermutation xs ys → IsNonDecreasingBy watch ys → ys ≡ xs
sorted-is xs ys up moved sorted =
    one-order xs ys up (rises-sorted ys sorted) (λ f. sym (total-is f ys) ∙ sum_by-IsPermutation f xs ys moved ∙ total-is f xs)
