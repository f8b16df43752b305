-- Two names compared byte by byte.
use Rattle.std.proofs.Common.{IsTrue, ◌≡◌, ℕ, zero, suc, ◌+◌, ◌-◌, ◌≤◌, Bool, true, false, List, [], ◌∷◌, length, drop, get_or, sym, ap, ◌∙◌, refl, arith, ◌⊎◌, inl, inr}
use Rattle.std.proofs.Common.{length-drop, min, take}
use Rattle.std.proofs.Math.Seq.{take-add}
use Rattle.std.specs.Ordering.{nat_cmp, is_eq}
use Rattle.std.specs.declared.cmp.Ordering.{Ordering}
use Rattle.std.specs.declared.cmp.Ordering.TheVariants.{Less, Equal, Greater}
use Rattle.std.specs.Cmp.Lexicographic.{slice_cmp}
use Rattle.std.specs.Str.{bytes_eq}
use Rattle.std.proofs.lemmas.Map.Text.{is_eq-slice_cmp}
use Rattle.std.proofs.lemmas.Slice.Eq.{bytes_eq-Decides}
use Rattle.std.proofs.lemmas.Bool.Decides.{nat_tests}
use Rattle.reg_names.specs.Names.{name_cmp}

-- nothing against some bytes, either way round
pub name_cmp-nil : (ys : List ℕ) → name_cmp [] ys ≡ nat_cmp 0 (length ys)
name_cmp-nil [] = refl
name_cmp-nil (y ∷ ys) = grind (arith, nat_tests)

pub name_cmp-nil_right : (xs : List ℕ) → name_cmp xs [] ≡ nat_cmp (length xs) 0
name_cmp-nil_right [] = refl
name_cmp-nil_right (x ∷ xs) = grind (arith, nat_tests)

pub shifted : (m n i : ℕ) → i ≤ m → i ≤ n → nat_cmp (m - i) (n - i) ≡ nat_cmp m n
shifted m n i l k = grind (arith, nat_tests)

empty : (xs : List ℕ) → length xs ≡ 0 → xs ≡ []
empty [] e = refl
empty (x ∷ xs) e = absurd (omega arith)

by_lengths : (xs ys : List ℕ) → (length xs ≡ 0) ⊎ (length ys ≡ 0) → name_cmp xs ys ≡ nat_cmp (length xs) (length ys)
by_lengths xs ys (inl e) = let P : List ℕ → Type 0 = λ zs. name_cmp zs ys ≡ nat_cmp (length zs) (length ys) in Rattle.std.proofs.Common.subst P (sym (empty xs e)) (name_cmp-nil ys)
by_lengths xs ys (inr e) = let P : List ℕ → Type 0 = λ zs. name_cmp xs zs ≡ nat_cmp (length xs) (length zs) in Rattle.std.proofs.Common.subst P (sym (empty ys e)) (name_cmp-nil_right xs)

-- where one name has ended, the lengths decide
pub ended : (a b : List ℕ) (i : ℕ) → i ≡ min (length a) (length b) → name_cmp (drop i a) (drop i b) ≡ nat_cmp (length a) (length b)
ended a b i e =
    let one : (length (drop i a) ≡ 0) ⊎ (length (drop i b) ≡ 0) = grind (arith, length-drop i a, length-drop i b) in
    by_lengths (drop i a) (drop i b) one ∙ (ap (λ n. nat_cmp n (length (drop i b))) (length-drop i a) ∙
    (ap (λ n. nat_cmp (length a - i) n) (length-drop i b) ∙ shifted (length a) (length b) i (omega arith) (omega arith)))

-- names that compare as equal fold alike, and the other way round
pub same_from_Equal : (xs ys : List ℕ) → slice_cmp nat_cmp xs ys ≡ Equal → xs ≡ ys
same_from_Equal xs ys e = (bytes_eq-Decides xs ys).0 (sym (is_eq-slice_cmp xs ys) ∙ ap is_eq e)

pub eq_from_same : (xs ys : List ℕ) → xs ≡ ys → is_eq (slice_cmp nat_cmp xs ys) ≡ true
eq_from_same xs ys e = is_eq-slice_cmp xs ys ∙ (bytes_eq-Decides xs ys).1 e

-- names that don't compare as equal don't fold alike
pub differ : (xs ys : List ℕ) (o : Ordering) → o ≡ slice_cmp nat_cmp xs ys → (o ≡ Less) ⊎ (o ≡ Greater) → (IsTrue false → xs ≡ ys) × (xs ≡ ys → IsTrue false)
differ xs ys o e h = (λ f. absurd (unlike f), λ s. sym (is_other h) ∙ (ap is_eq e ∙ eq_from_same xs ys s))
  where
    unlike : IsTrue false → ⊥
    unlike f = cc

    is_other : (o ≡ Less) ⊎ (o ≡ Greater) → is_eq o ≡ false
    is_other (inl l) = ap is_eq l
    is_other (inr g) = ap is_eq g

-- a front that two names have alike, and a step more of it
pub one_step : (front step : ℕ) (a b : List ℕ) → take front a ≡ take front b →
    take step (drop front a) ≡ take step (drop front b) → take (front + step) a ≡ take (front + step) b
one_step front step a b e f = rw (take-add front step a, take-add front step b, e, f) refl

-- the test of a step, as the code has it
pub step_alike : (front step : ℕ) (a b : List ℕ) (test : Bool) →
    test ≡ bytes_eq (take (front + step - front) (drop front a)) (take (front + step - front) (drop front b)) → test ≡ true →
    take step (drop front a) ≡ take step (drop front b)
step_alike front step a b test h e =
    let same : front + step - front ≡ step = omega arith in
    let P : ℕ → Type 0 = λ n. take n (drop front a) ≡ take n (drop front b) in
    Rattle.std.proofs.Common.subst P same
    ((bytes_eq-Decides (take (front + step - front) (drop front a)) (take (front + step - front) (drop front b))).0 (sym h ∙ e))

-- letters that are alike don't decide
alike_heads : (x y : ℕ) (a b : List ℕ) → x ≡ y → name_cmp (x ∷ a) (y ∷ b) ≡ name_cmp a b
alike_heads x y a b e = rw e (grind (arith, nat_tests))

-- what two names have alike at the front doesn't decide
pub after_front : (n : ℕ) (a b : List ℕ) → n ≤ length a → n ≤ length b → take n a ≡ take n b →
    name_cmp a b ≡ name_cmp (drop n a) (drop n b)
after_front zero a b l k e = refl
after_front (suc n) [] b l k e = absurd (omega (arith, l))
after_front (suc n) (x ∷ a) [] l k e = absurd (omega (arith, k))
after_front (suc n) (x ∷ a) (y ∷ b) l k e =
    let heads : x ≡ y = ap (λ xs. get_or xs 0 0) e in
    let rests : take n a ≡ take n b = ap (drop 1) e in
    alike_heads x y a b heads ∙ after_front n a b (omega (arith, l)) (omega (arith, k)) rests
