-- Numbers that another list has at least as often are no more than that list's.
use Rattle.std.proofs.Common.{◌≡◌, ℕ, suc, ◌+◌, ◌<◌, ◌≤◌, Bool, true, false, cond, eqb, List, [], ◌∷◌, length, refl, ap, subst, arith}
use Rattle.std.proofs.lemmas.Bool.{eqb-true}
use Rattle.std.proofs.lemmas.Bool.Decides.{nat_tests}
use Rattle.reg_heap.specs.Kinds.{times}

-- the list without the first of these
abbrev without : ℕ → List ℕ → List ℕ
without x [] = []
without x (y ∷ ys) = cond (eqb y x) ys (y ∷ without x ys)

without-length-by : (x y : ℕ) (ys : List ℕ) (b : Bool) → (0 < times x ys → length ys ≡ suc (length (without x ys))) → 0 < cond b 1 0 + times x ys →
    suc (length ys) ≡ suc (length (cond b ys (y ∷ without x ys)))
without-length-by x y ys true h l = refl
without-length-by x y ys false h l = ap suc (h (omega arith))

without-length : (x : ℕ) (ys : List ℕ) → 0 < times x ys → length ys ≡ suc (length (without x ys))
without-length x [] l = absurd (omega arith)
without-length x (y ∷ ys) l = without-length-by x y ys (eqb y x) (λ l. without-length x ys l) l

without-times-by : (x y z : ℕ) (ys : List ℕ) (b : Bool) → eqb y x ≡ b → (0 < times x ys → times z ys ≡ cond (eqb x z) 1 0 + times z (without x ys)) →
    0 < cond b 1 0 + times x ys → cond (eqb y z) 1 0 + times z ys ≡ cond (eqb x z) 1 0 + times z (cond b ys (y ∷ without x ys))
without-times-by x y z ys true e h l = ap (λ y. cond (eqb y z) 1 0 + times z ys) (eqb-true y x e)
without-times-by x y z ys false e h l = let r = h (omega arith) in omega arith

without-times : (x z : ℕ) (ys : List ℕ) → 0 < times x ys → times z ys ≡ cond (eqb x z) 1 0 + times z (without x ys)
without-times x z [] l = absurd (omega arith)
without-times x z (y ∷ ys) l = without-times-by x y z ys (eqb y x) refl (λ l. without-times x z ys l) l

pub same-number : (x : ℕ) → eqb x x ≡ true
same-number x = grind (arith, nat_tests)

-- a number that a list has is in it at least as often as in a list of itself
pub one-among : (x z : ℕ) (ys : List ℕ) → 0 < times x ys → cond (eqb x z) 1 0 ≤ times z ys
one-among x z ys l = by (eqb x z) refl
  where
    by : (b : Bool) → eqb x z ≡ b → cond b 1 0 ≤ times z ys
    by true e = let s = subst (λ z. 0 < times z ys) (eqb-true x z e) l in omega (arith, s)
    by false e = omega arith

pub fewer : (xs ys : List ℕ) → ((z : ℕ) → times z xs ≤ times z ys) → length xs ≤ length ys
fewer [] ys h = omega arith
fewer (x ∷ xs) ys h =
    let one : ◌≡◌ {A = ℕ} (cond (eqb x x) 1 0) 1 = ap (λ b. cond b 1 0) (same-number x) in
    let here = h x in
    let there : 0 < times x ys = omega (arith, one, here) in
    let l = without-length x ys there in
    let rest = fewer xs (without x ys) (λ z. let a = h z in let b = without-times x z ys there in omega arith) in
    omega arith
