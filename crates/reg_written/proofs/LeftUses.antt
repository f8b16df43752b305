-- Which securities were met, and how often the others are used.
use Rattle.std.proofs.Common.{◌≡◌, ◌≢◌, ◌⊎◌, inl, inr, ℕ, ◌<◌, zero, suc, List, [], ◌∷◌, ◌++◌, Some, None, refl, sym, ap, arith}
use Rattle.std.proofs.lemmas.Bool.{cases_eq}
use Rattle.std.proofs.lemmas.Bool.Decides.{nat_tests}
use Rattle.std.proofs.lemmas.Option.{none-some, same_Some}
use Rattle.reg_heap.specs.Kinds.{times}
use Rattle.reg_arena.proofs.FreeList.ThreadLinks.{times-append}
use Rattle.reg_written.specs.Internal.RingWalks.{if_used, if_left}

pub times-itself : (z : ℕ) → times z (z ∷ []) ≡ 1
times-itself z = grind (arith, nat_tests)

pub times-other : (z x : ℕ) → z ≢ x → times z (x ∷ []) ≡ 0
times-other z x p = grind (arith, nat_tests, p)

-- a member of a list with one more behind it is that one, or one of the list
pub member-last : (xs : List ℕ) (x z : ℕ) → 0 < times z (xs ++ x ∷ []) → (z ≡ x) ⊎ (0 < times z xs)
member-last xs x z k = by (cases_eq z x)
  where
    by : (z ≡ x) ⊎ (z ≢ x) → (z ≡ x) ⊎ (0 < times z xs)
    by (inl e) = inl e
    by (inr p) = inr (let t = times-append z xs (x ∷ []) in let o = times-other z x p in omega (arith, t, o))

used-some : (n m : ℕ) → if_used n ≡ Some m → (n ≡ m) × (0 < n)
used-some zero m e = absurd (none-some m e)
used-some (suc n) m e = (same_Some _ _ e, omega arith)

used-none : (n : ℕ) → if_used n ≡ None → n ≡ 0
used-none zero e = refl
used-none (suc n) e = absurd (none-some _ (sym e))

used-is : (n : ℕ) → 0 < n → if_used n ≡ Some n
used-is zero l = absurd (omega arith)
used-is (suc n) l = refl

pub left-some : (met uses n : ℕ) → if_left met uses ≡ Some n → (met ≡ 0) × (uses ≡ n) × (0 < n)
left-some zero uses n e = let t = used-some uses n e in (refl, t.0, omega (arith, t.0, t.1))
left-some (suc met) uses n e = absurd (none-some n e)

pub left-none : (met uses : ℕ) → if_left met uses ≡ None → 0 < uses → 0 < met
left-none zero uses e l = absurd (let u = used-none uses e in omega (arith, u))
left-none (suc met) uses e l = omega arith

pub left-met : (met uses : ℕ) → 0 < met → if_left met uses ≡ None
left-met zero uses l = absurd (omega arith)
left-met (suc met) uses l = refl

pub left-unused : (met uses : ℕ) → uses ≡ 0 → if_left met uses ≡ None
left-unused zero uses e = ap if_used e
left-unused (suc met) uses e = refl
