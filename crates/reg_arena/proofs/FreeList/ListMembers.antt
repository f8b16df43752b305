-- What holds of each member of a list.
use Rattle.std.proofs.Common.{◌≡◌, ℕ, ◌+◌, ◌<◌, ◌≤◌, Bool, true, false, cond, ◌⊎◌, inl, inr, List, [], ◌∷◌, refl, subst, arith, eqb}
use Rattle.std.proofs.lemmas.Bool.{eqb-true, eq-eqb}
use Rattle.std.specs.List.{AllByRecursion}
use Rattle.reg_heap.specs.Kinds.{times}

times-self : (o : ℕ) (os : List ℕ) → 0 < times o (o ∷ os)
times-self o os = let e : eqb o o ≡ true = eq-eqb o o refl in rw e (omega arith)

times-more : (o x : ℕ) (os : List ℕ) → times o os ≤ times o (x ∷ os)
times-more o x os = omega arith

pub all_from_times : (P : ℕ → Type 0) (os : List ℕ) → ((o : ℕ) → 0 < times o os → P o) → AllByRecursion P os
all_from_times P [] h = tt
all_from_times P (o ∷ os) h =
    (h o (times-self o os), all_from_times P os (λ x l. h x (let m = times-more x o os in omega arith)))

times-cons : (b : Bool) (x o n : ℕ) → eqb x o ≡ b → 0 < cond b 1 0 + n → (x ≡ o) ⊎ (0 < n)
times-cons true x o n e h = inl (eqb-true x o e)
times-cons false x o n e h = inr (omega arith)

times-all-by : (P : ℕ → Type 0) (f : ℕ) (fs : List ℕ) → P f → ((o : ℕ) → 0 < times o fs → P o) → (o : ℕ) → (f ≡ o) ⊎ (0 < times o fs) → P o
times-all-by P f fs p r o (inl e) = subst P e p
times-all-by P f fs p r o (inr l) = r o l

pub times-all : (P : ℕ → Type 0) (fs : List ℕ) → AllByRecursion P fs → (o : ℕ) → 0 < times o fs → P o
times-all P [] a o h = absurd (omega arith)
times-all P (f ∷ fs) a o h = times-all-by P f fs a.0 (λ x l. times-all P fs a.1 x l) o (times-cons (eqb f o) f o (times o fs) refl h)
