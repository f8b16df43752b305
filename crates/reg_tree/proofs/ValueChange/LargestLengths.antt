-- The largest lengths of a key's values after a change.
use Rattle.std.proofs.Common.{ℕ, zero, suc, ◌+◌, ◌*◌, ◌≤◌, max, Bool, true, false, cond, List, [], ◌∷◌, ◌++◌, length, take, drop, sym, subst, arith, add-one}
use Rattle.std.specs.List.{AllByRecursion}
use Rattle.reg_heap.specs.Paths.{Member}
use Rattle.reg_heap.specs.Members.{same_name, values_with}

module _ (P Q : Member → Type 0) (weaker : (m : Member) → P m → Q m) where
  pub all-weaker : (members : List Member) → AllByRecursion P members → AllByRecursion Q members
  all-weaker [] a = tt
  all-weaker (m ∷ members) a = (weaker m a.0, all-weaker members a.1)

  -- what is true of each value is true of each after one was set, if it is of the new one
  pub all-with : (name : List ℕ) (kind : ℕ) (bytes : List ℕ) → Q (record { name = name; kind = kind; bytes = bytes }) →
      ((old : Member) → P old → Q (record { name = old.name; kind = kind; bytes = bytes })) → (members : List Member) → AllByRecursion P members →
      AllByRecursion Q (values_with name kind bytes members)
  all-with name kind bytes new kept [] a = (new, tt)
  all-with name kind bytes new kept (m ∷ members) a = by (same_name m.name name) (all-with name kind bytes new kept members a.1)
    where
      by : (b : Bool) → AllByRecursion Q (values_with name kind bytes members) →
          AllByRecursion Q (cond b (record { name = m.name; kind = kind; bytes = bytes } ∷ members) (m ∷ values_with name kind bytes members))
      by true rest = (kept m a.0, all-weaker members a.1)
      by false rest = (weaker m a.0, rest)

  -- and of each that is left after one was taken out
  pub all-but : (index : ℕ) (members : List Member) → AllByRecursion P members → AllByRecursion Q (take index members ++ drop (index + 1) members)
  all-but index members a = subst (λ n. AllByRecursion Q (take index members ++ drop n members)) (sym (add-one index)) (by index members a)
    where
      by : (index : ℕ) (members : List Member) → AllByRecursion P members → AllByRecursion Q (take index members ++ drop (suc index) members)
      by zero [] a = tt
      by (suc i) [] a = tt
      by zero (m ∷ members) a = all-weaker members a.1
      by (suc i) (m ∷ members) a = (weaker m a.0, by i members a.1)

abbrev Named : ℕ → Member → Type 0
Named most m = 2 * length m.name ≤ most

abbrev Sized : ℕ → Member → Type 0
Sized most m = length m.bytes ≤ most

pub names-with : (most : ℕ) (name : List ℕ) (kind : ℕ) (bytes : List ℕ) (members : List Member) → AllByRecursion (Named most) members →
    AllByRecursion (Named (max most (2 * length name))) (values_with name kind bytes members)
names-with most name kind bytes members a =
    all-with (Named most) (Named (max most (2 * length name))) (λ m h. omega (arith, h)) name kind bytes (omega arith) (λ old h. omega (arith, h)) members a

pub sizes-with : (most : ℕ) (name : List ℕ) (kind : ℕ) (bytes : List ℕ) (members : List Member) → AllByRecursion (Sized most) members →
    AllByRecursion (Sized (max most (length bytes))) (values_with name kind bytes members)
sizes-with most name kind bytes members a =
    all-with (Sized most) (Sized (max most (length bytes))) (λ m h. omega (arith, h)) name kind bytes (omega arith) (λ old h. omega arith) members a

pub names-but : (most index : ℕ) (members : List Member) → AllByRecursion (Named most) members →
    AllByRecursion (Named (max most (2 * 0))) (take index members ++ drop (index + 1) members)
names-but most index members a = all-but (Named most) (Named (max most (2 * 0))) (λ m h. omega (arith, h)) index members a

pub sizes-but : (most index : ℕ) (members : List Member) → AllByRecursion (Sized most) members → AllByRecursion (Sized (max most 0)) (take index members ++ drop (index + 1) members)
sizes-but most index members a = all-but (Sized most) (Sized (max most 0)) (λ m h. omega (arith, h)) index members a
