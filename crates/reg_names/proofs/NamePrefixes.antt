-- The front of a name, and the whole of it. The limit is a variable, so that nothing counts up to it.
use Rattle.std.proofs.Common.{◌==◌, if◌then◌else◌, ◌≡◌, ℕ, zero, suc, ◌≤◌, ◌<◌, Bool, true, false, ◌&&◌, List, [], ◌∷◌, length, take, nat_le, nat_lt, sym, ap, ◌∙◌, refl, arith, Some, None}
use Rattle.std.specs.List.{list_all}
use Rattle.std.proofs.lemmas.List.{take_all}
use Rattle.std.proofs.lemmas.Bool.Decides.{nat_tests}
use Rattle.reg_names.specs.Names.{fault_in}
use Rattle.reg_names.specs.declared.NameFault.TheVariants.{BadByte, NameTooLong}

-- what holds in the whole holds in the front
list_all-front : (p : ℕ → Bool) (n : ℕ) (xs : List ℕ) → list_all p xs ≡ true → list_all p (take n xs) ≡ true
list_all-front p zero xs e = refl
list_all-front p (suc n) [] e = refl
list_all-front p (suc n) (x ∷ xs) e = elim (p x) as (λ b. (b && list_all p xs) ≡ true → (b && list_all p (take n xs)) ≡ true) [ true ↦ λ h. list_all-front p n xs h | false ↦ λ h. h ] e

module _ (p : ℕ → Bool) (n : ℕ) (xs front : List ℕ) (r : Bool) (is_front : front ≡ take n xs) (tested : r ≡ list_all p front) where
  of_front : r ≡ list_all p (take n xs)
  of_front = tested ∙ ap (list_all p) is_front

  pub fails : r ≡ false → list_all p xs ≡ false
  fails e = elim (list_all p xs) as (λ b. list_all p xs ≡ b → b ≡ false) [ true ↦ λ h. sym (list_all-front p n xs h) ∙ (sym of_front ∙ e) | false ↦ λ h. refl ] refl

  pub holds : length xs ≤ n → r ≡ true → list_all p xs ≡ true
  holds l e = sym (ap (list_all p) (take_all n xs l)) ∙ (sym of_front ∙ e)

  pub bad : r ≡ false → fault_in n p xs ≡ Some BadByte
  unfolding fault_in
  bad e = rw (sym of_front ∙ e) refl

  pub long : r ≡ true → n < length xs → fault_in n p xs ≡ Some NameTooLong
  unfolding fault_in
  long e l = rw (sym of_front ∙ e) (let t : nat_lt n (length xs) ≡ true = grind (arith, nat_tests) in rw t refl)

  pub fine : r ≡ true → length xs ≤ n → fault_in n p xs ≡ None
  unfolding fault_in
  fine e l = rw (sym of_front ∙ e) (let t : nat_lt n (length xs) ≡ false = grind (arith, nat_tests) in rw t refl)

pub value_is : (b : Bool) (m n : ℕ) → b ≡ true → m ≤ n → true ≡ (b && nat_le m n)
value_is b m n e l = rw e (let t : nat_le m n ≡ true = grind (arith, nat_tests) in sym t)

pub key_is : (b : Bool) (m n : ℕ) → b ≡ true → 0 < m → m ≤ n → true ≡ (b && nat_lt 0 m && nat_le m n)
key_is b m n e k l = rw e (let s : nat_lt 0 m ≡ true = grind (arith, nat_tests) in rw s (let t : nat_le m n ≡ true = grind (arith, nat_tests) in sym t))

pub value_not : (b c : Bool) → b ≡ false → false ≡ (b && c)
value_not b c e = rw e refl

pub key_not : (b c d : Bool) → b ≡ false → false ≡ (b && c && d)
key_not b c d e = rw e refl

pub value_long : (b : Bool) (m n : ℕ) → n < m → false ≡ (b && nat_le m n)
value_long true m n l = let t : nat_le m n ≡ false = grind (arith, nat_tests) in sym t
value_long false m n l = refl

pub key_long : (b : Bool) (m n : ℕ) → n < m → false ≡ (b && nat_lt 0 m && nat_le m n)
key_long b m n l = value_long (b && nat_lt 0 m) m n l

pub not_empty : (e : Bool) (n : ℕ) → e ≡ (n == 0) → e ≡ false → 0 < n
not_empty e n h k = let t : (n == 0) ≡ false = sym h ∙ k in grind (arith, nat_tests)

pub else_of : {A : Type 0} (e b : Bool) (x y z : A) → e ≡ b → e ≡ false → y ≡ z → (if b then x else y) ≡ z
else_of e b x y z h k l = rw (sym h ∙ k) l
