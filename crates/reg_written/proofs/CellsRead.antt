-- Records and rows that are read where they are known to stand.
use Rattle.std.proofs.Common.{◌≡◌, ℕ, zero, suc, ◌≤◌, ◌&&◌, Bool, true, false, cond, Option, Some, None, IsSome, Result, Ok, Err, List, [], ◌∷◌, length, drop, slice_get, refl, sym, ap, ◌∙◌, subst, arith, unwrap_or}
use Rattle.std.specs.List.{AllByRecursion}
use Rattle.std.proofs.lemmas.Bool.{false≢true}
use Rattle.std.proofs.lemmas.Option.{none-some, same_Some}
use Rattle.reg_heap.specs.Heaps.{Heap}
use Rattle.reg_records.specs.RecordCells.{held}
use Rattle.reg_records.specs.KeyNodes.{KeyRecord, nk_of, key_at}
use Rattle.reg_records.proofs.KeyNodeCodec.{key_at-open}

-- ---- Bools taken apart

pub both : (a b : Bool) → (a && b) ≡ true → (a ≡ true) × (b ≡ true)
both true b e = (refl, e)
both false b e = absurd (false≢true e)

pub and-made : (a b : Bool) → a ≡ true → b ≡ true → (a && b) ≡ true
and-made a b p q = ap (λ (t : Bool). t && b) p ∙ q

pub when : {A : Type 0} (b : Bool) (x y : A) → cond b (Some x) None ≡ Some y → (b ≡ true) × (x ≡ y)
when true x y e = (refl, same_Some _ _ e)
when false x y e = absurd (none-some _ e)

-- ---- lists by their places

pub drop-here : {A : Type 0} (xs : List A) (i : ℕ) (x : A) → slice_get xs i ≡ Some x → drop i xs ≡ x ∷ drop (suc i) xs
drop-here [] i x e = absurd (none-some _ (nothing i e))
  where
    nothing : {A : Type 0} {x : A} (i : ℕ) → slice_get [] i ≡ Some x → None ≡ Some x
    nothing zero e = e
    nothing (suc i) e = e
drop-here (y ∷ xs) zero x e = ap (λ a. a ∷ xs) (same_Some _ _ e)
drop-here (y ∷ xs) (suc i) x e = drop-here xs i x e

pub all-here : {A : Type 0} (P : A → Type 0) (xs : List A) (i : ℕ) (x : A) → AllByRecursion P xs → slice_get xs i ≡ Some x → P x
all-here P [] zero x a e = absurd (none-some _ e)
all-here P [] (suc i) x a e = absurd (none-some _ e)
all-here P (y ∷ xs) zero x a e = subst P (same_Some _ _ e) a.0
all-here P (y ∷ xs) (suc i) x a e = all-here P xs i x a.1 e

pub drop-past : {A : Type 0} (xs : List A) (i : ℕ) → length xs ≤ i → drop i xs ≡ []
drop-past [] zero l = refl
drop-past [] (suc i) l = refl
drop-past (x ∷ xs) zero l = absurd (omega (arith, l))
drop-past (x ∷ xs) (suc i) l = drop-past xs i (omega (arith, l))

-- ---- cells

pub held-is : (heap : Heap) (offset : ℕ) (r : List ℕ) → IsSome (heap offset) → ((h : List ℕ) → heap offset ≡ Some h → r ≡ h) → held heap offset ≡ r
held-is heap offset r s f = by (heap offset) refl s
  where
    by : (o : Option (List ℕ)) → heap offset ≡ o → IsSome o → unwrap_or (heap offset) [] ≡ r
    by None e s = absurd (false≢true s)
    by (Some h) e s = ap (λ (o : Option (List ℕ)). unwrap_or o []) e ∙ sym (f h e)

pub here-is : (heap : Heap) (offset : ℕ) (r : List ℕ) → IsSome (heap offset) → ((h : List ℕ) → heap offset ≡ Some h → r ≡ h) → heap offset ≡ Some r
here-is heap offset r s f = by (heap offset) refl s
  where
    by : (o : Option (List ℕ)) → heap offset ≡ o → IsSome o → heap offset ≡ Some r
    by None e s = absurd (false≢true s)
    by (Some h) e s = e ∙ ap Some (sym (f h e))

pub ok-err : {A B : Type 0} (r : Result A B) (x : A) (y : B) → r ≡ Ok x → r ≡ Err y → ⊥
ok-err r x y p q = cc

pub same-ok : {A B : Type 0} (x y : A) → ◌≡◌ {A = Result A B} (Ok x) (Ok y) → x ≡ y
same-ok x y e = cc

pub some-of : {A : Type 0} (o : Option A) → IsSome o → (x : A) × (o ≡ Some x)
some-of None e = absurd (false≢true e)
some-of (Some x) e = (x, refl)

-- a key node that reads, read in what its cell holds
pub key-read : (heap : Heap) (offset : ℕ) (r : List ℕ) → IsSome (key_at heap offset) → ((h : List ℕ) → heap offset ≡ Some h → r ≡ h) →
    (key : KeyRecord) × (key_at heap offset ≡ Some key) × (nk_of r ≡ Ok key)
key-read heap offset r s f =
    let k = some-of (key_at heap offset) s in
    let o = key_at-open heap offset k.0 k.1 in
    (k.0, k.1, ap nk_of (f o.0 o.1) ∙ o.2)
