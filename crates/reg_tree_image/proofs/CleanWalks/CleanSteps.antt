-- Steps that meet no fault: what they give, and what they name, where nothing of that was named before.
use Rattle.std.proofs.Common.{◌≡◌, ℕ, ◌+◌, ◌<◌, ◌≤◌, zero, suc, ◌==◌, ◌&&◌, ◌||◌, Bool, true, false, cond, eqb, Option, Some, Result, Ok, List, [], ◌∷◌, ◌++◌, append_assoc, refl, sym, ap, ◌∙◌, subst}
use Rattle.std.proofs.Common.{arith}
use Rattle.std.proofs.lemmas.Bool.{eqb-true}
use Rattle.std.proofs.lemmas.List.{append-nil}
use Rattle.reg_heap.specs.Heaps.{Heap}
use Rattle.reg_heap.specs.Kinds.{Kind, Found, is_security, is_own, is_shared, times, owned, shared}
use Rattle.reg_records.specs.declared.RecordFault.{RecordFault}
use Rattle.reg_shape.proofs.Wholeness.ShapeCounts.{tally-append}
use Rattle.reg_shape.proofs.Wholeness.FewerNumbers.{same-number}
use Rattle.reg_tree_image.specs.declared.LoadFault.{LoadFault}
use Rattle.reg_tree_image.specs.WalkSteps.{Seen, Step, ◌>>=◌, ◌>>◌, onward, give, check, given, cell, is_new, is_absent}
use Rattle.reg_tree_image.specs.LoadingWalk.{read}

-- these may be named: none was named before but a security as one, and no key of the path
pub record IsFresh (path : List ℕ) (found new : List Found) : Type 0 where
  pub once : (o : ℕ) → owned o (found ++ new) ≤ 1
  pub apart : (o : ℕ) → 0 < owned o (found ++ new) → shared o (found ++ new) ≡ 0
  pub keys : (o : ℕ) → times o path ≤ owned o found

abbrev pub named_too : Seen → List Found → Seen
named_too seen new = record seen { found = seen.found ++ new }

-- the step gives this and names these
abbrev pub Reads : {A : Type 0} → List ℕ → Step A → A → List Found → Type 0
Reads path s x new = (seen : Seen) → IsFresh path seen.found new → s seen ≡ Ok (x, named_too seen new)

-- ---- what is fresh

owned-append : (o : ℕ) (xs ys : List Found) → owned o (xs ++ ys) ≡ owned o xs + owned o ys
owned-append o xs ys = tally-append (is_own o) xs ys

shared-append : (o : ℕ) (xs ys : List Found) → shared o (xs ++ ys) ≡ shared o xs + shared o ys
shared-append o xs ys = tally-append (is_shared o) xs ys

pub fresh-first : (path : List ℕ) (found xs ys : List Found) → IsFresh path found (xs ++ ys) → IsFresh path found xs
fresh-first path found xs ys f = record {
  once = λ o. (let l = f.once o in let a = owned-append o found (xs ++ ys) in let b = owned-append o xs ys in let c = owned-append o found xs in omega (arith, l, a, b, c));
  apart = λ o h. (let a = owned-append o found (xs ++ ys) in let b = owned-append o xs ys in let c = owned-append o found xs in
      let s = f.apart o (omega (arith, h, a, b, c)) in
      let d = shared-append o found (xs ++ ys) in let e = shared-append o xs ys in let g = shared-append o found xs in omega (arith, s, d, e, g));
  keys = f.keys;
}

pub fresh-then : (path : List ℕ) (found xs ys : List Found) → IsFresh path found (xs ++ ys) → IsFresh path (found ++ xs) ys
fresh-then path found xs ys f =
    let e : (found ++ xs) ++ ys ≡ found ++ (xs ++ ys) = append_assoc found xs ys in
    record {
      once = λ o. subst (λ zs. owned o zs ≤ 1) (sym e) (f.once o);
      apart = λ o. subst (λ zs. 0 < owned o zs → shared o zs ≡ 0) (sym e) (f.apart o);
      keys = λ o. (let l = f.keys o in let a = owned-append o found xs in omega (arith, l, a));
    }

-- ---- steps

pub reads-give : {A : Type 0} (path : List ℕ) (x : A) → Reads path (give x) x []
reads-give path x seen f = ap (λ zs. Ok (x, record seen { found = zs })) (sym (append-nil seen.found))

pub reads-bind : {A B : Type 0} (path : List ℕ) (s : Step A) (f : A → Step B) (x : A) (y : B) (xs ys : List Found) → Reads path s x xs → Reads path (f x) y ys → Reads path (s >>= f) y (xs ++ ys)
reads-bind path s f x y xs ys a b seen h =
    ap (onward f) (a seen (fresh-first path seen.found xs ys h))
    ∙ (b (named_too seen xs) (fresh-then path seen.found xs ys h)
    ∙ ap (λ zs. Ok (y, record seen { found = zs })) (append_assoc seen.found xs ys))

-- a test that holds, and what follows it
pub reads-check : {B : Type 0} (path : List ℕ) (fault : LoadFault) (test : Bool) (t : Step B) (y : B) (ys : List Found) → test ≡ true → Reads path t y ys → Reads path (check fault test >> t) y ys
reads-check path fault test t y ys e b seen h = ap (λ c. onward (λ _. t) (check fault c seen)) e ∙ b seen h

pub reads-given : {A B : Type 0} (path : List ℕ) (fault : LoadFault) (o : Option A) (f : A → Step B) (x : A) (y : B) (ys : List Found) → o ≡ Some x → Reads path (f x) y ys →
    Reads path (given fault o >>= f) y ys
reads-given path fault o f x y ys e b seen h = ap (λ c. onward f (given fault c seen)) e ∙ b seen h

pub reads-read : {R B : Type 0} (path : List ℕ) (r : Result R RecordFault) (f : R → Step B) (x : R) (y : B) (ys : List Found) → r ≡ Ok x → Reads path (f x) y ys → Reads path (read r >>= f) y ys
reads-read path r f x y ys e b seen h = ap (λ c. onward f (read c seen)) e ∙ b seen h

pub reads-one : {A : Type 0} (path : List ℕ) (fault : LoadFault) (o : Option A) (x : A) → o ≡ Some x → Reads path (given fault o) x []
reads-one path fault o x e seen h = ap (λ c. given fault c seen) e ∙ reads-give path x seen h

-- a step that reads so reads any result and records that are equal to its own
pub reads-as : {A : Type 0} (path : List ℕ) (s : Step A) (x y : A) (xs ys : List Found) → x ≡ y → xs ≡ ys → Reads path s x xs → Reads path s y ys
reads-as path s x y xs ys e d r seen h = r seen (subst (IsFresh path seen.found) (sym d) h) ∙ (ap (λ z. Ok (z, named_too seen xs)) e ∙ ap (λ zs. Ok (y, named_too seen zs)) d)

-- ---- a cell

module _ (heap : Heap) (path : List ℕ) (kind : List ℕ → Kind) (offset : ℕ) (content : List ℕ) where
  abbrev pub it : Found
  it = record { kind = kind content; offset = offset }

  unowned-by : (seen : Seen) → IsFresh path seen.found (it ∷ []) → (b : Bool) → is_security (kind content) ≡ b → is_new (kind content) offset seen.found ≡ true
  unowned-by seen f true k =
      let one : ◌≡◌ {A = ℕ} (is_shared offset it) 1 = ap (λ b. cond b (cond (eqb offset offset) 1 0) 0) k ∙ ap (λ b. cond b 1 0) (same-number offset) in
      let s = shared-append offset seen.found (it ∷ []) in
      let o = owned-append offset seen.found (it ∷ []) in
      let zero : owned offset seen.found ≡ 0 = by (owned offset seen.found) refl s one o in
      ap (λ n. (n == 0) && (is_security (kind content) || (shared offset seen.found == 0))) zero ∙ ap (λ b. b || (shared offset seen.found == 0)) k
    where
      by : (n : ℕ) → owned offset seen.found ≡ n → shared offset (seen.found ++ it ∷ []) ≡ shared offset seen.found + (is_shared offset it + 0) → ◌≡◌ {A = ℕ} (is_shared offset it) 1 →
          owned offset (seen.found ++ it ∷ []) ≡ owned offset seen.found + (is_own offset it + 0) → owned offset seen.found ≡ 0
      by zero e s one o = e
      by (suc n) e s one o = let a = f.apart offset (omega (arith, e, o)) in absurd (omega (arith, a, s, one))
  unowned-by seen f false k =
      let one : ◌≡◌ {A = ℕ} (is_own offset it) 1 = ap (λ b. cond b 0 (cond (eqb offset offset) 1 0)) k ∙ ap (λ b. cond b 1 0) (same-number offset) in
      let o = owned-append offset seen.found (it ∷ []) in
      let s = shared-append offset seen.found (it ∷ []) in
      let l = f.once offset in
      let a = f.apart offset (omega (arith, o, one)) in
      let zero : owned offset seen.found ≡ 0 = omega (arith, o, one, l) in
      let none : shared offset seen.found ≡ 0 = omega (arith, a, s) in
      ap (λ n. (n == 0) && (is_security (kind content) || (shared offset seen.found == 0))) zero
      ∙ (ap (λ b. b || (shared offset seen.found == 0)) k ∙ ap (λ n. n == 0) none)

  absent-by : (seen : Seen) → IsFresh path seen.found (it ∷ []) → is_new (kind content) offset seen.found ≡ true → is_absent offset path ≡ true
  absent-by seen f n =
      let zero : owned offset seen.found ≡ 0 = eqb-true _ _ (left-true (owned offset seen.found == 0) _ n) in
      let none : times offset path ≡ 0 = (let l = f.keys offset in omega (arith, l, zero)) in
      ap (λ n. n == 0) none
    where
      left-true : (a b : Bool) → (a && b) ≡ true → a ≡ true
      left-true true b e = refl
      left-true false b e = e

  pub reads-cell : heap offset ≡ Some content → Reads path (cell heap path kind offset) content (it ∷ [])
  reads-cell e seen f =
      let n = unowned-by seen f (is_security (kind content)) refl in
      let a = absent-by seen f n in
      rw (e, a, n) refl
