-- Which rows a step at a place ends.
use Rattle.std.proofs.Common.{◌≡◌, ℕ, ◌+◌, ◌<◌, suc, zero, Bool, true, false, eqb, ◌&&◌, ◌||◌, nat_lt, List, [], ◌∷◌, ◌++◌, Option, Some, None, is_some}
use Rattle.std.proofs.Common.{refl, sym, ap, ◌∙◌, subst, arith, add-one, append_assoc}
use Rattle.std.specs.Prelude.{IfNone}
use Rattle.std.proofs.lemmas.Bool.{false≢true, eqb-true, eqb-false, and_right, or_from}
use Rattle.std.proofs.lemmas.Bool.Decides.{nat_tests}
use Rattle.reg_heap.specs.Paths.{Path}
use Rattle.reg_model.specs.Worlds.{same_path}
use Rattle.reg_model.specs.declared.notice.Reason.TheVariants.{Matched}
use Rattle.reg_notify.specs.declared.table.Row.{Row}
use Rattle.reg_notify.specs.declared.table.Table.{Table}
use Rattle.reg_model.specs.Internal.TextNumbers.{goes_on, number_at}
use Rattle.reg_notify.specs.Internal.Keys.{lead_of, IsClean, class_of, is_met}
use Rattle.reg_notify.specs.Internal.Rows.{row_at, IsRow, place_of}
use Rattle.reg_notify.specs.Internal.Hits.{of_class, any_class}
use Rattle.reg_notify.specs.Internal.Firing.{if_passes}
use Rattle.reg_notify.specs.Internal.States.{IsReady, Ends}
use Rattle.reg_model.proofs.LongerTexts.{goes_on-rest, goes_on-append}
use Rattle.reg_notify.proofs.KeyTexts.{at-class}
use Rattle.reg_notify.proofs.TableSteps.{all-at}
use Rattle.reg_notify.proofs.EndsSteps.{each, ends-or, ends-test, ends-never}

any-more : (k : ℕ) (text : List ℕ) (bits : ℕ) (itself : Bool) (e : ℕ × Row) → (any_class k text bits itself e || of_class text bits itself k e) ≡ any_class
    (k + 1) text bits itself e
unfolding any_class
any-more k text bits itself e = rw (add-one k) refl

-- one class more
pub hit-step : (by bits : ℕ) (itself : Bool) (k : ℕ) (text text' : List ℕ) (t t' t'' : Table) → text' ≡ text → Ends by
    (if_passes (any_class k text bits itself) Matched) t t' →
    Ends by (if_passes (of_class text' bits itself k) Matched) t' t'' → Ends by (if_passes (any_class (k + 1) text bits itself) Matched) t t''
hit-step by bits itself k text text' t t' t'' same x y =
    ends-test by (λ (e : ℕ × Row). any_class k text bits itself e || of_class text bits itself k e) (any_class (k + 1) text bits itself) Matched t t''
    (each _ (any-more k text bits itself) t.rows.entries)
    (ends-or by (any_class k text bits itself) (of_class text bits itself k) Matched t t' t'' x
    (subst (λ (s : List ℕ). Ends by (if_passes (of_class s bits itself k) Matched) t' t'') same y))

-- a class that is met
pub class-met : (met : Bool) (start text key : List ℕ) → met ≡ true → start ≡ text → goes_on start key ≡ (met && goes_on text key)
class-met true start text key is same = ap (λ (t : List ℕ). goes_on t key) same
class-met false start text key is same = absurd (false≢true is)

pub class-not_met : (met : Bool) (text key : List ℕ) → met ≡ false → (met && goes_on text key) ≡ false
class-not_met true text key is = absurd (false≢true (sym is))
class-not_met false text key is = refl

-- ---- what all classes say

module _ (n : ℕ) (r : Row) (fit : IsRow n r) (p : Path) (clean : IsClean p) (bits : ℕ) (itself : Bool) where
  abbrev class : ℕ
  class = class_of r.filter r.subtree

  of-is : (k : ℕ) → of_class (lead_of p) bits itself k (n, r) ≡ (is_met bits itself k && (same_path r.place p && eqb class k))
  of-is k = ap (λ (b : Bool). is_met bits itself k && b) (at-class p r.place k class n clean fit.clean)

  more : (before : Bool) (k : ℕ) (m same : Bool) → before ≡ (nat_lt class k && (same && m)) → (is_met bits itself class ≡ m) → (b : Bool) → eqb class k ≡ b →
      (before || (is_met bits itself k && (same && b))) ≡ (nat_lt class (suc k) && (same && m))
  more before k m same is met true e =
      let eq = eqb-true class k e in
      let met_k : is_met bits itself k ≡ m = ap (is_met bits itself) (sym eq) ∙ met in
      let less : nat_lt class k ≡ false = grind (arith, nat_tests, eq) in
      let next : nat_lt class (suc k) ≡ true = grind (arith, nat_tests, eq) in
      rw (is, less, next, met_k) (bools m same)
    where
      bools : (m same : Bool) → (m && (same && true)) ≡ (same && m)
      bools true true = refl
      bools true false = refl
      bools false true = refl
      bools false false = refl
  more before k m same is met false e =
      let ne = eqb-false class k e in
      let next : nat_lt class (suc k) ≡ nat_lt class k = step class k ne in
      rw (is, next) (bools (nat_lt class k && (same && m)) (is_met bits itself k) same)
    where
      step : (c k : ℕ) → (c ≡ k → ⊥) → nat_lt c (suc k) ≡ nat_lt c k
      step c k ne = grind (arith, nat_tests)

      bools : (a m same : Bool) → (a || (m && (same && false))) ≡ a
      bools true m same = refl
      bools false true true = refl
      bools false true false = refl
      bools false false same = refl

  least : (c : ℕ) → nat_lt c 0 ≡ false
  least c = grind (arith, nat_tests)

  pub any-is : (k : ℕ) → any_class k (lead_of p) bits itself (n, r) ≡ (nat_lt class k && (same_path r.place p && is_met bits itself class))
  unfolding any_class
  any-is zero = let none : nat_lt class 0 ≡ false = least class in rw none refl
  any-is (suc k) = ap (λ (b : Bool). any_class k (lead_of p) bits itself (n, r) || b) (of-is k) ∙ more _ k (is_met bits itself class) (same_path r.place p)
      (any-is k) refl (eqb class k) refl

  pub any-all : (k : ℕ) → class < k → any_class k (lead_of p) bits itself (n, r) ≡ (same_path r.place p && is_met bits itself class)
  any-all k small = let less : nat_lt class k ≡ true = below class k small in any-is k ∙ rw less refl
    where
      below : (c k : ℕ) → c < k → nat_lt c k ≡ true
      below c k l = grind (arith, nat_tests)

-- ---- a place without watches

pub if-none : (o : Option ℕ) (P : Type 0) → IfNone o P → is_some o ≡ false → P
if-none None P h none = h
if-none (Some n) P h none = absurd (cc)

-- a key that goes on from a place and a class goes on from the place
longer : (text key : List ℕ) (k : ℕ) → goes_on (text ++ 0 ∷ k ∷ []) key ≡ true → goes_on (text ++ 0 ∷ []) key ≡ true
longer text key k is =
    let r = goes_on-rest (text ++ 0 ∷ k ∷ []) key is in
    let whole : (text ++ 0 ∷ []) ++ k ∷ r.0 ∷ r.1 ≡ key = append_assoc text (0 ∷ []) (k ∷ r.0 ∷ r.1) ∙ sym (append_assoc text (0 ∷ k ∷ []) (r.0 ∷ r.1)) ∙ sym r.2 in
    subst (λ (s : List ℕ). goes_on (text ++ 0 ∷ []) s ≡ true) whole (goes_on-append (text ++ 0 ∷ []) k (r.0 ∷ r.1))

not-longer : (text key : List ℕ) (k : ℕ) → goes_on (text ++ 0 ∷ []) key ≡ false → (b : Bool) → goes_on (text ++ 0 ∷ k ∷ []) key ≡ b → goes_on
    (text ++ 0 ∷ k ∷ []) key ≡ false
not-longer text key k none false e = e
not-longer text key k none true e = absurd (false≢true (sym none ∙ longer text key k e))

no-class : (k : ℕ) (text : List ℕ) (bits : ℕ) (itself : Bool) (e : ℕ × Row) → goes_on (text ++ 0 ∷ []) (place_of e.0 e.1) ≡ false →
    any_class k text bits itself e ≡ false
unfolding any_class
no-class zero text bits itself e none = refl
no-class (suc k) text bits itself e none =
    or_from _ _ (no-class k text bits itself e none) (and_right (is_met bits itself k) _ (not-longer text (place_of e.0 e.1) k none _ refl))

pub none-at-place : (by bits : ℕ) (itself : Bool) (k : ℕ) (text : List ℕ) (t : Table) → IsReady t →
    ((other : List ℕ) → goes_on (text ++ 0 ∷ []) other ≡ true → number_at t.places.by_text.entries other ≡ None) → Ends by
    (if_passes (any_class k text bits itself) Matched) t t
none-at-place by bits itself k text t ready none =
    ends-test by (λ (e : ℕ × Row). false) (any_class k text bits itself) Matched t t
    (let table = ready.table in all-at (λ (e : ℕ × Row). false ≡ any_class k text bits itself e) t.rows.entries table.rising
    (λ n r found. sym (no-class k text bits itself (n, r) (not-there n r found _ refl))))
    (ends-never by (λ (e : ℕ × Row). false) Matched t ready (λ e. refl))
  where
    not-there : (n : ℕ) (r : Row) → row_at n t.rows.entries ≡ Some r → (b : Bool) → goes_on (text ++ 0 ∷ []) (place_of n r) ≡ b → goes_on (text ++ 0 ∷ [])
        (place_of n r) ≡ false
    not-there n r found false e = e
    not-there n r found true e =
        let gone = none (place_of n r) e in
        let table = ready.table in
        let index = table.by_place in
        let there = index.placed n r found in
        absurd (cc)
