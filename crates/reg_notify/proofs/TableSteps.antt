-- A table from which rows go one after another.
use Rattle.std.proofs.Common.{◌≡◌, ℕ, ◌+◌, Bool, true, false, cond, List, [], ◌∷◌, length, Option, Some, None, refl, sym, ap, ◌∙◌, subst, arith, length-append}
use Rattle.std.specs.List.{AllByRecursion}
use Rattle.std.specs.List.Sorted.{IsStrictlySortedBy}
use Rattle.std.specs.Ordering.{nat_cmp}
use Rattle.std.specs.declared.cmp.Ordering.TheVariants.{Less}
use Rattle.std.specs.BTreeMap.{is_at}
use Rattle.std.specs.Map.{remove_entry, keys_of}
use Rattle.std.proofs.lemmas.Bool.{cond-true, cond-false}
use Rattle.std.proofs.lemmas.Bool.Decides.{nat_tests}
use Rattle.reg_model.specs.declared.notice.Reason.{Reason}
use Rattle.reg_notify.specs.declared.table.Row.{Row}
use Rattle.reg_notify.specs.declared.table.Table.{Table}
use Rattle.reg_notify.specs.declared.queues.Sent.{Sent}
use Rattle.reg_model.specs.Internal.TextNumbers.{goes_on}
use Rattle.reg_notify.specs.Internal.Rows.{row_at, IsIndex}
use Rattle.reg_notify.specs.Internal.Firing.{if_passes, AreEnded}
use Rattle.reg_notify.specs.Internal.States.{IsGone}
use Rattle.reg_notify.proofs.RowSteps.{split}
use Rattle.reg_notify.proofs.Firings.{IsPart, part-more, part-all}

-- ---- each row is found by its number

found-one : (b : Bool) (x n : ℕ) (r : Row) (e : ℕ × Row) (es : List (ℕ × Row)) → is_at (nat_cmp n) e.0 ≡ b → nat_cmp x e.0 ≡ Less →
    (row_at n es ≡ Some r → is_at (nat_cmp n) x ≡ false) →
    cond b (Some e.1) (row_at n es) ≡ Some r → is_at (nat_cmp n) x ≡ false
found-one true x n r e es at less rest found = grind (arith, nat_tests)
found-one false x n r e es at less rest found = rest found

found-above : (x n : ℕ) (r : Row) (es : List (ℕ × Row)) → AllByRecursion (λ y. nat_cmp x y ≡ Less) (keys_of es) → row_at n es ≡ Some r → is_at
    (nat_cmp n) x ≡ false
found-above x n r [] all found = absurd (cc)
found-above x n r (e ∷ es) all found = found-one (is_at (nat_cmp n) e.0) x n r e es refl all.0 (found-above x n r es all.1) found

at_self : (n : ℕ) → is_at (nat_cmp n) n ≡ true
at_self n = grind (arith, nat_tests)

pub all-at : (P : ℕ × Row → Type 0) (es : List (ℕ × Row)) → IsStrictlySortedBy nat_cmp (keys_of es) → ((n : ℕ) (r : Row) → row_at n es ≡ Some r → P (n, r)) →
    AllByRecursion P es
unfolding IsStrictlySortedBy
all-at P [] rises f = tt
all-at P (e ∷ es) rises f =
    (f e.0 e.1 (cond-true _ _ _ (at_self e.0)), all-at P es rises.1 (λ n r found. f n r (cond-false _ _ _ (found-above e.0 n r es rises.0 found) ∙ found)))

-- ---- rows whose texts begin with another

module _ (text_of : ℕ → Row → List ℕ) (start : List ℕ) (by : ℕ) (reason : Reason) where
  abbrev passes : ℕ × Row → Bool
  passes e = goes_on start (text_of e.0 e.1)

  -- one of them went
  pub one-past : (es : List (ℕ × Row)) (sent : List Sent) (t t' : Table) (index : List ℕ → Option ℕ) → IsIndex text_of t.rows.entries index →
      IsPart by (if_passes passes reason) es sent t.rows.entries t.sent.items → (n : ℕ) (text : List ℕ) → goes_on start text ≡ true → index text ≡ Some n →
      ((r : Row) → row_at n t.rows.entries ≡ Some r → IsGone t t' n r by reason) →
      IsPart by (if_passes passes reason) es sent t'.rows.entries t'.sent.items
  one-past es sent t t' index i part n text goes at gone =
      let l = i.listed text n at in
      let g = gone l.0 l.1 in
      let s = split n l.0 t.rows.entries l.1 in
      let passed : passes (n, l.0) ≡ true = ap (goes_on start) l.2 ∙ goes in
      subst (λ (x : List Sent). IsPart by (if_passes passes reason) es sent t'.rows.entries x) (sym g.noted)
      (part-more by (if_passes passes reason) es sent t.rows.entries t.sent.items part n l.0 reason s.front s.back t'.rows.entries
      (cond-true _ _ _ passed) s.is (g.rows ∙ s.rest))

  -- none of them is left
  pub none-past : (es : List (ℕ × Row)) (sent : List Sent) (es' : List (ℕ × Row)) (sent' : List Sent) (index : List ℕ → Option ℕ) → IsStrictlySortedBy nat_cmp
      (keys_of es') →
      IsIndex text_of es' index → IsPart by (if_passes passes reason) es sent es' sent' → ((text : List ℕ) → goes_on start text ≡ true → index text ≡ None) →
      AreEnded by (if_passes passes reason) es sent es' sent'
  none-past es sent es' sent' index rises i part none =
      part-all by (if_passes passes reason) es sent es' sent' part
      (all-at (λ e. if_passes passes reason e ≡ None) es' rises (λ n r found. by-test n r found (passes (n, r)) refl))
    where
      by-test : (n : ℕ) (r : Row) → row_at n es' ≡ Some r → (b : Bool) → passes (n, r) ≡ b → if_passes passes reason (n, r) ≡ None
      by-test n r found true e =
          let gone = none (text_of n r) e in
          let there = i.placed n r found in
          absurd (cc)
      by-test n r found false e = cond-false _ _ _ e

-- ---- room for notices

pub room-less : (n : ℕ) (r : Row) (es es' : List (ℕ × Row)) → row_at n es ≡ Some r → es' ≡ remove_entry (is_at (nat_cmp n)) es → length es ≡ length es' + 1
room-less n r es es' found gone =
    let s = split n r es found in
    let was = ap length s.is ∙ length-append s.front ((n, r) ∷ s.back) in
    let now = ap length (gone ∙ s.rest) ∙ length-append s.front s.back in
    omega (arith, was, now)
