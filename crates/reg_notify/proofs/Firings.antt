-- What a firing does to rows, step by step.
use Rattle.std.proofs.Common.{◌≡◌, ℕ, not, cond, List, [], ◌∷◌, ◌++◌, Option, Some, None, is_some, refl, sym, ap, ◌∙◌, subst}
use Rattle.std.proofs.Common.{append_assoc}
use Rattle.std.specs.List.{cons_option, AllByRecursion}
use Rattle.std.specs.List.Sorted.{IsPermutation}
use Rattle.std.proofs.lemmas.List.{append-nil}
use Rattle.std.proofs.lemmas.List.Elements.{filter-append, filter_map-append}
use Rattle.std.proofs.lemmas.List.Sorted.{IsPermutation-refl, IsPermutation-trans, IsPermutation-sym, IsPermutation-append_right, IsPermutation-append_left}
use Rattle.std.proofs.lemmas.List.Sorted.{IsPermutation-middle, IsPermutation-cons}
use Rattle.reg_model.specs.declared.notice.Reason.{Reason}
use Rattle.reg_notify.specs.declared.table.Row.{Row}
use Rattle.reg_notify.specs.declared.queues.Sent.{Sent}
use Rattle.reg_notify.specs.Internal.Firing.{Why, first_of, then_why, sent_for, sent_by, left_by, AreEnded}

abbrev Entry : Type 0
Entry = ℕ × Row

-- ---- lists

pub left-append : (why : Why) (es fs : List Entry) → left_by why (es ++ fs) ≡ left_by why es ++ left_by why fs
left-append why es fs = filter-append (λ (e : Entry). not (is_some (why e))) es fs

pub sent-append : (by : ℕ) (why : Why) (es fs : List Entry) → sent_by by why (es ++ fs) ≡ sent_by by why es ++ sent_by by why fs
sent-append by why es fs = filter_map-append (λ (e : Entry). sent_for by e (why e)) es fs

same-list : {X : Type 0} (xs ys : List X) → xs ≡ ys → IsPermutation xs ys
same-list xs ys e = subst (IsPermutation xs) e (IsPermutation-refl xs)

-- a notice in the middle, moved to the end of what was sent
move : (t a b : List Sent) (x : Sent) → IsPermutation (t ++ (a ++ x ∷ b)) ((t ++ x ∷ []) ++ (a ++ b))
move t a b x =
    IsPermutation-trans (t ++ (a ++ x ∷ b)) (t ++ x ∷ (a ++ b)) ((t ++ x ∷ []) ++ (a ++ b))
    (IsPermutation-append_right t (a ++ x ∷ b) (x ∷ (a ++ b)) (IsPermutation-middle a x b))
    (same-list (t ++ x ∷ (a ++ b)) ((t ++ x ∷ []) ++ (a ++ b)) (sym (append_assoc t (x ∷ []) (a ++ b))))

-- ---- one row after another, while a test finds one

-- some rows that end went, with their notices, and no others
pub record IsPart (by : ℕ) (why : Why) (es : List Entry) (sent : List Sent) (es' : List Entry) (sent' : List Sent) : Type 0 where
  pub left : left_by why es' ≡ left_by why es
  pub came : IsPermutation (sent ++ sent_by by why es) (sent' ++ sent_by by why es')

pub part-none : (by : ℕ) (why : Why) (es : List Entry) (sent : List Sent) → IsPart by why es sent es sent
part-none by why es sent = record { left = refl; came = IsPermutation-refl _ }

module _ (by : ℕ) (why : Why) (es : List Entry) (sent : List Sent) (es' : List Entry) (sent' : List Sent) (p : IsPart by why es sent es' sent') where
  -- one row more
  pub part-more : (n : ℕ) (r : Row) (why_r : Reason) (front back es'' : List Entry) → why (n, r) ≡ Some why_r → es' ≡ front ++ (n, r) ∷ back →
      es'' ≡ front ++ back →
      IsPart by why es sent es'' (sent' ++ record { session = r.session; notice = record { watch = n; by = by; reason = why_r } } ∷ [])
  part-more n r why_r front back es'' is was now = record { left = lefts; came = came }
    where
      x : Sent
      x = record { session = r.session; notice = record { watch = n; by = by; reason = why_r } }

      gone : left_by why ((n, r) ∷ back) ≡ left_by why back
      gone = ap (λ (o : Option Reason). cond (not (is_some o)) ((n, r) ∷ left_by why back) (left_by why back)) is

      lefts : left_by why es'' ≡ left_by why es
      lefts =
          ap (left_by why) now ∙ left-append why front back ∙ ap (λ (l : List Entry). left_by why front ++ l) (sym gone)
          ∙ sym (left-append why front ((n, r) ∷ back)) ∙ sym (ap (left_by why) was) ∙ p.left

      told : sent_by by why ((n, r) ∷ back) ≡ x ∷ sent_by by why back
      told = rw is refl

      before : sent_by by why es' ≡ sent_by by why front ++ x ∷ sent_by by why back
      before = ap (sent_by by why) was ∙ sent-append by why front ((n, r) ∷ back) ∙ ap (λ (l : List Sent). sent_by by why front ++ l) told

      after : sent_by by why es'' ≡ sent_by by why front ++ sent_by by why back
      after = ap (sent_by by why) now ∙ sent-append by why front back

      came : IsPermutation (sent ++ sent_by by why es) ((sent' ++ x ∷ []) ++ sent_by by why es'')
      came =
          IsPermutation-trans (sent ++ sent_by by why es) (sent' ++ sent_by by why es') ((sent' ++ x ∷ []) ++ sent_by by why es'') p.came
          (subst (λ (l : List Sent). IsPermutation (sent' ++ sent_by by why es') ((sent' ++ x ∷ []) ++ l)) (sym after)
          (subst (λ (l : List Sent). IsPermutation (sent' ++ l) ((sent' ++ x ∷ []) ++ (sent_by by why front ++ sent_by by why back))) (sym before)
          (move sent' (sent_by by why front) (sent_by by why back) x)))

  -- once none is left that ends
  pub part-all : AllByRecursion (λ (e : Entry). why e ≡ None) es' → AreEnded by why es sent es' sent'
  part-all none = record {
    left = sym (stay es' none) ∙ p.left;
    came = subst (λ (l : List Sent). IsPermutation (sent ++ sent_by by why es) l)
        (ap (λ (l : List Sent). sent' ++ l) (silent es' none) ∙ append-nil sent') p.came;
  }
    where
      stay : (l : List Entry) → AllByRecursion (λ (e : Entry). why e ≡ None) l → left_by why l ≡ l
      stay [] all = refl
      stay (e ∷ l) all =
          ap (λ (o : Option Reason). cond (not (is_some o)) (e ∷ left_by why l) (left_by why l)) all.0 ∙ ap (λ (r : List Entry). e ∷ r) (stay l all.1)

      silent : (l : List Entry) → AllByRecursion (λ (e : Entry). why e ≡ None) l → sent_by by why l ≡ []
      silent [] all = refl
      silent (e ∷ l) all = rw all.0 (silent l all.1)

-- ---- one firing after another

pub ended-none : (by : ℕ) (why : Why) (es : List Entry) (sent : List Sent) → ((e : Entry) → why e ≡ None) → AreEnded by why es sent es sent
ended-none by why es sent none = part-all by why es sent es sent (part-none by why es sent) (all es)
  where
    all : (l : List Entry) → AllByRecursion (λ (e : Entry). why e ≡ None) l
    all [] = tt
    all (e ∷ l) = (none e, all l)

left-then : (a b : Why) (es : List Entry) → left_by b (left_by a es) ≡ left_by (then_why a b) es
left-then a b [] = refl
left-then a b (e ∷ es) = by (a e) (left-then a b es)
  where
    by : (o : Option Reason) → left_by b (left_by a es) ≡ left_by (then_why a b) es →
        left_by b (cond (not (is_some o)) (e ∷ left_by a es) (left_by a es)) ≡ cond (not (is_some (first_of o (b e)))) (e ∷ left_by (then_why a b) es)
        (left_by (then_why a b) es)
    by None rest = ap (λ (l : List Entry). cond (not (is_some (b e))) (e ∷ l) l) rest
    by (Some r) rest = rest

-- the notices of both in the order of the rows
sent-then : (by : ℕ) (a b : Why) (es : List Entry) → IsPermutation (sent_by by a es ++ sent_by by b (left_by a es)) (sent_by by (then_why a b) es)
sent-then by a b [] = IsPermutation-refl []
sent-then by a b (e ∷ es) = one (a e) (sent-then by a b es)
  where
    two : (o : Option Reason) → IsPermutation (sent_by by a es ++ sent_by by b (left_by a es)) (sent_by by (then_why a b) es) →
        IsPermutation (sent_by by a es ++ cons_option (sent_for by e o) (sent_by by b (left_by a es)))
        (cons_option (sent_for by e o) (sent_by by (then_why a b) es))
    two None rest = rest
    two (Some r) rest =
        IsPermutation-trans _ _ _ (IsPermutation-middle (sent_by by a es)
        (record { session = e.1.session; notice = record { watch = e.0; by = by; reason = r } }) (sent_by by b (left_by a es)))
        (IsPermutation-cons (record { session = e.1.session; notice = record { watch = e.0; by = by; reason = r } }) _ _ rest)

    one : (o : Option Reason) → IsPermutation (sent_by by a es ++ sent_by by b (left_by a es)) (sent_by by (then_why a b) es) →
        IsPermutation (cons_option (sent_for by e o) (sent_by by a es) ++ sent_by by b (cond (not (is_some o)) (e ∷ left_by a es) (left_by a es)))
        (cons_option (sent_for by e (first_of o (b e))) (sent_by by (then_why a b) es))
    one None rest = two (b e) rest
    one (Some r) rest = IsPermutation-cons (record { session = e.1.session; notice = record { watch = e.0; by = by; reason = r } }) _ _ rest

pub ended-then : (by : ℕ) (a b : Why) (es es' es'' : List Entry) (sent sent' sent'' : List Sent) → AreEnded by a es sent es' sent' →
    AreEnded by b es' sent' es'' sent'' →
    AreEnded by (then_why a b) es sent es'' sent''
ended-then by a b es es' es'' sent sent' sent'' x y = record {
  left = y.left ∙ ap (left_by b) x.left ∙ left-then a b es;
  came = IsPermutation-trans (sent ++ sent_by by (then_why a b) es) (sent' ++ sent_by by b es') sent''
      (IsPermutation-trans (sent ++ sent_by by (then_why a b) es) ((sent ++ sent_by by a es) ++ sent_by by b es') (sent' ++ sent_by by b es')
      (subst (λ (l : List Entry). IsPermutation (sent ++ sent_by by (then_why a b) es) ((sent ++ sent_by by a es) ++ sent_by by b l)) (sym x.left)
      (subst (λ (l : List Sent). IsPermutation (sent ++ sent_by by (then_why a b) es) l)
      (sym (append_assoc sent (sent_by by a es) (sent_by by b (left_by a es))))
      (IsPermutation-append_right sent (sent_by by (then_why a b) es) (sent_by by a es ++ sent_by by b (left_by a es))
      (IsPermutation-sym (sent_by by a es ++ sent_by by b (left_by a es)) (sent_by by (then_why a b) es) (sent-then by a b es)))))
      (IsPermutation-append_left (sent_by by b es') (sent ++ sent_by by a es) sent' x.came)) y.came;
}

-- a firing is the same for reasons that agree on its rows
pub ended-same : (by : ℕ) (a b : Why) (es es' : List Entry) (sent sent' : List Sent) → AllByRecursion (λ (e : Entry). a e ≡ b e) es →
    AreEnded by a es sent es' sent' → AreEnded by b es sent es' sent'
ended-same by a b es es' sent sent' same x = record {
  left = x.left ∙ lefts es same;
  came = subst (λ (l : List Sent). IsPermutation (sent ++ l) sent') (sents es same) x.came;
}
  where
    lefts : (l : List Entry) → AllByRecursion (λ (e : Entry). a e ≡ b e) l → left_by a l ≡ left_by b l
    lefts [] all = refl
    lefts (e ∷ l) all =
        ap (λ (o : Option Reason). cond (not (is_some o)) (e ∷ left_by a l) (left_by a l)) all.0
        ∙ ap (λ (r : List Entry). cond (not (is_some (b e))) (e ∷ r) r) (lefts l all.1)

    sents : (l : List Entry) → AllByRecursion (λ (e : Entry). a e ≡ b e) l → sent_by by a l ≡ sent_by by b l
    sents [] all = refl
    sents (e ∷ l) all = let rest = sents l all.1 in rw (all.0, rest) refl
