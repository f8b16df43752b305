-- The book of a journal: a row for each session that has a seat.
use Rattle.std.proofs.Common.{◌≡◌, ◌+◌, ◌≤◌, ◌<◌, ℕ, not, List, [], ◌∷◌, ◌++◌, length, slice_index, refl, sym, inl, inr, replicate, ◌∙◌, subst, arith}
use Rattle.std.specs.Prelude.{slice_set}
use Rattle.std.proofs.lemmas.Bool.{cases_eq}
use Rattle.std.proofs.lemmas.List.{get_or-set_same, get_or-set_other, length-set, length-append, length-replicate}
use Rattle.std.proofs.lemmas.List.Filters.{length-filter_both}
use Rattle.std.proofs.lemmas.Bool.Decides.{nat_tests}
use Rattle.reg_model.specs.Histories.{is_of, count_of}
use Rattle.reg_model.specs.declared.limits.TheConstants.{NUMBERS_LIMIT, SESSIONS_LIMIT}
use Rattle.reg_journal.specs.Kept.{Seat, row_of, IsBook, IsCurrent}
use Rattle.reg_model.specs.declared.reply.Entry.{Entry}
use Rattle.reg_journal.proofs.Totals.{replicated, count_push, total_push, total_cut, total_none}

pub count_at_most : (es : List Entry) (s : ℕ) → count_of s es ≤ length es
count_at_most es s = omega (arith, length-filter_both (is_of s) (λ e. not (is_of s e)) (λ _. refl) es)

-- where there are no rows, there is no entry
pub none_yet : (base : ℕ) (noted rows : List ℕ) (es : List Entry) → IsBook base noted rows es → length rows ≡ 0 → es ≡ []
none_yet base noted rows [] b none = refl
none_yet base [] [] (e ∷ es) b none = let a = b.rows_are e.session in absurd (grind (arith, nat_tests))
none_yet base [] (r ∷ rows) (e ∷ es) b none = absurd (omega (arith, none))
none_yet base (n ∷ noted) rows (e ∷ es) b none = let m = b.many in absurd (omega (arith, none, m))

-- no row tells more entries than there were
pub row_at_most : (base : ℕ) (noted rows : List ℕ) (es : List Entry) → IsBook base noted rows es → (session : ℕ) → slice_index rows session ≤ base + length es
row_at_most base noted rows es b session =
    let is = b.rows_are session in
    let most = b.most session in
    let few = count_at_most es session in
    omega (arith, is, most, few)

-- ---- from book to book

-- seats are given
pub book_seated : (base : ℕ) (noted rows : List ℕ) (es : List Entry) (n : ℕ) (noted' rows' : List ℕ) → IsBook base noted rows es → length rows ≡ 0 → 0 < n → n ≤ SESSIONS_LIMIT →
    noted' ≡ rows' → rows' ≡ replicate n 0 → IsBook base noted' rows' es
book_seated base noted rows es n noted' rows' b first some few same zeros =
    let none = none_yet base noted rows es b first in
    let begins = b.unseated first in
    let long = length-replicate {A = ℕ} n 0 in
    subst (λ (ns : List ℕ). IsBook base ns rows' es) (sym same)
    (subst (λ (rs : List ℕ). IsBook base rs rs es) (sym zeros)
    (subst (λ (l : List Entry). IsBook base (replicate n 0) (replicate n 0) l) (sym none) (record {
      numbers = b.numbers;
      few = omega (arith, long, few);
      many = refl;
      rows_are = λ session. omega arith;
      most = λ session. omega (arith, replicated n session);
      unseated = λ unseated. absurd (omega (arith, long, some, unseated));
      total = total_none n ∙ omega (arith, begins);
    })))

-- one entry more of a session that has a seat
pub book_push : (base : ℕ) (noted rows : List ℕ) (es : List Entry) (e : Entry) (session : ℕ) (rows' : List ℕ) (es' : List Entry) → IsBook base noted rows es →
    session < length noted → e.session ≡ session → rows' ≡ slice_set rows session (slice_index rows session + 1) → es' ≡ es ++ e ∷ [] → IsBook base noted rows' es'
book_push base noted rows es e session rows' es' b seated own raised pushed =
    let many = b.many in
    let long : length (slice_set rows session (slice_index rows session + 1)) ≡ length rows = length-set rows session (slice_index rows session + 1) in
    subst (λ (rs : List ℕ). IsBook base noted rs es') (sym raised)
    (subst (λ (l : List Entry). IsBook base noted (slice_set rows session (slice_index rows session + 1)) l) (sym pushed) (record {
      numbers = b.numbers;
      few = omega (arith, long, b.few);
      many = omega (arith, long, many);
      rows_are = rows_are;
      most = b.most;
      unseated = λ unseated. absurd (omega (arith, long, many, seated, unseated));
      total = omega (arith, total_push noted es e (omega (arith, own, seated)), b.total, length-append es (e ∷ []));
    }))
  where
    rows_are : (s : ℕ) → slice_index (slice_set rows session (slice_index rows session + 1)) s ≡ row_of noted (es ++ e ∷ []) s
    rows_are s =
        let was = b.rows_are s in
        let counted = count_push s es e in
        let many = b.many in
        elim (cases_eq s session) [
          | inl same ↦ (let set_here = get_or-set_same rows session (slice_index rows session + 1) 0 (omega (arith, many, seated)) in grind (arith, nat_tests))
          | inr other ↦ (let set_other = get_or-set_other rows session s (slice_index rows session + 1) 0 other in grind (arith, nat_tests))
        ]

-- begun anew: the rows are what is noted
pub book_cut : (base : ℕ) (noted rows : List ℕ) (es : List Entry) (base' : ℕ) (noted' : List ℕ) (es' : List Entry) → IsBook base noted rows es → base + length es ≤ NUMBERS_LIMIT →
    base' ≡ base + length es → noted' ≡ rows → es' ≡ [] → IsBook base' noted' rows es'
book_cut base noted rows es base' noted' es' b small later same none =
    subst (λ (ns : List ℕ). IsBook base' ns rows es') (sym same)
    (subst (λ (l : List Entry). IsBook base' rows rows l) (sym none) (record {
      numbers = omega (arith, later, small);
      few = b.few;
      many = refl;
      rows_are = λ session. omega arith;
      most = λ session. omega (arith, later, row_at_most base noted rows es b session);
      unseated = λ unseated.
          let first = b.unseated unseated in
          let length_is = ap_length (none_yet base noted rows es b unseated) in
          omega (arith, later, first, length_is);
      total = total_cut noted rows es b.many b.rows_are ∙ b.total ∙ omega (arith, later);
    }))
  where
    ap_length : es ≡ [] → length es ≡ 0
    ap_length e = subst (λ (l : List Entry). length l ≡ 0) (sym e) refl

-- ---- shares

pub current_or_not : (base : ℕ) (noted rows : List ℕ) (es : List Entry) (x : Seat) → IsBook base noted rows es → IsCurrent noted es x →
    (x.session < length rows) × (x.count ≡ slice_index rows x.session)
current_or_not base noted rows es x b c =
    let seated = c.seated in
    let many = b.many in
    (omega (arith, seated, many), c.counted ∙ sym (b.rows_are x.session))
