-- The rows of all sessions together.
use Rattle.std.proofs.Common.{◌≡◌, ◌+◌, ◌==◌, ◌≤◌, ◌<◌, ℕ, zero, suc, List, [], ◌∷◌, ◌++◌, length, slice_index, sum_by, refl, sym, ap, ◌∙◌, inl, inr, arith, cond, replicate}
use Rattle.std.specs.List.{range_with_len}
use Rattle.std.proofs.lemmas.Bool.{cases_eq, cases_lt}
use Rattle.std.proofs.Math.ListN.{get_or-eq_default}
use Rattle.std.proofs.lemmas.Bool.Decides.{nat_tests}
use Rattle.std.proofs.lemmas.List.{get_or-replicate, length-replicate}
use Rattle.std.proofs.lemmas.List.Sums.{sum_by-cons, sum_by_push, length-filter}
use Rattle.reg_model.specs.Histories.{is_of, count_of}
use Rattle.reg_model.specs.declared.reply.Entry.{Entry}
use Rattle.reg_journal.specs.Kept.{row_of, total_of}

-- ---- sums

same_sums : (f g : ℕ → ℕ) → ((s : ℕ) → f s ≡ g s) → (xs : List ℕ) → sum_by f xs ≡ sum_by g xs
same_sums f g same xs = λ i. sum_by (λ s. same s i) xs

both_sums : (f g : ℕ → ℕ) (xs : List ℕ) → sum_by (λ s. f s + g s) xs ≡ sum_by f xs + sum_by g xs
both_sums f g [] = refl
both_sums f g (x ∷ xs) =
    let rest = both_sums f g xs in
    omega (arith, rest, sum_by-cons (λ s. f s + g s) x xs, sum_by-cons f x xs, sum_by-cons g x xs)

no_sum : (xs : List ℕ) → sum_by (λ s. 0) xs ≡ 0
no_sum [] = refl
no_sum (x ∷ xs) = let first = sum_by-cons (λ s. 0) x xs in let rest = no_sum xs in omega (arith, first, rest)

-- 1 at the number x
abbrev is_at : ℕ → ℕ → ℕ
is_at x s = cond (x == s) 1 0

-- no number from a on is x
past : (x a n : ℕ) → x < a → sum_by (is_at x) (range_with_len a n) ≡ 0
past x a zero low = refl
past x a (suc n) low =
    let rest = past x (a + 1) n (omega (arith, low)) in
    let first = sum_by-cons (is_at x) a (range_with_len (a + 1) n) in
    grind (arith, nat_tests)

-- just one of these numbers is x
once : (x a n : ℕ) → a ≤ x → x < a + n → sum_by (is_at x) (range_with_len a n) ≡ 1
once x a zero low high = absurd (omega (arith, low, high))
once x a (suc n) low high =
    elim (cases_eq x a) [
      | inl e ↦ (let rest = past x (a + 1) n (omega (arith, e)) in let first = sum_by-cons (is_at x) a (range_with_len (a + 1) n) in grind (arith, nat_tests))
      | inr ne ↦ (let rest = once x (a + 1) n (omega (arith, low, ne)) (omega (arith, high)) in
          let first = sum_by-cons (is_at x) a (range_with_len (a + 1) n) in grind (arith, nat_tests))
    ]

-- ---- the book's rows

pub replicated : (n s : ℕ) → slice_index (replicate n 0) s ≡ 0
replicated n s = elim (cases_lt s n) [ inl h ↦ get_or-replicate n s 0 0 h | inr h ↦ get_or-eq_default (replicate n 0) 0 (rw (length-replicate {A = ℕ} n 0) h) ]

pub count_push : (s : ℕ) (es : List Entry) (e : Entry) → count_of s (es ++ e ∷ []) ≡ count_of s es + is_at e.session s
count_push s es e =
    length-filter (is_of s) (es ++ e ∷ []) ∙ sum_by_push (λ (x : Entry). cond (is_of s x) 1 0) es e
    ∙ ap (λ n. n + is_at e.session s) (sym (length-filter (is_of s) es))

pub total_push : (noted : List ℕ) (es : List Entry) (e : Entry) → e.session < length noted → total_of noted (es ++ e ∷ []) ≡ total_of noted es + 1
total_push noted es e seated =
    let sessions = range_with_len 0 (length noted) in
    let raised : (s : ℕ) → row_of noted (es ++ e ∷ []) s ≡ row_of noted es s + is_at e.session s = λ s. omega (arith, count_push s es e) in
    same_sums (row_of noted (es ++ e ∷ [])) (λ s. row_of noted es s + is_at e.session s) raised sessions
    ∙ both_sums (row_of noted es) (is_at e.session) sessions
    ∙ ap (λ n. total_of noted es + n) (once e.session 0 (length noted) (omega arith) (omega (arith, seated)))

-- noted anew, the rows are as they were
pub total_cut : (noted rows : List ℕ) (es : List Entry) → length noted ≡ length rows → ((s : ℕ) → slice_index rows s ≡ row_of noted es s) → total_of rows [] ≡ total_of noted es
total_cut noted rows es many rows_are =
    ap (λ n. sum_by (row_of rows []) (range_with_len 0 n)) (sym many)
    ∙ same_sums (row_of rows []) (row_of noted es) (λ s. omega (arith, rows_are s)) (range_with_len 0 (length noted))

pub total_none : (n : ℕ) → total_of (replicate n 0) [] ≡ 0
total_none n =
    same_sums (row_of (replicate n 0) []) (λ s. 0) (λ s. let zero_at = replicated n s in omega (arith, zero_at)) (range_with_len 0 (length (replicate n 0)))
    ∙ no_sum (range_with_len 0 (length (replicate n 0)))
