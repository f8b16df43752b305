-- A journal that holds just the receipts of all sessions is as long as these together.
use Rattle.std.proofs.Common.{◌≡◌, ◌+◌, ◌==◌, ◌≤◌, ◌<◌, ℕ, zero, suc, List, [], ◌∷◌, length, get_or, take, sum_by, refl, sym, ap, ◌∙◌, inl, inr, arith, if◌then◌else◌}
use Rattle.std.proofs.lemmas.List.{length-map}
use Rattle.std.proofs.lemmas.Bool.{cases_eq, cases_lt}
use Rattle.std.proofs.lemmas.List.Sums.{sum_by-cons}
use Rattle.std.proofs.Math.ListN.{get_or-eq_default}
use Rattle.std.proofs.lemmas.Bool.Decides.{nat_tests}
use Rattle.reg_model.specs.declared.reply.Entry.{Entry}
use Rattle.reg_model.specs.declared.notice.Notice.{Notice}
use Rattle.reg_model.specs.declared.reply.Receipt.{Receipt}
use Rattle.reg_model.specs.Histories.{entries_of, count_of, receipt_of}
use Rattle.reg_sessions.specs.Locked.{Held}
use Rattle.reg_sessions.specs.Sessions.{SessionState, receipts_at, taken_at, no_session}
use Rattle.reg_sessions.specs.Gathering.{IsAudited, IsGathered, journal_at, receipts_by, taken_by, told_at}

-- f of each number below n, added up
upto : (ℕ → ℕ) → ℕ → ℕ
upto f zero = 0
upto f (suc n) = upto f n + f n

upto_same : (f g : ℕ → ℕ) → ((s : ℕ) → f s ≡ g s) → (n : ℕ) → upto f n ≡ upto g n
unfolding upto
upto_same f g same zero = refl
upto_same f g same (suc n) = let a = upto_same f g same n in let b = same n in omega (arith, a, b)

upto_both : (f g : ℕ → ℕ) (n : ℕ) → upto (λ s. f s + g s) n ≡ upto f n + upto g n
unfolding upto
upto_both f g zero = refl
upto_both f g (suc n) = let a = upto_both f g n in omega (arith, a)

upto_none : (n : ℕ) → upto (λ s. 0) n ≡ 0
unfolding upto
upto_none zero = refl
upto_none (suc n) = let a = upto_none n in omega (arith, a)

-- no number below n is x
upto_past : (x n : ℕ) → n ≤ x → upto (λ s. if x == s then 1 else 0) n ≡ 0
unfolding upto
upto_past x zero past = refl
upto_past x (suc n) past = let a = upto_past x n (omega (arith, past)) in grind (arith, nat_tests)

-- just one number below n is x
upto_one : (x n : ℕ) → x < n → upto (λ s. if x == s then 1 else 0) n ≡ 1
unfolding upto
upto_one x zero below = absurd (omega (arith, below))
upto_one x (suc n) below =
    elim (cases_eq x n) [
      | inl e ↦ (let a = upto_past x n (omega (arith, e)) in grind (arith, nat_tests))
      | inr ne ↦ (let a = upto_one x n (omega (arith, below, ne)) in grind (arith, nat_tests))
    ]

one_more : (e : Entry) (journal : List Entry) (s : ℕ) → count_of s (e ∷ journal) ≡ (if e.session == s then 1 else 0) + count_of s journal
one_more e journal s = grind arith

no_more : (e : Entry) (journal : List Entry) (s : ℕ) → count_of s (e ∷ journal) ≡ 0 → count_of s journal ≡ 0
no_more e journal s none = let k = one_more e journal s in omega (arith, k, none)

-- whose entry it is
is_known : (e : Entry) (journal : List Entry) (n : ℕ) → ((s : ℕ) → n ≤ s → count_of s (e ∷ journal) ≡ 0) → e.session < n
is_known e journal n none =
    elim (cases_lt e.session n) [
      | inl b ↦ b
      | inr past ↦ (let h = none e.session past in let k = one_more e journal e.session in absurd (grind (arith, nat_tests)))
    ]

hits : (journal : List Entry) (n : ℕ) → ((s : ℕ) → n ≤ s → count_of s journal ≡ 0) → upto (λ s. count_of s journal) n ≡ length journal
hits [] n none = upto_none n
hits (e ∷ journal) n none =
    upto_same (λ s. count_of s (e ∷ journal)) (λ s. (if e.session == s then 1 else 0) + count_of s journal) (one_more e journal) n
    ∙ upto_both (λ s. if e.session == s then 1 else 0) (λ s. count_of s journal) n
    ∙ (let a = upto_one e.session n (is_known e journal n none) in let b = hits journal n (λ s past. no_more e journal s (none s past)) in omega (arith, a, b))

shift : (f : ℕ → ℕ) (n : ℕ) → upto f (suc n) ≡ f 0 + upto (λ s. f (suc s)) n
unfolding upto
shift f zero = omega arith
shift f (suc n) = let a = shift f n in omega (arith, a)

added : (g : SessionState → ℕ) (ss : List SessionState) → sum_by g ss ≡ upto (λ s. g (get_or ss s no_session)) (length ss)
unfolding upto
added g [] = refl
added g (x ∷ ss) = sum_by-cons g x ss ∙ ap (λ n. g x + n) (added g ss) ∙ sym (shift (λ s. g (get_or (x ∷ ss) s no_session)) (length ss))

counts_are : (journal : List Entry) (h : ℕ) (ss : List SessionState) → IsGathered journal h ss → (s : ℕ) → count_of s journal ≡ length (receipts_by ss h s)
counts_are journal h ss all s = sym (length-map (entries_of s journal) receipt_of) ∙ ap (λ (l : List Receipt). length l) (all s)

totals : (journal : List Entry) (h : ℕ) (ss : List SessionState) → IsGathered journal h ss → length journal ≡ sum_by (λ s. length (receipts_at h s)) ss
totals journal h ss all =
    sym (hits journal (length ss) (λ s past. counts_are journal h ss all s ∙ ap (λ (x : SessionState). length (receipts_at h x)) (get_or-eq_default ss no_session past)))
    ∙ upto_same (λ s. count_of s journal) (λ s. length (receipts_by ss h s)) (counts_are journal h ss all) (length ss)
    ∙ sym (added (λ s. length (receipts_at h s)) ss)

-- a session that isn't there took nothing
none_taken : (hives : List Held) (ss : List SessionState) (h s : ℕ) → length ss ≤ s → take (length (taken_by ss h s)) (told_at hives h s) ≡ taken_by ss h s
none_taken hives ss h s past =
    let none : taken_by ss h s ≡ [] = ap (λ (x : SessionState). taken_at h x) (get_or-eq_default ss no_session past) in
    ap (λ (l : List Notice). take (length l) (told_at hives h s)) none ∙ nothing (told_at hives h s) ∙ sym none
  where
    nothing : (l : List Notice) → take 0 l ≡ []
    nothing [] = refl
    nothing (x ∷ l) = refl

pub audited : (hives : List Held) (ss : List SessionState) (h : ℕ) → IsGathered (journal_at hives h) h ss →
    ((s : ℕ) → s < length ss → take (length (taken_by ss h s)) (told_at hives h s) ≡ taken_by ss h s) → IsAudited hives ss h
audited hives ss h all told = record {
  gathered = all;
  total = totals (journal_at hives h) h ss all;
  delivered = λ s. (elim (cases_lt s (length ss)) [
    | inl b ↦ told s b
    | inr past ↦ none_taken hives ss h s past
  ]);
}
