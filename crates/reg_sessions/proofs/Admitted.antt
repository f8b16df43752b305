-- What a lock's type admits, after calls; and what a session is told there.
use Rattle.std.proofs.Common.{◌≡◌, ◌≢◌, ◌+◌, ◌<◌, ◌≤◌, ◌==◌, ◌++◌, ◌∷◌, ◌⊎◌, [], ℕ, Bool, true, false, IsTrue, List, Option, Some, None, length, if◌then◌else◌, inl, inr, arith, refl, sym, ap, ◌∙◌, subst, length-append, replicate, unwrap_or, slice_index, sum_by, zero, suc}
use Rattle.std.specs.List.{range_with_len}
use Rattle.std.proofs.lemmas.List.Sums.{sum_by-cons}
use Rattle.std.specs.Prelude.{slice_index_or}
use Rattle.std.proofs.lemmas.List.Elements.{filter-append}
use Rattle.std.proofs.lemmas.Bool.Decides.{nat_tests}
use Rattle.std.proofs.lemmas.Bool.{cases_eq, cases_lt}
use Rattle.reg_callbacks.specs.Asking.{Answers}
use Rattle.reg_model.specs.Callbacks.{Callbacks}
use Rattle.reg_model.specs.Histories.{is_of, entries_of, count_of, fired}
use Rattle.reg_model.specs.Replies.{refusal, reply_to}
use Rattle.reg_model.specs.declared.answer.Answer.{Answer}
use Rattle.reg_model.specs.declared.answer.AnswerBody.TheVariants.{Refused}
use Rattle.reg_model.specs.declared.call.Change.{Change}
use Rattle.reg_model.specs.declared.call.Query.{Query}
use Rattle.reg_model.specs.declared.notice.Notice.{Notice}
use Rattle.reg_model.specs.declared.reply.Entry.{Entry}
use Rattle.reg_model.specs.declared.reply.ChangeReply.{ChangeReply}
use Rattle.reg_model.proofs.CallSteps.{not_zero}
use Rattle.reg_journal.specs.Kept.{Seat, seat, IsCurrent, row_of, total_of}
use Rattle.reg_journal.proofs.Totals.{total_push, total_none, total_cut}
use Rattle.reg_calls.specs.declared.hive.Hive.{Hive}
use Rattle.reg_calls.specs.HiveView.{view_of, noted_of, asks_of}
use Rattle.reg_calls.specs.Cuts.{IsCut}
use Rattle.reg_calls.specs.Views.{View, Booked, state, next_of, told_in, entry_of, IsAppliedBy, IsAccepted, IsHive}
use Rattle.reg_calls.proofs.AcceptedChanges.{either, refused}
use Rattle.reg_sessions.specs.Locked.{booked_of, IsAdmitted, IsLawfulReply, IsLawfulOrLacks, IsLawfulAnswer}
use Rattle.reg_sessions.specs.Sessions.{closes}
use Rattle.reg_sessions.specs.Internal.Answered.{IsAnswered, IsCauseOf, IsAsked}
use Rattle.reg_sessions.specs.Internal.Moved.{HasSeats}
use Rattle.std.proofs.lemmas.List.{length-replicate}

-- whether the share is current
pub decided : (b : Booked) (share : Seat) → IsCurrent b.noted b.view.journal share ⊎ (IsCurrent b.noted b.view.journal share → ⊥)
decided b share =
    elim (cases_lt share.session (length b.noted)) [
      | inl within ↦ elim (cases_eq share.count (row_of b.noted b.view.journal share.session)) [
        | inl row ↦ inl (record { seated = within; counted = row })
        | inr ne ↦ inr (λ c. ne c.counted)
      ]
      | inr past ↦ inr (λ c. let w = c.seated in absurd (omega (arith, past, w)))
    ]

-- ---- one entry more

count-more : (t : ℕ) (es : List Entry) (e : Entry) → count_of t (es ++ e ∷ []) ≡ count_of t es + (if e.session == t then 1 else 0)
count-more t es e = grind (arith, filter-append (is_of t) es (e ∷ []), length-append (entries_of t es) (entries_of t (e ∷ [])))

count-own : (t : ℕ) (es : List Entry) (e : Entry) → e.session ≡ t → count_of t (es ++ e ∷ []) ≡ count_of t es + 1
count-own t es e own = let m = count-more t es e in grind (arith, nat_tests)

count-other : (t : ℕ) (es : List Entry) (e : Entry) → (e.session ≡ t → ⊥) → count_of t (es ++ e ∷ []) ≡ count_of t es
count-other t es e ne = let m = count-more t es e in grind (arith, nat_tests)

-- a hive that has the same journal
pub admitted_journal : (b new : Booked) → IsAdmitted b → IsHive new.view → new.noted ≡ b.noted → new.view.base ≡ b.view.base → new.view.before ≡ b.view.before
    → new.view.journal ≡ b.view.journal → IsAdmitted new
admitted_journal b new a hive noted base before journal = record {
  hive = hive;
  total = next ∙ a.total ∙ sym (ap (λ (l : List ℕ). total_of l new.view.journal) noted ∙ ap (λ (es : List Entry). total_of b.noted es) journal);
  began = λ z s. ap (λ (l : List (List Notice)). slice_index_or l s []) before ∙ a.began (sym base ∙ z) s;
  seated = λ s past. ap (λ (es : List Entry). count_of s es) journal ∙ a.seated s (subst (λ (l : List ℕ). length l ≤ s) noted past);
}
  where
    next : next_of new.view ≡ next_of b.view
    next = (let long = ap (λ (es : List Entry). length es) journal in omega (arith, base, long))

-- a hive that is the same
pub admitted-same : (b new : Booked) → IsAdmitted b → new.noted ≡ b.noted → new.view ≡ b.view → IsAdmitted new
admitted-same b new a noted same =
    admitted_journal b new a (subst (λ (v : View). IsHive v) (sym same) a.hive) noted (ap (λ (v : View). v.base) same) (ap (λ (v : View). v.before) same)
    (ap (λ (v : View). v.journal) same)

-- a hive that has an entry more, of a session that has a seat
pub admitted-more : (b new : Booked) (e : Entry) → IsAdmitted b → IsHive new.view → new.noted ≡ b.noted → new.view.base ≡ b.view.base → new.view.before ≡ b.view.before
    → new.view.journal ≡ b.view.journal ++ e ∷ [] → e.session < length b.noted → IsAdmitted new
admitted-more b new e a hive noted base before journal seat = record {
  hive = hive;
  total = (let all = total_is in let was = a.total in let more = total_push b.noted b.view.journal e seat in omega (arith, all, was, more, next));
  began = λ z s. ap (λ (l : List (List Notice)). slice_index_or l s []) before ∙ a.began (sym base ∙ z) s;
  seated = λ s past.
      (let p = subst (λ (l : List ℕ). length l ≤ s) noted past in
      ap (λ (es : List Entry). count_of s es) journal ∙ count-other s b.view.journal e (λ same. absurd (omega (arith, same, p, seat))) ∙ a.seated s p);
}
  where
    next : next_of new.view ≡ next_of b.view + 1
    next = (let long = ap (λ (es : List Entry). length es) journal in let more = length-append b.view.journal (e ∷ []) in omega (arith, base, long, more))

    total_is : total_of new.noted new.view.journal ≡ total_of b.noted (b.view.journal ++ e ∷ [])
    total_is = ap (λ (l : List ℕ). total_of l new.view.journal) noted ∙ ap (λ (es : List Entry). total_of b.noted es) journal

-- ---- a change

pub status_is : (reply : ChangeReply) (status : ℕ) → reply ≡ refusal status → reply.status ≡ status
status_is reply status e = ap (λ (r : ChangeReply). r.status) e

pub admitted-changed : {k : Callbacks} {old new : Booked} {share after : Seat} {moment : ℕ} {change : Change} {reply : ChangeReply}
    → IsAnswered k old new share after moment change reply → IsAdmitted old → IsAdmitted new
admitted-changed {k} {old} {new} {share} {after} {moment} {change} {reply} p a =
    elim (decided old share) [
      | inl c ↦ elim (either _ old.view new.view share.session moment change reply (p.applied c)) [
        | inl same ↦ admitted-same old new a p.noted same
        | inr more ↦ admitted-more old new (entry_of old.view share.session moment change) a more.hive p.noted more.base more.before more.journal c.seated
      ]
      | inr none ↦ admitted-same old new a p.noted (p.stale none).1
    ]

lacking : {X Y : Type 0} (reply : ChangeReply) → ((reply ≡ refusal 8) × X) ⊎ ((reply ≡ refusal 1450) × Y) → reply.status ≡ 0 → ⊥
lacking reply (inl h) z = let e = status_is reply 8 h.0 in omega (arith, e, z)
lacking reply (inr h) z = let e = status_is reply 1450 h.0 in omega (arith, e, z)

accepted-by : (cause : Option ℕ) (old new : View) (session moment : ℕ) (change : Change) (reply : ChangeReply) → cause ≢ Some 0
    → IsAppliedBy cause old new session moment change reply → reply.status ≡ 0 → IsAccepted old new session moment change reply
accepted-by (Some status) old new session moment change reply not h z = absurd (not (ap (λ (n : ℕ). Some n) (sym (status_is reply status h.0) ∙ z)))
accepted-by None old new session moment change reply not (inl h) z = h
accepted-by None old new session moment change reply not (inr h) z = absurd (lacking reply h.why z)

-- a change with status 0 was accepted, by a share that was current
pub accepted : {k : Callbacks} {old new : Booked} {share after : Seat} {moment : ℕ} {change : Change} {reply : ChangeReply}
    → IsAnswered k old new share after moment change reply → reply.status ≡ 0
    → IsCurrent old.noted old.view.journal share × IsAccepted old.view new.view share.session moment change reply
accepted {k} {old} {new} {share} {after} {moment} {change} {reply} p z =
    elim (decided old share) [
      | inl c ↦ (c, accepted-by _ old.view new.view share.session moment change reply (not_zero (state old.view) share.session change _) (p.applied c) z)
      | inr none ↦ absurd (let e = status_is reply 1009 (p.stale none).0 in omega (arith, e, z))
    ]

pub number-told : {old new : View} {session moment : ℕ} {change : Change} {reply : ChangeReply} → IsAccepted old new session moment change reply → reply.number ≡ Some (next_of old)
unfolding reply_to
number-told h = ap (λ (r : ChangeReply). r.number) h.says

-- one of several numbers is at most their sum
one_within : (f : ℕ → ℕ) (x a n : ℕ) → a ≤ x → x < a + n → f x ≤ sum_by f (range_with_len a n)
one_within f x a zero low high = absurd (omega (arith, low, high))
one_within f x a (suc n) low high =
    elim (cases_eq x a) [
      | inl e ↦ (let at : f x ≡ f a = ap f e in let first = sum_by-cons f a (range_with_len (a + 1) n) in omega (arith, at, first))
      | inr ne ↦ (let rest = one_within f x (a + 1) n (omega (arith, low, ne)) (omega (arith, high)) in
          let first = sum_by-cons f a (range_with_len (a + 1) n) in omega (arith, rest, first))
    ]

-- a current share has counted no more than the hive's entries
pub count-within : (b : Booked) (share : Seat) → IsAdmitted b → IsCurrent b.noted b.view.journal share → share.count ≤ next_of b.view
count-within b share a c =
    let row = c.counted in
    let all = a.total in
    let seat = c.seated in
    let few = one_within (row_of b.noted b.view.journal) share.session 0 (length b.noted) (omega arith) (omega (arith, seat)) in
    omega (arith, row, all, few)

pub counted-more : {k : Callbacks} {old new : Booked} {share after : Seat} {moment : ℕ} {change : Change} {reply : ChangeReply}
    → IsAnswered k old new share after moment change reply → reply.status ≡ 0 → after.count ≡ share.count + 1
counted-more {k} {old} {new} {share} {after} {moment} {change} {reply} p z =
    let was = accepted p z in
    let now = subst (λ (s : ℕ). after.count ≡ row_of new.noted new.view.journal s) p.session (p.current was.0).counted in
    let here = subst (λ (l : List ℕ). after.count ≡ row_of l new.view.journal share.session) p.noted now in
    let more = ap (λ (es : List Entry). count_of share.session es) was.1.journal ∙ count-own share.session old.view.journal (entry_of old.view share.session moment change) refl in
    let row = was.0.counted in
    omega (arith, here, more, row)

same-booked : (b c : Booked) → b.view ≡ c.view → b.noted ≡ c.noted → b ≡ c
same-booked b c v n = ap (λ (x : View). record { view = x; noted = b.noted }) v ∙ ap (λ (x : List ℕ). record { view = c.view; noted = x }) n

same-seat : (s t : Seat) → s.session ≡ t.session → s.count ≡ t.count → s ≡ t
same-seat s t x y = ap (λ (n : ℕ). seat n s.count) x ∙ ap (λ (n : ℕ). seat t.session n) y

-- a change with another status left hive and share
pub left : {k : Callbacks} {old new : Booked} {share after : Seat} {moment : ℕ} {change : Change} {reply : ChangeReply}
    → IsAnswered k old new share after moment change reply → reply.status ≢ 0 → (new ≡ old) × (after ≡ share)
left {k} {old} {new} {share} {after} {moment} {change} {reply} p other =
    elim (decided old share) [
      | inl c ↦
          (let same = refused _ old.view new.view share.session moment change reply (p.applied c) other in
          let now = subst (λ (s : ℕ). after.count ≡ row_of new.noted new.view.journal s) p.session (p.current c).counted in
          let here = subst (λ (l : List ℕ). after.count ≡ row_of l new.view.journal share.session) p.noted now in
          let at = subst (λ (v : View). after.count ≡ row_of old.noted v.journal share.session) same here in
          (same-booked new old same p.noted, same-seat after share p.session (at ∙ sym c.counted)))
      | inr none ↦ (same-booked new old (p.stale none).1 p.noted, (p.stale none).2)
    ]

pub lawful : {C : Type 0} (answers : C → Answers) (h : Hive C) (new : Booked) (share after : Seat) (mark moment : ℕ) (change : Change) (reply : ChangeReply)
    → IsAnswered (asks_of answers h) (booked_of h) new share after moment change reply → IsAdmitted (booked_of h) → mark ≤ next_of (view_of h)
    → reply.status ≢ 1009 → IsLawfulReply answers share mark moment change reply
lawful answers h new share after mark moment change reply p a reached other =
    elim (decided (booked_of h) share) [
      | inl c ↦ record { hive = h; new = new.view; sight = record { admitted = a; current = c; reached = reached }; applied = p.applied c }
      | inr none ↦ absurd (other (status_is reply 1009 (p.stale none).0))
    ]

-- ---- a change for which there is no memory

some-is : (n m : ℕ) → Some n ≡ Some m → n ≡ m
some-is n m e = cc

no-some : (n : ℕ) → None ≡ Some n → ⊥
no-some n e = cc

pub never-zero : {k : Callbacks} {b : Booked} {share : Seat} {moment : ℕ} {change : Change} (cause : Option ℕ) → IsCauseOf k b share moment change cause → unwrap_or cause 8 ≢ 0
never-zero None p z = absurd (omega (arith, z))
never-zero {k} {b} {share} {moment} {change} (Some status) p z =
    elim (decided b share) [
      | inl c ↦ not_zero (state b.view) share.session change _ (sym (p.cause c) ∙ ap (λ (n : ℕ). Some n) z)
      | inr none ↦ (let e = some-is status 1009 (p.stale none) in omega (arith, e, z))
    ]

pub lacked : {C : Type 0} (answers : C → Answers) (h : Hive C) (share : Seat) (mark moment : ℕ) (change : Change) (cause : Option ℕ) (reply : ChangeReply)
    → IsCauseOf (asks_of answers h) (booked_of h) share moment change cause → IsAdmitted (booked_of h) → mark ≤ next_of (view_of h)
    → reply ≡ refusal (unwrap_or cause 8) → reply.status ≢ 1009 → (handles : ℕ) → (closes change ≡ true → handles ≡ 0)
    → IsLawfulOrLacks answers share mark handles moment change reply
lacked answers h share mark moment change None reply p a reached told stale handles none_open =
    elim (decided (booked_of h) share) [
      | inl c ↦ inr (told, none_open, record { hive = h; sight = record { admitted = a; current = c; reached = reached }; uncaused = sym (p.cause c) })
      | inr none ↦ absurd (no-some 1009 (p.stale none))
    ]
lacked answers h share mark moment change (Some status) reply p a reached told stale handles none_open =
    elim (decided (booked_of h) share) [
      | inl c ↦ inl (record {
        hive = h;
        new = view_of h;
        sight = record { admitted = a; current = c; reached = reached };
        applied = subst (λ (o : Option ℕ). IsAppliedBy o (view_of h) (view_of h) share.session moment change reply) (p.cause c) (told, refl);
      })
      | inr none ↦ absurd (stale (status_is reply status told ∙ some-is status 1009 (p.stale none)))
    ]

-- ---- a question

pub lawful-answer : {C : Type 0} (answers : C → Answers) (h : Hive C) (share : Seat) (mark : ℕ) (query : Query) (answer : Answer)
    → IsAsked (asks_of answers h) (booked_of h) share query answer → IsAdmitted (booked_of h) → mark ≤ next_of (view_of h)
    → answer.body ≢ Refused 1009 → IsLawfulAnswer answers share mark query answer
lawful-answer answers h share mark query answer p a reached other =
    elim (decided (booked_of h) share) [
      | inl c ↦ record { hive = h; sight = record { admitted = a; current = c; reached = reached }; at = p.at; body = p.body c }
      | inr none ↦ absurd (other (p.stale none))
    ]

pub count-at : {k : Callbacks} {b : Booked} {share : Seat} {query : Query} {answer : Answer} → IsAsked k b share query answer → IsAdmitted b
    → answer.body ≢ Refused 1009 → share.count ≤ answer.at
count-at {k} {b} {share} {query} {answer} p a other =
    elim (decided b share) [
      | inl c ↦ (let w = count-within b share a c in let at = p.at in omega (arith, w, at))
      | inr none ↦ absurd (other (p.stale none))
    ]

-- ---- a new hive

no_elements : {A : Type 0} (xs : List A) → length xs ≡ 0 → xs ≡ []
no_elements [] e = refl
no_elements (x ∷ xs) e = absurd (omega (arith, e))

-- a hive that has had no entry, and that gave its first seats
pub admitted_new : (b : Booked) (n : ℕ) → IsHive b.view → b.view.base ≡ 0 → ((s : ℕ) → slice_index_or b.view.before s [] ≡ []) → b.view.journal ≡ [] → b.noted ≡ replicate n 0
    → IsAdmitted b
admitted_new b n hive base before none rows = record {
  hive = hive;
  total = next ∙ sym (ap (λ (l : List ℕ). total_of l b.view.journal) rows ∙ ap (λ (es : List Entry). total_of (replicate n 0) es) none ∙ total_none n);
  began = λ z s. before s;
  seated = λ s past. ap (λ (es : List Entry). count_of s es) none;
}
  where
    next : next_of b.view ≡ 0
    next = (let long = ap (λ (es : List Entry). length es) none in omega (arith, base, long))

-- it has so many seats
pub has_seats : {C : Type 0} (h : Hive C) (n : ℕ) → noted_of h ≡ replicate n 0 → HasSeats h n
has_seats h n is = record { many = ap (λ (l : List ℕ). length l) is ∙ length-replicate {A = ℕ} n 0 }

-- a hive whose journal began anew
pub admitted_cut : (b new : Booked) → IsAdmitted b → IsCut b.view new.view → length new.noted ≡ length b.noted → ((s : ℕ) → slice_index new.noted s ≡ row_of b.noted b.view.journal s)
    → IsAdmitted new
admitted_cut b new a cut many rows = record {
  hive = cut.hive;
  total = next ∙ a.total ∙ sym (ap (λ (es : List Entry). total_of new.noted es) cut.journal ∙ total_cut b.noted new.noted b.view.journal (sym many) rows);
  began = λ z s. cut.before s ∙ never z s;
  seated = λ s past. ap (λ (es : List Entry). count_of s es) cut.journal;
}
  where
    next : next_of new.view ≡ next_of b.view
    next = (let base = cut.base in let long = ap (λ (es : List Entry). length es) cut.journal in omega (arith, base, long))

    never : new.view.base ≡ 0 → (s : ℕ) → told_in b.view s ≡ []
    never z s = (let base = cut.base in
        ap (λ (l : List Notice). l ++ fired b.view.origin b.view.journal s) (a.began (omega (arith, base, z)) s)
        ∙ ap (λ (es : List Entry). [] ++ fired b.view.origin es s) (no_elements b.view.journal (omega (arith, base, z))))

-- ---- a mark

no-true : false ≡ true → ⊥
no-true e = cc

-- a hive that isn't behind a mark has had so many entries
pub not-behind : (b : Bool) (n mark : ℕ) → (n < mark → IsTrue b) → b ≡ false → mark ≤ n
not-behind b n mark f e =
    elim (cases_lt n mark) [
      | inl below ↦ absurd (no-true (subst (λ (x : Bool). IsTrue x) e (f below)))
      | inr there ↦ there
    ]
