-- What a firing shows once its notices are handed out.
use Rattle.std.proofs.Common.{◌≡◌, ℕ, ◌+◌, ◌<◌, Bool, true, false, not, cond, eqb, List, [], ◌∷◌, ◌++◌, length, map, filter, Option, Some, None, is_some}
use Rattle.std.proofs.Common.{refl, sym, ap, ◌∙◌, subst, arith}
use Rattle.std.specs.Prelude.{IsPermutation, vec_len}
use Rattle.std.specs.List.{AllByRecursion, cons_option, sum_by}
use Rattle.std.specs.List.Sorted.{IsStrictlySortedBy}
use Rattle.std.specs.Map.{keys_of}
use Rattle.std.specs.Ordering.{nat_cmp}
use Rattle.std.specs.declared.cmp.Ordering.TheVariants.{Less}
use Rattle.std.proofs.lemmas.List.Elements.{All-from_recursion}
use Rattle.std.proofs.lemmas.List.Sorted.{All-permutation, sum_by-IsPermutation}
use Rattle.std.proofs.lemmas.List.Sums.{sum_by-cons}
use Rattle.reg_model.specs.Watches.{Watch, Ending, reason, stays, notice_for, notice_to, notices}
use Rattle.reg_model.specs.declared.limits.TheConstants.{SESSIONS_LIMIT}
use Rattle.reg_model.specs.declared.notice.Notice.{Notice}
use Rattle.reg_model.specs.declared.notice.Reason.{Reason}
use Rattle.reg_notify.specs.Asked.{Fires}
use Rattle.reg_notify.specs.declared.queues.Sent.{Sent}
use Rattle.reg_notify.specs.declared.table.Row.{Row}
use Rattle.reg_notify.specs.declared.table.Table.{Table}
use Rattle.reg_notify.specs.Internal.Firing.{Why, sent_for, sent_by, left_by, sent_to, notices_to, AreInOrder}
use Rattle.reg_notify.specs.Internal.Queues.{told_at, taken_at, pending_at, HaveRoom}
use Rattle.reg_notify.specs.Internal.Rows.{watch_at, watches_at, rows_of}
use Rattle.reg_notify.specs.Internal.Settled.{shown, IsSettled, IsHanding}
use Rattle.reg_notify.specs.Internal.States.{Ends}
use Rattle.reg_notify.proofs.QueueSteps.{same-length-of, told-is, taken-same}
use Rattle.reg_notify.proofs.Removals.{rows-fit}

-- ---- what a session is told

-- of a list's first notice
told-first : (s by : ℕ) (e : ℕ × Row) (o : Option Reason) (rest : List Sent) →
    notices_to s (cons_option (sent_for by e o) rest) ≡ cons_option (cond (eqb e.1.session s) (notice_for e.0 by o) None) (notices_to s rest)
told-first s by e None rest = by-session (eqb e.1.session s)
  where
    by-session : (b : Bool) → notices_to s rest ≡ cons_option (cond b None None) (notices_to s rest)
    by-session true = refl
    by-session false = refl
told-first s by e (Some r) rest = by-session (eqb e.1.session s)
  where
    by-session : (b : Bool) → cond b (record { watch = e.0; by = by; reason = r } ∷ notices_to s rest) (notices_to s rest)
        ≡ cons_option (cond b (notice_for e.0 by (Some r)) None) (notices_to s rest)
    by-session true = refl
    by-session false = refl

module _ (x : Ending) (why : Why) where
  abbrev Agrees : ℕ × Row → Type 0
  Agrees e = why e ≡ reason x (watch_at e)

  -- it is told what the model says
  pub told-all : (s : ℕ) (es : List (ℕ × Row)) → AllByRecursion Agrees es → notices_to s (sent_by x.by why es) ≡ notices s x (watches_at es)
  told-all s [] all = refl
  told-all s (e ∷ es) all =
      told-first s x.by e (why e) (sent_by x.by why es)
      ∙ ap (λ (o : Option Reason). cons_option (cond (eqb e.1.session s) (notice_for e.0 x.by o) None) (notices_to s (sent_by x.by why es))) all.0
      ∙ ap (cons_option (notice_to s x (watch_at e))) (told-all s es all.1)

  pub left-all : (es : List (ℕ × Row)) → AllByRecursion Agrees es → watches_at (left_by why es) ≡ filter (stays x) (watches_at es)
  left-all [] all = refl
  left-all (e ∷ es) all =
      one (not (is_some (why e)))
      ∙ ap (λ (o : Option Reason). cond (not (is_some o)) (watch_at e ∷ watches_at (left_by why es)) (watches_at (left_by why es))) all.0
      ∙ ap (λ (l : List Watch). cond (stays x (watch_at e)) (watch_at e ∷ l) l) (left-all es all.1)
    where
      one : (b : Bool) → watches_at (cond b (e ∷ left_by why es) (left_by why es)) ≡ cond b (watch_at e ∷ watches_at (left_by why es))
          (watches_at (left_by why es))
      one true = refl
      one false = refl

-- ---- the order of notices

less-sent : (n by : ℕ) (why : Why) (es : List (ℕ × Row)) → AllByRecursion (λ y. nat_cmp n y ≡ Less) (keys_of es) →
    AllByRecursion (λ y. nat_cmp n y ≡ Less) (map (λ (z : Sent). z.notice.watch) (sent_by by why es))
less-sent n by why [] all = tt
less-sent n by why (e ∷ es) all = one (why e) (less-sent n by why es all.1)
  where
    one : (o : Option Reason) → AllByRecursion (λ y. nat_cmp n y ≡ Less) (map (λ (z : Sent). z.notice.watch) (sent_by by why es)) →
        AllByRecursion (λ y. nat_cmp n y ≡ Less) (map (λ (z : Sent). z.notice.watch) (cons_option (sent_for by e o) (sent_by by why es)))
    one None rest = rest
    one (Some r) rest = (all.0, rest)

pub sent-in-order : (by : ℕ) (why : Why) (es : List (ℕ × Row)) → IsStrictlySortedBy nat_cmp (keys_of es) → AreInOrder (sent_by by why es)
unfolding IsStrictlySortedBy
sent-in-order by why [] rises = tt
sent-in-order by why (e ∷ es) rises = one (why e) (sent-in-order by why es rises.1)
  where
    one : (o : Option Reason) → AreInOrder (sent_by by why es) → AreInOrder (cons_option (sent_for by e o) (sent_by by why es))
    one None rest = rest
    one (Some r) rest = (less-sent e.0 by why es rises.0, rest)

-- ---- counts

abbrev is_to : ℕ → Sent → ℕ
is_to s z = cond (eqb z.session s) 1 0

sent_to-sum : (s : ℕ) (xs : List Sent) → sum_by (is_to s) xs ≡ sent_to s xs
sent_to-sum s [] = refl
sent_to-sum s (x ∷ xs) = sum_by-cons (is_to s) x xs ∙ ap (λ (n : ℕ). is_to s x + n) (sent_to-sum s xs)

pub sent_to-moved : (s : ℕ) (xs ys : List Sent) → IsPermutation xs ys → sent_to s ys ≡ sent_to s xs
sent_to-moved s xs ys moved = sym (sent_to-sum s ys) ∙ sum_by-IsPermutation (is_to s) xs ys moved ∙ sent_to-sum s xs

-- each row is left or its notice is sent
pub rows-split : (s by : ℕ) (why : Why) (es : List (ℕ × Row)) → rows_of s (left_by why es) + sent_to s (sent_by by why es) ≡ rows_of s es
rows-split s by why [] = refl
rows-split s by why (e ∷ es) = one (why e) (rows-split s by why es)
  where
    one : (o : Option Reason) → rows_of s (left_by why es) + sent_to s (sent_by by why es) ≡ rows_of s es →
        rows_of s (cond (not (is_some o)) (e ∷ left_by why es) (left_by why es)) + sent_to s (cons_option (sent_for by e o) (sent_by by why es)) ≡ rows_of s
        (e ∷ es)
    one None rest = omega (arith, rest)
    one (Some r) rest = omega (arith, rest)

-- a session's notices of a list are as many as are its
pub told-length : (s : ℕ) (xs : List Sent) → length (notices_to s xs) ≡ sent_to s xs
told-length s [] = refl
told-length s (x ∷ xs) = one (eqb x.session s) (told-length s xs)
  where
    one : (b : Bool) → length (notices_to s xs) ≡ sent_to s xs → length (cond b (x.notice ∷ notices_to s xs) (notices_to s xs)) ≡ cond b 1 0 + sent_to s xs
    one true rest = omega (arith, rest)
    one false rest = omega (arith, rest)

-- ---- whom notices are for

few-sessions : (by : ℕ) (why : Why) (es : List (ℕ × Row)) → AllByRecursion (λ (e : ℕ × Row). e.1.session < SESSIONS_LIMIT) es →
    AllByRecursion (λ (z : Sent). z.session < SESSIONS_LIMIT) (sent_by by why es)
few-sessions by why [] all = tt
few-sessions by why (e ∷ es) all = one (why e) (few-sessions by why es all.1)
  where
    one : (o : Option Reason) → AllByRecursion (λ (z : Sent). z.session < SESSIONS_LIMIT) (sent_by by why es) →
        AllByRecursion (λ (z : Sent). z.session < SESSIONS_LIMIT) (cons_option (sent_for by e o) (sent_by by why es))
    one None rest = rest
    one (Some r) rest = (all.0, rest)

-- ---- the whole

module _ (by : ℕ) (why : Why) (t t' : Table) (settled : IsSettled t) (ends : Ends by why t t') where
  abbrev es : List (ℕ × Row)
  es = t.rows.entries

  abbrev sent : List Sent
  sent = sent_by by why es

  moved : IsPermutation sent t'.sent.items
  moved = let ended = ends.ended in subst (λ (l : List Sent). IsPermutation (l ++ sent) t'.sent.items) settled.silent ended.came

  -- what is noted may be handed out
  pub may-hand : IsHanding t'
  may-hand = record {
    sessions = All-permutation (λ (x : Sent). x.session < SESSIONS_LIMIT) sent t'.sent.items moved
        (All-from_recursion (λ (x : Sent). x.session < SESSIONS_LIMIT) sent (few-sessions by why es (rows-fit _ t settled.ready (λ n r fit. fit.session))));
    long = ap vec_len ends.queues ∙ settled.long;
    rooms = subst (λ qs. HaveRoom qs.items) (sym ends.queues) settled.rooms;
    counts = λ s. counts s;
  }
    where
      counts : (s : ℕ) → pending_at t'.queues.items s ≡ rows_of s t'.rows.entries + sent_to s t'.sent.items
      counts s =
          let ended = ends.ended in
          let was : pending_at t'.queues.items s ≡ rows_of s es = ap (λ qs. pending_at qs.items s) ends.queues ∙ settled.counts s in
          let left : rows_of s t'.rows.entries ≡ rows_of s (left_by why es) = ap (rows_of s) ended.left in
          let noted = sent_to-moved s sent t'.sent.items moved in
          let both = rows-split s by why es in
          omega (arith, was, left, noted, both)

  pub rises : AreInOrder sent
  rises = let ready = settled.ready in let table = ready.table in sent-in-order by why es table.rising

-- the firing as callers see it
pub fires : (x : Ending) (why : Why) (t t' t'' : Table) → IsSettled t → IsSettled t'' → AllByRecursion
    (λ (e : ℕ × Row). why e ≡ reason x (watch_at e)) t.rows.entries → Ends x.by why t t' →
    t''.rows ≡ t'.rows → ((sent : List Sent) → AreInOrder sent → IsPermutation sent t'.sent.items → (s : ℕ) →
    told_at t''.queues.items s ≡ told_at t'.queues.items s ++ notices_to s sent) →
    ((s : ℕ) → taken_at t''.queues.items s ≡ taken_at t'.queues.items s) → Fires x (shown t) (shown t'')
fires x why t t' t'' settled settled'' agree ends rows told taken = record {
  pending = let ended = ends.ended in ap (λ m. watches_at m.entries) rows ∙ ap watches_at ended.left ∙ left-all x why t.rows.entries agree;
  told = λ s.
      told-is t''.queues.items s ∙ told (sent_by x.by why t.rows.entries) (rises x.by why t t' settled ends) (moved x.by why t t' settled ends) s
      ∙ ap (λ (l : List Notice). l ++ notices_to s (sent_by x.by why t.rows.entries)) (ap (λ qs. told_at qs.items s) ends.queues)
      ∙ ap (λ (l : List Notice). told_at t.queues.items s ++ l) (told-all x why s t.rows.entries agree)
      ∙ ap (λ (l : List Notice). l ++ notices s x (watches_at t.rows.entries)) (sym (told-is t.queues.items s));
  taken = taken-same t.queues.items t''.queues.items long (λ s. taken s ∙ ap (λ qs. taken_at qs.items s) ends.queues);
}
  where
    long : length t''.queues.items ≡ length t.queues.items
    long = same-length-of t.queues t''.queues (settled''.long ∙ sym settled.long)
