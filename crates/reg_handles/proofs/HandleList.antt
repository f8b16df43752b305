-- Rows and keys as the list of the handles.
use Rattle.std.proofs.Common.{◌≡◌, ℕ, ◌+◌, ◌-◌, ◌<◌, ◌≤◌, Bool, true, false, cond, eqb, ◌==◌, List, [], ◌∷◌, ◌++◌, length, Some, refl, sym, ap, subst, ◌∙◌, arith, set, get_or, replicate}
use Rattle.std.proofs.Common.{◌≢◌, zero-add, add-zero, get_or-set_same, get_or-set_other}
use Rattle.std.specs.Prelude.{option_map, sum_by}
use Rattle.std.specs.List.{All, AllByRecursion}
use Rattle.std.specs.List.Sorted.{IsStrictlySortedBy}
use Rattle.std.specs.Ordering.{nat_cmp}
use Rattle.std.specs.declared.cmp.Ordering.TheVariants.{Less}
use Rattle.std.specs.BTreeMap.{is_at}
use Rattle.std.specs.Map.{lookup, remove_entry, keys_of}
use Rattle.std.proofs.lemmas.Bool.Decides.{nat_tests}
use Rattle.std.proofs.lemmas.List.Elements.{recursion_from_All, All-from_recursion}
use Rattle.std.proofs.lemmas.Map.Keys.{sorted_head, sorted_tail}
use Rattle.std.proofs.lemmas.List.{get_or-replicate}
use Rattle.std.proofs.lemmas.List.Sums.{sum_by-append, sum_by-cons}
use Rattle.reg_model.specs.declared.limits.TheConstants.{SESSIONS_LIMIT}
use Rattle.slab.specs.Slab.{Slab, get}
use Rattle.reg_model.specs.Worlds.{Handle, numbered, closed}
use Rattle.reg_model.specs.Causes.{handles_of as count_of}
use Rattle.reg_handles.specs.Internal.OpenKeySlab.{destination_of}
use Rattle.reg_handles.specs.Internal.HandleRows.{handle_of, handles_of, times, AreCounts}
use Rattle.reg_handles.specs.declared.keys.OpenKey.{OpenKey}
use Rattle.reg_handles.specs.declared.rows.Row.{Row}

-- ---- the numbers

eq_of : (a b : ℕ) → eqb a b ≡ true → a ≡ b
eq_of a b e = grind (arith, nat_tests)

at_is_eqb : (k q : ℕ) → is_at (nat_cmp k) q ≡ eqb q k
at_is_eqb k q = grind (arith, nat_tests)

-- what is true of each handle's number is true of each row's
pub rows_by : {K : Type 0} (P : ℕ → Type 0) (s : Slab (OpenKey K)) (es : List (ℕ × Row)) → AllByRecursion (λ (h : Handle). P h.number) (handles_of s es) → AllByRecursion (λ (e : ℕ × Row). P e.0) es
rows_by P s [] h = tt
rows_by P s (e ∷ es) h = (h.0, rows_by P s es h.1)

pub rows_below : {K : Type 0} (s : Slab (OpenKey K)) (es : List (ℕ × Row)) (k : ℕ) → All (λ (h : Handle). h.number < k) (handles_of s es) → All (λ (e : ℕ × Row). e.0 < k) es
rows_below s es k below = All-from_recursion _ es (rows_by (λ n. n < k) s es (recursion_from_All _ (handles_of s es) below))

pub numbered-handles_of : {K : Type 0} (s : Slab (OpenKey K)) (k : ℕ) (es : List (ℕ × Row)) → numbered k (handles_of s es) ≡ option_map (λ row. handle_of s (k, row)) (lookup (is_at (nat_cmp k)) es)
numbered-handles_of s k [] = refl
numbered-handles_of s k (e ∷ es) = by (eqb e.0 k) refl (numbered-handles_of s k es)
  where
    by : (b : Bool) → eqb e.0 k ≡ b → numbered k (handles_of s es) ≡ option_map (λ row. handle_of s (k, row)) (lookup (is_at (nat_cmp k)) es) →
        numbered k (handles_of s (e ∷ es)) ≡ option_map (λ row. handle_of s (k, row)) (lookup (is_at (nat_cmp k)) (e ∷ es))
    by true same rest = rw (at_is_eqb k e.0, same) (ap (λ n. Some (handle_of s (n, e.1))) (eq_of _ _ same))
    by false other rest = rw (at_is_eqb k e.0, other) rest

-- ---- a row taken out

none_equal : {K : Type 0} (s : Slab (OpenKey K)) (k : ℕ) (es : List (ℕ × Row)) → AllByRecursion (λ y. nat_cmp k y ≡ Less) (keys_of es) → closed k (handles_of s es) ≡ handles_of s es
none_equal s k [] above = refl
none_equal s k (e ∷ es) above =
    let other : eqb e.0 k ≡ false = grind (arith, nat_tests, above.0) in
    rw other (ap (λ l. handle_of s e ∷ l) (none_equal s k es above.1))

pub closed-handles_of : {K : Type 0} (s : Slab (OpenKey K)) (k : ℕ) (es : List (ℕ × Row)) → IsStrictlySortedBy nat_cmp (keys_of es) →
    closed k (handles_of s es) ≡ handles_of s (remove_entry (is_at (nat_cmp k)) es)
closed-handles_of s k [] rises = refl
closed-handles_of s k (e ∷ es) rises = by (eqb e.0 k) refl (closed-handles_of s k es (sorted_tail nat_cmp e.0 (keys_of es) rises))
  where
    by : (b : Bool) → eqb e.0 k ≡ b → closed k (handles_of s es) ≡ handles_of s (remove_entry (is_at (nat_cmp k)) es) →
        closed k (handles_of s (e ∷ es)) ≡ handles_of s (remove_entry (is_at (nat_cmp k)) (e ∷ es))
    by true same rest =
        let above : AllByRecursion (λ y. nat_cmp k y ≡ Less) (keys_of es) = subst (λ n. AllByRecursion (λ y. nat_cmp n y ≡ Less) (keys_of es))
        (eq_of _ _ same) (sorted_head nat_cmp e.0 (keys_of es) rises) in
        rw (at_is_eqb k e.0, same) (none_equal s k es above)
    by false other rest = rw (at_is_eqb k e.0, other) (ap (λ l. handle_of s e ∷ l) rest)

-- ---- destinations

itself : (n : ℕ) → (n == n) ≡ true
itself n = grind (arith, nat_tests)

pub times_cons : (t : ℕ) (e : ℕ × Row) (es : List (ℕ × Row)) → times t (e ∷ es) ≡ cond (e.1.key == t) 1 0 + times t es
times_cons t e es = sum_by-cons (λ (x : ℕ × Row). cond (x.1.key == t) 1 0) e es

pub times_here : (e : ℕ × Row) (es : List (ℕ × Row)) → 0 < times e.1.key (e ∷ es)
times_here e es = rw (times_cons e.1.key e es, itself e.1.key) (omega arith)

at_least : (b : Bool) (n : ℕ) → n ≤ cond b 1 0 + n
at_least true n = omega arith
at_least false n = omega arith

times_more : (t : ℕ) (e : ℕ × Row) (es : List (ℕ × Row)) → times t es ≤ times t (e ∷ es)
times_more t e es = rw (times_cons t e es) (at_least (e.1.key == t) (times t es))

pub some_more : (t : ℕ) (e : ℕ × Row) (es : List (ℕ × Row)) → 0 < times t es → 0 < times t (e ∷ es)
some_more t e es some = let more : times t es ≤ times t (e ∷ es) = times_more t e es in omega (arith, more, some)

-- the handles stay where the destination of each row's key does
pub handles_same : {K : Type 0} (s s' : Slab (OpenKey K)) (es : List (ℕ × Row)) → ((t : ℕ) → 0 < times t es → destination_of (get s' t) ≡ destination_of (get s t)) → handles_of s' es ≡ handles_of s es
handles_same s s' [] same = refl
handles_same s s' (e ∷ es) same =
    ap (λ p. record { number = e.0; session = e.1.session; mask = e.1.mask; destination = p } ∷ handles_of s' es) (same e.1.key (times_here e es))
    ∙ ap (λ l. handle_of s e ∷ l) (handles_same s s' es (λ t some. same t (some_more t e es some)))

-- ---- sums over the rows

pub times_push : (t : ℕ) (es : List (ℕ × Row)) (e : ℕ × Row) → times t (es ++ e ∷ []) ≡ times t es + cond (e.1.key == t) 1 0
times_push t es e = sum_by-append (λ (x : ℕ × Row). cond (x.1.key == t) 1 0) es (e ∷ []) ∙ ap (λ n. times t es + n) (zero-add (cond (e.1.key == t) 1 0))

some_one : (a b : Row) → Some a ≡ Some b → a ≡ b
some_one a b e = cc

-- a sum without the row that a look-up finds
taken : (f : Row → ℕ) (test : ℕ → Bool) (es : List (ℕ × Row)) (row : Row) → lookup test es ≡ Some row
    → sum_by (λ (e : ℕ × Row). f e.1) (remove_entry test es) + f row ≡ sum_by (λ (e : ℕ × Row). f e.1) es
taken f test [] row found = absurd (cc)
taken f test (e ∷ es) row found = by (test e.0) refl (taken f test es row)
  where
    by : (b : Bool) → test e.0 ≡ b → (lookup test es ≡ Some row → sum_by (λ (e : ℕ × Row). f e.1) (remove_entry test es) + f row ≡ sum_by (λ (e : ℕ × Row). f e.1) es)
        → sum_by (λ (e : ℕ × Row). f e.1) (remove_entry test (e ∷ es)) + f row ≡ sum_by (λ (e : ℕ × Row). f e.1) (e ∷ es)
    by true here rest =
        let same : e.1 ≡ row = some_one e.1 row (sym (ap (λ b. cond b (Some e.1) (lookup test es)) here) ∙ found) in
        rw (sum_by-cons (λ (e : ℕ × Row). f e.1) e es, here, same) (omega arith)
    by false other rest =
        let whole : sum_by (λ (e : ℕ × Row). f e.1) (remove_entry test es) + f row ≡ sum_by (λ (e : ℕ × Row). f e.1) es = rest (sym (ap (λ b. cond b (Some e.1) (lookup test es)) other) ∙ found) in
        rw (sum_by-cons (λ (e : ℕ × Row). f e.1) e es, other, sum_by-cons (λ (e : ℕ × Row). f e.1) e (remove_entry test es)) (omega (arith, whole))

pub times_taken : (t : ℕ) (k : ℕ) (es : List (ℕ × Row)) (row : Row) → lookup (is_at (nat_cmp k)) es ≡ Some row → times t (remove_entry (is_at (nat_cmp k)) es) + cond (row.key == t) 1 0 ≡ times t es
times_taken t k es row found = taken (λ r. cond (r.key == t) 1 0) (is_at (nat_cmp k)) es row found

-- the handles of a session are counted among the rows
of_session : {K : Type 0} (s : Slab (OpenKey K)) (session : ℕ) (es : List (ℕ × Row)) → count_of session (handles_of s es) ≡ sum_by (λ (e : ℕ × Row). cond (e.1.session == session) 1 0) es
of_session s session [] = refl
of_session s session (e ∷ es) =
    sum_by-cons (λ (h : Handle). cond (h.session == session) 1 0) (handle_of s e) (handles_of s es) ∙ ap (λ n. cond (e.1.session == session) 1 0 + n) (of_session s session es)
    ∙ sym (sum_by-cons (λ (e : ℕ × Row). cond (e.1.session == session) 1 0) e es)

pub count_any : {K : Type 0} (s s' : Slab (OpenKey K)) (session : ℕ) (es : List (ℕ × Row)) → count_of session (handles_of s' es) ≡ count_of session (handles_of s es)
count_any s s' session es = of_session s' session es ∙ sym (of_session s session es)

pub count_taken : {K : Type 0} (s : Slab (OpenKey K)) (session : ℕ) (k : ℕ) (es : List (ℕ × Row)) (row : Row) → lookup (is_at (nat_cmp k)) es ≡ Some row
    → count_of session (handles_of s (remove_entry (is_at (nat_cmp k)) es)) + cond (row.session == session) 1 0 ≡ count_of session (handles_of s es)
count_taken s session k es row found =
    rw (of_session s session es, of_session s session (remove_entry (is_at (nat_cmp k)) es)) (taken (λ r. cond (r.session == session) 1 0) (is_at (nat_cmp k)) es row found)

-- one handle more of a session
count_push : (session : ℕ) (hs : List Handle) (h : Handle) → count_of session (hs ++ h ∷ []) ≡ count_of session hs + cond (h.session == session) 1 0
count_push session hs h = sum_by-append (λ (x : Handle). cond (x.session == session) 1 0) hs (h ∷ []) ∙ ap (λ n. count_of session hs + n) (zero-add (cond (h.session == session) 1 0))

-- the counts after the session of a new handle was counted once more
pub counts_push : (counts : List ℕ) (hs : List Handle) (h : Handle) → length counts ≡ SESSIONS_LIMIT → AreCounts counts hs →
    AreCounts (set counts h.session (get_or counts h.session 0 + 1)) (hs ++ h ∷ [])
counts_push counts hs h long are = λ session small. by session small (h.session == session) refl
  where
    by : (session : ℕ) → session < SESSIONS_LIMIT → (b : Bool) → (h.session == session) ≡ b → get_or (set counts h.session (get_or counts h.session 0 + 1)) session 0 ≡ count_of session (hs ++ h ∷ [])
    by session small true e =
        let same : h.session ≡ session = eq_of h.session session e in
        let within : session < length counts = omega (arith, long) in
        rw (count_push session hs h, e, same, get_or-set_same counts session (get_or counts session 0 + 1) 0 within, are session small) refl
    by session small false e =
        let other : session ≢ h.session = grind (arith, nat_tests) in
        rw (count_push session hs h, e, get_or-set_other counts h.session session (get_or counts h.session 0 + 1) 0 other, are session small) (sym (add-zero (count_of session hs)))

pub counts_none : AreCounts (replicate SESSIONS_LIMIT 0) []
counts_none = λ session small. get_or-replicate SESSIONS_LIMIT session 0 0 small

-- the counts after the session of a row taken out was counted once less
pub counts_taken : {K : Type 0} (counts : List ℕ) (s : Slab (OpenKey K)) (k : ℕ) (es : List (ℕ × Row)) (row : Row) → length counts ≡ SESSIONS_LIMIT →
    AreCounts counts (handles_of s es) → lookup (is_at (nat_cmp k)) es ≡ Some row
    → AreCounts (set counts row.session (get_or counts row.session 0 - 1)) (handles_of s (remove_entry (is_at (nat_cmp k)) es))
counts_taken counts s k es row long are found = λ session small. by session small (row.session == session) refl (count_taken s session k es row found)
  where
    by : (session : ℕ) → session < SESSIONS_LIMIT → (b : Bool) → (row.session == session) ≡ b
        → count_of session (handles_of s (remove_entry (is_at (nat_cmp k)) es)) + cond (row.session == session) 1 0 ≡ count_of session (handles_of s es)
        → get_or (set counts row.session (get_or counts row.session 0 - 1)) session 0 ≡ count_of session (handles_of s (remove_entry (is_at (nat_cmp k)) es))
    by session small true e whole =
        let same : row.session ≡ session = eq_of row.session session e in
        let within : session < length counts = omega (arith, long) in
        let one : count_of session (handles_of s (remove_entry (is_at (nat_cmp k)) es)) + 1 ≡ count_of session (handles_of s es) = rw e at whole in
        rw (same, get_or-set_same counts session (get_or counts session 0 - 1) 0 within, are session small) (omega (arith, one))
    by session small false e whole =
        let other : session ≢ row.session = grind (arith, nat_tests) in
        let none : count_of session (handles_of s (remove_entry (is_at (nat_cmp k)) es)) + 0 ≡ count_of session (handles_of s es) = rw e at whole in
        rw (get_or-set_other counts row.session session (get_or counts row.session 0 - 1) 0 other, are session small) (omega (arith, none))
