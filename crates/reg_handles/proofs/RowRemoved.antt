-- A table with a row less.
use Rattle.std.proofs.Common.{◌≡◌, ◌≢◌, ℕ, ◌+◌, ◌-◌, ◌<◌, ◌==◌, Bool, true, false, cond, not, ◌&&◌, List, [], ◌∷◌, length, Option, Some, None, is_some, refl, sym, ap, subst, ◌∙◌, arith, set, get_or}
use Rattle.std.specs.Prelude.{bytes_eq, IfSome}
use Rattle.std.specs.List.{AllByRecursion}
use Rattle.std.specs.List.Sorted.{IsStrictlySortedBy}
use Rattle.std.specs.Ordering.{nat_cmp}
use Rattle.std.specs.BTreeMap.{is_at}
use Rattle.std.specs.Map.{lookup, remove_entry, keys_of}
use Rattle.std.specs.Cmp.Lexicographic.{bytes_decides}
use Rattle.std.proofs.lemmas.Bool.{cond-true, cond-false, false≢true}
use Rattle.std.proofs.lemmas.Bool.Decides.{nat_tests}
use Rattle.std.proofs.lemmas.List.Elements.{recursion_from_All, All-from_recursion}
use Rattle.std.proofs.lemmas.Map.Entries.{All-lookup}
use Rattle.reg_model.specs.declared.limits.TheConstants.{SESSIONS_LIMIT}
use Rattle.slab.specs.Slab.{Slab, get, Updates}
use Rattle.reg_model.specs.Worlds.{closed}
use Rattle.reg_model.specs.Causes.{handles_of as count_of}
use Rattle.reg_names.specs.Names.{path_of}
use Rattle.reg_handles.specs.HandleTables.{is_open}
use Rattle.reg_handles.specs.Internal.OpenKeySlab.{rows_of, destination_of, is_freed, with_one_less, payload_of, payload_at, IsOpenAt}
use Rattle.reg_handles.specs.Internal.HandleRows.{handles_of, times, AreCounts, IsUsed, IsTable}
use Rattle.reg_handles.specs.declared.keys.OpenKey.{OpenKey}
use Rattle.reg_handles.specs.declared.rows.Row.{Row}
use Rattle.reg_handles.proofs.HandleList.{counts_taken, count_taken, times_taken, handles_same, closed-handles_of}
use Rattle.reg_handles.proofs.TableEntries.{at_each, rows_is, same_key}
use Rattle.reg_handles.proofs.Payloads.{open_paths}

one_less : {K : Type 0} (o : Option (OpenKey K)) (n m : ℕ) → IsUsed o n → m + 1 ≡ n → IsUsed (with_one_less o) m
one_less None n m e less = absurd (omega (arith, e, less))
one_less (Some k) n m e less = by (k.rows == 1) refl
  where
    by : (b : Bool) → (k.rows == 1) ≡ b → IsUsed (with_one_less (Some k)) m
    by true is = let one : k.rows ≡ 1 = grind (arith, nat_tests) in rw is (omega (arith, one, e.0, less))
    by false is = rw is (omega (arith, e.0, less), grind (arith, nat_tests, e.0, e.1, less, is), e.2)

less_destination : {K : Type 0} (o : Option (OpenKey K)) (n m : ℕ) → IsUsed o n → m + 1 ≡ n → 0 < m → destination_of (with_one_less o) ≡ destination_of o
less_destination None n m e less some = refl
less_destination (Some k) n m e less some = let more : (k.rows == 1) ≡ false = grind (arith, nat_tests, e.0, less, some) in rw more refl

-- a key that stood open and whose path was not freed stands open with one row less
open_less : {K : Type 0} (o : Option (OpenKey K)) (text : List ℕ) → IsOpenAt o text → is_freed o text ≡ false → IsOpenAt (with_one_less o) text
open_less None text is free = absurd is
open_less (Some k) text is free = by (k.rows == 1) refl
  where
    by : (b : Bool) → (k.rows == 1) ≡ b → IsOpenAt (with_one_less (Some k)) text
    by true e = absurd (false≢true (sym free ∙ rw (e, is.1) ((bytes_decides k.path.items text).1 is.0)))
    by false e = rw e is

-- a key that stands open with one row less stood open, and its path was not freed
open_more : {K : Type 0} (o : Option (OpenKey K)) (text : List ℕ) → IsOpenAt (with_one_less o) text → IsOpenAt o text × (is_freed o text ≡ false)
open_more None text is = absurd is
open_more (Some k) text is = by (k.rows == 1) refl
  where
    by : (b : Bool) → (k.rows == 1) ≡ b → IsOpenAt (Some k) text × (is_freed (Some k) text ≡ false)
    by true e = absurd (rw e at is)
    by false e = let was : IsOpenAt (Some k) text = rw e at is in (was, rw e refl)

-- a path that was freed was its key's
freed_open : {K : Type 0} (o : Option (OpenKey K)) (text : List ℕ) → is_freed o text ≡ true → IsOpenAt o text
freed_open None text e = absurd (false≢true e)
freed_open (Some k) text e = by (k.rows == 1) k.is_deleted refl e
  where
    by : (last gone : Bool) → k.is_deleted ≡ gone → (last && not gone && bytes_eq k.path.items text) ≡ true → IsOpenAt (Some k) text
    by false gone is e = absurd (false≢true e)
    by true true is e = absurd (false≢true e)
    by true false is e = ((bytes_decides k.path.items text).0 e, is)

remove_fit : (test : ℕ → Bool) (es : List (ℕ × Row)) → AllByRecursion (λ (e : ℕ × Row). e.1.session < SESSIONS_LIMIT) es →
    AllByRecursion (λ (e : ℕ × Row). e.1.session < SESSIONS_LIMIT) (remove_entry test es)
remove_fit test [] fit = tt
remove_fit test (e ∷ es) fit = by (test e.0) refl (remove_fit test es fit.1)
  where
    by : (b : Bool) → test e.0 ≡ b → AllByRecursion (λ (e : ℕ × Row). e.1.session < SESSIONS_LIMIT) (remove_entry test es) →
        AllByRecursion (λ (e : ℕ × Row). e.1.session < SESSIONS_LIMIT) (remove_entry test (e ∷ es))
    by true is rest = rw is fit.1
    by false is rest = rw is (fit.0, rest)

fit_found : (o : Option Row) (row : Row) → o ≡ Some row → IfSome o (λ r. r.session < SESSIONS_LIMIT) → row.session < SESSIONS_LIMIT
fit_found None row e fit = absurd (cc)
fit_found (Some r) row e fit = let same : r ≡ row = cc in subst (λ (x : Row). x.session < SESSIONS_LIMIT) same fit

module _ {K : Type 0} (s : Slab (OpenKey K)) (paths : List ℕ → Option ℕ) (es : List (ℕ × Row)) (counts : List ℕ) (number : ℕ) (row : Row)
    (table : IsTable s paths es counts) (found : lookup (is_at (nat_cmp number)) es ≡ Some row) where
  fewer : times row.key (remove_entry (is_at (nat_cmp number)) es) + 1 ≡ times row.key es
  fewer = let same : (row.key == row.key) ≡ true = grind (arith, nat_tests) in
      ap (λ b. times row.key (remove_entry (is_at (nat_cmp number)) es) + cond b 1 0) (sym same) ∙ times_taken row.key number es row found

  -- its key has a row
  pub taken_rows : 0 < rows_of (get s row.key)
  taken_rows = let is : rows_of (get s row.key) ≡ times row.key es = rows_is _ _ (table.keys row.key) in let less = fewer in omega (arith, is, less)

  pub taken_fit : row.session < SESSIONS_LIMIT
  taken_fit = fit_found (lookup (is_at (nat_cmp number)) es) row found (All-lookup (λ (r : Row). r.session < SESSIONS_LIMIT) (is_at (nat_cmp number)) es table.fit)

  -- its session has a handle
  pub taken_session : 0 < get_or counts row.session 0
  taken_session =
      let is : get_or counts row.session 0 ≡ count_of row.session (handles_of s es) = table.counts row.session taken_fit in
      let same : (row.session == row.session) ≡ true = grind (arith, nat_tests) in
      let one : count_of row.session (handles_of s (remove_entry (is_at (nat_cmp number)) es)) + 1 ≡ count_of row.session (handles_of s es) =
      ap (λ b. count_of row.session (handles_of s (remove_entry (is_at (nat_cmp number)) es)) + cond b 1 0) (sym same) ∙ count_taken s row.session number es row found in
      omega (arith, is, one)

  module _ (s' : Slab (OpenKey K)) (paths' : List ℕ → Option ℕ) (slots : Updates s s' row.key (with_one_less (get s row.key))) (freed : (text : List ℕ) →
      paths' text ≡ cond (is_freed (get s row.key) text) None (paths text)) where
    same_times : (q : ℕ) → q ≢ row.key → times q es ≡ times q (remove_entry (is_at (nat_cmp number)) es)
    same_times q apart =
        let other : (row.key == q) ≡ false = grind (arith, nat_tests, apart) in
        let none : times q (remove_entry (is_at (nat_cmp number)) es) + 0 ≡ times q es =
        ap (λ b. times q (remove_entry (is_at (nat_cmp number)) es) + cond b 1 0) (sym other) ∙ times_taken q number es row found in
        omega (arith, none)

    taken_stays : handles_of s' (remove_entry (is_at (nat_cmp number)) es) ≡ handles_of s (remove_entry (is_at (nat_cmp number)) es)
    taken_stays =
        handles_same s s' (remove_entry (is_at (nat_cmp number)) es)
        (at_each (λ q o. 0 < times q (remove_entry (is_at (nat_cmp number)) es) →
        destination_of o ≡ destination_of (get s q)) s s' row.key _ slots.changed slots.others (less_destination _ _ _ (table.keys row.key) fewer)
        (λ q apart some. refl))

    pub taken_handles : IsStrictlySortedBy nat_cmp (keys_of es) → handles_of s' (remove_entry (is_at (nat_cmp number)) es) ≡ closed number (handles_of s es)
    taken_handles rises = taken_stays ∙ sym (closed-handles_of s number es rises)

    taken_found : (text : List ℕ) (q : ℕ) → paths' text ≡ Some q → IsOpenAt (get s' q) text
    taken_found text q is = by (is_freed (get s row.key) text) refl
      where
        by : (b : Bool) → is_freed (get s row.key) text ≡ b → IsOpenAt (get s' q) text
        by true e = absurd (let none : paths' text ≡ None = freed text ∙ cond-true _ _ _ e in cc)
        by false e =
            let was : paths text ≡ Some q = sym (freed text ∙ cond-false _ _ _ e) ∙ is in
            at_each (λ q o. IsOpenAt (get s q) text → IsOpenAt o text) s s' row.key _ slots.changed slots.others
            (λ here. open_less (get s row.key) text here e) (λ q apart here. here) q (table.found text q was)

    taken_listed : (text : List ℕ) (q : ℕ) → IsOpenAt (get s' q) text → paths' text ≡ Some q
    taken_listed text q = at_each (λ q o. IsOpenAt o text → paths' text ≡ Some q) s s' row.key _ slots.changed slots.others here (λ q apart is. there q apart is (is_freed (get s row.key) text) refl) q
      where
        here : IsOpenAt (with_one_less (get s row.key)) text → paths' text ≡ Some row.key
        here is = let was = open_more (get s row.key) text is in freed text ∙ cond-false _ _ _ was.1 ∙ table.listed text row.key was.0

        there : (q : ℕ) → q ≢ row.key → IsOpenAt (get s q) text → (b : Bool) → is_freed (get s row.key) text ≡ b → paths' text ≡ Some q
        there q apart is true e = absurd (apart (same_key q row.key (sym (table.listed text q is) ∙ table.listed text row.key (freed_open (get s row.key) text e))))
        there q apart is false e = freed text ∙ cond-false _ _ _ e ∙ table.listed text q is

    taken_table : length counts ≡ SESSIONS_LIMIT → IsTable s' paths' (remove_entry (is_at (nat_cmp number)) es) (set counts row.session (get_or counts row.session 0 - 1))
    taken_table long = record {
      counts = subst (AreCounts (set counts row.session (get_or counts row.session 0 - 1))) (sym taken_stays) (counts_taken counts s number es row long table.counts found);
      keys = at_each (λ q o. IsUsed o (times q (remove_entry (is_at (nat_cmp number)) es))) s s' row.key _ slots.changed slots.others
          (one_less _ _ _ (table.keys row.key) fewer) (λ q apart. subst (IsUsed (get s q)) (same_times q apart) (table.keys q));
      found = taken_found;
      listed = taken_listed;
      fit = All-from_recursion _ (remove_entry (is_at (nat_cmp number)) es) (remove_fit (is_at (nat_cmp number)) es (recursion_from_All _ es table.fit));
    }

    -- the same of the rows and the session as the call names them
    pub taken_to : (es' : List (ℕ × Row)) (session : ℕ) → es' ≡ remove_entry (is_at (nat_cmp number)) es → row.session ≡ session →
        length counts ≡ SESSIONS_LIMIT → IsTable s' paths' es' (set counts session (get_or counts session 0 - 1))
    taken_to es' session are own long =
        subst (λ l. IsTable s' paths' l (set counts session (get_or counts session 0 - 1))) (sym are)
        (subst (λ own. IsTable s' paths' (remove_entry (is_at (nat_cmp number)) es) (set counts own (get_or counts own 0 - 1))) own (taken_table long))

    -- what is kept for a path stays while handles lead there
    module _ (text : List ℕ) where
      less_payload : (o : Option (OpenKey K)) → IsOpenAt o text → is_freed o text ≡ false → payload_of (with_one_less o) ≡ payload_of o
      less_payload None is free = refl
      less_payload (Some k) is free = by (k.rows == 1) refl
        where
          by : (b : Bool) → (k.rows == 1) ≡ b → payload_of (with_one_less (Some k)) ≡ payload_of (Some k)
          by true e = absurd (false≢true (sym free ∙ rw (e, is.1) ((bytes_decides k.path.items text).1 is.0)))
          by false e = rw e refl

      taken_kept : is_some (payload_at s' (paths' text)) ≡ true → payload_at s' (paths' text) ≡ payload_at s (paths text)
      taken_kept some = ap (payload_at s') (freed text) ∙ by (is_freed (get s row.key) text) refl (paths text) refl
        where
          by : (b : Bool) → is_freed (get s row.key) text ≡ b → (o : Option ℕ) → paths text ≡ o → payload_at s' (cond b None o) ≡ payload_at s o
          by true e o at = absurd (false≢true (sym (ap (λ (x : Option ℕ). is_some (payload_at s' x)) (freed text ∙ cond-true _ _ _ e)) ∙ some))
          by false e None at = refl
          by false e (Some q) at =
              at_each (λ q o. IsOpenAt (get s q) text → payload_of o ≡ payload_of (get s q)) s s' row.key _ slots.changed slots.others
              (λ here. less_payload (get s row.key) here e) (λ q apart here. refl) q (table.found text q at)

      by_open : (b : Bool) → is_some (payload_at s' (paths' text)) ≡ b → payload_at s' (paths' text) ≡ cond b (payload_at s (paths text)) None
      by_open true some = taken_kept some
      by_open false none = none_is (payload_at s' (paths' text)) none
        where
          none_is : (o : Option K) → is_some o ≡ false → o ≡ None
          none_is None e = refl
          none_is (Some k) e = absurd (false≢true (sym e))

    pub taken_payloads : (es' : List (ℕ × Row)) (session : ℕ) → es' ≡ remove_entry (is_at (nat_cmp number)) es → row.session ≡ session → length counts ≡ SESSIONS_LIMIT → (text : List ℕ) →
        payload_at s' (paths' text) ≡ cond (is_open (path_of text) (handles_of s' es')) (payload_at s (paths text)) None
    taken_payloads es' session are own long text = by_open text _ (open_paths s' paths' es' _ (taken_to es' session are own long) text)
