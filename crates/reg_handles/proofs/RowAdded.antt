-- A table with a row more.
use Rattle.std.proofs.Common.{◌≡◌, ◌≢◌, ℕ, ◌+◌, ◌<◌, ◌==◌, Bool, true, false, cond, List, [], ◌∷◌, ◌++◌, length, Option, Some, refl, sym, ap, subst, ◌∙◌, arith, set, get_or}
use Rattle.std.specs.Prelude.{bytes_eq}
use Rattle.std.specs.Cmp.Lexicographic.{bytes_decides}
use Rattle.std.proofs.lemmas.Bool.{cond-true, cond-false, false≢true}
use Rattle.std.proofs.lemmas.Bool.Decides.{nat_tests}
use Rattle.std.proofs.lemmas.List.Elements.{All-push}
use Rattle.slab.specs.Slab.{Slab, get}
use Rattle.reg_names.specs.Names.{path_of}
use Rattle.reg_model.specs.declared.limits.TheConstants.{SESSIONS_LIMIT}
use Rattle.reg_model.specs.Worlds.{At}
use Rattle.reg_handles.specs.HandleTables.{IsFoldedPath}
use Rattle.reg_handles.specs.Internal.OpenKeySlab.{rows_of, destination_of, IsOpenAt, IsHeld}
use Rattle.reg_handles.specs.Internal.HandleRows.{handle_of, handles_of, times, AreCounts, IsUsed, IsTable}
use Rattle.reg_handles.specs.declared.keys.OpenKey.{OpenKey}
use Rattle.reg_handles.specs.declared.rows.Row.{Row}
use Rattle.reg_handles.proofs.HandleList.{counts_push, times_push, handles_same}
use Rattle.reg_handles.proofs.TableEntries.{at_each, rows_is, open_destination, open_one, open_some, used_some, used_open, same_key}

module _ {K : Type 0} (s s' : Slab (OpenKey K)) (paths paths' : List ℕ → Option ℕ) (es : List (ℕ × Row)) (counts : List ℕ) (number : ℕ) (row : Row) (path : List ℕ)
    (payload : K) (table : IsTable s paths es counts) (held : IsHeld s s' paths paths' path payload row.key) where
  held_stays : handles_of s' es ≡ handles_of s es
  held_stays =
      handles_same s s' es (λ t some. at_each (λ q o. 0 < times q es → destination_of o ≡ destination_of (get s q)) s s' row.key (get s' row.key) refl held.others
      (λ some. let k = used_some (get s row.key) (times row.key es) (table.keys row.key) some in open_destination _ path held.stands ∙ sym (open_destination _ path (held.was k.0 k.1)))
      (λ q apart some. refl) t some)

  push : (hs : List (ℕ × Row)) → handles_of s' (hs ++ (number, row) ∷ []) ≡ handles_of s' hs ++ handle_of s' (number, row) ∷ []
  push [] = refl
  push (h ∷ hs) = ap (λ l. handle_of s' h ∷ l) (push hs)

  pub added_handles : handles_of s' (es ++ (number, row) ∷ []) ≡ handles_of s es ++ record { number = number; session = row.session; mask = row.mask; destination = At (path_of path) } ∷ []
  added_handles =
      push es ∙ ap (λ l. l ++ handle_of s' (number, row) ∷ []) held_stays
      ∙ ap (λ p. handles_of s es ++ record { number = number; session = row.session; mask = row.mask; destination = p } ∷ []) (open_destination _ path held.stands)

  one_more : times row.key (es ++ (number, row) ∷ []) ≡ times row.key es + 1
  one_more = let same : (row.key == row.key) ≡ true = grind (arith, nat_tests) in times_push row.key es (number, row) ∙ ap (λ b. times row.key es + cond b 1 0) same

  others_same : (q : ℕ) → q ≢ row.key → times q es ≡ times q (es ++ (number, row) ∷ [])
  others_same q apart =
      let other : (row.key == q) ≡ false = grind (arith, nat_tests, apart) in
      let same : times q (es ++ (number, row) ∷ []) ≡ times q es + 0 = times_push q es (number, row) ∙ ap (λ b. times q es + cond b 1 0) other in
      omega (arith, same)

  added_keys : IsFoldedPath path → (q : ℕ) → IsUsed (get s' q) (times q (es ++ (number, row) ∷ []))
  added_keys folded =
      let is : rows_of (get s row.key) ≡ times row.key es = rows_is _ _ (table.keys row.key) in
      let count : rows_of (get s' row.key) ≡ times row.key (es ++ (number, row) ∷ []) = let rows = held.rows in let more = one_more in omega (arith, rows, is, more) in
      at_each (λ q o. IsUsed o (times q (es ++ (number, row) ∷ []))) s s' row.key (get s' row.key) refl held.others
      (used_open (get s' row.key) path _ held.stands count (let more = one_more in omega (arith, more)) folded) (λ q apart. subst (IsUsed (get s q)) (others_same q apart) (table.keys q))

  added_found : (text : List ℕ) (q : ℕ) → paths' text ≡ Some q → IsOpenAt (get s' q) text
  added_found text q is = by (bytes_eq path text) refl
    where
      by : (b : Bool) → bytes_eq path text ≡ b → IsOpenAt (get s' q) text
      by true e =
          let same : row.key ≡ q = same_key row.key q (sym (held.paths text ∙ cond-true _ _ _ e) ∙ is) in
          subst (λ k. IsOpenAt (get s' k) text) same (subst (IsOpenAt (get s' row.key)) ((bytes_decides path text).0 e) held.stands)
      by false e =
          let was : IsOpenAt (get s q) text = table.found text q (sym (held.paths text ∙ cond-false _ _ _ e) ∙ is) in
          let apart : q ≢ row.key = λ same.
          let here : IsOpenAt (get s row.key) text = subst (λ k. IsOpenAt (get s k) text) same was in
          let k = open_some (get s row.key) text here in
          false≢true (sym e ∙ (bytes_decides path text).1 (open_one (get s row.key) path text (held.was k.0 k.1) here)) in
          subst (λ o. IsOpenAt o text) (sym (held.others q apart)) was

  added_listed : (text : List ℕ) (q : ℕ) → IsOpenAt (get s' q) text → paths' text ≡ Some q
  added_listed text q = at_each (λ q o. IsOpenAt o text → paths' text ≡ Some q) s s' row.key (get s' row.key) refl held.others here (λ q apart is. by q apart is (bytes_eq path text) refl) q
    where
      here : IsOpenAt (get s' row.key) text → paths' text ≡ Some row.key
      here is = held.paths text ∙ cond-true _ _ _ ((bytes_decides path text).1 (open_one (get s' row.key) path text held.stands is))

      by : (q : ℕ) → q ≢ row.key → IsOpenAt (get s q) text → (b : Bool) → bytes_eq path text ≡ b → paths' text ≡ Some q
      by q apart is true e = absurd (apart (held.alone q (ap paths ((bytes_decides path text).0 e) ∙ table.listed text q is)))
      by q apart is false e = held.paths text ∙ cond-false _ _ _ e ∙ table.listed text q is

  -- the table with the row behind all others, as the call names the rows
  pub added_table : (es' : List (ℕ × Row)) → es' ≡ es ++ (number, row) ∷ [] → length counts ≡ SESSIONS_LIMIT → row.session < SESSIONS_LIMIT → IsFoldedPath path →
      IsTable s' paths' es' (set counts row.session (get_or counts row.session 0 + 1))
  added_table es' are long session folded =
      subst (λ l. IsTable s' paths' l (set counts row.session (get_or counts row.session 0 + 1))) (sym are)
      (record {
        counts = subst (AreCounts (set counts row.session (get_or counts row.session 0 + 1))) (sym added_handles)
            (counts_push counts (handles_of s es) (record { number = number; session = row.session; mask = row.mask; destination = At (path_of path) }) long
            table.counts);
        keys = added_keys folded;
        found = added_found;
        listed = added_listed;
        fit = All-push (λ (e : ℕ × Row). e.1.session < SESSIONS_LIMIT) es (number, row) table.fit session;
      })
