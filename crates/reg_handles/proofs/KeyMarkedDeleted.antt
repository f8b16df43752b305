-- A table of which a key was deleted.
use Rattle.std.proofs.Common.{◌≡◌, ℕ, Bool, true, false, cond, List, [], ◌∷◌, Option, Some, None, refl, sym, ap, subst, ◌∙◌, arith}
use Rattle.std.specs.Prelude.{bytes_eq, option_map}
use Rattle.std.specs.Cmp.Lexicographic.{bytes_decides}
use Rattle.std.proofs.lemmas.Bool.{cond-true, cond-false, false≢true}
use Rattle.std.proofs.lemmas.Bool.Decides.{nat_tests}
use Rattle.std.proofs.lemmas.Cmp.{nat_list_eq_equiv}
use Rattle.slab.specs.Slab.{Slab, get}
use Rattle.reg_names.specs.Names.{path_of}
use Rattle.reg_model.specs.Worlds.{Deleted, turned, destination_without}
use Rattle.reg_handles.specs.Internal.OpenKeySlab.{destination_of, leads_to, without_key, IsOpenAt, UpdatesPath}
use Rattle.reg_handles.specs.Internal.HandleRows.{handles_of, times, IsUsed, IsTable}
use Rattle.reg_handles.specs.declared.keys.OpenKey.{OpenKey}
use Rattle.reg_handles.specs.declared.rows.Row.{Row}
use Rattle.reg_handles.proofs.PathTextKeys.{same_path-texts}
use Rattle.reg_handles.proofs.HandleList.{count_any}
use Rattle.reg_handles.proofs.TableEntries.{open_destination, open_one}

deleted_used : {K : Type 0} (o : Option (OpenKey K)) (rows : ℕ) → IsUsed o rows → IsUsed (option_map without_key o) rows
deleted_used None rows used = used
deleted_used (Some k) rows used = used

deleted_destination : {K : Type 0} (o : Option (OpenKey K)) → destination_of (option_map without_key o) ≡ Deleted
deleted_destination None = refl
deleted_destination (Some k) = refl

pub deleted_closed : {K : Type 0} (o : Option (OpenKey K)) (text : List ℕ) → IsOpenAt (option_map without_key o) text → ⊥
deleted_closed None text is = is
deleted_closed (Some k) text is = false≢true (sym is.1)

-- a destination stays that is not the path's
other_destination : {K : Type 0} (o : Option (OpenKey K)) (p : List ℕ) → ¬ (IsOpenAt o p) → destination_of o ≡ destination_without (path_of p) (destination_of o)
other_destination None p apart = refl
other_destination (Some k) p apart = by k.is_deleted refl (bytes_eq p k.path.items) refl
  where
    by : (gone : Bool) → k.is_deleted ≡ gone → (same : Bool) → bytes_eq p k.path.items ≡ same → destination_of (Some k) ≡ destination_without (path_of p) (destination_of (Some k))
    by true is same e = rw is refl
    by false is true e = absurd (apart (sym ((bytes_decides p k.path.items).0 e), is))
    by false is false e = rw (is, same_path-texts k.path.items p, e) refl

leads_is : (o : Option ℕ) (q : ℕ) → leads_to o q ≡ true → o ≡ Some q
leads_is None q e = absurd (false≢true e)
leads_is (Some k) q e = let same : k ≡ q = grind (arith, nat_tests) in ap Some same

is_leads : (o : Option ℕ) (q : ℕ) → o ≡ Some q → leads_to o q ≡ true
is_leads None q e = absurd (cc)
is_leads (Some k) q e = let same : k ≡ q = cc in grind (arith, nat_tests, same)

module _ {K : Type 0} (s s' : Slab (OpenKey K)) (paths paths' : List ℕ → Option ℕ) (p : List ℕ) (es : List (ℕ × Row)) (counts : List ℕ) (table : IsTable s paths es counts)
    (slots : (q : ℕ) → get s' q ≡ cond (leads_to (paths p) q) (option_map without_key (get s q)) (get s q)) (freed : UpdatesPath paths p None paths') where
  -- the path's own key is known to be deleted, and each other key is as before
  by_key : (P : ℕ → Option (OpenKey K) → Type 0) → ((q : ℕ) → IsOpenAt (get s q) p → P q (option_map without_key (get s q))) →
      ((q : ℕ) → ¬ (IsOpenAt (get s q) p) → P q (get s q)) → (q : ℕ) → P q (get s' q)
  by_key P here there q = by (leads_to (paths p) q) refl
    where
      by : (b : Bool) → leads_to (paths p) q ≡ b → P q (get s' q)
      by true e = subst (P q) (sym (slots q ∙ cond-true _ _ _ e)) (here q (table.found p q (leads_is (paths p) q e)))
      by false e = subst (P q) (sym (slots q ∙ cond-false _ _ _ e)) (there q (λ is. false≢true (sym e ∙ is_leads (paths p) q (table.listed p q is))))

  destination : (q : ℕ) → destination_of (get s' q) ≡ destination_without (path_of p) (destination_of (get s q))
  destination = by_key (λ q o. destination_of o ≡ destination_without (path_of p) (destination_of (get s q)))
      (λ q is. deleted_destination (get s q) ∙ sym (ap (destination_without (path_of p)) (open_destination (get s q) p is) ∙
      rw (same_path-texts p p, nat_list_eq_equiv.refl p) refl)) (λ q apart. other_destination (get s q) p apart)

  at_rows : (rows : List (ℕ × Row)) → handles_of s' rows ≡ turned (path_of p) (handles_of s rows)
  at_rows [] = refl
  at_rows (e ∷ rows) =
      ap (λ q. record { number = e.0; session = e.1.session; mask = e.1.mask; destination = q } ∷ handles_of s' rows) (destination e.1.key)
      ∙ ap (λ l. record { number = e.0; session = e.1.session; mask = e.1.mask; destination = destination_without (path_of p) (destination_of (get s e.1.key)) } ∷ l) (at_rows rows)

  pub marked_handles : handles_of s' es ≡ turned (path_of p) (handles_of s es)
  marked_handles = at_rows es

  marked_found : (text : List ℕ) (q : ℕ) → paths' text ≡ Some q → IsOpenAt (get s' q) text
  marked_found text q is = by (bytes_eq p text) refl
    where
      by : (b : Bool) → bytes_eq p text ≡ b → IsOpenAt (get s' q) text
      by true e = absurd (let none : paths' text ≡ None = freed text ∙ cond-true _ _ _ e in cc)
      by false e =
          by_key (λ q o. IsOpenAt (get s q) text → IsOpenAt o text) (λ q here was. absurd (false≢true (sym e ∙ (bytes_decides p text).1 (open_one (get s q) p text here was)))) (λ q apart was. was) q
          (table.found text q (sym (freed text ∙ cond-false _ _ _ e) ∙ is))

  marked_listed : (text : List ℕ) (q : ℕ) → IsOpenAt (get s' q) text → paths' text ≡ Some q
  marked_listed text = by_key (λ q o. IsOpenAt o text → paths' text ≡ Some q) (λ q here is. absurd (deleted_closed (get s q) text is)) (λ q apart is. by q apart is (bytes_eq p text) refl)
    where
      by : (q : ℕ) → ¬ (IsOpenAt (get s q) p) → IsOpenAt (get s q) text → (b : Bool) → bytes_eq p text ≡ b → paths' text ≡ Some q
      by q apart is true e = absurd (apart (subst (IsOpenAt (get s q)) (sym ((bytes_decides p text).0 e)) is))
      by q apart is false e = freed text ∙ cond-false _ _ _ e ∙ table.listed text q is

  pub marked_table : IsTable s' paths' es counts
  marked_table = record {
    counts = λ session small. table.counts session small ∙ sym (count_any s s' session es);
    keys = by_key (λ q o. IsUsed o (times q es)) (λ q is. deleted_used (get s q) (times q es) (table.keys q)) (λ q apart. table.keys q);
    found = marked_found;
    listed = marked_listed;
    fit = table.fit;
  }
