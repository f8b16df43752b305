-- What is kept for the paths of a table.
use Rattle.std.proofs.Common.{◌≡◌, ◌≢◌, ℕ, ◌+◌, ◌<◌, ◌==◌, ◌||◌, Bool, true, false, cond, List, [], ◌∷◌, Option, Some, None, is_some, refl, sym, ap, subst, ◌∙◌, arith, Vec}
use Rattle.std.specs.Prelude.{bytes_eq, option_map, unwrap_or, IfSome}
use Rattle.std.specs.Ordering.{nat_cmp}
use Rattle.std.specs.Cmp.Lexicographic.{slice_cmp, bytes_decides}
use Rattle.std.specs.BTreeMap.{is_at}
use Rattle.std.specs.Map.{lookup}
use Rattle.std.proofs.lemmas.Bool.{cond-true, cond-false, false≢true}
use Rattle.std.proofs.lemmas.Bool.Decides.{nat_tests}
use Rattle.std.proofs.lemmas.Cmp.{nat_list_eq_equiv}
use Rattle.slab.specs.Slab.{Slab, get, Updates}
use Rattle.reg_names.specs.Names.{path_of}
use Rattle.reg_model.specs.Worlds.{numbered}
use Rattle.reg_handles.specs.HandleTables.{Table, payload_on, joined, leads, leads_there, is_open}
use Rattle.reg_handles.specs.Internal.OpenKeySlab.{key_at, destination_of, leads_to, without_key, with_payload, payload_of, payload_at, payloads_of, IsOpenAt, UpdatesPath, IsHeld}
use Rattle.reg_handles.specs.Internal.HandleRows.{handle_of, handles_of, times, IsUsed, IsTable}
use Rattle.reg_handles.specs.declared.keys.OpenKey.{OpenKey}
use Rattle.reg_handles.specs.declared.keys.Target.{Target}
use Rattle.reg_handles.specs.declared.rows.Row.{Row}
use Rattle.reg_handles.proofs.PathTextKeys.{same_path-texts}
use Rattle.reg_handles.proofs.HandleList.{numbered-handles_of, handles_same, count_any, times_cons}
use Rattle.reg_handles.proofs.TableEntries.{at_each, open_destination, open_one, open_some}

-- ---- the list of the payloads

-- what is kept for a path is what the slot keeps in which its key stands
pub payload_on-is : {K Y : Type 0} (s : Slab (OpenKey K)) (es : List (Vec ℕ Y × ℕ)) (text : List ℕ) →
    payload_on (record { handles = []; payloads = payloads_of s es }) text ≡ payload_at s (key_at es text)
payload_on-is s [] text = refl
payload_on-is s (e ∷ es) text = by (is_at (slice_cmp nat_cmp text) e.0.items) (payload_on-is s es text)
  where
    by : (b : Bool) → joined (lookup (is_at (slice_cmp nat_cmp text)) (payloads_of s es)) ≡ payload_at s (key_at es text) →
        joined (cond b (Some (payload_of (get s e.1))) (lookup (is_at (slice_cmp nat_cmp text)) (payloads_of s es))) ≡ payload_at s (cond b (Some e.1) (key_at es text))
    by true rest = refl
    by false rest = rest

-- where no handle has a number, it leads nowhere
pub no_number : {K : Type 0} (number : ℕ) (s : Slab (OpenKey K)) (es : List (ℕ × Row)) (t : Table K) → None ≡ lookup (is_at (nat_cmp number)) es →
    handles_of s es ≡ t.handles → (text : List ℕ) (payload : K) → payload_on t text ≡ cond (leads_there (path_of text) (numbered number t.handles)) (Some payload) (payload_on t text)
no_number number s es t none are text payload =
    let nobody : numbered number t.handles ≡ None = ap (numbered number) (sym are) ∙ numbered-handles_of s number es ∙ ap (option_map (λ (row : Row). handle_of s (number, row))) (sym none) in
    rw nobody refl

-- ---- keys that stand open

leads_open : {K : Type 0} (o : Option (OpenKey K)) (text : List ℕ) → leads (path_of text) (destination_of o) ≡ true → IsOpenAt o text
leads_open None text e = absurd (false≢true e)
leads_open (Some k) text leads-there = by k.is_deleted refl leads-there
  where
    by : (gone : Bool) → k.is_deleted ≡ gone → leads (path_of text) (destination_of (Some k)) ≡ true → IsOpenAt (Some k) text
    by true is = rw is (λ e. absurd (false≢true e))
    by false is = rw is (λ e. (sym ((bytes_decides text k.path.items).0 (sym (same_path-texts k.path.items text) ∙ e)), refl))

open_leads : {K : Type 0} (o : Option (OpenKey K)) (text : List ℕ) → IsOpenAt o text → leads (path_of text) (destination_of o) ≡ true
open_leads o text is = ap (leads (path_of text)) (open_destination o text is) ∙ same_path-texts text text ∙ nat_list_eq_equiv.refl text

payload_some : {K : Type 0} (o : Option (OpenKey K)) (text : List ℕ) → IsOpenAt o text → is_some (payload_of o) ≡ true
payload_some None text is = absurd is
payload_some (Some k) text is = refl

some_rows : {K : Type 0} (o : Option (OpenKey K)) (text : List ℕ) (rows : ℕ) → IsOpenAt o text → IsUsed o rows → 0 < rows
some_rows None text rows is used = absurd is
some_rows (Some k) text rows is used = used.1

or_true : (a b : Bool) → b ≡ true → (a || b) ≡ true
or_true true b e = refl
or_true false b e = e

-- ---- the paths that handles lead to

module _ {K : Type 0} (s : Slab (OpenKey K)) where
  open_row : (text : List ℕ) (q : ℕ) → IsOpenAt (get s q) text → (rows : List (ℕ × Row)) → 0 < times q rows → is_open (path_of text) (handles_of s rows) ≡ true
  open_row text q is [] some = absurd (omega (arith, some))
  open_row text q is (e ∷ rows) some = by (e.1.key == q) refl (open_row text q is rows)
    where
      by : (b : Bool) → (e.1.key == q) ≡ b → (0 < times q rows → is_open (path_of text) (handles_of s rows) ≡ true) → is_open (path_of text) (handles_of s (e ∷ rows)) ≡ true
      by true same rest =
          let here : q ≡ e.1.key = grind (arith, nat_tests) in
          ap (λ b. b || is_open (path_of text) (handles_of s rows)) (open_leads (get s e.1.key) text (subst (λ k. IsOpenAt (get s k) text) here is))
      by false other rest =
          let fewer = times_cons q e rows ∙ ap (λ b. cond b 1 0 + times q rows) other in
          or_true _ _ (rest (omega (arith, fewer, some)))

  row_open : (text : List ℕ) (rows : List (ℕ × Row)) → is_open (path_of text) (handles_of s rows) ≡ true → (q : ℕ) × IsOpenAt (get s q) text
  row_open text [] e = absurd (false≢true e)
  row_open text (e ∷ rows) is = by (leads (path_of text) (destination_of (get s e.1.key))) refl is (row_open text rows)
    where
      by : (b : Bool) → leads (path_of text) (destination_of (get s e.1.key)) ≡ b → (b || is_open (path_of text) (handles_of s rows)) ≡ true →
          (is_open (path_of text) (handles_of s rows) ≡ true → (q : ℕ) × IsOpenAt (get s q) text) → (q : ℕ) × IsOpenAt (get s q) text
      by true there is rest = (e.1.key, leads_open (get s e.1.key) text there)
      by false other is rest = rest is

module _ {K : Type 0} (s : Slab (OpenKey K)) (paths : List ℕ → Option ℕ) (es : List (ℕ × Row)) (counts : List ℕ) (table : IsTable s paths es counts) where
  -- there is a payload for just the paths that handles lead to
  pub open_paths : (text : List ℕ) → is_some (payload_at s (paths text)) ≡ is_open (path_of text) (handles_of s es)
  open_paths text = by (paths text) refl (is_open (path_of text) (handles_of s es)) refl
    where
      by : (o : Option ℕ) → paths text ≡ o → (b : Bool) → is_open (path_of text) (handles_of s es) ≡ b → is_some (payload_at s o) ≡ b
      by None none true is = let q = row_open s text es is in let listed = table.listed text q.0 q.1 in absurd (cc)
      by None none false is = refl
      by (Some q) found b is =
          let stands = table.found text q found in
          payload_some (get s q) text stands ∙ sym (open_row s text q stands es (some_rows (get s q) text _ stands (table.keys q))) ∙ is

  -- a target's payload is its path's
  pub target_payload : (q : ℕ) (t : Table K) → ((text : List ℕ) → payload_at s (paths text) ≡ payload_on t text) → (target : Option (Target K)) →
      IfSome target (λ x. IsOpenAt (get s q) x.path.now) → IfSome target (λ x. payload_of (get s q) ≡ Some x.payload) → IfSome target (λ x. payload_on t x.path.now ≡ Some x.payload)
  target_payload q t same None stands kept = tt
  target_payload q t same (Some x) stands kept = sym (same x.path.now) ∙ ap (payload_at s) (table.listed x.path.now q stands) ∙ kept

  -- ---- a row more

  module _ (s' : Slab (OpenKey K)) (paths' : List ℕ → Option ℕ) (path : List ℕ) (payload : K) (key : ℕ) (held : IsHeld s s' paths paths' path payload key) where
    was_kept : payload_at s (paths path) ≡ payload_of (get s key)
    was_kept = by (paths path) refl (get s key) refl
      where
        by : (at : Option ℕ) → paths path ≡ at → (o : Option (OpenKey K)) → get s key ≡ o → payload_at s at ≡ payload_of o
        by (Some q) found o slot = ap (λ k. payload_of (get s k)) (held.alone q found) ∙ ap payload_of slot
        by None none None slot = refl
        by None none (Some k) slot = let listed = table.listed path key (held.was k slot) in absurd (cc)

    apart : (text : List ℕ) (q : ℕ) → bytes_eq path text ≡ false → paths text ≡ Some q → q ≢ key
    apart text q other found same =
        let here : IsOpenAt (get s key) text = subst (λ k. IsOpenAt (get s k) text) same (table.found text q found) in
        let k = open_some (get s key) text here in
        false≢true (sym other ∙ (bytes_decides path text).1 (open_one (get s key) path text (held.was k.0 k.1) here))

    pub added_payloads : (text : List ℕ) →
        payload_at s' (paths' text) ≡ cond (bytes_eq path text) (Some (unwrap_or (payload_at s (paths path)) payload)) (payload_at s (paths text))
    added_payloads text = by (bytes_eq path text) refl
      where
        others : (o : Option ℕ) → paths text ≡ o → bytes_eq path text ≡ false → payload_at s' o ≡ payload_at s o
        others None found other = refl
        others (Some q) found other = ap payload_of (held.others q (apart text q other found))

        by : (b : Bool) → bytes_eq path text ≡ b → payload_at s' (paths' text) ≡ cond b (Some (unwrap_or (payload_at s (paths path)) payload)) (payload_at s (paths text))
        by true e = ap (payload_at s') (held.paths text ∙ cond-true _ _ _ e) ∙ held.keeps ∙ ap (λ o. Some (unwrap_or o payload)) (sym was_kept)
        by false e = ap (payload_at s') (held.paths text ∙ cond-false _ _ _ e) ∙ others (paths text) refl e

  -- ---- another payload

  module _ (s' : Slab (OpenKey K)) (key : ℕ) (payload : K) (slots : Updates s s' key (option_map (with_payload payload) (get s key))) where
    pub set_handles : handles_of s' es ≡ handles_of s es
    set_handles =
        handles_same s s' es (λ t some. at_each (λ q o. destination_of o ≡ destination_of (get s q)) s s' key _ slots.changed slots.others (same (get s key)) (λ q apart. refl) t)
      where
        same : (o : Option (OpenKey K)) → destination_of (option_map (with_payload payload) o) ≡ destination_of o
        same None = refl
        same (Some k) = refl

    pub set_table : IsTable s' paths es counts
    set_table = record {
      counts = λ session small. table.counts session small ∙ sym (count_any s s' session es);
      keys = at_each (λ q o. IsUsed o (times q es)) s s' key _ slots.changed slots.others (used (get s key) _ (table.keys key)) (λ q apart. table.keys q);
      found = λ text q is. at_each (λ q o. IsOpenAt (get s q) text → IsOpenAt o text) s s' key _ slots.changed slots.others
          (stands (get s key) text) (λ q apart here. here) q (table.found text q is);
      listed = λ text q is. table.listed text q (at_each (λ q o. IsOpenAt o text → IsOpenAt (get s q) text) s s' key _ slots.changed slots.others
          (stood (get s key) text) (λ q apart here. here) q is);
      fit = table.fit;
    }
      where
        used : (o : Option (OpenKey K)) (rows : ℕ) → IsUsed o rows → IsUsed (option_map (with_payload payload) o) rows
        used None rows is = is
        used (Some k) rows is = is

        stands : (o : Option (OpenKey K)) (text : List ℕ) → IsOpenAt o text → IsOpenAt (option_map (with_payload payload) o) text
        stands None text is = is
        stands (Some k) text is = is

        stood : (o : Option (OpenKey K)) (text : List ℕ) → IsOpenAt (option_map (with_payload payload) o) text → IsOpenAt o text
        stood None text is = is
        stood (Some k) text is = is

    set_at : (text : List ℕ) → payload_at s' (paths text) ≡ cond (leads (path_of text) (destination_of (get s key))) (Some payload) (payload_at s (paths text))
    set_at text = by (leads (path_of text) (destination_of (get s key))) refl
      where
        put : (o : Option (OpenKey K)) → IsOpenAt o text → payload_of (option_map (with_payload payload) o) ≡ Some payload
        put None is = absurd is
        put (Some k) is = refl

        others : (o : Option ℕ) → paths text ≡ o → leads (path_of text) (destination_of (get s key)) ≡ false → payload_at s' o ≡ payload_at s o
        others None found other = refl
        others (Some q) found other = ap payload_of (slots.others q (λ same.
            false≢true (sym other ∙ open_leads (get s key) text (subst (λ k. IsOpenAt (get s k) text) same (table.found text q found)))))

        by : (b : Bool) → leads (path_of text) (destination_of (get s key)) ≡ b → payload_at s' (paths text) ≡ cond b (Some payload) (payload_at s (paths text))
        by true e = let is = leads_open (get s key) text e in ap (payload_at s') (table.listed text key is) ∙ ap payload_of slots.changed ∙ put (get s key) is
        by false e = others (paths text) refl e

    -- the same of the path that the handle of a number leads to
    pub set_payloads : (number : ℕ) (row : Row) → Some row ≡ lookup (is_at (nat_cmp number)) es → row.key ≡ key → (text : List ℕ) →
        payload_at s' (paths text) ≡ cond (leads_there (path_of text) (numbered number (handles_of s es))) (Some payload) (payload_at s (paths text))
    set_payloads number row found is text =
        set_at text ∙ ap (λ h. cond (leads_there (path_of text) h) (Some payload) (payload_at s (paths text))) (sym (numbered-handles_of s number es ∙
        ap (option_map (λ (row : Row). handle_of s (number, row))) (sym found) ∙
        ap (λ (k : ℕ). Some (record { number = number; session = row.session; mask = row.mask; destination = destination_of (get s k) })) is))

  -- ---- a key marked deleted

  module _ (s' : Slab (OpenKey K)) (paths' : List ℕ → Option ℕ) (p : List ℕ)
      (slots : (q : ℕ) → get s' q ≡ cond (leads_to (paths p) q) (option_map without_key (get s q)) (get s q)) (freed : UpdatesPath paths p None paths') where
    marked_at : (o : Option ℕ) → payload_at s' o ≡ payload_at s o
    marked_at None = refl
    marked_at (Some q) = ap payload_of (slots q) ∙ by (leads_to (paths p) q) (get s q)
      where
        by : (b : Bool) (o : Option (OpenKey K)) → payload_of (cond b (option_map without_key o) o) ≡ payload_of o
        by true None = refl
        by true (Some k) = refl
        by false o = refl

    pub marked_payloads : (text : List ℕ) → payload_at s' (paths' text) ≡ cond (bytes_eq p text) None (payload_at s (paths text))
    marked_payloads text = ap (payload_at s') (freed text) ∙ by (bytes_eq p text)
      where
        by : (b : Bool) → payload_at s' (cond b None (paths text)) ≡ cond b None (payload_at s (paths text))
        by true = refl
        by false = marked_at (paths text)
