-- A table of which all keys were deleted whose paths pass a test.
use Rattle.std.proofs.Common.{◌≡◌, ℕ, Bool, true, false, cond, ◌||◌, List, [], ◌∷◌, Option, Some, None, refl, sym, ap, subst, ◌∙◌}
use Rattle.std.specs.Prelude.{option_map}
use Rattle.std.proofs.lemmas.Bool.{cond-false, false≢true}
use Rattle.slab.specs.Slab.{Slab, get}
use Rattle.reg_names.specs.Names.{path_of, is_path}
use Rattle.reg_heap.specs.Paths.{Path}
use Rattle.reg_model.specs.Worlds.{Handle, Destination, At, Deleted, destination_past, turned_past}
use Rattle.reg_handles.specs.Internal.OpenKeySlab.{destination_of, without_key, without_key_past, payload_of, payload_at, IsOpenAt}
use Rattle.reg_handles.specs.Internal.HandleRows.{handles_of, times, IsUsed, IsTable}
use Rattle.reg_handles.specs.declared.keys.OpenKey.{OpenKey}
use Rattle.reg_handles.specs.declared.rows.Row.{Row}
use Rattle.reg_handles.proofs.HandleList.{count_any}
use Rattle.reg_handles.proofs.KeysMarkedBelow.{past_closed}

past_used : {K : Type 0} (gone : List ℕ → Bool) (o : Option (OpenKey K)) (rows : ℕ) → IsUsed o rows → IsUsed (option_map (without_key_past gone) o) rows
past_used gone None rows used = used
past_used gone (Some k) rows used = by (gone k.path.items)
  where
    by : (b : Bool) → IsUsed (Some (cond b (without_key k) k)) rows
    by true = used
    by false = used

past_payload : {K : Type 0} (gone : List ℕ → Bool) (o : Option (OpenKey K)) → payload_of (option_map (without_key_past gone) o) ≡ payload_of o
past_payload gone None = refl
past_payload gone (Some k) = by (gone k.path.items)
  where
    by : (b : Bool) → payload_of (Some (cond b (without_key k) k)) ≡ payload_of (Some k)
    by true = refl
    by false = refl

past_open : {K : Type 0} (gone : List ℕ → Bool) (o : Option (OpenKey K)) (text : List ℕ) → gone text ≡ false → IsOpenAt o text → IsOpenAt (option_map (without_key_past gone) o) text
past_open gone None text other stands = stands
past_open gone (Some k) text other stands =
    subst (λ (k' : OpenKey _). IsOpenAt (Some k') text) (sym (cond-false (gone k.path.items) (without_key k) k (ap gone stands.0 ∙ other))) stands

-- a key that stands open stood open
past_stood : {K : Type 0} (gone : List ℕ → Bool) (o : Option (OpenKey K)) (text : List ℕ) → IsOpenAt (option_map (without_key_past gone) o) text → IsOpenAt o text
past_stood gone None text stands = stands
past_stood gone (Some k) text stands = by (gone k.path.items) stands
  where
    by : (b : Bool) → IsOpenAt (Some (cond b (without_key k) k)) text → IsOpenAt (Some k) text
    by true stands = absurd (false≢true (sym stands.1))
    by false stands = stands

-- what leads to a path that passes the test of paths leads nowhere any more
past_destination : {K : Type 0} (gone : List ℕ → Bool) (test : Path → Bool) → ((text : List ℕ) → is_path text ≡ true → test (path_of text) ≡ gone text) →
    (o : Option (OpenKey K)) (rows : ℕ) → IsUsed o rows → destination_of (option_map (without_key_past gone) o) ≡ destination_past test (destination_of o)
past_destination gone test alike None rows used = refl
past_destination gone test alike (Some k) rows used = by (gone k.path.items) (alike k.path.items used.2.path) k.is_deleted refl
  where
    by : (b : Bool) → test (path_of k.path.items) ≡ b → (d : Bool) → k.is_deleted ≡ d → destination_of (Some (cond b (without_key k) k)) ≡ destination_past test (destination_of (Some k))
    by true passes true is = rw is refl
    by true passes false is = rw (is, passes) refl
    by false fails true is = rw is refl
    by false fails false is = rw (is, fails) refl

module _ {K : Type 0} (s s' : Slab (OpenKey K)) (paths paths' : List ℕ → Option ℕ) (gone : List ℕ → Bool) (test : Path → Bool)
    (alike : (text : List ℕ) → is_path text ≡ true → test (path_of text) ≡ gone text) (es : List (ℕ × Row)) (counts : List ℕ) (table : IsTable s paths es counts)
    (slots : (q : ℕ) → get s' q ≡ option_map (without_key_past gone) (get s q)) (freed : (text : List ℕ) → paths' text ≡ cond (gone text) None (paths text)) where
  at_rows : (rows : List (ℕ × Row)) → handles_of s' rows ≡ turned_past test (handles_of s rows)
  at_rows [] = refl
  at_rows (e ∷ rows) =
      ap (λ (d : Destination). record { number = e.0; session = e.1.session; mask = e.1.mask; destination = d } ∷ handles_of s' rows)
      (ap destination_of (slots e.1.key) ∙ past_destination gone test alike (get s e.1.key) (times e.1.key es) (table.keys e.1.key)) ∙
      ap (λ (l : List Handle). record { number = e.0; session = e.1.session; mask = e.1.mask; destination = destination_past test (destination_of (get s e.1.key)) } ∷ l) (at_rows rows)

  pub past_handles : handles_of s' es ≡ turned_past test (handles_of s es)
  past_handles = at_rows es

  was_found : (text : List ℕ) (q : ℕ) → paths' text ≡ Some q → (gone text ≡ false) × (paths text ≡ Some q)
  was_found text q is = by (gone text) refl (sym (freed text) ∙ is)
    where
      by : (b : Bool) → gone text ≡ b → cond b None (paths text) ≡ Some q → (gone text ≡ false) × (paths text ≡ Some q)
      by true e is = absurd (cc)
      by false e is = (e, is)

  past_found : (text : List ℕ) (q : ℕ) → paths' text ≡ Some q → IsOpenAt (get s' q) text
  past_found text q is =
      let was = was_found text q is in
      subst (λ o. IsOpenAt o text) (sym (slots q)) (past_open gone (get s q) text was.0 (table.found text q was.1))

  past_listed : (text : List ℕ) (q : ℕ) → IsOpenAt (get s' q) text → paths' text ≡ Some q
  past_listed text q is = by (gone text) refl
    where
      stands : IsOpenAt (option_map (without_key_past gone) (get s q)) text
      stands = subst (λ o. IsOpenAt o text) (slots q) is

      by : (b : Bool) → gone text ≡ b → paths' text ≡ Some q
      by true e = absurd (past_closed gone (get s q) text e stands)
      by false e = freed text ∙ cond-false _ _ _ e ∙ table.listed text q (past_stood gone (get s q) text stands)

  pub past_table : IsTable s' paths' es counts
  past_table = record {
    counts = λ session small. table.counts session small ∙ sym (count_any s s' session es);
    keys = λ q. subst (λ o. IsUsed o (times q es)) (sym (slots q)) (past_used gone (get s q) (times q es) (table.keys q));
    found = past_found;
    listed = past_listed;
    fit = table.fit;
  }

  pub past_payloads : (text : List ℕ) → payload_at s' (paths' text) ≡ cond (test (path_of text)) None (payload_at s (paths text))
  past_payloads text = ap (payload_at s') (freed text) ∙ by (paths text) refl
    where
      none : (b c : Bool) → payload_at s' (cond b None None) ≡ cond c None None
      none true true = refl
      none true false = refl
      none false true = refl
      none false false = refl

      some : (q : ℕ) (b : Bool) → payload_at s' (cond b None (Some q)) ≡ cond b None (payload_at s (Some q))
      some q true = refl
      some q false = ap payload_of (slots q) ∙ past_payload gone (get s q)

      good : (q : ℕ) → IsOpenAt (get s q) text → IsUsed (get s q) (times q es) → is_path text ≡ true
      good q stands used = by (get s q) stands used
        where
          by : (o : Option (OpenKey K)) → IsOpenAt o text → IsUsed o (times q es) → is_path text ≡ true
          by None stands used = absurd stands
          by (Some k) stands used = subst (λ (t : List ℕ). is_path t ≡ true) stands.0 used.2.path

      by : (o : Option ℕ) → paths text ≡ o → payload_at s' (cond (gone text) None o) ≡ cond (test (path_of text)) None (payload_at s o)
      by None e = none (gone text) (test (path_of text))
      by (Some q) e =
          some q (gone text) ∙ ap (λ (b : Bool). cond b None (payload_at s (Some q))) (sym (alike text (good q (table.found text q e) (table.keys q))))

-- ---- two tests, one after the other

pub turned-twice : (f g h : Path → Bool) → ((q : Path) → h q ≡ (f q || g q)) → (hs : List Handle) → turned_past g (turned_past f hs) ≡ turned_past h hs
turned-twice f g h each [] = refl
turned-twice f g h each (x ∷ hs) =
    ap (λ (d : Destination). record x { destination = d } ∷ turned_past g (turned_past f hs)) (both x.destination) ∙
    ap (λ (l : List Handle). record x { destination = destination_past h x.destination } ∷ l) (turned-twice f g h each hs)
  where
    both : (d : Destination) → destination_past g (destination_past f d) ≡ destination_past h d
    both Deleted = refl
    both (At q) = by (f q) (each q)
      where
        by : (b : Bool) → h q ≡ (b || g q) → destination_past g (cond b Deleted (At q)) ≡ cond (h q) Deleted (At q)
        by true e = rw e refl
        by false e = rw e refl

pub none-twice : {X : Type 0} (a b c : Bool) (o : Option X) → c ≡ (a || b) → cond b None (cond a None o) ≡ cond c None o
none-twice true true c o e = rw e refl
none-twice true false c o e = rw e refl
none-twice false b c o e = rw e refl
