-- Open keys whose paths pass a test marked as deleted, one after another.
use Rattle.std.proofs.Common.{◌≡◌, ◌≢◌, ℕ, ◌+◌, ◌<◌, Bool, true, false, cond, List, Option, Some, None, is_some, refl, sym, ap, subst, ◌∙◌, arith}
use Rattle.std.specs.Prelude.{bytes_eq, option_map}
use Rattle.std.specs.Cmp.Lexicographic.{bytes_decides}
use Rattle.std.proofs.lemmas.Bool.{cond-true, cond-false, false≢true}
use Rattle.slab.specs.Slab.{Slab, get, Updates}
use Rattle.reg_handles.specs.Internal.OpenKeySlab.{without_key, without_key_past, IsOpenAt, UpdatesPath}
use Rattle.reg_handles.specs.declared.keys.OpenKey.{OpenKey}
use Rattle.reg_handles.proofs.KeyMarkedDeleted.{deleted_closed}
use Rattle.reg_handles.proofs.TableEntries.{at_each, open_one, same_key}

-- ---- one key

-- the text of a key that is open
pub text-of : {K : Type 0} (o : Option (OpenKey K)) (k : OpenKey K) → Some k ≡ o → (text : List ℕ) → IsOpenAt o text → k.path.items ≡ text
text-of {K = K} o k is text = subst (λ (o : Option (OpenKey K)). IsOpenAt o text → k.path.items ≡ text) is (λ stands. stands.0)

-- an entry that was there is gone
pub fewer : (o : Option ℕ) (key old new : ℕ) → o ≡ Some key → new + cond (is_some o) 1 0 ≡ old → new < old
fewer None key old new is long = absurd (cc)
fewer (Some k) key old new is long = omega (arith, long)

-- a key that is open at a path that passes the test
past_same : {K : Type 0} (gone : List ℕ → Bool) (o : Option (OpenKey K)) (text : List ℕ) → IsOpenAt o text → gone text ≡ true →
    option_map without_key o ≡ option_map (without_key_past gone) o
past_same gone None text stands is = refl
past_same gone (Some k) text stands is = ap Some (sym (cond-true (gone k.path.items) (without_key k) k (ap gone stands.0 ∙ is)))

pub past_closed : {K : Type 0} (gone : List ℕ → Bool) (o : Option (OpenKey K)) (text : List ℕ) → gone text ≡ true → IsOpenAt (option_map (without_key_past gone) o) text → ⊥
past_closed gone None text is stands = stands
past_closed gone (Some k) text is stands = by (gone k.path.items) refl stands
  where
    by : (b : Bool) → gone k.path.items ≡ b → IsOpenAt (Some (cond b (without_key k) k)) text → ⊥
    by true e stands = false≢true (sym stands.1)
    by false e stands = false≢true (sym e ∙ ap gone stands.0 ∙ is)

-- and one that isn't open at such a path
past_stays : {K : Type 0} (gone : List ℕ → Bool) (o : Option (OpenKey K)) → ((text : List ℕ) → gone text ≡ true → ¬ (IsOpenAt o text)) → o ≡ option_map (without_key_past gone) o
past_stays gone None closed = refl
past_stays gone (Some k) closed = by (gone k.path.items) refl k.is_deleted refl
  where
    by : (b : Bool) → gone k.path.items ≡ b → (d : Bool) → k.is_deleted ≡ d → Some k ≡ Some (cond b (without_key k) k)
    by false e d is = refl
    by true e true is = ap (λ (d : Bool). Some (record k { is_deleted = d })) is
    by true e false is = absurd (closed k.path.items e (refl, is))

-- ---- some of the keys

-- some keys whose paths pass the test were marked, and no others
pub record AreMarked {K : Type 0} (gone : List ℕ → Bool) (s s' : Slab (OpenKey K)) (paths paths' : List ℕ → Option ℕ) : Type 0 where
  pub found : (text : List ℕ) (key : ℕ) → paths' text ≡ Some key → IsOpenAt (get s' key) text
  pub listed : (text : List ℕ) (key : ℕ) → IsOpenAt (get s' key) text → paths' text ≡ Some key
  pub slots : (key : ℕ) → (b : Bool) × (get s' key ≡ cond b (option_map (without_key_past gone) (get s key)) (get s key))
  pub rest : (text : List ℕ) → gone text ≡ false → paths' text ≡ paths text

pub none_marked : {K : Type 0} (gone : List ℕ → Bool) (s : Slab (OpenKey K)) (paths : List ℕ → Option ℕ) →
    ((text : List ℕ) (key : ℕ) → paths text ≡ Some key → IsOpenAt (get s key) text) → ((text : List ℕ) (key : ℕ) → IsOpenAt (get s key) text → paths text ≡ Some key) →
    AreMarked gone s s paths paths
none_marked gone s paths found listed = record { found = found; listed = listed; slots = λ key. (false, refl); rest = λ text is. refl }

module _ {K : Type 0} (gone : List ℕ → Bool) (s s' : Slab (OpenKey K)) (paths paths' : List ℕ → Option ℕ) (are : AreMarked gone s s' paths paths') where
  module _ (s'' : Slab (OpenKey K)) (paths'' : List ℕ → Option ℕ) (key : ℕ) (path : List ℕ) (is : gone path ≡ true) (here : paths' path ≡ Some key)
      (slots : Updates s' s'' key (option_map without_key (get s' key)))
      (freed : (text : List ℕ) → IsOpenAt (get s' key) text → UpdatesPath paths' text None paths'') where
    stands : IsOpenAt (get s' key) path
    stands = are.found path key here

    one_found : (text : List ℕ) (q : ℕ) → paths'' text ≡ Some q → IsOpenAt (get s'' q) text
    one_found text q there = by (bytes_eq path text) refl
      where
        by : (b : Bool) → bytes_eq path text ≡ b → IsOpenAt (get s'' q) text
        by true e = absurd (let none : paths'' text ≡ None = freed path stands text ∙ cond-true _ _ _ e in cc)
        by false e =
            at_each (λ q o. IsOpenAt (get s' q) text → IsOpenAt o text) s' s'' key _ slots.changed slots.others
            (λ also. absurd (false≢true (sym e ∙ (bytes_decides path text).1 (open_one (get s' key) path text stands also)))) (λ q apart was. was) q
            (are.found text q (sym (freed path stands text ∙ cond-false _ _ _ e) ∙ there))

    one_listed : (text : List ℕ) (q : ℕ) → IsOpenAt (get s'' q) text → paths'' text ≡ Some q
    one_listed text =
        at_each (λ q o. IsOpenAt o text → paths'' text ≡ Some q) s' s'' key _ slots.changed slots.others (λ closed. absurd (deleted_closed (get s' key) text closed))
        (λ q apart was. by q apart was (bytes_eq path text) refl)
      where
        by : (q : ℕ) → q ≢ key → IsOpenAt (get s' q) text → (b : Bool) → bytes_eq path text ≡ b → paths'' text ≡ Some q
        by q apart was true e =
            let same = (bytes_decides path text).0 e in
            let there : paths' text ≡ Some key = ap paths' (sym same) ∙ here in
            absurd (apart (same_key q key (sym (are.listed text q was) ∙ there)))
        by q apart was false e = freed path stands text ∙ cond-false _ _ _ e ∙ are.listed text q was

    one_slot : (b : Bool) → get s' key ≡ cond b (option_map (without_key_past gone) (get s key)) (get s key) →
        option_map without_key (get s' key) ≡ option_map (without_key_past gone) (get s key)
    one_slot true e = absurd (past_closed gone (get s key) path is (subst (λ o. IsOpenAt o path) e stands))
    one_slot false e = ap (option_map without_key) e ∙ past_same gone (get s key) path (subst (λ o. IsOpenAt o path) e stands) is

    one_rest : (text : List ℕ) → gone text ≡ false → paths'' text ≡ paths text
    one_rest text other = by (bytes_eq path text) refl
      where
        by : (b : Bool) → bytes_eq path text ≡ b → paths'' text ≡ paths text
        by true e = absurd (false≢true (sym other ∙ ap gone (sym ((bytes_decides path text).0 e)) ∙ is))
        by false e = freed path stands text ∙ cond-false _ _ _ e ∙ are.rest text other

    -- one of them more
    pub one_marked : AreMarked gone s s'' paths paths''
    one_marked = record {
      found = one_found;
      listed = one_listed;
      slots = at_each (λ q o. (b : Bool) × (o ≡ cond b (option_map (without_key_past gone) (get s q)) (get s q))) s' s'' key _ slots.changed slots.others
          (true, one_slot (are.slots key).0 (are.slots key).1) (λ q apart. are.slots q);
      rest = one_rest;
    }

  -- once none is left
  module _ (none : (text : List ℕ) → gone text ≡ true → paths' text ≡ None) where
    pub all_slots : (key : ℕ) → get s' key ≡ option_map (without_key_past gone) (get s key)
    all_slots key = by (are.slots key).0 (are.slots key).1
      where
        closed : get s' key ≡ get s key → (text : List ℕ) → gone text ≡ true → ¬ (IsOpenAt (get s key) text)
        closed same text is stands =
            let there = are.listed text key (subst (λ o. IsOpenAt o text) (sym same) stands) in
            let nowhere = none text is in
            cc

        by : (b : Bool) → get s' key ≡ cond b (option_map (without_key_past gone) (get s key)) (get s key) → get s' key ≡ option_map (without_key_past gone) (get s key)
        by true e = e
        by false e = e ∙ past_stays gone (get s key) (closed e)

    pub all_paths : (text : List ℕ) → paths' text ≡ cond (gone text) None (paths text)
    all_paths text = by (gone text) refl
      where
        by : (b : Bool) → gone text ≡ b → paths' text ≡ cond (gone text) None (paths text)
        by true e = none text e ∙ sym (cond-true _ _ _ e)
        by false e = are.rest text e ∙ sym (cond-false _ _ _ e)
