-- Calls accepted one after another, and the entries that they make.
use Rattle.std.proofs.Common.{◌≡◌, ◌≢◌, ℕ, ◌+◌, Bool, true, false, cond, List, [], ◌∷◌, ◌++◌, length, Option, Some, None, refl, sym, ap, ◌∙◌, subst, arith, is_some}
use Rattle.std.proofs.Common.{append_assoc, append-nil, length-append}
use Rattle.std.proofs.lemmas.Bool.{eq-eqb, ne_eqb}
use Rattle.std.proofs.lemmas.List.{map-append}
use Rattle.reg_heap.specs.Members.{value_named}
use Rattle.reg_heap.specs.Edits.{values_at}
use Rattle.reg_model.specs.declared.call.Change.{Change}
use Rattle.reg_model.specs.declared.call.Change.TheVariants.{OpenRoot, CreateKey, SetValue, DeleteValue, DeleteTree, Close}
use Rattle.reg_model.specs.declared.reply.ChangeReply.{ChangeReply}
use Rattle.reg_calls.specs.Views.{View, IsAccepted, entry_of, next_of}
use Rattle.reg_dotreg_reader.specs.declared.entry.Entry.{Entry}
use Rattle.reg_dotreg_reader.specs.declared.entry.Entry.TheVariants.{Key, GoneKey, Value, GoneValue}
use Rattle.reg_dotreg_reader.specs.declared.entry.Numbered.{Numbered}
use Rattle.reg_dotreg_import.specs.Imports.{Stand, after_entry, after_entries, entries_of, begun}
use Rattle.reg_dotreg_import.specs.ImportCalls.{Accepts, Hands, is_absent, leaving, calls_of_entry, hands_after, hands_behind, calls_of, opened, import_calls}
use Rattle.reg_dotreg_import.specs.declared.entries.Handles.{Handles}
use Rattle.reg_dotreg_import.specs.declared.entries.TheConstants.{ALL_RIGHTS}
use Rattle.reg_dotreg_import.specs.Internal.Standing.{IsMade, IsEntryMade, AreEntriesMade, hands_of}

-- ---- lists of calls

pub accepts-all : (moment : ℕ) (first second : List Change) (old mid new : View) → Accepts moment old first mid → Accepts moment mid second new →
    Accepts moment old (first ++ second) new
accepts-all moment [] second old mid new same more = subst (λ (v : View). Accepts moment v second new) same more
accepts-all moment (change ∷ first) second old mid new a more =
    (a.0, a.1, a.2, accepts-all moment first second a.0 mid new a.3 more)

pub accepts-one : (moment : ℕ) (change : Change) (old new : View) (reply : ChangeReply) → IsAccepted old new 0 moment change reply →
    Accepts moment old (change ∷ []) new
accepts-one moment change old new reply a = (new, reply, a, refl)

-- each has a number
pub accepts-length : (moment : ℕ) (changes : List Change) (old new : View) → Accepts moment old changes new →
    next_of new ≡ next_of old + length changes
accepts-length moment [] old new same = ap next_of same ∙ omega (arith)
accepts-length moment (change ∷ changes) old new a =
    let rest = accepts-length moment changes a.0 new a.3 in
    let one : length a.0.journal ≡ length old.journal + 1 =
    ap length a.2.journal ∙ length-append old.journal (entry_of old 0 moment change ∷ []) in
    let base = a.2.base in
    omega (arith, rest, one, base)

-- ---- entries in turn

after_entries-push : (moment : ℕ) (s : Stand) (es : List Entry) (e : Entry) →
    after_entries moment s (es ++ e ∷ []) ≡ after_entry moment (after_entries moment s es) e
after_entries-push moment s [] e = refl
after_entries-push moment s (x ∷ es) e = after_entries-push moment (after_entry moment s x) es e

-- one entry more
pub applied-push : (moment : ℕ) (s : Stand) (front : List Numbered) (n : Numbered) →
    after_entries moment s (entries_of (front ++ n ∷ [])) ≡ after_entry moment (after_entries moment s (entries_of front)) n.entry
applied-push moment s front n =
    ap (after_entries moment s) (map-append (λ (n : Numbered). n.entry) front (n ∷ [])) ∙ after_entries-push moment s (entries_of front) n.entry

calls-push : (moment : ℕ) (h : Hands) (es : List Entry) (e : Entry) →
    calls_of moment h (es ++ e ∷ []) ≡ calls_of moment h es ++ calls_of_entry (hands_behind moment h es) e
calls-push moment h [] e = append-nil (calls_of_entry h e)
calls-push moment h (x ∷ es) e =
    ap (λ (more : List Change). calls_of_entry h x ++ more) (calls-push moment (hands_after moment h x) es e)
    ∙ sym (append_assoc (calls_of_entry h x) (calls_of moment (hands_after moment h x) es) (calls_of_entry (hands_behind moment (hands_after moment h x) es) e))

hands-push : (moment : ℕ) (h : Hands) (es : List Entry) (e : Entry) →
    hands_behind moment h (es ++ e ∷ []) ≡ hands_after moment (hands_behind moment h es) e
hands-push moment h [] e = refl
hands-push moment h (x ∷ es) e = hands-push moment (hands_after moment h x) es e

pub made-none : (moment : ℕ) (h : Hands) (v : View) → AreEntriesMade moment h [] v v h
made-none moment h v = record { led = refl; last_is = refl }

-- one entry more, which is told of where the others left an import
pub made-more : (moment m : ℕ) (h : Hands) (front : List Numbered) (n : Numbered) (old mid new : View) (middle last : Hands) → m ≡ moment →
    AreEntriesMade moment h (entries_of front) old mid middle → IsEntryMade m middle n.entry mid new last →
    AreEntriesMade moment h (entries_of (front ++ n ∷ [])) old new last
made-more moment m h front n old mid new middle last same all one =
    let es = entries_of front in
    let here = subst (λ (g : Hands). IsEntryMade moment g n.entry mid new last) all.last_is
    (subst (λ (k : ℕ). IsEntryMade k middle n.entry mid new last) same one) in
    subst (λ (xs : List Entry). AreEntriesMade moment h xs old new last) (sym (map-append (λ (n : Numbered). n.entry) front (n ∷ []))) (record {
      led = subst (λ (changes : List Change). Accepts moment old changes new) (sym (calls-push moment h es n.entry))
          (accepts-all moment (calls_of moment h es) (calls_of_entry (hands_behind moment h es) n.entry) old mid new all.led here.led);
      last_is = here.last_is ∙ sym (hands-push moment h es n.entry);
    })

pub led-on : (now next : Handles) (moment : ℕ) (h : Hands) (s : Stand) (front : List Numbered) (n : Numbered) (old mid new : View) → now.moment ≡ moment →
    AreEntriesMade moment h (entries_of front) old mid (hands_of now mid (after_entries moment s (entries_of front))) →
    IsEntryMade now.moment (hands_of now mid (after_entries moment s (entries_of front))) n.entry mid new
    (hands_of next new (after_entry now.moment (after_entries moment s (entries_of front)) n.entry)) →
    AreEntriesMade moment h (entries_of (front ++ n ∷ [])) old new (hands_of next new (after_entries moment s (entries_of (front ++ n ∷ []))))
led-on now next moment h s front n old mid new same all one =
    let g = after_entries moment s (entries_of front) in
    let more = made-more moment now.moment h front n old mid new (hands_of now mid g) (hands_of next new (after_entry now.moment g n.entry)) same all one in
    subst (λ (t : Stand). AreEntriesMade moment h (entries_of (front ++ n ∷ [])) old new (hands_of next new t))
    (ap (λ (m : ℕ). after_entry m g n.entry) same ∙ sym (applied-push moment s front n)) more

-- ---- one entry

-- where an import stands by handles of which the key's and the next number are known
hands-as : (s t : Stand) (root key key' next next' : ℕ) → key' ≡ key → next' ≡ next →
    ◌≡◌ {A = Hands} (record { stand = t; root = root; key = key'; next = next' }) (record { stand = t; root = root; key = key; next = next })
hands-as s t root key key' next next' ke ne = rw (ke, ne) refl

module _ (handles : Handles) (old new : View) (s : Stand) where
  -- some calls, and no other handle
  steps : (e : Entry) (changes : List Change) → calls_of_entry (hands_of handles old s) e ≡ changes →
      (hands_after handles.moment (hands_of handles old s) e).key ≡ handles.key → Accepts handles.moment old changes new →
      IsEntryMade handles.moment (hands_of handles old s) e old new (hands_of handles new (after_entry handles.moment s e))
  steps e changes is same a =
      let h = hands_of handles old s in
      record {
        led = subst (λ (cs : List Change). Accepts handles.moment old cs new) (sym is) a;
        last_is = hands-as s (after_entry handles.moment s e) handles.root (hands_after handles.moment h e).key handles.key
            (next_of old + length (calls_of_entry h e)) (next_of new) (sym same)
            (accepts-length handles.moment changes old new a ∙ ap (λ (cs : List Change). next_of old + length cs) (sym is));
      }

  pub value-made : (name : List ℕ) (kind : ℕ) (bytes : List ℕ) (handle : Option ℕ) →
      IsMade old new handles.moment (SetValue handles.key name kind bytes) handle →
      IsEntryMade handles.moment (hands_of handles old s) (Value name kind bytes) old new
      (hands_of handles new (after_entry handles.moment s (Value name kind bytes)))
  value-made name kind bytes handle m =
      let change = SetValue handles.key name kind bytes in
      steps (Value name kind bytes) (change ∷ []) refl refl (accepts-one handles.moment change old new m.reply m.accepted)

  pub gone_value-made : (name : List ℕ) (handle : Option ℕ) → is_some (value_named name (values_at s.tree s.here)) ≡ true →
      IsMade old new handles.moment (DeleteValue handles.key name) handle →
      IsEntryMade handles.moment (hands_of handles old s) (GoneValue name) old new (hands_of handles new (after_entry handles.moment s (GoneValue name)))
  gone_value-made name handle there m =
      let change = DeleteValue handles.key name in
      steps (GoneValue name) (change ∷ []) (rw there refl) refl (accepts-one handles.moment change old new m.reply m.accepted)

  pub gone_key-made : (path : List ℕ) (handle : Option ℕ) → is_absent s.tree path ≡ false → IsMade old new handles.moment (DeleteTree handles.root path) handle →
      IsEntryMade handles.moment (hands_of handles old s) (GoneKey path) old new (hands_of handles new (after_entry handles.moment s (GoneKey path)))
  gone_key-made path handle there m =
      let change = DeleteTree handles.root path in
      steps (GoneKey path) (change ∷ []) (rw there refl) refl (accepts-one handles.moment change old new m.reply m.accepted)

pub gone_value-calls : (h : Hands) (name : List ℕ) → is_some (value_named name (values_at h.stand.tree h.stand.here)) ≡ true →
    calls_of_entry h (GoneValue name) ≡ DeleteValue h.key name ∷ []
gone_value-calls h name there = rw there refl

pub gone_key-calls : (h : Hands) (path : List ℕ) → is_absent h.stand.tree path ≡ false → calls_of_entry h (GoneKey path) ≡ DeleteTree h.root path ∷ []
gone_key-calls h path there = rw there refl

-- what isn't there isn't asked to go
module _ (handles : Handles) (v : View) (s : Stand) where
  pub gone_value-passed : (name : List ℕ) → is_some (value_named name (values_at s.tree s.here)) ≡ false →
      IsEntryMade handles.moment (hands_of handles v s) (GoneValue name) v v (hands_of handles v (after_entry handles.moment s (GoneValue name)))
  gone_value-passed name none = steps handles v v s (GoneValue name) [] (rw none refl) refl refl

  pub gone_key-passed : (path : List ℕ) → is_absent s.tree path ≡ true →
      IsEntryMade handles.moment (hands_of handles v s) (GoneKey path) v v (hands_of handles v (after_entry handles.moment s (GoneKey path)))
  gone_key-passed path none = steps handles v v s (GoneKey path) [] (rw none refl) refl refl

  -- ---- the key's handle

  pub left-none : handles.key ≡ handles.root → Accepts handles.moment v (leaving (hands_of handles v s)) v
  left-none same =
      subst (λ (cs : List Change). Accepts handles.moment v cs v)
      (sym (ap (λ (b : Bool). cond b [] (Close handles.key ∷ [])) (eq-eqb handles.key handles.root same))) refl

  pub left-one : (new : View) (reply : ChangeReply) → handles.key ≢ handles.root → IsAccepted v new 0 handles.moment (Close handles.key) reply →
      Accepts handles.moment v (leaving (hands_of handles v s)) new
  left-one new reply other a =
      subst (λ (cs : List Change). Accepts handles.moment v cs new)
      (sym (ap (λ (b : Bool). cond b [] (Close handles.key ∷ [])) (ne_eqb handles.key handles.root other)))
      (accepts-one handles.moment (Close handles.key) v new reply a)

-- a key made, once the last one's handle was closed
pub key-made-by : (handles : Handles) (old mid new : View) (s : Stand) (path : List ℕ) (key : ℕ) (given : List ℕ) →
    Accepts handles.moment old (leaving (hands_of handles old s)) mid →
    IsMade mid new handles.moment (CreateKey handles.root path ALL_RIGHTS None) (Some key) → ◌≡◌ {A = Option ℕ} (Some key) (Some (next_of mid)) →
    IsEntryMade handles.moment (hands_of handles old s) (Key path) old new
    (hands_of (record handles { key = key; path = given }) new (after_entry handles.moment s (Key path)))
key-made-by handles old mid new s path key given left m number =
    let change = CreateKey handles.root path ALL_RIGHTS None in
    let h = hands_of handles old s in
    let all = accepts-all handles.moment (leaving h) (change ∷ []) old mid new left (accepts-one handles.moment change mid new m.reply m.accepted) in
    let there = accepts-length handles.moment (leaving h) old mid left in
    record {
      led = all;
      last_is = hands-as s (after_entry handles.moment s (Key path)) handles.root (next_of old + length (leaving h)) key
          (next_of old + length (calls_of_entry h (Key path))) (next_of new) (number-is key (next_of mid) number ∙ there)
          (accepts-length handles.moment (calls_of_entry h (Key path)) old new all);
    }
  where
    number-is : (n m : ℕ) → ◌≡◌ {A = Option ℕ} (Some n) (Some m) → n ≡ m
    number-is n m e = cc

-- ---- the whole of it

-- the root opened
pub hands-opened : (handles : Handles) (old mid : View) (reply : ChangeReply) → handles.key ≡ handles.root →
    ◌≡◌ {A = Option ℕ} (Some handles.root) (Some (next_of old)) → IsAccepted old mid 0 handles.moment (OpenRoot ALL_RIGHTS) reply →
    hands_of handles mid (begun old.keys.tree) ≡ opened old
hands-opened handles old mid reply same number a = by (number-is handles.root (next_of old) number)
  where
    number-is : (n m : ℕ) → ◌≡◌ {A = Option ℕ} (Some n) (Some m) → n ≡ m
    number-is n m e = cc

    by : handles.root ≡ next_of old → hands_of handles mid (begun old.keys.tree) ≡ opened old
    by is =
        let next : next_of mid ≡ next_of old + 1 =
        accepts-length handles.moment (OpenRoot ALL_RIGHTS ∷ []) old mid (accepts-one handles.moment (OpenRoot ALL_RIGHTS) old mid reply a) in
        rw (same, is, next) refl

-- its calls, from the root's opening to both handles' closing
pub import-made : (moment : ℕ) (old rooted last left new : View) (entries : List Entry) (h : Hands) (first reply : ChangeReply) →
    IsAccepted old rooted 0 moment (OpenRoot ALL_RIGHTS) first → AreEntriesMade moment (opened old) entries rooted last h →
    Accepts moment last (leaving h) left → IsAccepted left new 0 moment (Close h.root) reply → Accepts moment old (import_calls moment old entries) new
import-made moment old rooted last left new entries h first reply begins all leave ends =
    let close_it = λ (g : Hands). Close g.root ∷ [] in
    let end = accepts-all moment (leaving h) (close_it h) last left new leave (accepts-one moment (Close h.root) left new reply ends) in
    let same = subst (λ (g : Hands). Accepts moment last (leaving g ++ Close g.root ∷ []) new) all.last_is end in
    let g = hands_behind moment (opened old) entries in
    (rooted, first, begins, accepts-all moment (calls_of moment (opened old) entries) (leaving g ++ Close g.root ∷ []) rooted last new all.led same)
