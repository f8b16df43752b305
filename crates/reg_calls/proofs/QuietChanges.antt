-- What is remembered of events that hit no watch stays so, until a watch is asked for.
use Rattle.std.proofs.Common.{◌≡◌, ◌⊎◌, inl, inr, ℕ, ◌+◌, ◌<◌, ◌≤◌, Bool, true, false, not, cond, is_some, List, [], ◌∷◌, ◌++◌, length, filter, Option, Some, None, refl, sym, ap, ◌∙◌, subst, arith}
use Rattle.std.proofs.Common.{length-append}
use Rattle.std.specs.Prelude.{option_to_list}
use Rattle.std.specs.List.{AllByRecursion, list_any}
use Rattle.std.proofs.lemmas.Bool.{false≢true}
use Rattle.std.proofs.lemmas.List.{append-nil}
use Rattle.reg_heap.specs.Paths.{Path}
use Rattle.reg_model.specs.declared.call.Change.{Change}
use Rattle.reg_model.specs.declared.call.Change.TheVariants.{OpenRoot, OpenKey, CreateKey, SetValue, DeleteValue, DeleteKey, DeleteTree, SetSecurity, Notify, Close}
use Rattle.reg_model.specs.declared.notice.Reason.TheVariants.{Matched}
use Rattle.reg_model.specs.declared.reply.Entry.{Entry}
use Rattle.reg_model.specs.declared.reply.ChangeReply.{ChangeReply}
use Rattle.reg_model.specs.Worlds.{World, Handle, after, path_at}
use Rattle.reg_model.specs.Watches.{Watch, Event, Ending, event_at, is_hit, few_ending, few_events, removes, closing, watch_of, reason, stays}
use Rattle.reg_model.specs.Calls.{entry_due}
use Rattle.reg_calls.specs.declared.store.Store.{Store}
use Rattle.reg_calls.specs.declared.quiet.Quiet.{Quiet}
use Rattle.reg_calls.specs.declared.quiet.OwnEvent.{OwnEvent}
use Rattle.reg_calls.specs.declared.announced.Announced.TheVariants.{Nothing}
use Rattle.reg_calls.specs.Internal.Stores.{at, world_of, IsReady, IsCarriedOut}
use Rattle.reg_calls.specs.Internal.Announcements.{ending_in, IsAnnounced}
use Rattle.reg_calls.specs.Internal.QuietKeys.{Remembers, HitsNone, LeadsTo, IsUnhit, AreUnhit, IsOwnEvent}
use Rattle.reg_calls.proofs.HandlesLead.{lead-before, leads-here, path-led, opened-before}
use Rattle.reg_calls.proofs.AnnouncedChanges.{ended}
use Rattle.reg_calls.specs.declared.store.JournalEnd.{JournalEnd}
use Rattle.reg_calls.proofs.ToldWatches.{Agree, nothing-ends}

-- ---- lists that are filtered

left-none : (x : Event) (test : Watch → Bool) (vs : List Watch) → HitsNone x vs → HitsNone x (filter test vs)
left-none x test [] none = tt
left-none x test (v ∷ vs) none = by (test v) (left-none x test vs none.1)
  where
    by : (b : Bool) → HitsNone x (filter test vs) → HitsNone x (cond b (v ∷ filter test vs) (filter test vs))
    by true rest = (none.0, rest)
    by false rest = rest

left-most : (test : Watch → Bool) (vs : List Watch) → length (filter test vs) ≤ length vs
left-most test [] = omega arith
left-most test (v ∷ vs) = by (test v) (left-most test vs)
  where
    by : (b : Bool) → length (filter test vs) ≤ length vs → length (cond b (v ∷ filter test vs) (filter test vs)) ≤ length (v ∷ vs)
    by true most = omega (arith, most)
    by false most = omega (arith, most)

-- where none is left out, all pass
all-left : (test : Watch → Bool) (vs : List Watch) → length (filter test vs) ≡ length vs → AllByRecursion (λ (v : Watch). test v ≡ true) vs
all-left test [] e = tt
all-left test (v ∷ vs) e = by (test v) refl e (all-left test vs)
  where
    by : (b : Bool) → test v ≡ b → length (cond b (v ∷ filter test vs) (filter test vs)) ≡ length (v ∷ vs) →
        (length (filter test vs) ≡ length vs → AllByRecursion (λ (v : Watch). test v ≡ true) vs) → AllByRecursion (λ (v : Watch). test v ≡ true) (v ∷ vs)
    by true is e rest = (is, rest (omega (arith, e)))
    by false is e rest = let most = left-most test vs in absurd (omega (arith, e, most))

-- and where all pass, none is left out
left-all : (test : Watch → Bool) → ((v : Watch) → test v ≡ true) → (vs : List Watch) → filter test vs ≡ vs
left-all test all [] = refl
left-all test all (v ∷ vs) = rw (all v, left-all test all vs) refl

-- ---- one event

-- it ends no watch that it doesn't hit
unhit-stays : (bits : ℕ) (p : Path) (n : ℕ) (v : Watch) → is_hit v (event_at bits p) ≡ false → reason (ended bits p (λ q. false) n) v ≡ None
unfolding reason
unhit-stays bits p n v e = rw e refl

-- and hits none that it doesn't end
stays-unhit : (bits : ℕ) (p : Path) (n : ℕ) (v : Watch) → stays (ended bits p (λ q. false) n) v ≡ true → is_hit v (event_at bits p) ≡ false
unfolding reason
stays-unhit bits p n v = by (is_hit v (event_at bits p)) refl
  where
    by : (b : Bool) → is_hit v (event_at bits p) ≡ b → not (is_some (cond (list_any (is_hit v) (event_at bits p ∷ [])) (Some Matched) None)) ≡ true → is_hit v (event_at bits p) ≡ false
    by true e stays = absurd (false≢true (sym (rw e refl) ∙ stays))
    by false e stays = e

unhit-all : (bits : ℕ) (p : Path) (n : ℕ) (vs : List Watch) → AllByRecursion (λ (v : Watch). stays (ended bits p (λ q. false) n) v ≡ true) vs → HitsNone (event_at bits p) vs
unhit-all bits p n [] all = tt
unhit-all bits p n (v ∷ vs) all = (stays-unhit bits p n v all.0, unhit-all bits p n vs all.1)

agree-unhit : (bits : ℕ) (p : Path) (n : ℕ) (vs : List Watch) → HitsNone (event_at bits p) vs → Agree (ending_in Nothing n) (ended bits p (λ q. false) n) vs
agree-unhit bits p n [] none = tt
agree-unhit bits p n (v ∷ vs) none = (nothing-ends n v ∙ sym (unhit-stays bits p n v none.0), agree-unhit bits p n vs none.1)

-- a change that asks for a watch ends none
asks-alone : (w : World) (e : Entry) (v : Watch) → watch_of w e ≡ Some v → (u : Watch) → stays (few_ending w e) u ≡ true
unfolding watch_of few_ending few_events removes closing reason
asks-alone w e v = elim e.change as (λ (change : Change). watch_of w (record e { change = change }) ≡ Some v → (u : Watch) → stays (few_ending w (record e { change = change })) u ≡ true) [
  | OpenRoot mask ↦ λ is u. absurd (cc)
  | OpenKey h path mask ↦ λ is u. absurd (cc)
  | CreateKey h path mask given ↦ λ is u. absurd (cc)
  | SetValue h name kind bytes ↦ λ is u. absurd (cc)
  | DeleteValue h name ↦ λ is u. absurd (cc)
  | DeleteKey h path ↦ λ is u. absurd (cc)
  | DeleteTree h path ↦ λ is u. absurd (cc)
  | SetSecurity h descriptor ↦ λ is u. absurd (cc)
  | Notify h filter subtree ↦ λ is u. refl
  | Close h ↦ λ is u. absurd (cc)
]

-- ---- an event that is remembered

pub remembered-announced : (n : JournalEnd) (store : Store) (session : ℕ) (change : Change) (q : Quiet) (event : OwnEvent) (number : ℕ) → Remembers q event.handle event.bits number → AreUnhit n.next store q →
    IsOwnEvent n store session change event → IsAnnounced n store session change Nothing
remembered-announced n store session change q event number r unhit own =
    let p = path_at session event.handle store.handles.handles in
    let none = (unhit event.handle event.bits number r).none p (leads-here n store session event.handle own.target) in
    record {
      kinds = tt;
      ends = λ moment. subst (λ (x : Ending). Agree (ending_in Nothing n.next) x store.watches.pending) (sym (own.ends moment)) (agree-unhit event.bits p n.next store.watches.pending none);
      spares = λ moment v is. nothing-ends n.next v;
    }

-- ---- what is remembered after a change

-- where handles lead and what is pending is the same
pub unhit-same : (n : ℕ) (old new : Store) (q : Quiet) → new.handles.handles ≡ old.handles.handles → new.watches.pending ≡ old.watches.pending → AreUnhit n old q → AreUnhit n new q
unhit-same n old new q handles pending unhit = λ handle bits number r.
    let u = unhit handle bits number r in
    record {
      past = u.past;
      opened = u.opened;
      none = λ p l. subst (HitsNone (event_at bits p)) (sym pending) (u.none p (subst (λ (hs : List Handle). LeadsTo hs handle p) handles l));
    }

-- the journal is the same
pub unhit-at : (store : Store) (q : Quiet) {base base' : ℕ} {es es' : List Entry} → base' ≡ base → es' ≡ es →
    AreUnhit (base + length es) store q → AreUnhit (base' + length es') store q
unhit-at store q {base' = base'} {es = es} same_base same unhit =
    subst (λ (x : List Entry). AreUnhit (base' + length x) store q) (sym same) (subst (λ (b : ℕ). AreUnhit (b + length es) store q) (sym same_base) unhit)

module _ (n : JournalEnd) (old new : Store) (session moment : ℕ) (change : Change) (told : ChangeReply) (ready : IsReady n old) (done : IsCarriedOut old new session moment n change told) where
  abbrev e : Entry
  e = entry_due (at n old) session moment change

  abbrev x : Ending
  x = few_ending (world_of old) e

  abbrev left : List Watch
  left = filter (stays x) old.watches.pending

  -- a watch was asked for, and there is one more
  asked-more : (v : Watch) → watch_of (world_of old) e ≡ Some v → length old.watches.pending < length new.watches.pending
  asked-more v is =
      let all = left-all (stays x) (asks-alone (world_of old) e v is) old.watches.pending in
      let now = ap (λ (vs : List Watch). length vs) (done.watches.pending ∙ (λ i. all i ++ option_to_list (is i))) in
      let l = length-append old.watches.pending (v ∷ []) in
      omega (arith, now, l)

  -- none was
  asked-none : length new.watches.pending ≤ length old.watches.pending → new.watches.pending ≡ left
  asked-none most = by (watch_of (world_of old) e) refl
    where
      by : (o : Option Watch) → watch_of (world_of old) e ≡ o → new.watches.pending ≡ left
      by None is = done.watches.pending ∙ (λ i. left ++ option_to_list (is i)) ∙ append-nil left
      by (Some v) is = let more = asked-more v is in absurd (omega (arith, more, most))

  leads-old : (h : ℕ) (p : Path) → h < n.next → LeadsTo new.handles.handles h p → LeadsTo old.handles.handles h p
  leads-old h p below l =
      lead-before (world_of old) e h p below (subst (λ (w : World). LeadsTo w.handles h p) done.world l)

  -- what was remembered before
  still-unhit : (h bits number : ℕ) → IsUnhit old n.next h bits number → length new.watches.pending ≤ length old.watches.pending → IsUnhit new (n.next + 1) h bits number
  still-unhit h bits number u most =
      let past = u.past in
      let opened = u.opened in
      record {
        past = omega (arith, past);
        opened = omega (arith, opened);
        none = λ p l. subst (HitsNone (event_at bits p)) (sym (asked-none most)) (left-none (event_at bits p) (stays x) old.watches.pending (u.none p (leads-old h p opened l)));
      }

  -- the change's own event
  own-unhit : (event : OwnEvent) → IsOwnEvent n old session change event → length old.watches.pending ≡ length new.watches.pending → IsUnhit new (n.next + 1) event.handle event.bits n.next
  own-unhit event own same =
      let most : length new.watches.pending ≤ length old.watches.pending = omega (arith, same) in
      let opened = opened-before n old session event.handle own.target ready in
      let here = path_at session event.handle old.handles.handles in
      let all = all-left (stays x) old.watches.pending (ap (λ (vs : List Watch). length vs) (sym (asked-none most)) ∙ sym same) in
      let none : HitsNone (event_at event.bits here) old.watches.pending =
      unhit-all event.bits here n.next old.watches.pending (subst (λ (y : Ending). AllByRecursion (λ (v : Watch). stays y v ≡ true) old.watches.pending) (own.ends moment) all) in
      record {
        past = omega arith;
        opened = omega (arith, opened);
        none = λ p l.
            let is = path-led n old session event.handle own.target p (leads-old event.handle p opened l) in
            subst (HitsNone (event_at event.bits p)) (sym (asked-none most))
            (left-none (event_at event.bits p) (stays x) old.watches.pending (subst (λ (q : Path). HitsNone (event_at event.bits q) old.watches.pending) (sym is) none));
      }

  pub quiet-follows : (q q' : Quiet) (event : OwnEvent) (before after : ℕ) → AreUnhit n.next old q → (0 < event.bits → IsOwnEvent n old session change event) →
      before ≡ length old.watches.pending → after ≡ length new.watches.pending →
      ((handle bits number : ℕ) → Remembers q' handle bits number →
      (Remembers q handle bits number × ((after ≤ before) ⊎ (n.next ≤ number))) ⊎ ((before ≡ after) × (0 < bits) × (handle ≡ event.handle) × (bits ≡ event.bits) × (number ≡ n.next))) →
      AreUnhit (n.next + 1) new q'
  quiet-follows q q' event before after unhit own was now follows = λ handle bits number r. by handle bits number (follows handle bits number r)
    where
      by : (handle bits number : ℕ) →
          (Remembers q handle bits number × ((after ≤ before) ⊎ (n.next ≤ number))) ⊎ ((before ≡ after) × (0 < bits) × (handle ≡ event.handle) × (bits ≡ event.bits) × (number ≡ n.next)) →
          IsUnhit new (n.next + 1) handle bits number
      by handle bits number (inl f) = kept (unhit handle bits number f.0) f.1
        where
          kept : IsUnhit old n.next handle bits number → (after ≤ before) ⊎ (n.next ≤ number) → IsUnhit new (n.next + 1) handle bits number
          kept u (inl most) = still-unhit handle bits number u (omega (arith, most, was, now))
          kept u (inr late) = let past = u.past in absurd (omega (arith, late, past))
      by handle bits number (inr f) =
          let same : length old.watches.pending ≡ length new.watches.pending = sym was ∙ f.0 ∙ now in
          let some : 0 < event.bits = subst (λ (b : ℕ). 0 < b) f.3 f.1 in
          let done_so = own-unhit event (own some) same in
          subst (λ (t : ℕ). IsUnhit new (n.next + 1) handle bits t) (sym f.4)
          (subst (λ (b : ℕ). IsUnhit new (n.next + 1) handle b n.next) (sym f.3) (subst (λ (k : ℕ). IsUnhit new (n.next + 1) k event.bits n.next) (sym f.2) done_so))
