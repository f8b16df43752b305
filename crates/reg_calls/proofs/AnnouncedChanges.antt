-- What is announced of each change is what its watches can tell apart.
use Rattle.std.proofs.Common.{◌≡◌, ◌≢◌, ◌⊎◌, inl, inr, ℕ, Bool, true, false, cond, List, [], ◌∷◌, ◌++◌, map, length, Option, Some, None, refl, sym, ap, ◌∙◌, subst}
use Rattle.std.specs.Prelude.{Result, Ok, Err, IfOk, ◌==◌}
use Rattle.std.proofs.lemmas.List.{append_assoc, length-map}
use Rattle.reg_names.specs.Names.{folded, path_of}
use Rattle.reg_heap.specs.Paths.{Path, Tree}
use Rattle.reg_heap.specs.Edits.{above, child_path, has_child, last_there, missing, is_within, is_under}
use Rattle.reg_model.specs.declared.filters.TheConstants.{NAME, LAST_SET, SECURITY}
use Rattle.reg_model.specs.declared.call.Change.{Change}
use Rattle.reg_model.specs.declared.call.Change.TheVariants.{OpenRoot, OpenKey, CreateKey, SetValue, DeleteValue, DeleteKey, DeleteTree, SetSecurity, Notify, Close}
use Rattle.reg_model.specs.Worlds.{Handle, look, path_at, path_from, same_path}
use Rattle.reg_model.specs.Watches.{Watch, Event, Ending, event_at, reason, few_ending, few_events, few_makings, few_removals, cleared, removes, closing, watch_of}
use Rattle.reg_model.specs.Calls.{entry_due}
use Rattle.reg_model.specs.Causes.{change_cause}
use Rattle.reg_model.proofs.AcceptedCalls.{Target, set-met, drop-met, secure-met}
use Rattle.reg_calls.specs.declared.store.Store.{Store}
use Rattle.reg_calls.specs.declared.announced.Announced.{Announced}
use Rattle.reg_calls.specs.declared.announced.Announced.TheVariants.{Nothing, Closes}
use Rattle.reg_calls.specs.declared.set_value.SetValue.{SetValue as ValueFound}
use Rattle.reg_calls.specs.declared.delete_value.DeleteValue.{DeleteValue as RemovalFound}
use Rattle.reg_calls.specs.declared.set_security.SetSecurity.{SetSecurity as SecurityFound}
use Rattle.reg_calls.specs.declared.open_root.OpenRoot.{OpenRoot as RootFound}
use Rattle.reg_calls.specs.declared.open_key.OpenKey.{OpenKey as KeyFound}
use Rattle.reg_calls.specs.declared.notify.Notify.{Notify as WatchFound}
use Rattle.reg_calls.specs.declared.changes.Admitted.{Admitted}
use Rattle.reg_calls.specs.declared.changes.Admitted.TheVariants.{OpenRoot as RootAdmitted, OpenKey as KeyAdmitted, Notify as WatchAdmitted}
use Rattle.reg_calls.specs.declared.changes.Admitted.TheVariants.{SetValue as SetAdmitted, DeleteValue as RemovalAdmitted, SetSecurity as SecurityAdmitted}
use Rattle.reg_calls.specs.Internal.Stores.{at, world_of, IsTarget}
use Rattle.reg_calls.specs.Internal.Admissions.{Admits}
use Rattle.reg_calls.specs.Internal.Announcements.{ending_in, HasKinds, IsAnnounced}
use Rattle.reg_calls.specs.Internal.QuietKeys.{IsOwnEvent}
use Rattle.reg_calls.proofs.FoundTrees.{has-names, from-nowhere}
use Rattle.reg_calls.proofs.StoreAfterChange.{with-names}
use Rattle.reg_calls.specs.declared.store.JournalEnd.{JournalEnd}
use Rattle.reg_calls.proofs.ToldWatches.{nothing-ends, Agree, agree-all}

-- ---- one event

-- an ending by one event, with the keys that are removed
abbrev pub ended : ℕ → Path → (Path → Bool) → ℕ → Ending
ended bits p gone by = record { by = by; events = event_at bits p ∷ []; removes = gone; closed = None }

-- the same, wherever the event and the keys are
pub ended-same : (bits : ℕ) (p q : Path) (gone past : Path → Bool) (by : ℕ) → p ≡ q → gone ≡ past → ended bits p gone by ≡ ended bits q past by
ended-same bits p q gone past by at keys = λ i. ended bits (at i) (keys i) by

no-watch : {A : Type 0} (v : Watch) → ◌≡◌ {A = Option Watch} None (Some v) → A
no-watch v e = absurd (cc)

pub if-both : {A E : Type 0} {P Q R : A → Type 0} → ((a : A) → P a → Q a → R a) → (r : Result A E) → IfOk r P → IfOk r Q → IfOk r R
if-both f (Ok a) p q = f a p q
if-both f (Err e) p q = p

-- a text has names
pub some-lost : (rest : List ℕ) (names : List (List ℕ)) → path_of rest ≡ names → rest ≢ [] → names ≢ []
some-lost rest names are some none = with-names rest some (are ∙ none)

pub target-of : (store : Store) (session h : ℕ) → Target (look session h store.handles.handles) → IsTarget store session h
target-of store session h t = record { handle = t.handle; path = t.path; found = t.found; destination = t.destination }

-- by the handle's number, as it is found and as it is given
pub announced-at : {E : Type 0} (store : Store) (session found h : ℕ) → found ≡ h → (bits : ℕ) (r : Result Announced E) →
    IfOk r (λ a. (by : ℕ) → ending_in a by ≡ ended bits (path_at session found store.handles.handles) (λ q. false) by) →
    IfOk r (λ a. (by : ℕ) → ending_in a by ≡ ended bits (path_at session h store.handles.handles) (λ q. false) by)
announced-at store session found h is bits r ends =
    subst (λ (x : ℕ). IfOk r (λ a. (by : ℕ) → ending_in a by ≡ ended bits (path_at session x store.handles.handles) (λ q. false) by)) is ends

module _ (n : JournalEnd) (store : Store) (session : ℕ) where
  abbrev hs : List Handle
  hs = store.handles.handles

  abbrev tree : Tree
  tree = store.tree.tree

  abbrev few : Change → ℕ → Ending
  few change moment = few_ending (world_of store) (entry_due (at n store) session moment change)

  abbrev asked : Change → ℕ → Option Watch
  asked change moment = watch_of (world_of store) (entry_due (at n store) session moment change)

  -- a change that asks for no watch
  module _ (change : Change) (asks : (moment : ℕ) → asked change moment ≡ None) where
    pub announced-as : (a : Announced) → HasKinds a → ((moment : ℕ) → ending_in a n.next ≡ few change moment) → IsAnnounced n store session change a
    announced-as a kinds ends = record {
      kinds = kinds;
      ends = λ moment. agree-all (ending_in a n.next) (few change moment) (λ v. ap (λ (x : Ending). reason x v) (ends moment)) store.watches.pending;
      spares = λ moment v is. no-watch v (sym (asks moment) ∙ is);
    }

    pub one-announced : {E : Type 0} (bits : ℕ) (p : Path) (gone : Path → Bool) → ((moment : ℕ) → few change moment ≡ ended bits p gone n.next) → (r : Result Announced E) → IfOk r HasKinds →
        IfOk r (λ a. (by : ℕ) → ending_in a by ≡ ended bits p gone by) → IfOk r (λ a. IsAnnounced n store session change a)
    one-announced bits p gone due = if-both (λ a kinds ends. announced-as a kinds (λ moment. ends n.next ∙ sym (due moment)))

  -- ---- nothing

  pub none-announced : (change : Change) → store.watches.pending ≡ [] → IsAnnounced n store session change Nothing
  none-announced change none = record {
    kinds = tt;
    ends = λ moment. subst (λ (vs : List Watch). Agree (ending_in Nothing n.next) (few change moment) vs) (sym none) tt;
    spares = λ moment v is. nothing-ends n.next v;
  }

  -- a change by which no watch at all is ended
  as-nothing : (change : Change) → ((moment : ℕ) → ending_in Nothing n.next ≡ few change moment) → IsAnnounced n store session change Nothing
  as-nothing change same = record {
    kinds = tt;
    ends = λ moment. agree-all (ending_in Nothing n.next) (few change moment) (λ v. ap (λ (x : Ending). reason x v) (same moment)) store.watches.pending;
    spares = λ moment v is. nothing-ends n.next v;
  }

  pub root-announced : (mask : ℕ) → IsAnnounced n store session (OpenRoot mask) Nothing
  unfolding few_ending few_events removes closing
  root-announced mask = as-nothing (OpenRoot mask) (λ moment. refl)

  pub open-announced : (h : ℕ) (path : List ℕ) (mask : ℕ) → IsAnnounced n store session (OpenKey h path mask) Nothing
  unfolding few_ending few_events removes closing
  open-announced h path mask = as-nothing (OpenKey h path mask) (λ moment. refl)

  pub notify-announced : (h filter : ℕ) (subtree : Bool) → IsAnnounced n store session (Notify h filter subtree) Nothing
  unfolding few_ending few_events removes closing
  notify-announced h filter subtree = as-nothing (Notify h filter subtree) (λ moment. refl)

  pub close-announced : (h : ℕ) → IsAnnounced n store session (Close h) (Closes h)
  unfolding few_ending few_events removes closing watch_of
  close-announced h = announced-as (Close h) (λ moment. refl) (Closes h) tt (λ moment. refl)

  -- ---- CreateKey

  -- the path of a key, from the last that is there on it
  from-there : (t : Tree) (p : Path) (names : List (List ℕ)) → p ++ map folded names ≡ last_there t p names ++ map folded (missing t p names)
  from-there t p [] = refl
  from-there t p (name ∷ names) = by (has_child t p name) (from-there t (child_path p name) names)
    where
      by : (b : Bool) → child_path p name ++ map folded names ≡ last_there t (child_path p name) names ++ map folded (missing t (child_path p name) names) →
          p ++ folded name ∷ map folded names ≡ cond b (last_there t (child_path p name) names) p ++ map folded (cond b (missing t (child_path p name) names) (name ∷ names))
      by true e = sym (append_assoc p (folded name ∷ []) (map folded names)) ∙ e
      by false e = refl

  module _ (h : ℕ) (path : List ℕ) (mask : ℕ) (given : Option (List ℕ)) where
    abbrev lost : List (List ℕ)
    lost = missing tree (path_at session h hs) (path_of path)

    abbrev last : Path
    last = last_there tree (path_at session h hs) (path_of path)

    -- no key is missing
    pub there-announced : lost ≡ [] → IsAnnounced n store session (CreateKey h path mask given) Nothing
    unfolding few_ending few_events removes closing
    there-announced none =
        as-nothing (CreateKey h path mask given) (λ moment. λ i. record { by = n.next; events = few_makings (sym none i) last; removes = λ q. false; closed = None })

    -- the place of the last one that is there, by the names that are missing behind it
    pub last-at : (text rest : List ℕ) → path_of text ≡ path_from session h hs path → path_of rest ≡ lost → (p : Path) →
        ((front behind : Path) → path_of text ≡ front ++ behind → length behind ≡ length (path_of rest) → p ≡ front) → p ≡ last
    last-at text rest names missed p cut =
        cut last (map folded lost) (names ∙ from-there tree (path_at session h hs) (path_of path)) (length-map lost folded ∙ ap (λ (ns : List (List ℕ)). length ns) (sym missed))

    pub made-announced : {E : Type 0} → lost ≢ [] → (p : Path) → p ≡ last → (r : Result Announced E) → IfOk r HasKinds →
        IfOk r (λ a. (by : ℕ) → ending_in a by ≡ ended NAME p (λ q. false) by) → IfOk r (λ a. IsAnnounced n store session (CreateKey h path mask given) a)
    unfolding few_ending few_events removes closing watch_of
    made-announced some p last_is =
        one-announced (CreateKey h path mask given) (λ moment. refl) NAME p (λ q. false) (λ moment. by lost some ∙ ended-same NAME last p (λ q. false) (λ q. false) n.next (sym last_is) refl)
      where
        by : (m : List (List ℕ)) → m ≢ [] → ◌≡◌ {A = Ending} (record { by = n.next; events = few_makings m last; removes = λ q. false; closed = None }) (ended NAME last (λ q. false) n.next)
        by [] some = absurd (some refl)
        by (x ∷ xs) some = refl

  -- ---- SetValue, DeleteValue, SetSecurity

  pub set-announced : {E : Type 0} (h : ℕ) (name : List ℕ) (kind : ℕ) (bytes : List ℕ) (r : Result Announced E) → IfOk r HasKinds →
      IfOk r (λ a. (by : ℕ) → ending_in a by ≡ ended LAST_SET (path_at session h hs) (λ q. false) by) → IfOk r (λ a. IsAnnounced n store session (SetValue h name kind bytes) a)
  unfolding few_ending few_events removes closing watch_of
  set-announced h name kind bytes =
      one-announced (SetValue h name kind bytes) (λ moment. refl) LAST_SET (path_at session h hs) (λ q. false) (λ moment. refl)

  pub drop-announced : {E : Type 0} (h : ℕ) (name : List ℕ) (r : Result Announced E) → IfOk r HasKinds →
      IfOk r (λ a. (by : ℕ) → ending_in a by ≡ ended LAST_SET (path_at session h hs) (λ q. false) by) → IfOk r (λ a. IsAnnounced n store session (DeleteValue h name) a)
  unfolding few_ending few_events removes closing watch_of
  drop-announced h name = one-announced (DeleteValue h name) (λ moment. refl) LAST_SET (path_at session h hs) (λ q. false) (λ moment. refl)

  pub secure-announced : {E : Type 0} (h : ℕ) (descriptor : List ℕ) (r : Result Announced E) → IfOk r HasKinds →
      IfOk r (λ a. (by : ℕ) → ending_in a by ≡ ended SECURITY (path_at session h hs) (λ q. false) by) → IfOk r (λ a. IsAnnounced n store session (SetSecurity h descriptor) a)
  unfolding few_ending few_events removes closing watch_of
  secure-announced h descriptor = one-announced (SetSecurity h descriptor) (λ moment. refl) SECURITY (path_at session h hs) (λ q. false) (λ moment. refl)

  -- ---- DeleteKey

  pub delete-announced : {E : Type 0} (h : ℕ) (path : List ℕ) (p key : Path) → p ≡ above (path_from session h hs path) → key ≡ path_from session h hs path →
      (r : Result Announced E) → IfOk r HasKinds → IfOk r (λ a. (by : ℕ) → ending_in a by ≡ ended NAME p (λ q. same_path q key) by) →
      IfOk r (λ a. IsAnnounced n store session (DeleteKey h path) a)
  unfolding few_ending few_events removes closing watch_of
  delete-announced h path p key above_is is =
      one-announced (DeleteKey h path) (λ moment. refl) NAME p (λ q. same_path q key) (λ moment. λ i. ended NAME (sym above_is i) (λ q. same_path q (sym is i)) n.next)

  -- ---- DeleteTree

  module _ (h : ℕ) (path : List ℕ) where
    abbrev gone : Bool → Path → Bool
    gone b q = cond b (is_under (path_at session h hs) q) (is_within (path_from session h hs path) q)

    abbrev happens : Bool → List Event
    happens b =
        cond b (few_removals tree (path_at session h hs) ++ cleared tree (path_at session h hs)) (event_at NAME (above (path_from session h hs path)) ∷ [])

    tree-ends : Bool → Ending
    tree-ends b = record { by = n.next; events = happens b; removes = gone b; closed = None }

    -- by a path that has names
    pub branch-announced : {E : Type 0} → path_of path ≢ [] → (p key : Path) → p ≡ above (path_from session h hs path) → key ≡ path_from session h hs path →
        (r : Result Announced E) → IfOk r HasKinds → IfOk r (λ a. (by : ℕ) → ending_in a by ≡ ended NAME p (is_within key) by) →
        IfOk r (λ a. IsAnnounced n store session (DeleteTree h path) a)
    unfolding few_ending few_events removes closing watch_of tree-ends
    branch-announced some p key above_is is =
        one-announced (DeleteTree h path) (λ moment. refl) NAME p (is_within key)
        (λ moment. ap tree-ends (has-names path some) ∙ (λ i. ended NAME (sym above_is i) (is_within (sym is i)) n.next))

    -- by the empty path
    pub contents-announced : {E : Type 0} → path ≡ [] → (p : Path) → p ≡ path_from session h hs path → (r : Result Announced E) → IfOk r HasKinds →
        IfOk r (λ a. (by : ℕ) → ending_in a by ≡ record { by = by; events = few_removals tree p ++ cleared tree p; removes = is_under p; closed = None }) →
        IfOk r (λ a. IsAnnounced n store session (DeleteTree h path) a)
    unfolding few_ending few_events removes closing watch_of tree-ends
    contents-announced none p is =
        if-both (λ a kinds ends. announced-as (DeleteTree h path) (λ moment. refl) a kinds (λ moment. ends n.next ∙ due))
      where
        own : p ≡ path_at session h hs
        own = is ∙ from-nowhere (path_at session h hs) path none

        due : ◌≡◌ {A = Ending} (record { by = n.next; events = few_removals tree p ++ cleared tree p; removes = is_under p; closed = None }) (tree-ends (length path == 0))
        due =
            (λ i. record { by = n.next; events = few_removals tree (own i) ++ cleared tree (own i); removes = is_under (own i); closed = None })
            ∙ ap tree-ends (ap (λ (x : List ℕ). length x == 0) (sym none))

-- ---- changes that are one event of their handle's key

module _ (n : JournalEnd) (store : Store) (session h : ℕ) where
  pub set-own : (name : List ℕ) (kind : ℕ) (bytes : List ℕ) → change_cause (at n store) session (SetValue h name kind bytes) 0 ≡ None →
      IsOwnEvent n store session (SetValue h name kind bytes) (record { handle = h; bits = LAST_SET })
  unfolding few_ending few_events removes closing watch_of
  set-own name kind bytes c =
      let m = set-met (at n store) session h name kind bytes 0 c in
      record { target = target-of store session h m.target; ends = λ moment. refl; asks = λ moment. refl }

  pub drop-own : (name : List ℕ) → change_cause (at n store) session (DeleteValue h name) 0 ≡ None →
      IsOwnEvent n store session (DeleteValue h name) (record { handle = h; bits = LAST_SET })
  unfolding few_ending few_events removes closing watch_of
  drop-own name c =
      let m = drop-met (at n store) session h name 0 c in
      record { target = target-of store session h m.target; ends = λ moment. refl; asks = λ moment. refl }

  pub secure-own : (descriptor : List ℕ) → change_cause (at n store) session (SetSecurity h descriptor) 0 ≡ None →
      IsOwnEvent n store session (SetSecurity h descriptor) (record { handle = h; bits = SECURITY })
  unfolding few_ending few_events removes closing watch_of
  secure-own descriptor c =
      let m = secure-met (at n store) session h descriptor 0 c in
      record { target = target-of store session h m.target; ends = λ moment. refl; asks = λ moment. refl }

-- the same, as they were admitted

module _ (end : JournalEnd) (store : Store) (session : ℕ) (change : Change) where
  pub set-admitted-own : (found : ValueFound) → Admits end store session change (SetAdmitted found) →
      IsOwnEvent end store session change (record { handle = found.handle; bits = LAST_SET })
  set-admitted-own found a =
      let at_found = subst (λ (h : ℕ). IsOwnEvent end store session (SetValue a.0 found.name.now found.kind found.bytes.now) (record { handle = h; bits = LAST_SET }))
      (sym a.2.by) (set-own end store session a.0 found.name.now found.kind found.bytes.now a.2.clear) in
      subst (λ (x : Change). IsOwnEvent end store session x (record { handle = found.handle; bits = LAST_SET })) (sym a.1) at_found

  pub drop-admitted-own : (found : RemovalFound) → Admits end store session change (RemovalAdmitted found) →
      IsOwnEvent end store session change (record { handle = found.handle; bits = LAST_SET })
  drop-admitted-own found a =
      let at_found = subst (λ (h : ℕ). IsOwnEvent end store session (DeleteValue a.0 a.1) (record { handle = h; bits = LAST_SET }))
      (sym a.3.by) (drop-own end store session a.0 a.1 a.3.clear) in
      subst (λ (x : Change). IsOwnEvent end store session x (record { handle = found.handle; bits = LAST_SET })) (sym a.2) at_found

  pub secure-admitted-own : (found : SecurityFound) → Admits end store session change (SecurityAdmitted found) →
      IsOwnEvent end store session change (record { handle = found.handle; bits = SECURITY })
  secure-admitted-own found a =
      let at_found = subst (λ (h : ℕ). IsOwnEvent end store session (SetSecurity a.0 found.descriptor.now) (record { handle = h; bits = SECURITY }))
      (sym a.2.by) (secure-own end store session a.0 found.descriptor.now a.2.clear) in
      subst (λ (x : Change). IsOwnEvent end store session x (record { handle = found.handle; bits = SECURITY })) (sym a.1) at_found

-- ---- changes that end no watch, as they were admitted

module _ (end : JournalEnd) (store : Store) (session : ℕ) (change : Change) where
  root-quiet : (found : RootFound) → Admits end store session change (RootAdmitted found) → IsAnnounced end store session change Nothing
  root-quiet found a = subst (λ (x : Change). IsAnnounced end store session x Nothing) (sym a.0) (root-announced end store session found.mask)

  open-quiet : (found : KeyFound) → Admits end store session change (KeyAdmitted found) → IsAnnounced end store session change Nothing
  open-quiet found a = subst (λ (x : Change). IsAnnounced end store session x Nothing) (sym a.2) (open-announced end store session a.0 a.1 found.mask)

  notify-quiet : (found : WatchFound) → Admits end store session change (WatchAdmitted found) → IsAnnounced end store session change Nothing
  notify-quiet found a = subst (λ (x : Change). IsAnnounced end store session x Nothing) (sym a.0) (notify-announced end store session found.handle found.filter found.subtree)

  pub quiet-announced : (admitted : Admitted) → Admits end store session change admitted →
      ((x : RootFound) × (admitted ≡ RootAdmitted x)) ⊎ (((x : KeyFound) × (admitted ≡ KeyAdmitted x)) ⊎ ((x : WatchFound) × (admitted ≡ WatchAdmitted x))) →
      IsAnnounced end store session change Nothing
  quiet-announced admitted a (inl is) = root-quiet is.0 (subst (Admits end store session change) is.1 a)
  quiet-announced admitted a (inr (inl is)) = open-quiet is.0 (subst (Admits end store session change) is.1 a)
  quiet-announced admitted a (inr (inr is)) = notify-quiet is.0 (subst (Admits end store session change) is.1 a)
