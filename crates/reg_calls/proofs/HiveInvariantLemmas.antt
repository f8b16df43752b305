-- A hive's tables are what its journal says, and stay so after one accepted change more.
use Rattle.std.proofs.Common.{◌≡◌, ℕ, ◌+◌, ◌<◌, ◌≤◌, Bool, true, false, not, nat_le, eqb, cond, is_some, List, [], ◌∷◌, ◌++◌, length, Option, Some, None, refl, sym, ap, ◌∙◌, subst, arith}
use Rattle.std.proofs.Common.{length-append, append_assoc, true≢false}
use Rattle.std.specs.Prelude.{All, Err, ◌==◌, get_or, slice_index_or}
use Rattle.std.specs.List.{AllByRecursion}
use Rattle.std.proofs.lemmas.List.{length-map}
use Rattle.std.proofs.lemmas.Bool.{false≢true}
use Rattle.std.proofs.lemmas.Bool.Decides.{nat_tests}
use Rattle.reg_heap.specs.Paths.{Path, Tree}
use Rattle.reg_model.specs.declared.limits.TheConstants.{HANDLES_LIMIT, JOURNAL_LIMIT, SESSIONS_LIMIT}
use Rattle.reg_model.specs.Worlds.{World, Handle, IsStanding, look, numbered, owned, closed, turned, path_at, path_from, without_branch, without_contents, after}
use Rattle.reg_model.specs.Causes.{State, change_cause, is_full, no_handle_room, handles_of}
use Rattle.reg_model.specs.Callbacks.{Callbacks, change_status}
use Rattle.reg_model.specs.Replies.{reply_to}
use Rattle.reg_model.specs.Calls.{entry_due, changes_keys}
use Rattle.reg_model.specs.Watches.{Watch, ending, few_ending, watch_of, pending_past, notices}
use Rattle.reg_model.specs.Histories.{state_of, replay, pending, fired, IsFit}
use Rattle.reg_model.specs.declared.notice.Notice.{Notice}
use Rattle.reg_model.specs.declared.reply.Entry.{Entry}
use Rattle.reg_model.specs.declared.reply.ChangeReply.{ChangeReply}
use Rattle.reg_model.specs.declared.call.Change.{Change}
use Rattle.reg_model.specs.declared.call.Change.TheVariants.{OpenRoot, OpenKey, CreateKey, SetValue, DeleteValue, DeleteKey, DeleteTree, SetSecurity, Notify, Close}
use Rattle.reg_model.proofs.JournalGrowth.{replay-push, legal-push, fired-push}
use Rattle.reg_model.proofs.PendingWatches.{watches-below, few-pending, few-fired}
use Rattle.reg_model.proofs.LegalJournals.{is_standing, handles-below}
use Rattle.reg_model.proofs.AcceptedCalls.{both_false, root-met, open-met, create-met, set-met, drop-met, delete-met, delete-tree-met, secure-met, notify-met, close-met}
use Rattle.reg_notify.specs.Tables.{told_to, taken_by}
use Rattle.reg_arena.specs.Arena.{IsSound}
use Rattle.reg_tree.specs.TreeKeys.{IsWholeTree}
use Rattle.reg_calls.specs.declared.store.Store.{Store}
use Rattle.reg_calls.specs.declared.store.JournalEnd.{JournalEnd}
use Rattle.reg_calls.specs.Internal.Stores.{at, world_of, IsReady, IsCarriedOut, IsUnchanged, IsMade}
use Rattle.reg_calls.specs.declared.lack.Lack.{Lack}
use Rattle.reg_calls.proofs.KnownKeys.{unmade}
use Rattle.reg_calls.specs.Shortages.{is_closing, growth_of}
use Rattle.reg_calls.specs.Views.{HiveInvariant, View, view_with, state, IsHive, IsAccepted, IsAppliedBy, IsApplied, before_of}

-- where a journal ends
abbrev pub ends_at : ℕ → List Entry → JournalEnd
ends_at base es = record { kept = length es; next = base + length es }

pub end-is : (end : JournalEnd) (base : ℕ) (es : List Entry) → end.kept ≡ length es → end.next ≡ base + length es → end ≡ ends_at base es
end-is end base es kept next = λ i. record { kept = kept i; next = next i }

-- the number after that of the last entry
pub one-more : (base : ℕ) (es : List Entry) (e : Entry) {all : List Entry} → all ≡ es ++ e ∷ [] → base + length es + 1 ≡ base + length all
one-more base es e more =
    let l = length-append es (e ∷ []) in
    let m = ap (λ (x : List Entry). length x) more in
    omega (arith, l, m)

-- ---- what is kept

pub world-kept : {origin : Tree} {base : ℕ} {before : List (List Notice)} {es : List Entry} {store : Store} {room : ℕ} → HiveInvariant origin base before es store room → world_of store ≡ replay origin es
world-kept kept = λ i. record { tree = kept.hive.tree i; handles = kept.hive.handles i }

pub state-kept : {origin : Tree} {base : ℕ} {before : List (List Notice)} {es : List Entry} {store : Store} {room : ℕ} → HiveInvariant origin base before es store room → state_of base origin es ≡ at (ends_at base es) store
state-kept {base = base} {es = es} kept = λ i. record { kept = length es; next = base + length es; world = sym (world-kept kept) i; pending = sym kept.hive.pending i }

-- the same at a hive's view
pub state-view : {origin : Tree} {base : ℕ} {before : List (List Notice)} {es : List Entry} {store : Store} {room : ℕ} (v : View) → HiveInvariant origin base before es store room →
    view_with origin base before es store ≡ v → state v ≡ at (ends_at base es) store
state-view v kept e = ap state (sym e) ∙ state-kept kept

pub ready-kept : {origin : Tree} {base : ℕ} {before : List (List Notice)} {es : List Entry} {store : Store} {room : ℕ} → HiveInvariant origin base before es store room → IsReady (ends_at base es) store
ready-kept {origin = origin} {base = base} {es = es} {store = store} kept = record {
  stand = subst (λ (w : World). IsStanding w.tree w.handles) (sym (world-kept kept)) (is_standing base origin es kept.hive.legal kept.hive.origin.root);
  below = subst (All (λ (h : Handle). h.number < base + length es)) (sym kept.hive.handles) (handles-below base origin es kept.hive.legal);
  watched = subst (All (λ (v : Watch). v.number < base + length es)) (sym kept.hive.pending) (watches-below base origin es kept.hive.legal);
  known = kept.known;
  small = kept.hive.small;
}

-- ---- how many handles there are after a change

owned-found : (session : ℕ) (o : Option Handle) → is_some (owned session o) ≡ true → is_some o ≡ true
owned-found session None e = absurd (false≢true e)
owned-found session (Some h) e = refl

closed-most : (number : ℕ) (hs : List Handle) → length (closed number hs) ≤ length hs
closed-most number [] = omega arith
closed-most number (h ∷ hs) = by (not (eqb h.number number)) (closed-most number hs)
  where
    by : (b : Bool) → length (closed number hs) ≤ length hs → length (cond b (h ∷ closed number hs) (closed number hs)) ≤ length (h ∷ hs)
    by true l = omega (arith, l)
    by false l = omega (arith, l)

closed-less : (number : ℕ) (hs : List Handle) → is_some (numbered number hs) ≡ true → length (closed number hs) + 1 ≤ length hs
closed-less number [] e = absurd (false≢true e)
closed-less number (h ∷ hs) e = by (eqb h.number number) e (closed-less number hs) (closed-most number hs)
  where
    by : (b : Bool) → is_some (cond b (Some h) (numbered number hs)) ≡ true →
        (is_some (numbered number hs) ≡ true → length (closed number hs) + 1 ≤ length hs) → length (closed number hs) ≤ length hs →
        length (cond (not b) (h ∷ closed number hs) (closed number hs)) + 1 ≤ length (h ∷ hs)
    by true e rest most = omega (arith, most)
    by false e rest most = let l = rest e in omega (arith, l)

-- a session's handle closed
closed-fewer : (session number : ℕ) (hs : List Handle) → is_some (look session number hs) ≡ true → length (closed number hs) + 1 ≤ length hs
closed-fewer session number hs e = closed-less number hs (owned-found session (numbered number hs) e)

not_full : (more : ℕ) (s : State) → is_full more s ≡ false → s.kept + more + length s.world.handles ≤ JOURNAL_LIMIT
not_full more s e = grind (arith, nat_tests, e)

-- the journal has room for the entry and the closings of all handles after it; one handle more is open at most, and one less
-- after a Close
record Fits (s : State) (change : Change) (hs : List Handle) : Type 0 where
  small : s.kept + 1 + length hs ≤ JOURNAL_LIMIT
  grown : length hs ≤ length s.world.handles + 1
  closing : is_closing change ≡ true → length hs + 1 ≤ length s.world.handles

fits-push : (s : State) (session : ℕ) (change : Change) (h : Handle) → is_closing change ≡ false → no_handle_room session s ≡ false → Fits s change (s.world.handles ++ h ∷ [])
fits-push s session change h opens room =
    let b = both_false (nat_le HANDLES_LIMIT (handles_of session s.world.handles)) (is_full 2 s) room in
    let f = not_full 2 s b.1 in
    let l = length-append s.world.handles (h ∷ []) in
    record { small = omega (arith, f, l); grown = omega (arith, l); closing = λ c. absurd (true≢false (sym c ∙ opens)) }

fits-same : (s : State) (change : Change) (hs : List Handle) → length hs ≡ length s.world.handles → is_closing change ≡ false → is_full 1 s ≡ false → Fits s change hs
fits-same s change hs same opens room =
    let f = not_full 1 s room in
    record { small = omega (arith, f, same); grown = omega (arith, same); closing = λ c. absurd (true≢false (sym c ∙ opens)) }

-- a whole tree deleted leaves as many handles
tree-length : (b : Bool) (w : World) (p q : Path) (moment : ℕ) → length (World.handles (cond b (without_contents w p moment) (without_branch w q moment))) ≡ length w.handles
tree-length true w p q moment = length-map w.handles _
tree-length false w p q moment = length-map w.handles _

fits : (s : State) (e : Entry) → s.kept + length s.world.handles ≤ JOURNAL_LIMIT → change_cause s e.session e.change 0 ≡ None → Fits s e.change (after s.world e).handles
unfolding after
fits s e small = elim e.change as (λ (change : Change). change_cause s e.session change 0 ≡ None → Fits s change (after s.world (record e { change = change })).handles) [
  | OpenRoot mask ↦ λ none. let m = root-met s e.session mask 0 none in fits-push s e.session (OpenRoot mask) _ refl m.room
  | OpenKey h path mask ↦ λ none. let m = open-met s e.session h path mask 0 none in fits-push s e.session (OpenKey h path mask) _ refl m.room
  | CreateKey h path mask given ↦ λ none. let m = create-met s e.session h path mask given 0 none in fits-push s e.session (CreateKey h path mask given) _ refl m.room
  | SetValue h name kind bytes ↦ λ none. let m = set-met s e.session h name kind bytes 0 none in fits-same s (SetValue h name kind bytes) s.world.handles refl refl m.room
  | DeleteValue h name ↦ λ none. let m = drop-met s e.session h name 0 none in fits-same s (DeleteValue h name) s.world.handles refl refl m.room
  | DeleteKey h path ↦ λ none. let m = delete-met s e.session h path 0 none in
      fits-same s (DeleteKey h path) (turned (path_from e.session h s.world.handles path) s.world.handles) (length-map s.world.handles _) refl m.room
  | DeleteTree h path ↦ λ none. let m = delete-tree-met s e.session h path 0 none in
      fits-same s (DeleteTree h path) _
      (tree-length (length path == 0) s.world (path_at e.session h s.world.handles) (path_from e.session h s.world.handles path) e.moment) refl m.room
  | SetSecurity h descriptor ↦ λ none. let m = secure-met s e.session h descriptor 0 none in
      fits-same s (SetSecurity h descriptor) s.world.handles refl refl m.room
  | Notify h filter subtree ↦ λ none. let m = notify-met s e.session h filter subtree 0 none in
      fits-same s (Notify h filter subtree) s.world.handles refl refl m.room
  | Close h ↦ λ none. let l = closed-fewer e.session h s.world.handles (close-met s e.session h 0 none) in
      record { small = omega (arith, small, l); grown = omega (arith, l); closing = λ c. l }
]

-- ---- one entry more

abbrev SessionsBelow : List Entry → Type 0
SessionsBelow es = AllByRecursion (λ (e : Entry). e.session < SESSIONS_LIMIT) es

sessions-push : (es : List Entry) (e : Entry) → SessionsBelow es → e.session < SESSIONS_LIMIT → SessionsBelow (es ++ e ∷ [])
sessions-push [] e b l = (l, tt)
sessions-push (x ∷ es) e b l = (b.0, sessions-push es e b.1 l)

-- what a session was told before the journal began
abbrev told_before : ℕ → List (List Notice) → ℕ → List Notice
told_before base before s = slice_index_or (before_of base before) s []

-- the entry that an accepted change becomes
abbrev pub entry_with : ℕ → List Entry → ℕ → ℕ → Change → ChangeReply → Entry
entry_with base es session moment change told = record { number = base + length es; session = session; moment = moment; change = change; reply = told }

-- where so much room is kept, the journal's room lasts: two more than there are handles, or for a Close as many
abbrev pub HasRoom : ℕ → Store → Change → Type 0
HasRoom room store change = (is_closing change ≡ false → length store.handles.handles + 2 ≤ room) × (is_closing change ≡ true → length store.handles.handles ≤ room)

module _ {origin : Tree} {base : ℕ} {before : List (List Notice)} {es : List Entry} {store : Store} {room : ℕ} (kept : HiveInvariant origin base before es store room) (session moment : ℕ) (change : Change)
    (none : change_cause (at (ends_at base es) store) session change 0 ≡ None)
    (new : Store) (told : ChangeReply) (done : IsCarriedOut store new session moment (ends_at base es) change told) where
  abbrev e : Entry
  e = entry_with base es session moment change told

  due : e ≡ entry_due (at (ends_at base es) store) session moment change
  due = ap (λ (r : ChangeReply). entry_with base es session moment change r) done.reply

  pub fit-done : IsFit base origin es e
  fit-done = record {
    number = refl;
    accepted = subst (λ (s : State). change_cause s session change 0 ≡ None) (sym (state-kept kept)) none;
    reply = done.reply ∙ ap (λ (s : State). reply_to s session change) (sym (state-kept kept));
  }

  world-done : world_of new ≡ replay origin (es ++ e ∷ [])
  world-done = done.world ∙ (ap (after (world_of store)) (sym due) ∙ (ap (λ (w : World). after w e) (world-kept kept) ∙ sym (replay-push origin es e)))

  -- the watches
  pending-done : new.watches.pending ≡ pending origin (es ++ e ∷ [])
  pending-done =
      done.watches.pending
      ∙ ((λ i. pending_past (few_ending (world-kept kept i) (sym due i)) (watch_of (world-kept kept i) (sym due i)) (kept.hive.pending i))
      ∙ sym (few-pending base origin es e kept.hive.origin kept.hive.legal fit-done))

  told-done : (s : ℕ) → told_to new.watches s ≡ told_before base before s ++ fired origin (es ++ e ∷ []) s
  told-done s =
      done.watches.told s
      ∙ ((λ i. kept.hive.told s i ++ notices s (few_ending (world-kept kept i) (sym due i)) (kept.hive.pending i))
      ∙ (append_assoc (told_before base before s) (fired origin es s) (notices s (few_ending (replay origin es) e) (pending origin es))
      ∙ ap (λ (ns : List Notice). told_before base before s ++ ns) (sym (few-fired base origin es e s kept.hive.origin kept.hive.legal fit-done))))

  taken-done : (s : ℕ) → taken_by new.watches s ≤ length (told_before base before s ++ fired origin (es ++ e ∷ []) s)
  taken-done s =
      let same = ap (λ (taken : List ℕ). get_or taken s 0) done.watches.taken in
      let most = kept.hive.taken s in
      let was = length-append (told_before base before s) (fired origin es s) in
      let now = length-append (told_before base before s) (fired origin (es ++ e ∷ []) s) in
      let more = ap (λ (told : List Notice). length told) (fired-push origin es e s) in
      let both = length-append (fired origin es s) (notices s (ending (replay origin es) e) (pending origin es)) in
      omega (arith, same, most, was, now, more, both)

  fits-done : Fits (at (ends_at base es) store) change new.handles.handles
  fits-done =
      let f = fits (at (ends_at base es) store) (entry_due (at (ends_at base es) store) session moment change) kept.hive.small none in
      subst (λ (w : World). Fits (at (ends_at base es) store) change w.handles) (sym done.world) f

  by_closing : (P : Type 0) → (is_closing change ≡ true → P) → (is_closing change ≡ false → P) → P
  by_closing P yes_closing not_closing = by (is_closing change) refl
    where
      by : (b : Bool) → is_closing change ≡ b → P
      by true c = yes_closing c
      by false c = not_closing c

  -- room for the entry
  pub append-room : (room' : ℕ) → HasRoom room' store change → 0 < room'
  append-room room' h =
      by_closing (0 < room') (λ c. let f = fits-done in let l = f.closing c in let r = h.1 c in omega (arith, l, r)) (λ c. let r = h.0 c in omega (arith, r))

  -- the hive after it, whose cells are sound and whole
  pub kept-done : (room' room'' : ℕ) → session < SESSIONS_LIMIT → IsSound new.tree.bins.bytes new.tree.bins.heads →
      IsWholeTree new.tree.bins.bytes new.tree.root new.tree.tree → HasRoom room' store change → room' ≤ room'' + 1 →
      HiveInvariant origin base before (es ++ e ∷ []) new room''
  kept-done room' room'' below sound whole h used =
      let f = fits-done in
      let l = length-append es (e ∷ []) in
      let small = f.small in
      record {
        hive = record {
          origin = kept.hive.origin;
          limits = kept.hive.limits;
          legal = legal-push base origin es e kept.hive.legal fit-done;
          sessions = sessions-push es e kept.hive.sessions below;
          small = omega (arith, small, l);
          tree = ap (λ (w : World). w.tree) world-done;
          handles = ap (λ (w : World). w.handles) world-done;
          pending = pending-done;
          told = told-done;
          taken = taken-done;
          sound = sound;
          whole = whole;
        };
        room_kept = by_closing (length new.handles.handles ≤ room'') (λ c. let x = f.closing c in let r = h.1 c in
            omega (arith, x, r, used)) (λ c. let g = f.grown in let r = h.0 c in omega (arith, g, r, used));
        known = done.known;
      }

-- ---- no entry more

-- a change that isn't made leaves the hive, save that more room may be kept
pub view-unchanged : {store new : Store} (origin : Tree) (base : ℕ) (before : List (List Notice)) (es : List Entry) → IsUnchanged store new →
    view_with origin base before es new ≡ view_with origin base before es store
view-unchanged origin base before es u = λ i. record { origin = origin; base = base; before = before_of base before; journal = es; keys = u.tree i; handles = u.handles i; watches = u.watches i }

pub kept-unchanged : {origin : Tree} {base : ℕ} {before : List (List Notice)} {es : List Entry} {store : Store} {room : ℕ} → HiveInvariant origin base before es store room → (new : Store) (room' : ℕ) →
    IsUnchanged store new → room ≤ room' → HiveInvariant origin base before es new room'
kept-unchanged {origin = origin} {base = base} {before = before} {es = es} kept new room' u more =
    let handles = ap (λ (hs : List Handle). length hs) u.handles in
    let few = kept.room_kept in
    record { hive = subst IsHive (sym (view-unchanged origin base before es u)) kept.hive; room_kept = omega (arith, handles, few, more); known = u.known }

-- the same by a journal that is the same
pub kept-at : {origin : Tree} {base : ℕ} {before : List (List Notice)} {es : List Entry} {store : Store} {room : ℕ} (base' : ℕ) (es' : List Entry) → base' ≡ base → es' ≡ es →
    HiveInvariant origin base before es store room → HiveInvariant origin base' before es' store room
kept-at {origin = origin} {before = before} {es = es} {store = store} {room = room} base' es' same_base same kept =
    subst (λ (x : List Entry). HiveInvariant origin base' before x store room) (sym same)
    (subst (λ (b : ℕ). HiveInvariant origin b before es store room) (sym same_base) kept)

pub view-at : (origin : Tree) (before : List (List Notice)) (store : Store) {base base' : ℕ} {es es' : List Entry} → base' ≡ base → es' ≡ es →
    view_with origin base' before es' store ≡ view_with origin base before es store
view-at origin before store same_base same = λ i. view_with origin (same_base i) before (same i) store

-- where the journal begins with the first entry of all, nobody was told anything before it
pub began-at : (origin : Tree) (base : ℕ) (before : List (List Notice)) (es : List Entry) (store : Store) (v : View) → view_with origin base before es store ≡ v →
    v.base ≡ 0 → (s : ℕ) → slice_index_or v.before s [] ≡ []
began-at origin base before es store v is first s =
    subst (λ (w : View). w.base ≡ 0 → slice_index_or w.before s [] ≡ []) is (λ z. ap (λ (n : ℕ). slice_index_or (before_of n before) s []) z) first

-- room is kept for more
pub kept-roomier : {origin : Tree} {base : ℕ} {before : List (List Notice)} {es : List Entry} {store : Store} {room : ℕ} → HiveInvariant origin base before es store room →
    (base' : ℕ) (es' : List Entry) (room' : ℕ) → base' ≡ base → es' ≡ es → room ≤ room' → HiveInvariant origin base' before es' store room'
kept-roomier kept base' es' room' same_base same more =
    let few = kept.room_kept in
    kept-at base' es' same_base same (record { hive = kept.hive; room_kept = omega (arith, few, more); known = kept.known })

-- the same as the call names its steps
pub kept-unmade : {origin : Tree} {base : ℕ} {before : List (List Notice)} {es : List Entry} {store : Store} {room : ℕ} → HiveInvariant origin base before es store room → (new : Store) (base' : ℕ) (es' : List Entry) (room' : ℕ) →
    (session moment : ℕ) (n : JournalEnd) (change : Change) (lack : Lack) → IsMade store new session moment n change (Err lack) → base' ≡ base → es' ≡ es → room ≤ room' →
    HiveInvariant origin base' before es' new room'
kept-unmade kept new base' es' room' session moment n change lack made same_base same more =
    kept-at base' es' same_base same (kept-unchanged kept new room' (unmade _ new session moment n change lack made) more)

-- ---- what a change is answered

-- a change that was made is accepted
pub accepted : {origin : Tree} {base : ℕ} {before : List (List Notice)} {es : List Entry} {store : Store} {room : ℕ} (kept : HiveInvariant origin base before es store room) (v new : View) →
    view_with origin base before es store ≡ v → (session moment : ℕ) (change : Change) (told : ChangeReply) →
    told ≡ reply_to (at (ends_at base es) store) session change → new.journal ≡ es ++ entry_with base es session moment change told ∷ [] → new.origin ≡ origin → new.base ≡ base → new.before ≡ before_of base before →
    new.watches.taken ≡ store.watches.taken → (changes_keys change told ≡ false → new.keys ≡ store.tree) →
    length store.tree.bins.bytes ≤ length new.keys.bins.bytes →
    length new.keys.bins.bytes ≤ length store.tree.bins.bytes + growth_of change → IsHive new → IsAccepted v new session moment change told
accepted {origin = origin} {base = base} {before = before} {es = es} {store = store} kept v new view_is session moment change told reply journal same same_base same_before taken kept_keys kept_bins grows hive =
    let says = reply ∙ ap (λ (s : State). reply_to s session change) (sym (state-kept kept)) in
    subst (λ (w : View). IsAccepted w new session moment change told) view_is (record {
      says = says;
      journal = journal ∙ ap (λ (r : ChangeReply). es ++ entry_with base es session moment change r ∷ []) says;
      origin = same;
      base = same_base;
      before = same_before;
      taken = taken;
      kept_keys = kept_keys;
      kept = kept_bins;
      grows = grows;
      hive = hive;
    })

-- the cause decides what is answered
pub applied-by : (callbacks : Callbacks) (v new : View) (session moment : ℕ) (change : Change) (reply : ChangeReply) (n : JournalEnd) (store : Store) (o : Option ℕ) → state v ≡ at n store →
    o ≡ change_cause (at n store) session change (change_status callbacks (world_of store) session moment change) →
    IsAppliedBy o v new session moment change reply → IsApplied callbacks v new session moment change reply
applied-by callbacks v new session moment change reply n store o is cause by =
    subst (λ (x : Option ℕ). IsAppliedBy x v new session moment change reply)
    (cause ∙ ap (λ (s : State). change_cause s session change (change_status callbacks s.world session moment change)) (sym is)) by
