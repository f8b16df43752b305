-- The watches that are pending after a legal journal: whose they are, where they are, how many they are, and that few events tell them apart.
use Rattle.std.proofs.Common.{◌≡◌, ℕ, ◌+◌, ◌<◌, ◌≤◌, nat_le, Bool, true, false, not, cond, eqb, ◌==◌, List, [], ◌∷◌, ◌++◌, length, map, filter, Option}
use Rattle.std.proofs.Common.{Some, None, is_some}
use Rattle.std.proofs.Common.{refl, sym, ap, ◌∙◌, subst, arith, length-append}
use Rattle.std.specs.Prelude.{IsSome, option_to_list}
use Rattle.std.specs.List.{All, AllByRecursion, list_any}
use Rattle.std.specs.List.Sorted.{IsStrictlyIncreasing, IsStrictlySortedBy}
use Rattle.std.specs.Ordering.{nat_cmp}
use Rattle.std.specs.declared.cmp.Ordering.TheVariants.{Less as Lesser}
use Rattle.std.specs.FinMap.{get}
use Rattle.std.proofs.lemmas.Bool.{eqb-true, eq-eqb, ne_eqb, false≢true}
use Rattle.std.proofs.lemmas.Bool.Decides.{nat_tests}
use Rattle.std.proofs.lemmas.List.Elements.{All-from_recursion}
use Rattle.std.proofs.lemmas.Map.Keys.{IsStrictlyIncreasing-from_sorted}
use Rattle.reg_heap.specs.Paths.{Path, Tree}
use Rattle.reg_heap.specs.Edits.{is_within, is_under}
use Rattle.reg_heap.specs.Trees.{IsTree}
use Rattle.reg_model.specs.declared.limits.TheConstants.{WATCHES_LIMIT}
use Rattle.reg_model.specs.declared.call.Change.{Change}
use Rattle.reg_model.specs.declared.call.Change.TheVariants.{OpenRoot, OpenKey, CreateKey, SetValue, DeleteValue, DeleteKey, DeleteTree, SetSecurity}
use Rattle.reg_model.specs.declared.call.Change.TheVariants.{Notify, Close}
use Rattle.reg_model.specs.declared.notice.Notice.{Notice}
use Rattle.reg_model.specs.declared.notice.Reason.{Reason}
use Rattle.reg_model.specs.declared.notice.Reason.TheVariants.{Matched, Gone, Closed}
use Rattle.reg_model.specs.declared.reply.Entry.{Entry}
use Rattle.reg_model.specs.Worlds.{World, Handle, At, Deleted, StandsIn, after, opened, closed, destination_past, turned_past, same_path, numbered, look}
use Rattle.reg_model.specs.Worlds.{path_at, path_from}
use Rattle.reg_model.specs.Causes.{State, change_cause, watches_of}
use Rattle.reg_model.specs.Watches.{Watch, IsWatching, Ending, ending, few_ending, removes, closing, is_closed, watch_of, is_hit, reason, stays}
use Rattle.reg_model.specs.Watches.{pending_past, notice_for, notice_to, notices}
use Rattle.reg_model.specs.Histories.{replay, state_of, pending, fired, IsFit, IsLegal}
use Rattle.reg_model.proofs.JournalGrowth.{replay-push, pending-push, fired-push}
use Rattle.reg_model.proofs.AcceptedCalls.{Target, target-path, notify-met}
use Rattle.reg_model.proofs.HandleInvariant.{Has}
use Rattle.reg_model.proofs.HandlesUntilClosed.{found, numbered-more, numbered-others, numbered-turned, turned_one, owner-is, numbered-below}
use Rattle.reg_model.proofs.LegalJournals.{by_entries, rising-all, less_than}
use Rattle.reg_model.proofs.TreesOfJournals.{tree-stays}
use Rattle.reg_model.proofs.FewEvents.{few-reason}
use Rattle.reg_model.specs.Worlds.{without_contents}
use Rattle.reg_model.specs.Worlds.{without_branch}
use Rattle.std.proofs.lemmas.List.Recursion.{is_count_by}
use Rattle.std.proofs.lemmas.List.{append-nil}
use Rattle.reg_model.proofs.JournalGrowth.{legal-push}
use Rattle.reg_model.proofs.HandleInvariant.{Stands}
use Rattle.reg_model.proofs.HandleInvariant.{stands-numbered}
use Rattle.reg_model.proofs.LegalJournals.{standing-all}

-- ---- a watch that stays

-- its key isn't removed, and its handle isn't closed
pub record Staying (x : Ending) (v : Watch) : Type 0 where
  pub key : x.removes v.path ≡ false
  pub handle : is_closed x.closed v.handle ≡ false

pub staying : (x : Ending) (v : Watch) → stays x v ≡ true → Staying x v
unfolding reason
staying x v = by (x.removes v.path) refl (is_closed x.closed v.handle) refl
  where
    by : (gone : Bool) → x.removes v.path ≡ gone → (shut : Bool) → is_closed x.closed v.handle ≡ shut →
        not (is_some (cond gone (Some Gone) (cond shut (Some Closed) (cond (list_any (is_hit v) x.events) (Some Matched) None)))) ≡ true → Staying x v
    by true key shut handle is = absurd (false≢true is)
    by false key true handle is = absurd (false≢true is)
    by false key false handle is = record { key = key; handle = handle }

-- ---- whose it is

watching-same : (hs hs' : List Handle) (v : Watch) → numbered v.handle hs' ≡ numbered v.handle hs → IsWatching hs v → IsWatching hs' v
watching-same hs hs' v same w = record { handle = w.handle; found = same ∙ w.found; session = w.session; destination = w.destination }

watching-push : (hs : List Handle) (new : Handle) (v : Watch) → v.handle < new.number → IsWatching hs v → IsWatching (hs ++ new ∷ []) v
watching-push hs new v l w = watching-same hs (hs ++ new ∷ []) v (numbered-more v.handle new hs (ne_eqb new.number v.handle (λ same. omega (arith, l, same)))) w

watching-turned : (hs : List Handle) (gone : Path → Bool) (v : Watch) → gone v.path ≡ false → IsWatching hs v → IsWatching (turned_past gone hs) v
watching-turned hs gone v keeps w = record {
  handle = turned_one gone w.handle;
  found = numbered-turned v.handle gone hs ∙ rw w.found refl;
  session = w.session;
  destination = ap (destination_past gone) w.destination ∙ ap (λ (b : Bool). cond b Deleted (At v.path)) keeps;
}

-- after an entry that doesn't end it
watching-after : (w : World) (e : Entry) (v : Watch) → v.handle < e.number → Staying (ending w e) v → IsWatching w.handles v → IsWatching (after w e).handles v
unfolding after ending removes closing
watching-after w e v l = elim e.change as (λ (change : Change). Staying (ending w (record e { change = change })) v → IsWatching w.handles v →
    IsWatching (after w (record e { change = change })).handles v) [
      | OpenRoot mask ↦ λ s is. watching-push w.handles (opened e [] mask) v l is
      | OpenKey h path mask ↦ λ s is. watching-push w.handles (opened e (path_from e.session h w.handles path) mask) v l is
      | CreateKey h path mask given ↦ λ s is. watching-push w.handles (opened e (path_from e.session h w.handles path) mask) v l is
      | SetValue h name kind bytes ↦ λ s is. is
      | DeleteValue h name ↦ λ s is. is
      | DeleteKey h path ↦ λ s is. watching-turned w.handles (λ (q : Path). same_path q (path_from e.session h w.handles path)) v s.key is
      | DeleteTree h path ↦ λ s is. in-tree h path (length path == 0) s.key is
      | SetSecurity h descriptor ↦ λ s is. is
      | Notify h filter subtree ↦ λ s is. is
      | Close h ↦ λ s is. watching-same w.handles (closed h w.handles) v
          (numbered-others v.handle h w.handles (ne_eqb v.handle h (λ same. false≢true (sym s.handle ∙ eq-eqb h v.handle (sym same))))) is
    ]
  where
    in-tree : (h : ℕ) (path : List ℕ) (b : Bool) → cond b (is_under (path_at e.session h w.handles) v.path)
        (is_within (path_from e.session h w.handles path) v.path) ≡ false →
        IsWatching w.handles v → IsWatching (cond b (without_contents w (path_at e.session h w.handles) e.moment)
        (without_branch w (path_from e.session h w.handles path) e.moment)).handles v
    in-tree h path true keeps is = watching-turned w.handles (is_under (path_at e.session h w.handles)) v keeps is
    in-tree h path false keeps is = watching-turned w.handles (is_within (path_from e.session h w.handles path)) v keeps is

-- ---- watches that an entry leaves

abbrev Each : (Watch → Type 0) → List Watch → Type 0
Each P vs = AllByRecursion P vs

each-left : (P Q : Watch → Type 0) (test : Watch → Bool) → ((v : Watch) → test v ≡ true → P v → Q v) → (vs : List Watch) → Each P vs → Each Q (filter test vs)
each-left P Q test f [] ps = tt
each-left P Q test f (v ∷ vs) ps = by (test v) refl (each-left P Q test f vs ps.1)
  where
    by : (b : Bool) → test v ≡ b → Each Q (filter test vs) → Each Q (cond b (v ∷ filter test vs) (filter test vs))
    by true e rest = (f v e ps.0, rest)
    by false e rest = rest

each-more : (P : Watch → Type 0) (vs : List Watch) (new : Option Watch) → Each P vs → ((v : Watch) → new ≡ Some v → P v) → Each P (vs ++ option_to_list new)
each-more P [] None ps f = tt
each-more P [] (Some v) ps f = (f v refl, tt)
each-more P (v ∷ vs) new ps f = (ps.0, each-more P vs new ps.1 f)

each-past : (P Q : Watch → Type 0) (x : Ending) (new : Option Watch) (vs : List Watch) → ((v : Watch) → stays x v ≡ true → P v → Q v) →
    ((v : Watch) → new ≡ Some v → Q v) →
    Each P vs → Each Q (pending_past x new vs)
each-past P Q x new vs old fresh ps = each-more Q (filter (stays x) vs) new (each-left P Q (stays x) old vs ps) fresh

-- ---- the watch that an entry asks for

watched-of : {t : Watch} (v : Watch) → Some t ≡ Some v → t ≡ v
watched-of v e = cc

-- what an accepted entry asks for: it has the entry's number and session, and watches the key of its handle
record IsAsked (s : State) (e : Entry) (v : Watch) : Type 0 where
  number : v.number ≡ e.number
  session : v.session ≡ e.session
  few : nat_le WATCHES_LIMIT (watches_of e.session s.pending) ≡ false
  watching : IsWatching (after s.world e).handles v

asked-one : (s : State) (e : Entry) (h filter : ℕ) (subtree : Bool) (v : Watch) (t : Target (look e.session h s.world.handles)) →
    record { number = e.number; session = e.session; handle = h; path = path_at e.session h s.world.handles; filter = filter; subtree = subtree } ≡ v →
    IsWatching s.world.handles v
asked-one s e h filter subtree v t same =
    let is = found e.session h s.world.handles t.handle t.found in
    subst (IsWatching s.world.handles) same (record {
      handle = t.handle;
      found = is.number;
      session = owner-is e.session t.handle (eqb t.handle.session e.session) refl (ap is_some is.owner);
      destination = t.destination ∙ ap At (sym (target-path e.session h s.world.handles t));
    })

asked-is : (s : State) (e : Entry) (v : Watch) → change_cause s e.session e.change 0 ≡ None → watch_of s.world e ≡ Some v → IsAsked s e v
unfolding after watch_of
asked-is s e v = elim e.change as (λ (change : Change). change_cause s e.session change 0 ≡ None → watch_of s.world (record e { change = change }) ≡ Some v →
    IsAsked s (record e { change = change }) v) [
      | OpenRoot mask ↦ λ none is. absurd (cc)
      | OpenKey h path mask ↦ λ none is. absurd (cc)
      | CreateKey h path mask given ↦ λ none is. absurd (cc)
      | SetValue h name kind bytes ↦ λ none is. absurd (cc)
      | DeleteValue h name ↦ λ none is. absurd (cc)
      | DeleteKey h path ↦ λ none is. absurd (cc)
      | DeleteTree h path ↦ λ none is. absurd (cc)
      | SetSecurity h descriptor ↦ λ none is. absurd (cc)
      | Notify h filter subtree ↦ λ none is.
          let met = notify-met s e.session h filter subtree 0 none in
          let same = watched-of v is in
          record {
            number = sym (ap (λ (x : Watch). x.number) same);
            session = sym (ap (λ (x : Watch). x.session) same);
            few = met.few;
            watching = asked-one s e h filter subtree v met.target same;
          }
      | Close h ↦ λ none is. absurd (cc)
    ]

-- ---- numbers

numbers : List Watch → List ℕ
numbers vs = map (λ (v : Watch). v.number) vs

abbrev Less : ℕ → List Watch → Type 0
Less a vs = AllByRecursion (λ (k : ℕ). nat_cmp a k ≡ Lesser) (map (λ (v : Watch). v.number) vs)

abbrev Rises : List Watch → Type 0
Rises vs = IsStrictlySortedBy nat_cmp (map (λ (v : Watch). v.number) vs)

less-left : (a : ℕ) (test : Watch → Bool) (vs : List Watch) → Less a vs → Less a (filter test vs)
less-left a test [] l = tt
less-left a test (v ∷ vs) l = by (test v) (less-left a test vs l.1)
  where
    by : (b : Bool) → Less a (filter test vs) → Less a (cond b (v ∷ filter test vs) (filter test vs))
    by true rest = (l.0, rest)
    by false rest = rest

rises-left : (test : Watch → Bool) (vs : List Watch) → Rises vs → Rises (filter test vs)
unfolding IsStrictlySortedBy
rises-left test [] r = tt
rises-left test (v ∷ vs) r = by (test v) (rises-left test vs r.1)
  where
    by : (b : Bool) → Rises (filter test vs) → Rises (cond b (v ∷ filter test vs) (filter test vs))
    by true rest = (less-left v.number test vs r.0, rest)
    by false rest = rest

less-more : (a n : ℕ) (vs : List Watch) (new : Option Watch) → a < n → ((v : Watch) → new ≡ Some v → v.number ≡ n) → Less a vs → Less a
    (vs ++ option_to_list new)
less-more a n [] None l f r = tt
less-more a n [] (Some v) l f r = let same = f v refl in (less_than a v.number (omega (arith, same, l)), tt)
less-more a n (x ∷ vs) new l f r = (r.0, less-more a n vs new l f r.1)

rises-more : (n : ℕ) (vs : List Watch) (new : Option Watch) → Each (λ v. v.number < n) vs → ((v : Watch) → new ≡ Some v → v.number ≡ n) → Rises vs → Rises
    (vs ++ option_to_list new)
unfolding IsStrictlySortedBy
rises-more n [] None below f r = tt
rises-more n [] (Some v) below f r = (tt, tt)
rises-more n (x ∷ vs) new below f r = (less-more x.number n vs new below.0 f r.0, rises-more n vs new below.1 f r.1)

-- ---- counts

abbrev counted : ℕ → List Watch → ℕ
counted session [] = 0
counted session (v ∷ vs) = cond (eqb v.session session) 1 0 + counted session vs

counted-is : (session : ℕ) (vs : List Watch) → counted session vs ≡ watches_of session vs
counted-is session vs = is_count_by (counted session) (λ (v : Watch). eqb v.session session) (none session) (one session) vs
  where
    none : (session : ℕ) → counted session [] ≡ 0
    none session = refl

    one : (session : ℕ) (v : Watch) (vs : List Watch) → counted session (v ∷ vs) ≡ cond (eqb v.session session) (1 + counted session vs) (counted session vs)
    one session v vs = by (eqb v.session session)
      where
        by : (b : Bool) → cond b 1 0 + counted session vs ≡ cond b (1 + counted session vs) (counted session vs)
        by true = refl
        by false = omega arith

counted-left : (session : ℕ) (test : Watch → Bool) (vs : List Watch) → counted session (filter test vs) ≤ counted session vs
counted-left session test [] = omega arith
counted-left session test (v ∷ vs) = by (test v) (counted-left session test vs)
  where
    by : (b : Bool) → counted session (filter test vs) ≤ counted session vs →
        counted session (cond b (v ∷ filter test vs) (filter test vs)) ≤ cond (eqb v.session session) 1 0 + counted session vs
    by true rest = omega (arith, rest)
    by false rest = omega (arith, rest)

counted-more : (session : ℕ) (vs : List Watch) (v : Watch) → counted session (vs ++ v ∷ []) ≡ counted session vs + cond (eqb v.session session) 1 0
counted-more session [] v = omega arith
counted-more session (x ∷ vs) v = let rest = counted-more session vs v in omega (arith, rest)

counted-past : (s : State) (e : Entry) (session : ℕ) (new : Option Watch) → ((v : Watch) → new ≡ Some v → IsAsked s e v) → (vs : List Watch) →
    counted session vs ≤ counted session s.pending →
    counted session s.pending ≤ WATCHES_LIMIT → counted session (vs ++ option_to_list new) ≤ WATCHES_LIMIT
counted-past s e session None asked vs fewer few = subst (λ (l : List Watch). counted session l ≤ WATCHES_LIMIT) (sym (append-nil vs))
    (omega (arith, fewer, few))
counted-past s e session (Some v) asked vs fewer few = by (eqb v.session session) refl
  where
    by : (b : Bool) → eqb v.session session ≡ b → counted session (vs ++ v ∷ []) ≤ WATCHES_LIMIT
    by false e = let sum = counted-more session vs v ∙ ap (λ (b : Bool). counted session vs + cond b 1 0) e in omega (arith, sum, fewer, few)
    by true same =
        let a = asked v refl in
        let own : e.session ≡ session = sym a.session ∙ eqb-true v.session session same in
        let sum = counted-more session vs v ∙ ap (λ (b : Bool). counted session vs + cond b 1 0) same in
        let is : counted session s.pending ≡ watches_of e.session s.pending = ap (λ (n : ℕ). counted n s.pending) (sym own) ∙ counted-is e.session s.pending in
        let room : watches_of e.session s.pending < WATCHES_LIMIT = below_limit (watches_of e.session s.pending) a.few in
        omega (arith, sum, fewer, is, room)
      where
        below_limit : (n : ℕ) → nat_le WATCHES_LIMIT n ≡ false → n < WATCHES_LIMIT
        below_limit n h = grind (arith, nat_tests)

-- ---- after every legal journal

-- what holds of the pending watches
pub record AreWatches (base : ℕ) (origin : Tree) (es : List Entry) : Type 0 where
  pub watching : Each (IsWatching (replay origin es).handles) (pending origin es)
  pub below : Each (λ (v : Watch). v.number < base + length es) (pending origin es)
  pub rises : Rises (pending origin es)
  pub few : (session : ℕ) → counted session (pending origin es) ≤ WATCHES_LIMIT

watches-none : (base : ℕ) (origin : Tree) → AreWatches base origin []
unfolding IsStrictlySortedBy
watches-none base origin = record { watching = tt; below = tt; rises = tt; few = λ session. omega arith }

watches-push : (base : ℕ) (origin : Tree) (past : List Entry) (e : Entry) → IsLegal base origin past → IsFit base origin past e → AreWatches base origin past → AreWatches base origin
    (past ++ e ∷ [])
unfolding ending
watches-push base origin past e l f a =
    let s = state_of base origin past in
    let x = ending s.world e in
    let new = watch_of s.world e in
    let asked : (v : Watch) → new ≡ Some v → IsAsked s e v = λ v is. asked-is s e v f.accepted is in
    let rising = rising-all base origin past l in
    let world = sym (replay-push origin past e) in
    let all = sym (pending-push origin past e) in
    let long = length-append past (e ∷ []) in
    let number = f.number in
    record {
      watching = subst (λ (vs : List Watch). Each (IsWatching (replay origin (past ++ e ∷ [])).handles) vs) all
          (subst (λ (w : World). Each (IsWatching w.handles) (pending_past x new s.pending)) world
          (each-past (IsWatching s.world.handles) (IsWatching (after s.world e).handles) x new s.pending
          (λ v stay is. watching-after s.world e v
          (subst (λ (n : ℕ). v.handle < n) (sym number) (numbered-below v.handle (base + length past) s.world.handles is.handle rising.below is.found))
          (staying x v stay) is)
          (λ v is. let k = asked v is in k.watching) a.watching));
      below = subst (λ (vs : List Watch). Each (λ (v : Watch). v.number < base + length (past ++ e ∷ [])) vs) all
          (each-past (λ (v : Watch). v.number < base + length past) (λ (v : Watch). v.number < base + length (past ++ e ∷ [])) x new s.pending
          (λ v stay is. omega (arith, is, long)) (λ v is. let k = asked v is in let n = k.number in omega (arith, n, number, long)) a.below);
      rises = subst Rises all (rises-more (base + length past) (filter (stays x) s.pending) new
          (each-left (λ (v : Watch). v.number < base + length past) (λ (v : Watch). v.number < base + length past) (stays x) (λ v stay is. is) s.pending a.below)
          (λ v is. let k = asked v is in k.number ∙ number) (rises-left (stays x) s.pending a.rises));
      few = λ session. subst (λ (vs : List Watch). counted session vs ≤ WATCHES_LIMIT) all
          (counted-past s e session new asked (filter (stays x) s.pending) (counted-left session (stays x) s.pending) (a.few session));
    }

record LegalWatches (base : ℕ) (origin : Tree) (es : List Entry) : Type 0 where
  legal : IsLegal base origin es
  are : AreWatches base origin es

pub watches-all : (base : ℕ) (origin : Tree) (es : List Entry) → IsLegal base origin es → AreWatches base origin es
watches-all base origin es l =
    let all = by_entries base origin (LegalWatches base origin) (λ past e f p. record {
      legal = legal-push base origin past e p.legal f;
      are = watches-push base origin past e p.legal f p.are;
    }) [] es (record { legal = tt; are = watches-none base origin }) l in all.are

-- ---- the laws

pub watches-watch : (base : ℕ) (origin : Tree) (es : List Entry) → IsLegal base origin es → All (IsWatching (replay origin es).handles) (pending origin es)
watches-watch base origin es l = let a = watches-all base origin es l in All-from_recursion _ (pending origin es) a.watching

has-all : (t : Tree) (hs : List Handle) → Stands t hs → (vs : List Watch) → Each (IsWatching hs) vs → Each (λ (v : Watch). Has t v.path) vs
has-all t hs stand [] ws = tt
has-all t hs stand (v ∷ vs) ws =
    let w = ws.0 in
    (subst (StandsIn t) w.destination (stands-numbered t v.handle hs w.handle stand w.found), has-all t hs stand vs ws.1)

pub keys-stand : (base : ℕ) (origin : Tree) (es : List Entry) → IsLegal base origin es → IsSome (get origin []) → Each (λ (v : Watch). Has (replay origin es).tree v.path)
    (pending origin es)
keys-stand base origin es l h =
    let a = watches-all base origin es l in
    let s = standing-all base origin es l h in
    has-all (replay origin es).tree (replay origin es).handles s.stand (pending origin es) a.watching

pub watches-stand : (base : ℕ) (origin : Tree) (es : List Entry) → IsLegal base origin es → IsSome (get origin []) → All
    (λ (v : Watch). IsSome (get (replay origin es).tree v.path)) (pending origin es)
watches-stand base origin es l h = All-from_recursion _ (pending origin es) (keys-stand base origin es l h)

pub watches-below : (base : ℕ) (origin : Tree) (es : List Entry) → IsLegal base origin es → All (λ (v : Watch). v.number < base + length es) (pending origin es)
watches-below base origin es l = let a = watches-all base origin es l in All-from_recursion _ (pending origin es) a.below

pub watches-rise : (base : ℕ) (origin : Tree) (es : List Entry) → IsLegal base origin es → IsStrictlyIncreasing (map (λ (v : Watch). v.number) (pending origin es))
watches-rise base origin es l = let a = watches-all base origin es l in IsStrictlyIncreasing-from_sorted (map (λ (v : Watch). v.number) (pending origin es)) a.rises

pub watches-few : (base : ℕ) (origin : Tree) (es : List Entry) (session : ℕ) → IsLegal base origin es → watches_of session (pending origin es) ≤ WATCHES_LIMIT
watches-few base origin es session l = let a = watches-all base origin es l in subst (λ (n : ℕ). n ≤ WATCHES_LIMIT) (counted-is session (pending origin es))
    (a.few session)

-- ---- few events

abbrev Alike : Tree → List Entry → Entry → Watch → Type 0
Alike origin past e v = reason (few_ending (replay origin past) e) v ≡ reason (ending (replay origin past) e) v

few-each : (base : ℕ) (origin : Tree) (past : List Entry) (e : Entry) → IsTree (replay origin past).tree → IsFit base origin past e → (vs : List Watch) →
    Each (λ (v : Watch). Has (replay origin past).tree v.path) vs → Each (Alike origin past e) vs
few-each base origin past e i f [] hs = tt
few-each base origin past e i f (v ∷ vs) hs = (few-reason (state_of base origin past) e v i hs.0 0 f.accepted, few-each base origin past e i f vs hs.1)

few-all : (base : ℕ) (origin : Tree) (past : List Entry) (e : Entry) → IsTree origin → IsLegal base origin past → IsFit base origin past e → Each (Alike origin past e)
    (pending origin past)
few-all base origin past e i l f = few-each base origin past e (tree-stays base origin past l i) f (pending origin past) (keys-stand base origin past l i.root)

pub few-suffice : (base : ℕ) (origin : Tree) (past : List Entry) (e : Entry) → IsTree origin → IsLegal base origin past → IsFit base origin past e →
    All (λ (v : Watch). reason (few_ending (replay origin past) e) v ≡ reason (ending (replay origin past) e) v) (pending origin past)
few-suffice base origin past e i l f = All-from_recursion _ (pending origin past) (few-all base origin past e i l f)

left-alike : (x y : Ending) (vs : List Watch) → Each (λ (v : Watch). reason x v ≡ reason y v) vs → filter (stays x) vs ≡ filter (stays y) vs
left-alike x y [] same = refl
left-alike x y (v ∷ vs) same =
    ap (λ (o : Option Reason). cond (not (is_some o)) (v ∷ filter (stays x) vs) (filter (stays x) vs)) same.0
    ∙ ap (λ (rest : List Watch). cond (stays y v) (v ∷ rest) rest) (left-alike x y vs same.1)

told-alike : (session : ℕ) (x y : Ending) → x.by ≡ y.by → (vs : List Watch) → Each (λ (v : Watch). reason x v ≡ reason y v) vs →
    notices session x vs ≡ notices session y vs
told-alike session x y by [] same = refl
told-alike session x y by (v ∷ vs) same =
    let one : notice_to session x v ≡ notice_to session y v =
    ap (λ (o : Option Reason). cond (eqb v.session session) (notice_for v.number x.by o) None) same.0
    ∙ ap (λ (n : ℕ). cond (eqb v.session session) (notice_for v.number n (reason y v)) None) by in
    let rest = told-alike session x y by vs same.1 in
    rw (one, rest) refl

pub few-pending : (base : ℕ) (origin : Tree) (past : List Entry) (e : Entry) → IsTree origin → IsLegal base origin past → IsFit base origin past e →
    pending origin (past ++ e ∷ []) ≡ pending_past (few_ending (replay origin past) e) (watch_of (replay origin past) e) (pending origin past)
few-pending base origin past e i l f =
    pending-push origin past e ∙ ap (λ (vs : List Watch). vs ++ option_to_list (watch_of (replay origin past) e))
    (sym (left-alike (few_ending (replay origin past) e) (ending (replay origin past) e) (pending origin past) (few-all base origin past e i l f)))

pub few-fired : (base : ℕ) (origin : Tree) (past : List Entry) (e : Entry) (session : ℕ) → IsTree origin → IsLegal base origin past → IsFit base origin past e →
    fired origin (past ++ e ∷ []) session ≡ fired origin past session ++ notices session (few_ending (replay origin past) e) (pending origin past)
unfolding ending few_ending
few-fired base origin past e session i l f =
    fired-push origin past e session ∙ ap (λ (ns : List Notice). fired origin past session ++ ns)
    (sym (told-alike session (few_ending (replay origin past) e) (ending (replay origin past) e) refl (pending origin past) (few-all base origin past e i l f)))
