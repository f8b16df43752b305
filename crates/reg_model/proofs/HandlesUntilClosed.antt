-- A handle stays until its session closes it, and where its key was deleted it stays so; a number that was closed finds nothing again.
use Rattle.std.proofs.Common.{◌≡◌, ℕ, is_some, ◌<◌, Bool, true, false, cond, not, eqb, ap, ◌∙◌, List, [], ◌∷◌, ◌++◌, ◌==◌, length, Option, Some, None, refl, sym, subst, arith, ◌+◌}
use Rattle.std.proofs.Common.{length-append, append_assoc}
use Rattle.std.specs.List.{AllByRecursion}
use Rattle.std.specs.Option.{option_map}
use Rattle.std.proofs.lemmas.List.{append-nil}
use Rattle.std.proofs.lemmas.Bool.{eqb-true, eqb-false, eq-eqb, ne_eqb, false≢true}
use Rattle.reg_heap.specs.Paths.{Path, Tree}
use Rattle.reg_heap.specs.Edits.{is_within, is_under}
use Rattle.reg_model.specs.Worlds.{World, Handle, Destination, Deleted, after, opened, closed, destination_past, turned_past, same_path, numbered, owned, look, path_at, path_from}
use Rattle.reg_model.specs.Causes.{State, change_cause}
use Rattle.reg_model.specs.Histories.{replay, state_of, IsLegalAfter, IsLegal}
use Rattle.reg_model.specs.declared.call.Change.{Change}
use Rattle.reg_model.specs.declared.call.Change.TheVariants.{OpenRoot, OpenKey, CreateKey, SetValue, DeleteValue, DeleteKey, DeleteTree, SetSecurity, Notify, Close}
use Rattle.reg_model.specs.declared.reply.Entry.{Entry}
use Rattle.reg_model.proofs.JournalGrowth.{replay-push}
use Rattle.reg_model.proofs.HandleInvariant.{in-either}
use Rattle.reg_model.proofs.LegalJournals.{by_entries, legal-front, legal-at, rising-all}
use Rattle.reg_model.proofs.AcceptedCalls.{close-met}

-- ---- what a number finds among handles that changed

pub numbered-more : (n : ℕ) (new : Handle) (hs : List Handle) → eqb new.number n ≡ false → numbered n (hs ++ new ∷ []) ≡ numbered n hs
numbered-more n new [] e = rw e refl
numbered-more n new (x ∷ hs) e = ap (λ (o : Option Handle). cond (eqb x.number n) (Some x) o) (numbered-more n new hs e)

closed-one : (b : Bool) (n : ℕ) (x : Handle) (hs rest : List Handle) → (b ≡ true → eqb x.number n ≡ false) → numbered n rest ≡ numbered n hs →
    numbered n (cond (not b) (x ∷ rest) rest) ≡ cond (eqb x.number n) (Some x) (numbered n hs)
closed-one true n x hs rest other same = same ∙ sym (ap (λ (b : Bool). cond b (Some x) (numbered n hs)) (other refl))
closed-one false n x hs rest other same = ap (λ (o : Option Handle). cond (eqb x.number n) (Some x) o) same

other-number : (x n number : ℕ) → eqb n number ≡ false → eqb x number ≡ true → eqb x n ≡ false
other-number x n number ne e = ne_eqb x n (λ same. eqb-false n number ne (sym same ∙ eqb-true x number e))

pub numbered-others : (n number : ℕ) (hs : List Handle) → eqb n number ≡ false → numbered n (closed number hs) ≡ numbered n hs
numbered-others n number [] ne = refl
numbered-others n number (x ∷ hs) ne =
    closed-one (eqb x.number number) n x hs (closed number hs) (other-number x.number n number ne) (numbered-others n number hs ne)

none-one : (b : Bool) (n : ℕ) (x : Handle) (rest : List Handle) → eqb x.number n ≡ b → numbered n rest ≡ None → numbered n (cond (not b) (x ∷ rest) rest) ≡ None
none-one true n x rest e none = none
none-one false n x rest e none = rw (e, none) refl

numbered-closed : (n : ℕ) (hs : List Handle) → numbered n (closed n hs) ≡ None
numbered-closed n [] = refl
numbered-closed n (x ∷ hs) = none-one (eqb x.number n) n x (closed n hs) refl (numbered-closed n hs)

abbrev pub turned_one : (Path → Bool) → Handle → Handle
turned_one gone h = record h { destination = destination_past gone h.destination }

turn-cond : (b : Bool) (gone : Path → Bool) (x : Handle) (o o' : Option Handle) → o' ≡ option_map (turned_one gone) o →
    cond b (Some (turned_one gone x)) o' ≡ option_map (turned_one gone) (cond b (Some x) o)
turn-cond true gone x o o' e = refl
turn-cond false gone x o o' e = e

pub numbered-turned : (n : ℕ) (gone : Path → Bool) (hs : List Handle) → numbered n (turned_past gone hs) ≡ option_map (turned_one gone) (numbered n hs)
numbered-turned n gone [] = refl
numbered-turned n gone (x ∷ hs) = turn-cond (eqb x.number n) gone x (numbered n hs) (numbered n (turned_past gone hs)) (numbered-turned n gone hs)

stays-deleted : (gone : Path → Bool) (h : Handle) → h.destination ≡ Deleted → turned_one gone h ≡ h
stays-deleted gone h d =
    ap (λ (x : Destination). record h { destination = destination_past gone x }) d ∙ ap (λ (x : Destination). record h { destination = x }) (sym d)

-- ---- a handle that isn't closed

-- a number finds the handle that it found, of the same session, with the same mask, and as it was where it led nowhere
record IsOpen (n : ℕ) (h : Handle) (hs : List Handle) : Type 0 where
  now : Handle
  found : numbered n hs ≡ Some now
  session : now.session ≡ h.session
  mask : now.mask ≡ h.mask
  gone : h.destination ≡ Deleted → now ≡ h

open-same : (n : ℕ) (h : Handle) (hs hs' : List Handle) → numbered n hs' ≡ numbered n hs → IsOpen n h hs → IsOpen n h hs'
open-same n h hs hs' same o = record { now = o.now; found = same ∙ o.found; session = o.session; mask = o.mask; gone = o.gone }

open-push : (n : ℕ) (h new : Handle) (hs : List Handle) → n < new.number → IsOpen n h hs → IsOpen n h (hs ++ new ∷ [])
open-push n h new hs l o = open-same n h hs (hs ++ new ∷ []) (numbered-more n new hs (ne_eqb new.number n (λ same. omega (arith, l, same)))) o

open-turned : (n : ℕ) (h : Handle) (gone : Path → Bool) (hs : List Handle) → IsOpen n h hs → IsOpen n h (turned_past gone hs)
open-turned n h gone hs o = record {
  now = turned_one gone o.now;
  found = numbered-turned n gone hs ∙ ap (option_map (turned_one gone)) o.found;
  session = o.session;
  mask = o.mask;
  gone = λ d. ap (turned_one gone) (o.gone d) ∙ stays-deleted gone h d;
}

pub owner-is : (session : ℕ) (x : Handle) (b : Bool) → eqb x.session session ≡ b → is_some (cond b (Some x) None) ≡ true → x.session ≡ session
owner-is session x true e s = eqb-true x.session session e
owner-is session x false e s = absurd (false≢true s)

-- a handle that is closed was the closing session's
closer-is : (session n : ℕ) (h : Handle) (hs : List Handle) → IsOpen n h hs → is_some (look session n hs) ≡ true → h.session ≡ session
closer-is session n h hs o some =
    let is : is_some (owned session (Some o.now)) ≡ true = subst (λ (x : Option Handle). is_some (owned session x) ≡ true) o.found some in
    sym o.session ∙ owner-is session o.now (eqb o.now.session session) refl is

-- an entry that isn't a closing of the number by the session
abbrev IsNoClosing : ℕ → ℕ → ℕ → Change → Type 0
IsNoClosing session number by change = by ≡ session → change ≡ Close number → ⊥

open-closed : (n : ℕ) (h : Handle) (session k : ℕ) (hs : List Handle) → IsOpen n h hs → is_some (look session k hs) ≡ true → IsNoClosing h.session n session (Close k) → IsOpen n h (closed k hs)
open-closed n h session k hs o some other = by (eqb n k) refl
  where
    by : (b : Bool) → eqb n k ≡ b → IsOpen n h (closed k hs)
    by true e =
        let same = eqb-true n k e in
        let is = subst (λ (m : ℕ). is_some (look session m hs) ≡ true) (sym same) some in
        absurd (other (sym (closer-is session n h hs o is)) (ap (λ (m : ℕ). Close m) (sym same)))
    by false e = open-same n h hs (closed k hs) (numbered-others n k hs e) o

open-after : (s : State) (e : Entry) (n : ℕ) (h : Handle) → n < e.number → IsOpen n h s.world.handles → change_cause s e.session e.change 0 ≡ None →
    IsNoClosing h.session n e.session e.change → IsOpen n h (after s.world e).handles
unfolding after
open-after s e n h l o = elim e.change as (λ (change : Change). change_cause s e.session change 0 ≡ None → IsNoClosing h.session n e.session change →
    IsOpen n h (after s.world (record e { change = change })).handles) [
      | OpenRoot mask ↦ λ none other. open-push n h (opened e [] mask) s.world.handles l o
      | OpenKey k path mask ↦ λ none other. open-push n h (opened e (path_from e.session k s.world.handles path) mask) s.world.handles l o
      | CreateKey k path mask given ↦ λ none other. open-push n h (opened e (path_from e.session k s.world.handles path) mask) s.world.handles l o
      | SetValue k name kind bytes ↦ λ none other. o
      | DeleteValue k name ↦ λ none other. o
      | DeleteKey k path ↦ λ none other. open-turned n h (λ (q : Path). same_path q (path_from e.session k s.world.handles path)) s.world.handles o
      | DeleteTree k path ↦ λ none other. in-either (λ (v : World). IsOpen n h v.handles) (length path == 0) _ _
          (open-turned n h (is_under (path_at e.session k s.world.handles)) s.world.handles o) (open-turned n h (is_within (path_from e.session k s.world.handles path)) s.world.handles o)
      | SetSecurity k descriptor ↦ λ none other. o
      | Notify k filter subtree ↦ λ none other. o
      | Close k ↦ λ none other. open-closed n h e.session k s.world.handles o (close-met s e.session k 0 none) other
    ]

-- none of some entries is one
abbrev pub NoneCloses : ℕ → ℕ → List Entry → Type 0
NoneCloses session number es = AllByRecursion (λ (e : Entry). e.session ≡ session → e.change ≡ Close number → ⊥) es

record StaysOpen (n : ℕ) (h : Handle) (base : ℕ) (origin : Tree) (past : List Entry) : Type 0 where
  below : n < base + length past
  stands : IsOpen n h (replay origin past).handles

open-all : (base : ℕ) (origin : Tree) (past more : List Entry) (n : ℕ) (h : Handle) → StaysOpen n h base origin past → IsLegalAfter base origin past more → NoneCloses h.session n more →
    StaysOpen n h base origin (past ++ more)
open-all base origin past [] n h s l c = subst (StaysOpen n h base origin) (sym (append-nil past)) s
open-all base origin past (e ∷ more) n h s l c =
    let a = length-append past (e ∷ []) in
    let b = s.below in
    let f = l.0 in
    let next : StaysOpen n h base origin (past ++ e ∷ []) = record {
      below = omega (arith, a, b);
      stands = subst (λ (w : World). IsOpen n h w.handles) (sym (replay-push origin past e)) (open-after (state_of base origin past) e n h (rw f.number b) s.stands f.accepted c.0);
    } in
    subst (StaysOpen n h base origin) (append_assoc past (e ∷ []) more) (open-all base origin (past ++ e ∷ []) more n h next l.1 c.1)

-- ---- a number that finds nothing

none-after : (w : World) (e : Entry) (n : ℕ) → n < e.number → numbered n w.handles ≡ None → numbered n (after w e).handles ≡ None
unfolding after
none-after w e n l none = elim e.change as (λ (change : Change). numbered n (after w (record e { change = change })).handles ≡ None) [
  | OpenRoot mask ↦ numbered-more n (opened e [] mask) w.handles other ∙ none
  | OpenKey k path mask ↦ numbered-more n (opened e (path_from e.session k w.handles path) mask) w.handles other ∙ none
  | CreateKey k path mask given ↦ numbered-more n (opened e (path_from e.session k w.handles path) mask) w.handles other ∙ none
  | SetValue k name kind bytes ↦ none
  | DeleteValue k name ↦ none
  | DeleteKey k path ↦ turned_none (λ (q : Path). same_path q (path_from e.session k w.handles path))
  | DeleteTree k path ↦ in-either (λ (v : World). numbered n v.handles ≡ None) (length path == 0) _ _
      (turned_none (is_under (path_at e.session k w.handles))) (turned_none (is_within (path_from e.session k w.handles path)))
  | SetSecurity k descriptor ↦ none
  | Notify k filter subtree ↦ none
  | Close k ↦ by k (eqb n k) refl
]
  where
    other : eqb e.number n ≡ false
    other = ne_eqb e.number n (λ same. omega (arith, l, same))

    turned_none : (gone : Path → Bool) → numbered n (turned_past gone w.handles) ≡ None
    turned_none gone = numbered-turned n gone w.handles ∙ ap (option_map (turned_one gone)) none

    by : (k : ℕ) (b : Bool) → eqb n k ≡ b → numbered n (closed k w.handles) ≡ None
    by k true e = subst (λ (m : ℕ). numbered n (closed m w.handles) ≡ None) (eqb-true n k e) (numbered-closed n w.handles)
    by k false e = numbered-others n k w.handles e ∙ none

record StaysNone (n : ℕ) (base : ℕ) (origin : Tree) (past : List Entry) : Type 0 where
  below : n < base + length past
  none : numbered n (replay origin past).handles ≡ None

none-all : (base : ℕ) (origin : Tree) (past more : List Entry) (n : ℕ) → StaysNone n base origin past → IsLegalAfter base origin past more → StaysNone n base origin (past ++ more)
none-all base origin past more n s l =
    by_entries base origin (StaysNone n base origin) (λ es e f before. (let a = length-append es (e ∷ []) in let b = before.below in record {
      below = omega (arith, a, b);
      none = ap (λ (w : World). numbered n w.handles) (replay-push origin es e) ∙ none-after (replay origin es) e n (rw f.number b) before.none;
    })) past more s l

-- ---- the law

below-found : (b : Bool) (n m : ℕ) (x h : Handle) (o : Option Handle) → eqb x.number n ≡ b → x.number < m → (o ≡ Some h → n < m) → cond b (Some x) o ≡ Some h → n < m
below-found true n m x h o e l rest is = let same = eqb-true x.number n e in omega (arith, same, l)
below-found false n m x h o e l rest is = rest is

pub numbered-below : (n m : ℕ) (hs : List Handle) (h : Handle) → AllByRecursion (λ (x : Handle). x.number < m) hs → numbered n hs ≡ Some h → n < m
numbered-below n m [] h b e = absurd (cc)
numbered-below n m (x ∷ hs) h b e = below-found (eqb x.number n) n m x h (numbered n hs) refl b.0 (numbered-below n m hs h b.1) e

pub record Found (session n : ℕ) (hs : List Handle) (h : Handle) : Type 0 where
  pub number : numbered n hs ≡ Some h
  pub owner : owned session (Some h) ≡ Some h

pub found : (session n : ℕ) (hs : List Handle) (h : Handle) → look session n hs ≡ Some h → Found session n hs h
found session n hs h e = by (numbered n hs) refl e
  where
    own : (x : Handle) (b : Bool) → eqb x.session session ≡ b → cond b (Some x) None ≡ Some h → (Some x ≡ Some h) × (owned session (Some x) ≡ Some x)
    own x true e is = (is, rw e refl)
    own x false e is = absurd (cc)

    by : (o : Option Handle) → numbered n hs ≡ o → owned session o ≡ Some h → Found session n hs h
    by None e is = absurd (cc)
    by (Some x) e is = let both = own x (eqb x.session session) refl is in
        record { number = e ∙ both.0; owner = subst (λ (o : Option Handle). owned session o ≡ o) both.0 both.1 }

legal_after-rest : (base : ℕ) (origin : Tree) (before past more : List Entry) → IsLegalAfter base origin before (past ++ more) → IsLegalAfter base origin (before ++ past) more
legal_after-rest base origin before [] more l = subst (λ (p : List Entry). IsLegalAfter base origin p more) (sym (append-nil before)) l
legal_after-rest base origin before (x ∷ past) more l =
    subst (λ (p : List Entry). IsLegalAfter base origin p more) (append_assoc before (x ∷ []) past) (legal_after-rest base origin (before ++ x ∷ []) past more l.1)

owns : (session : ℕ) (h : Handle) → owned session (Some h) ≡ Some h → h.session ≡ session
owns session h o = owner-is session h (eqb h.session session) refl (ap is_some o)

-- a session's handle stays until the session closes it
pub handle-stays : (base : ℕ) (origin : Tree) (past more : List Entry) (session number : ℕ) (h : Handle) → IsLegal base origin (past ++ more) →
    look session number (replay origin past).handles ≡ Some h → AllByRecursion (λ (e : Entry). e.session ≡ session → e.change ≡ Close number → ⊥) more →
    (now : Handle) × (look session number (replay origin (past ++ more)).handles ≡ Some now) × (now.mask ≡ h.mask) × (h.destination ≡ Deleted → now ≡ h)
handle-stays base origin past more session number h l is other =
    let f = found session number (replay origin past).handles h is in
    let r = rising-all base origin past (legal-front base origin past more l) in
    let mine = owns session h f.owner in
    let all = open-all base origin past more number h (record {
      below = numbered-below number (base + length past) (replay origin past).handles h r.below f.number;
      stands = record { now = h; found = f.number; session = refl; mask = refl; gone = λ d. refl };
    }) (legal_after-rest base origin [] past more l) (subst (λ (s : ℕ). NoneCloses s number more) (sym mine) other) in
    let o = all.stands in (
      o.now,
      ap (owned session) o.found ∙ ap (λ (b : Bool). cond b (Some o.now) None) (eq-eqb o.now.session session (o.session ∙ mine)),
      o.mask,
      o.gone,
    )

some-there : (session number : ℕ) (hs : List Handle) → is_some (look session number hs) ≡ true → (h : Handle) × (numbered number hs ≡ Some h)
some-there session number hs s = by (numbered number hs) refl s
  where
    by : (o : Option Handle) → numbered number hs ≡ o → is_some (owned session o) ≡ true → (h : Handle) × (numbered number hs ≡ Some h)
    by None e s = absurd (false≢true s)
    by (Some h) e s = (h, e)

closed-now : (w : World) (e : Entry) (number : ℕ) → e.change ≡ Close number → numbered number (after w e).handles ≡ None
unfolding after
closed-now w e number is = rw is (numbered-closed number w.handles)

-- once it is closed, its number finds nothing, of any session
pub number-closed : (base : ℕ) (origin : Tree) (past : List Entry) (e : Entry) (more : List Entry) (session number : ℕ) → IsLegal base origin (past ++ e ∷ more) → e.change ≡ Close number →
    look session number (replay origin (past ++ e ∷ more)).handles ≡ None
number-closed base origin past e more session number l is =
    let f = legal-at base origin past e more l in
    let none = subst (λ (change : Change). change_cause (state_of base origin past) e.session change 0 ≡ None) is f.accepted in
    let there = some-there e.session number (replay origin past).handles (close-met (state_of base origin past) e.session number 0 none) in
    let r = rising-all base origin past (legal-front base origin past (e ∷ more) l) in
    let below = numbered-below number (base + length past) (replay origin past).handles there.0 r.below there.1 in
    let a = length-append past (e ∷ []) in
    let rest = legal_after-rest base origin [] past (e ∷ more) l in
    let all = none-all base origin (past ++ e ∷ []) more number (record {
      below = omega (arith, a, below);
      none = ap (λ (w : World). numbered number w.handles) (replay-push origin past e) ∙ closed-now (replay origin past) e number is;
    }) rest.1 in
    subst (λ (es : List Entry). look session number (replay origin es).handles ≡ None) (append_assoc past (e ∷ []) more) (ap (owned session) all.none)
