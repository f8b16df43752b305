-- Legal journals: their fronts, their entries, and what holds of their replay.
use Rattle.std.proofs.Common.{◌≡◌, ℕ, ◌+◌, ◌<◌, Bool, true, false, cond, not, eqb, ap, List, [], ◌∷◌, ◌++◌, ◌==◌, length, map, Some, refl, sym, subst, arith, append_assoc, length-append}
use Rattle.std.specs.List.{AllByRecursion, All}
use Rattle.std.specs.List.Sorted.{IsStrictlyIncreasing, IsStrictlySortedBy}
use Rattle.std.specs.Ordering.{nat_cmp}
use Rattle.std.specs.declared.cmp.Ordering.TheVariants.{Less as Lesser}
use Rattle.std.proofs.lemmas.Bool.{eq-eqb, ne_eqb}
use Rattle.std.proofs.lemmas.Bool.Decides.{nat_tests}
use Rattle.std.proofs.lemmas.List.{append-nil}
use Rattle.std.proofs.lemmas.List.Elements.{All-from_recursion}
use Rattle.std.proofs.lemmas.Map.Keys.{IsStrictlyIncreasing-from_sorted}
use Rattle.reg_heap.specs.Paths.{Path, Tree}
use Rattle.reg_heap.specs.Edits.{folded_path, is_within, is_under}
use Rattle.reg_model.specs.Worlds.{World, Handle, StandsIn, IsStanding, after, opened, closed, turned_past, same_path, numbered, look, path_at, path_from}
use Rattle.reg_model.specs.Causes.{Opening, rule_of, path_asked}
use Rattle.reg_model.specs.Replies.{reply_to}
use Rattle.reg_model.specs.Histories.{replay, state_of, IsFit, IsLegalAfter, IsLegal}
use Rattle.reg_model.specs.declared.call.Change.{Change}
use Rattle.reg_model.specs.declared.call.Change.TheVariants.{OpenRoot, OpenKey, CreateKey, SetValue, DeleteValue, DeleteKey, DeleteTree, SetSecurity, Notify, Close}
use Rattle.reg_model.specs.declared.reply.Entry.{Entry}
use Rattle.reg_model.proofs.JournalGrowth.{replay-push}
use Rattle.reg_model.proofs.HandleInvariant.{Has, Stands, Upright, standing-after, in-either}

legal_after-front : (base : ℕ) (origin : Tree) (past es more : List Entry) → IsLegalAfter base origin past (es ++ more) → IsLegalAfter base origin past es
legal_after-front base origin past [] more l = tt
legal_after-front base origin past (e ∷ es) more l = (l.0, legal_after-front base origin (past ++ e ∷ []) es more l.1)

-- the front of a legal journal is legal
pub legal-front : (base : ℕ) (origin : Tree) (past more : List Entry) → IsLegal base origin (past ++ more) → IsLegal base origin past
legal-front base origin past more l = legal_after-front base origin [] past more l

legal_after-at : (base : ℕ) (origin : Tree) (past es : List Entry) (e : Entry) (more : List Entry) → IsLegalAfter base origin past (es ++ e ∷ more) → IsFit base origin (past ++ es) e
legal_after-at base origin past [] e more l = subst (λ (p : List Entry). IsFit base origin p e) (sym (append-nil past)) l.0
legal_after-at base origin past (x ∷ es) e more l =
    subst (λ (p : List Entry). IsFit base origin p e) (append_assoc past (x ∷ []) es) (legal_after-at base origin (past ++ x ∷ []) es e more l.1)

-- each entry of a legal journal fits those before it
pub legal-at : (base : ℕ) (origin : Tree) (past : List Entry) (e : Entry) (more : List Entry) → IsLegal base origin (past ++ e ∷ more) → IsFit base origin past e
legal-at base origin past e more l = legal_after-at base origin [] past e more l

-- its number is its index
pub number-is : (base : ℕ) (origin : Tree) (past : List Entry) (e : Entry) (more : List Entry) → IsLegal base origin (past ++ e ∷ more) → e.number ≡ base + length past
number-is base origin past e more l = let f = legal-at base origin past e more l in f.number

-- what holds of no entries, and of one fit entry more, holds of every legal journal
pub by_entries : (base : ℕ) (origin : Tree) (P : List Entry → Type 0) → ((past : List Entry) (e : Entry) → IsFit base origin past e → P past → P (past ++ e ∷ [])) →
    (past es : List Entry) → P past → IsLegalAfter base origin past es → P (past ++ es)
by_entries base origin P more past [] p l = subst P (sym (append-nil past)) p
by_entries base origin P more past (e ∷ es) p l =
    subst P (append_assoc past (e ∷ []) es) (by_entries base origin P more (past ++ e ∷ []) es (more past e l.0 p) l.1)

-- ---- handles

-- the handles' numbers rise, and all are below n
pub record AreRising (n : ℕ) (hs : List Handle) : Type 0 where
  pub below : AllByRecursion (λ (h : Handle). h.number < n) hs
  pub rising : IsStrictlySortedBy nat_cmp (map (λ (h : Handle). h.number) hs)

rising-weaker : (n : ℕ) (hs : List Handle) → AllByRecursion (λ (h : Handle). h.number < n) hs → AllByRecursion (λ (h : Handle). h.number < n + 1) hs
rising-weaker n [] b = tt
rising-weaker n (h ∷ hs) b = (omega (arith, b.0), rising-weaker n hs b.1)

below-push : (n : ℕ) (hs : List Handle) (h : Handle) → h.number ≡ n → AllByRecursion (λ (x : Handle). x.number < n) hs → AllByRecursion (λ (x : Handle). x.number < n + 1) (hs ++ h ∷ [])
below-push n [] h e b = (omega arith, tt)
below-push n (x ∷ hs) h e b = (omega (arith, b.0), below-push n hs h e b.1)

pub less_than : (a b : ℕ) → a < b → nat_cmp a b ≡ Lesser
less_than a b l = grind (arith, nat_tests)

all-push : (a n : ℕ) (hs : List Handle) (h : Handle) → h.number ≡ n → a < n →
    AllByRecursion (λ (k : ℕ). nat_cmp a k ≡ Lesser) (map (λ (x : Handle). x.number) hs) →
    AllByRecursion (λ (k : ℕ). nat_cmp a k ≡ Lesser) (map (λ (x : Handle). x.number) (hs ++ h ∷ []))
all-push a n [] h e l r = (less_than a h.number (omega arith), tt)
all-push a n (x ∷ hs) h e l r = (r.0, all-push a n hs h e l r.1)

rising-push : (n : ℕ) (hs : List Handle) (h : Handle) → h.number ≡ n → AllByRecursion (λ (x : Handle). x.number < n) hs →
    IsStrictlySortedBy nat_cmp (map (λ (x : Handle). x.number) hs) → IsStrictlySortedBy nat_cmp (map (λ (x : Handle). x.number) (hs ++ h ∷ []))
unfolding IsStrictlySortedBy
rising-push n [] h e b r = (tt, tt)
rising-push n (x ∷ hs) h e b r = (all-push x.number n hs h e b.0 r.0, rising-push n hs h e b.1 r.1)

rising-none : (n : ℕ) → AreRising n []
unfolding IsStrictlySortedBy
rising-none n = record { below = tt; rising = tt }

-- a handle closed
below-cond : (b : Bool) (n : ℕ) (h : Handle) (hs : List Handle) → h.number < n → AllByRecursion (λ (x : Handle). x.number < n) hs → AllByRecursion (λ (x : Handle). x.number < n) (cond b (h ∷ hs) hs)
below-cond true n h hs l b = (l, b)
below-cond false n h hs l b = b

below-closed : (n number : ℕ) (hs : List Handle) → AllByRecursion (λ (h : Handle). h.number < n) hs → AllByRecursion (λ (h : Handle). h.number < n) (closed number hs)
below-closed n number [] b = tt
below-closed n number (h ∷ hs) b = below-cond (not (eqb h.number number)) n h (closed number hs) b.0 (below-closed n number hs b.1)

abbrev Less : ℕ → List Handle → Type 0
Less a hs = AllByRecursion (λ (k : ℕ). nat_cmp a k ≡ Lesser) (map (λ (x : Handle). x.number) hs)

less-cond : (b : Bool) (a : ℕ) (h : Handle) (hs : List Handle) → nat_cmp a h.number ≡ Lesser → Less a hs → Less a (cond b (h ∷ hs) hs)
less-cond true a h hs l r = (l, r)
less-cond false a h hs l r = r

less-closed : (a number : ℕ) (hs : List Handle) → Less a hs → Less a (closed number hs)
less-closed a number [] r = tt
less-closed a number (h ∷ hs) r = less-cond (not (eqb h.number number)) a h (closed number hs) r.0 (less-closed a number hs r.1)

rising-cond : (b : Bool) (h : Handle) (hs : List Handle) → Less h.number hs → IsStrictlySortedBy nat_cmp (map (λ (x : Handle). x.number) hs) →
    IsStrictlySortedBy nat_cmp (map (λ (x : Handle). x.number) (cond b (h ∷ hs) hs))
unfolding IsStrictlySortedBy
rising-cond true h hs l r = (l, r)
rising-cond false h hs l r = r

rising-closed : (number : ℕ) (hs : List Handle) → IsStrictlySortedBy nat_cmp (map (λ (x : Handle). x.number) hs) → IsStrictlySortedBy nat_cmp (map (λ (x : Handle). x.number) (closed number hs))
unfolding IsStrictlySortedBy
rising-closed number [] r = tt
rising-closed number (h ∷ hs) r =
    rising-cond (not (eqb h.number number)) h (closed number hs) (less-closed h.number number hs r.0) (rising-closed number hs r.1)

-- handles turned keep their numbers
below-turned : (n : ℕ) (gone : Path → Bool) (hs : List Handle) → AllByRecursion (λ (h : Handle). h.number < n) hs → AllByRecursion (λ (h : Handle). h.number < n) (turned_past gone hs)
below-turned n gone [] b = tt
below-turned n gone (h ∷ hs) b = (b.0, below-turned n gone hs b.1)

numbers-turned : (gone : Path → Bool) (hs : List Handle) → map (λ (h : Handle). h.number) (turned_past gone hs) ≡ map (λ (h : Handle). h.number) hs
numbers-turned gone [] = refl
numbers-turned gone (h ∷ hs) = ap (λ (ns : List ℕ). h.number ∷ ns) (numbers-turned gone hs)

rising-turned : (n : ℕ) (gone : Path → Bool) (hs : List Handle) → AreRising n hs → AreRising (n + 1) (turned_past gone hs)
rising-turned n gone hs r =
    record { below = rising-weaker n (turned_past gone hs) (below-turned n gone hs r.below); rising = rw (numbers-turned gone hs) r.rising }

rising-pushed : (w : World) (n : ℕ) (e : Entry) (p : Path) (mask : ℕ) → e.number ≡ n → AreRising n w.handles → AreRising (n + 1) (w.handles ++ opened e p mask ∷ [])
rising-pushed w n e p mask number r =
    record { below = below-push n w.handles (opened e p mask) number r.below; rising = rising-push n w.handles (opened e p mask) number r.below r.rising }

rising-after : (w : World) (n : ℕ) (e : Entry) → e.number ≡ n → AreRising n w.handles → AreRising (n + 1) (after w e).handles
unfolding after
rising-after w n e number r = elim e.change as (λ (change : Change). AreRising (n + 1) (after w (record e { change = change })).handles) [
  | OpenRoot mask ↦ rising-pushed w n e [] mask number r
  | OpenKey h path mask ↦ rising-pushed w n e (path_from e.session h w.handles path) mask number r
  | CreateKey h path mask given ↦ rising-pushed w n e (path_from e.session h w.handles path) mask number r
  | SetValue h name kind bytes ↦ record { below = rising-weaker n w.handles r.below; rising = r.rising }
  | DeleteValue h name ↦ record { below = rising-weaker n w.handles r.below; rising = r.rising }
  | DeleteKey h path ↦ rising-turned n (λ (q : Path). same_path q (path_from e.session h w.handles path)) w.handles r
  | DeleteTree h path ↦ in-either (λ (v : World). AreRising (n + 1) v.handles) (length path == 0) _ _
      (rising-turned n (is_under (path_at e.session h w.handles)) w.handles r) (rising-turned n (is_within (path_from e.session h w.handles path)) w.handles r)
  | SetSecurity h descriptor ↦ record { below = rising-weaker n w.handles r.below; rising = r.rising }
  | Notify h filter subtree ↦ record { below = rising-weaker n w.handles r.below; rising = r.rising }
  | Close h ↦ record { below = rising-weaker n (closed h w.handles) (below-closed n h w.handles r.below); rising = rising-closed h w.handles r.rising }
]

pub rising-all : (base : ℕ) (origin : Tree) (es : List Entry) → IsLegal base origin es → AreRising (base + length es) (replay origin es).handles
rising-all base origin es l =
    by_entries base origin (λ past. AreRising (base + length past) (replay origin past).handles)
    (λ past e f r. let long = length-append past (e ∷ []) in
    subst (λ (n : ℕ). AreRising n (replay origin (past ++ e ∷ [])).handles) (omega (arith, long))
    (subst (λ (w : World). AreRising (base + length past + 1) w.handles) (sym (replay-push origin past e))
    (rising-after (replay origin past) (base + length past) e f.number r))) [] es (rising-none (base + 0)) l

-- the handles of a legal journal have numbers of its entries
pub handles-below : (base : ℕ) (origin : Tree) (es : List Entry) → IsLegal base origin es → All (λ (h : Handle). h.number < base + length es) (replay origin es).handles
handles-below base origin es l =
    All-from_recursion (λ (h : Handle). h.number < base + length es) (replay origin es).handles (rising-all base origin es l).below

-- and these rise
pub handles-rise : (base : ℕ) (origin : Tree) (es : List Entry) → IsLegal base origin es → IsStrictlyIncreasing (map (λ (h : Handle). h.number) (replay origin es).handles)
handles-rise base origin es l =
    IsStrictlyIncreasing-from_sorted (map (λ (h : Handle). h.number) (replay origin es).handles) (rising-all base origin es l).rising

-- a handle whose number none has is found by it
pub numbered-push : (n : ℕ) (hs : List Handle) (h : Handle) → h.number ≡ n → AllByRecursion (λ (x : Handle). x.number < n) hs → numbered n (hs ++ h ∷ []) ≡ Some h
numbered-push n [] h e b = rw (eq-eqb h.number n e) refl
numbered-push n (x ∷ hs) h e b = rw (ne_eqb x.number n (λ same. omega (arith, b.0))) (numbered-push n hs h e b.1)

opening-is : (x y : Opening) → Some x ≡ Some y → x ≡ y
opening-is x y e = cc

-- a handle that an entry opens is found by the entry's number
opened-one : (w : World) (e : Entry) (base : Path) (x y : Opening) → AreRising e.number w.handles → Some x ≡ Some y →
    look e.session e.number (w.handles ++ opened e (base ++ folded_path x.path) x.mask ∷ []) ≡ Some (opened e (base ++ folded_path y.path) y.mask)
opened-one w e base x y r same =
    rw (numbered-push e.number w.handles (opened e (base ++ folded_path x.path) x.mask) refl r.below, eq-eqb e.session e.session refl)
    (ap (λ (o : Opening). Some (opened e (base ++ folded_path o.path) o.mask)) (opening-is x y same))

abbrev Opens : World → Entry → Opening → Change → Type 0
Opens w e o change = (rule_of change).opens ≡ Some o →
    look e.session e.number (after w (record e { change = change })).handles ≡ Some (opened e (path_asked w e.session (rule_of change).of ++ folded_path o.path) o.mask)

opened-after : (w : World) (e : Entry) (o : Opening) → AreRising e.number w.handles → Opens w e o e.change
unfolding after
opened-after w e o r = elim e.change as (Opens w e o) [
  | OpenRoot mask ↦ opened-one w e [] (record { path = []; mask = mask }) o r
  | OpenKey h path mask ↦ opened-one w e (path_at e.session h w.handles) (record { path = path; mask = mask }) o r
  | CreateKey h path mask given ↦ opened-one w e (path_at e.session h w.handles) (record { path = path; mask = mask }) o r
  | SetValue h name kind bytes ↦ λ none. absurd (cc)
  | DeleteValue h name ↦ λ none. absurd (cc)
  | DeleteKey h path ↦ λ none. absurd (cc)
  | DeleteTree h path ↦ λ none. absurd (cc)
  | SetSecurity h descriptor ↦ λ none. absurd (cc)
  | Notify h filter subtree ↦ λ none. absurd (cc)
  | Close h ↦ λ none. absurd (cc)
]

-- the session of an entry that opens a handle finds it by the entry's number
pub handle-opened : (base : ℕ) (origin : Tree) (past : List Entry) (e : Entry) (o : Opening) → IsLegal base origin past → IsFit base origin past e →
    (rule_of e.change).opens ≡ Some o → look e.session e.number (replay origin (past ++ e ∷ [])).handles ≡
    Some (opened e (path_asked (replay origin past) e.session (rule_of e.change).of ++ folded_path o.path) o.mask)
handle-opened base origin past e o l f is =
    let r : AreRising e.number (replay origin past).handles = rw f.number (rising-all base origin past l) in
    rw (replay-push origin past e) (opened-after (replay origin past) e o r is)

-- and the reply names it
pub handle-told : (base : ℕ) (origin : Tree) (past : List Entry) (e : Entry) (o : Opening) → IsFit base origin past e → (rule_of e.change).opens ≡ Some o → e.reply.handle ≡ Some e.number
unfolding reply_to
handle-told base origin past e o f is = rw (f.reply, is, f.number) refl

-- ---- the root, and the keys that handles lead to

pub standing-all : (base : ℕ) (origin : Tree) (es : List Entry) → IsLegal base origin es → Has origin [] → Upright (replay origin es).tree (replay origin es).handles
standing-all base origin es l h =
    by_entries base origin (λ past. Upright (replay origin past).tree (replay origin past).handles)
    (λ past e f r. subst (λ (w : World). Upright w.tree w.handles) (sym (replay-push origin past e)) (standing-after (state_of base origin past) e r 0 f.accepted)) [] es (record { root = h; stand = tt }) l

-- a tree that holds its root holds it after a legal journal
pub root-stays : (base : ℕ) (origin : Tree) (es : List Entry) → IsLegal base origin es → Has origin [] → Has (replay origin es).tree []
root-stays base origin es l h = let r = standing-all base origin es l h in r.root

-- every handle that leads to a key leads to one that is there
pub handles-stand : (base : ℕ) (origin : Tree) (es : List Entry) → IsLegal base origin es → Has origin [] → Stands (replay origin es).tree (replay origin es).handles
handles-stand base origin es l h = let r = standing-all base origin es l h in r.stand

pub all-stand : (base : ℕ) (origin : Tree) (es : List Entry) → IsLegal base origin es → Has origin [] → All (λ (h : Handle). StandsIn (replay origin es).tree h.destination) (replay origin es).handles
all-stand base origin es l h =
    All-from_recursion (λ (h : Handle). StandsIn (replay origin es).tree h.destination) (replay origin es).handles (handles-stand base origin es l h)

-- a legal journal's replay stands
pub is_standing : (base : ℕ) (origin : Tree) (es : List Entry) → IsLegal base origin es → Has origin [] → IsStanding (replay origin es).tree (replay origin es).handles
is_standing base origin es l h = record { root = root-stays base origin es l h; stand = all-stand base origin es l h }
