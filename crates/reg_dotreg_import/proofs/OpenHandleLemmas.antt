-- A handle that is open stays so, and leads where it led, while others are opened and closed and keys go.
use Rattle.std.proofs.Common.{◌≡◌, ◌≢◌, ℕ, ◌<◌, Bool, true, false, cond, eqb, List, [], ◌∷◌, ◌++◌, Option, Some, None, refl, sym, ap, ◌∙◌, inl, inr, ◌⊎◌, arith, is_some}
use Rattle.std.specs.List.{AllByRecursion}
use Rattle.std.specs.Option.{option_map}
use Rattle.std.proofs.lemmas.Bool.{eq-eqb, ne_eqb}
use Rattle.reg_heap.specs.Paths.{Path}
use Rattle.reg_model.specs.Worlds.{Handle, Destination, At, Deleted, opened, closed, destination_past, turned_past, numbered, owned, look, path_at}
use Rattle.reg_model.specs.declared.reply.Entry.{Entry}
use Rattle.reg_model.proofs.AcceptedCalls.{Target, target-path}
use Rattle.reg_model.proofs.LegalJournals.{numbered-push}
use Rattle.reg_model.proofs.HandlesUntilClosed.{numbered-more, numbered-others, numbered-turned, turned_one, numbered-below, owner-is, found}
use Rattle.reg_dotreg_import.specs.declared.entries.TheConstants.{ALL_RIGHTS}
use Rattle.reg_dotreg_import.specs.ImportStops.{IsOpenAt}

-- a handle stays open where the look-up by its number finds what it found
open-same : (hs now : List Handle) (n : ℕ) (p : Path) → numbered n now ≡ numbered n hs → IsOpenAt hs n p → IsOpenAt now n p
open-same hs now n p same o = record { handle = o.handle; found = ap (owned 0) same ∙ o.found; rights = o.rights; leads = o.leads }

-- its number is one that was given already
pub open-below : (hs : List Handle) (n m : ℕ) (p : Path) → AllByRecursion (λ (x : Handle). x.number < m) hs → IsOpenAt hs n p → n < m
open-below hs n m p below o = let f = found 0 n hs o.handle o.found in numbered-below n m hs o.handle below f.number

pub open-more : (hs : List Handle) (new : Handle) (n : ℕ) (p : Path) → n < new.number → IsOpenAt hs n p → IsOpenAt (hs ++ new ∷ []) n p
open-more hs new n p below o =
    open-same hs (hs ++ new ∷ []) n p (numbered-more n new hs (ne_eqb new.number n (λ same. omega (arith, below, same)))) o

pub open-closed : (hs : List Handle) (k n : ℕ) (p : Path) → n ≢ k → IsOpenAt hs n p → IsOpenAt (closed k hs) n p
open-closed hs k n p other o = open-same hs (closed k hs) n p (numbered-others n k hs (ne_eqb n k other)) o

-- a new handle of session 0 is open
pub open-new : (hs : List Handle) (e : Entry) (p : Path) → e.session ≡ 0 → AllByRecursion (λ (x : Handle). x.number < e.number) hs →
    IsOpenAt (hs ++ opened e p ALL_RIGHTS ∷ []) e.number p
open-new hs e p mine below = record {
  handle = opened e p ALL_RIGHTS;
  found = ap (owned 0) (numbered-push e.number hs (opened e p ALL_RIGHTS) refl below)
      ∙ ap (λ (b : Bool). cond b (Some (opened e p ALL_RIGHTS)) None) (eq-eqb e.session 0 mine);
  rights = refl;
  leads = inl refl;
}

-- where a handle leads, or nowhere
past-either : (gone : Path → Bool) (p : Path) (d : Destination) → (d ≡ At p) ⊎ (d ≡ Deleted) →
    (destination_past gone d ≡ At p) ⊎ (destination_past gone d ≡ Deleted)
past-either gone p (At q) (inl e) = by (gone q)
  where
    by : (b : Bool) → (cond b Deleted (At q) ≡ At p) ⊎ (cond b Deleted (At q) ≡ Deleted)
    by true = inr refl
    by false = inl e
past-either gone p (At q) (inr e) = absurd (cc)
past-either gone p Deleted (inl e) = absurd (cc)
past-either gone p Deleted (inr e) = inr refl

pub open-turned : (hs : List Handle) (gone : Path → Bool) (n : ℕ) (p : Path) → IsOpenAt hs n p → IsOpenAt (turned_past gone hs) n p
open-turned hs gone n p o =
    let f = found 0 n hs o.handle o.found in
    let mine = owner-is 0 o.handle (eqb o.handle.session 0) refl (ap is_some f.owner) in
    record {
      handle = turned_one gone o.handle;
      found = ap (owned 0) (numbered-turned n gone hs ∙ ap (option_map (turned_one gone)) f.number)
          ∙ ap (λ (b : Bool). cond b (Some (turned_one gone o.handle)) None) (eq-eqb o.handle.session 0 mine);
      rights = o.rights;
      leads = past-either gone p o.handle.destination o.leads;
    }

led : (p q : Path) (d : Destination) → (d ≡ At p) ⊎ (d ≡ Deleted) → d ≡ At q → q ≡ p
led p q d (inl e) is = cc
led p q d (inr e) is = absurd (cc)

one-handle : (a b : Handle) → ◌≡◌ {A = Option Handle} (Some a) (Some b) → a ≡ b
one-handle a b e = cc

-- where its key is asked for, that is the key at its path
pub open-path : (hs : List Handle) (n : ℕ) (p : Path) → IsOpenAt hs n p → Target (look 0 n hs) → path_at 0 n hs ≡ p
open-path hs n p o t =
    let same = one-handle o.handle t.handle (sym o.found ∙ t.found) in
    target-path 0 n hs t ∙ led p t.path o.handle.destination o.leads (ap (λ (h : Handle). h.destination) same ∙ t.destination)

pub open-some : (hs : List Handle) (n : ℕ) (p : Path) → IsOpenAt hs n p → is_some (look 0 n hs) ≡ true
open-some hs n p o = ap is_some o.found
