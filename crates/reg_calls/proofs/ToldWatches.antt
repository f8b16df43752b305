-- What is announced of a change, and what its watches are told.
use Rattle.std.proofs.Common.{◌≡◌, ℕ, Bool, true, false, not, cond, eqb, is_some, List, [], ◌∷◌, ◌++◌, filter, Option, Some, None, refl, sym, ap, ◌∙◌, subst}
use Rattle.std.specs.Prelude.{get_or}
use Rattle.std.specs.List.{AllByRecursion}
use Rattle.std.proofs.lemmas.List.{append-nil}
use Rattle.std.proofs.lemmas.List.Elements.{filter-append, filter_map-append}
use Rattle.reg_model.specs.declared.call.Change.{Change}
use Rattle.reg_model.specs.declared.reply.ChangeReply.{ChangeReply}
use Rattle.reg_model.specs.declared.notice.Notice.{Notice}
use Rattle.reg_model.specs.declared.notice.Reason.{Reason}
use Rattle.reg_model.specs.Watches.{Watch, Ending, few_ending, reason, stays, notice_for, notice_to, notices}
use Rattle.reg_model.specs.Calls.{entry_due}
use Rattle.reg_notify.specs.Tables.{Table, told_to}
use Rattle.reg_notify.specs.Asked.{Fires, Adds}
use Rattle.reg_calls.specs.declared.store.Store.{Store}
use Rattle.reg_calls.specs.declared.announced.Announced.{Announced}
use Rattle.reg_calls.specs.declared.announced.Announced.TheVariants.{Nothing, Changes, Closes}
use Rattle.reg_calls.specs.Internal.Stores.{at, world_of, Asks, GoesOver, IsDone, IsCarriedOut}
use Rattle.reg_calls.specs.declared.store.JournalEnd.{JournalEnd}
use Rattle.reg_calls.specs.Internal.Announcements.{ending_in, IsAnnounced}

-- ---- endings that end nothing

-- an ending without events, removed keys and a closed handle ends no watch
pub nothing-ends : (by : ℕ) (v : Watch) → reason (ending_in Nothing by) v ≡ None
unfolding reason
nothing-ends by v = refl

stays-none : (x : Ending) (v : Watch) → reason x v ≡ None → stays x v ≡ true
stays-none x v e = ap (λ (o : Option Reason). not (is_some o)) e

told-none : (session : ℕ) (x : Ending) (v : Watch) → reason x v ≡ None → notice_to session x v ≡ None
told-none session x v e = ap (λ (o : Option Reason). cond (eqb v.session session) (notice_for v.number x.by o) None) e ∙ by (eqb v.session session)
  where
    by : (b : Bool) → ◌≡◌ {A = Option Notice} (cond b None None) None
    by true = refl
    by false = refl

all-stay : (x : Ending) → ((v : Watch) → reason x v ≡ None) → (vs : List Watch) → filter (stays x) vs ≡ vs
all-stay x none [] = refl
all-stay x none (v ∷ vs) = rw (stays-none x v (none v), all-stay x none vs) refl

none-told : (session : ℕ) (x : Ending) → ((v : Watch) → reason x v ≡ None) → (vs : List Watch) → notices session x vs ≡ []
none-told session x none [] = refl
none-told session x none (v ∷ vs) = rw (told-none session x v (none v), none-told session x none vs) refl

pub nothing-fires : (announced : Announced) (by : ℕ) (w : Table) → announced ≡ Nothing → Fires (ending_in announced by) w w
nothing-fires announced by w is = subst (λ (a : Announced). Fires (ending_in a by) w w) (sym is) (record {
  pending = sym (all-stay (ending_in Nothing by) (nothing-ends by) w.pending);
  told = λ session. sym (ap (λ (more : List Notice). told_to w session ++ more) (none-told session (ending_in Nothing by) (nothing-ends by) w.pending) ∙ append-nil (told_to w session));
  taken = refl;
})

-- ---- an ending that is announced, in the place of the one due

-- both end some watches for the same reasons
abbrev pub Agree : Ending → Ending → List Watch → Type 0
Agree x y vs = AllByRecursion (λ (v : Watch). reason x v ≡ reason y v) vs

pub agree-all : (x y : Ending) → ((v : Watch) → reason x v ≡ reason y v) → (vs : List Watch) → Agree x y vs
agree-all x y same [] = tt
agree-all x y same (v ∷ vs) = (same v, agree-all x y same vs)

same-stay : (x y : Ending) (vs : List Watch) → Agree x y vs → filter (stays x) vs ≡ filter (stays y) vs
same-stay x y [] same = refl
same-stay x y (v ∷ vs) same = rw (same.0, same-stay x y vs same.1) refl

same-told : (session : ℕ) (x y : Ending) → x.by ≡ y.by → (vs : List Watch) → Agree x y vs → notices session x vs ≡ notices session y vs
same-told session x y by [] same = refl
same-told session x y by (v ∷ vs) same = rw (one, same-told session x y by vs same.1) refl
  where
    one : notice_to session x v ≡ notice_to session y v
    one = λ i. cond (eqb v.session session) (notice_for v.number (by i) (same.0 i)) None

module _ (x y : Ending) (old mid new : Table) (by : x.by ≡ y.by) (same : Agree x y old.pending) (fires : Fires x mid new) where
  over-none : mid ≡ old → GoesOver y None old new
  over-none e =
      let f : Fires x old new = subst (λ (w : Table). Fires x w new) e fires in
      record {
        pending = f.pending ∙ same-stay x y old.pending same ∙ sym (append-nil (filter (stays y) old.pending));
        told = λ session. f.told session ∙ ap (λ (more : List Notice). told_to old session ++ more) (same-told session x y by old.pending same);
        taken = f.taken;
      }

  module _ (v : Watch) (spared : reason x v ≡ None) (adds : Adds v old mid) where
    kept-one : filter (stays x) (v ∷ []) ≡ v ∷ []
    kept-one = rw (stays-none x v spared) refl

    told-one : (session : ℕ) → notices session x (v ∷ []) ≡ []
    told-one session = rw (told-none session x v spared) refl

    over-some : GoesOver y (Some v) old new
    over-some = record {
      pending =
          fires.pending ∙ ap (filter (stays x)) adds.pending ∙ filter-append (stays x) old.pending (v ∷ [])
          ∙ ap (λ (vs : List Watch). filter (stays x) old.pending ++ vs) kept-one
          ∙ ap (λ (vs : List Watch). vs ++ v ∷ []) (same-stay x y old.pending same);
      told = λ session.
          fires.told session
          ∙ ap (λ (vs : List Watch). told_to mid session ++ notices session x vs) adds.pending
          ∙ ap (λ (more : List Notice). told_to mid session ++ more)
          (filter_map-append (notice_to session x) old.pending (v ∷ []) ∙ ap (λ (more : List Notice). notices session x old.pending ++ more) (told-one session)
          ∙ append-nil (notices session x old.pending) ∙ same-told session x y by old.pending same)
          ∙ ap (λ (told : List (List Notice)). get_or told session [] ++ notices session y old.pending) adds.told;
      taken = fires.taken ∙ adds.taken;
    }

  over : (asked : Option Watch) → ((v : Watch) → asked ≡ Some v → reason x v ≡ None) → Asks asked old mid → GoesOver y asked old new
  over None spares asks = over-none asks
  over (Some v) spares asks = over-some v (spares v refl) asks

numbered-so : (a : Announced) (store : Store) (session moment : ℕ) (n : JournalEnd) (change : Change) →
    (ending_in a n.next).by ≡ (few_ending (world_of store) (entry_due (at n store) session moment change)).by
unfolding few_ending
numbered-so Nothing store session moment n change = refl
numbered-so (Changes events removed) store session moment n change = refl
numbered-so (Closes handle) store session moment n change = refl

-- a change that was made, and the watches told that it ends
pub carried-out : (old mid new : Store) (session moment : ℕ) (n : JournalEnd) (change : Change) (told : ChangeReply) (announced : Announced) → IsDone old mid session moment n change told →
    IsAnnounced n old session change announced → new.tree ≡ mid.tree → new.handles ≡ mid.handles → Fires (ending_in announced n.next) mid.watches new.watches →
    IsCarriedOut old new session moment n change told
carried-out old mid new session moment n change told announced done ann tree handles fires =
    subst (λ (s : Store). IsCarriedOut old s session moment n change told) (sym same) (record {
      world = done.world;
      reply = done.reply;
      kept_keys = done.kept_keys;
      kept = done.kept;
      grows = done.grows;
      known = done.known;
      watches = over (ending_in announced n.next) _ old.watches mid.watches new.watches (numbered-so announced old session moment n change) (ann.ends moment) fires _ (ann.spares moment) done.watches;
    })
  where
    same : new ≡ record mid { watches = new.watches }
    same = λ i. record { tree = tree i; handles = handles i; watches = new.watches }
