-- What an admission says of a change.
use Rattle.std.proofs.Common.{◌≡◌, ◌⊎◌, ℕ, false, List, Some, None, sym, ap, ◌∙◌, subst, inl, inr}
use Rattle.std.specs.Prelude.{Err}
use Rattle.reg_heap.specs.Paths.{Tree}
use Rattle.reg_model.specs.declared.statuses.TheConstants.{NOT_ENOUGH_MEMORY, NO_SYSTEM_RESOURCES}
use Rattle.reg_model.specs.Histories.{state_of}
use Rattle.reg_model.specs.declared.reply.Entry.{Entry}
use Rattle.reg_model.specs.declared.notice.Notice.{Notice}
use Rattle.reg_model.specs.Callbacks.{Callbacks, change_status}
use Rattle.reg_model.specs.Causes.{asked_before}
use Rattle.reg_model.specs.Replies.{refusal}
use Rattle.reg_model.specs.declared.reply.ChangeReply.{ChangeReply}
use Rattle.reg_model.specs.declared.call.Change.{Change}
use Rattle.reg_calls.specs.declared.store.Store.{Store}
use Rattle.reg_calls.specs.declared.store.JournalEnd.{JournalEnd}
use Rattle.reg_calls.specs.declared.changes.Admitted.{Admitted}
use Rattle.reg_calls.specs.declared.changes.Admitted.TheVariants.{OpenRoot, OpenKey, CreateKey, SetValue, DeleteValue, DeleteKey, DeleteTree, SetSecurity, Notify, Close}
use Rattle.reg_calls.specs.declared.refusal.Refusal.{Refusal}
use Rattle.reg_calls.specs.declared.refusal.Refusal.TheVariants.{Cause, Memory}
use Rattle.reg_calls.specs.declared.lack.Lack.{Lack}
use Rattle.reg_calls.specs.declared.lack.Lack.TheVariants.{Space, Memory as Short}
use Rattle.reg_calls.specs.Shortages.{LacksSpace, is_closing}
use Rattle.reg_calls.specs.Internal.Stores.{at, world_of, IsMade}
use Rattle.reg_calls.specs.Internal.Admissions.{IsClear, Admits, IsNotAdmitted, status_told}
use Rattle.reg_calls.specs.Views.{View, view_with, state, status_of, IsApplied}
use Rattle.reg_calls.proofs.HiveInvariantLemmas.{applied-by, view-unchanged}
use Rattle.reg_calls.proofs.KnownKeys.{unmade}
use Rattle.reg_calls.proofs.RefusalTests.{still-clear}

-- nothing refuses a change that was admitted
pub admits-clear : (end : JournalEnd) (store : Store) (session : ℕ) (change : Change) (admitted : Admitted) → Admits end store session change admitted → IsClear end store session change
admits-clear end store session change (OpenRoot found) a = subst (IsClear end store session) (sym a.0) a.1
admits-clear end store session change (OpenKey found) a = subst (IsClear end store session) (sym a.2) a.3.clear
admits-clear end store session change (CreateKey found) a = subst (IsClear end store session) (sym a.2) a.3.clear
admits-clear end store session change (SetValue found) a = subst (IsClear end store session) (sym a.1) a.2.clear
admits-clear end store session change (DeleteValue found) a = subst (IsClear end store session) (sym a.2) a.3.clear
admits-clear end store session change (DeleteKey found) a = subst (IsClear end store session) (sym a.2) a.3.clear
admits-clear end store session change (DeleteTree found) a = subst (IsClear end store session) (sym a.2) a.3.clear
admits-clear end store session change (SetSecurity found) a = subst (IsClear end store session) (sym a.1) a.2.clear
admits-clear end store session change (Notify found) a = subst (IsClear end store session) (sym a.0) a.1
admits-clear end store session change (Close found) a = subst (IsClear end store session) (sym a.0) a.1

-- one that wasn't is refused, and nothing changed
pub refused-as : (callbacks : Callbacks) (v new : View) (session moment : ℕ) (change : Change) (reply : ChangeReply) (n : JournalEnd) (store : Store) (why : Refusal) → state v ≡ at n store →
    IsNotAdmitted (change_status callbacks (world_of store) session moment change) n store session change why → reply ≡ refusal (status_told why) → new ≡ v →
    IsApplied callbacks v new session moment change reply
refused-as callbacks v new session moment change reply n store (Cause status) is cause told same =
    applied-by callbacks v new session moment change reply n store (Some status) is (sym cause) (told, same)
refused-as callbacks v new session moment change reply n store Memory is short told same =
    applied-by callbacks v new session moment change reply n store None is (sym (still-clear (at n store) session _ change short.0 short.2)) (inr (record { why = inl (told, short.1); same = same }))

-- one that was, and for which space or memory was wanting, isn't made, and nothing changed
pub given-up : (callbacks : Callbacks) (origin : Tree) (base : ℕ) (before : List (List Notice)) (es : List Entry) (store new : Store) (session moment : ℕ) (n : JournalEnd) (change : Change) (reply : ChangeReply) (lack : Lack) →
    state_of base origin es ≡ at n store → IsClear n store session change →
    asked_before change (change_status callbacks (world_of store) session moment change) ≡ None → IsMade store new session moment n change (Err lack) →
    reply ≡ refusal (status_of lack) → (v w : View) →
    view_with origin base before es store ≡ v → w ≡ view_with origin base before es new → IsApplied callbacks v w session moment change reply
given-up callbacks origin base before es store new session moment n change reply lack is clear none made told v w was now =
    applied-by callbacks v w session moment change reply n store None (ap state (sym was) ∙ is) (sym (still-clear (at n store) session _ change clear none))
    (inr (record { why = why lack made told; same = now ∙ view-unchanged origin base before es (unmade store new session moment n change lack made) ∙ was }))
  where
    spaced : LacksSpace store.tree store.handles.handles session change → LacksSpace v.keys v.handles session change
    spaced lacks = subst (λ (x : View). LacksSpace x.keys x.handles session change) was lacks

    why : (l : Lack) → IsMade store new session moment n change (Err l) → reply ≡ refusal (status_of l) →
        ((reply ≡ refusal NOT_ENOUGH_MEMORY) × (is_closing change ≡ false)) ⊎ ((reply ≡ refusal NO_SYSTEM_RESOURCES) × LacksSpace v.keys v.handles session change)
    why Space m t = inr (t, spaced m.1)
    why Short m t = inl (t, m.1)
