-- One call of a change: what it is told, and where it leaves the hive.
use Rattle.std.specs.Prelude.{ℕ, ◌+◌, ◌==◌, Option, Some, None, Bool, true, false, not}
use Rattle.reg_model.specs.Worlds.{after}
use Rattle.reg_model.specs.Watches.{ending, watch_of, pending_past}
use Rattle.reg_model.specs.Causes.{State, change_cause}
use Rattle.reg_model.specs.Replies.{reply_to, refusal}
use Rattle.reg_model.specs.declared.call.Change.{Change}
use Rattle.reg_model.specs.declared.call.Change.TheVariants.{OpenRoot, OpenKey, CreateKey, SetValue, DeleteValue, DeleteKey, DeleteTree, SetSecurity, Notify, Close}
use Rattle.reg_model.specs.declared.dispositions.TheConstants.{THERE}
use Rattle.reg_model.specs.declared.reply.Entry.{Entry}
use Rattle.reg_model.specs.declared.reply.ChangeReply.{ChangeReply}

-- the entry of a change that is accepted there
abbrev pub entry_due : State → ℕ → ℕ → Change → Entry
entry_due s session moment change = record { number = s.next; session = session; moment = moment; change = change; reply = reply_to s session change }

-- the reply due, or the refusal that there is
abbrev pub or_refusal : Option ℕ → ChangeReply → ChangeReply
or_refusal None due = due
or_refusal (Some status) due = refusal status

-- what a change is told; c is the callbacks' status
unfoldable pub reply_given : State → ℕ → Change → ℕ → ChangeReply
reply_given s session change c = or_refusal (change_cause s session change c) (reply_to s session change)

-- the next state, or the same where there is a refusal
abbrev pub or_same : Option ℕ → State → State → State
or_same None next s = next
or_same (Some status) next s = s

-- the state after one entry more
abbrev pub state_with : State → Entry → State
state_with s e = record {
  kept = s.kept + 1;
  next = s.next + 1;
  world = after s.world e;
  pending = pending_past (ending s.world e) (watch_of s.world e) s.pending;
}

-- where a change leaves the hive: after one entry more, or where it was
unfoldable pub state_after : State → ℕ → ℕ → Change → ℕ → State
state_after s session moment change c = or_same (change_cause s session change c) (state_with s (entry_due s session moment change)) s

-- the disposition is that of a key that was there already
abbrev pub was_there : Option ℕ → Bool
was_there None = false
was_there (Some disposition) = disposition == THERE

-- whether a change that was accepted with this reply may have changed keys: what opens, watches or closes leaves them as they are, and
-- so does a CreateKey that made no key
unfoldable pub changes_keys : Change → ChangeReply → Bool
changes_keys (OpenRoot mask) reply = false
changes_keys (OpenKey h path mask) reply = false
changes_keys (CreateKey h path mask given) reply = not (was_there reply.disposition)
changes_keys (SetValue h name kind bytes) reply = true
changes_keys (DeleteValue h name) reply = true
changes_keys (DeleteKey h path) reply = true
changes_keys (DeleteTree h path) reply = true
changes_keys (SetSecurity h descriptor) reply = true
changes_keys (Notify h filter subtree) reply = false
changes_keys (Close h) reply = false
