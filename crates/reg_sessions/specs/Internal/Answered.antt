-- What a hive says of a call that it answered, whether or not the share was current.
use Rattle.std.specs.Prelude.{◌≡◌, ℕ, Option, Some}
use Rattle.reg_model.specs.Callbacks.{Callbacks, change_status}
use Rattle.reg_model.specs.Causes.{change_cause}
use Rattle.reg_model.specs.Replies.{refusal}
use Rattle.reg_model.specs.declared.answer.Answer.{Answer}
use Rattle.reg_model.specs.declared.answer.AnswerBody.TheVariants.{Refused}
use Rattle.reg_model.specs.declared.call.Change.{Change}
use Rattle.reg_model.specs.declared.call.Query.{Query}
use Rattle.reg_model.specs.declared.reply.ChangeReply.{ChangeReply}
use Rattle.reg_model.specs.declared.statuses.TheConstants.{BAD_DATABASE}
use Rattle.reg_journal.specs.Kept.{Seat, IsCurrent}
use Rattle.reg_calls.specs.Views.{Booked, next_of, state, IsApplied, IsRead}

-- of a change, where its callbacks are these
pub record IsAnswered (k : Callbacks) (old new : Booked) (share after : Seat) (moment : ℕ) (change : Change) (reply : ChangeReply) : Type 0 where
  pub noted : new.noted ≡ old.noted
  pub applied : IsCurrent old.noted old.view.journal share → IsApplied k old.view new.view share.session moment change reply
  pub current : IsCurrent old.noted old.view.journal share → IsCurrent new.noted new.view.journal after
  pub session : after.session ≡ share.session
  pub stale : (IsCurrent old.noted old.view.journal share → ⊥) → (reply ≡ refusal BAD_DATABASE) × (new.view ≡ old.view) × (after ≡ share)

-- of a change's cause
pub record IsCauseOf (k : Callbacks) (b : Booked) (share : Seat) (moment : ℕ) (change : Change) (told : Option ℕ) : Type 0 where
  pub cause : IsCurrent b.noted b.view.journal share
      → told ≡ change_cause (state b.view) share.session change (change_status k (state b.view).world share.session moment change)
  pub stale : (IsCurrent b.noted b.view.journal share → ⊥) → told ≡ Some BAD_DATABASE

-- of a question
pub record IsAsked (k : Callbacks) (b : Booked) (share : Seat) (query : Query) (answer : Answer) : Type 0 where
  pub at : answer.at ≡ next_of b.view
  pub body : IsCurrent b.noted b.view.journal share → IsRead k (state b.view) share.session query answer.body
  pub stale : (IsCurrent b.noted b.view.journal share → ⊥) → answer.body ≡ Refused BAD_DATABASE
