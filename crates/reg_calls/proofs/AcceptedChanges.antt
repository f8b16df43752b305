-- A change that is told the status 0 is one entry more; told another one, it leaves the hive.
use Rattle.std.proofs.Common.{◌≡◌, ℕ, ◌+◌, List, [], ◌∷◌, length, length-append, sym, ap, ◌∙◌, arith, Option, Some, None, ◌⊎◌, inl, inr}
use Rattle.std.specs.Prelude.{◌≢◌}
use Rattle.reg_model.specs.Replies.{refusal, reply_to}
use Rattle.reg_model.specs.Causes.{change_cause}
use Rattle.reg_model.specs.declared.call.Change.{Change}
use Rattle.reg_model.specs.declared.reply.Entry.{Entry}
use Rattle.reg_model.specs.declared.reply.ChangeReply.{ChangeReply}
use Rattle.reg_model.proofs.CallSteps.{not_zero}
use Rattle.reg_calls.specs.Views.{View, IsAccepted, IsAppliedBy, entry_of, next_of, state}

lacking : {X Y : Type 0} (reply : ChangeReply) → ((reply ≡ refusal 8) × X) ⊎ ((reply ≡ refusal 1450) × Y) → reply.status ≡ 0 → ⊥
lacking reply (inl h) z = let e = ap (λ (r : ChangeReply). r.status) h.0 in omega (arith, e, z)
lacking reply (inr h) z = let e = ap (λ (r : ChangeReply). r.status) h.0 in omega (arith, e, z)

grown : (cause : Option ℕ) (old new : View) (session moment : ℕ) (change : Change) (reply : ChangeReply) → cause ≢ Some 0
    → IsAppliedBy cause old new session moment change reply → reply.status ≡ 0 → next_of new ≡ next_of old + 1
grown (Some status) old new session moment change reply not h z =
    absurd (not (ap (λ (n : ℕ). Some n) (sym (ap (λ (r : ChangeReply). r.status) h.0) ∙ z)))
grown None old new session moment change reply not (inl h) z =
    let more = ap (λ (es : List Entry). length es) h.journal ∙ length-append old.journal (entry_of old session moment change ∷ []) in
    let base = h.base in
    omega (arith, more, base)
grown None old new session moment change reply not (inr h) z = absurd (lacking reply h.why z)

-- whatever status the callbacks answer
pub accepted : (status : ℕ) (old new : View) (session moment : ℕ) (change : Change) (reply : ChangeReply)
    → IsAppliedBy (change_cause (state old) session change status) old new session moment change reply → reply.status ≡ 0
    → next_of new ≡ next_of old + 1
accepted status old new session moment change reply h z = grown _ old new session moment change reply (not_zero (state old) session change status) h z

-- a change leaves the hive, or it is accepted
pub either : (cause : Option ℕ) (old new : View) (session moment : ℕ) (change : Change) (reply : ChangeReply)
    → IsAppliedBy cause old new session moment change reply → (new ≡ old) ⊎ IsAccepted old new session moment change reply
either (Some status) old new session moment change reply h = inl h.1
either None old new session moment change reply (inl h) = inr h
either None old new session moment change reply (inr h) = inl h.same

zero_told : (old new : View) (session moment : ℕ) (change : Change) (reply : ChangeReply) → IsAccepted old new session moment change reply → reply.status ≡ 0
unfolding reply_to
zero_told old new session moment change reply h = ap (λ (r : ChangeReply). r.status) h.says

-- one that is told another status than 0 leaves it
pub refused : (cause : Option ℕ) (old new : View) (session moment : ℕ) (change : Change) (reply : ChangeReply)
    → IsAppliedBy cause old new session moment change reply → reply.status ≢ 0 → new ≡ old
refused cause old new session moment change reply h other = by (either cause old new session moment change reply h)
  where
    by : (new ≡ old) ⊎ IsAccepted old new session moment change reply → new ≡ old
    by (inl same) = same
    by (inr a) = absurd (other (zero_told old new session moment change reply a))
