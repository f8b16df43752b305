-- A Close is never answered 8, if any handle of its session is open.
use Rattle.std.proofs.Common.{◌≡◌, ◌≢◌, ◌∙◌, ℕ, Bool, true, false, not, Option, Some, None, inl, inr, arith, refl, sym, ap}
use Rattle.std.specs.Option.{is_some}
use Rattle.reg_callbacks.specs.Asking.{Answers}
use Rattle.reg_journal.specs.Kept.{Seat}
use Rattle.reg_model.specs.Callbacks.{change_status}
use Rattle.reg_model.specs.Causes.{State, ◌or◌, refuse, early_cause, late_cause, change_cause}
use Rattle.reg_model.specs.Replies.{reply_to}
use Rattle.reg_model.specs.Worlds.{look}
use Rattle.reg_model.specs.declared.call.Change.{Change}
use Rattle.reg_model.specs.declared.call.Change.TheVariants.{OpenRoot, OpenKey, CreateKey, SetValue, DeleteValue, DeleteKey, DeleteTree, SetSecurity, Notify, Close}
use Rattle.reg_model.specs.declared.reply.ChangeReply.{ChangeReply}
use Rattle.reg_calls.specs.HiveView.{view_of, asks_of}
use Rattle.reg_calls.specs.Shortages.{is_closing}
use Rattle.reg_calls.specs.Views.{View, state, IsAppliedBy, IsAccepted}
use Rattle.reg_sessions.specs.Locked.{IsLawfulOrLacks}
use Rattle.reg_sessions.specs.Sessions.{closes}
use Rattle.reg_sessions.proofs.Admitted.{status_is}

-- a Close is the change that takes no memory of a hive
closes-closing : (change : Change) → closes change ≡ true → is_closing change ≡ true
closes-closing (OpenRoot mask) e = absurd cc
closes-closing (OpenKey h path mask) e = absurd cc
closes-closing (CreateKey h path mask descriptor) e = absurd cc
closes-closing (SetValue h name kind bytes) e = absurd cc
closes-closing (DeleteValue h name) e = absurd cc
closes-closing (DeleteKey h path) e = absurd cc
closes-closing (DeleteTree h path) e = absurd cc
closes-closing (SetSecurity h descriptor) e = absurd cc
closes-closing (Notify h filter subtree) e = absurd cc
closes-closing (Close h) e = refl

-- 8 is no cause of a Close: that is 6, or none
missing : (b : Bool) → (refuse b 6 or None or None) ≡ Some 8 → ⊥
missing true e = absurd cc
missing false e = absurd cc

close-cause : (s : State) (session : ℕ) (change : Change) (c : ℕ) → closes change ≡ true → change_cause s session change c ≢ Some 8
unfolding early_cause late_cause
close-cause s session (OpenRoot mask) c closing e = absurd cc
close-cause s session (OpenKey h path mask) c closing e = absurd cc
close-cause s session (CreateKey h path mask descriptor) c closing e = absurd cc
close-cause s session (SetValue h name kind bytes) c closing e = absurd cc
close-cause s session (DeleteValue h name) c closing e = absurd cc
close-cause s session (DeleteKey h path) c closing e = absurd cc
close-cause s session (DeleteTree h path) c closing e = absurd cc
close-cause s session (SetSecurity h descriptor) c closing e = absurd cc
close-cause s session (Notify h filter subtree) c closing e = absurd cc
close-cause s session (Close h) c closing e = missing (not (is_some (look session h s.world.handles))) e

-- nor is 8 the answer of a hive to one
is-accepted : (old new : View) (session moment : ℕ) (change : Change) (reply : ChangeReply) → IsAccepted old new session moment change reply → reply.status ≡ 0
unfolding reply_to
is-accepted old new session moment change reply h = ap (λ (r : ChangeReply). r.status) h.says

by-hive : (cause : Option ℕ) (old new : View) (session moment : ℕ) (change : Change) (reply : ChangeReply) → cause ≢ Some 8 → closes change ≡ true →
    IsAppliedBy cause old new session moment change reply → reply.status ≢ 8
by-hive (Some status) old new session moment change reply other closing h is = other (ap (λ (n : ℕ). Some n) (sym (status_is reply status h.0) ∙ is))
by-hive None old new session moment change reply other closing (inl h) is =
    let zero = is-accepted old new session moment change reply h in absurd (omega (arith, zero, is))
by-hive None old new session moment change reply other closing (inr h) is =
    elim h.why [
      | inl memory ↦ (let never = memory.1 in let close = closes-closing change closing in absurd cc)
      | inr space ↦ (let full = status_is reply 1450 space.0 in absurd (omega (arith, full, is)))
    ]

-- so a session is told 8 of no Close, if any of its handles is open
pub spared : {C : Type 0} {answers : C → Answers} {share : Seat} {mark handles moment : ℕ} {change : Change} {reply : ChangeReply} →
    (reply.status ≢ 1009 → IsLawfulOrLacks answers share mark handles moment change reply) → closes change ≡ true → handles ≢ 0 → reply.status ≢ 8
spared {C} {answers} {share} {mark} {handles} {moment} {change} {reply} lawful closing some is = by (lawful (λ stale. omega (arith, stale, is)))
  where
    by : IsLawfulOrLacks answers share mark handles moment change reply → ⊥
    by (inl r) =
        by-hive _ (view_of r.hive) r.new share.session moment change reply
        (close-cause (state (view_of r.hive)) share.session change
        (change_status (asks_of answers r.hive) (state (view_of r.hive)).world share.session moment change) closing)
        closing r.applied is
    by (inr lack) = some (lack.1 closing)
