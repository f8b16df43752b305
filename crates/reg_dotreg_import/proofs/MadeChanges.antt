-- What a change is answered: with status 0 it is accepted, and with any other it changed nothing.
use Rattle.std.proofs.Common.{◌≡◌, ◌≢◌, ℕ, true, false, List, Option, Some, None, refl, sym, ap, ◌∙◌, subst, arith, inl, inr, ◌⊎◌, is_some}
use Rattle.reg_model.specs.declared.statuses.TheConstants.{NOT_ENOUGH_MEMORY}
use Rattle.reg_model.specs.declared.call.Change.{Change}
use Rattle.reg_model.specs.declared.call.Change.TheVariants.{Close}
use Rattle.reg_model.specs.declared.reply.ChangeReply.{ChangeReply}
use Rattle.reg_model.specs.Worlds.{Handle, look}
use Rattle.reg_model.specs.Callbacks.{Callbacks, change_status}
use Rattle.reg_model.specs.Causes.{State, change_cause, early_cause, late_cause}
use Rattle.reg_model.specs.Replies.{reply_to, refusal}
use Rattle.reg_model.proofs.CallSteps.{not_zero}
use Rattle.reg_calls.specs.Views.{View, IsHive, IsAccepted, IsApplied, IsAppliedBy, state}
use Rattle.reg_dotreg_import.specs.ImportStops.{IsRefused}
use Rattle.reg_dotreg_import.specs.Internal.Standing.{IsMade}

status-of : (reply : ChangeReply) (n : ℕ) → reply ≡ refusal n → reply.status ≡ n
status-of reply n e = ap (λ (r : ChangeReply). r.status) e

-- ---- status 0

lacking : {X Y : Type 0} (reply : ChangeReply) → ((reply ≡ refusal 8) × X) ⊎ ((reply ≡ refusal 1450) × Y) → reply.status ≡ 0 → ⊥
lacking reply (inl h) z = let e = status-of reply 8 h.0 in omega (arith, e, z)
lacking reply (inr h) z = let e = status-of reply 1450 h.0 in omega (arith, e, z)

accepted-by : (cause : Option ℕ) (old new : View) (moment : ℕ) (change : Change) (reply : ChangeReply) → cause ≢ Some 0 →
    IsAppliedBy cause old new 0 moment change reply → reply.status ≡ 0 → (cause ≡ None) × IsAccepted old new 0 moment change reply
accepted-by (Some status) old new moment change reply not h z =
    absurd (not (ap (λ (n : ℕ). Some n) (sym (status-of reply status h.0) ∙ z)))
accepted-by None old new moment change reply not (inl h) z = (refl, h)
accepted-by None old new moment change reply not (inr h) z = absurd (lacking reply h.why z)

pub made : (asked : Callbacks) (old new : View) (moment : ℕ) (change : Change) (reply : ChangeReply) → IsApplied asked old new 0 moment change reply →
    reply.status ≡ 0 → IsMade old new moment change reply.handle
made asked old new moment change reply h z =
    let c = change_status asked (state old).world 0 moment change in
    let both = accepted-by (change_cause (state old) 0 change c) old new moment change reply (not_zero (state old) 0 change c) h z in
    record { reply = reply; accepted = both.1; status = c; none = both.0; opened = refl }

-- ---- any other

due-zero : (s : State) (change : Change) → (reply_to s 0 change).status ≡ 0
unfolding reply_to
due-zero s change = refl

refusal-is : (reply : ChangeReply) (n : ℕ) → reply ≡ refusal n → reply ≡ refusal reply.status
refusal-is reply n e = e ∙ ap refusal (sym (status-of reply n e))

lacked : {X Y : Type 0} (reply : ChangeReply) → ((reply ≡ refusal 8) × X) ⊎ ((reply ≡ refusal 1450) × Y) → reply ≡ refusal reply.status
lacked reply (inl h) = refusal-is reply 8 h.0
lacked reply (inr h) = refusal-is reply 1450 h.0

refused-by : (cause : Option ℕ) (old new : View) (moment : ℕ) (change : Change) (reply : ChangeReply) → IsAppliedBy cause old new 0 moment change reply →
    reply.status ≢ 0 → (new ≡ old) × (reply ≡ refusal reply.status)
refused-by (Some status) old new moment change reply h ne = (h.1, refusal-is reply status h.0)
refused-by None old new moment change reply (inl h) ne = absurd (ne (ap (λ (r : ChangeReply). r.status) h.says ∙ due-zero (state old) change))
refused-by None old new moment change reply (inr h) ne = (h.same, lacked reply h.why)

-- a refusal changed nothing
pub unmade : (asked : Callbacks) (old new : View) (moment : ℕ) (change : Change) (reply : ChangeReply) → IsApplied asked old new 0 moment change reply →
    reply.status ≢ 0 → (new ≡ old) × IsApplied asked old old 0 moment change (refusal reply.status)
unmade asked old new moment change reply h ne =
    let c = change_status asked (state old).world 0 moment change in
    let both = refused-by (change_cause (state old) 0 change c) old new moment change reply h ne in (
      both.0,
      subst (λ (r : ChangeReply). IsApplied asked old old 0 moment change r) both.1
          (subst (λ (v : View). IsApplied asked old v 0 moment change reply) both.0 h),
    )

pub told_memory : (asked : Callbacks) (old new : View) (moment : ℕ) (change : Change) (reply : ChangeReply) → IsApplied asked old new 0 moment change reply →
    reply.status ≡ NOT_ENOUGH_MEMORY → (new ≡ old) × IsApplied asked old old 0 moment change (refusal NOT_ENOUGH_MEMORY)
told_memory asked old new moment change reply h e =
    let both = unmade asked old new moment change reply h (λ z. omega (arith, e, z)) in
    (both.0, subst (λ (n : ℕ). IsApplied asked old old 0 moment change (refusal n)) e both.1)

pub told_refusal : (asked : Callbacks) (old new : View) (moment : ℕ) (change : Change) (reply : ChangeReply) → IsApplied asked old new 0 moment change reply →
    reply.status ≢ 0 → reply.status ≢ NOT_ENOUGH_MEMORY → (new ≡ old) × IsRefused asked old moment change reply.status
told_refusal asked old new moment change reply h some other =
    let both = unmade asked old new moment change reply h some in (both.0, record { some = some; other = other; refused = both.1 })

-- ---- a Close

close-none : (s : State) (n c : ℕ) → is_some (look 0 n s.world.handles) ≡ true → change_cause s 0 (Close n) c ≡ None
unfolding early_cause late_cause
close-none s n c there = rw there refl

closed-by : (cause : Option ℕ) (old new : View) (moment n : ℕ) (reply : ChangeReply) → cause ≡ None → IsAppliedBy cause old new 0 moment (Close n) reply →
    IsAccepted old new 0 moment (Close n) reply
closed-by (Some status) old new moment n reply e h = absurd (cc)
closed-by None old new moment n reply e (inl h) = h
closed-by None old new moment n reply e (inr h) = never h.why
  where
    never : {X Y Z : Type 0} → (X × (true ≡ false)) ⊎ (Y × (⊥ × Z)) → IsAccepted old new 0 moment (Close n) reply
    never (inl w) = let f = w.1 in absurd (cc)
    never (inr w) = absurd w.1.0

-- it is accepted where the handle is open
pub closing : (asked : Callbacks) (old new : View) (moment n : ℕ) (reply : ChangeReply) → IsHive old → is_some (look 0 n old.handles) ≡ true →
    IsApplied asked old new 0 moment (Close n) reply → IsAccepted old new 0 moment (Close n) reply
closing asked old new moment n reply hive there h =
    let c = change_status asked (state old).world 0 moment (Close n) in
    let is = subst (λ (hs : List Handle). is_some (look 0 n hs) ≡ true) hive.handles there in
    closed-by (change_cause (state old) 0 (Close n) c) old new moment n reply (close-none (state old) n c is) h
