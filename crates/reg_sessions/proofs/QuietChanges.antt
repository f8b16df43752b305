-- A change after which no fewer watches are pending told nobody anything.
use Rattle.std.proofs.Common.{◌≡◌, ◌≤◌, ◌++◌, ◌∙◌, ◌==◌, ℕ, suc, Bool, true, false, cond, not, is_some, List, [], ◌∷◌, Option, Some, None, length, filter, option_to_list, refl, ap, arith, append-nil}
use Rattle.std.specs.List.{cons_option}
use Rattle.reg_model.specs.Worlds.{World}
use Rattle.reg_model.specs.Watches.{Watch, Ending, ending, events, removes, closing, watch_of, reason, stays, pending_past, notice_for, notice_to, notices}
use Rattle.reg_model.specs.declared.call.Change.{Change}
use Rattle.reg_model.specs.declared.call.Change.TheVariants.{OpenRoot, OpenKey, CreateKey, SetValue, DeleteValue, DeleteKey, DeleteTree, SetSecurity, Notify, Close}
use Rattle.reg_model.specs.declared.notice.Notice.{Notice as Told}
use Rattle.reg_model.specs.declared.notice.Reason.{Reason}
use Rattle.reg_model.specs.declared.reply.ChangeReply.{ChangeReply}
use Rattle.reg_model.specs.declared.reply.Entry.{Entry}

no-true : false ≡ true → ⊥
no-true e = cc

no-watch : (x : Watch) → None ≡ Some x → ⊥
no-watch x e = cc

-- ---- watches that stay

few_stay : (x : Ending) (vs : List Watch) → length (filter (stays x) vs) ≤ length vs
few_stay x [] = omega arith
few_stay x (v ∷ vs) = by (stays x v) (few_stay x vs)
  where
    by : (b : Bool) → length (filter (stays x) vs) ≤ length vs → length (cond b (v ∷ filter (stays x) vs) (filter (stays x) vs)) ≤ suc (length vs)
    by true rest = omega (arith, rest)
    by false rest = omega (arith, rest)

-- of a watch that stays nothing is told
untold : (s : ℕ) (x : Ending) (v : Watch) → stays x v ≡ true → notice_to s x v ≡ None
untold s x v st = by (reason x v) (v.session == s) st
  where
    by : (r : Option Reason) (own : Bool) → not (is_some r) ≡ true → cond own (notice_for v.number x.by r) None ≡ None
    by None true e = refl
    by None false e = refl
    by (Some r) own e = absurd (no-true e)

-- where as many stay as there were, nothing is told
quiet_stay : (s : ℕ) (x : Ending) (vs : List Watch) → length vs ≤ length (filter (stays x) vs) → notices s x vs ≡ []
quiet_stay s x [] long = refl
quiet_stay s x (v ∷ vs) long = by (stays x v) refl long (λ l. quiet_stay s x vs l)
  where
    by : (b : Bool) → stays x v ≡ b → suc (length vs) ≤ length (cond b (v ∷ filter (stays x) vs) (filter (stays x) vs)) →
        (length vs ≤ length (filter (stays x) vs) → notices s x vs ≡ []) → notices s x (v ∷ vs) ≡ []
    by true e l rest = ap (λ (o : Option Told). cons_option o (notices s x vs)) (untold s x v e) ∙ rest (omega (arith, l))
    by false e l rest = absurd (let f = few_stay x vs in omega (arith, l, f))

quiet_all : (s : ℕ) (x : Ending) (vs : List Watch) → ((v : Watch) → stays x v ≡ true) → notices s x vs ≡ []
quiet_all s x [] all = refl
quiet_all s x (v ∷ vs) all = ap (λ (o : Option Told). cons_option o (notices s x vs)) (untold s x v (all v)) ∙ quiet_all s x vs all

-- ---- a change

-- one that asks for a watch ends none
stay_all : (w : World) (number session moment : ℕ) (c : Change) (r : ChangeReply) (x : Watch) →
    watch_of w (record { number = number; session = session; moment = moment; change = c; reply = r }) ≡ Some x → (v : Watch) →
    stays (ending w (record { number = number; session = session; moment = moment; change = c; reply = r })) v ≡ true
unfolding watch_of ending events removes closing reason
stay_all w number session moment (OpenRoot mask) r x is v = absurd (no-watch x is)
stay_all w number session moment (OpenKey h path mask) r x is v = absurd (no-watch x is)
stay_all w number session moment (CreateKey h path mask descriptor) r x is v = absurd (no-watch x is)
stay_all w number session moment (SetValue h name kind bytes) r x is v = absurd (no-watch x is)
stay_all w number session moment (DeleteValue h name) r x is v = absurd (no-watch x is)
stay_all w number session moment (DeleteKey h path) r x is v = absurd (no-watch x is)
stay_all w number session moment (DeleteTree h path) r x is v = absurd (no-watch x is)
stay_all w number session moment (SetSecurity h descriptor) r x is v = absurd (no-watch x is)
stay_all w number session moment (Notify h mask subtree) r x is v = refl
stay_all w number session moment (Close h) r x is v = absurd (no-watch x is)

pub quiet_change : (s : ℕ) (w : World) (e : Entry) (vs : List Watch) → length vs ≤ length (pending_past (ending w e) (watch_of w e) vs) →
    notices s (ending w e) vs ≡ []
quiet_change s w e vs long = by (watch_of w e) refl
  where
    by : (o : Option Watch) → watch_of w e ≡ o → notices s (ending w e) vs ≡ []
    by None is =
        let same : filter (stays (ending w e)) vs ++ option_to_list (watch_of w e) ≡ filter (stays (ending w e)) vs =
        ap (λ (o : Option Watch). filter (stays (ending w e)) vs ++ option_to_list o) is ∙ append-nil (filter (stays (ending w e)) vs) in
        let count = ap (λ (l : List Watch). length l) same in
        quiet_stay s (ending w e) vs (omega (arith, long, count))
    by (Some x) is = quiet_all s (ending w e) vs (stay_all w e.number e.session e.moment e.change e.reply x is)
