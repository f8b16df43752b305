-- One call of a change: a status other than 0 is a refusal and changes nothing; status 0 is one entry more.
use Rattle.std.proofs.Common.{◌≡◌, ◌≢◌, ℕ, Bool, true, false, not, ◌==◌, eqb, cond, length, List, [], ◌∷◌, ◌++◌, Option, Some, None, refl, arith, length-append, sym, ◌+◌}
use Rattle.std.proofs.lemmas.Bool.{eqb-false}
use Rattle.reg_heap.specs.Paths.{Tree}
use Rattle.reg_model.specs.Worlds.{Handle, Destination, At, Deleted}
use Rattle.reg_model.specs.Causes.{State, change_cause, early_cause, late_cause, asked, refuse, by_handle, asked_before, ◌or◌}
use Rattle.reg_model.specs.Replies.{reply_to}
use Rattle.reg_model.specs.Calls.{entry_due, reply_given, state_after, or_refusal, or_same}
use Rattle.reg_model.specs.Histories.{state_of, IsFit}
use Rattle.reg_model.specs.declared.call.Change.{Change}
use Rattle.reg_model.specs.declared.call.Change.TheVariants.{OpenRoot, OpenKey, CreateKey, SetValue, DeleteValue, DeleteKey, DeleteTree, SetSecurity, Notify, Close}
use Rattle.reg_model.specs.declared.reply.ChangeReply.{ChangeReply}
use Rattle.reg_model.specs.declared.reply.Entry.{Entry}
use Rattle.reg_model.proofs.JournalGrowth.{replay-push, pending-push}

reply-zero : (s : State) (session : ℕ) (change : Change) → (reply_to s session change).status ≡ 0
unfolding reply_to
reply-zero s session (OpenRoot mask) = refl
reply-zero s session (SetValue h name kind bytes) = refl
reply-zero s session (DeleteValue h name) = refl
reply-zero s session (OpenKey h path mask) = refl
reply-zero s session (CreateKey h path mask given) = refl
reply-zero s session (DeleteKey h path) = refl
reply-zero s session (DeleteTree h path) = refl
reply-zero s session (SetSecurity h descriptor) = refl
reply-zero s session (Notify h filter subtree) = refl
reply-zero s session (Close h) = refl

by_cause : (o : Option ℕ) (due : ChangeReply) (next s : State) → due.status ≡ 0 → (or_refusal o due).status ≢ 0 → or_same o next s ≡ s
by_cause None due next s z ne = absurd (ne z)
by_cause (Some status) due next s z ne = refl

-- where a change is told another status than 0, the hive is left where it was
pub same_after : (s : State) (session moment : ℕ) (change : Change) (c : ℕ) → (reply_given s session change c).status ≢ 0 → state_after s session moment change c ≡ s
unfolding reply_given state_after
same_after s session moment change c ne =
    by_cause (change_cause s session change c) (reply_to s session change) _ s (reply-zero s session change) ne

-- ---- no refusal has the status 0

data NotZero : Option ℕ → Type 0 where
  no_status : NotZero None
  status : {n : ℕ} → n ≢ 0 → NotZero (Some n)

zero-or : (a b : Option ℕ) → NotZero a → NotZero b → NotZero (a or b)
zero-or None b h k = k
zero-or (Some n) b h k = h

zero-refuse : (b : Bool) (n : ℕ) → n ≢ 0 → NotZero (refuse b n)
zero-refuse true n ne = status ne
zero-refuse false n ne = no_status

zero-either : (b : Bool) (x y : Option ℕ) → NotZero x → NotZero y → NotZero (cond b x y)
zero-either true x y h k = h
zero-either false x y h k = k

zero-asked : (c : ℕ) → NotZero (asked c)
zero-asked c = by (eqb c 0) refl
  where
    by : (b : Bool) → eqb c 0 ≡ b → NotZero (refuse (not b) c)
    by true e = no_status
    by false e = status (eqb-false c 0 e)

zero-destination : (f : Handle → Option ℕ) → ((h : Handle) → NotZero (f h)) → (h : Handle) → NotZero (by_handle f (Some h))
zero-destination f z h = elim h.destination as (λ (p : Destination). NotZero (by_handle f (Some (record h { destination = p })))) [
  | At p ↦ z (record h { destination = At p })
  | Deleted ↦ status (λ e. omega (arith, e))
]

zero-handle : (f : Handle → Option ℕ) → ((h : Handle) → NotZero (f h)) → (o : Option Handle) → NotZero (by_handle f o)
zero-handle f z None = status (λ e. omega (arith, e))
zero-handle f z (Some h) = zero-destination f z h

zero-5 : (b : Bool) → NotZero (refuse b 5)
zero-5 b = zero-refuse b 5 (λ e. omega (arith, e))

zero-87 : (b : Bool) → NotZero (refuse b 87)
zero-87 b = zero-refuse b 87 (λ e. omega (arith, e))

zero-1450 : (b : Bool) → NotZero (refuse b 1450)
zero-1450 b = zero-refuse b 1450 (λ e. omega (arith, e))

zero-early : (s : State) (session : ℕ) (change : Change) → NotZero (early_cause s session change)
unfolding early_cause
zero-early s session (OpenRoot mask) = search (zero-or, zero-87, zero-1450)
zero-early s session (SetValue h name kind bytes) = search (zero-handle, zero-or, zero-87, zero-5, zero-1450)
zero-early s session (DeleteValue h name) = search (zero-handle, zero-or, zero-87, zero-5, zero-1450)
zero-early s session (OpenKey h path mask) = search (zero-handle, zero-or, zero-87, zero-1450)
zero-early s session (CreateKey h path mask given) = search (zero-handle, zero-or, zero-87, zero-1450)
zero-early s session (DeleteKey h path) = search (zero-handle, zero-or, zero-87, zero-1450)
zero-early s session (DeleteTree h path) = search (zero-handle, zero-or, zero-87, zero-5, zero-1450)
zero-early s session (SetSecurity h descriptor) = search (zero-handle, zero-or, zero-87, zero-5, zero-1450)
zero-early s session (Notify h filter subtree) = search (zero-handle, zero-or, zero-87, zero-5, zero-1450)
zero-early s session (Close h) = zero-refuse _ 6 (λ e. omega (arith, e))

zero-late : (s : State) (session : ℕ) (change : Change) → NotZero (late_cause s session change)
unfolding late_cause
zero-late s session (OpenRoot mask) = no_status
zero-late s session (SetValue h name kind bytes) = no_status
zero-late s session (DeleteValue h name) = zero-refuse _ 2 (λ e. omega (arith, e))
zero-late s session (OpenKey h path mask) = zero-refuse _ 2 (λ e. omega (arith, e))
zero-late s session (CreateKey h path mask given) = no_status
zero-late s session (DeleteKey h path) = zero-or _ _ (zero-refuse _ 2 (λ e. omega (arith, e))) (zero-5 _)
zero-late s session (DeleteTree h path) = zero-either (length path == 0) _ _ (zero-5 _) (zero-or _ _ (zero-refuse _ 2 (λ e. omega (arith, e))) (zero-5 _))
zero-late s session (SetSecurity h descriptor) = no_status
zero-late s session (Notify h filter subtree) = no_status
zero-late s session (Close h) = no_status

zero-before : (change : Change) (c : ℕ) → NotZero (asked_before change c)
zero-before (OpenRoot mask) c = zero-asked c
zero-before (OpenKey h path mask) c = zero-asked c
zero-before (CreateKey h path mask given) c = zero-asked c
zero-before (SetValue h name kind bytes) c = zero-asked c
zero-before (DeleteValue h name) c = zero-asked c
zero-before (DeleteKey h path) c = zero-asked c
zero-before (DeleteTree h path) c = zero-asked c
zero-before (SetSecurity h descriptor) c = zero-asked c
zero-before (Notify h filter subtree) c = zero-asked c
zero-before (Close h) c = no_status

zero-cause : (s : State) (session : ℕ) (change : Change) (c : ℕ) → NotZero (change_cause s session change c)
zero-cause s session change c =
    zero-or (early_cause s session change or asked_before change c) (late_cause s session change)
    (zero-or (early_cause s session change) (asked_before change c) (zero-early s session change) (zero-before change c))
    (zero-late s session change)

-- no refusal has the status 0
pub not_zero : (s : State) (session : ℕ) (change : Change) (c : ℕ) → change_cause s session change c ≢ Some 0
not_zero s session change c e = by (change_cause s session change c) (zero-cause s session change c) e
  where
    by : (o : Option ℕ) → NotZero o → o ≡ Some 0 → ⊥
    by None z e = absurd (cc)
    by (Some n) (status ne) e = ne (cc)

-- ---- status 0

or-none : (a b : Option ℕ) → (a or b) ≡ None → (a ≡ None) × (b ≡ None)
or-none None b e = (refl, e)
or-none (Some n) b e = absurd (cc)

-- a change that isn't refused by a status isn't refused by 0
before-none : (change : Change) (c : ℕ) → asked_before change c ≡ None → asked_before change 0 ≡ None
before-none (OpenRoot mask) c e = refl
before-none (OpenKey h path mask) c e = refl
before-none (CreateKey h path mask given) c e = refl
before-none (SetValue h name kind bytes) c e = refl
before-none (DeleteValue h name) c e = refl
before-none (DeleteKey h path) c e = refl
before-none (DeleteTree h path) c e = refl
before-none (SetSecurity h descriptor) c e = refl
before-none (Notify h filter subtree) c e = refl
before-none (Close h) c e = refl

no_cause : (o : Option ℕ) (due : ChangeReply) → NotZero o → (or_refusal o due).status ≡ 0 → o ≡ None
no_cause None due nz e = refl
no_cause (Some n) due (status ne) e = absurd (ne e)

-- a change that is told status 0 isn't refused, and the callbacks' status is 0
accepted : (s : State) (session : ℕ) (change : Change) (c : ℕ) → (reply_given s session change c).status ≡ 0 → (change_cause s session change c ≡ None) × (change_cause s session change 0 ≡ None)
unfolding reply_given
accepted s session change c e =
    let none = no_cause (change_cause s session change c) (reply_to s session change) (zero-cause s session change c) e in
    let parts = or-none (early_cause s session change or asked_before change c) (late_cause s session change) none in
    let fronts = or-none (early_cause s session change) (asked_before change c) parts.0 in
    (none, rw (fronts.0, before-none change c fronts.1, parts.1) refl)

-- a change that is told status 0 leaves the hive after one entry more, which fits, and it is told the entry's reply
pub record Grows (base : ℕ) (origin : Tree) (past : List Entry) (session moment : ℕ) (change : Change) (c : ℕ) (e : Entry) : Type 0 where
  pub fit : IsFit base origin past e
  pub reply : reply_given (state_of base origin past) session change c ≡ e.reply
  pub after : state_after (state_of base origin past) session moment change c ≡ state_of base origin (past ++ e ∷ [])

pub grows : (base : ℕ) (origin : Tree) (past : List Entry) (session moment : ℕ) (change : Change) (c : ℕ) →
    (reply_given (state_of base origin past) session change c).status ≡ 0 →
    Grows base origin past session moment change c (entry_due (state_of base origin past) session moment change)
unfolding reply_given state_after
grows base origin past session moment change c e =
    let a = accepted (state_of base origin past) session change c e in
    let entry = entry_due (state_of base origin past) session moment change in
    let long = length-append past (entry ∷ []) in
    record {
      fit = record { number = refl; accepted = a.1; reply = refl };
      reply = rw a.0 refl;
      after = rw a.0 (λ i. record {
        kept = sym long i;
        next = (let n : base + length past + 1 ≡ base + length (past ++ entry ∷ []) = omega (arith, long) in n) i;
        world = sym (replay-push origin past entry) i;
        pending = sym (pending-push origin past entry) i;
      });
    }
