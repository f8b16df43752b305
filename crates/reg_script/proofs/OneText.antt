-- Where memory and space suffice, a script writes one text.
use Rattle.std.proofs.Common.{◌≡◌, ℕ, ◌+◌, ◌==◌, ◌&&◌, if◌then◌else◌, List, [], ◌∷◌, ◌++◌, length, Option, Some, None, is_some}
use Rattle.std.proofs.Common.{refl, sym, subst, ap, ◌∙◌, arith, ◌⊎◌, inl, inr}
use Rattle.std.specs.Prelude.{get_or, slice_get}
use Rattle.reg_model.specs.declared.notice.Notice.{Notice}
use Rattle.reg_model.specs.Causes.{State, change_cause, query_cause}
use Rattle.reg_model.specs.Replies.{refusal, reply_to, body_of}
use Rattle.reg_model.specs.declared.answer.Answer.{Answer}
use Rattle.reg_model.specs.declared.answer.AnswerBody.{AnswerBody}
use Rattle.reg_model.specs.declared.answer.AnswerBody.TheVariants.{Refused}
use Rattle.reg_model.specs.declared.call.Call.{Call}
use Rattle.reg_model.specs.declared.call.Call.TheVariants.{Change, Query}
use Rattle.reg_model.specs.declared.call.Change.{Change as TheChange}
use Rattle.reg_model.specs.declared.call.Query.{Query as TheQuery}
use Rattle.reg_model.specs.declared.reply.ChangeReply.{ChangeReply}
use Rattle.reg_model.specs.declared.reply.Entry.{Entry}
use Rattle.reg_model.specs.declared.step.Step.{Step}
use Rattle.reg_model.specs.declared.step.Outcome.{Outcome}
use Rattle.reg_model.specs.declared.step.Outcome.TheVariants.{Changed, Answered}
use Rattle.reg_calls.specs.Views.{View, next_of, state, told_in, entry_of, IsAppliedBy, IsTold, is_told, IsNoticeTaken}
use Rattle.reg_model.specs.Callbacks.{Callbacks, change_status, query_status}
use Rattle.reg_calls.specs.Runs.{IsStep}
use Rattle.reg_script.specs.LineWords.{lines_of}
use Rattle.reg_script.specs.LineMeanings.{Meaning, nothing, at_moment, as_session, on_hive, asks, takes_notice, bad, meaning_of}
use Rattle.reg_script.specs.ReplyTexts.{outcome_text, notice_text}
use Rattle.reg_script.specs.Lines.{Stand, IsSaid, AreSaid}
use Rattle.reg_script.specs.Ample.{IsDue, IsAmple, AreAmple, HasOneText}

-- how many notices a session has taken
abbrev taken_in : View → ℕ → ℕ
taken_in v session = get_or v.watches.taken session 0

-- two hives that give the same replies
pub record Alike (a b : View) : Type 0 where
  pub origin : a.origin ≡ b.origin
  pub base : a.base ≡ b.base
  pub before : a.before ≡ b.before
  pub journal : a.journal ≡ b.journal
  pub taken : (x : ℕ) → taken_in a x ≡ taken_in b x

alike_same : (a b : View) → a ≡ b → Alike a b
alike_same a b same = record {
  origin = ap (λ (v : View). v.origin) same;
  base = ap (λ (v : View). v.base) same;
  before = ap (λ (v : View). v.before) same;
  journal = ap (λ (v : View). v.journal) same;
  taken = λ x. ap (λ (v : View). taken_in v x) same;
}

-- two hives are alike that are so to two others, which are alike
alike_by : (v a b w : View) → Alike v a → Alike a b → Alike w b → Alike v w
alike_by v a b w h s k = record {
  origin = h.origin ∙ (s.origin ∙ sym k.origin);
  base = h.base ∙ (s.base ∙ sym k.base);
  before = h.before ∙ (s.before ∙ sym k.before);
  journal = h.journal ∙ (s.journal ∙ sym k.journal);
  taken = λ x. h.taken x ∙ (s.taken x ∙ sym (k.taken x));
}

-- two positions where replies are the same
pub record Same (a b : Stand) : Type 0 where
  pub hive : Alike a.hive b.hive
  pub callbacks : a.callbacks ≡ b.callbacks
  pub moment : a.moment ≡ b.moment
  pub session : a.session ≡ b.session

-- ---- a change

abbrev due_reply : Option ℕ → State → ℕ → TheChange → ChangeReply
due_reply (Some status) s session change = refusal status
due_reply None s session change = reply_to s session change

abbrev journal_by : Option ℕ → List Entry → Entry → List Entry
journal_by (Some status) journal entry = journal
journal_by None journal entry = journal ++ entry ∷ []

-- a hive with the keys, handles and watches of another that it is alike to is that other
view_like : (a b : View) → Alike a b → ◌≡◌ {A = View} (record a { keys = b.keys; handles = b.handles; watches = b.watches }) b
view_like a b s = by s.origin s.base s.before s.journal
  where
    by : a.origin ≡ b.origin → a.base ≡ b.base → a.before ≡ b.before → a.journal ≡ b.journal →
        ◌≡◌ {A = View} (record a { keys = b.keys; handles = b.handles; watches = b.watches }) b
    by origin base before journal = rw (origin, base, before, journal) refl

abbrev stand_with : View → Callbacks → ℕ → ℕ → Stand
stand_with hive callbacks moment session = record { hive = hive; callbacks = callbacks; moment = moment; session = session }

-- so a position where replies are the same as at another is that other, but for those
stand_like : (a b : Stand) → Same a b →
    stand_with (record a.hive { keys = b.hive.keys; handles = b.hive.handles; watches = b.hive.watches }) a.callbacks a.moment a.session ≡ b
stand_like a b s =
    ap (λ (v : View). stand_with v a.callbacks a.moment a.session) (view_like a.hive b.hive s.hive) ∙
    (ap (λ (asked : Callbacks). stand_with b.hive asked a.moment a.session) s.callbacks ∙
    (ap (λ (n : ℕ). stand_with b.hive b.callbacks n a.session) s.moment ∙ ap (λ (n : ℕ). stand_with b.hive b.callbacks b.moment n) s.session))

lacking : {X Y : Type 0} (reply : ChangeReply) → ((reply ≡ refusal 8) × X) ⊎ ((reply ≡ refusal 1450) × Y) → reply.status ≡ 0 → ⊥
lacking reply (inl h) z = let e = ap (λ (r : ChangeReply). r.status) h.0 in omega (arith, e, z)
lacking reply (inr h) z = let e = ap (λ (r : ChangeReply). r.status) h.0 in omega (arith, e, z)

-- a hive with another journal
abbrev with_journal : View → List Entry → View
with_journal v journal = record v { journal = journal }

change_known : (cause : Option ℕ) (old new : View) (session moment : ℕ) (change : TheChange) (reply : ChangeReply) →
    IsAppliedBy cause old new session moment change reply
    → (cause ≡ None → reply.status ≡ 0)
    → (reply ≡ due_reply cause (state old) session change) × Alike new (with_journal old (journal_by cause old.journal (entry_of old session moment change)))
change_known (Some status) old new session moment change reply h due =
    (h.0, alike_same new old h.1)
change_known None old new session moment change reply (inl h) due =
    (h.says, record { origin = h.origin; base = h.base; before = h.before; journal = h.journal; taken = λ x. ap (λ (ns : List ℕ). get_or ns x 0) h.taken })
change_known None old new session moment change reply (inr h) due = absurd (lacking reply h.why (due refl))

abbrev cause_at : Stand → TheChange → Option ℕ
cause_at a change =
    change_cause (state a.hive) a.session change (change_status a.callbacks (state a.hive).world a.session a.moment change)

abbrev told : Stand → TheChange → ChangeReply
told a change = due_reply (cause_at a change) (state a.hive) a.session change

told_same : (a b : Stand) (change : TheChange) → Same a b → told a change ≡ told b change
told_same a b change s = ap (λ (x : Stand). told x change) (stand_like a b s)

abbrev journal_then : Stand → TheChange → List Entry
journal_then a change = journal_by (cause_at a change) a.hive.journal (entry_of a.hive a.session a.moment change)

journal_same : (a b : Stand) (change : TheChange) → Same a b → journal_then a change ≡ journal_then b change
journal_same a b change s = ap (λ (x : Stand). journal_then x change) (stand_like a b s)

abbrev hive_then : Stand → TheChange → View
hive_then a change = with_journal a.hive (journal_then a change)

alike_then : (a b : Stand) (change : TheChange) → Same a b → Alike (hive_then a change) (hive_then b change)
alike_then a b change s =
    record { origin = s.hive.origin; base = s.hive.base; before = s.hive.before; journal = journal_same a b change s; taken = s.hive.taken }

-- ---- a question

body_known : (cause : Option ℕ) (due body : AnswerBody) → IsTold (is_told cause due) body → (cause ≡ None → body ≡ Refused 8 → ⊥) →
    body ≡ is_told cause due
body_known (Some status) due body (inl h) ample = h
body_known (Some status) due body (inr h) ample = absurd h.1
body_known None due body (inl h) ample = h
body_known None due body (inr h) ample = absurd (ample refl h.0)

abbrev query_cause_at : Stand → TheQuery → Option ℕ
query_cause_at a query =
    query_cause (state a.hive) a.session query (query_status a.callbacks (state a.hive).world a.session query)

abbrev body_told : Stand → TheQuery → AnswerBody
body_told a query = is_told (query_cause_at a query) (body_of (state a.hive) a.session query)

body_same : (a b : Stand) (query : TheQuery) → Same a b → body_told a query ≡ body_told b query
body_same a b query s = ap (λ (x : Stand). body_told x query) (stand_like a b s)

answer_same : (x y : Answer) → x.at ≡ y.at → x.body ≡ y.body → x ≡ y
answer_same x y at body =
    ap (λ (n : ℕ). let z : Answer = record { at = n; body = x.body } in z) at ∙
    ap (λ (b : AnswerBody). let z : Answer = record { at = y.at; body = b } in z) body

-- ---- a call

abbrev step_at : Stand → Call → Step
step_at stand call = record { session = stand.session; moment = stand.moment; call = call }

abbrev SameAfter : Outcome → View → Outcome → View → Type 0
SameAfter o v o' v' = (o ≡ o') × Alike v v'

next_same : (a b : View) → Alike a b → next_of a ≡ next_of b
next_same a b s = ap (λ (n : ℕ). n + length a.journal) s.base ∙ ap (λ (j : List Entry). b.base + length j) s.journal

call_same : (call : Call) (a b : Stand) (v w : View) (o o' : Outcome) → IsStep a.callbacks a.hive (step_at a call) o v →
    IsStep b.callbacks b.hive (step_at b call) o' w
    → IsDue a.callbacks a.hive (step_at a call) o → IsDue b.callbacks b.hive (step_at b call) o' → Same a b → SameAfter o v o' w
call_same (Change change) a b v w (Changed r) (Changed r') h k due due' s =
    let x = change_known (cause_at a change) a.hive v a.session a.moment change r h due in
    let y = change_known (cause_at b change) b.hive w b.session b.moment change r' k due' in (
      ap Changed (x.0 ∙ (told_same a b change s ∙ sym y.0)),
      alike_by v (hive_then a change) (hive_then b change) w x.1 (alike_then a b change s) y.1,
    )
call_same (Query query) a b v w (Answered r) (Answered r') h k due due' s =
    let x = body_known (query_cause_at a query) (body_of (state a.hive) a.session query) r.body h.1 due in
    let y = body_known (query_cause_at b query) (body_of (state b.hive) b.session query) r'.body k.1 due' in (
      ap Answered (answer_same r r' (h.0 ∙ (next_same a.hive b.hive s.hive ∙ sym k.0)) (x ∙ (body_same a b query s ∙ sym y))),
      alike_by v a.hive b.hive w (alike_same v a.hive h.2) s.hive (alike_same w b.hive k.2),
    )
call_same (Change change) a b v w (Answered r) o' h k due due' s = absurd h
call_same (Change change) a b v w (Changed r) (Answered r') h k due due' s = absurd k
call_same (Query query) a b v w (Changed r) o' h k due due' s = absurd h
call_same (Query query) a b v w (Answered r) (Changed r') h k due due' s = absurd k

-- ---- a notice

abbrev handed : View → ℕ → Option Notice
handed v session = slice_get (told_in v session) (taken_in v session)

handed_same : (a b : View) (s s' : ℕ) → Alike a b → s ≡ s' → handed a s ≡ handed b s'
handed_same a b s s' alike session =
    ap (λ (n : ℕ). slice_get (told_in a s) n) (alike.taken s) ∙
    (ap (λ (v : View). handed v s) (view_like a b alike) ∙ ap (λ (x : ℕ). handed b x) session)

abbrev taken_then : Option Notice → ℕ → ℕ → ℕ → ℕ
taken_then notice session x n = if x == session && is_some notice then n + 1 else n

taken_same : (m m' : Option Notice) (s s' x n n' : ℕ) → m ≡ m' → s ≡ s' → n ≡ n' → taken_then m s x n ≡ taken_then m' s' x n'
taken_same m m' s s' x n n' notice session taken =
    ap (λ (o : Option Notice). taken_then o s x n) notice ∙
    (ap (λ (y : ℕ). taken_then m' y x n) session ∙ ap (λ (k : ℕ). taken_then m' s' x k) taken)

abbrev SameNotice : Option Notice → View → Option Notice → View → Type 0
SameNotice m v m' w = (m ≡ m') × Alike v w

notice_same : (a b : Stand) (v w : View) (m m' : Option Notice) → IsNoticeTaken a.hive v a.session m → IsNoticeTaken b.hive w b.session m'
    → Same a b → SameNotice m v m' w
notice_same a b v w m m' h k s =
    let same = h.next ∙ (handed_same a.hive b.hive a.session b.session s.hive s.session ∙ sym k.next) in (
      same,
      record {
        origin = h.origin ∙ (s.hive.origin ∙ sym k.origin);
        base = h.base ∙ (s.hive.base ∙ sym k.base);
        before = h.before ∙ (s.hive.before ∙ sym k.before);
        journal = h.journal ∙ (s.hive.journal ∙ sym k.journal);
        taken = λ x. h.taken x ∙ (taken_same m m' a.session b.session x _ _ same s.session (s.hive.taken x) ∙ sym (k.taken x));
      },
    )

-- ---- a line

same_along : (a b x y : Stand) → a ≡ x → b ≡ y → Same x y → Same a b
same_along a b x y e f s = subst (λ (p : Stand). Same p b) (sym e) (subst (λ (q : Stand). Same x q) (sym f) s)

-- where two scripts stand alike, they still do on other hives that give the same replies
same_then : (a b a' b' : Stand) → a' ≡ record a { hive = a'.hive } → b' ≡ record b { hive = b'.hive } → Same a b →
    Alike a'.hive b'.hive → Same a' b'
same_then a b a' b' e f s alike =
    record {
      hive = alike;
      callbacks = ap (λ (u : Stand). u.callbacks) e ∙ (s.callbacks ∙ sym (ap (λ (u : Stand). u.callbacks) f));
      moment = ap (λ (u : Stand). u.moment) e ∙ (s.moment ∙ sym (ap (λ (u : Stand). u.moment) f));
      session = ap (λ (u : Stand). u.session) e ∙ (s.session ∙ sym (ap (λ (u : Stand). u.session) f));
    }

line_same : (m : Meaning) (a b a' b' : Stand) (t t' : List ℕ) (p : IsSaid m a t a') (q : IsSaid m b t' b') → IsAmple m a t a' p →
    IsAmple m b t' b' q → Same a b → (t ≡ t') × Same a' b'
line_same nothing a b a' b' t t' p q d d' s = (p.0 ∙ sym q.0, same_along a' b' a b p.1 q.1 s)
line_same (at_moment moment) a b a' b' t t' p q d d' s = (
  p.0 ∙ sym q.0,
  same_along a' b' (record a { moment = moment }) (record b { moment = moment }) p.1 q.1
      (record { hive = s.hive; callbacks = s.callbacks; moment = refl; session = s.session }),
)
line_same (as_session session) a b a' b' t t' p q d d' s = (
  p.0 ∙ sym q.0,
  same_along a' b' (record a { session = session }) (record b { session = session }) p.1 q.1
      (record { hive = s.hive; callbacks = s.callbacks; moment = s.moment; session = refl }),
)
line_same (on_hive hive) a b a' b' t t' p q d d' s = (p.0 ∙ sym q.0, same_along a' b' a b p.1 q.1 s)
line_same bad a b a' b' t t' p q d d' s = (p.0 ∙ sym q.0, same_along a' b' a b p.1 q.1 s)
line_same takes_notice a b a' b' t t' p q d d' s =
    let x = notice_same a b a'.hive b'.hive p.0 q.0 p.1 q.1 s in (p.2 ∙ (ap notice_text x.0 ∙ sym q.2), same_then a b a' b' p.3 q.3 s x.1)
line_same (asks call) a b a' b' t t' p q d d' s =
    let x = call_same call a b a'.hive b'.hive p.0 q.0 p.1 q.1 d d' s in (
      p.2 ∙ (ap (outcome_text call) x.0 ∙ sym q.2),
      same_then a b a' b' p.3 q.3 s x.1,
    )

-- ---- a script

lines_same : (lines : List (List ℕ)) (a b a' b' : Stand) (t t' : List ℕ) (p : AreSaid lines a t a') (q : AreSaid lines b t' b') →
    AreAmple lines a t a' p → AreAmple lines b t' b' q → Same a b → t ≡ t'
lines_same [] a b a' b' t t' p q d d' s = p.0 ∙ sym q.0
lines_same (line ∷ lines) a b a' b' t t' p q d d' s =
    let h = line_same (meaning_of line) a b p.0 q.0 p.1 q.1 p.3 q.3 d.0 d'.0 s in
    let r = lines_same lines p.0 q.0 a' b' p.2 q.2 p.4 q.4 d.1 d'.1 h.1 in
    p.5 ∙ (ap (λ (w : List ℕ). w ++ p.2) h.0 ∙ (ap (λ (w : List ℕ). q.1 ++ w) r ∙ sym q.5))

pub one_text : HasOneText
one_text callbacks old new new' script text text' p q =
    lines_same (lines_of script) _ _ p.lines.0 q.lines.0 text text' p.lines.1 q.lines.1 p.ample q.ample
    (record { hive = alike_same old old refl; callbacks = refl; moment = refl; session = refl })
