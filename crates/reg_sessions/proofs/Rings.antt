-- The rings that stand with a hive behind its lock, after calls and after notices were moved.
use Rattle.std.proofs.Common.{◌≡◌, ◌≢◌, ◌+◌, ◌∙◌, ◌≤◌, ◌<◌, ◌⊎◌, ℕ, zero, suc, Bool, true, false, cond, eqb, List, [], ◌∷◌, ◌++◌, length, drop, get_or, set, inl, inr, refl, sym, ap, subst, arith, append_assoc, append-nil, ne_eqb, length-set}
use Rattle.std.specs.Prelude.{slice_index_or}
use Rattle.std.proofs.lemmas.Bool.{cases_eq}
use Rattle.std.proofs.lemmas.List.{get_or-set_same, get_or-set_other}
use Rattle.reg_model.specs.Callbacks.{Callbacks}
use Rattle.reg_model.specs.Histories.{fired, replay, pending}
use Rattle.reg_model.specs.Watches.{Watch, ending, watch_of, pending_past, notices}
use Rattle.reg_model.specs.declared.call.Change.{Change}
use Rattle.reg_model.specs.declared.notice.Notice.{Notice}
use Rattle.reg_model.specs.declared.reply.ChangeReply.{ChangeReply}
use Rattle.reg_model.specs.declared.reply.Entry.{Entry}
use Rattle.reg_model.proofs.JournalGrowth.{fired-push, pending-push}
use Rattle.reg_journal.specs.Kept.{Seat}
use Rattle.reg_notify.specs.Tables.{Table, taken_by}
use Rattle.reg_calls.specs.Cuts.{IsCut}
use Rattle.reg_calls.specs.Views.{View, Booked, IsAccepted, IsHive, entry_of, told_in}
use Rattle.reg_calls.proofs.AcceptedChanges.{either}
use Rattle.reg_outbox.specs.Rings.{IsAhead, IsHandedOut, backlog_of}
use Rattle.reg_sessions.specs.Locked.{LineState, IsLine, AreAhead, IsAdmitted}
use Rattle.reg_sessions.specs.Internal.Moved.{AreSilent, AreHandedOut, AreMoved, IsSent, AreSentFrom}
use Rattle.reg_sessions.specs.Internal.Answered.{IsAnswered}
use Rattle.reg_sessions.proofs.Admitted.{admitted_journal, decided}
use Rattle.reg_sessions.proofs.QuietChanges.{quiet_change}

-- ---- nothing told

pub nothing_told : (v : View) → ((s : ℕ) → slice_index_or v.before s [] ≡ []) → v.journal ≡ [] → (s : ℕ) → told_in v s ≡ []
nothing_told v before journal s =
    ap (λ (l : List Notice). l ++ fired v.origin v.journal s) (before s)
    ∙ ap (λ (j : List Entry). [] ++ fired v.origin j s) journal

drop_nil : (i : ℕ) → drop {A = Notice} i [] ≡ []
drop_nil zero = refl
drop_nil (suc i) = refl

pub silent_none : AreSilent []
silent_none s d below = absurd (omega (arith, below))

pub silent_more : (lines : List LineState) (l : LineState) → AreSilent lines → l.sent ≡ [] → l.kept ≡ 0 → AreSilent (lines ++ l ∷ [])
silent_more [] l all none kept zero d below = (none, kept)
silent_more [] l all none kept (suc s) d below = absurd (omega (arith, below))
silent_more (x ∷ xs) l all none kept zero d below = all zero d (omega arith)
silent_more (x ∷ xs) l all none kept (suc s) d below = silent_more xs l (λ k e b. all (suc k) e (omega (arith, b))) none kept s d (omega (arith, below))

-- nothing is kept back of nothing
none_kept : (v : View) (s : ℕ) → told_in v s ≡ [] → backlog_of s v ≡ []
none_kept v s silent = ap (λ (l : List Notice). drop (taken_by v.watches s) l) silent ∙ drop_nil (taken_by v.watches s)

pub ahead_new : (lines : List LineState) (v : View) → length lines ≤ 64 → AreSilent lines → ((s : ℕ) → told_in v s ≡ []) → AreAhead lines v
ahead_new lines v few sent silent = record {
  few = few;
  each = λ s d below. record {
    ahead = ap (λ (l : List Notice). l ++ backlog_of s v) (sent s d below).0 ∙ none_kept v s (silent s) ∙ sym (silent s);
    kept = (sent s d below).1 ∙ sym (ap (λ (l : List Notice). length l) (none_kept v s (silent s)));
    full = inl (none_kept v s (silent s));
  };
}

-- ---- a line that was looked at

long_drop : (xs : List Notice) (i : ℕ) → i ≤ length xs → length (drop i xs) + i ≡ length xs
long_drop xs zero few = omega arith
long_drop [] (suc i) few = absurd (omega (arith, few))
long_drop (x ∷ xs) (suc i) few = let rest = long_drop xs i (omega (arith, few)) in omega (arith, rest)

-- so many are kept back
pub kept_is : (kept s : ℕ) (v : View) → kept + taken_by v.watches s ≡ length (told_in v s) → kept ≡ length (backlog_of s v)
kept_is kept s v e =
    let rest = long_drop (told_in v s) (taken_by v.watches s) (omega (arith, e)) in
    omega (arith, e, rest)

-- a line behind a look is one before what a change tells
pub line_sent : (line : LineState) (s : ℕ) (v : View) → IsLine line s v → line.kept ≢ 0 → line.free ≡ 0
line_sent line s v h some = by h.full
  where
    by : (backlog_of s v ≡ []) ⊎ (line.free ≡ 0) → line.free ≡ 0
    by (inl none) = absurd (some (h.kept ∙ ap (λ (l : List Notice). length l) none))
    by (inr full) = full

-- ---- notices that were moved

pub none_moved : (v : View) → AreMoved v v
none_moved v = record {
  taken = λ s. omega arith;
  told = refl;
  pending = refl;
  origin = refl;
  base = refl;
  before = refl;
  journal = refl;
  keys = refl;
  handles = refl;
  hive = λ h. h;
}

handed_moved : (session count : ℕ) (old new : View) → IsHandedOut session count old new → AreMoved old new
handed_moved session count old new h = record {
  taken = λ s. taken_more s (h.taken s);
  told = h.told;
  pending = h.pending;
  origin = h.origin;
  base = h.base;
  before = h.before;
  journal = h.journal;
  keys = h.keys;
  handles = h.handles;
  hive = h.hive;
}
  where
    cond_least : (b : Bool) (n : ℕ) → n ≤ cond b (n + count) n
    cond_least true n = omega arith
    cond_least false n = omega arith

    taken_more : (s : ℕ) → taken_by new.watches s ≡ cond (eqb s session) (taken_by old.watches s + count) (taken_by old.watches s) →
        taken_by old.watches s ≤ taken_by new.watches s
    taken_more s e = (let least = cond_least (eqb s session) (taken_by old.watches s) in omega (arith, e, least))

pub one_moved : (session : ℕ) (old new : View) → AreHandedOut session old new → AreMoved old new
one_moved session old new h = handed_moved session h.0 old new h.1

pub moved_more : (old mid new : View) → AreMoved old mid → AreMoved mid new → AreMoved old new
moved_more old mid new h k = record {
  taken = λ s. (let a = h.taken s in let b = k.taken s in omega (arith, a, b));
  told = k.told ∙ h.told;
  pending = k.pending ∙ h.pending;
  origin = k.origin ∙ h.origin;
  base = k.base ∙ h.base;
  before = k.before ∙ h.before;
  journal = k.journal ∙ h.journal;
  keys = k.keys ∙ h.keys;
  handles = k.handles ∙ h.handles;
  hive = λ x. k.hive (h.hive x);
}

-- none of a session's notices
pub none_handed : (session : ℕ) (v : View) → AreHandedOut session v v
none_handed session v = (
  0,
  record {
    taken = λ s. same (eqb s session) (taken_by v.watches s);
    told = refl;
    pending = refl;
    origin = refl;
    base = refl;
    before = refl;
    journal = refl;
    keys = refl;
    handles = refl;
    hive = λ h. h;
  },
)
  where
    same : (b : Bool) (n : ℕ) → n ≡ cond b (n + 0) n
    same true n = omega arith
    same false n = refl

pub admitted_moved : (b new : Booked) → IsAdmitted b → AreMoved b.view new.view → new.noted ≡ b.noted → IsAdmitted new
admitted_moved b new a m noted = admitted_journal b new a (m.hive a.hive) noted m.base m.before m.journal

-- ---- what stays ahead

told_same : (old new : View) (s : ℕ) → new.origin ≡ old.origin → new.before ≡ old.before → new.journal ≡ old.journal → told_in new s ≡ told_in old s
told_same old new s origin before journal =
    ap (λ (b : List (List Notice)). slice_index_or b s [] ++ fired new.origin new.journal s) before
    ∙ ap (λ o. slice_index_or old.before s [] ++ fired o new.journal s) origin
    ∙ ap (λ (j : List Entry). slice_index_or old.before s [] ++ fired old.origin j s) journal

-- what is kept back for another session
backlog_other : (session count : ℕ) (old new : View) → IsHandedOut session count old new → (s : ℕ) → (s ≡ session → ⊥) → backlog_of s new ≡ backlog_of s old
backlog_other session count old new h s ne =
    ap (λ (n : ℕ). drop n (told_in new s)) (h.taken s ∙ by (eqb s session) (ne_eqb s session ne))
    ∙ ap (λ (l : List Notice). drop (taken_by old.watches s) l) (told_same old new s h.origin h.before h.journal)
  where
    by : (b : Bool) → b ≡ false → cond b (taken_by old.watches s + count) (taken_by old.watches s) ≡ taken_by old.watches s
    by false e = refl
    by true e = absurd cc

ahead_kept : (old new : View) (s : ℕ) (sent : List Notice) → backlog_of s new ≡ backlog_of s old → told_in new s ≡ told_in old s → IsAhead sent s old →
    IsAhead sent s new
ahead_kept old new s sent same told ahead = ap (λ (l : List Notice). sent ++ l) same ∙ ahead ∙ sym told

line_kept : (line : LineState) (old new : View) (s : ℕ) → backlog_of s new ≡ backlog_of s old → told_in new s ≡ told_in old s → IsLine line s old → IsLine line s new
line_kept line old new s same told h = record {
  ahead = ahead_kept old new s line.sent same told h.ahead;
  kept = h.kept ∙ sym (ap (λ (l : List Notice). length l) same);
  full = subst (λ (l : List Notice). (l ≡ []) ⊎ (line.free ≡ 0)) (sym same) h.full;
}

-- a journal that begins anew leaves all lines as they were
pub ahead_cut : (lines : List LineState) (old new : View) → IsCut old new → AreAhead lines old → AreAhead lines new
ahead_cut lines old new cut a = record { few = a.few; each = λ s d below. line_kept (get_or lines s d) old new s (backlog s) (told s) (a.each s d below) }
  where
    told : (s : ℕ) → told_in new s ≡ told_in old s
    told s =
        ap (λ (es : List Entry). slice_index_or new.before s [] ++ fired new.origin es s) cut.journal
        ∙ append-nil (slice_index_or new.before s [])
        ∙ cut.before s

    backlog : (s : ℕ) → backlog_of s new ≡ backlog_of s old
    backlog s =
        ap (λ (w : Table). drop (taken_by w s) (told_in new s)) cut.watches
        ∙ ap (λ (l : List Notice). drop (taken_by old.watches s) l) (told s)

-- what is true of each line, and of the one that was looked at, is true of each behind the look
each_set : (P Q : LineState → ℕ → Type 0) (lines : List LineState) (at : ℕ) (line : LineState) → at < length lines →
    ((s : ℕ) (d : LineState) → s < length lines → (s ≡ at → ⊥) → P (get_or lines s d) s → Q (get_or lines s d) s) → Q line at →
    (s : ℕ) (d : LineState) → s < length lines → P (get_or lines s d) s → Q (get_or (set lines at line) s d) s
each_set P Q lines at line within other own s d below p =
    elim (cases_eq s at) [
      | inl e ↦ subst (λ n. Q (get_or (set lines at line) n d) n) (sym e) (subst (λ (l : LineState). Q l at) (sym (get_or-set_same lines at line d within)) own)
      | inr ne ↦ subst (λ (l : LineState). Q l s) (sym (get_or-set_other lines at s line d ne)) (other s d below ne p)
    ]

module _ (lines : List LineState) (at : ℕ) (line : LineState) (old new : View) (within : at < length lines) (h : AreHandedOut at old new)
    (own : IsLine line at new) where
  same_long : length (set lines at line) ≡ length lines
  same_long = length-set lines at line

  still : (s : ℕ) (l : LineState) → (s ≡ at → ⊥) → IsLine l s old → IsLine l s new
  still s l ne p = line_kept l old new s (backlog_other at h.0 old new h.1 s ne) (told_same old new s h.1.origin h.1.before h.1.journal) p

  -- one line was looked at
  pub ahead_set : AreAhead lines old → AreAhead (set lines at line) new
  ahead_set a = record {
    few = (let long = same_long in let few = a.few in omega (arith, long, few));
    each = λ s d below.
        let b : s < length lines = (let long = same_long in omega (arith, below, long)) in
        each_set (λ l n. IsLine l n old) (λ l n. IsLine l n new) lines at line within (λ n e x ne p. still n (get_or lines n e) ne p) own s d b (a.each s d b);
  }

  -- the next one was looked at
  pub looked_next : AreSentFrom at lines old → AreSentFrom (at + 1) (set lines at line) new
  looked_next a = record {
    few = (let long = same_long in let few = a.few in omega (arith, long, few));
    sent = λ s d below.
        let b : s < length lines = (let long = same_long in omega (arith, below, long)) in
        each_set (λ l n. IsSent l n old) (λ l n. IsSent l n new) lines at line within
        (λ n e x ne p. (ahead_kept old new n (get_or lines n e).sent (backlog_other at h.0 old new h.1 n ne) (told_same old new n h.1.origin h.1.before h.1.journal) p.0, p.1))
        (own.ahead, line_sent line at new own) s d b (a.sent s d b);
    looked = λ s d less below.
        let b : s < length lines = (let long = same_long in omega (arith, below, long)) in
        elim (cases_eq s at) [
          | inl e ↦ subst (λ n. IsLine (get_or (set lines at line) n d) n new) (sym e)
              (subst (λ (l : LineState). IsLine l at new) (sym (get_or-set_same lines at line d within)) own)
          | inr ne ↦ subst (λ (l : LineState). IsLine l s new) (sym (get_or-set_other lines at s line d ne))
              (still s (get_or lines s d) ne (a.looked s d (omega (arith, less, ne)) b))
        ];
  }

-- all were looked at
pub looked_all : (lines : List LineState) (n : ℕ) (v : View) → length lines ≤ n → AreSentFrom n lines v → AreAhead lines v
looked_all lines n v whole a = record { few = a.few; each = λ s d below. a.looked s d (omega (arith, below, whole)) below }

-- the line of a session, as code finds it
pub ahead_at : (lines : List LineState) (at : ℕ) (found : LineState) (v : View) → at < length lines → found ≡ get_or lines at found → AreAhead lines v →
    IsAhead found.sent at v
ahead_at lines at found v within is a = subst (λ (l : LineState). IsAhead l.sent at v) (sym is) (a.each at found within).ahead

pub sent_at : (lines : List LineState) (at n : ℕ) (found : LineState) (v : View) → at < length lines → found ≡ get_or lines at found → AreSentFrom n lines v →
    IsSent found at v
sent_at lines at n found v within is a = subst (λ (l : LineState). IsSent l at v) (sym is) (a.sent at found within)

-- ---- an accepted change

drop_more : (xs ys : List Notice) (i : ℕ) → i ≤ length xs → drop i (xs ++ ys) ≡ drop i xs ++ ys
drop_more xs ys zero few = refl
drop_more [] ys (suc i) few = absurd (omega (arith, few))
drop_more (x ∷ xs) ys (suc i) few = drop_more xs ys i (omega (arith, few))

module _ (lines : List LineState) (old new : View) (session moment : ℕ) (change : Change) (reply : ChangeReply) (hive : IsHive old) (a : AreAhead lines old)
    (h : IsAccepted old new session moment change reply) where
  abbrev e : Entry
  e = entry_of old session moment change

  abbrev more : ℕ → List Notice
  more s = notices s (ending (replay old.origin old.journal) e) (pending old.origin old.journal)

  told : (s : ℕ) → told_in new s ≡ told_in old s ++ more s
  told s =
      ap (λ (b : List (List Notice)). slice_index_or b s [] ++ fired new.origin new.journal s) h.before
      ∙ ap (λ o. slice_index_or old.before s [] ++ fired o new.journal s) h.origin
      ∙ ap (λ (j : List Entry). slice_index_or old.before s [] ++ fired old.origin j s) h.journal
      ∙ ap (λ (l : List Notice). slice_index_or old.before s [] ++ l) (fired-push old.origin old.journal e s)
      ∙ sym (append_assoc (slice_index_or old.before s []) (fired old.origin old.journal s) (more s))

  backlog : (s : ℕ) → backlog_of s new ≡ backlog_of s old ++ more s
  backlog s =
      ap (λ (t : List ℕ). drop (get_or t s 0) (told_in new s)) h.taken
      ∙ ap (λ (l : List Notice). drop (taken_by old.watches s) l) (told s)
      ∙ drop_more (told_in old s) (more s) (taken_by old.watches s) (hive.taken s)

  -- what it told is kept back at first
  sent_more : AreSentFrom 0 lines new
  sent_more = record {
    few = a.few;
    sent = λ s d below.
        (let l = get_or lines s d in
        let was = a.each s d below in (
          ap (λ (b : List Notice). l.sent ++ b) (backlog s) ∙ sym (append_assoc l.sent (backlog_of s old) (more s)) ∙ ap (λ (b : List Notice). b ++ more s) was.ahead ∙ sym (told s),
          line_sent l s old was,
        ));
    looked = λ s d less below. absurd (omega (arith, less));
  }

  -- where no fewer watches are pending it told nobody anything
  quiet_more : length old.watches.pending ≤ length new.watches.pending → AreAhead lines new
  quiet_more still = record {
    few = a.few;
    each = λ s d below. line_kept (get_or lines s d) old new s (backlog s ∙ ap (λ (l : List Notice). backlog_of s old ++ l) (none s) ∙ append-nil (backlog_of s old))
        (told s ∙ ap (λ (l : List Notice). told_in old s ++ l) (none s) ∙ append-nil (told_in old s)) (a.each s d below);
  }
    where
      is_pending : new.watches.pending ≡ pending_past (ending (replay old.origin old.journal) e) (watch_of (replay old.origin old.journal) e) (pending old.origin old.journal)
      is_pending =
          h.hive.pending
          ∙ ap (λ o. pending o new.journal) h.origin
          ∙ ap (λ (j : List Entry). pending old.origin j) h.journal
          ∙ pending-push old.origin old.journal e

      none : (s : ℕ) → more s ≡ []
      none s = quiet_change s (replay old.origin old.journal) e (pending old.origin old.journal)
          (let x = ap (λ (w : List Watch). length w) is_pending in let y = ap (λ (w : List Watch). length w) hive.pending in omega (arith, still, x, y))

sent_same : (lines : List LineState) (v : View) → AreAhead lines v → AreSentFrom 0 lines v
sent_same lines v a = record {
  few = a.few;
  sent = λ s d below. ((a.each s d below).ahead, line_sent (get_or lines s d) s v (a.each s d below));
  looked = λ s d less below. absurd (omega (arith, less));
}

-- a change that was answered, whether it was accepted or not
module _ {k : Callbacks} {old new : Booked} {share after : Seat} {moment : ℕ} {change : Change} {reply : ChangeReply} (lines : List LineState)
    (p : IsAnswered k old new share after moment change reply) (admitted : IsAdmitted old) (a : AreAhead lines old.view) where
  same_ahead : new.view ≡ old.view → AreAhead lines new.view
  same_ahead same = subst (λ (v : View). AreAhead lines v) (sym same) a

  pub sent_changed : AreSentFrom 0 lines new.view
  sent_changed =
      elim (decided old share) [
        | inl c ↦ elim (either _ old.view new.view share.session moment change reply (p.applied c)) [
          | inl same ↦ sent_same lines new.view (same_ahead same)
          | inr more ↦ sent_more lines old.view new.view share.session moment change reply admitted.hive a more
        ]
        | inr none ↦ sent_same lines new.view (same_ahead (p.stale none).1)
      ]

  pub quiet_changed : length old.view.watches.pending ≤ length new.view.watches.pending → AreAhead lines new.view
  quiet_changed still =
      elim (decided old share) [
        | inl c ↦ elim (either _ old.view new.view share.session moment change reply (p.applied c)) [
          | inl same ↦ same_ahead same
          | inr more ↦ quiet_more lines old.view new.view share.session moment change reply admitted.hive a more still
        ]
        | inr none ↦ same_ahead (p.stale none).1
      ]
