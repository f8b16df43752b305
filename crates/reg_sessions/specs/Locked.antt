-- What stands behind a hive's lock, and what sessions may be told there.
use Rattle.std.specs.Prelude.{◌≡◌, ◌+◌, ◌<◌, ◌≤◌, ◌⊎◌, ℕ, true, List, [], None, length, slice_index_or, refl}
use Rattle.std.specs.Coded.{Coded, code_by, coded×, coded_list, coded_ℕ}
use Rattle.reg_model.specs.Callbacks.{change_status}
use Rattle.reg_model.specs.Causes.{change_cause}
use Rattle.reg_model.specs.Histories.{count_of}
use Rattle.reg_model.specs.Replies.{refusal}
use Rattle.reg_model.specs.declared.answer.Answer.{Answer}
use Rattle.reg_model.specs.declared.call.Change.{Change}
use Rattle.reg_model.specs.declared.call.Query.{Query}
use Rattle.reg_model.specs.declared.limits.TheConstants.{SESSIONS_LIMIT}
use Rattle.reg_model.specs.declared.reply.ChangeReply.{ChangeReply}
use Rattle.reg_model.specs.declared.statuses.TheConstants.{NOT_ENOUGH_MEMORY}
use Rattle.reg_journal.specs.Kept.{Seat, IsCurrent, total_of}
use Rattle.reg_callbacks.specs.Asking.{Answers}
use Rattle.reg_callbacks.specs.Lists.{altitudes_of, cookies_of, made_of}
use Rattle.reg_callbacks.specs.Rows.{IsOneMore}
use Rattle.reg_calls.specs.declared.hive.Hive.{Hive}
use Rattle.reg_calls.specs.HiveView.{view_of, noted_of, callbacks_of, asks_of}
use Rattle.reg_calls.specs.Views.{View, Booked, coded_view, next_of, state, IsApplied, IsHive, IsRead}
use Rattle.reg_notify.specs.Tables.{coded_notice}
use Rattle.reg_model.specs.declared.notice.Notice.{Notice}
use Rattle.reg_outbox.specs.Rings.{IsAhead, backlog_of}
use Rattle.reg_sessions.specs.Sessions.{closes}

-- a hive with its book, without its callbacks
abbrev pub booked_of : {C : Type 0} → Hive C → Booked
booked_of h = record { view = view_of h; noted = noted_of h }

-- what is true of each value that a lock's type admits, and so whenever a lock is free: all that is true of every hive; it has had as many
-- entries as its sessions' rows count together; where none came before its journal, nobody was told anything before it; and who has no
-- seat has no entry
pub record IsAdmitted (b : Booked) : Type 0 where
  pub hive : IsHive b.view
  pub total : next_of b.view ≡ total_of b.noted b.view.journal
  pub began : b.view.base ≡ 0 → (s : ℕ) → slice_index_or b.view.before s [] ≡ []
  pub seated : (s : ℕ) → length b.noted ≤ s → count_of s b.view.journal ≡ 0

-- the end of a session's ring that stands with a hive: all that was sent into the ring, for how many notices it is known to have room, and
-- how many the hive kept back for the session when it was last looked at
pub record LineState : Type 0 where
  pub sent : List Notice
  pub free : ℕ
  pub kept : ℕ

abbrev pub coded_line : Coded LineState
coded_line =
    code_by (List Notice × (ℕ × ℕ)) (coded× (coded_list coded_notice) (coded× coded_ℕ coded_ℕ)) (λ l. (l.sent, (l.free, l.kept)))
    (λ p. record { sent = p.0; free = p.1.0; kept = p.1.1 }) (λ _. refl)

-- what stands behind a hive's lock: the hive and its book's rows; for each session that has a seat the end of its ring; and of the
-- callbacks that are registered the altitudes, the highest first, and the cookies, with how many registrations were made
pub record Held : Type 0 where
  pub view : View
  pub noted : List ℕ
  pub lines : List LineState
  pub altitudes : List ℕ
  pub cookies : List ℕ
  pub made : ℕ

abbrev pub coded_held : Coded Held
coded_held =
    code_by ((View × List ℕ) × (List LineState × (List ℕ × (List ℕ × ℕ))))
    (coded× (coded× coded_view (coded_list coded_ℕ)) (coded× (coded_list coded_line) (coded× (coded_list coded_ℕ) (coded× (coded_list coded_ℕ) coded_ℕ))))
    (λ h. ((h.view, h.noted), (h.lines, (h.altitudes, (h.cookies, h.made)))))
    (λ p. record { view = p.0.0; noted = p.0.1; lines = p.1.0; altitudes = p.1.1.0; cookies = p.1.1.1.0; made = p.1.1.1.1 }) (λ _. refl)

-- a hive with these ends of rings
abbrev pub held_of : {C : Type 0} → List LineState → Hive C → Held
held_of lines h = record {
  view = view_of h;
  noted = noted_of h;
  lines = lines;
  altitudes = altitudes_of (callbacks_of h);
  cookies = cookies_of (callbacks_of h);
  made = made_of (callbacks_of h);
}

-- the hive of it, with its book
abbrev pub book_of : Held → Booked
book_of held = record { view = held.view; noted = held.noted }

-- what is true of it while the hive's lock is free: what was sent, followed by what the hive keeps back for the session, is all that the
-- session was told; as many are kept back as then; and none, unless the ring was full
pub record IsLine (line : LineState) (session : ℕ) (hive : View) : Type 0 where
  pub ahead : IsAhead line.sent session hive
  pub kept : line.kept ≡ length (backlog_of session hive)
  pub full : (backlog_of session hive ≡ []) ⊎ (line.free ≡ 0)

-- so are those of a hive
pub record AreAhead (lines : List LineState) (hive : View) : Type 0 where
  pub few : length lines ≤ SESSIONS_LIMIT
  pub each : (s : ℕ) (d : LineState) → s < length lines → IsLine (slice_index_or lines s d) s hive

-- what a lock's type admits of rings beside a hive, and so what is true whenever a lock is free: each session that has a seat has one, and
-- what that was sent, followed by what the hive keeps back for the session, is all that the session was told
pub record AreDelivered (held : Held) : Type 0 where
  pub seats : length held.lines ≡ length held.noted
  pub ahead : AreAhead held.lines held.view

-- the same callbacks
pub record HaveSameCallbacks (old new : Held) : Type 0 where
  pub altitudes : new.altitudes ≡ old.altitudes
  pub cookies : new.cookies ≡ old.cookies
  pub made : new.made ≡ old.made

-- a callback more is registered, at this altitude and with this cookie, and nothing else changed
pub record IsRegistered (altitude cookie : ℕ) (old new : Held) : Type 0 where
  pub at : IsOneMore altitude old.altitudes new.altitudes
  pub one : IsOneMore cookie old.cookies new.cookies
  pub next : cookie ≡ old.made
  pub counted : new.made ≡ old.made + 1
  pub rest : new ≡ record old { altitudes = new.altitudes; cookies = new.cookies; made = new.made }

-- the callback with this cookie was taken out, with its altitude, and nothing else changed
pub record IsUnregistered (cookie : ℕ) (old new : Held) : Type 0 where
  pub altitude : ℕ
  pub at : IsOneMore altitude new.altitudes old.altitudes
  pub one : IsOneMore cookie new.cookies old.cookies
  pub rest : new ≡ record old { altitudes = new.altitudes; cookies = new.cookies }

-- a hive that a lock's type admits, at which a share is current, and which has had as many entries as a mark
pub record IsInSight {C : Type 0} (share : Seat) (mark : ℕ) (h : Hive C) : Type 0 where
  pub admitted : IsAdmitted (booked_of h)
  pub current : IsCurrent (noted_of h) (view_of h).journal share
  pub reached : mark ≤ next_of (view_of h)

-- some hive in sight, whose callbacks answer so, may reply so to a change
pub record IsLawfulReply {C : Type 0} (answers : C → Answers) (share : Seat) (mark moment : ℕ) (change : Change) (reply : ChangeReply) : Type 0 where
  pub hive : Hive C
  pub new : View
  pub sight : IsInSight share mark hive
  pub applied : IsApplied (asks_of answers hive) (view_of hive) new share.session moment change reply

-- some hive in sight, whose callbacks answer so, has no cause to refuse a change
pub record IsUncaused {C : Type 0} (answers : C → Answers) (share : Seat) (mark moment : ℕ) (change : Change) : Type 0 where
  pub hive : Hive C
  pub sight : IsInSight share mark hive
  pub uncaused : change_cause (state (view_of hive)) share.session change
      (change_status (asks_of answers hive) (state (view_of hive)).world share.session moment change) ≡ None

-- what a session with so many open handles may be told of a change: such a reply, or 8 where there may be no other cause. A hive lacks
-- memory for no Close (`Lacks` of reg_calls), nor does a session that has a handle open: it is told 8 of none then
abbrev pub IsLawfulOrLacks : {C : Type 0} → (C → Answers) → Seat → (mark handles moment : ℕ) → Change → ChangeReply → Type 0
IsLawfulOrLacks answers share mark handles moment change reply =
    IsLawfulReply answers share mark moment change reply
    ⊎ ((reply ≡ refusal NOT_ENOUGH_MEMORY) × (closes change ≡ true → handles ≡ 0) × IsUncaused answers share mark moment change)

-- some hive in sight may answer so to a question, with how many entries it has had
pub record IsLawfulAnswer {C : Type 0} (answers : C → Answers) (share : Seat) (mark : ℕ) (query : Query) (answer : Answer) : Type 0 where
  pub hive : Hive C
  pub sight : IsInSight share mark hive
  pub at : answer.at ≡ next_of (view_of hive)
  pub body : IsRead (asks_of answers hive) (state (view_of hive)) share.session query answer.body

-- a hive that has had no entry, and at which no session has a seat
abbrev pub IsUnused : {C : Type 0} → Hive C → Type 0
IsUnused h = (next_of (view_of h) ≡ 0) × (noted_of h ≡ [])

abbrev pub AreUnused : {C : Type 0} → List (Hive C) → Type 0
AreUnused hs = (i : ℕ) (d : Hive _) → i < length hs → IsUnused (slice_index_or hs i d)
