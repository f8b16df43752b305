use Rattle.std.proofs.Common.{◌++◌, ◌∷◌, [], ◌+◌, ℕ, List, length, sym, ap, ◌∙◌, subst, arith, None, inl, refl}
use Rattle.reg_model.specs.declared.reply.Entry.{Entry}
use Rattle.reg_model.specs.Replies.{refusal}
use Rattle.reg_journal.specs.Kept.{Seat, IsCurrent}
use Rattle.reg_notify.specs.Tables.{Table}
use Rattle.reg_callbacks.specs.Asking.{asks}
use Rattle.reg_callbacks.specs.Lists.{answers_of}
use Rattle.reg_calls.specs.declared.store.JournalEnd.{JournalEnd}
use Rattle.reg_calls.specs.declared.quiet.Quiet.{Quiet}
use Rattle.reg_calls.specs.declared.refusal.Refusal.TheVariants.{Memory}
use Rattle.reg_calls.specs.Internal.Stores.{IsReady, IsCarriedOut, at}
use Rattle.reg_calls.specs.Internal.Admissions.{IsClear}
use Rattle.reg_calls.specs.Internal.QuietKeys.{AreUnhit}
use Rattle.reg_calls.specs.Views.{Booked, View, before_of, view_with, IsApplied}
use Rattle.reg_calls.proofs.RefusalTests.{still-clear}
use Rattle.reg_calls.proofs.KnownKeys.{unmade}
use Rattle.reg_calls.proofs.QuietChanges.{unhit-same, unhit-at}
use Rattle.reg_calls.proofs.SharesOfHives.{current-more, current-at}
use Rattle.reg_calls.proofs.HiveInvariantLemmas.{end-is, one-more, ready-kept, state-kept, state-view, append-room, kept-done, kept-at, kept-roomier, kept-unmade, view-at, accepted, applied-by}
use Rattle.reg_calls.proofs.AdmittedChanges.{admits-clear, refused-as, given-up}
use Rattle.reg_calls.proofs.hive_core.Core.apply.Goals as goal

pub admit-requires-clause-ready : goal.admit-requires-clause-ready
admit-requires-clause-ready g c =
    let end = end-is c.end_of-end.result _ _ c.end_of-end.ensures.kept c.end_of-end.ensures.next in
    subst (λ (n : JournalEnd). IsReady n c.self.inside.store) (sym end) (ready-kept c.self.invariant.2)

pub returns-in-Err-clause-applied : goal.returns-in-Err-clause-applied
returns-in-Err-clause-applied g c =
    let store = c.self.inside.store in
    let k = asks (answers_of g.C.Callback.answers c.args.callbacks.now) in
    let end = end-is c.end_of-end.result _ _ c.end_of-end.ensures.kept c.end_of-end.ensures.next in
    let is = state-view _ c.self.invariant.2 (ap (λ (b : Booked). b.view) c.self.view_is) ∙ ap (λ (n : JournalEnd). at n store) (sym end) in
    subst (λ (s : ℕ). IsApplied k c.args.self.now.view c.args.self.now.view s c.args.moment c.args.change c.refuse.result) c.session-session.ensures.session
    (refused-as k c.args.self.now.view c.args.self.now.view c.session-session.result c.args.moment c.args.change
    c.refuse.result c.end_of-end.result store c.in-Err.refusal
    is c.in-Err.ensures (c.refuse.ensures ∙ ap refusal c.status.ensures) refl)

pub returns-in-Err-keep_room-clause-applied : goal.returns-in-Err-keep_room-clause-applied
returns-in-Err-keep_room-clause-applied g c =
    let store = c.self.inside.store in
    let origin = c.self.inside.origin.value.tree in
    let k = asks (answers_of g.C.Callback.answers c.args.callbacks.now) in
    let end = end-is c.end_of-end.result _ _ c.end_of-end.ensures.kept c.end_of-end.ensures.next in
    let view_is = ap (λ (b : Booked). b.view) c.self.view_is in
    let is = state-view _ c.self.invariant.2 view_is ∙ ap (λ (n : JournalEnd). at n store) (sym end) in
    let clear = admits-clear c.end_of-end.result store c.session-session.result c.args.change c.in-Ok.admitted c.in-Ok.ensures.0 in
    let new : View = view_with origin c.keep_room.new.journal.base c.self.inside.told.value.told c.keep_room.new.journal.entries store in
    subst (λ (s : ℕ). IsApplied k c.args.self.now.view new s c.args.moment c.args.change c.refuse-in-Err-keep_room.result) c.session-session.ensures.session
    (refused-as k c.args.self.now.view new c.session-session.result c.args.moment c.args.change
    c.refuse-in-Err-keep_room.result c.end_of-end.result store Memory
    is (clear, c.in-Err-keep_room.ensures.err, c.in-Ok.ensures.1) c.refuse-in-Err-keep_room.ensures
    (view-at origin c.self.inside.told.value.told store c.in-Err-keep_room.ensures.base c.in-Err-keep_room.ensures.entries ∙ view_is))

pub carry_out-requires-clause-ready : goal.carry_out-requires-clause-ready
carry_out-requires-clause-ready g c =
    let end = end-is c.end_of-end.result _ _ c.end_of-end.ensures.kept c.end_of-end.ensures.next in
    subst (λ (n : JournalEnd). IsReady n c.self.inside.store) (sym end) (ready-kept c.self.invariant.2)

pub invariant_of-self : goal.invariant_of-self
invariant_of-self g c = (
  c.self.invariant.0,
  unhit-at c.self.inside.store c.self.inside.quiet c.in-Err-keep_room.ensures.base c.in-Err-keep_room.ensures.entries c.self.invariant.1,
  kept-roomier c.self.invariant.2 _ _ c.keep_room.new.journal.room c.in-Err-keep_room.ensures.base c.in-Err-keep_room.ensures.entries c.in-Err-keep_room.ensures.room,
)

pub carry_out-requires-clause-unhit : goal.carry_out-requires-clause-unhit
carry_out-requires-clause-unhit g c = subst (λ (n : ℕ). AreUnhit n c.self.inside.store c.self.inside.quiet) (sym c.end_of-end.ensures.next) c.self.invariant.1

pub carry_out-requires-clause-admitted : goal.carry_out-requires-clause-admitted
carry_out-requires-clause-admitted g c = (c.args.change, c.in-Ok.ensures.0)

pub append-requires-clause-room : goal.append-requires-clause-room
append-requires-clause-room g c =
    let store = c.self.inside.store in
    let end = end-is c.end_of-end.result _ _ c.end_of-end.ensures.kept c.end_of-end.ensures.next in
    let clear = subst (λ (n : JournalEnd). IsClear n store c.session-session.result c.args.change) end
    (admits-clear c.end_of-end.result store c.session-session.result c.args.change c.in-Ok.admitted c.in-Ok.ensures.0) in
    let done = subst (λ (n : JournalEnd). IsCarriedOut store c.carry_out.new.self c.session-session.result c.args.moment n c.args.change c.in-Ok-carry_out.reply) end
    (c.in-Ok-carry_out.ensures.carried c.args.change c.in-Ok.ensures.0) in
    let kept = c.self.invariant.2.room_kept in
    let more = c.in-Ok-keep_room.ensures.room in
    let handles = c.len-handles.ensures.len in
    append-room c.self.invariant.2 c.session-session.result c.args.moment c.args.change clear c.carry_out.new.self c.in-Ok-carry_out.reply done c.keep_room.new.journal.room
    ((λ opens. let r = c.in-Ok-keep_room.ensures.ok opens in omega (arith, r, handles)), (λ closing. omega (arith, kept, more)))

pub append-requires-clause-current : goal.append-requires-clause-current
append-requires-clause-current g c =
    current-at c.in-Ok-keep_room.ensures.noted c.in-Ok-keep_room.ensures.entries
    (subst (λ (b : Booked). IsCurrent b.noted b.view.journal c.args.share.now) (sym c.self.view_is) c.requires)

pub invariant_of-self-in-Ok-carry_out : goal.invariant_of-self-in-Ok-carry_out
invariant_of-self-in-Ok-carry_out g c =
    let store = c.self.inside.store in
    let es = c.self.inside.journal.entries in
    let base = c.self.inside.journal.base in
    let end = end-is c.end_of-end.result _ _ c.end_of-end.ensures.kept c.end_of-end.ensures.next in
    let clear = subst (λ (n : JournalEnd). IsClear n store c.session-session.result c.args.change) end
    (admits-clear c.end_of-end.result store c.session-session.result c.args.change c.in-Ok.admitted c.in-Ok.ensures.0) in
    let done = subst (λ (n : JournalEnd). IsCarriedOut store c.carry_out.new.self c.session-session.result c.args.moment n c.args.change c.in-Ok-carry_out.reply) end
    (c.in-Ok-carry_out.ensures.carried c.args.change c.in-Ok.ensures.0) in
    let kept = c.self.invariant.2.room_kept in
    let more = c.in-Ok-keep_room.ensures.room in
    let handles = c.len-handles.ensures.len in
    let entry : ℕ → Entry = λ n. record { number = n; session = c.session-session.result; moment = c.args.moment; change = c.args.change; reply = c.in-Ok-carry_out.reply } in
    let bases = c.append.ensures.base ∙ c.in-Ok-keep_room.ensures.base in
    let entries = c.append.ensures.entries ∙
    (ap (λ (x : List Entry). x ++ entry c.end_of-end.result.next ∷ []) c.in-Ok-keep_room.ensures.entries ∙
    ap (λ (n : ℕ). es ++ entry n ∷ []) c.end_of-end.ensures.next) in
    let all = kept-done c.self.invariant.2 c.session-session.result c.args.moment c.args.change clear c.carry_out.new.self c.in-Ok-carry_out.reply done
    c.keep_room.new.journal.room c.append.new.self.room c.session-session.ensures.below c.arena.ensures.sound c.arena.ensures.whole
    ((λ opens. let r = c.in-Ok-keep_room.ensures.ok opens in omega (arith, r, handles)), (λ closing. omega (arith, kept, more))) c.append.ensures.room in (
      c.in-Ok-carry_out.ensures.rows,
      subst (λ (n : ℕ). AreUnhit n c.carry_out.new.self c.carry_out.new.quiet)
          (ap (λ (n : ℕ). n + 1) c.end_of-end.ensures.next ∙ (one-more base es (entry (base + length es)) entries ∙ ap (λ (b : ℕ). b + length c.append.new.self.entries) (sym bases)))
          c.in-Ok-carry_out.ensures.unhit,
      kept-at _ _ bases entries all,
    )

pub returns-in-Ok-carry_out-clause-applied : goal.returns-in-Ok-carry_out-clause-applied
returns-in-Ok-carry_out-clause-applied g c =
    let store = c.self.inside.store in
    let origin = c.self.inside.origin.value.tree in
    let es = c.self.inside.journal.entries in
    let k = asks (answers_of g.C.Callback.answers c.args.callbacks.now) in
    let end = end-is c.end_of-end.result _ _ c.end_of-end.ensures.kept c.end_of-end.ensures.next in
    let clear = admits-clear c.end_of-end.result store c.session-session.result c.args.change c.in-Ok.admitted c.in-Ok.ensures.0 in
    let done = subst (λ (n : JournalEnd). IsCarriedOut store c.carry_out.new.self c.session-session.result c.args.moment n c.args.change c.in-Ok-carry_out.reply) end
    (c.in-Ok-carry_out.ensures.carried c.args.change c.in-Ok.ensures.0) in
    let entry : ℕ → Entry = λ n. record { number = n; session = c.session-session.result; moment = c.args.moment; change = c.args.change; reply = c.in-Ok-carry_out.reply } in
    let bases = c.append.ensures.base ∙ c.in-Ok-keep_room.ensures.base in
    let entries = c.append.ensures.entries ∙
    (ap (λ (x : List Entry). x ++ entry c.end_of-end.result.next ∷ []) c.in-Ok-keep_room.ensures.entries ∙
    ap (λ (n : ℕ). es ++ entry n ∷ []) c.end_of-end.ensures.next) in
    let all = (invariant_of-self-in-Ok-carry_out g c).2 in
    let view_is = ap (λ (b : Booked). b.view) c.self.view_is in
    let is = state-view _ c.self.invariant.2 view_is ∙ ap (λ (n : JournalEnd). at n store) (sym end) in
    let new : View = view_with origin c.append.new.self.base c.self.inside.told.value.told c.append.new.self.entries c.carry_out.new.self in
    subst (λ (s : ℕ). IsApplied k c.args.self.now.view new s c.args.moment c.args.change c.in-Ok-carry_out.reply) c.session-session.ensures.session
    (applied-by k c.args.self.now.view new c.session-session.result c.args.moment c.args.change c.in-Ok-carry_out.reply c.end_of-end.result store None is
    (sym (still-clear (at c.end_of-end.result store) c.session-session.result _ c.args.change clear c.in-Ok.ensures.1))
    (inl (accepted c.self.invariant.2 c.args.self.now.view new view_is c.session-session.result c.args.moment c.args.change c.in-Ok-carry_out.reply
    done.reply entries refl bases (ap (λ (n : ℕ). before_of n c.self.inside.told.value.told) bases) done.watches.taken done.kept_keys done.kept done.grows all.hive)))

pub returns-in-Ok-carry_out-clause-current : goal.returns-in-Ok-carry_out-clause-current
returns-in-Ok-carry_out-clause-current g c =
    let es = c.self.inside.journal.entries in
    let entry : Entry = record { number = c.end_of-end.result.next; session = c.session-session.result; moment = c.args.moment; change = c.args.change; reply = c.in-Ok-carry_out.reply } in
    let was = subst (λ (b : Booked). IsCurrent b.noted b.view.journal c.args.share.now) (sym c.self.view_is) c.requires in
    current-at (c.append.ensures.noted ∙ c.in-Ok-keep_room.ensures.noted)
    (c.append.ensures.entries ∙ ap (λ (x : List Entry). x ++ entry ∷ []) c.in-Ok-keep_room.ensures.entries)
    (current-more c.self.inside.journal.noted es entry c.args.share.now c.append.new.share was c.session-session.ensures.session
    (ap (λ (s : Seat). s.session) c.append.ensures.share) (ap (λ (s : Seat). s.count) c.append.ensures.share))

pub invariant_of-self-in-Err-carry_out : goal.invariant_of-self-in-Err-carry_out
invariant_of-self-in-Err-carry_out g c =
    let made = c.in-Err-carry_out.ensures.carried c.args.change c.in-Ok.ensures.0 in
    let same = unmade _ c.carry_out.new.self c.session-session.result c.args.moment c.end_of-end.result c.args.change c.in-Err-carry_out.lack made in
    let unhit = unhit-same _ _ c.carry_out.new.self c.self.inside.quiet same.handles (ap (λ (w : Table). w.pending) same.watches) c.self.invariant.1 in (
      c.in-Err-carry_out.ensures.rows,
      subst (λ (q : Quiet). AreUnhit (c.keep_room.new.journal.base + length c.keep_room.new.journal.entries) c.carry_out.new.self q) (sym c.in-Err-carry_out.ensures.quiet)
          (unhit-at c.carry_out.new.self c.self.inside.quiet c.in-Ok-keep_room.ensures.base c.in-Ok-keep_room.ensures.entries unhit),
      kept-unmade c.self.invariant.2 c.carry_out.new.self _ _ c.keep_room.new.journal.room c.session-session.result c.args.moment
          c.end_of-end.result c.args.change c.in-Err-carry_out.lack made c.in-Ok-keep_room.ensures.base c.in-Ok-keep_room.ensures.entries c.in-Ok-keep_room.ensures.room,
    )

pub returns-in-Err-carry_out-clause-applied : goal.returns-in-Err-carry_out-clause-applied
returns-in-Err-carry_out-clause-applied g c =
    let origin = c.self.inside.origin.value.tree in
    let store = c.self.inside.store in
    let es = c.self.inside.journal.entries in
    let base = c.self.inside.journal.base in
    let k = asks (answers_of g.C.Callback.answers c.args.callbacks.now) in
    let end = end-is c.end_of-end.result _ _ c.end_of-end.ensures.kept c.end_of-end.ensures.next in
    let is = state-kept c.self.invariant.2 ∙ ap (λ (n : JournalEnd). at n store) (sym end) in
    let clear = admits-clear c.end_of-end.result store c.session-session.result c.args.change c.in-Ok.admitted c.in-Ok.ensures.0 in
    let made = c.in-Err-carry_out.ensures.carried c.args.change c.in-Ok.ensures.0 in
    let told = c.refuse-in-Err-carry_out.ensures ∙ ap refusal c.status-in-Err-carry_out.ensures in
    let new : View = view_with origin c.keep_room.new.journal.base c.self.inside.told.value.told c.keep_room.new.journal.entries c.carry_out.new.self in
    subst (λ (s : ℕ). IsApplied k c.args.self.now.view new s c.args.moment c.args.change c.refuse-in-Err-carry_out.result) c.session-session.ensures.session
    (given-up k origin base c.self.inside.told.value.told es store c.carry_out.new.self c.session-session.result c.args.moment
    c.end_of-end.result c.args.change c.refuse-in-Err-carry_out.result c.in-Err-carry_out.lack
    is clear c.in-Ok.ensures.1 made told c.args.self.now.view new (ap (λ (b : Booked). b.view) c.self.view_is)
    (view-at origin c.self.inside.told.value.told c.carry_out.new.self c.in-Ok-keep_room.ensures.base c.in-Ok-keep_room.ensures.entries))
