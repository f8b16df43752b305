use Rattle.std.proofs.Common.{◌≡◌, ℕ, ◌<◌, ◌∙◌, ap, true, sym, subst, refl}
use Rattle.reg_notify.specs.Internal.Keys.{key_text}
use Rattle.reg_model.specs.Causes.{watches_of}
use Rattle.reg_notify.specs.Internal.Marks.{is_marked}
use Rattle.reg_notify.specs.Internal.Rows.{watches_at}
use Rattle.reg_model.specs.declared.limits.TheConstants.{WATCHES_LIMIT}
use Rattle.reg_notify.proofs.AddedRows.{AreBelow}
use Rattle.reg_notify.proofs.Added.{are-below, has-queue, few-pending}
use Rattle.reg_notify.proofs.AddSteps.{none-yet, put-settled, put-shown, back-settled, back-shown, unput-settled, unput-shown, on-err}
use Rattle.reg_notify.proofs.table.Table.add.Goals as goal

pub index_both-requires-clause-new : goal.index_both-requires-clause-new
index_both-requires-clause-new c =
    let t = c.make_room.new.self in
    let n = c.args.asked.number in
    let below = subst (λ m. AreBelow n m.entries) (sym c.make_room.ensures.rows) (are-below n c.args.self.now.rows.entries c.requires.above) in
    none-yet c.args.self.now t c.args.asked c.new_row-row.result c.make_room.ensures.settled c.make_room.ensures.shown below c.new_row-row.ensures.row c.new_row-row.ensures.asked
    c.in_ok-holder.holder.items c.in_ok-holder.ensures

pub count_up-requires-clause-session : goal.count_up-requires-clause-session
count_up-requires-clause-session c = has-queue c.make_room.new.self c.make_room.ensures.settled c.args.asked.session c.requires.session

pub count_up-requires-clause-few : goal.count_up-requires-clause-few
count_up-requires-clause-few c =
    few-pending c.make_room.new.self c.make_room.ensures.settled c.args.asked.session
    (subst (λ m. watches_of c.args.asked.session (watches_at m.entries) < WATCHES_LIMIT) (sym c.make_room.ensures.rows) c.requires.room)

pub returns-in-Ok-clause-settled : goal.returns-in-Ok-clause-settled
returns-in-Ok-clause-settled c =
    let t = c.make_room.new.self in
    let n = c.args.asked.number in
    let below = subst (λ m. AreBelow n m.entries) (sym c.make_room.ensures.rows) (are-below n c.args.self.now.rows.entries c.requires.above) in
    put-settled c.args.self.now t c.args.asked c.new_row-row.result c.make_room.ensures.settled c.make_room.ensures.shown below c.new_row-row.ensures.row c.new_row-row.ensures.asked
    (record t { rows = c.insert.new.self; places = c.index_both.new.places; handles = c.index_both.new.handles; queues = c.count_up.new.queues })
    c.in_ok-key.key.items c.in_ok-holder.holder.items c.in_ok-insert.ensures.entries
    (c.in_ok-key.ensures.text ∙ ap (λ (k : ℕ). key_text c.args.asked.place k c.args.asked.number) c.class_of-class.ensures)
    c.in_ok-holder.ensures c.in-Ok.ensures.places c.in-Ok.ensures.handles refl
    (subst (λ l. is_marked t.marks.slots.items l ≡ true) c.text.ensures c.in_ok-make_room.ensures.marked) refl c.in_ok-make_room.ensures.sent
    c.count_up.ensures.pending c.count_up.ensures.rooms c.count_up.ensures.told c.count_up.ensures.taken c.count_up.ensures.len c.in_ok-make_room.ensures.queue

pub returns-in-Ok-clause-ok : goal.returns-in-Ok-clause-ok
returns-in-Ok-clause-ok c =
    let t = c.make_room.new.self in
    let n = c.args.asked.number in
    let below = subst (λ m. AreBelow n m.entries) (sym c.make_room.ensures.rows) (are-below n c.args.self.now.rows.entries c.requires.above) in
    put-shown c.args.self.now t c.args.asked c.new_row-row.result c.make_room.ensures.settled c.make_room.ensures.shown below c.new_row-row.ensures.row c.new_row-row.ensures.asked
    (record t { rows = c.insert.new.self; places = c.index_both.new.places; handles = c.index_both.new.handles; queues = c.count_up.new.queues })
    c.in_ok-key.key.items c.in_ok-holder.holder.items c.in_ok-insert.ensures.entries
    (c.in_ok-key.ensures.text ∙ ap (λ (k : ℕ). key_text c.args.asked.place k c.args.asked.number) c.class_of-class.ensures)
    c.in_ok-holder.ensures c.in-Ok.ensures.places c.in-Ok.ensures.handles refl
    (subst (λ l. is_marked t.marks.slots.items l ≡ true) c.text.ensures c.in_ok-make_room.ensures.marked) refl c.in_ok-make_room.ensures.sent
    c.count_up.ensures.pending c.count_up.ensures.rooms c.count_up.ensures.told c.count_up.ensures.taken c.count_up.ensures.len c.in_ok-make_room.ensures.queue

pub returns-in-Err-clause-settled : goal.returns-in-Err-clause-settled
returns-in-Err-clause-settled c =
    let t = c.make_room.new.self in
    let n = c.args.asked.number in
    let below = subst (λ m. AreBelow n m.entries) (sym c.make_room.ensures.rows) (are-below n c.args.self.now.rows.entries c.requires.above) in
    back-settled c.args.self.now t c.args.asked c.new_row-row.result c.make_room.ensures.settled c.make_room.ensures.shown below c.new_row-row.ensures.row c.new_row-row.ensures.asked
    (record t { rows = c.remove.new.self; places = c.index_both.new.places; handles = c.index_both.new.handles })
    c.insert.new.self.entries c.in_ok-insert.ensures.entries c.remove.ensures.entries c.in-Err.ensures.places_stay c.in-Err.ensures.handles_stay refl refl refl

pub returns-in-Err-clause-err : goal.returns-in-Err-clause-err
returns-in-Err-clause-err c =
    let t = c.make_room.new.self in
    let n = c.args.asked.number in
    let below = subst (λ m. AreBelow n m.entries) (sym c.make_room.ensures.rows) (are-below n c.args.self.now.rows.entries c.requires.above) in
    back-shown c.args.self.now t c.args.asked c.new_row-row.result c.make_room.ensures.settled c.make_room.ensures.shown below c.new_row-row.ensures.row c.new_row-row.ensures.asked
    (record t { rows = c.remove.new.self; places = c.index_both.new.places; handles = c.index_both.new.handles })
    c.insert.new.self.entries c.in_ok-insert.ensures.entries c.remove.ensures.entries c.in-Err.ensures.places_stay c.in-Err.ensures.handles_stay refl refl refl

pub returns-in_err-insert-clause-settled : goal.returns-in_err-insert-clause-settled
returns-in_err-insert-clause-settled c =
    let t = c.make_room.new.self in
    unput-settled t (record t { rows = c.insert.new.self }) c.make_room.ensures.settled c.in_err-insert.ensures.err refl refl refl refl refl

pub returns-in_err-insert-clause-err : goal.returns-in_err-insert-clause-err
returns-in_err-insert-clause-err c =
    let t = c.make_room.new.self in
    on-err _ _ (unput-shown c.args.self.now t (record t { rows = c.insert.new.self }) c.make_room.ensures.shown c.in_err-insert.ensures.err refl)
