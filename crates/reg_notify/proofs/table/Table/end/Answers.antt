use Rattle.std.proofs.Common.{None, ◌∙◌, sym, subst, arith}
use Rattle.reg_notify.specs.Internal.Indexes.{UpdatesText}
use Rattle.reg_model.specs.Internal.TextNumbers.{number_at}
use Rattle.reg_notify.specs.Internal.Marks.{AreMarked}
use Rattle.reg_notify.specs.Internal.Keys.{class_of}
use Rattle.reg_notify.proofs.PlaceTexts.{key-appended}
use Rattle.reg_notify.proofs.MarkedRows.{marks-less}
use Rattle.reg_notify.proofs.RowSteps.{table-less}
use Rattle.reg_notify.proofs.TableSteps.{room-less}
use Rattle.reg_notify.proofs.table.Table.end.Goals as goal

pub returns-in-Ok-clause-ready : goal.returns-in-Ok-clause-ready
returns-in-Ok-clause-ready c =
    let was = c.args.self.now in
    let places = number_at was.places.by_text.entries in
    let handles = number_at was.handles.by_text.entries in
    let row = c.in-Some.row in
    let found = sym c.in-Some.ensures.value in
    let up = subst (λ t. UpdatesText places t None (number_at c.remove-in-Some.new.self.by_text.entries))
    (c.as_slice.ensures.value ∙ c.append_key.ensures ∙ key-appended _ row.place c.class_of-class.result (class_of row.filter row.subtree) c.args.number c.into_text-key.ensures.text c.class_of-class.ensures)
    c.remove-in-Some.ensures in
    let uh = subst (λ t. UpdatesText handles t None (number_at c.remove-in-Some-2.new.self.by_text.entries)) c.handle_text.ensures c.remove-in-Some-2.ensures in
    let ready = c.requires.ready in
    let room = ready.room in
    let fewer = room-less c.args.number row was.rows.entries c.remove.new.self.entries found c.remove.ensures.entries in
    let long = c.in-Ok.ensures.len in
    let capacity = c.in-Ok.ensures.capacity in
    record {
      table = table-less was.rows.entries c.remove.new.self.entries places handles (number_at c.remove-in-Some.new.self.by_text.entries)
          (number_at c.remove-in-Some-2.new.self.by_text.entries)
          c.args.number row ready.table found c.remove.ensures.entries up uh;
      marks = subst (AreMarked was.marks.slots.items) (sym c.remove.ensures.entries) (marks-less was.marks.slots.items _ was.rows.entries ready.marks);
      room = omega (arith, room, fewer, long, capacity);
    }
