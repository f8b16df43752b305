use Rattle.std.proofs.Common.{sym}
use Rattle.std.specs.Cow.{cow_slice_items}
use Rattle.reg_arena.specs.Cells.{cell_at}
use Rattle.reg_tree_image.specs.Internal.NamedRecords.{members_in, member_in, value_of}
use Rattle.reg_tree_image.proofs.Readers.ValueReadings.{name-exit, data-exit, value-done}
use Rattle.reg_tree_image.proofs.Readers.NewValues.{name-other}
use Rattle.reg_tree_image.proofs.Readers.FaultSpots.{met-exit, value-unread, name-met, data-unread}
use Rattle.reg_tree_image.proofs.values.value_from.Goals as goal

pub returns-in_err-meet-clause-follows : goal.returns-in_err-meet-clause-follows
returns-in_err-meet-clause-follows c path =
    name-exit _ c.args.minor path c.args.offset (members_in c.args.before.now) _ _ c.in_ok-value.field-0 (c.in_ok-value.ensures.follows path) _
    c.as_slice.ensures.value _ _
    c.from_residual-in_err-meet.ensures.1 c.in_err-meet.ensures.new

pub returns-in_err-bytes-clause-follows : goal.returns-in_err-bytes-clause-follows
returns-in_err-bytes-clause-follows c path =
    data-exit _ c.args.minor path c.args.offset (members_in c.args.before.now) _ _ c.in_ok-value.field-0 (c.in_ok-value.ensures.follows path) _
    c.as_slice.ensures.value c.in_ok-meet.ensures.new _ _ _ c.from_residual-in_err-bytes.ensures.1 (c.in_err-bytes.ensures.follows path)

pub returns-clause-follows : goal.returns-clause-follows
returns-clause-follows c path =
    value-done _ c.args.minor path c.args.offset (members_in c.args.before.now) _ _ c.in_ok-value.field-0 (c.in_ok-value.ensures.follows path) _
    c.as_slice.ensures.value c.in_ok-meet.ensures.new _ c.in_ok-bytes.bytes (c.in_ok-bytes.ensures.follows path)

-- ---- where a fault is met

pub returns-in_err-value-clause-spots : goal.returns-in_err-value-clause-spots
returns-in_err-value-clause-spots c path seen t =
    met-exit _ (record { offset = c.args.offset; path = path }) _ _ c.from_residual.ensures.1
    (value-unread (cell_at c.args.bins.now) c.args.minor path c.args.offset (members_in c.args.before.now) seen _ (c.in_err-value.ensures.follows path seen t))

pub returns-in_err-meet-clause-spots : goal.returns-in_err-meet-clause-spots
returns-in_err-meet-clause-spots c path seen t =
    let d = c.in_ok-value.ensures.follows path seen t in
    met-exit _ (record { offset = c.args.offset; path = path }) _ _ c.from_residual-in_err-meet.ensures.1
    (name-met (cell_at c.args.bins.now) c.args.minor path c.args.offset (members_in c.args.before.now) seen (value_of c.in_ok-value.field-0) d.after d.gives c.as_slice.result.now c.as_slice.ensures.value _ c.in_err-meet.ensures.new)

pub returns-in_err-bytes-clause-spots : goal.returns-in_err-bytes-clause-spots
returns-in_err-bytes-clause-spots c path seen t =
    let d = c.in_ok-value.ensures.follows path seen t in
    met-exit _ (record { offset = c.offset_of_data.result; path = path }) _ _ c.from_residual-in_err-bytes.ensures.1
    (data-unread (cell_at c.args.bins.now) c.args.minor path c.args.offset (members_in c.args.before.now) seen (value_of c.in_ok-value.field-0) d.after d.gives c.as_slice.result.now c.as_slice.ensures.value c.in_ok-meet.ensures.new
    c.offset_of_data.result c.offset_of_data.ensures _ (c.in_err-bytes.ensures.follows path d.after d.table))

pub returns-clause-other : goal.returns-clause-other
returns-clause-other c =
    name-other (members_in c.args.before.now) _ (cow_slice_items c.in_ok-value.field-0.name) c.as_slice.ensures.value
    c.in_ok-meet.ensures.new

pub returns-clause-met : goal.returns-clause-met
returns-clause-met c =
    c.in_ok-meet.ensures.met
    (member_in (record { name = c.in_ok-value.field-0.name; kind = c.in_ok-value.field-0.value.fields.kind; bytes = c.in_ok-bytes.bytes }))
    (sym c.as_slice.ensures.value)
