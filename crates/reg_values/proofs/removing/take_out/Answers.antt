use Rattle.std.proofs.Common.{arith, sym, ap, ◌∙◌}
use Rattle.reg_arena.specs.Arena.{heap_of}
use Rattle.reg_values.specs.Internal.ValueListParts.{list_at}
use Rattle.reg_values.proofs.ValueListing.ValueListFrame.{list-open}
use Rattle.reg_values.proofs.ValueChanges.OffsetRemoved.{emptied, closed-up, written-here}
use Rattle.reg_values.proofs.removing.take_out.Goals as goal

pub free-requires : goal.free-requires
free-requires c =
    let r = c.requires.list in
    let i = c.requires.index in
    (list-open (heap_of c.args.arena.now) c.args.list.count c.args.list.offset r.result r.met r.reads (omega (arith, i))).here

pub returns-then-list-eq1-clause-list : goal.returns-then-list-eq1-clause-list
returns-then-list-eq1-clause-list c = λ row met e.
    let i = c.requires.index in
    let one = c.if-list-eq1.true in
    let h = heap_of c.args.arena.now in
    emptied h (heap_of c.free.new.self) c.args.list.offset c.args.index row met (omega (arith, i, one)) (ap (λ n. list_at n c.args.list.offset h) (sym one) ∙ e) c.free.ensures.gone

pub shift-requires-clause-exists : goal.shift-requires-clause-exists
shift-requires-clause-exists c =
    let r = c.requires.list in
    let i = c.requires.index in
    (list-open (heap_of c.args.arena.now) c.args.list.count c.args.list.offset r.result r.met r.reads (omega (arith, i))).here

pub shift-requires-clause-source : goal.shift-requires-clause-source
shift-requires-clause-source c =
    let r = c.requires.list in
    let i = c.requires.index in
    let l = (list-open (heap_of c.args.arena.now) c.args.list.count c.args.list.offset r.result r.met r.reads (omega (arith, i))).long in
    omega (arith, l, i)

pub shift-requires-clause-fits : goal.shift-requires-clause-fits
shift-requires-clause-fits c =
    let r = c.requires.list in
    let i = c.requires.index in
    let l = (list-open (heap_of c.args.arena.now) c.args.list.count c.args.list.offset r.result r.met r.reads (omega (arith, i))).long in
    omega (arith, l, i)

pub returns-clause-list : goal.returns-clause-list
returns-clause-list c = λ row met e.
    let i = c.requires.index in
    let n = c.if-list-eq1.false in
    let h = heap_of c.args.arena.now in
    let k = heap_of c.shift.new.self in
    closed-up h k c.args.list.count c.args.list.offset c.args.index row met e i (omega (arith, i, n)) (written-here h k c.args.list.offset _ c.shift.ensures.written) c.shift.ensures.writes
