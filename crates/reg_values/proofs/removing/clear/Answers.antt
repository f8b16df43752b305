use Rattle.reg_arena.specs.Arena.{heap_of}
use Rattle.std.proofs.Common.{arith, refl, ◌∙◌}
use Rattle.reg_values.proofs.ValueFreeing.ClearedLists.{none-freed, list-long, next-owns, one-freed, list-freed}
use Rattle.reg_values.proofs.removing.clear.Goals as goal

pub loop-index-init : goal.loop-index-init
loop-index-init c = record {
  freed = none-freed (heap_of c.args.arena.now) c.args.list.count c.args.list.offset c.requires;
  long = refl;
}

pub cell_of-cell-requires-clause-index : goal.cell_of-cell-requires-clause-index
cell_of-cell-requires-clause-index c =
    list-long (heap_of c.args.arena.now) (heap_of c.loop-index.arena) c.args.list.count c.args.list.offset c.loop-index.index c.loop-index.invariant.freed c.loop-index-test.true

pub free_value-requires : goal.free_value-requires
free_value-requires c =
    next-owns (heap_of c.args.arena.now) (heap_of c.loop-index.arena) c.args.list.count c.args.list.offset c.loop-index.index
    c.loop-index.invariant.freed c.loop-index-test.true c.cell_of-cell.result c.cell_of-cell.ensures

pub loop-index-preserved : goal.loop-index-preserved
loop-index-preserved c = record {
  freed = one-freed (heap_of c.args.arena.now) (heap_of c.loop-index.arena) c.args.list.count c.args.list.offset c.loop-index.index
      c.loop-index.invariant.freed c.loop-index-test.true c.cell_of-cell.result c.cell_of-cell.ensures
      (heap_of c.free_value.new.arena) c.free_value.ensures.gone;
  long = c.free_value.ensures.long ∙ c.loop-index.invariant.long;
}

pub returns-clause-gone : goal.returns-clause-gone
returns-clause-gone c =
    let p = c.if-list-eq0.false in
    let l = c.loop-index-test.false in
    list-freed (heap_of c.args.arena.now) (heap_of c.loop-index.arena) c.args.list.count c.args.list.offset c.loop-index.index
    c.loop-index.invariant.freed (omega (arith, l)) (omega (arith, p)) (heap_of c.free.new.self) c.free.ensures.gone
