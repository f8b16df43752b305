use Rattle.reg_arena.specs.Arena.{heap_of}
use Rattle.reg_index.proofs.LeafGaps.{filled}
use Rattle.reg_index.proofs.KeptCells.{kept-then, kept-written, here-there}
use Rattle.reg_index.proofs.leaf.fill.Goals as goal

pub returns-clause-leaf : goal.returns-clause-leaf
returns-clause-leaf c =
    filled (heap_of c.args.arena.now) (heap_of c.put_entry.new.arena) (heap_of c.put_leaf_head.new.arena) c.args.cell c.args.index c.args.count c.args.entry c.requires.few
    c.put_entry.ensures.offset c.put_entry.ensures.hint c.put_entry.ensures.written.here c.put_leaf_head.ensures.here

pub returns-clause-keeps : goal.returns-clause-keeps
returns-clause-keeps c =
    let w = c.put_entry.ensures.written in
    kept-then (heap_of c.args.arena.now) (heap_of c.put_entry.new.arena) (heap_of c.put_leaf_head.new.arena)
    (kept-written _ _ c.args.cell _ c.requires.gap.1.exists w)
    (kept-written _ _ c.args.cell _ (here-there (heap_of c.put_entry.new.arena) c.args.cell _ w.here) c.put_leaf_head.ensures)
