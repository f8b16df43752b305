use Rattle.std.proofs.Common.{subst, arith, ◌∙◌}
use Rattle.reg_arena.specs.Arena.{heap_of}
use Rattle.reg_index.specs.Internal.IndexLists.{IsRoot}
use Rattle.reg_index.proofs.RootGaps.{length-set, second-in, set_offset}
use Rattle.reg_index.proofs.root.put_halves.Goals as goal

pub returns-clause-root : goal.returns-clause-root
returns-clause-root c = λ offsets is number.
    let moved = c.move_to-root.ensures.root offsets is in
    let over = c.put_over.ensures.root offsets moved (omega (arith, number, c.requires.number)) in
    subst (IsRoot (heap_of c.put_in.new.arena) c.move_to-root.result) (second-in c.args.number c.args.first c.args.second offsets (omega (arith, number, c.requires.number)))
    (c.put_in.ensures.root (set_offset c.args.number c.args.first offsets) over (length-set c.args.number c.args.first offsets (omega (arith, number, c.requires.number)) ∙ number))
