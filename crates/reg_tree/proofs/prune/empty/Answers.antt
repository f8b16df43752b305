use Rattle.std.proofs.Common.{subst}
use Rattle.reg_arena.specs.Arena.{heap_of}
use Rattle.reg_tree.specs.Internal.LengthChanges.{LengthsStay}
use Rattle.reg_tree.proofs.DeleteKey.KeyAbove.{same_root}
use Rattle.reg_tree.proofs.PruneTree.PruneObligations.{bare-here, is_emptied, emptied_lengths}
use Rattle.reg_tree.proofs.prune.empty.Goals as goal

pub drop_values-requires : goal.drop_values-requires
drop_values-requires c =
    let t = c.requires.0 in
    bare-here _ _ t _ _ c.args.moment (c.delete_under.ensures.bared t c.requires.1)

pub returns-clause-emptied : goal.returns-clause-emptied
returns-clause-emptied c = λ t same.
    let b = c.delete_under.ensures.bared t same in
    is_emptied _ _ t _ _ c.args.moment b c.drop_values.new.arena.bytes (c.drop_values.ensures.changed (bare-here _ _ t _ _ c.args.moment b))

pub returns-clause-lengths : goal.returns-clause-lengths
returns-clause-lengths c = λ t.
    let u = c.requires.0 in
    let b = c.delete_under.ensures.bared u c.requires.1 in
    let here = bare-here _ _ u _ _ c.args.moment b in
    subst (LengthsStay (heap_of c.args.arena.now) (heap_of c.drop_values.new.arena)) (same_root _ _ u t)
    (emptied_lengths _ _ u _ _ c.args.moment b c.drop_values.new.arena.bytes (c.drop_values.ensures.changed here) (c.delete_under.ensures.lengths u)
    (c.drop_values.ensures.lengths here))
