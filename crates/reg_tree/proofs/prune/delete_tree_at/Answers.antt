use Rattle.std.proofs.Common.{refl, subst}
use Rattle.reg_arena.specs.Arena.{heap_of}
use Rattle.reg_tree.specs.Internal.LengthChanges.{LengthsStay}
use Rattle.reg_tree.proofs.DeleteKey.KeyAbove.{same_root}
use Rattle.reg_tree.proofs.PruneTree.PruneObligations.{bare-here, bare-lone, is_pruned, pruned_lengths}
use Rattle.reg_tree.proofs.PruneTree.TopKeys.{stands_somewhere}
use Rattle.reg_tree.proofs.prune.delete_tree_at.Goals as goal

pub delete_under-requires : goal.delete_under-requires
delete_under-requires c = (c.requires.here.0, c.requires.here.1)

pub delete_at-requires-clause-here : goal.delete_at-requires-clause-here
delete_at-requires-clause-here c =
    let t = c.requires.here.0 in
    let b = c.delete_under.ensures.bared t c.requires.here.1 in
    (bare-here _ _ t _ _ c.args.moment b, refl, bare-lone _ _ t _ _ c.args.moment b c.requires.here.2)

pub place_of-place-requires : goal.place_of-place-requires
place_of-place-requires c =
    let t = c.requires.here.0 in
    stands_somewhere _ _ (bare-here _ _ t _ _ c.args.moment (c.delete_under.ensures.bared t c.requires.here.1)) c.requires.here.2

pub returns-clause-pruned : goal.returns-clause-pruned
returns-clause-pruned c = λ t same inner.
    let b = c.delete_under.ensures.bared t same in
    is_pruned _ _ t _ _ c.args.moment b inner c.delete_at.new.arena.bytes _
    (c.delete_at.ensures.deleted (bare-here _ _ t _ _ c.args.moment b) refl (bare-lone _ _ t _ _ c.args.moment b inner))

pub returns-clause-lengths : goal.returns-clause-lengths
returns-clause-lengths c = λ t inner.
    let u = c.requires.here.0 in
    let goes = c.requires.here.2 in
    let b = c.delete_under.ensures.bared u c.requires.here.1 in
    let here = bare-here _ _ u _ _ c.args.moment b in
    let lone = bare-lone _ _ u _ _ c.args.moment b goes in
    subst (LengthsStay (heap_of c.args.arena.now) (heap_of c.delete_at.new.arena)) (same_root _ _ u t)
    (pruned_lengths _ _ u _ _ c.args.moment b goes c.delete_at.new.arena.bytes _ (c.delete_at.ensures.deleted here refl lone)
    (c.delete_under.ensures.lengths u) (c.delete_at.ensures.lengths here lone))
