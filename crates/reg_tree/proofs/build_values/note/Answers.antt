use Rattle.std.proofs.Common.{length, subst}
use Rattle.reg_heap.specs.Paths.{Member}
use Rattle.reg_arena.specs.Arena.{heap_of}
use Rattle.reg_values.specs.NewValues.{all_told}
use Rattle.reg_tree.specs.KeyLengths.{largest}
use Rattle.reg_tree.specs.Internal.KeyNodeChanges.{Notes, noted}
use Rattle.reg_tree.proofs.build_values.note.Goals as goal

pub returns-clause-notes : goal.returns-clause-notes
returns-clause-notes c =
    let h = heap_of c.args.arena.now in
    let k = heap_of c.note_values.new.arena in
    let list = c.args.list in
    subst (λ n. Notes h k c.args.key (noted list.count list.offset n (largest (λ (m : Member). length m.bytes) (all_told c.args.values.now)) c.args.moment))
    c.longest_name.ensures.is
    (subst (λ s. Notes h k c.args.key (noted list.count list.offset c.longest_name.result s c.args.moment)) c.largest_data.ensures c.note_values.ensures.notes)
