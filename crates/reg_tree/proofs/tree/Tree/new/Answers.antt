use Rattle.std.proofs.Common.{refl, [], arith}
use Rattle.reg_tree.proofs.Invariant.FirstSecurity.{no-ring}
use Rattle.reg_tree.proofs.Invariant.FreshInvariant.{fresh_holds, fresh_tree}
use Rattle.reg_tree.proofs.Invariant.FreshShape.{made, root_room}
use Rattle.reg_tree.proofs.Invariant.FreshBin.{fresh_bin}
use Rattle.reg_tree.proofs.ValueChange.NotedNames.{none_noted}
use Rattle.reg_tree.proofs.tree.Tree.new.Goals as goal

pub add-requires-clause-ring : goal.add-requires-clause-ring
add-requires-clause-ring c = ([], no-ring _, refl, refl, c.in-Ok-true.ensures.expects c.in-Ok-true.field-0-test _ [] (c.new-securities.ensures.finds _))

pub put_nk-requires-clause-room : goal.put_nk-requires-clause-room
put_nk-requires-clause-room c =
    root_room _ _ _ _ _ _ _ _ _ c.in-Ok.ensures.ok (c.add.ensures.first refl) (let holds = c.cell_size-node_size.ensures.holds in omega (arith, holds))

pub invariant_of-result : goal.invariant_of-result
invariant_of-result c = (
  fresh_holds _ _ _ _ _ (made _ _ _ _ c.in-Ok.cells.0 c.in-Ok.cells.1 _ _ _ _ _ _ c.args.root_name.now c.args.descriptor.now c.args.moment
      c.new_root.ensures c.requires.name c.new-arena.ensures.bytes c.in-Ok.ensures.ok (c.add.ensures.first refl)
      (c.add.ensures.added [] (no-ring _) refl refl (c.in-Ok-true.ensures.expects c.in-Ok-true.field-0-test _ [] (c.new-securities.ensures.finds _)))
      c.put_nk.ensures.written c.put_nk.ensures.plain c.put_nk.ensures.reads),
  none_noted _ _ _ c.new.ensures,
)

pub returns-clause-ok : goal.returns-clause-ok
returns-clause-ok c =
    fresh_tree _ _ _ _ _ (made _ _ _ _ c.in-Ok.cells.0 c.in-Ok.cells.1 _ _ _ _ _ _ c.args.root_name.now c.args.descriptor.now c.args.moment
    c.new_root.ensures c.requires.name c.new-arena.ensures.bytes c.in-Ok.ensures.ok (c.add.ensures.first refl)
    (c.add.ensures.added [] (no-ring _) refl refl (c.in-Ok-true.ensures.expects c.in-Ok-true.field-0-test _ [] (c.new-securities.ensures.finds _)))
    c.put_nk.ensures.written c.put_nk.ensures.plain c.put_nk.ensures.reads)

pub returns-clause-cells : goal.returns-clause-cells
returns-clause-cells c =
    fresh_bin _ _ _ _ c.in-Ok.cells.0 c.in-Ok.cells.1 _ _ _ _ c.args.root_name.now c.args.descriptor.now c.args.moment c.new-arena.ensures.bytes
    c.new_root.ensures refl c.cell_size-node_size.ensures.size c.cell_size-ring_size.ensures.size c.in-Ok.ensures.ok
    c.in-Ok.ensures.exact (c.add.ensures.first refl) c.put_nk.ensures.written
