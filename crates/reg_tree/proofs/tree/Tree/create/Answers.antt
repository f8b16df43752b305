use Rattle.std.proofs.Common.{◌≡◌, ◌↔◌, true, Err, refl}
use Rattle.reg_names.specs.Names.{path_of}
use Rattle.reg_heap.specs.Paths.{Tree}
use Rattle.reg_heap.specs.Edits.{are_too_many}
use Rattle.reg_tree.specs.declared.fault.TreeFault.TheVariants.{Limit, Full}
use Rattle.reg_tree.proofs.Invariant.NodeLemmas.{here_at, of_tree}
use Rattle.reg_tree.proofs.InsertKey.CreateKeepsNodes.{from_at, holds_created, keys_created, cells_created, room_created, same_created, lengths_created, noted_created}
use Rattle.reg_tree.proofs.InsertKey.KeyLimits.{by_test}
use Rattle.reg_tree.proofs.ValueChange.NotedNames.{none_noted}
use Rattle.reg_tree.proofs.tree.Tree.create.Goals as goal

pub create-requires-clause-here : goal.create-requires-clause-here
create-requires-clause-here c = from_at _ _ c.self.invariant.0 _ c.self.view_is c.args.from c.requires.from

pub invariant_of-self : goal.invariant_of-self
invariant_of-self c = (
  holds_created _ _ c.self.invariant.0 _ c.self.view_is _ _ c.create.result c.args.from c.requires.from (path_of c.args.path.now) _
      c.args.moment c.create.ensures.ok c.create.ensures.err c.create.ensures.table,
  none_noted _ _ _ c.forget.ensures,
)

pub returns-clause-ok : goal.returns-clause-ok
returns-clause-ok c = keys_created _ _ c.self.invariant.0 _ c.self.view_is _ _ c.create.result c.args.from c.requires.from (path_of c.args.path.now) _
    c.args.moment c.create.ensures.ok c.create.ensures.new

pub returns-clause-limit : goal.returns-clause-limit
returns-clause-limit c = λ p at.
    of_tree _ _ c.self.invariant.0 _ c.self.view_is (λ (t : Tree). (c.create.result ≡ Err Limit) ↔ (are_too_many t p (path_of c.args.path.now) ≡ true))
    (by_test _ _ _ (c.create.ensures.limit (here_at _ _ c.self.invariant.0 _ c.self.view_is c.args.from p at) at.depth))

pub returns-clause-cells : goal.returns-clause-cells
returns-clause-cells c = λ p at.
    cells_created _ _ c.self.invariant.0 _ c.self.view_is c.create.new.arena c.create.result p (path_of c.args.path.now) _
    (c.create.ensures.cells (here_at _ _ c.self.invariant.0 _ c.self.view_is c.args.from p at) refl at.depth)

pub returns-clause-same : goal.returns-clause-same
returns-clause-same c = same_created _ _ c.self.invariant.0 _ c.self.view_is c.create.new.arena c.create.result c.create.ensures.same

pub returns-clause-lengths : goal.returns-clause-lengths
returns-clause-lengths c = lengths_created _ _ c.self.invariant.0 _ c.self.view_is _ _ c.create.result c.args.from c.requires.from (path_of c.args.path.now) _
    c.args.moment c.create.ensures.ok

pub returns-clause-made : goal.returns-clause-made
returns-clause-made c = noted_created _ _ c.self.invariant.0 _ c.self.view_is _ _ c.create.result c.args.from c.requires.from (path_of c.args.path.now) _
    c.args.moment c.create.ensures.ok

pub returns-clause-space : goal.returns-clause-space
returns-clause-space c = λ p at.
    room_created _ _ c.self.invariant.0 _ c.self.view_is Full c.create.result p (path_of c.args.path.now) _
    (c.create.ensures.space (here_at _ _ c.self.invariant.0 _ c.self.view_is c.args.from p at) refl at.depth)
