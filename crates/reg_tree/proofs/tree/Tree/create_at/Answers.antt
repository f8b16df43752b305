use Rattle.std.proofs.Common.{refl}
use Rattle.reg_arena.specs.declared.ArenaFault.TheVariants.{Full}
use Rattle.reg_tree.proofs.InsertKey.CreateReached.{leads_at, place_at, cells_reached, room_reached, leads_there, holds_made, keys_seen, lengths_seen, noted_seen}
use Rattle.reg_tree.proofs.ValueChange.NotedNames.{none_noted}
use Rattle.reg_tree.proofs.tree.Tree.create_at.Goals as goal

pub create_at-requires-clause-reached : goal.create_at-requires-clause-reached
create_at-requires-clause-reached c = leads_there _ _ c.self.invariant.0 _ c.self.view_is c.args.reached c.requires.reached c.requires.few

pub create_at-requires-clause-place : goal.create_at-requires-clause-place
create_at-requires-clause-place c = place_at _ _ c.self.invariant.0 _ c.self.view_is c.args.reached _ _ c.requires.reached.2

pub invariant_of-self : goal.invariant_of-self
invariant_of-self c = (
  holds_made _ _ c.self.invariant.0 _ c.self.view_is c.args.reached c.requires.reached c.requires.few c.create_at.new.arena _ c.create_at.result _ c.args.moment
      c.create_at.ensures.ok c.create_at.ensures.err c.create_at.ensures.table,
  none_noted _ _ _ c.forget.ensures,
)

pub returns-clause-ok : goal.returns-clause-ok
returns-clause-ok c = λ from path r p at.
    keys_seen _ _ c.self.invariant.0 _ c.self.view_is c.args.reached c.requires.reached c.requires.few c.create_at.new.arena _ c.create_at.result _ c.args.moment
    c.create_at.ensures.ok from path r p at c.requires.missing

pub returns-clause-cells : goal.returns-clause-cells
returns-clause-cells c = λ from path r p at.
    cells_reached _ _ c.self.invariant.0 _ c.self.view_is c.args.reached c.create_at.new.arena c.create_at.result _ from path r p at
    (c.create_at.ensures.cells from path (leads_at _ _ c.self.invariant.0 _ c.self.view_is c.args.reached from path r p at) refl)
    (c.create_at.ensures.growth from path (leads_at _ _ c.self.invariant.0 _ c.self.view_is c.args.reached from path r p at) refl)

pub returns-clause-lengths : goal.returns-clause-lengths
returns-clause-lengths c =
    lengths_seen _ _ c.self.invariant.0 _ c.self.view_is c.args.reached c.requires.reached c.requires.few c.create_at.new.arena _ c.create_at.result _ c.args.moment
    c.create_at.ensures.ok

pub returns-clause-made : goal.returns-clause-made
returns-clause-made c =
    noted_seen _ _ c.self.invariant.0 _ c.self.view_is c.args.reached c.requires.reached c.requires.few c.create_at.new.arena _ c.create_at.result _ c.args.moment
    c.create_at.ensures.ok

pub returns-clause-space : goal.returns-clause-space
returns-clause-space c = λ from path r p at.
    room_reached _ _ c.self.invariant.0 _ c.self.view_is c.args.reached Full c.create_at.result _ from path r p at
    (c.create_at.ensures.space from path (leads_at _ _ c.self.invariant.0 _ c.self.view_is c.args.reached from path r p at) refl)
