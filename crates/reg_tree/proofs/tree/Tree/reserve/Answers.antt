use Rattle.reg_tree.proofs.Invariant.RoomMade.{holds-still, makes-room}
use Rattle.reg_tree.proofs.ValueChange.NotedNames.{none_noted}
use Rattle.reg_tree.proofs.tree.Tree.reserve.Goals as goal

pub invariant_of-self : goal.invariant_of-self
invariant_of-self c = (holds-still c.self.inside.arena c.reserve.new.arena _ c.self.invariant.0 c.reserve.ensures.cells, none_noted _ _ _ c.forget.ensures)

pub returns-clause-room : goal.returns-clause-room
returns-clause-room c =
    makes-room _ _ _ c.self.invariant.0 c.reserve.ensures.cells _ c.self.view_is c.reserve.result c.args.size
    c.reserve.ensures.fits c.reserve.ensures.growth c.reserve.ensures.kept
