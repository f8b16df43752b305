use Rattle.reg_tree_image.proofs.Readers.SpotSteps.{trail-popped}
use Rattle.reg_tree_image.proofs.spots.leave_spot.Goals as goal

pub returns : goal.returns
returns c =
    trail-popped c.args.spot.now.path.items c.pop.new.self.items c.args.spot.now.path.len c.pop.new.self.len c.pop.result c.args.spot.now.path.ok.0
    c.pop.ensures.items c.pop.ensures.cases
