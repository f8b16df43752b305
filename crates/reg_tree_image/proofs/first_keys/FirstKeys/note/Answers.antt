use Rattle.reg_tree_image.proofs.Readers.SharedDescriptors.{noted}
use Rattle.reg_tree_image.proofs.first_keys.FirstKeys.note.Goals as goal

pub returns-in-Ok-clause-ok : goal.returns-in-Ok-clause-ok
returns-in-Ok-clause-ok c =
    noted c.args.self.now (record { nodes = c.insert.new.self }) c.args.security c.args.node c.in-Ok.ensures.updates
