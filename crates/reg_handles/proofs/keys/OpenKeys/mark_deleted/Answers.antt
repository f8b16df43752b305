use Rattle.std.proofs.Common.{None}
use Rattle.reg_handles.proofs.PathTextKeys.{updated}
use Rattle.reg_handles.proofs.keys.OpenKeys.mark_deleted.Goals as goal

pub returns-in-Some-get_mut-clause-paths : goal.returns-in-Some-get_mut-clause-paths
returns-in-Some-get_mut-clause-paths g c = updated c.args.path.now c.args.self.now.by_path c.remove.new.self None c.remove.ensures.updates

pub returns-in_default-get_mut-clause-paths : goal.returns-in_default-get_mut-clause-paths
returns-in_default-get_mut-clause-paths g c = updated c.args.path.now c.args.self.now.by_path c.remove.new.self None c.remove.ensures.updates
