use Rattle.std.proofs.Common.{refl}
use Rattle.reg_tree_image.proofs.Devices.OwnLoads.{met-of}
use Rattle.reg_tree_image.proofs.loading.load_numbered.Goals as goal

pub returns-clause-err : goal.returns-clause-err
returns-clause-err g c = met-of _ _ _ _ c.load_by.result (λ image foreign. foreign refl) c.load_by.ensures.err
