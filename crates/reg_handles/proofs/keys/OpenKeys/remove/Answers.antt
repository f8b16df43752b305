use Rattle.std.proofs.Common.{None, subst}
use Rattle.slab.specs.Slab.{get}
use Rattle.reg_handles.specs.Internal.OpenKeySlab.{key_at, UpdatesPath}
use Rattle.reg_handles.proofs.PathTextKeys.{updated}
use Rattle.reg_handles.proofs.KeyUsage.{freed}
use Rattle.reg_handles.proofs.keys.OpenKeys.remove.Goals as goal

pub returns-then-not-held-clause-paths : goal.returns-then-not-held-clause-paths
returns-then-not-held-clause-paths g c =
    let before = key_at c.args.self.now.by_path.entries in
    let after = key_at c.remove.new.self.entries in
    let paths = updated c.as_slice.result.now c.args.self.now.by_path c.remove.new.self None c.remove.ensures.updates in
    freed (get c.args.self.now.slots c.args.key) c.in-Some.held c.in-Some.ensures.value c.requires c.if-not-held.true before after
    (subst (λ text. UpdatesPath before text None after) c.as_slice.ensures.value paths)
