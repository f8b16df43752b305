use Rattle.std.proofs.Common.{None, subst, ◌∙◌, ap}
use Rattle.slab.specs.Slab.{get}
use Rattle.reg_handles.specs.Internal.OpenKeySlab.{key_at, UpdatesPath}
use Rattle.reg_handles.proofs.PathTextKeys.{updated}
use Rattle.reg_handles.proofs.KeysMarkedBelow.{text-of, fewer}
use Rattle.reg_handles.proofs.keys.OpenKeys.delete.Goals as goal

pub returns-in-Some-clause-paths : goal.returns-in-Some-clause-paths
returns-in-Some-clause-paths g c = λ text stands.
    let same = c.as_slice.ensures.value ∙ text-of (get c.args.self.now.slots c.args.key) c.in-Some.held.now c.in-Some.ensures.value text stands in
    subst (λ t. UpdatesPath (key_at c.args.self.now.by_path.entries) t None (key_at c.remove.new.self.entries)) same
    (updated c.as_slice.result.now c.args.self.now.by_path c.remove.new.self None c.remove.ensures.updates)

pub returns-in-Some-clause-fewer : goal.returns-in-Some-clause-fewer
returns-in-Some-clause-fewer g c =
    let text = c.requires.0 in
    let same = c.as_slice.ensures.value ∙ text-of (get c.args.self.now.slots c.args.key) c.in-Some.held.now c.in-Some.ensures.value text c.requires.1 in
    fewer c.remove.result c.args.key _ _ (c.remove.ensures.value ∙ ap (key_at c.args.self.now.by_path.entries) same ∙ c.requires.2) c.remove.ensures.len
