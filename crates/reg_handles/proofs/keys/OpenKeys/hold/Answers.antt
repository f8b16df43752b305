use Rattle.std.proofs.Common.{◌≡◌, Some, sym, ap, ◌∙◌}
use Rattle.reg_handles.specs.Internal.OpenKeySlab.{key_at}
use Rattle.reg_handles.proofs.KeyUsage.{held_found}
use Rattle.reg_handles.proofs.keys.OpenKeys.hold.Goals as goal

pub returns-in-Some-clause-ok : goal.returns-in-Some-clause-ok
returns-in-Some-clause-ok g c =
    let before = key_at c.args.self.now.by_path.entries in
    let here : before c.args.path.items ≡ Some c.in-Some.key = ap before (sym c.as_slice.ensures.value) ∙ sym c.in-Some.ensures in
    held_found c.args.self.now.slots c.count_up.new.self.slots before (key_at c.count_up.new.self.by_path.entries) c.args.path.items c.args.payload
    c.in-Some.key c.requires.found here c.count_up.ensures.slots
    (λ text. ap (λ es. key_at es text) c.count_up.ensures.paths)
