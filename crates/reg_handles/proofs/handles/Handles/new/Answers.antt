use Rattle.reg_handles.specs.Internal.OpenKeySlab.{key_at}
use Rattle.reg_handles.proofs.TableEntries.{none_table}
use Rattle.std.proofs.Common.{ap, ◌∙◌}
use Rattle.reg_handles.specs.Internal.OpenKeySlab.{payload_at}
use Rattle.reg_handles.proofs.Payloads.{payload_on-is}
use Rattle.reg_handles.proofs.handles.Handles.new.Goals as goal

pub invariant_of-result : goal.invariant_of-result
invariant_of-result g c = rw c.new.ensures (none_table c.new-2.result.slots (key_at c.new-2.result.by_path.entries) c.new-2.ensures.slots c.new-2.ensures.paths)

pub returns-clause-payloads : goal.returns-clause-payloads
returns-clause-payloads g c = λ text.
    let keys = c.new-2.result in
    payload_on-is keys.slots keys.by_path.entries text ∙ ap (payload_at keys.slots) (c.new-2.ensures.paths text)
