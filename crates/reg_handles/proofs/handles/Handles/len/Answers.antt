use Rattle.std.proofs.Common.{◌≡◌, is_some, ap, subst, ◌∙◌}
use Rattle.reg_names.specs.Names.{path_of}
use Rattle.reg_handles.specs.HandleTables.{Table, payload_on, is_open}
use Rattle.reg_handles.specs.Internal.OpenKeySlab.{key_at}
use Rattle.reg_handles.specs.Internal.OrderedRows.{ordered}
use Rattle.reg_handles.proofs.Payloads.{payload_on-is, open_paths}
use Rattle.reg_handles.proofs.handles.Handles.len.Goals as goal

pub returns-clause-payloads : goal.returns-clause-payloads
returns-clause-payloads g c = λ text.
    let keys = c.self.inside.keys in
    subst (λ (t : Table _). is_some (payload_on t text) ≡ is_open (path_of text) t.handles) c.self.view_is
    (ap is_some (payload_on-is keys.slots keys.by_path.entries text) ∙
    open_paths keys.slots (key_at keys.by_path.entries) (ordered c.self.inside.rows.by_number.entries) c.self.inside.counts c.self.invariant text)
