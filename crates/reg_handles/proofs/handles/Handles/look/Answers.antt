use Rattle.std.proofs.Common.{ap, sym, ◌∙◌}
use Rattle.reg_handles.specs.Internal.OpenKeySlab.{key_at}
use Rattle.reg_handles.specs.Internal.OrderedRows.{ordered}
use Rattle.reg_handles.specs.HandleTables.{Table, payload_on}
use Rattle.reg_handles.proofs.LookUps.{look_found, look_other, look_none}
use Rattle.reg_handles.proofs.Payloads.{payload_on-is, target_payload}
use Rattle.reg_handles.proofs.handles.Handles.look.Goals as goal
use Rattle.reg_handles.proofs.handles.Handles.look.Goals.{in_default-via-in-Some+else-row-session, in_default-via-in_default}

pub returns-in-Some-clause-handle : goal.returns-in-Some-clause-handle
returns-in-Some-clause-handle g c =
    let view = ap (λ (t : Table _). t.handles) c.self.view_is in
    rw (← view) (look_found c.self.inside.keys.slots c.args.session c.args.number
    (ordered c.self.inside.rows.by_number.entries) c.in-Some.row.now _ c.in-Some.ensures c.if-row-session.true c.target.ensures.destination)

pub returns-in_default-clause-handle : goal.returns-in_default-clause-handle
returns-in_default-clause-handle g c =
    let view = ap (λ (t : Table _). t.handles) c.self.view_is in
    let rows = ordered c.self.inside.rows.by_number.entries in
    elim c.in_default.branch [
      | in_default-via-in-Some+else-row-session w ↦ rw (← view) (look_other c.self.inside.keys.slots c.args.session c.args.number rows w.in-Some.row.now w.in-Some.ensures w.if-row-session.false)
      | in_default-via-in_default w ↦ rw (← view) (look_none c.self.inside.keys.slots c.args.session c.args.number rows w.in_default.ensures)
    ]

pub returns-in-Some-clause-payload : goal.returns-in-Some-clause-payload
returns-in-Some-clause-payload g c =
    let keys = c.self.inside.keys in
    target_payload keys.slots (key_at keys.by_path.entries) (ordered c.self.inside.rows.by_number.entries) c.self.inside.counts c.self.invariant
    c.in-Some.row.now.key c.args.self.now
    (λ text. sym (payload_on-is keys.slots keys.by_path.entries text) ∙ ap (λ (t : Table _). payload_on t text) c.self.view_is)
    c.target.result c.target.ensures.text c.target.ensures.payload
