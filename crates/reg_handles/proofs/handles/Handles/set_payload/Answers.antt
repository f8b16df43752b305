use Rattle.std.proofs.Common.{◌≡◌, Some, cond, ap, sym, subst, refl, ◌∙◌}
use Rattle.reg_names.specs.Names.{path_of}
use Rattle.reg_model.specs.Worlds.{numbered}
use Rattle.reg_handles.specs.HandleTables.{Table, payload_on, leads_there}
use Rattle.reg_handles.specs.Internal.OpenKeySlab.{key_at, payload_at}
use Rattle.reg_handles.specs.Internal.OrderedRows.{ordered}
use Rattle.reg_handles.specs.Internal.HandleRows.{IsTable, handles_of}
use Rattle.reg_handles.proofs.Payloads.{payload_on-is, set_handles, set_table, set_payloads, no_number}
use Rattle.reg_handles.proofs.handles.Handles.set_payload.Goals as goal

pub invariant_of-self : goal.invariant_of-self
invariant_of-self g c =
    let keys = c.self.inside.keys in
    let rows = ordered c.self.inside.rows.by_number.entries in
    subst (λ es. IsTable c.set_payload.new.self.slots (key_at es) rows c.self.inside.counts) (sym c.set_payload.ensures.paths)
    (set_table keys.slots (key_at keys.by_path.entries) rows c.self.inside.counts c.self.invariant c.set_payload.new.self.slots c.in-Some.row.now.key c.args.payload c.set_payload.ensures.slots)

pub returns-in-Some-clause-handles : goal.returns-in-Some-clause-handles
returns-in-Some-clause-handles g c =
    let keys = c.self.inside.keys in
    let rows = ordered c.self.inside.rows.by_number.entries in
    set_handles keys.slots (key_at keys.by_path.entries) rows c.self.inside.counts c.self.invariant c.set_payload.new.self.slots c.in-Some.row.now.key c.args.payload c.set_payload.ensures.slots
    ∙ ap (λ (t : Table _). t.handles) c.self.view_is

pub returns-in-Some-clause-payloads : goal.returns-in-Some-clause-payloads
returns-in-Some-clause-payloads g c = λ text.
    let keys = c.self.inside.keys in
    let new = c.set_payload.new.self in
    let rows = ordered c.self.inside.rows.by_number.entries in
    payload_on-is new.slots new.by_path.entries text ∙ ap (λ es. payload_at new.slots (key_at es text)) c.set_payload.ensures.paths
    ∙ subst (λ (t : Table _). payload_at new.slots (key_at keys.by_path.entries text) ≡
    cond (leads_there (path_of text) (numbered c.args.number t.handles)) (Some c.args.payload) (payload_on t text)) c.self.view_is
    (set_payloads keys.slots (key_at keys.by_path.entries) rows c.self.inside.counts c.self.invariant new.slots c.in-Some.row.now.key c.args.payload c.set_payload.ensures.slots
    c.args.number c.in-Some.row.now c.in-Some.ensures refl text
    ∙ ap (cond (leads_there (path_of text) (numbered c.args.number (handles_of keys.slots rows))) (Some c.args.payload)) (sym (payload_on-is keys.slots keys.by_path.entries text)))

pub returns-in_default-clause-payloads : goal.returns-in_default-clause-payloads
returns-in_default-clause-payloads g c = λ text.
    let view = ap (λ (t : Table _). t.handles) c.self.view_is in
    no_number c.args.number c.self.inside.keys.slots (ordered c.self.inside.rows.by_number.entries) c.args.self.now c.in_default.ensures view text c.args.payload
