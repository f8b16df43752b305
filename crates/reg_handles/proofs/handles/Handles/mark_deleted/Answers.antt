use Rattle.std.proofs.Common.{ap}
use Rattle.reg_handles.specs.Internal.OpenKeySlab.{key_at}
use Rattle.reg_handles.specs.Internal.OrderedRows.{ordered}
use Rattle.reg_handles.specs.HandleTables.{Table}
use Rattle.reg_handles.proofs.KeyMarkedDeleted.{marked_handles, marked_table}
use Rattle.std.proofs.Common.{None, cond, sym, ◌∙◌}
use Rattle.std.specs.Prelude.{bytes_eq}
use Rattle.reg_handles.specs.HandleTables.{payload_on}
use Rattle.reg_handles.proofs.Payloads.{payload_on-is, marked_payloads}
use Rattle.reg_handles.proofs.handles.Handles.mark_deleted.Goals as goal

pub invariant_of-self : goal.invariant_of-self
invariant_of-self g c =
    marked_table c.self.inside.keys.slots c.mark_deleted.new.self.slots (key_at c.self.inside.keys.by_path.entries) (key_at c.mark_deleted.new.self.by_path.entries) c.args.path.now
    (ordered c.self.inside.rows.by_number.entries) c.self.inside.counts c.self.invariant c.mark_deleted.ensures.slots c.mark_deleted.ensures.paths

pub returns-clause-handles : goal.returns-clause-handles
returns-clause-handles g c =
    let view = ap (λ (t : Table _). t.handles) c.self.view_is in
    rw (← view)
    (marked_handles c.self.inside.keys.slots c.mark_deleted.new.self.slots (key_at c.self.inside.keys.by_path.entries) (key_at c.mark_deleted.new.self.by_path.entries) c.args.path.now
    (ordered c.self.inside.rows.by_number.entries) c.self.inside.counts c.self.invariant c.mark_deleted.ensures.slots c.mark_deleted.ensures.paths)

pub returns-clause-payloads : goal.returns-clause-payloads
returns-clause-payloads g c = λ text.
    let keys = c.self.inside.keys in
    let new = c.mark_deleted.new.self in
    payload_on-is new.slots new.by_path.entries text
    ∙ marked_payloads keys.slots (key_at keys.by_path.entries) (ordered c.self.inside.rows.by_number.entries) c.self.inside.counts c.self.invariant
    new.slots (key_at new.by_path.entries) c.args.path.now c.mark_deleted.ensures.slots c.mark_deleted.ensures.paths text
    ∙ ap (cond (bytes_eq c.args.path.now text) None) (sym (payload_on-is keys.slots keys.by_path.entries text) ∙ ap (λ (t : Table _). payload_on t text) c.self.view_is)
