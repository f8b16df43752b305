use Rattle.std.proofs.Common.{None, cond, sym, ap, ◌∙◌}
use Rattle.reg_names.specs.Names.{path_of}
use Rattle.reg_heap.specs.Edits.{is_under}
use Rattle.reg_handles.specs.HandleTables.{Table, payload_on}
use Rattle.reg_handles.specs.Internal.OpenKeySlab.{key_at}
use Rattle.reg_handles.specs.Internal.OrderedRows.{ordered}
use Rattle.reg_handles.proofs.Payloads.{payload_on-is}
use Rattle.reg_handles.proofs.TableWithoutTrees.{under_handles, under_table, under_payloads}
use Rattle.reg_handles.proofs.handles.Handles.mark_deleted_under.Goals as goal

pub invariant_of-self : goal.invariant_of-self
invariant_of-self g c =
    let keys = c.self.inside.keys in
    let new = c.mark_deleted_under.new.self in
    under_table keys.slots new.slots (key_at keys.by_path.entries) (key_at new.by_path.entries) c.args.path.items (ordered c.self.inside.rows.by_number.entries)
    c.self.inside.counts c.self.invariant c.mark_deleted_under.ensures.slots c.mark_deleted_under.ensures.paths

pub returns-clause-handles : goal.returns-clause-handles
returns-clause-handles g c =
    let keys = c.self.inside.keys in
    let new = c.mark_deleted_under.new.self in
    let view = ap (λ (t : Table _). t.handles) c.self.view_is in
    rw (← view)
    (under_handles keys.slots new.slots (key_at keys.by_path.entries) (key_at new.by_path.entries) c.args.path.items (ordered c.self.inside.rows.by_number.entries)
    c.self.inside.counts c.self.invariant c.mark_deleted_under.ensures.slots c.mark_deleted_under.ensures.paths)

pub returns-clause-payloads : goal.returns-clause-payloads
returns-clause-payloads g c = λ text.
    let keys = c.self.inside.keys in
    let new = c.mark_deleted_under.new.self in
    payload_on-is new.slots new.by_path.entries text ∙
    under_payloads keys.slots new.slots (key_at keys.by_path.entries) (key_at new.by_path.entries) c.args.path.items (ordered c.self.inside.rows.by_number.entries)
    c.self.inside.counts c.self.invariant c.mark_deleted_under.ensures.slots c.mark_deleted_under.ensures.paths text ∙
    ap (cond (is_under (path_of c.args.path.items) (path_of text)) None)
    (sym (payload_on-is keys.slots keys.by_path.entries text) ∙ ap (λ (t : Table _). payload_on t text) c.self.view_is)
