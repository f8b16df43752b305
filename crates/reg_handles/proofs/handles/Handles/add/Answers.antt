use Rattle.std.proofs.Common.{◌<◌, ◌++◌, ◌∷◌, [], ap, sym, subst, ◌∙◌}
use Rattle.std.specs.List.{All}
use Rattle.reg_model.specs.Worlds.{Handle}
use Rattle.reg_handles.specs.Internal.OpenKeySlab.{key_at}
use Rattle.reg_handles.specs.Internal.OrderedRows.{ordered}
use Rattle.reg_handles.specs.HandleTables.{Table}
use Rattle.reg_handles.specs.declared.rows.Row.{Row}
use Rattle.reg_handles.proofs.HandleList.{rows_below}
use Rattle.reg_handles.proofs.RowAdded.{added_handles, added_table}
use Rattle.std.proofs.Common.{◌≡◌, Some, cond, ℕ, List}
use Rattle.std.specs.Prelude.{bytes_eq, unwrap_or}
use Rattle.reg_handles.specs.HandleTables.{payload_on}
use Rattle.reg_handles.specs.Internal.OpenKeySlab.{payload_at}
use Rattle.reg_handles.proofs.Payloads.{payload_on-is, added_payloads}
use Rattle.reg_handles.proofs.handles.Handles.add.Goals as goal

pub push-requires-clause-above : goal.push-requires-clause-above
push-requires-clause-above g c =
    let above = subst (λ (t : Table _). All (λ (h : Handle). h.number < c.args.number) t.handles) (sym c.self.view_is) c.requires.above in
    rw c.reserve.ensures.rows (rows_below c.self.inside.keys.slots (ordered c.self.inside.rows.by_number.entries) c.args.number above)

pub invariant_of-self-2 : goal.invariant_of-self-2
invariant_of-self-2 g c =
    let before = ordered c.self.inside.rows.by_number.entries in
    let row : Row = record { session = c.args.session; mask = c.args.mask; key = c.in_ok-key.key } in
    let pushed = c.push.ensures ∙ ap (λ es. es ++ (c.args.number, row) ∷ []) c.reserve.ensures.rows in
    added_table c.self.inside.keys.slots c.hold.new.self.slots (key_at c.self.inside.keys.by_path.entries)
    (key_at c.hold.new.self.by_path.entries) before c.self.inside.counts c.args.number row c.args.path.items c.args.payload c.self.invariant c.in_ok-key.ensures.ok
    (ordered c.push.new.self.by_number.entries) pushed c.self.told c.requires.session (record { path = c.requires.path; folded = c.requires.folded })

pub returns-clause-ok : goal.returns-clause-ok
returns-clause-ok g c =
    let before = ordered c.self.inside.rows.by_number.entries in
    let row : Row = record { session = c.args.session; mask = c.args.mask; key = c.in_ok-key.key } in
    let pushed = c.push.ensures ∙ ap (λ es. es ++ (c.args.number, row) ∷ []) c.reserve.ensures.rows in
    let view = ap (λ (t : Table _). t.handles) c.self.view_is in
    rw (← view, pushed) (added_handles c.self.inside.keys.slots c.hold.new.self.slots (key_at c.self.inside.keys.by_path.entries)
    (key_at c.hold.new.self.by_path.entries) before c.self.inside.counts c.args.number row c.args.path.items c.args.payload c.self.invariant
    c.in_ok-key.ensures.ok)

pub returns-clause-payloads : goal.returns-clause-payloads
returns-clause-payloads g c = λ text.
    let keys = c.self.inside.keys in
    let new = c.hold.new.self in
    let kept : (t : List ℕ) → payload_at keys.slots (key_at keys.by_path.entries t) ≡ payload_on c.args.self.now t =
    λ t. sym (payload_on-is keys.slots keys.by_path.entries t) ∙ ap (λ (v : Table _). payload_on v t) c.self.view_is in
    payload_on-is new.slots new.by_path.entries text
    ∙ added_payloads keys.slots (key_at keys.by_path.entries) (ordered c.self.inside.rows.by_number.entries) c.self.inside.counts c.self.invariant
    new.slots (key_at new.by_path.entries) c.args.path.items c.args.payload c.in_ok-key.key c.in_ok-key.ensures.ok text
    ∙ ap (λ o. cond (bytes_eq c.args.path.items text) (Some (unwrap_or o c.args.payload)) (payload_at keys.slots (key_at keys.by_path.entries text))) (kept c.args.path.items)
    ∙ ap (cond (bytes_eq c.args.path.items text) (Some (unwrap_or (payload_on c.args.self.now c.args.path.items) c.args.payload))) (kept text)
