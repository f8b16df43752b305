use Rattle.std.proofs.Common.{◌<◌, ◌++◌, ◌∷◌, [], ap, sym, subst, ◌∙◌}
use Rattle.std.specs.List.{All}
use Rattle.reg_heap.specs.Paths.{Path}
use Rattle.reg_model.specs.Worlds.{Handle, At, numbered}
use Rattle.reg_handles.specs.Internal.OpenKeySlab.{key_at}
use Rattle.reg_handles.specs.Internal.OrderedRows.{ordered}
use Rattle.reg_handles.specs.Internal.HandleRows.{handles_of}
use Rattle.reg_handles.specs.HandleTables.{Table, IsLeadingTo, payload_on}
use Rattle.reg_handles.specs.declared.rows.Row.{Row}
use Rattle.reg_handles.proofs.HandleList.{rows_below}
use Rattle.reg_handles.proofs.HandleBeside.{row-there, key-open, held-beside, kept-beside}
use Rattle.reg_handles.proofs.Payloads.{payload_on-is}
use Rattle.reg_handles.proofs.RowAdded.{added_handles, added_table}
use Rattle.reg_handles.proofs.handles.Handles.add_beside.Goals as goal

pub unreachable-requires : goal.unreachable-requires
unreachable-requires g c =
    let keys = c.self.inside.keys in
    let leads = subst (λ (t : Table _). IsLeadingTo c.requires.leads.0 (numbered c.args.other t.handles)) (sym c.self.view_is) c.requires.leads.1 in
    row-there keys.slots (key_at keys.by_path.entries) (ordered c.self.inside.rows.by_number.entries) c.self.inside.counts c.self.invariant
    c.args.other c.requires.leads.0 leads c.in_default.ensures

pub push-requires-clause-above : goal.push-requires-clause-above
push-requires-clause-above g c =
    let above = subst (λ (t : Table _). All (λ (h : Handle). h.number < c.args.number) t.handles) (sym c.self.view_is) c.requires.above in
    rw c.reserve.ensures.rows (rows_below c.self.inside.keys.slots (ordered c.self.inside.rows.by_number.entries) c.args.number above)

pub invariant_of-self-2 : goal.invariant_of-self-2
invariant_of-self-2 g c =
    let keys = c.self.inside.keys in
    let new = c.count_up.new.self in
    let paths = key_at keys.by_path.entries in
    let before = ordered c.self.inside.rows.by_number.entries in
    let row : Row = record { session = c.args.session; mask = c.args.mask; key = c.in-Some.beside.now.key } in
    let pushed = c.push.ensures ∙ ap (λ es. es ++ (c.args.number, row) ∷ []) c.reserve.ensures.rows in
    let leads = subst (λ (t : Table _). IsLeadingTo c.requires.leads.0 (numbered c.args.other t.handles)) (sym c.self.view_is) c.requires.leads.1 in
    let stands = key-open keys.slots paths before c.self.inside.counts c.self.invariant c.args.other c.requires.leads.0 leads c.in-Some.beside.now c.in-Some.ensures in
    let held = held-beside keys.slots paths before c.self.inside.counts c.self.invariant c.in-Some.beside.now.key c.requires.leads.0 stands new.slots
    (key_at new.by_path.entries) c.count_up.ensures.slots (λ text. ap (λ es. key_at es text) c.count_up.ensures.paths) in
    added_table keys.slots new.slots paths (key_at new.by_path.entries) before c.self.inside.counts c.args.number row stands.k.path.items stands.k.payload c.self.invariant held
    (ordered c.push.new.self.by_number.entries) pushed c.self.told c.requires.session stands.folded

pub returns-clause-ok : goal.returns-clause-ok
returns-clause-ok g c = λ p leads-there.
    let keys = c.self.inside.keys in
    let new = c.count_up.new.self in
    let paths = key_at keys.by_path.entries in
    let before = ordered c.self.inside.rows.by_number.entries in
    let row : Row = record { session = c.args.session; mask = c.args.mask; key = c.in-Some.beside.now.key } in
    let pushed = c.push.ensures ∙ ap (λ es. es ++ (c.args.number, row) ∷ []) c.reserve.ensures.rows in
    let leads = subst (λ (t : Table _). IsLeadingTo p (numbered c.args.other t.handles)) (sym c.self.view_is) leads-there in
    let stands = key-open keys.slots paths before c.self.inside.counts c.self.invariant c.args.other p leads c.in-Some.beside.now c.in-Some.ensures in
    let held = held-beside keys.slots paths before c.self.inside.counts c.self.invariant c.in-Some.beside.now.key p stands new.slots
    (key_at new.by_path.entries) c.count_up.ensures.slots (λ text. ap (λ es. key_at es text) c.count_up.ensures.paths) in
    let view = ap (λ (t : Table _). t.handles) c.self.view_is in
    rw (← view, pushed) (added_handles keys.slots new.slots paths (key_at new.by_path.entries) before c.self.inside.counts c.args.number row stands.k.path.items stands.k.payload
    c.self.invariant held
    ∙ ap (λ (q : Path). handles_of keys.slots before ++ record { number = c.args.number; session = c.args.session; mask = c.args.mask; destination = At q } ∷ []) stands.names)

pub returns-clause-payloads : goal.returns-clause-payloads
returns-clause-payloads g c = λ text.
    let keys = c.self.inside.keys in
    let new = c.count_up.new.self in
    let paths = key_at keys.by_path.entries in
    let before = ordered c.self.inside.rows.by_number.entries in
    let leads = subst (λ (t : Table _). IsLeadingTo c.requires.leads.0 (numbered c.args.other t.handles)) (sym c.self.view_is) c.requires.leads.1 in
    let stands = key-open keys.slots paths before c.self.inside.counts c.self.invariant c.args.other c.requires.leads.0 leads c.in-Some.beside.now c.in-Some.ensures in
    payload_on-is new.slots new.by_path.entries text
    ∙ (kept-beside keys.slots paths before c.self.inside.counts c.self.invariant c.in-Some.beside.now.key c.requires.leads.0 stands new.slots
    (key_at new.by_path.entries) c.count_up.ensures.slots (λ text. ap (λ es. key_at es text) c.count_up.ensures.paths) text
    ∙ (sym (payload_on-is keys.slots keys.by_path.entries text) ∙ ap (λ (v : Table _). payload_on v text) c.self.view_is))
