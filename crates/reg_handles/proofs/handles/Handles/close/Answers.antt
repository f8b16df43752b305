use Rattle.std.proofs.Common.{◌≡◌, ◌<◌, true, get_or, is_some, ap, sym, subst, arith}
use Rattle.reg_model.specs.declared.limits.TheConstants.{SESSIONS_LIMIT}
use Rattle.reg_model.specs.Worlds.{look}
use Rattle.reg_handles.specs.Internal.OpenKeySlab.{key_at}
use Rattle.reg_handles.specs.Internal.OrderedRows.{ordered}
use Rattle.reg_handles.specs.HandleTables.{Table}
use Rattle.reg_handles.proofs.RowOrder.{rises_ordered}
use Rattle.reg_handles.proofs.LookUps.{owner, no_owner}
use Rattle.reg_handles.proofs.RowRemoved.{taken_rows, taken_fit, taken_session, taken_handles, taken_to}
use Rattle.std.proofs.Common.{None, cond, ◌∙◌}
use Rattle.reg_names.specs.Names.{path_of}
use Rattle.reg_handles.specs.HandleTables.{payload_on, is_open}
use Rattle.reg_handles.specs.Internal.HandleRows.{handles_of}
use Rattle.reg_handles.proofs.Payloads.{payload_on-is}
use Rattle.reg_handles.proofs.RowRemoved.{taken_payloads}
use Rattle.reg_handles.proofs.handles.Handles.close.Goals as goal

pub release-requires : goal.release-requires
release-requires g c =
    let rows = ordered c.self.inside.rows.by_number.entries in
    taken_rows c.self.inside.keys.slots (key_at c.self.inside.keys.by_path.entries) rows c.self.inside.counts c.args.number c.in-Some.row c.self.invariant (sym c.in-Some.ensures.row)

pub bounds-self-inside-session : goal.bounds-self-inside-session
bounds-self-inside-session g c =
    let rows = ordered c.self.inside.rows.by_number.entries in
    let has = subst (λ (t : Table _). is_some (look c.args.session c.args.number t.handles) ≡ true) (sym c.self.view_is) c.requires in
    let own : c.in-Some.row.session ≡ c.args.session = owner c.self.inside.keys.slots c.args.session c.args.number rows c.in-Some.row c.in-Some.ensures.row has in
    let fit : c.in-Some.row.session < SESSIONS_LIMIT = taken_fit c.self.inside.keys.slots (key_at c.self.inside.keys.by_path.entries) rows c.self.inside.counts
    c.args.number c.in-Some.row c.self.invariant (sym c.in-Some.ensures.row) in
    omega (arith, own, fit)

pub bounds-self-inside-session-in-Some : goal.bounds-self-inside-session-in-Some
bounds-self-inside-session-in-Some g c =
    let rows = ordered c.self.inside.rows.by_number.entries in
    let has = subst (λ (t : Table _). is_some (look c.args.session c.args.number t.handles) ≡ true) (sym c.self.view_is) c.requires in
    let own : c.in-Some.row.session ≡ c.args.session = owner c.self.inside.keys.slots c.args.session c.args.number rows c.in-Some.row c.in-Some.ensures.row has in
    let fit : c.in-Some.row.session < SESSIONS_LIMIT = taken_fit c.self.inside.keys.slots (key_at c.self.inside.keys.by_path.entries) rows c.self.inside.counts
    c.args.number c.in-Some.row c.self.invariant (sym c.in-Some.ensures.row) in
    omega (arith, own, fit)

pub overflow_sub-self : goal.overflow_sub-self
overflow_sub-self g c =
    let rows = ordered c.self.inside.rows.by_number.entries in
    let has = subst (λ (t : Table _). is_some (look c.args.session c.args.number t.handles) ≡ true) (sym c.self.view_is) c.requires in
    let own : c.in-Some.row.session ≡ c.args.session = owner c.self.inside.keys.slots c.args.session c.args.number rows c.in-Some.row c.in-Some.ensures.row has in
    subst (λ s. 0 < get_or c.self.inside.counts s 0) own
    (taken_session c.self.inside.keys.slots (key_at c.self.inside.keys.by_path.entries) rows c.self.inside.counts c.args.number c.in-Some.row
    c.self.invariant (sym c.in-Some.ensures.row))

pub invariant_of-self : goal.invariant_of-self
invariant_of-self g c =
    let rows = ordered c.self.inside.rows.by_number.entries in
    let has = subst (λ (t : Table _). is_some (look c.args.session c.args.number t.handles) ≡ true) (sym c.self.view_is) c.requires in
    let own : c.in-Some.row.session ≡ c.args.session = owner c.self.inside.keys.slots c.args.session c.args.number rows c.in-Some.row c.in-Some.ensures.row has in
    taken_to c.self.inside.keys.slots (key_at c.self.inside.keys.by_path.entries) rows c.self.inside.counts c.args.number c.in-Some.row
    c.self.invariant (sym c.in-Some.ensures.row) c.release.new.self.slots
    (key_at c.release.new.self.by_path.entries) c.release.ensures.slots c.release.ensures.paths
    (ordered c.remove.new.self.by_number.entries) c.args.session c.in-Some.ensures.rest own c.self.told

pub returns-in-Some-clause-handles : goal.returns-in-Some-clause-handles
returns-in-Some-clause-handles g c =
    let rows = ordered c.self.inside.rows.by_number.entries in
    let view = ap (λ (t : Table _). t.handles) c.self.view_is in
    rw (← view, c.in-Some.ensures.rest) (taken_handles c.self.inside.keys.slots (key_at c.self.inside.keys.by_path.entries) rows c.self.inside.counts
    c.args.number c.in-Some.row c.self.invariant (sym c.in-Some.ensures.row) c.release.new.self.slots
    (key_at c.release.new.self.by_path.entries) c.release.ensures.slots c.release.ensures.paths
    (rises_ordered c.self.inside.rows.by_number.entries))

pub invariant_of-self-in_default : goal.invariant_of-self-in_default
invariant_of-self-in_default g c =
    let has = subst (λ (t : Table _). is_some (look c.args.session c.args.number t.handles) ≡ true) (sym c.self.view_is) c.requires in
    absurd (no_owner c.self.inside.keys.slots c.args.session c.args.number (ordered c.self.inside.rows.by_number.entries) c.in_default.ensures.row has)

pub returns-in_default-clause-handles : goal.returns-in_default-clause-handles
returns-in_default-clause-handles g c =
    let has = subst (λ (t : Table _). is_some (look c.args.session c.args.number t.handles) ≡ true) (sym c.self.view_is) c.requires in
    absurd (no_owner c.self.inside.keys.slots c.args.session c.args.number (ordered c.self.inside.rows.by_number.entries) c.in_default.ensures.row has)

pub returns-in-Some-clause-payloads : goal.returns-in-Some-clause-payloads
returns-in-Some-clause-payloads g c = λ text.
    let keys = c.self.inside.keys in
    let new = c.release.new.self in
    let rows = ordered c.self.inside.rows.by_number.entries in
    let left = ordered c.remove.new.self.by_number.entries in
    let has = subst (λ (t : Table _). is_some (look c.args.session c.args.number t.handles) ≡ true) (sym c.self.view_is) c.requires in
    let own : c.in-Some.row.session ≡ c.args.session = owner keys.slots c.args.session c.args.number rows c.in-Some.row c.in-Some.ensures.row has in
    payload_on-is new.slots new.by_path.entries text
    ∙ taken_payloads keys.slots (key_at keys.by_path.entries) rows c.self.inside.counts c.args.number c.in-Some.row
    c.self.invariant (sym c.in-Some.ensures.row) new.slots (key_at new.by_path.entries) c.release.ensures.slots c.release.ensures.paths
    left c.args.session c.in-Some.ensures.rest own c.self.told text
    ∙ ap (λ o. cond (is_open (path_of text) (handles_of new.slots left)) o None)
    (sym (payload_on-is keys.slots keys.by_path.entries text) ∙ ap (λ (t : Table _). payload_on t text) c.self.view_is)

pub returns-in_default-clause-payloads : goal.returns-in_default-clause-payloads
returns-in_default-clause-payloads g c =
    let has = subst (λ (t : Table _). is_some (look c.args.session c.args.number t.handles) ≡ true) (sym c.self.view_is) c.requires in
    absurd (no_owner c.self.inside.keys.slots c.args.session c.args.number (ordered c.self.inside.rows.by_number.entries) c.in_default.ensures.row has)
