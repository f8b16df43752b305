use Rattle.std.proofs.Common.{ℕ, [], Option, Some, subst, refl, ◌∙◌}
use Rattle.reg_model.specs.declared.call.Change.TheVariants.{OpenRoot}
use Rattle.reg_calls.specs.HiveView.{view_of, callbacks_of, asks_of}
use Rattle.reg_dotreg_import.specs.declared.entries.TheConstants.{ALL_RIGHTS}
use Rattle.reg_dotreg_import.specs.Imports.{begun, after_entries, entries_of, numbers_of}
use Rattle.reg_dotreg_import.specs.ImportCalls.{Accepts, Hands, leaving}
use Rattle.reg_dotreg_import.specs.ImportStops.{ImportStops}
use Rattle.reg_dotreg_import.specs.Internal.Standing.{IsMade, AreEntriesMade, hands_of}
use Rattle.reg_dotreg_import.proofs.ImportSteps.{root-told, root-opened, closed-tree, closed-root}
use Rattle.reg_dotreg_import.proofs.EntrySteps.{if_err, handles_with, importing-begun}
use Rattle.reg_dotreg_import.proofs.ImportedFronts.{not-opened, stops-later}
use Rattle.reg_dotreg_import.proofs.CallsInTurn.{hands-opened, import-made}
use Rattle.reg_dotreg_import.proofs.OpenHandleLemmas.{open-some}
use Rattle.reg_dotreg_import.proofs.entries.import.Goals as goal

pub unreachable-requires : goal.unreachable-requires
unreachable-requires g c =
    c.in_default.not-Some _ (root-told (view_of c.args.hive.now.hive) (view_of c.make.new.hive.hive) c.args.moment c.in_ok-root.field-0 c.in_ok-root.ensures.ok)

pub returns-in_err-root-clause-err : goal.returns-in_err-root-clause-err
returns-in_err-root-clause-err g c =
    let asked = asks_of g.C.Callback.answers c.args.hive.now.hive in
    let old = view_of c.args.hive.now.hive in
    let new = view_of c.make.new.hive.hive in
    if_err (λ fault. ImportStops asked c.args.moment fault old c.args.entries.items new) c.from_residual.result _
    c.from_residual.ensures.1
    (not-opened asked c.args.moment old new c.args.entries.items _ c.in_err-root.ensures.same c.in_err-root.ensures.err)

pub returns-in_err-apply_all-clause-err : goal.returns-in_err-apply_all-clause-err
returns-in_err-apply_all-clause-err g c =
    let old = view_of c.args.hive.now.hive in
    let mid = view_of c.make.new.hive.hive in
    let m = subst (λ (o : Option ℕ). IsMade old mid c.args.moment (OpenRoot ALL_RIGHTS) o) c.in-Some.is c.in_ok-root.ensures.ok in
    let handles = handles_with c.args.alloc c.args.moment c.in-Some.root c.from_vec.result in
    let i = importing-begun (numbers_of old.handles) handles mid old.keys.tree refl (c.from_vec.ensures ∙ c.new.ensures.items)
    (root-opened old mid c.args.moment c.len.ensures.hive c.in-Some.root m) in
    let same = hands-opened handles old mid m.reply refl (root-told old mid c.args.moment (Some c.in-Some.root) m) m.accepted in
    if_err (λ fault. ImportStops (asks_of g.C.Callback.answers c.args.hive.now.hive) c.args.moment fault old c.args.entries.items (view_of c.apply_all.new.hive.hive))
    c.from_residual-in_err-apply_all.result _ c.from_residual-in_err-apply_all.ensures.1
    (stops-later g.C.Callback.answers (callbacks_of c.make.new.hive.hive) (callbacks_of c.args.hive.now.hive) c.args.moment (hands_of handles mid (begun old.keys.tree)) old
    mid c.args.entries.items (view_of c.apply_all.new.hive.hive) _ m.reply c.make.ensures.callbacks m.accepted same
    (c.in_err-apply_all.ensures.err (numbers_of old.handles) (begun old.keys.tree) i))

pub returns-clause-ok : goal.returns-clause-ok
returns-clause-ok g c =
    let old = view_of c.args.hive.now.hive in
    let mid = view_of c.make.new.hive.hive in
    let last = view_of c.leave.new.hive.hive in
    let before = numbers_of old.handles in
    let m = subst (λ (o : Option ℕ). IsMade old mid c.args.moment (OpenRoot ALL_RIGHTS) o) c.in-Some.is c.in_ok-root.ensures.ok in
    let handles = handles_with c.args.alloc c.args.moment c.in-Some.root c.from_vec.result in
    let i = importing-begun before handles mid old.keys.tree refl (c.from_vec.ensures ∙ c.new.ensures.items)
    (root-opened old mid c.args.moment c.len.ensures.hive c.in-Some.root m) in
    let s = after_entries c.args.moment (begun old.keys.tree) (entries_of c.args.entries.items) in
    let root = c.apply_all.new.self.root in
    let r = c.leave.ensures.rooted before s (c.in_ok-apply_all.ensures.ok before (begun old.keys.tree) i) in
    let a = c.close.ensures.closed r.hive (open-some last.handles root [] r.root_open) in
    closed-tree before last (view_of c.close.new.hive.hive) c.args.moment root root s.tree r root a.0 a.1

pub returns-clause-handles : goal.returns-clause-handles
returns-clause-handles g c =
    let old = view_of c.args.hive.now.hive in
    let mid = view_of c.make.new.hive.hive in
    let last = view_of c.leave.new.hive.hive in
    let before = numbers_of old.handles in
    let m = subst (λ (o : Option ℕ). IsMade old mid c.args.moment (OpenRoot ALL_RIGHTS) o) c.in-Some.is c.in_ok-root.ensures.ok in
    let handles = handles_with c.args.alloc c.args.moment c.in-Some.root c.from_vec.result in
    let i = importing-begun before handles mid old.keys.tree refl (c.from_vec.ensures ∙ c.new.ensures.items)
    (root-opened old mid c.args.moment c.len.ensures.hive c.in-Some.root m) in
    let s = after_entries c.args.moment (begun old.keys.tree) (entries_of c.args.entries.items) in
    let root = c.apply_all.new.self.root in
    let r = c.leave.ensures.rooted before s (c.in_ok-apply_all.ensures.ok before (begun old.keys.tree) i) in
    let a = c.close.ensures.closed r.hive (open-some last.handles root [] r.root_open) in
    closed-root before last (view_of c.close.new.hive.hive) c.args.moment root s.tree r a.0 a.1

pub returns-clause-calls : goal.returns-clause-calls
returns-clause-calls g c =
    let old = view_of c.args.hive.now.hive in
    let mid = view_of c.make.new.hive.hive in
    let last = view_of c.leave.new.hive.hive in
    let before = numbers_of old.handles in
    let m = subst (λ (o : Option ℕ). IsMade old mid c.args.moment (OpenRoot ALL_RIGHTS) o) c.in-Some.is c.in_ok-root.ensures.ok in
    let handles = handles_with c.args.alloc c.args.moment c.in-Some.root c.from_vec.result in
    let i = importing-begun before handles mid old.keys.tree refl (c.from_vec.ensures ∙ c.new.ensures.items)
    (root-opened old mid c.args.moment c.len.ensures.hive c.in-Some.root m) in
    let s = after_entries c.args.moment (begun old.keys.tree) (entries_of c.args.entries.items) in
    let root = c.apply_all.new.self.root in
    let r = c.leave.ensures.rooted before s (c.in_ok-apply_all.ensures.ok before (begun old.keys.tree) i) in
    let a = c.close.ensures.closed r.hive (open-some last.handles root [] r.root_open) in
    let same = hands-opened handles old mid m.reply refl (root-told old mid c.args.moment (Some c.in-Some.root) m) m.accepted in
    let entries = entries_of c.args.entries.items in
    let end = hands_of c.apply_all.new.self (view_of c.apply_all.new.hive.hive) s in
    let all = subst (λ (h : Hands). AreEntriesMade c.args.moment h entries mid (view_of c.apply_all.new.hive.hive) end) same
    (c.in_ok-apply_all.ensures.led before (begun old.keys.tree) i) in
    let left = subst (λ (k : ℕ). Accepts k (view_of c.apply_all.new.hive.hive) (leaving end) last) c.apply_all.ensures.moment
    (c.leave.ensures.led before s (c.in_ok-apply_all.ensures.ok before (begun old.keys.tree) i)) in
    import-made c.args.moment old mid (view_of c.apply_all.new.hive.hive) last (view_of c.close.new.hive.hive) entries end m.reply a.0 m.accepted all left a.1
