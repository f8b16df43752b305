use Rattle.std.proofs.Common.{ℕ, Option, None, subst, refl}
use Rattle.reg_model.specs.declared.call.Change.TheVariants.{CreateKey}
use Rattle.reg_calls.specs.HiveView.{view_of, callbacks_of, asks_of}
use Rattle.reg_dotreg_reader.specs.declared.entry.Entry.TheVariants.{Key}
use Rattle.reg_dotreg_import.specs.declared.entries.TheConstants.{ALL_RIGHTS}
use Rattle.reg_dotreg_import.specs.ImportCalls.{leaving}
use Rattle.reg_dotreg_import.specs.ImportStops.{IsStoppedAt}
use Rattle.reg_dotreg_import.specs.Internal.Standing.{IsMade, hands_of}
use Rattle.reg_dotreg_import.proofs.ImportSteps.{key-told}
use Rattle.reg_dotreg_import.proofs.EntrySteps.{if_err, stopped-later, stopped-before, asks-key, key-applied}
use Rattle.reg_dotreg_import.proofs.CallsInTurn.{key-made-by}
use Rattle.reg_dotreg_import.proofs.entries.Handles.key.Goals as goal

pub returns-in_err-copy-clause-err : goal.returns-in_err-copy-clause-err
returns-in_err-copy-clause-err g c before s i =
    let old = view_of c.args.hive.now.hive in
    let now = c.args.self.now in
    if_err (IsStoppedAt (asks_of g.C.Callback.answers c.args.hive.now.hive) now.moment c.args.line (hands_of now old s) (Key c.args.path) old old)
    c.from_residual.result _ c.from_residual.ensures.1
    (stopped-before now.moment (hands_of now old s) (Key c.args.path) old i.rooted.tree_is)

pub returns-in_err-key-clause-err : goal.returns-in_err-key-clause-err
returns-in_err-key-clause-err g c before s i =
    let old = view_of c.args.hive.now.hive in
    let mid = view_of c.leave.new.hive.hive in
    let new = view_of c.make.new.hive.hive in
    let now = c.args.self.now in
    let h = hands_of now old s in
    let r = c.leave.ensures.rooted before s i in
    if_err (IsStoppedAt (asks_of g.C.Callback.answers c.args.hive.now.hive) now.moment c.args.line h (Key c.args.path) old new)
    c.from_residual-in_err-key.result _ c.from_residual-in_err-key.ensures.1
    (stopped-later g.C.Callback.answers (callbacks_of c.leave.new.hive.hive) (callbacks_of c.args.hive.now.hive) now.moment c.args.line h (Key c.args.path) old mid
    new (leaving h) (CreateKey now.root c.args.path ALL_RIGHTS None) _ c.leave.ensures.callbacks c.in_err-key.ensures.same refl
    (c.leave.ensures.led before s i) r.tree_is (asks-key before now mid s c.args.path r) c.in_err-key.ensures.err)

pub unreachable-requires : goal.unreachable-requires
unreachable-requires g c =
    c.in_default.not-Some _
    (key-told (view_of c.leave.new.hive.hive) (view_of c.make.new.hive.hive) c.args.self.now.moment c.args.self.now.root c.args.path c.in_ok-key.field-0 c.in_ok-key.ensures.ok)

pub returns-clause-ok : goal.returns-clause-ok
returns-clause-ok g c before s i =
    let mid = view_of c.leave.new.hive.hive in
    let now = c.args.self.now in
    let m = subst (λ (o : Option ℕ). IsMade mid (view_of c.make.new.hive.hive) now.moment (CreateKey now.root c.args.path ALL_RIGHTS None) o) c.in-Some.is
    c.in_ok-key.ensures.ok in
    key-applied before now mid s c.args.path (c.leave.ensures.rooted before s i) (view_of c.make.new.hive.hive) c.in-Some.key c.in_ok-copy.copy
    c.in_ok-copy.ensures.ok m

pub returns-clause-led : goal.returns-clause-led
returns-clause-led g c before s i =
    let mid = view_of c.leave.new.hive.hive in
    let new = view_of c.make.new.hive.hive in
    let now = c.args.self.now in
    let m = subst (λ (o : Option ℕ). IsMade mid new now.moment (CreateKey now.root c.args.path ALL_RIGHTS None) o) c.in-Some.is
    c.in_ok-key.ensures.ok in
    key-made-by now (view_of c.args.hive.now.hive) mid new s c.args.path c.in-Some.key c.in_ok-copy.copy (c.leave.ensures.led before s i) m
    (key-told mid new now.moment now.root c.args.path _ m)
