use Rattle.std.proofs.Common.{[], refl}
use Rattle.reg_model.specs.declared.call.Change.TheVariants.{SetValue}
use Rattle.reg_calls.specs.HiveView.{view_of, callbacks_of, asks_of}
use Rattle.reg_dotreg_reader.specs.declared.entry.Entry.TheVariants.{Value}
use Rattle.reg_dotreg_import.specs.ImportStops.{IsStoppedAt}
use Rattle.reg_dotreg_import.specs.Internal.Standing.{hands_of}
use Rattle.reg_dotreg_import.proofs.EntrySteps.{if_err, stopped-later, value-applied, asks-value}
use Rattle.reg_dotreg_import.proofs.CallsInTurn.{value-made}
use Rattle.reg_dotreg_import.proofs.entries.Handles.value.Goals as goal

pub returns-in_err-make-clause-err : goal.returns-in_err-make-clause-err
returns-in_err-make-clause-err g c before s i =
    let old = view_of c.args.hive.now.hive in
    let new = view_of c.make.new.hive.hive in
    let now = c.args.self.now in
    let h = hands_of now old s in
    if_err (IsStoppedAt (asks_of g.C.Callback.answers c.args.hive.now.hive) now.moment c.args.line h (Value c.args.name c.args.kind c.args.bytes) old new)
    c.from_residual.result _ c.from_residual.ensures.1
    (stopped-later g.C.Callback.answers (callbacks_of c.args.hive.now.hive) (callbacks_of c.args.hive.now.hive) now.moment c.args.line h (Value c.args.name c.args.kind c.args.bytes) old old new []
    (SetValue now.key c.args.name c.args.kind c.args.bytes) _ refl
    c.in_err-make.ensures.same refl refl i.rooted.tree_is (asks-value before now old s i c.args.name c.args.kind c.args.bytes) c.in_err-make.ensures.err)

pub returns-clause-ok : goal.returns-clause-ok
returns-clause-ok g c before s i =
    value-applied before c.args.self.now (view_of c.args.hive.now.hive) s i (view_of c.make.new.hive.hive) c.args.name c.args.kind c.args.bytes c.in_ok-make.field-0
    c.in_ok-make.ensures.ok

pub returns-clause-led : goal.returns-clause-led
returns-clause-led g c before s i =
    value-made c.args.self.now (view_of c.args.hive.now.hive) (view_of c.make.new.hive.hive) s c.args.name c.args.kind c.args.bytes c.in_ok-make.field-0
    c.in_ok-make.ensures.ok
