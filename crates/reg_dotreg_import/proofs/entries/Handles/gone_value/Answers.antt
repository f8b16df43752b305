use Rattle.std.proofs.Common.{[], ap, not, refl, ◌∙◌}
use Rattle.reg_model.specs.declared.call.Change.TheVariants.{DeleteValue}
use Rattle.reg_tree.specs.TreeKeys.{Keys}
use Rattle.reg_calls.specs.HiveView.{view_of, callbacks_of, asks_of}
use Rattle.reg_dotreg_reader.specs.declared.entry.Entry.TheVariants.{GoneValue}
use Rattle.reg_dotreg_import.specs.ImportStops.{IsStoppedAt}
use Rattle.reg_dotreg_import.specs.Internal.Standing.{hands_of}
use Rattle.reg_dotreg_import.proofs.EntrySteps.{if_err, stopped-later, gone_value-applied, value_looked_up, value-there, asks-gone_value}
use Rattle.reg_dotreg_import.proofs.CallsInTurn.{gone_value-made, gone_value-passed, gone_value-calls}
use Rattle.reg_dotreg_import.proofs.entries.Handles.gone_value.Goals as goal

pub returns-then-lacks_value-clause-led : goal.returns-then-lacks_value-clause-led
returns-then-lacks_value-clause-led g c before s i =
    let old = view_of c.args.hive.now.hive in
    let now = c.args.self.now in
    let there = value_looked_up old.keys.tree c.tree.result.now.tree now.path c.as_slice.result.now c.args.name c.as_slice-2.result.now
    c.lacks_value.result (ap (λ (k : Keys). k.tree) c.tree.ensures.keys) c.as_slice.ensures c.as_slice-2.ensures i.path c.lacks_value.ensures in
    gone_value-passed now old s c.args.name (value-there before now old s i c.args.name _ (there ∙ ap not c.if-lacks_value.true))

pub returns-in_err-make-clause-err : goal.returns-in_err-make-clause-err
returns-in_err-make-clause-err g c before s i =
    let old = view_of c.args.hive.now.hive in
    let new = view_of c.make.new.hive.hive in
    let now = c.args.self.now in
    let h = hands_of now old s in
    let there = value_looked_up old.keys.tree c.tree.result.now.tree now.path c.as_slice.result.now c.args.name c.as_slice-2.result.now
    c.lacks_value.result (ap (λ (k : Keys). k.tree) c.tree.ensures.keys) c.as_slice.ensures c.as_slice-2.ensures i.path c.lacks_value.ensures in
    let is = there ∙ ap not c.if-lacks_value.false in
    if_err (IsStoppedAt (asks_of g.C.Callback.answers c.args.hive.now.hive) now.moment c.args.line h (GoneValue c.args.name) old new)
    c.from_residual.result _ c.from_residual.ensures.1
    (stopped-later g.C.Callback.answers (callbacks_of c.args.hive.now.hive) (callbacks_of c.args.hive.now.hive) now.moment c.args.line h (GoneValue c.args.name) old old new []
    (DeleteValue now.key c.args.name) _ refl
    c.in_err-make.ensures.same (gone_value-calls h c.args.name (value-there before now old s i c.args.name _ is)) refl i.rooted.tree_is
    (asks-gone_value before now old s i c.args.name is) c.in_err-make.ensures.err)

pub returns-clause-ok : goal.returns-clause-ok
returns-clause-ok g c before s i =
    let old = view_of c.args.hive.now.hive in
    let now = c.args.self.now in
    let there = value_looked_up old.keys.tree c.tree.result.now.tree now.path c.as_slice.result.now c.args.name c.as_slice-2.result.now
    c.lacks_value.result (ap (λ (k : Keys). k.tree) c.tree.ensures.keys) c.as_slice.ensures c.as_slice-2.ensures i.path c.lacks_value.ensures in
    gone_value-applied before now old s i (view_of c.make.new.hive.hive) c.args.name c.in_ok-make.field-0 (there ∙ ap not c.if-lacks_value.false)
    c.in_ok-make.ensures.ok

pub returns-clause-led : goal.returns-clause-led
returns-clause-led g c before s i =
    let old = view_of c.args.hive.now.hive in
    let now = c.args.self.now in
    let there = value_looked_up old.keys.tree c.tree.result.now.tree now.path c.as_slice.result.now c.args.name c.as_slice-2.result.now
    c.lacks_value.result (ap (λ (k : Keys). k.tree) c.tree.ensures.keys) c.as_slice.ensures c.as_slice-2.ensures i.path c.lacks_value.ensures in
    gone_value-made now old (view_of c.make.new.hive.hive) s c.args.name c.in_ok-make.field-0
    (value-there before now old s i c.args.name _ (there ∙ ap not c.if-lacks_value.false)) c.in_ok-make.ensures.ok
