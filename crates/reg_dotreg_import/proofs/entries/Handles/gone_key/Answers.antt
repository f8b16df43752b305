use Rattle.std.proofs.Common.{[], ap, refl, ◌∙◌}
use Rattle.reg_model.specs.declared.call.Change.TheVariants.{DeleteTree}
use Rattle.reg_tree.specs.TreeKeys.{Keys}
use Rattle.reg_calls.specs.HiveView.{view_of, callbacks_of, asks_of}
use Rattle.reg_dotreg_reader.specs.declared.entry.Entry.TheVariants.{GoneKey}
use Rattle.reg_dotreg_import.specs.ImportStops.{IsStoppedAt}
use Rattle.reg_dotreg_import.specs.Internal.Standing.{hands_of}
use Rattle.reg_dotreg_import.proofs.EntrySteps.{if_err, stopped-later, gone_key-applied, key-absent, asks-gone_key}
use Rattle.reg_dotreg_import.proofs.CallsInTurn.{gone_key-made, gone_key-passed, gone_key-calls}
use Rattle.reg_dotreg_import.proofs.entries.Handles.gone_key.Goals as goal

pub returns-then-lacks_key-clause-led : goal.returns-then-lacks_key-clause-led
returns-then-lacks_key-clause-led g c before s i =
    let old = view_of c.args.hive.now.hive in
    let now = c.args.self.now in
    let absent = key-absent before now old s i c.tree.result.now.tree c.args.path c.as_slice.result.now c.lacks_key.result
    (ap (λ (k : Keys). k.tree) c.tree.ensures.keys) c.as_slice.ensures c.lacks_key.ensures in
    gone_key-passed now old s c.args.path (absent ∙ c.if-lacks_key.true)

pub returns-in_err-make-clause-err : goal.returns-in_err-make-clause-err
returns-in_err-make-clause-err g c before s i =
    let old = view_of c.args.hive.now.hive in
    let new = view_of c.make.new.hive.hive in
    let now = c.args.self.now in
    let h = hands_of now old s in
    let absent = key-absent before now old s i c.tree.result.now.tree c.args.path c.as_slice.result.now c.lacks_key.result
    (ap (λ (k : Keys). k.tree) c.tree.ensures.keys) c.as_slice.ensures c.lacks_key.ensures in
    if_err (IsStoppedAt (asks_of g.C.Callback.answers c.args.hive.now.hive) now.moment c.args.line h (GoneKey c.args.path) old new)
    c.from_residual.result _ c.from_residual.ensures.1
    (stopped-later g.C.Callback.answers (callbacks_of c.args.hive.now.hive) (callbacks_of c.args.hive.now.hive) now.moment c.args.line h (GoneKey c.args.path) old old new []
    (DeleteTree now.root c.args.path) _ refl
    c.in_err-make.ensures.same (gone_key-calls h c.args.path (absent ∙ c.if-lacks_key.false)) refl i.rooted.tree_is
    (asks-gone_key before now old s i c.args.path (absent ∙ c.if-lacks_key.false)) c.in_err-make.ensures.err)

pub returns-clause-ok : goal.returns-clause-ok
returns-clause-ok g c before s i =
    gone_key-applied before c.args.self.now (view_of c.args.hive.now.hive) s i (view_of c.make.new.hive.hive) c.args.path c.in_ok-make.field-0 c.in_ok-make.ensures.ok

pub returns-clause-led : goal.returns-clause-led
returns-clause-led g c before s i =
    let old = view_of c.args.hive.now.hive in
    let now = c.args.self.now in
    let absent = key-absent before now old s i c.tree.result.now.tree c.args.path c.as_slice.result.now c.lacks_key.result
    (ap (λ (k : Keys). k.tree) c.tree.ensures.keys) c.as_slice.ensures c.lacks_key.ensures in
    gone_key-made now old (view_of c.make.new.hive.hive) s c.args.path c.in_ok-make.field-0 (absent ∙ c.if-lacks_key.false) c.in_ok-make.ensures.ok
