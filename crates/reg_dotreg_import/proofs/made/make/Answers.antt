use Rattle.std.proofs.Common.{refl}
use Rattle.reg_calls.specs.HiveView.{view_of, asks_of}
use Rattle.reg_dotreg_import.proofs.MadeChanges.{made, told_memory, told_refusal}
use Rattle.reg_dotreg_import.proofs.made.make.Goals as goal

pub returns-then-status-eq0-clause-ok : goal.returns-then-status-eq0-clause-ok
returns-then-status-eq0-clause-ok g c =
    made (asks_of g.C.Callback.answers c.args.hive.now.hive) (view_of c.args.hive.now.hive) (view_of c.apply-reply.new.self.hive) c.args.moment c.args.change
    c.apply-reply.result c.apply-reply.ensures.applied c.if-status-eq0.true

pub returns-then-status-eq-NOT_ENOUGH_MEMORY-clause-same : goal.returns-then-status-eq-NOT_ENOUGH_MEMORY-clause-same
returns-then-status-eq-NOT_ENOUGH_MEMORY-clause-same g c =
    let both = told_memory (asks_of g.C.Callback.answers c.args.hive.now.hive) (view_of c.args.hive.now.hive) (view_of c.apply-reply.new.self.hive) c.args.moment
    c.args.change c.apply-reply.result c.apply-reply.ensures.applied c.if-status-eq-NOT_ENOUGH_MEMORY.true in both.0

pub returns-then-status-eq-NOT_ENOUGH_MEMORY-clause-err : goal.returns-then-status-eq-NOT_ENOUGH_MEMORY-clause-err
returns-then-status-eq-NOT_ENOUGH_MEMORY-clause-err g c =
    let both = told_memory (asks_of g.C.Callback.answers c.args.hive.now.hive) (view_of c.args.hive.now.hive) (view_of c.apply-reply.new.self.hive) c.args.moment
    c.args.change c.apply-reply.result c.apply-reply.ensures.applied c.if-status-eq-NOT_ENOUGH_MEMORY.true in both.1

pub returns-clause-same : goal.returns-clause-same
returns-clause-same g c =
    let both = told_refusal (asks_of g.C.Callback.answers c.args.hive.now.hive) (view_of c.args.hive.now.hive) (view_of c.apply-reply.new.self.hive) c.args.moment
    c.args.change c.apply-reply.result c.apply-reply.ensures.applied c.if-status-eq0.false c.if-status-eq-NOT_ENOUGH_MEMORY.false in both.0

pub returns-clause-err : goal.returns-clause-err
returns-clause-err g c =
    let both = told_refusal (asks_of g.C.Callback.answers c.args.hive.now.hive) (view_of c.args.hive.now.hive) (view_of c.apply-reply.new.self.hive) c.args.moment
    c.args.change c.apply-reply.result c.apply-reply.ensures.applied c.if-status-eq0.false c.if-status-eq-NOT_ENOUGH_MEMORY.false in (refl, both.1)
