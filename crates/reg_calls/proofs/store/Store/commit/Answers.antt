use Rattle.std.proofs.Common.{sym, subst}
use Rattle.reg_model.specs.declared.call.Change.{Change}
use Rattle.reg_calls.specs.declared.changes.Admitted.{Admitted}
use Rattle.reg_calls.specs.Internal.Stores.{IsMade, IsDone}
use Rattle.reg_calls.specs.Internal.Admissions.{Admits}
use Rattle.reg_calls.proofs.store.Store.commit.Goals as goal

pub returns-in-OpenRoot : goal.returns-in-OpenRoot
returns-in-OpenRoot c = λ change a.
    let found = subst (λ (x : Admitted). Admits c.args.end c.args.self.now c.args.session change x) c.in-OpenRoot.is a in
    subst (λ (x : Change). IsMade c.args.self.now c.commit.new.store c.args.session c.args.moment c.args.end x c.commit.result) (sym found.0) (c.commit.ensures c.args.moment)

pub returns-in-OpenKey : goal.returns-in-OpenKey
returns-in-OpenKey c = λ change a.
    let found = subst (λ (x : Admitted). Admits c.args.end c.args.self.now c.args.session change x) c.in-OpenKey.is a in
    subst (λ (x : Change). IsMade c.args.self.now c.commit-in-OpenKey.new.store c.args.session c.args.moment c.args.end x c.commit-in-OpenKey.result) (sym found.2)
    (c.commit-in-OpenKey.ensures c.args.moment found.0 found.1 found.3)

pub returns-in-DeleteKey : goal.returns-in-DeleteKey
returns-in-DeleteKey c = λ change a.
    let found = subst (λ (x : Admitted). Admits c.args.end c.args.self.now c.args.session change x) c.in-DeleteKey.is a in
    subst (λ (x : Change). IsDone c.args.self.now c.commit-in-DeleteKey.new.store c.args.session c.args.moment c.args.end x c.commit-in-DeleteKey.result) (sym found.2)
    (c.commit-in-DeleteKey.ensures c.args.session found.0 found.1 found.3)

pub returns-in-DeleteTree : goal.returns-in-DeleteTree
returns-in-DeleteTree c = λ change a.
    let found = subst (λ (x : Admitted). Admits c.args.end c.args.self.now c.args.session change x) c.in-DeleteTree.is a in
    subst (λ (x : Change). IsDone c.args.self.now c.commit-in-DeleteTree.new.store c.args.session c.args.moment c.args.end x c.commit-in-DeleteTree.result) (sym found.2)
    (c.commit-in-DeleteTree.ensures c.args.session found.0 found.1 found.3)

pub returns-in-Close : goal.returns-in-Close
returns-in-Close c = λ change a.
    let found = subst (λ (x : Admitted). Admits c.args.end c.args.self.now c.args.session change x) c.in-Close.is a in
    subst (λ (x : Change). IsDone c.args.self.now c.commit-in-Close.new.store c.args.session c.args.moment c.args.end x c.commit-in-Close.result) (sym found.0)
    (c.commit-in-Close.ensures c.args.moment)

pub returns-in-Notify : goal.returns-in-Notify
returns-in-Notify c = λ change a.
    let found = subst (λ (x : Admitted). Admits c.args.end c.args.self.now c.args.session change x) c.in-Notify.is a in
    subst (λ (x : Change). IsMade c.args.self.now c.commit-in-Notify.new.store c.args.session c.args.moment c.args.end x c.commit-in-Notify.result) (sym found.0)
    (c.commit-in-Notify.ensures c.args.moment found.1)
