use Rattle.std.proofs.Common.{sym, ◌∙◌, subst}
use Rattle.std.proofs.lemmas.List.{nil_from_length}
use Rattle.reg_model.specs.declared.call.Change.{Change}
use Rattle.reg_calls.specs.declared.changes.Admitted.{Admitted}
use Rattle.reg_calls.specs.declared.announced.Announced.TheVariants.{Closes}
use Rattle.reg_calls.specs.Internal.Admissions.{Admits}
use Rattle.reg_calls.specs.Internal.Announcements.{IsAnnounced}
use Rattle.reg_calls.proofs.AnnouncedChanges.{none-announced, close-announced, quiet-announced}
use Rattle.reg_calls.proofs.QuietChanges.{remembered-announced}
use Rattle.reg_calls.proofs.store.Store.announce.Goals as goal

pub returns-then-len-eq0-clause-ok : goal.returns-then-len-eq0-clause-ok
returns-then-len-eq0-clause-ok c = λ end change a unhit. none-announced end c.args.self.now c.args.session change (nil_from_length _ (sym c.len.ensures ∙ c.if-len-eq0.true))

pub returns-in-Close-clause-ok : goal.returns-in-Close-clause-ok
returns-in-Close-clause-ok c = λ end change a unhit.
    let found = subst (λ (x : Admitted). Admits end c.args.self.now c.args.session change x) c.in-Close.is a in
    subst (λ (x : Change). IsAnnounced end c.args.self.now c.args.session x (Closes c.in-Close.found.handle)) (sym found.0)
    (close-announced end c.args.self.now c.args.session c.in-Close.found.handle)

pub returns-in-OpenRoot-clause-ok : goal.returns-in-OpenRoot-clause-ok
returns-in-OpenRoot-clause-ok c = λ end change a unhit. quiet-announced end c.args.self.now c.args.session change c.args.admitted.now a c.in-OpenRoot.is

pub returns-then-has-clause-ok : goal.returns-then-has-clause-ok
returns-then-has-clause-ok c = λ end change a unhit.
    let r = c.has.ensures c.if-has.true in
    remembered-announced end c.args.self.now c.args.session change c.args.quiet.now c.own_event.result r.0 r.1 unhit
    (c.own_event.ensures end c.args.session c.args.self.now change a r.1.kind)
