use Rattle.std.proofs.Common.{◌≡◌, ◌<◌, sym, subst}
use Rattle.std.specs.Prelude.{All, OnOk, OnErr}
use Rattle.reg_model.specs.Causes.{watches_of}
use Rattle.reg_model.specs.Watches.{Watch}
use Rattle.reg_model.specs.declared.limits.TheConstants.{WATCHES_LIMIT}
use Rattle.reg_notify.specs.Asked.{watch_in, Adds}
use Rattle.reg_notify.specs.Tables.{Table}
use Rattle.reg_notify.specs.Internal.Settled.{shown}
use Rattle.reg_notify.proofs.watches.Watches.add.Goals as goal

pub add-requires-clause-settled : goal.add-requires-clause-settled
add-requires-clause-settled c = c.self.invariant.settled

pub add-requires-clause-above : goal.add-requires-clause-above
add-requires-clause-above c = subst (λ (t : Table). All (λ (v : Watch). v.number < c.args.asked.number) t.pending) (sym c.self.view_is) c.requires.above

pub add-requires-clause-room : goal.add-requires-clause-room
add-requires-clause-room c = subst (λ (t : Table). watches_of c.args.asked.session t.pending < WATCHES_LIMIT) (sym c.self.view_is) c.requires.room

pub returns-clause-ok : goal.returns-clause-ok
returns-clause-ok c = subst (λ (t : Table). OnOk c.add.result (Adds (watch_in c.args.asked) t (shown c.add.new.self))) c.self.view_is c.add.ensures.ok

pub returns-clause-err : goal.returns-clause-err
returns-clause-err c = subst (λ (t : Table). OnErr c.add.result (shown c.add.new.self ≡ t)) c.self.view_is c.add.ensures.err
