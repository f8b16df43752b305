use Rattle.std.proofs.Common.{ap, refl}
use Rattle.reg_calls.specs.Views.{Booked}
use Rattle.reg_calls.proofs.QuietChanges.{unhit-same}
use Rattle.reg_calls.proofs.HandedNotices.{kept-handed, is-handed}
use Rattle.reg_calls.proofs.hive_core.Core.take_notice.Goals as goal

pub invariant_of-self : goal.invariant_of-self
invariant_of-self c = (
  c.self.invariant.0,
  unhit-same _ c.self.inside.store (record c.self.inside.store { watches = c.take.new.self }) c.self.inside.quiet refl c.take.ensures.pending c.self.invariant.1,
  kept-handed c.self.invariant.2 c.args.session c.take.result c.take.ensures.notice c.take.new.self c.take.ensures.taken c.take.ensures.told c.take.ensures.pending,
)

pub returns-clause-notice : goal.returns-clause-notice
returns-clause-notice c =
    is-handed c.self.invariant.2 c.args.session c.take.result c.take.ensures.notice c.take.new.self c.take.ensures.taken c.take.ensures.told c.take.ensures.pending
    c.args.self.now.view (ap (λ (b : Booked). b.view) c.self.view_is)
