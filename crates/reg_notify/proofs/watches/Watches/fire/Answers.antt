use Rattle.std.proofs.Common.{◌≤◌, subst}
use Rattle.std.proofs.lemmas.List.Elements.{recursion_from_All}
use Rattle.reg_model.specs.declared.filters.TheConstants.{EVENTS}
use Rattle.reg_model.specs.declared.notice.Reason.TheVariants.{Matched, Gone}
use Rattle.reg_notify.specs.Asked.{ending_by, Fires}
use Rattle.reg_notify.specs.Tables.{Table}
use Rattle.reg_notify.specs.Internal.Firing.{if_passes, then_why}
use Rattle.reg_notify.specs.Internal.Hits.{any_event, is_gone}
use Rattle.reg_notify.specs.Internal.Settled.{shown}
use Rattle.reg_notify.proofs.EndsSteps.{each}
use Rattle.reg_notify.proofs.HandedOut.{may-hand, fires}
use Rattle.reg_notify.proofs.Reasons.{fire-why}
use Rattle.reg_notify.proofs.watches.Watches.fire.Goals as goal

pub end_all-requires : goal.end_all-requires
end_all-requires c = let settled = c.self.invariant.settled in settled.ready

pub hand_out-requires-clause-ready : goal.hand_out-requires-clause-ready
hand_out-requires-clause-ready c = let ends = c.end_all.ensures in ends.ready

pub hand_out-requires-clause-few : goal.hand_out-requires-clause-few
hand_out-requires-clause-few c = may-hand c.args.by _ c.self.inside.table c.end_all.new.self c.self.invariant.settled c.end_all.ensures

pub returns : goal.returns
returns c =
    let x = ending_by c.args.events.items c.args.removed c.args.by in
    let why = then_why (if_passes (is_gone c.args.removed) Gone) (if_passes (any_event c.args.events.items) Matched) in
    subst (λ (t : Table). Fires x t (shown c.hand_out.new.self)) c.self.view_is
    (fires x why c.self.inside.table c.end_all.new.self c.hand_out.new.self c.self.invariant.settled c.hand_out.ensures.settled
    (each _ (fire-why c.args.events.items c.args.removed c.args.by
    (recursion_from_All (λ x. x.bits ≤ EVENTS) c.args.events.items c.requires.kinds)) c.self.inside.table.rows.entries)
    c.end_all.ensures c.hand_out.ensures.rows c.hand_out.ensures.told c.hand_out.ensures.taken)
