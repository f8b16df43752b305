use Rattle.std.proofs.Common.{subst}
use Rattle.std.specs.Int.{to_be_bytes, w64}
use Rattle.reg_model.specs.declared.notice.Reason.TheVariants.{Closed}
use Rattle.reg_notify.specs.Asked.{closing_by, Fires}
use Rattle.reg_notify.specs.Tables.{Table}
use Rattle.reg_notify.specs.Internal.Firing.{if_passes}
use Rattle.reg_model.specs.Internal.TextNumbers.{goes_on}
use Rattle.reg_notify.specs.Internal.Rows.{holder_of}
use Rattle.reg_notify.specs.Internal.Settled.{shown}
use Rattle.reg_notify.specs.Internal.States.{Ends}
use Rattle.reg_notify.proofs.HandedOut.{may-hand, fires}
use Rattle.reg_notify.proofs.Reasons.{drop-why}
use Rattle.reg_notify.proofs.Removals.{rows-fit}
use Rattle.reg_notify.proofs.watches.Watches.drop_handle.Goals as goal

pub start_with-requires : goal.start_with-requires
start_with-requires c = c.self.invariant.room

pub end_past_handle-requires : goal.end_past_handle-requires
end_past_handle-requires c = let settled = c.self.invariant.settled in settled.ready

pub hand_out-requires-clause-ready : goal.hand_out-requires-clause-ready
hand_out-requires-clause-ready c = let ends = c.end_past_handle.ensures in ends.ready

pub hand_out-requires-clause-few : goal.hand_out-requires-clause-few
hand_out-requires-clause-few c = may-hand c.args.by _ c.self.inside.table c.end_past_handle.new.self c.self.invariant.settled c.end_past_handle.ensures

pub returns : goal.returns
returns c =
    let t = c.self.inside.table in
    let settled = c.self.invariant.settled in
    let x = closing_by c.args.handle c.args.by in
    let ends = subst (λ s. Ends c.args.by (if_passes (λ e. goes_on s (holder_of e.0 e.1)) Closed) t c.end_past_handle.new.self) c.start_with.ensures.text c.end_past_handle.ensures in
    subst (λ (v : Table). Fires x v (shown c.hand_out.new.self)) c.self.view_is
    (fires x (if_passes (λ e. goes_on (to_be_bytes w64 c.args.handle)
    (holder_of e.0 e.1)) Closed) t c.end_past_handle.new.self c.hand_out.new.self settled c.hand_out.ensures.settled
    (rows-fit _ t settled.ready
    (drop-why c.args.handle c.args.by c.ranges.handle.fits)) ends c.hand_out.ensures.rows c.hand_out.ensures.told c.hand_out.ensures.taken)
