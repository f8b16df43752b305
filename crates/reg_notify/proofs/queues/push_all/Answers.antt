use Rattle.std.proofs.Common.{ℕ, ◌≤◌, get_or, ◌∙◌, arith}
use Rattle.std.proofs.lemmas.List.{get_or_default}
use Rattle.reg_model.specs.declared.notice.Reason.TheVariants.{Matched}
use Rattle.reg_notify.specs.declared.queues.Sent.{Sent}
use Rattle.reg_notify.specs.Internal.Queues.{room_at}
use Rattle.reg_notify.proofs.PushSteps.{told-step, some-pending, pending-step, room-there}
use Rattle.reg_notify.proofs.queues.push_all.Goals as goal

abbrev nobody : Sent
nobody = record { session = 0; notice = record { watch = 0; by = 0; reason = Matched } }

pub push_to-requires-clause-pending : goal.push_to-requires-clause-pending
push_to-requires-clause-pending c =
    let xs = c.args.sent.now in
    let i = c.loop-one.one-index in
    let x = get_or xs i nobody in
    some-pending xs i x c.loop-one-test.true (get_or_default xs i nobody x c.loop-one-test.true) _ _ (c.requires.pending x.session)
    (c.loop-one.invariant.pending x.session)

pub push_to-requires-clause-room : goal.push_to-requires-clause-room
push_to-requires-clause-room c =
    let xs = c.args.sent.now in
    let i = c.loop-one.one-index in
    let x = get_or xs i nobody in
    let at = get_or_default xs i nobody x c.loop-one-test.true in
    let held = c.loop-one.invariant in
    room-there xs i x c.loop-one-test.true at c.args.queues.now.items c.loop-one.queues.items c.requires.rooms (held.told x.session) (held.pending x.session)
    (held.rooms x.session)
    (some-pending xs i x c.loop-one-test.true at _ _ (c.requires.pending x.session) (held.pending x.session))

pub loop-one-preserved : goal.loop-one-preserved
loop-one-preserved c =
    let xs = c.args.sent.now in
    let i = c.loop-one.one-index in
    let x = get_or xs i nobody in
    let at = get_or_default xs i nobody x c.loop-one-test.true in
    let held = c.loop-one.invariant in
    let pushed = c.push_to.ensures in
    let room : (s : ℕ) → room_at c.args.queues.now.items s ≤ room_at c.push_to.new.queues.items s = λ s. let a = held.rooms s in let b = pushed.rooms s in omega (arith, a, b) in
    record {
      told = λ s. told-step xs i x c.loop-one-test.true at s _ _ _ (held.told s) (pushed.told s);
      pending = λ s. pending-step xs i x c.loop-one-test.true at s _ _ _ (c.requires.pending s) (held.pending s) (pushed.pending s);
      rooms = room;
      taken = λ s. pushed.taken s ∙ held.taken s;
      len = pushed.len ∙ held.len;
    }
