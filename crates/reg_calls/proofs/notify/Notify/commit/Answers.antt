use Rattle.reg_calls.proofs.AnnouncedChanges.{target-of}
use Rattle.reg_calls.proofs.StoreAfterChange.{watch-room, watch-target, notify-done}
use Rattle.reg_calls.proofs.notify.Notify.commit.Goals as goal

pub place_of-requires : goal.place_of-requires
place_of-requires c =
    target-of c.args.store.now c.args.session c.args.self.handle
    (watch-target c.args.end c.args.store.now c.args.session c.requires.ready c.args.self.handle c.args.self.filter c.args.self.subtree c.requires.admitted)

pub add-requires-clause-room : goal.add-requires-clause-room
add-requires-clause-room c = watch-room c.args.end c.args.store.now c.args.session c.requires.ready c.args.self.handle c.args.self.filter c.args.self.subtree c.requires.admitted

pub returns-in-Ok-add : goal.returns-in-Ok-add
returns-in-Ok-add c = λ moment a.
    notify-done c.args.end c.args.store.now c.args.session c.requires.ready c.args.self.handle c.args.self.filter c.args.self.subtree a moment
    c.add.new.self c.in-Ok.place c.in-Ok.ensures c.in-Ok-add.ensures.ok c.accepted.result c.accepted.ensures
