use Rattle.reg_calls.proofs.KnownKeys.{closed_known}
use Rattle.reg_calls.proofs.StoreAfterChange.{close-has, close-done}
use Rattle.reg_calls.proofs.close.Close.commit.Goals as goal

pub close-requires : goal.close-requires
close-requires c = close-has c.args.end c.args.store.now c.args.session c.requires.ready c.args.self.handle c.requires.clear

pub returns : goal.returns
returns c = λ moment.
    close-done c.args.end c.args.store.now c.args.session c.requires.ready moment c.args.self.handle c.close.new.self c.close.ensures.handles
    c.accepted.result c.accepted.ensures (closed_known c.args.store.now c.requires.ready.known c.close.new.self c.close.ensures.payloads)
