use Rattle.std.proofs.Common.{rules}
use Rattle.reg_model.specs.Callbacks.{change_status}
use Rattle.reg_callbacks.specs.Asking.{asks}
use Rattle.reg_callbacks.specs.Lists.{answers_of}
use Rattle.reg_calls.specs.Internal.Stores.{world_of}
use Rattle.reg_calls.proofs.store.Store.admit.Goals as goal

pub returns-in-Err-admit-9 : goal.returns-in-Err-admit-9
returns-in-Err-admit-9 g c =
    let status = change_status (asks (answers_of g.C.Callback.answers c.args.callbacks.now)) (world_of c.args.self.now) c.args.session c.args.moment c.args.change.now in
    let missing = c.in-Err-admit-9.ensures.refused c.args.end status in
    search (rules, missing)
