use Rattle.std.proofs.Common.{ℕ, subst}
use Rattle.reg_calls.specs.HiveView.{view_of, noted_of, asks_of}
use Rattle.reg_calls.specs.Rooms.{IsValueRead}
use Rattle.reg_calls.specs.Views.{state}
use Rattle.reg_calls.proofs.SharesOfHives.{seat-found}
use Rattle.reg_calls.proofs.seated.read_value_by.Goals as goal

pub returns : goal.returns
returns g c =
    let hive = c.args.hive.now in
    let found = seat-found (noted_of hive) (view_of hive).journal c.args.shares.now.items c.args.session c.index.result.now
    (c.requires.seated.all c.args.session c.requires.session) c.index.ensures in
    subst (λ (n : ℕ). IsValueRead (asks_of g.C.Callback.answers hive) (state (view_of hive)) n c.args.handle c.args.name c.read_value.result c.args.room.now c.read_value.new.room) found.0
    (c.read_value.ensures.told found.1)
