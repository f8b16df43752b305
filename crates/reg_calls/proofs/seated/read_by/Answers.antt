use Rattle.std.proofs.Common.{ℕ, subst}
use Rattle.reg_calls.specs.HiveView.{view_of, noted_of, asks_of}
use Rattle.reg_calls.specs.Views.{IsRead, state}
use Rattle.reg_calls.proofs.SharesOfHives.{seat-found}
use Rattle.reg_calls.proofs.seated.read_by.Goals as goal

pub returns-clause-body : goal.returns-clause-body
returns-clause-body g c =
    let hive = c.args.hive.now in
    let found = seat-found (noted_of hive) (view_of hive).journal c.args.shares.now.items c.args.session c.index.result.now
    (c.requires.seated.all c.args.session c.requires.session) c.index.ensures in
    subst (λ (n : ℕ). IsRead (asks_of g.C.Callback.answers hive) (state (view_of hive)) n c.args.query.now c.read.result.body) found.0 (c.read.ensures.body found.1)
