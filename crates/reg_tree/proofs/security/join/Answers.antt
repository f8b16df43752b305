use Rattle.std.proofs.Common.{sym}
use Rattle.reg_tree.proofs.DescribeKey.SecurityJoined.{joined-new, joined-there, few-users, is-there, new-room, new-sizes}
use Rattle.reg_tree.proofs.InsertKey.MadeCells.{shared_sizes}
use Rattle.reg_tree.proofs.security.join.Goals as goal

pub returns-in-Some-clause-joins : goal.returns-in-Some-clause-joins
returns-in-Some-clause-joins c = λ key d near.
    joined-new c.args.arena.now.bytes key c.args.securities.now c.args.descriptor.now c.args.cell c.in-Some.cell c.args.near c.in-Some.is _ _ c.add.ensures.added d near

pub returns-in-Some-clause-sizes : goal.returns-in-Some-clause-sizes
returns-in-Some-clause-sizes c =
    let here = c.requires.ring in
    new-sizes _ _ c.in-Some.cell c.args.descriptor.now
    (new-room c.args.arena.now.bytes here.0 c.args.securities.now c.args.descriptor.now c.args.cell c.in-Some.cell c.in-Some.is here.1)
    c.add.ensures.beside c.add.ensures.put

pub share-requires-clause-there : goal.share-requires-clause-there
share-requires-clause-there c =
    let here = c.requires.ring in
    is-there c.args.arena.now.bytes here.0 c.args.securities.now c.args.descriptor.now c.in-Some-found.cell
    (sym c.in-Some-found.ensures) c.args.cell c.in_default.is here.1

pub share-requires-clause-few : goal.share-requires-clause-few
share-requires-clause-few c =
    let here = c.requires.ring in
    few-users c.args.arena.now.bytes here.0 c.args.securities.now c.args.descriptor.now c.in-Some-found.cell
    (sym c.in-Some-found.ensures) c.args.cell c.in_default.is here.1

pub returns-clause-joins : goal.returns-clause-joins
returns-clause-joins c = λ key d near.
    joined-there c.args.arena.now.bytes key c.args.securities.now c.args.descriptor.now c.in-Some-found.cell
    (sym c.in-Some-found.ensures) c.args.cell c.in_default.is _ c.share.ensures.recounts c.share.ensures.ring d

pub returns-clause-sizes : goal.returns-clause-sizes
returns-clause-sizes c =
    let here = c.requires.ring in
    shared_sizes _ _ c.in-Some-found.cell _
    (is-there c.args.arena.now.bytes here.0 c.args.securities.now c.args.descriptor.now c.in-Some-found.cell
    (sym c.in-Some-found.ensures) c.args.cell c.in_default.is here.1) c.share.ensures.written
