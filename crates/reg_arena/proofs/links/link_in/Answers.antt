use Rattle.std.proofs.Common.{arith, ap, ◌∙◌, length}
use Rattle.reg_arena.proofs.FreeList.LinkWords.{length-linked}
use Rattle.reg_arena.proofs.links.link_in.Goals as goal

pub put_free-requires : goal.put_free-requires
put_free-requires c =
    let long = ap length c.set_link.ensures.bytes ∙ length-linked c.args.previous c.args.cell c.args.bins.now.items c.requires.previous in
    omega (arith, long, c.requires.cell)
