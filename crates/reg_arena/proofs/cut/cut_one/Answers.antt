use Rattle.std.proofs.Common.{◌+◌, ◌-◌, arith}
use Rattle.reg_arena.proofs.Carving.CarveCuts.{one-region, one-is, one-zero}
use Rattle.reg_arena.proofs.Tiling.BinParts.{in_part-inside}
use Rattle.reg_arena.proofs.cut.cut_one.Goals as goal

pub zero-requires : goal.zero-requires
zero-requires c = rw c.put_word.ensures.parts
    (in_part-inside c.args.bins.now.parts c.args.at c.args.size (c.args.at + 4) (c.args.size - 4) (omega arith) (omega (arith, c.requires.positive, c.requires.eights)) c.requires.part)

pub returns-clause-region : goal.returns-clause-region
returns-clause-region c = rw (c.zero.ensures.items, c.put_word.ensures.items) (one-region c.args.at c.args.size c.args.bins.now.items (omega arith) c.requires.fits)

pub returns-clause-cell : goal.returns-clause-cell
returns-clause-cell c = rw (c.zero.ensures.items, c.put_word.ensures.items) (one-is c.args.at c.args.size c.args.bins.now.items c.requires.positive c.requires.eights c.requires.fits c.requires.small)

pub returns-clause-zero : goal.returns-clause-zero
returns-clause-zero c = rw (c.zero.ensures.items, c.put_word.ensures.items) (one-zero c.args.at c.args.size c.args.bins.now.items (omega arith) c.requires.fits)
