use Rattle.std.proofs.Common.{arith, inr}
use Rattle.reg_arena.specs.NewCells.{offsets_of}
use Rattle.reg_arena.proofs.Carving.BinGrowth.{grows_by_bin, keeps_by_bin}
use Rattle.reg_arena.proofs.Carving.ReservedRoom.{reserved-room}
use Rattle.reg_arena.proofs.Carving.CarvedCells.{adds_cells_in_bin}
use Rattle.reg_arena.proofs.Carving.SmallestFits.{smallest_in_bin}
use Rattle.reg_arena.proofs.carve.carve_blank.Goals as goal

pub cut_front-requires-clause-lacks : goal.cut_front-requires-clause-lacks
cut_front-requires-clause-lacks c =
    (c.add_bin-fit.ensures.added _ c.args.total c.requires.arena (reserved-room _ _ _ c.requires.reserved) c.requires.blank.least c.requires.positive).lacks

pub cut_front-requires-clause-fits : goal.cut_front-requires-clause-fits
cut_front-requires-clause-fits c = omega (arith, c.add_bin-fit.ensures.size, c.requires.blank.least.holds)

pub cut_front-requires-clause-split : goal.cut_front-requires-clause-split
cut_front-requires-clause-split c = c.add_bin-fit.ensures.split c.requires.arena.arena c.requires.split

pub add_bin-fit-requires-clause-some : goal.add_bin-fit-requires-clause-some
add_bin-fit-requires-clause-some c = omega (arith, c.requires.blank.least.holds, c.requires.blank.least.pages, c.requires.positive)

pub returns-clause-carves : goal.returns-clause-carves
returns-clause-carves c =
    let added = c.add_bin-fit.ensures.added _ c.args.total c.requires.arena (reserved-room _ _ _ c.requires.reserved) c.requires.blank.least c.requires.positive in (
      offsets_of c.add_bin-fit.result.cell c.args.sizes.now,
      c.cut_front.ensures.out,
      record {
        mid = _;
        room = inr (rw c.requires.total at c.requires.none, rw c.requires.total at added.appends);
        carves = c.cut_front.ensures.carves;
        smallest = smallest_in_bin _ _ _ _ _ (rw c.requires.total at c.requires.none) (rw c.requires.total at added.appends) c.cut_front.ensures.carves;
      },
      adds_cells_in_bin c.requires.sizes added.appends c.cut_front.ensures.carves,
    )

pub returns-clause-grows : goal.returns-clause-grows
returns-clause-grows c =
    let added = c.add_bin-fit.ensures.added _ c.args.total c.requires.arena (reserved-room _ _ _ c.requires.reserved) c.requires.blank.least c.requires.positive in
    grows_by_bin c.requires.total added.appends c.cut_front.ensures.carves

pub returns-clause-kept : goal.returns-clause-kept
returns-clause-kept c =
    let added = c.add_bin-fit.ensures.added _ c.args.total c.requires.arena (reserved-room _ _ _ c.requires.reserved) c.requires.blank.least c.requires.positive in
    keeps_by_bin added.appends c.cut_front.ensures.carves
