use Rattle.std.proofs.Common.{arith, ◌∙◌}
use Rattle.reg_arena.proofs.Carving.CarveCuts.{CutTo}
use Rattle.reg_arena.proofs.Carving.CarveWhole.{rest-place, cut-whole, adds-long}
use Rattle.reg_arena.proofs.Tiling.BinPlaces.{split-kept}
use Rattle.reg_arena.proofs.Tiling.BinParts.{free-part}
use Rattle.reg_arena.proofs.carve.cut_front.Goals as goal

pub overflow_add-fit : goal.overflow_add-fit
overflow_add-fit c =
    let r = rest-place _ _ _ _ _ _ c.requires.lacks c.requires.sizes c.requires.total c.requires.fits in
    omega (arith, r.0, r.1, c.requires.fits)

pub insert-requires : goal.insert-requires
insert-requires c =
    let r = rest-place _ _ _ _ _ _ c.requires.lacks c.requires.sizes c.requires.total c.requires.fits in
    record { sizes = _; listed = c.requires.lacks.listed; piece = r.2; free = r.3 }

pub cut-requires-clause-fits : goal.cut-requires-clause-fits
cut-requires-clause-fits c =
    let r = rest-place _ _ _ _ _ _ c.requires.lacks c.requires.sizes c.requires.total c.requires.fits in
    let long = adds-long _ _ _ _ _ _ _ _ c.requires.lacks (c.insert.ensures.adds _ c.requires.lacks.listed r.3) in
    omega (arith, long, r.0, c.requires.fits, c.requires.total)

pub cut-requires-clause-small : goal.cut-requires-clause-small
cut-requires-clause-small c =
    let r = rest-place _ _ _ _ _ _ c.requires.lacks c.requires.sizes c.requires.total c.requires.fits in
    let long = adds-long _ _ _ _ _ _ _ _ c.requires.lacks (c.insert.ensures.adds _ c.requires.lacks.listed r.3) in
    omega (arith, long, r.1)

pub returns-clause-arena : goal.returns-clause-arena
returns-clause-arena c =
    let r = rest-place _ _ _ _ _ _ c.requires.lacks c.requires.sizes c.requires.total c.requires.fits in
    let cut : CutTo c.insert.new.bins.items c.cut.new.bins.items c.args.fit.cell c.args.sizes.now =
    record { region = c.cut.ensures.region; tiles = c.cut.ensures.tiles; zero = c.cut.ensures.zero } in
    (cut-whole _ _ _ _ _ _ _ _ _ c.requires.lacks c.requires.sizes c.requires.total c.requires.positive c.requires.fits (c.insert.ensures.adds _ c.requires.lacks.listed r.3) cut).0

pub returns-clause-carves : goal.returns-clause-carves
returns-clause-carves c =
    let r = rest-place _ _ _ _ _ _ c.requires.lacks c.requires.sizes c.requires.total c.requires.fits in
    let cut : CutTo c.insert.new.bins.items c.cut.new.bins.items c.args.fit.cell c.args.sizes.now =
    record { region = c.cut.ensures.region; tiles = c.cut.ensures.tiles; zero = c.cut.ensures.zero } in
    (cut-whole _ _ _ _ _ _ _ _ _ c.requires.lacks c.requires.sizes c.requires.total c.requires.positive c.requires.fits (c.insert.ensures.adds _ c.requires.lacks.listed r.3) cut).1

pub cut-requires-clause-part : goal.cut-requires-clause-part
cut-requires-clause-part c = rw (c.insert.ensures.parts, ← c.requires.total)
    (free-part _ _ _ _ _ c.requires.lacks c.requires.split c.args.fit.cell c.args.total (omega arith) (omega (arith, c.requires.fits)))

pub returns-clause-split : goal.returns-clause-split
returns-clause-split c =
    let r = rest-place _ _ _ _ _ _ c.requires.lacks c.requires.sizes c.requires.total c.requires.fits in
    let cut : CutTo c.insert.new.bins.items c.cut.new.bins.items c.args.fit.cell c.args.sizes.now =
    record { region = c.cut.ensures.region; tiles = c.cut.ensures.tiles; zero = c.cut.ensures.zero } in
    let whole = cut-whole _ _ _ _ _ _ _ _ _ c.requires.lacks c.requires.sizes c.requires.total c.requires.positive c.requires.fits
    (c.insert.ensures.adds _ c.requires.lacks.listed r.3) cut in
    split-kept _ _ _ _ whole.2 (c.cut.ensures.parts ∙ c.insert.ensures.parts) c.requires.split
