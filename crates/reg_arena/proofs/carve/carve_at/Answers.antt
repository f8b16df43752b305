use Rattle.std.proofs.Common.{arith}
use Rattle.reg_arena.proofs.Carving.CarveWhole.{lacking, carves-before}
use Rattle.reg_arena.proofs.Tiling.BinPlaces.{places-same, split-kept}
use Rattle.reg_arena.proofs.carve.carve_at.Goals as goal

pub remove-requires : goal.remove-requires
remove-requires c = let i = c.requires.fit.indexed in record { sizes = _; listed = i.listed; there = c.requires.fit.fit_is.free }

pub cut_front-requires-clause-lacks : goal.cut_front-requires-clause-lacks
cut_front-requires-clause-lacks c =
    let i = c.requires.fit.indexed in
    let f = c.requires.fit.fit_is in
    (lacking _ _ _ _ _ _ i f.free (omega (arith, f.fits, c.requires.positive)) (c.remove.ensures.drops _ i.listed f.free)).1

pub cut_front-requires-clause-fits : goal.cut_front-requires-clause-fits
cut_front-requires-clause-fits c = c.requires.fit.fit_is.fits

pub returns-clause-carves : goal.returns-clause-carves
returns-clause-carves c =
    let i = c.requires.fit.indexed in
    let f = c.requires.fit.fit_is in
    let r = (lacking _ _ _ _ _ _ i f.free (omega (arith, f.fits, c.requires.positive)) (c.remove.ensures.drops _ i.listed f.free)).0 in
    carves-before _ _ _ i.arena _ _ r c.cut_front.ensures.carves

pub cut_front-requires-clause-split : goal.cut_front-requires-clause-split
cut_front-requires-clause-split c =
    let i = c.requires.fit.indexed in
    let f = c.requires.fit.fit_is in
    let r = (lacking _ _ _ _ _ _ i f.free (omega (arith, f.fits, c.requires.positive)) (c.remove.ensures.drops _ i.listed f.free)).0 in
    split-kept _ _ _ _ (places-same _ _ i.arena.layout i.arena.tiled r.tiled) c.remove.ensures.parts c.requires.split
