use Rattle.std.proofs.Common.{◌∙◌, ap, sym, ◌+◌}
use Rattle.reg_heap.specs.ByteWords.{splice}
use Rattle.reg_arena.proofs.Contents.CellCopies.{copied, part}
use Rattle.reg_arena.proofs.Tiling.BinPlaces.{split-kept}
use Rattle.reg_arena.proofs.Tiling.BinParts.{content-part}
use Rattle.reg_arena.proofs.Tiling.ArenaInvariant.{apart, closed, opened}
use Rattle.reg_arena.proofs.arena.Arena.copy.Goals as goal

pub copy-requires-clause-source : goal.copy-requires-clause-source
copy-requires-clause-source c = content-part _ _ c.args.source c.args.from c.args.len (opened _ _ c.self.invariant.0).arena (apart _ _ c.self.invariant.0)
    (rw (← c.self.view_is) at c.requires.source) (rw (← c.self.view_is) at c.requires.within)

pub copy-requires-clause-fits : goal.copy-requires-clause-fits
copy-requires-clause-fits c = content-part _ _ c.args.cell c.args.at c.args.len (opened _ _ c.self.invariant.0).arena (apart _ _ c.self.invariant.0)
    (rw (← c.self.view_is) at c.requires.exists) (rw (← c.self.view_is) at c.requires.fits)

pub invariant_of-self : goal.invariant_of-self
invariant_of-self c =
    let w = copied _ _ _ c.args.source c.args.from c.args.cell c.args.at c.args.len (opened _ _ c.self.invariant.0) (rw (← c.self.view_is) at c.requires.source)
    (rw (← c.self.view_is) at c.requires.exists) (rw (← c.self.view_is) at c.requires.within)
    (rw (← c.self.view_is) at c.requires.fits) c.copy.ensures.items in
    (closed _ _ w.indexed (split-kept _ _ _ _ w.bins c.copy.ensures.parts (apart _ _ c.self.invariant.0)), c.self.invariant.1)

pub returns-clause-written : goal.returns-clause-written
returns-clause-written c = rw (← c.self.view_is) (copied _ _ _ c.args.source c.args.from c.args.cell c.args.at c.args.len (opened _ _ c.self.invariant.0)
    (rw (← c.self.view_is) at c.requires.source) (rw (← c.self.view_is) at c.requires.exists) (rw (← c.self.view_is) at c.requires.within)
    (rw (← c.self.view_is) at c.requires.fits) c.copy.ensures.items).contents

pub returns-clause-cells : goal.returns-clause-cells
returns-clause-cells c = rw (← c.self.view_is) (copied _ _ _ c.args.source c.args.from c.args.cell c.args.at c.args.len (opened _ _ c.self.invariant.0)
    (rw (← c.self.view_is) at c.requires.source) (rw (← c.self.view_is) at c.requires.exists) (rw (← c.self.view_is) at c.requires.within)
    (rw (← c.self.view_is) at c.requires.fits) c.copy.ensures.items).cells

pub returns-clause-writes : goal.returns-clause-writes
returns-clause-writes c = rw (← c.self.view_is) (copied _ _ _ c.args.source c.args.from c.args.cell c.args.at c.args.len (opened _ _ c.self.invariant.0)
    (rw (← c.self.view_is) at c.requires.source) (rw (← c.self.view_is) at c.requires.exists) (rw (← c.self.view_is) at c.requires.within)
    (rw (← c.self.view_is) at c.requires.fits) c.copy.ensures.items).writes

pub returns-clause-bytes : goal.returns-clause-bytes
returns-clause-bytes c = rw (← c.self.view_is) (c.copy.ensures.items ∙ ap (λ piece. splice (c.args.cell + 4 + c.args.at) piece c.self.inside.bins.items)
    (sym (part _ c.args.source c.args.from c.args.len (opened _ _ c.self.invariant.0).arena (rw (← c.self.view_is) at c.requires.source)
    (rw (← c.self.view_is) at c.requires.within))))

pub returns-clause-long : goal.returns-clause-long
returns-clause-long c = rw (← c.self.view_is) (copied _ _ _ c.args.source c.args.from c.args.cell c.args.at c.args.len (opened _ _ c.self.invariant.0)
    (rw (← c.self.view_is) at c.requires.source) (rw (← c.self.view_is) at c.requires.exists) (rw (← c.self.view_is) at c.requires.within)
    (rw (← c.self.view_is) at c.requires.fits) c.copy.ensures.items).long
