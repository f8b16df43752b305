use Rattle.std.proofs.Common.{inl, refl, ℕ, List, ◌++◌, ap, ◌∙◌}
use Rattle.reg_arena.specs.NewCells.{offsets_of}
use Rattle.reg_arena.proofs.Carving.CarvedCells.{adds_cells}
use Rattle.reg_arena.proofs.Carving.SmallestFits.{smallest_found}
use Rattle.reg_arena.proofs.carve.carve_found.Goals as goal

pub returns-clause-ok : goal.returns-clause-ok
returns-clause-ok c = (
  offsets_of c.args.fit.cell c.args.sizes.now,
  c.carve_at.ensures.out ∙ ap (λ (xs : List ℕ). xs ++ offsets_of c.args.fit.cell c.args.sizes.now) c.reserve.ensures.items,
  record {
    mid = _;
    room = inl refl;
    carves = c.carve_at.ensures.carves;
    smallest = smallest_found _ _ _ _ _ _ c.requires.fit c.requires.total c.requires.positive c.carve_at.ensures.carves;
  },
  adds_cells c.requires.sizes c.carve_at.ensures.carves,
)
