use Rattle.std.proofs.Common.{List, ℕ, sym, ap, option_map, Bor}
use Rattle.reg_arena.specs.declared.ArenaFault.TheVariants.{Full}
use Rattle.reg_tree.specs.CellSizes.{create_sizes}
use Rattle.reg_tree.proofs.InsertKey.CreatePathEnds.{none_sizes, cells_as, growth_as, room_as}
use Rattle.reg_tree.proofs.make.create_at.Goals as goal

pub make_sharing-requires-clause-reached : goal.make_sharing-requires-clause-reached
make_sharing-requires-clause-reached c = (c.requires.reached.0, c.requires.reached.1, c.requires.reached.2, c.requires.reached.4)

pub returns-in-None-clause-cells : goal.returns-in-None-clause-cells
returns-in-None-clause-cells c = λ from path l same.
    cells_as c.make_sharing.result _ _ _ _ (none_sizes _ _ _ _ _ (ap (option_map (λ (descriptor : Bor (List ℕ)). descriptor.now)) c.in-None.is))
    (c.make_sharing.ensures.cells from path l)

pub returns-in-None-clause-space : goal.returns-in-None-clause-space
returns-in-None-clause-space c = λ from path l same.
    room_as Full c.make_sharing.result c.args.arena.now _ _ (none_sizes _ _ _ _ _ (ap (option_map (λ (descriptor : Bor (List ℕ)). descriptor.now)) c.in-None.is))
    (c.make_sharing.ensures.space from path l)

pub returns-in-Some-clause-cells : goal.returns-in-Some-clause-cells
returns-in-Some-clause-cells c = λ from path l same.
    cells_as c.make_described.result _ _ _ _ (ap (create_sizes _ _ _ _) (ap (option_map (λ (descriptor : Bor (List ℕ)). descriptor.now)) (sym c.in-Some.is)))
    (c.make_described.ensures.cells from path l same)

pub returns-in-Some-clause-space : goal.returns-in-Some-clause-space
returns-in-Some-clause-space c = λ from path l same.
    room_as Full c.make_described.result c.args.arena.now _ _ (ap (create_sizes _ _ _ _) (ap (option_map (λ (descriptor : Bor (List ℕ)). descriptor.now)) (sym c.in-Some.is)))
    (c.make_described.ensures.space from path l same)

pub returns-in-None-clause-growth : goal.returns-in-None-clause-growth
returns-in-None-clause-growth c = λ from path l same.
    growth_as c.make_sharing.result _ _ _ _ (none_sizes _ _ _ _ _ (ap (option_map (λ (descriptor : Bor (List ℕ)). descriptor.now)) c.in-None.is))
    (c.make_sharing.ensures.growth from path l)

pub returns-in-Some-clause-growth : goal.returns-in-Some-clause-growth
returns-in-Some-clause-growth c = λ from path l same.
    growth_as c.make_described.result _ _ _ _ (ap (create_sizes _ _ _ _) (ap (option_map (λ (descriptor : Bor (List ℕ)). descriptor.now)) (sym c.in-Some.is)))
    (c.make_described.ensures.growth from path l same)
