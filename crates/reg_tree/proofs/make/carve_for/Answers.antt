use Rattle.std.proofs.Common.{Err, sym, subst, ap, arith, ◌∙◌, ◌≤◌, ◌++◌}
use Rattle.reg_names.specs.Names.{path_of}
use Rattle.reg_arena.specs.EachCell.{GrowsFor}
use Rattle.reg_arena.specs.NewCells.{AreSizes, total_of}
use Rattle.reg_tree.proofs.InsertKey.PathCarve.{plan_told, are-all-sizes, total-with, near-limit, which_fault, lacks_room}
use Rattle.reg_tree.proofs.InsertKey.CarvedCells.{spared}
use Rattle.reg_tree.proofs.make.carve_for.Goals as goal

pub carve_change-requires-clause-sizes : goal.carve_change-requires-clause-sizes
carve_change-requires-clause-sizes c =
    subst AreSizes (sym (c.deref.ensures.value ∙ c.in-Ok.ensures))
    (are-all-sizes _ (path_of c.args.path.now) c.args.class c.args.more (plan_told _ _ c.requires.plan.2 _ _ c.requires.plan.3) c.requires.class c.requires.more)

pub carve_change-requires-clause-total : goal.carve_change-requires-clause-total
carve_change-requires-clause-total c =
    let few = total-with _ c.args.path.now c.args.class c.args.more (plan_told _ _ c.requires.plan.2 _ _ c.requires.plan.3) c.requires.path c.requires.few c.requires.class c.requires.more in
    let same = ap total_of (c.deref.ensures.value ∙ c.in-Ok.ensures) in
    omega (arith, few, same)

pub returns-in-Ok-carve_change-clause-ok : goal.returns-in-Ok-carve_change-clause-ok
returns-in-Ok-carve_change-clause-ok c = λ parent place here plan_is.
    let new = c.in-Ok-carve_change.ensures.ok in
    spared _ _ _ _ here c.args.path.now _ c.args.class c.args.more plan_is c.requires.class c.requires.more _ new.0 _ (c.deref.ensures.value ∙ c.in-Ok.ensures)
    (new.1 ∙ ap (λ front. front ++ new.0) c.new-cells.ensures.items) new.3

pub returns-in-Ok-carve_change-clause-grows : goal.returns-in-Ok-carve_change-clause-grows
returns-in-Ok-carve_change-clause-grows c =
    let few = total-with _ c.args.path.now c.args.class c.args.more (plan_told _ _ c.requires.plan.2 _ _ c.requires.plan.3) c.requires.path c.requires.few c.requires.class c.requires.more in
    let same = ap total_of (c.deref.ensures.value ∙ c.in-Ok.ensures) in
    let grown = c.in-Ok-carve_change.ensures.grows in
    omega (arith, few, same, grown)

pub returns-clause-full : goal.returns-clause-full
returns-clause-full c = λ full.
    let past = (c.in-Err-carve_change.ensures.full.0 (ap (λ f. Err f) (which_fault _ _ full))).1 in
    let few = total-with _ c.args.path.now c.args.class c.args.more (plan_told _ _ c.requires.plan.2 _ _ c.requires.plan.3) c.requires.path c.requires.few c.requires.class c.requires.more in
    near-limit _ _ (subst (λ s. total_of s ≤ 388672) (sym (c.deref.ensures.value ∙ c.in-Ok.ensures)) few) past

pub returns-clause-space : goal.returns-clause-space
returns-clause-space c = λ full.
    let past = c.in-Err-carve_change.ensures.full.0 (ap (λ f. Err f) full) in
    lacks_room c.args.arena.now _ _ (c.deref.ensures.value ∙ c.in-Ok.ensures) past.0 past.1 past.2

pub returns-in-Ok-carve_change-clause-growth : goal.returns-in-Ok-carve_change-clause-growth
returns-in-Ok-carve_change-clause-growth c =
    subst (GrowsFor c.args.arena.now.bytes c.carve_change.new.self.bytes) (c.deref.ensures.value ∙ c.in-Ok.ensures) c.in-Ok-carve_change.ensures.growth
