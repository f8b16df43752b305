use Rattle.std.proofs.Common.{◌∙◌, sym, ap, subst}
use Rattle.reg_tree.specs.TreeKeys.{Keys}
use Rattle.reg_tree_image.proofs.WalkedBack.TakenBins.{whole-carried, same-tree}
use Rattle.reg_tree_image.specs.Loads.{StandAs}
use Rattle.reg_tree_image.proofs.whole.take_whole.Goals as goal

pub adopt-requires-2 : goal.adopt-requires-2
adopt-requires-2 c = whole-carried c.args.bins.items c.in-Ok.arena.bytes c.in-Ok.ensures.cells c.in-Ok.ensures.contents c.args.root c.args.ring.now c.requires.whole

pub returns-in-Ok-adopt-clause-ok : goal.returns-in-Ok-adopt-clause-ok
returns-in-Ok-adopt-clause-ok c =
    ap (λ (k : Keys). k.tree) c.in-Ok-adopt.ensures ∙ same-tree c.args.bins.items c.in-Ok.arena.bytes c.in-Ok.ensures.cells c.in-Ok.ensures.contents c.args.root

pub returns-in-Ok-adopt-clause-stands : goal.returns-in-Ok-adopt-clause-stands
returns-in-Ok-adopt-clause-stands c =
    subst (λ (k : Keys). StandAs k.bins c.args.bins.items) (sym c.in-Ok-adopt.ensures)
    (record { long = c.in-Ok.ensures.long; cells = c.in-Ok.ensures.cells; contents = c.in-Ok.ensures.contents })
