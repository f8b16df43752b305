use Rattle.std.proofs.Common.{sym, ap, ◌∙◌}
use Rattle.std.specs.Option.{option_or}
use Rattle.reg_security.specs.Internal.MapEntries.{found_for}
use Rattle.reg_security.proofs.TableCells.{cell-found}
use Rattle.reg_security.proofs.cells.CellMap.find.Goals as goal

pub returns-in-Some : goal.returns-in-Some
returns-in-Some c =
    sym (cell-found c.self.inside.by_hash c.self.inside.others.entries c.args.self.now c.args.descriptor.now c.self.view_is ∙
    ap (λ o. option_or o (found_for c.self.inside.others.entries c.args.descriptor.now)) (sym c.find.ensures ∙ c.in-Some.is))

pub returns-in-Some-get : goal.returns-in-Some-get
returns-in-Some-get c =
    sym (cell-found c.self.inside.by_hash c.self.inside.others.entries c.args.self.now c.args.descriptor.now c.self.view_is ∙
    ap (λ o. option_or o (found_for c.self.inside.others.entries c.args.descriptor.now)) (sym c.find.ensures ∙ c.in-None.is) ∙
    sym c.in-Some-get.ensures.value)

pub returns-in-None-get : goal.returns-in-None-get
returns-in-None-get c =
    sym (cell-found c.self.inside.by_hash c.self.inside.others.entries c.args.self.now c.args.descriptor.now c.self.view_is ∙
    ap (λ o. option_or o (found_for c.self.inside.others.entries c.args.descriptor.now)) (sym c.find.ensures ∙ c.in-None.is) ∙
    sym c.in-None-get.ensures.value)
