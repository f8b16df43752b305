use Rattle.std.proofs.lemmas.List.Elements.{same_from_all_zip}
use Rattle.reg_security.proofs.OthersRestored.{fresh, kept}
use Rattle.reg_security.proofs.cells.CellMap.expect_among.Goals as goal

pub returns-in_default-before-clause-ok : goal.returns-in_default-before-clause-ok
returns-in_default-before-clause-ok c =
    fresh c.args.others.now c.insert.new.self c.in_ok-copy.copy c.args.descriptor.now c.in-Ok.before
    (same_from_all_zip _ _ _ c.in_ok-copy.ensures.ok (λ x y e. e)) c.in-Ok.ensures.updates c.in-Ok.ensures.old c.in_default-before.is

pub returns-clause-ok : goal.returns-clause-ok
returns-clause-ok c =
    kept c.args.others.now.entries c.insert.new.self.entries c.set_among.new.others.entries c.in_ok-copy.copy c.args.descriptor.now c.in-Some.held
    c.in-Ok.before (same_from_all_zip _ _ _ c.in_ok-copy.ensures.ok (λ x y e. e)) c.insert.ensures.was_ordered c.in-Ok.ensures.entries
    c.set_among.ensures.written c.in-Ok.ensures.old c.in-Some.is
