use Rattle.std.proofs.Common.{IsSome, refl, sym, subst}
use Rattle.reg_security.proofs.OthersRestored.{copied-none, copied-some}
use Rattle.reg_security.proofs.TableCells.{cell-behind, cell-first, free-here, if-ok, ready-behind, ready-first}
use Rattle.reg_security.proofs.cells.CellMap.expect.Goals as goal

pub returns-in-This-clause-ok : goal.returns-in-This-clause-ok
returns-in-This-clause-ok c = (
  refl,
  cell-first c.self.inside.by_hash c.self.inside.others.entries c.args.self.now c.args.descriptor.now c.self.view_is c.in-This.ensures,
)

pub returns-then-is_some-clause-ok : goal.returns-then-is_some-clause-ok
returns-then-is_some-clause-ok c = (
  refl,
  subst IsSome
      (sym (cell-behind c.self.inside.by_hash c.self.inside.others.entries c.args.self.now c.args.descriptor.now c.self.view_is
      (free-here c.self.inside.by_hash c.args.descriptor.now c.in-Nothing.ensures))) (copied-some c.get.result _ c.get.ensures.value c.if-is_some.ensures),
)

pub returns-in_ok-expect-in-Nothing-clause-ok : goal.returns-in_ok-expect-in-Nothing-clause-ok
returns-in_ok-expect-in-Nothing-clause-ok c =
    ready-first c.args.descriptor.now c.self.inside.by_hash c.expect.new.self c.self.inside.others.entries c.args.self.now c.self.view_is
    (free-here c.self.inside.by_hash c.args.descriptor.now c.in-Nothing.ensures) (copied-none c.get.result _ c.get.ensures.value c.if-is_some.ensures)
    c.in_ok-expect-in-Nothing.ensures.ok

pub returns-in-Another-clause-ok : goal.returns-in-Another-clause-ok
returns-in-Another-clause-ok c =
    if-ok c.expect_among.result
    (λ made r. ready-behind c.args.descriptor.now c.self.inside.by_hash c.self.inside.others.entries c.expect_among.new.others.entries c.args.self.now made
    c.self.view_is c.in-Another.ensures.0 r) c.expect_among.ensures.ok
