use Rattle.std.proofs.Common.{ap, sym}
use Rattle.reg_calls.specs.Views.{Booked}
use Rattle.reg_calls.proofs.CutJournals.{few-numbers, kept-cut, is-cut, unhit-cut}
use Rattle.reg_calls.proofs.hive_core.Core.cut.Goals as goal

pub cut-requires : goal.cut-requires
cut-requires c =
    let fields = c.self.inside in
    few-numbers fields.origin.value.tree fields.journal.base fields.told.value.told fields.journal.entries fields.store c.args.self.now.view
    (ap (λ (b : Booked). b.view) c.self.view_is) (sym c.in-None.ensures)

pub invariant_of-self : goal.invariant_of-self
invariant_of-self c =
    let view_is = ap (λ (b : Booked). b.view) c.self.view_is in
    let clear = sym c.in-None.ensures in
    let new = c.cut.new.self in (
      c.self.invariant.0,
      unhit-cut c.self.invariant.2 c.args.self.now.view view_is clear c.root.ensures.tree c.root.ensures.limits c.of.result.value c.of.ensures c.of-2.result.value c.of-2.ensures
          new.base c.cut.ensures.base new.entries c.cut.ensures.entries c.self.inside.quiet c.self.invariant.1,
      kept-cut c.self.invariant.2 c.args.self.now.view view_is clear c.root.ensures.tree c.root.ensures.limits c.of.result.value c.of.ensures c.of-2.result.value c.of-2.ensures
          new.base c.cut.ensures.base new.entries c.cut.ensures.entries new.room,
    )

pub returns-clause-cut : goal.returns-clause-cut
returns-clause-cut c =
    let view_is = ap (λ (b : Booked). b.view) c.self.view_is in
    let clear = sym c.in-None.ensures in
    let new = c.cut.new.self in
    is-cut c.self.invariant.2 c.args.self.now.view view_is clear c.root.ensures.tree c.root.ensures.limits c.of.result.value c.of.ensures c.of-2.result.value c.of-2.ensures
    new.base c.cut.ensures.base new.entries c.cut.ensures.entries
