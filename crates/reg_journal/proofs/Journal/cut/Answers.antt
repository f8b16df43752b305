use Rattle.std.proofs.Common.{◌+◌, ◌≤◌, length, ap, arith, subst, sym, vec_items}
use Rattle.reg_model.specs.declared.limits.TheConstants.{NUMBERS_LIMIT}
use Rattle.reg_journal.specs.Kept.{Kept}
use Rattle.reg_journal.proofs.Book.{book_cut}
use Rattle.reg_journal.proofs.Journal.cut.Goals as goal

pub invariant_of-self : goal.invariant_of-self
invariant_of-self c =
    let small = subst (λ (k : Kept). k.base + length k.entries ≤ NUMBERS_LIMIT) (sym c.self.view_is) c.requires in
    book_cut c.self.inside.base c.self.inside.noted.value.items c.self.inside.rows.items c.self.inside.entries.items (c.self.inside.base + c.len-count.result)
    c.of.result.value.items c.new.result.items c.self.invariant small (omega arith) (ap vec_items c.of.ensures) c.new.ensures.items
