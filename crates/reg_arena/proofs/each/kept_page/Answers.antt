use Rattle.reg_arena.proofs.Carving.KeptPages.{fewer_kept}
use Rattle.reg_arena.proofs.each.kept_page.Goals as goal

pub returns-in_err-memory-clause-pages : goal.returns-in_err-memory-clause-pages
returns-in_err-memory-clause-pages c = fewer_kept _ _ _ c.in_ok-pop.ensures.items

pub returns-then-capacity-clause-pages : goal.returns-then-capacity-clause-pages
returns-then-capacity-clause-pages c = fewer_kept _ _ _ c.in_ok-pop.ensures.items

pub returns-clause-pages : goal.returns-clause-pages
returns-clause-pages c = fewer_kept _ _ _ c.in_ok-pop.ensures.items
