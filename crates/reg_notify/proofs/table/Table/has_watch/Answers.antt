use Rattle.std.proofs.Common.{◌≡◌, true, None, List, ℕ, sym, ◌∙◌, subst}
use Rattle.reg_model.specs.Internal.TextNumbers.{goes_on, number_at}
use Rattle.reg_notify.proofs.HitSteps.{if-none}
use Rattle.reg_notify.proofs.table.Table.has_watch.Goals as goal

pub returns-clause-none : goal.returns-clause-none
returns-clause-none c = λ none.
    subst (λ l. (other : List ℕ) → goes_on l other ≡ true → number_at c.args.self.now.places.by_text.entries other ≡ None) c.append_byte.ensures.text
    (if-none c.first_past.result _ c.first_past.ensures.none (sym c.is_some-found.ensures ∙ none))
