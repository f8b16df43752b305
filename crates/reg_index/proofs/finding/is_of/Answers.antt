use Rattle.std.proofs.Common.{◌≡◌, ◌↔◌, true, subst}
use Rattle.reg_names.specs.Names.{folded}
use Rattle.reg_index.proofs.KeysByHash.{same-names, other-names}
use Rattle.reg_index.proofs.finding.is_of.Goals as goal

pub returns-then-entry-sought : goal.returns-then-entry-sought
returns-then-entry-sought c =
    let found = c.name_of.result.now in
    subst (λ n. (c.eq.result ≡ true) ↔ (folded n ≡ folded c.args.name.now)) c.name_of.ensures (same-names found c.args.name.now c.eq.result c.order.result c.order.ensures c.eq.ensures)

pub returns-else-entry-sought : goal.returns-else-entry-sought
returns-else-entry-sought c = other-names c.args.entry.hint c.args.sought _ c.args.name.now c.if-entry-sought.false c.requires.hint c.requires.sought
