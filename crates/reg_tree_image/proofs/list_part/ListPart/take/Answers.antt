use Rattle.reg_records.specs.SubkeyLists.{entries_as}
use Rattle.reg_tree_image.proofs.Readers.ListEntries.{dropped, all-taken}
use Rattle.reg_tree_image.proofs.list_part.ListPart.take.Goals as goal

pub returns-then-self-clause-next : goal.returns-then-self-clause-next
returns-then-self-clause-next c = let p = c.args.self.now in all-taken p.form p.count p.taken p.content.now c.if-self.true

pub returns-clause-next : goal.returns-clause-next
returns-clause-next c =
    let p = c.args.self.now in
    (c.entry_at-entry.result.hint, dropped (entries_as p.form p.count 4 p.content.now) p.taken c.entry_at-entry.result (c.entry_at-entry.ensures p.count c.if-self.false))
