use Rattle.std.proofs.Common.{◌∙◌, sym, ap, Some}
use Rattle.reg_records.specs.SubkeyLists.{entries_as}
use Rattle.reg_records.proofs.SubkeyListReading.{short-read, short-fault, unsigned-read, unsigned-fault, over-read, over-fault, is-read, no-fault}
use Rattle.reg_records.proofs.lists.read_list.Goals as goal

pub returns-then-content-lt-HEAD-clause-read : goal.returns-then-content-lt-HEAD-clause-read
returns-then-content-lt-HEAD-clause-read c = short-read c.args.content.now c.if-content-lt-HEAD.true

pub returns-then-content-lt-HEAD-clause-fault : goal.returns-then-content-lt-HEAD-clause-fault
returns-then-content-lt-HEAD-clause-fault c = short-fault c.args.content.now c.if-content-lt-HEAD.true

pub returns-in_default-clause-read : goal.returns-in_default-clause-read
returns-in_default-clause-read c = unsigned-read c.args.content.now c.if-content-lt-HEAD.false (sym c.form_at.ensures ∙ c.in_default.is)

pub returns-in_default-clause-fault : goal.returns-in_default-clause-fault
returns-in_default-clause-fault c = unsigned-fault c.args.content.now c.if-content-lt-HEAD.false (sym c.form_at.ensures ∙ c.in_default.is)

pub returns-then-content-entry_size-clause-read : goal.returns-then-content-entry_size-clause-read
returns-then-content-entry_size-clause-read c =
    over-read c.args.content.now c.if-content-lt-HEAD.false c.in-Some.form (sym c.in-Some.ensures) _ _ (c.from.ensures ∙ c.half_at-count.ensures) c.entry_size.ensures c.if-content-entry_size.true

pub returns-then-content-entry_size-clause-fault : goal.returns-then-content-entry_size-clause-fault
returns-then-content-entry_size-clause-fault c =
    over-fault c.args.content.now c.if-content-lt-HEAD.false c.in-Some.form (sym c.in-Some.ensures) _ _ (c.from.ensures ∙ c.half_at-count.ensures) c.entry_size.ensures c.if-content-entry_size.true

pub returns-clause-read : goal.returns-clause-read
returns-clause-read c =
    is-read c.args.content.now c.if-content-lt-HEAD.false c.in-Some.form (sym c.in-Some.ensures) _ _ (c.from.ensures ∙ c.half_at-count.ensures) c.entry_size.ensures c.if-content-entry_size.false
    ∙ ap (λ n. Some (record { form = c.in-Some.form; entries = entries_as c.in-Some.form n 4 c.args.content.now })) c.from.ensures

pub returns-clause-fault : goal.returns-clause-fault
returns-clause-fault c =
    no-fault c.args.content.now c.if-content-lt-HEAD.false c.in-Some.form (sym c.in-Some.ensures) _ _ (c.from.ensures ∙ c.half_at-count.ensures) c.entry_size.ensures c.if-content-entry_size.false
