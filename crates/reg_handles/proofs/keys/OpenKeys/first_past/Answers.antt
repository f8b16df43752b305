use Rattle.std.proofs.Common.{sym, ◌∙◌}
use Rattle.std.proofs.lemmas.Option.{MatchOption-at_none}
use Rattle.reg_model.proofs.LongerTexts.{none-behind, none-first, one-first}
use Rattle.reg_handles.proofs.keys.OpenKeys.first_past.Goals as goal

pub returns-in-Some-clause-some : goal.returns-in-Some-clause-some
returns-in-Some-clause-some g c =
    one-first c.args.self.now.by_path c.args.start.now c.range-behind.result (c.range-behind.ensures.in_range tt)
    (c.in-Some.text.now, c.in-Some.key.now) c.next.new.self c.in-Some.ensures.steps (sym c.begins.ensures ∙ c.if-begins.true)

pub returns-in_default-clause-none : goal.returns-in_default-clause-none
returns-in_default-clause-none g c =
    none-first c.args.self.now.by_path c.args.start.now c.range-behind.result (c.range-behind.ensures.in_range tt)
    (c.in-Some.text.now, c.in-Some.key.now) c.next.new.self c.in-Some.ensures.steps (sym c.begins.ensures ∙ c.if-begins.false)

pub returns-in_default-2-clause-none : goal.returns-in_default-2-clause-none
returns-in_default-2-clause-none g c =
    none-behind c.args.self.now.by_path c.args.start.now c.range-behind.result (c.range-behind.ensures.in_range tt)
    (MatchOption-at_none _ _ c.in_default.is c.next.ensures.steps).0
