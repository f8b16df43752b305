use Rattle.std.proofs.Common.{ap, sym, ◌∙◌}
use Rattle.reg_heap.specs.Edits.{values_at}
use Rattle.reg_tree_text.proofs.SentTexts.{ends, swapped, stops_full, exits}
use Rattle.reg_tree.proofs.ValueChange.ValueAtPlace.{index_within}
use Rattle.reg_diff.specs.declared.side.Side.TheVariants.{Old}
use Rattle.reg_diff.specs.Internal.Parts.{member_of, is_nothing}
use Rattle.reg_diff.proofs.ValueLines.{named-found, gone-said, kept-said, changed-said, line-some, change-some}
use Rattle.reg_diff.proofs.values.put_lost_value.Goals as goal

pub returns-in_err-put_value-clause-puts : goal.returns-in_err-put_value-clause-puts
returns-in_err-put_value-clause-puts g c =
    λ q at begin whole left s.
    exits _ _ _ _ c.from_residual.ensures.1
    (c.in_err-put_value.ensures begin whole left
    (swapped begin _ whole _ _ left _ _ s
    (gone-said c.args.path.now (values_at c.args.new.now.tree q) (member_of c.args.was.now) (sym (c.index_near.ensures q at) ∙ c.in_default.is))))

pub returns-in_default-clause-puts : goal.returns-in_default-clause-puts
returns-in_default-clause-puts g c =
    λ q at begin whole left s.
    c.in_ok-put_value.ensures begin whole left
    (swapped begin _ whole _ _ left _ _ s
    (gone-said c.args.path.now (values_at c.args.new.now.tree q) (member_of c.args.was.now) (sym (c.index_near.ensures q at) ∙ c.in_default.is)))

pub returns-in_default-clause-quiet : goal.returns-in_default-clause-quiet
returns-in_default-clause-quiet g c =
    λ q at.
    line-some Old c.args.path.now (member_of c.args.was.now)
    ∙ ap is_nothing (gone-said c.args.path.now (values_at c.args.new.now.tree q) (member_of c.args.was.now)
    (sym (c.index_near.ensures q at) ∙ c.in_default.is))

pub read_value-requires : goal.read_value-requires
read_value-requires g c =
    (c.requires.0, c.requires.1, index_within _ _ _ (sym (c.index_near.ensures c.requires.0 c.requires.1) ∙ c.in-Some.is))

pub returns-in_err-is-clause-puts : goal.returns-in_err-is-clause-puts
returns-in_err-is-clause-puts g c =
    λ q at begin whole left s. exits _ _ _ _ c.from_residual-in_err-is.ensures.1 (stops_full begin _ whole _ _ _ s)

pub returns-then-is_same-clause-puts : goal.returns-then-is_same-clause-puts
returns-then-is_same-clause-puts g c =
    λ q at begin whole left s.
    (let f = named-found _ (values_at c.args.new.now.tree q) _ (sym (c.index_near.ensures q at) ∙ c.in-Some.is) in
    ends begin _ whole _ left _ _ s
    (kept-said c.args.path.now (values_at c.args.new.now.tree q) (member_of c.args.was.now) f.0 _ f.2 (c.in_ok-is.ensures q at f.0 f.1) _
    c.is_same.ensures c.if-is_same.true))

pub returns-then-is_same-clause-quiet : goal.returns-then-is_same-clause-quiet
returns-then-is_same-clause-quiet g c =
    λ q at.
    (let f = named-found _ (values_at c.args.new.now.tree q) _ (sym (c.index_near.ensures q at) ∙ c.in-Some.is) in
    sym (ap is_nothing
    (kept-said c.args.path.now (values_at c.args.new.now.tree q) (member_of c.args.was.now) f.0 _ f.2 (c.in_ok-is.ensures q at f.0 f.1) _
    c.is_same.ensures c.if-is_same.true)))

pub returns-in_err-put_value_change-clause-puts : goal.returns-in_err-put_value_change-clause-puts
returns-in_err-put_value_change-clause-puts g c =
    λ q at begin whole left s.
    (let f = named-found _ (values_at c.args.new.now.tree q) _ (sym (c.index_near.ensures q at) ∙ c.in-Some.is) in
    exits _ _ _ _ c.from_residual-in_err-put_value_change.ensures.1
    (c.in_err-put_value_change.ensures begin whole left
    (swapped begin _ whole _ _ left _ _ s
    (changed-said c.args.path.now (values_at c.args.new.now.tree q) (member_of c.args.was.now) f.0 _ f.2 (c.in_ok-is.ensures q at f.0 f.1) _
    c.is_same.ensures c.if-is_same.false))))

pub returns-clause-puts : goal.returns-clause-puts
returns-clause-puts g c =
    λ q at begin whole left s.
    (let f = named-found _ (values_at c.args.new.now.tree q) _ (sym (c.index_near.ensures q at) ∙ c.in-Some.is) in
    c.in_ok-put_value_change.ensures begin whole left
    (swapped begin _ whole _ _ left _ _ s
    (changed-said c.args.path.now (values_at c.args.new.now.tree q) (member_of c.args.was.now) f.0 _ f.2 (c.in_ok-is.ensures q at f.0 f.1) _
    c.is_same.ensures c.if-is_same.false)))

pub returns-clause-quiet : goal.returns-clause-quiet
returns-clause-quiet g c =
    λ q at.
    (let f = named-found _ (values_at c.args.new.now.tree q) _ (sym (c.index_near.ensures q at) ∙ c.in-Some.is) in
    change-some c.args.path.now (member_of c.args.was.now) _
    ∙ ap is_nothing (changed-said c.args.path.now (values_at c.args.new.now.tree q) (member_of c.args.was.now) f.0 _ f.2
    (c.in_ok-is.ensures q at f.0 f.1) _ c.is_same.ensures c.if-is_same.false))
