use Rattle.std.proofs.Common.{◌++◌}
use Rattle.reg_text.specs.Texts.{escaped}
use Rattle.reg_tree_text.proofs.SentTexts.{opened, swapped, exits}
use Rattle.reg_tables.specs.LongListings.{line_end, line_told}
use Rattle.reg_tables.proofs.long_line.put_line.Goals as goal

pub returns-in_err-put_text : goal.returns-in_err-put_text
unfolding line_told
returns-in_err-put_text g c =
    λ begin whole left s.
    exits _ _ _ _ c.from_residual.ensures.1
    (c.in_err-put_text.ensures begin whole _
    (opened begin _ whole c.args.head.now (escaped c.args.name.now ++ (c.args.about.now ++ line_end c.args.ends_by_zero)) left _ _ s))

pub returns-in_err-put_escaped : goal.returns-in_err-put_escaped
unfolding line_told
returns-in_err-put_escaped g c =
    λ begin whole left s.
    exits _ _ _ _ c.from_residual-in_err-put_escaped.ensures.1
    (c.in_err-put_escaped.ensures begin whole _
    (opened begin _ whole (escaped c.args.name.now) (c.args.about.now ++ line_end c.args.ends_by_zero) left _ _
    (c.in_ok-put_text.ensures begin whole _
    (opened begin _ whole c.args.head.now (escaped c.args.name.now ++ (c.args.about.now ++ line_end c.args.ends_by_zero)) left _ _ s))))

pub returns-in_err-put_text-2 : goal.returns-in_err-put_text-2
unfolding line_told
returns-in_err-put_text-2 g c =
    λ begin whole left s.
    exits _ _ _ _ c.from_residual-in_err-put_text-2.ensures.1
    (c.in_err-put_text-2.ensures begin whole _
    (opened begin _ whole c.args.about.now (line_end c.args.ends_by_zero) left _ _
    (c.in_ok-put_escaped.ensures begin whole _
    (opened begin _ whole (escaped c.args.name.now) (c.args.about.now ++ line_end c.args.ends_by_zero) left _ _
    (c.in_ok-put_text.ensures begin whole _
    (opened begin _ whole c.args.head.now (escaped c.args.name.now ++ (c.args.about.now ++ line_end c.args.ends_by_zero)) left _ _ s))))))

pub returns : goal.returns
unfolding line_told
returns g c =
    λ begin whole left s.
    c.put_text-3.ensures begin whole left
    (swapped begin _ whole _ _ left _ _
    (c.in_ok-put_text-2.ensures begin whole _
    (opened begin _ whole c.args.about.now (line_end c.args.ends_by_zero) left _ _
    (c.in_ok-put_escaped.ensures begin whole _
    (opened begin _ whole (escaped c.args.name.now) (c.args.about.now ++ line_end c.args.ends_by_zero) left _ _
    (c.in_ok-put_text.ensures begin whole _
    (opened begin _ whole c.args.head.now (escaped c.args.name.now ++ (c.args.about.now ++ line_end c.args.ends_by_zero)) left _ _ s))))))
    c.line_end.ensures)
