use Rattle.std.proofs.Common.{map}
use Rattle.reg_tree_text.proofs.SentTexts.{opened, exits}
use Rattle.reg_tables.specs.Timelines.{timed, heading, form_lines}
use Rattle.reg_tables.proofs.timeline.put_timeline.Goals as goal

pub returns-in_err-put_heading : goal.returns-in_err-put_heading
returns-in_err-put_heading g c =
    λ begin whole left s.
    exits _ _ _ _ c.from_residual.ensures.1
    (c.in_err-put_heading.ensures begin whole _
    (opened begin _ whole (heading c.args.form) (form_lines c.args.form (map (λ n. n.now) c.args.names.now) (map timed c.args.keys.now)) left _ _ s))

pub returns : goal.returns
returns g c =
    λ begin whole left s.
    c.put_keys.ensures begin whole left
    (c.in_ok-put_heading.ensures begin whole _
    (opened begin _ whole (heading c.args.form) (form_lines c.args.form (map (λ n. n.now) c.args.names.now) (map timed c.args.keys.now)) left _ _ s))
