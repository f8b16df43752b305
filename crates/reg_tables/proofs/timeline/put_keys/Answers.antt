use Rattle.std.proofs.Common.{arith, ap, map, List}
use Rattle.std.proofs.lemmas.List.{drop_all}
use Rattle.reg_tree_text.proofs.SentTexts.{ends, exits}
use Rattle.reg_tables.specs.declared.timeline.TimedKey.{TimedKey}
use Rattle.reg_tables.specs.Timelines.{timed, form_lines}
use Rattle.reg_tables.proofs.TimelineTexts.{line_next}
use Rattle.reg_tables.proofs.timeline.put_keys.Goals as goal

pub returns-in_err-put_key : goal.returns-in_err-put_key
returns-in_err-put_key g c =
    λ begin whole left s.
    exits _ _ _ _ c.from_residual.ensures.1
    (c.in_err-put_key.ensures begin whole _
    (line_next begin _ whole c.args.form (map (λ n. n.now) c.args.names.now) c.args.keys.now c.loop-key.key-index _ _ left _ _ (omega arith) c.key-item.is
    c.name_at.ensures (c.loop-key.invariant begin whole left s)))

pub loop-key-preserved : goal.loop-key-preserved
loop-key-preserved g c =
    λ begin whole left s.
    c.in_ok-put_key.ensures begin whole _
    (line_next begin _ whole c.args.form (map (λ n. n.now) c.args.names.now) c.args.keys.now c.loop-key.key-index _ _ left _ _ (omega arith) c.key-item.is
    c.name_at.ensures (c.loop-key.invariant begin whole left s))

pub returns : goal.returns
returns g c =
    λ begin whole left s.
    ends begin _ whole _ left _ _ (c.loop-key.invariant begin whole left s)
    (ap (λ (x : List TimedKey). form_lines c.args.form (map (λ n. n.now) c.args.names.now) (map timed x))
    (drop_all c.loop-key.key-index c.args.keys.now (omega arith)))
