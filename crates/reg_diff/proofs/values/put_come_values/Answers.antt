use Rattle.std.proofs.Common.{arith, ap, ◌∙◌}
use Rattle.std.specs.Prelude.{flat_map}
use Rattle.std.proofs.lemmas.List.{drop_all}
use Rattle.reg_heap.specs.Edits.{values_at}
use Rattle.reg_heap.specs.Paths.{Member}
use Rattle.reg_tree_text.proofs.SentTexts.{swapped, ends, stops_full, exits}
use Rattle.reg_tree_text.proofs.LineTexts.{next_value}
use Rattle.reg_diff.specs.Differences.{come_line}
use Rattle.reg_diff.specs.Internal.Parts.{is_nothing}
use Rattle.reg_diff.proofs.ReadValues.{line-next, quiet-next, quiet-all}
use Rattle.reg_diff.proofs.values.put_come_values.Goals as goal

pub returns-in_err-is-clause-puts : goal.returns-in_err-is-clause-puts
returns-in_err-is-clause-puts g c =
    λ p q at there begin whole left s.
    exits _ _ _ _ c.from_residual.ensures.1 (stops_full begin _ whole _ _ _ ((c.loop-index.invariant p q at there).1 begin whole left s))

pub returns-in_err-is_quiet-clause-puts : goal.returns-in_err-is_quiet-clause-puts
returns-in_err-is_quiet-clause-puts g c =
    λ p q at there begin whole left s.
    (let e = c.values-index-end.ensures q there in
    let n = next_value (values_at c.args.new.now.tree q) c.loop-index.index (omega (arith, e)) in
    exits _ _ _ _ c.from_residual-in_err-is_quiet.ensures.1
    (c.in_err-is_quiet.ensures.puts p at begin whole _
    (swapped begin _ whole _ _ _ _ _
    (line-next (come_line c.args.path.now (values_at c.args.old.now.tree p))
    (values_at c.args.new.now.tree q) c.loop-index.index begin _ whole left _ _ n.0 n.2
    ((c.loop-index.invariant p q at there).1 begin whole left s))
    (ap (come_line c.args.path.now (values_at c.args.old.now.tree p)) (c.in_ok-is.ensures q there n.0 n.1)))))

pub loop-index-preserved : goal.loop-index-preserved
loop-index-preserved g c =
    λ p q at there.
    (let e = c.values-index-end.ensures q there in
    let n = next_value (values_at c.args.new.now.tree q) c.loop-index.index (omega (arith, e)) in
    let v = c.loop-index.invariant p q at there in (
      quiet-next (come_line c.args.path.now (values_at c.args.old.now.tree p)) (values_at c.args.new.now.tree q) c.loop-index.index n.0 _ _ n.2 v.0
          (c.in_ok-is_quiet.ensures.quiet p at ∙ ap (λ (m : Member). is_nothing
          (come_line c.args.path.now (values_at c.args.old.now.tree p) m)) (c.in_ok-is.ensures q there n.0 n.1)),
      λ begin whole left s.
          c.in_ok-is_quiet.ensures.puts p at begin whole _
          (swapped begin _ whole _ _ _ _ _
          (line-next (come_line c.args.path.now (values_at c.args.old.now.tree p))
          (values_at c.args.new.now.tree q) c.loop-index.index begin _ whole left _ _ n.0 n.2 (v.1 begin whole left s))
          (ap (come_line c.args.path.now (values_at c.args.old.now.tree p)) (c.in_ok-is.ensures q there n.0 n.1))),
    ))

pub returns-clause-puts : goal.returns-clause-puts
returns-clause-puts g c =
    λ p q at there begin whole left s.
    (let e = c.values-index-end.ensures q there in
    ends begin _ whole _ left _ _ ((c.loop-index.invariant p q at there).1 begin whole left s)
    (ap (flat_map (come_line c.args.path.now (values_at c.args.old.now.tree p)))
    (drop_all c.loop-index.index (values_at c.args.new.now.tree q) (omega (arith, e)))))

pub returns-clause-quiet : goal.returns-clause-quiet
returns-clause-quiet g c =
    λ p q at there.
    (let e = c.values-index-end.ensures q there in
    quiet-all (come_line c.args.path.now (values_at c.args.old.now.tree p)) (values_at c.args.new.now.tree q) c.loop-index.index _
    (omega (arith, e)) (c.loop-index.invariant p q at there).0)
