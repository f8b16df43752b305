use Rattle.std.proofs.Common.{sym, ◌∙◌}
use Rattle.reg_dotreg_reader.proofs.ValueRows.{cut_more, cut_at, cut_end}
use Rattle.reg_dotreg_reader.proofs.rows.cut.Goals as goal

pub returns-then-begins_comment-clause-kept : goal.returns-then-begins_comment-clause-kept
returns-then-begins_comment-clause-kept c =
    (cut_at _ c.args.row.now c.loop-end.at c.loop-end.end c.loop-end.invariant c.loop-end-test.true
    (sym c.begins_comment.ensures ∙ c.if-begins_comment.true)).0

pub returns-then-begins_comment-clause-place : goal.returns-then-begins_comment-clause-place
returns-then-begins_comment-clause-place c =
    (cut_at _ c.args.row.now c.loop-end.at c.loop-end.end c.loop-end.invariant c.loop-end-test.true
    (sym c.begins_comment.ensures ∙ c.if-begins_comment.true)).1

pub loop-end-preserved : goal.loop-end-preserved
loop-end-preserved c =
    cut_more _ c.args.row.now c.loop-end.at c.behind-at.result c.loop-end.end c.loop-end.invariant c.loop-end-test.true
    (sym c.begins_comment.ensures ∙ c.if-begins_comment.false) c.behind-at.ensures

pub returns-clause-kept : goal.returns-clause-kept
returns-clause-kept c = (cut_end _ c.args.row.now c.loop-end.at c.loop-end.end c.loop-end.invariant c.loop-end-test.false).0

pub returns-clause-place : goal.returns-clause-place
returns-clause-place c = (cut_end _ c.args.row.now c.loop-end.at c.loop-end.end c.loop-end.invariant c.loop-end-test.false).1
