use Rattle.std.proofs.Common.{sym, ◌∙◌}
use Rattle.reg_dotreg_reader.proofs.WordEnds.{name_other}
use Rattle.reg_dotreg_reader.proofs.roots.behind_root.Goals as goal

pub returns-then-folded : goal.returns-then-folded
returns-then-folded c =
    sym (name_other _ c.args.root.now c.loop-letter.rest.now c.in_ok-unit.others.now c.loop-letter.letter-index c.in_ok-unit.unit.now
    c.loop-letter.invariant c.loop-letter-test.true c.in_ok-unit.ensures.cases.0
    (λ e. c.if-folded.true (c.folded.ensures ∙ (e ∙ sym c.folded-in-loop-letter.ensures))))
