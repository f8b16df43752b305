use Rattle.std.proofs.Common.{◌∙◌}
use Rattle.reg_dotreg_reader.proofs.WordEnds.{word_next}
use Rattle.reg_dotreg_reader.proofs.words.behind_word.Goals as goal

pub loop-letter-preserved : goal.loop-letter-preserved
loop-letter-preserved c =
    word_next _ c.args.word.now c.loop-letter.rest.now c.in_ok-unit.others.now c.loop-letter.letter-index c.in_ok-unit.unit.now
    c.loop-letter.invariant c.loop-letter-test.true c.in_ok-unit.ensures.cases.0 (c.if-unit-from.false ∙ c.from.ensures)
