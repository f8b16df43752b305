use Rattle.reg_dotreg_reader.proofs.WordEnds.{word_next}
use Rattle.reg_dotreg_reader.proofs.encoding.behind_mark.Goals as goal

pub loop-byte-preserved : goal.loop-byte-preserved
loop-byte-preserved c =
    word_next _ c.args.mark.now c.loop-byte.rest.now c.in_ok-first.others.now c.loop-byte.byte-index c.in_ok-first.first.now
    c.loop-byte.invariant c.loop-byte-test.true c.in_ok-first.ensures.cases.0 c.if-first-byte.false
