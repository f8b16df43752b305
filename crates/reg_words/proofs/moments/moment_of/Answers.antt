use Rattle.reg_words.proofs.MomentLemmas.{tells, tells_none}
use Rattle.reg_words.proofs.moments.moment_of.Goals as goal

pub returns-in-Some : goal.returns-in-Some
returns-in-Some c =
    tells c.args.text.now c.in_ok-instant.field-0 c.in-Some.instant c.ticks_of.result c.requires c.in_ok-instant.ensures c.in-Some.is
    c.ticks_of.ensures

pub returns-in-None : goal.returns-in-None
returns-in-None c = tells_none c.args.text.now c.in_ok-instant.field-0 c.requires c.in_ok-instant.ensures c.in-None.is
