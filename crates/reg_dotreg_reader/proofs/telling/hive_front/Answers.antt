use Rattle.std.proofs.Common.{rules, arith}
use Rattle.reg_dotreg_reader.proofs.ToldTexts.{front_two}
use Rattle.reg_dotreg_reader.proofs.telling.hive_front.Goals as goal

pub returns : goal.returns
returns c =
    front_two c.args.key.now c.name_end-end.result c.name_end-second.result c.has_hives.result c.name_end-end.ensures.end
    (omega (arith, c.if-end-key.false)) c.has_hives.ensures (search rules) c.name_end-second.ensures.end
