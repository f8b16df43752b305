use Rattle.std.proofs.Common.{refl}
use Rattle.clap.specs.Words.{found_of, rows_of}
use Rattle.reg_words.proofs.AskedNothing.{dump_streamed}
use Rattle.reg_words.proofs.AskedWords.{looked_at, not_looked_at}
use Rattle.reg_words.proofs.asked.dump_asked.Goals as goal

pub returns-in-Some : goal.returns-in-Some
returns-in-Some c = (refl, looked_at _ _ c.hive_asked.result c.in-Some.hive c.in-Some.is c.hive_asked.ensures)

pub returns-in-None : goal.returns-in-None
returns-in-None c =
    dump_streamed (rows_of (found_of c.args.matches.now)) c.stream_asked.result
    (not_looked_at _ _ c.hive_asked.result c.in-None.is c.hive_asked.ensures)
    c.stream_asked.ensures
