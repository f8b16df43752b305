use Rattle.std.proofs.Common.{inl}
use Rattle.clap.specs.Words.{found_of, rows_of}
use Rattle.reg_words.proofs.AskedNothing.{no_find}
use Rattle.reg_words.proofs.AskedWords.{looked_at, not_looked_at}
use Rattle.reg_words.proofs.asked.find_asked.Goals as goal

pub find_in-requires : goal.find_in-requires
find_in-requires c = looked_at _ _ c.hive_asked.result c.in-Some.hive c.in-Some.is c.hive_asked.ensures

pub returns-in-None : goal.returns-in-None
returns-in-None c =
    no_find (rows_of (found_of c.args.matches.now)) (inl (not_looked_at _ _ c.hive_asked.result c.in-None.is c.hive_asked.ensures))
