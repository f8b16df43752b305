use Rattle.std.proofs.Common.{inl}
use Rattle.clap.specs.Words.{found_of, rows_of}
use Rattle.reg_words.proofs.AskedNothing.{no_copy}
use Rattle.reg_words.proofs.AskedWords.{looked_at, not_looked_at}
use Rattle.reg_words.proofs.changes.copy_asked.Goals as goal

pub copy_from-requires : goal.copy_from-requires
copy_from-requires c = looked_at _ _ c.hive_asked.result c.in-Some.source c.in-Some.is c.hive_asked.ensures

pub returns-in-None : goal.returns-in-None
returns-in-None c = no_copy (rows_of (found_of c.args.matches.now)) (inl (not_looked_at _ _ c.hive_asked.result c.in-None.is c.hive_asked.ensures))
