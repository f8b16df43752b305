use Rattle.std.proofs.Common.{refl}
use Rattle.clap.specs.Words.{found_of, rows_of}
use Rattle.reg_words.proofs.AskedNothing.{no_list}
use Rattle.reg_words.proofs.AskedWords.{looked_at, not_looked_at}
use Rattle.reg_words.proofs.asked.list_asked.Goals as goal

pub returns-in_ok-path_asked-in-Some : goal.returns-in_ok-path_asked-in-Some
returns-in_ok-path_asked-in-Some c = (
  refl,
  looked_at _ _ c.hive_asked.result c.in-Some.hive c.in-Some.is c.hive_asked.ensures,
  c.in_ok-path_asked-in-Some.ensures,
  c.is_set.ensures,
  c.is_set-in-Some.ensures,
  c.columns_asked.ensures,
)

pub returns-in-None : goal.returns-in-None
returns-in-None c =
    no_list (rows_of (found_of c.args.matches.now)) (not_looked_at _ _ c.hive_asked.result c.in-None.is c.hive_asked.ensures)
