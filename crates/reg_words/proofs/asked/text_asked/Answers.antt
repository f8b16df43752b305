use Rattle.std.proofs.Common.{codes, rules}
use Rattle.clap.specs.Words.{found_of, rows_of}
use Rattle.reg_words.proofs.AskedNames.{named_so}
use Rattle.reg_words.proofs.asked.text_asked.Goals as goal

pub returns-then-eq-2 : goal.returns-then-eq-2
returns-then-eq-2 c =
    named_so c.args.name.now (codes "completions") (rows_of (found_of c.args.matches.now)) c.completions_asked.result (search rules)
    c.completions_asked.ensures

pub change_asked-requires : goal.change_asked-requires
change_asked-requires c = record {
  no_save = c.requires;
  no_manual_word = λ e. search (rules, e);
  no_completions_word = λ e. search (rules, e);
  no_version_word = λ e. search (rules, e);
}
