use Rattle.std.proofs.Common.{◌≡◌, codes, rules}
use Rattle.std.proofs.lemmas.Result.{IfOk-weaker}
use Rattle.clap.specs.Words.{found_of, rows_of}
use Rattle.reg_words.proofs.AskedNames.{named_so}
use Rattle.reg_words.proofs.asked.command_asked.Goals as goal

pub returns-then-eq : goal.returns-then-eq
returns-then-eq c =
    named_so c.args.name.now (codes "run") (rows_of (found_of c.args.matches.now)) c.run_asked.result (search rules) c.run_asked.ensures

pub returns-then-eq-2 : goal.returns-then-eq-2
returns-then-eq-2 c =
    named_so c.args.name.now (codes "dump") (rows_of (found_of c.args.matches.now)) c.dump_asked.result (search rules) c.dump_asked.ensures

pub returns-then-eq-3 : goal.returns-then-eq-3
returns-then-eq-3 c =
    let is : c.args.name.now ≡ codes "check" = search rules in
    IfOk-weaker c.check_asked.result _ _ (λ r h. named_so c.args.name.now (codes "check") (rows_of (found_of c.args.matches.now)) r is h)
    c.check_asked.ensures

pub looking_asked-requires : goal.looking_asked-requires
looking_asked-requires c = record {
  no_run_word = λ e. search (rules, e);
  no_dump_word = λ e. search (rules, e);
  no_check_word = λ e. search (rules, e);
}
