use Rattle.std.proofs.Common.{◌≡◌, codes, rules}
use Rattle.std.proofs.lemmas.Result.{IfOk-weaker}
use Rattle.clap.specs.Words.{found_of, rows_of}
use Rattle.reg_words.proofs.AskedNames.{named_so}
use Rattle.reg_words.proofs.asked.looking_asked.Goals as goal

pub returns-then-eq : goal.returns-then-eq
returns-then-eq c =
    let is : c.args.name.now ≡ codes "ls" = search rules in
    IfOk-weaker c.list_asked.result _ _ (λ r h. named_so c.args.name.now (codes "ls") (rows_of (found_of c.args.matches.now)) r is h)
    c.list_asked.ensures

pub returns-then-eq-2 : goal.returns-then-eq-2
returns-then-eq-2 c =
    let is : c.args.name.now ≡ codes "get" = search rules in
    IfOk-weaker c.get_asked.result _ _ (λ r h. named_so c.args.name.now (codes "get") (rows_of (found_of c.args.matches.now)) r is h)
    c.get_asked.ensures

pub returns-then-eq-3 : goal.returns-then-eq-3
returns-then-eq-3 c =
    named_so c.args.name.now (codes "find") (rows_of (found_of c.args.matches.now)) c.find_asked.result (search rules) c.find_asked.ensures

pub telling_asked-requires : goal.telling_asked-requires
telling_asked-requires c = record {
  no_stream = c.requires;
  no_ls_word = λ e. search (rules, e);
  no_get_word = λ e. search (rules, e);
  no_find_word = λ e. search (rules, e);
}
