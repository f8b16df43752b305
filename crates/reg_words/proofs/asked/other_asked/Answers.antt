use Rattle.std.proofs.Common.{◌≡◌, codes, rules}
use Rattle.std.proofs.lemmas.Result.{IfOk-weaker}
use Rattle.clap.specs.Words.{found_of, rows_of}
use Rattle.reg_words.proofs.AskedNames.{named_so}
use Rattle.reg_words.proofs.asked.other_asked.Goals as goal

pub returns-then-eq : goal.returns-then-eq
returns-then-eq c =
    named_so c.args.name.now (codes "new") (rows_of (found_of c.args.matches.now)) c.new_asked.result (search rules) c.new_asked.ensures

pub returns-then-eq-2 : goal.returns-then-eq-2
returns-then-eq-2 c =
    named_so c.args.name.now (codes "edit") (rows_of (found_of c.args.matches.now)) c.edit_asked.result (search rules) c.edit_asked.ensures

pub returns-then-eq-3 : goal.returns-then-eq-3
returns-then-eq-3 c =
    named_so c.args.name.now (codes "import") (rows_of (found_of c.args.matches.now)) c.import_asked.result (search rules) c.import_asked.ensures

pub returns-then-eq-4 : goal.returns-then-eq-4
returns-then-eq-4 c =
    let is : c.args.name.now ≡ codes "copy" = search rules in
    IfOk-weaker c.copy_asked.result _ _ (λ r h. named_so c.args.name.now (codes "copy") (rows_of (found_of c.args.matches.now)) r is h)
    c.copy_asked.ensures

pub text_asked-requires : goal.text_asked-requires
text_asked-requires c = record {
  no_query = c.requires;
  no_new_word = λ e. search (rules, e);
  no_edit_word = λ e. search (rules, e);
  no_import_word = λ e. search (rules, e);
  no_copy_word = λ e. search (rules, e);
}
