use Rattle.std.proofs.Common.{◌≡◌, codes, rules}
use Rattle.std.proofs.lemmas.Result.{IfOk-weaker}
use Rattle.clap.specs.Words.{found_of, rows_of}
use Rattle.reg_words.proofs.AskedNames.{named_so}
use Rattle.reg_words.proofs.asked.telling_asked.Goals as goal

pub returns-then-eq : goal.returns-then-eq
returns-then-eq c =
    let is : c.args.name.now ≡ codes "diff" = search rules in
    IfOk-weaker c.diff_asked.result _ _ (λ r h. named_so c.args.name.now (codes "diff") (rows_of (found_of c.args.matches.now)) r is h)
    c.diff_asked.ensures

pub returns-then-eq-2 : goal.returns-then-eq-2
returns-then-eq-2 c =
    let is : c.args.name.now ≡ codes "export" = search rules in
    IfOk-weaker c.export_asked.result _ _ (λ r h. named_so c.args.name.now (codes "export") (rows_of (found_of c.args.matches.now)) r is h)
    c.export_asked.ensures

pub returns-then-eq-3 : goal.returns-then-eq-3
returns-then-eq-3 c =
    let is : c.args.name.now ≡ codes "timeline" = search rules in
    IfOk-weaker c.timeline_asked.result _ _ (λ r h. named_so c.args.name.now (codes "timeline") (rows_of (found_of c.args.matches.now)) r is h)
    c.timeline_asked.ensures

pub other_asked-requires : goal.other_asked-requires
other_asked-requires c = record {
  no_look = c.requires;
  no_diff_word = λ e. search (rules, e);
  no_export_word = λ e. search (rules, e);
  no_timeline_word = λ e. search (rules, e);
}
