use Rattle.std.proofs.Common.{sym, codes, inl, inr}
use Rattle.clap.specs.Words.{found_of, rows_of}
use Rattle.reg_words.specs.CommandLines.{AsksToSave}
use Rattle.reg_words.proofs.AskedWords.{first_is, nothing_found}
use Rattle.reg_words.proofs.AskedNothing.{no_saving}
use Rattle.reg_words.proofs.asked.edit_of.Goals as goal

pub returns-in_err-begin : goal.returns-in_err-begin
returns-in_err-begin c =
    nothing_found (AsksToSave c.args.word.now (rows_of (found_of c.args.matches.now))) c.from_residual.result c.from_residual.ensures
    (no_saving c.args.word.now (rows_of (found_of c.args.matches.now)) (inr (inl c.in_err-begin.ensures)))

pub returns-in_err-wait : goal.returns-in_err-wait
returns-in_err-wait c =
    nothing_found (AsksToSave c.args.word.now (rows_of (found_of c.args.matches.now))) c.from_residual-in_err-wait.result c.from_residual-in_err-wait.ensures
    (no_saving c.args.word.now (rows_of (found_of c.args.matches.now)) (inr (inr c.in_err-wait.ensures)))

pub returns : goal.returns
returns c = record {
  file = c.requires;
  output = sym (first_is (found_of c.args.matches.now) (codes "output") _ c.get_str.ensures);
  begin = c.in_ok-begin.ensures;
  wait = c.in_ok-wait.ensures;
  dry_run = c.is_set.ensures;
}
