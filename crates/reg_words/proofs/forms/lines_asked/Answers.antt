use Rattle.std.proofs.Common.{◌∙◌, sym}
use Rattle.clap.specs.Words.{found_of, rows_of}
use Rattle.reg_words.proofs.AskedForms.{no_encoded, no_lines, unset_so}
use Rattle.reg_words.proofs.forms.lines_asked.Goals as goal

pub returns-then-is_set : goal.returns-then-is_set
returns-then-is_set c = no_encoded (rows_of (found_of c.args.matches.now)) c.requires (c.is_set.ensures.0 c.if-is_set.true)

pub returns-in_ok-path_asked-in-Some : goal.returns-in_ok-path_asked-in-Some
returns-in_ok-path_asked-in-Some c = (
  c.requires,
  c.in_ok-path_asked-in-Some.ensures,
  sym c.ignored_of.ensures ∙ c.in-Some.is,
  unset_so c.is_set.result c.if-is_set.false c.is_set.ensures,
)

pub returns-in-None : goal.returns-in-None
returns-in-None c = no_lines (rows_of (found_of c.args.matches.now)) c.requires (sym c.ignored_of.ensures ∙ c.in-None.is)
