use Rattle.std.proofs.Common.{◌∙◌, ap, codes, rules, sym}
use Rattle.std.specs.Prelude.{Some}
use Rattle.clap.specs.Words.{found_of}
use Rattle.reg_words.proofs.AskedWords.{first_is}
use Rattle.reg_words.proofs.forms.form_of.Goals as goal

pub returns-then-eq : goal.returns-then-eq
returns-then-eq c = (
  c.requires ∙ ap Some (search rules),
  c.is_set-is_utf8.ensures,
  sym (first_is (found_of c.args.matches.now) (codes "prefix") _ c.get_str-prefix.ensures),
)

pub table_asked-requires-clause-table : goal.table_asked-requires-clause-table
table_asked-requires-clause-table c = λ e. search (rules, e)
