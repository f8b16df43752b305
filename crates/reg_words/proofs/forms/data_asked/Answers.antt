use Rattle.std.proofs.Common.{rules}
use Rattle.reg_words.proofs.AskedForms.{unset_so}
use Rattle.reg_words.proofs.forms.data_asked.Goals as goal

pub returns : goal.returns
returns c = (unset_so c.is_set-is_raw.result (search rules) c.is_set-is_raw.ensures, unset_so c.is_set.result (search rules) c.is_set.ensures)
