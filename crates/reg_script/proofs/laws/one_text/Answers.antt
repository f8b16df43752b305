use Rattle.reg_script.proofs.OneText.{one_text}
use Rattle.reg_script.proofs.laws.one_text.Goals as goal

pub returns : goal.returns
returns c = one_text
