use Rattle.reg_model.proofs.LegalJournals.{all-stand}
use Rattle.reg_model.proofs.laws.handles_lead_to_keys.Goals as goal

pub returns : goal.returns
returns c = all-stand
