use Rattle.reg_model.proofs.LegalJournals.{handles-below, handles-rise}
use Rattle.reg_model.proofs.laws.handle_numbers_rise.Goals as goal

pub returns-clause-below : goal.returns-clause-below
returns-clause-below c = handles-below

pub returns-clause-rise : goal.returns-clause-rise
returns-clause-rise c = handles-rise
