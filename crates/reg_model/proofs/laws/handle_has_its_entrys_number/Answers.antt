use Rattle.reg_model.proofs.LegalJournals.{handle-told, handle-opened}
use Rattle.reg_model.proofs.laws.handle_has_its_entrys_number.Goals as goal

pub returns-clause-told : goal.returns-clause-told
returns-clause-told c = handle-told

pub returns-clause-found : goal.returns-clause-found
returns-clause-found c = handle-opened
