use Rattle.reg_security.proofs.TableCells.{none-found}
use Rattle.reg_security.proofs.table.SecurityTable.new.Goals as goal

pub returns-clause-finds : goal.returns-clause-finds
returns-clause-finds c = none-found _ c.new.ensures
