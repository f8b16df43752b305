use Rattle.std.proofs.Common.{ap, ◌∙◌}
use Rattle.reg_security.specs.Rings.{cell_of}
use Rattle.reg_security.proofs.TableCells.{equal-found}
use Rattle.reg_security.proofs.table.SecurityTable.find_equal.Goals as goal

pub returns-clause-noted : goal.returns-clause-noted
returns-clause-noted c = c.find.ensures ∙ ap (λ t. cell_of t c.args.descriptor.now) c.self.view_is

pub returns-clause-found : goal.returns-clause-found
returns-clause-found c = λ heap ring f. equal-found c.args.self.now heap ring c.args.descriptor.now c.find.result (returns-clause-noted c) f
