use Rattle.reg_values.proofs.ValueListing.ValueListOpening.{no-values}
use Rattle.reg_values.proofs.laws.no_values_are_no_list.Goals as goal

pub returns : goal.returns
returns c = no-values
