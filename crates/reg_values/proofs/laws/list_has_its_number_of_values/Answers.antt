use Rattle.reg_values.proofs.ValueListing.ValueListOpening.{values-length}
use Rattle.reg_values.proofs.laws.list_has_its_number_of_values.Goals as goal

pub returns : goal.returns
returns c = values-length
