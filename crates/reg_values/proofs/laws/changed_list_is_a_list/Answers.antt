use Rattle.reg_values.proofs.ValueListing.ValueListOpening.{values-again}
use Rattle.reg_values.proofs.laws.changed_list_is_a_list.Goals as goal

pub returns : goal.returns
returns c = values-again
