use Rattle.reg_values.proofs.ValueListing.ToldValues.{named-at}
use Rattle.reg_values.proofs.laws.value_of_a_name_is_at_its_index.Goals as goal

pub returns : goal.returns
returns c = named-at
