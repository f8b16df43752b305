use Rattle.std.proofs.Common.{Global}
use Rattle.std.specs.Cow.{cow_slice_items}
use Rattle.reg_records.specs.KeyValues.{KeyValueRecord}
use Rattle.reg_tree_image.specs.LoadingWalk.{value_name}
use Rattle.reg_tree_image.specs.WalkSteps.{◌>>=◌, give}
use Rattle.reg_tree_image.specs.Internal.NamedRecords.{value_of}
use Rattle.reg_tree_image.proofs.Readers.ReaderSteps.{exit-gives, read-gives}
use Rattle.reg_tree_image.proofs.Readers.FitNames.{value-fit}
use Rattle.reg_tree_image.proofs.values.read_value.Goals as goal

pub returns-in_err-name-in-Ok-clause-gives : goal.returns-in_err-name-in-Ok-clause-gives
returns-in_err-name-in-Ok-clause-gives c =
    let value : KeyValueRecord = record { fields = c.in-Ok.value.fields; name = c.in-Ok.value.name.now } in
    read-gives value_of _ (λ (value : KeyValueRecord). value_name value >>= (λ name. give (value, name))) value _ c.in-Ok.ensures
    (exit-gives (cow_slice_items {Z = Global}) value_of (value_name value) (λ name. give (value, name)) _ _ c.from_residual.ensures.1 c.in_err-name-in-Ok.ensures)

pub returns-in_ok-name-in-Ok-clause-name : goal.returns-in_ok-name-in-Ok-clause-name
returns-in_ok-name-in-Ok-clause-name c =
    value-fit (record { value = c.in-Ok.value; name = c.in_ok-name-in-Ok.name }) c.in_ok-name-in-Ok.ensures
