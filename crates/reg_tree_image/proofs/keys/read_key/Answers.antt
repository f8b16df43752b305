use Rattle.std.proofs.Common.{Global}
use Rattle.std.specs.Cow.{cow_slice_items}
use Rattle.reg_records.specs.KeyNodes.{KeyRecord}
use Rattle.reg_tree_image.specs.LoadingWalk.{key_name}
use Rattle.reg_tree_image.specs.WalkSteps.{◌>>=◌, give}
use Rattle.reg_tree_image.specs.Internal.NamedRecords.{key_of}
use Rattle.reg_tree_image.proofs.Readers.ReaderSteps.{exit-gives, read-gives}
use Rattle.reg_tree_image.proofs.Readers.FitNames.{key-fit}
use Rattle.reg_tree_image.proofs.keys.read_key.Goals as goal

pub returns-in_err-name-in-Ok-clause-gives : goal.returns-in_err-name-in-Ok-clause-gives
returns-in_err-name-in-Ok-clause-gives c =
    let key : KeyRecord = record { fields = c.in-Ok.node.fields; name = c.in-Ok.node.name.now } in
    read-gives key_of _ (λ (key : KeyRecord). key_name key >>= (λ name. give (key, name))) key _ c.in-Ok.ensures
    (exit-gives (cow_slice_items {Z = Global}) key_of (key_name key) (λ name. give (key, name)) _ _ c.from_residual.ensures.1 c.in_err-name-in-Ok.ensures)

pub returns-in_ok-name-in-Ok-clause-fit : goal.returns-in_ok-name-in-Ok-clause-fit
returns-in_ok-name-in-Ok-clause-fit c =
    key-fit c.args.content.now (record { node = c.in-Ok.node; name = c.in_ok-name-in-Ok.name }) c.in-Ok.ensures c.in_ok-name-in-Ok.ensures
