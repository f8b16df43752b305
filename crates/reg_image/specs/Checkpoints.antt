-- Why no checkpoint is made.
use Rattle.std.specs.Prelude.{length, nat_lt, if◌then◌else◌}
use Rattle.reg_model.specs.declared.limits.TheConstants.{NUMBERS_LIMIT}
use Rattle.reg_calls.specs.Views.{View, next_of}
use Rattle.reg_image.specs.declared.checkpoints.CheckpointFault.{CheckpointFault}
use Rattle.reg_image.specs.declared.checkpoints.CheckpointFault.TheVariants.{HandlesOpen, Numbers, Memory}

-- the fault where there is one: so many handles are open, or else the hive has had too many entries, or else there is no memory
abbrev pub fault_of_checkpoint : View → CheckpointFault
fault_of_checkpoint v =
    if nat_lt 0 (length v.handles)
    then HandlesOpen (length v.handles)
    else (if nat_lt NUMBERS_LIMIT (next_of v) then Numbers else Memory)
