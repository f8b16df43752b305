-- Which fault tells what ended a change, or the making of a fresh hive (this project's own).
use Rattle.reg_dotreg_import.specs.declared.fault.ImportFault.{ImportFault}
use Rattle.reg_dotreg_import.specs.declared.fault.ImportFault.TheVariants as call
use Rattle.reg_edits.specs.declared.changing.ChangeEnd.{ChangeEnd}
use Rattle.reg_edits.specs.declared.changing.ChangeEnd.TheVariants as end
use Rattle.reg_edits.specs.declared.edits.FreshFault.{FreshFault}
use Rattle.reg_edits.specs.declared.edits.FreshFault.TheVariants as fresh
use Rattle.reg_edits.specs.declared.hindrances.Hindrance.{Hindrance}
use Rattle.reg_edits.specs.declared.hindrances.Hindrance.TheVariants as hindrance
use Rattle.reg_files.specs.declared.fault.Fault.{Fault}
use Rattle.reg_files.specs.declared.fault.Fault.TheVariants as fault

-- something hindered a change
abbrev pub hindered : Hindrance → Fault
hindered hindrance.NoPath = fault.NoPath
hindered hindrance.NoName = fault.NoName
hindered hindrance.TooLong = fault.TooLong
hindered hindrance.NoKey = fault.NoKey
hindered hindrance.NoParent = fault.NoParent
hindered hindrance.NoValue = fault.NoValue
hindered hindrance.HasSubkeys = fault.HasSubkeys
hindered hindrance.IsRoot = fault.IsRoot

-- a call was refused: with which status, whose line says nothing
abbrev pub call_ended : ImportFault → Fault
call_ended (call.Refused line status) = fault.NoChange status
call_ended call.Memory = fault.Memory

-- whatever ended a change
abbrev pub change_ended : ChangeEnd → Fault
change_ended (end.Load ended) = fault.Load ended
change_ended (end.Hindered why) = hindered why
change_ended (end.Call ended) = call_ended ended
change_ended end.Memory = fault.Memory

-- no fresh hive was made
abbrev pub fresh_ended : FreshFault → Fault
fresh_ended fresh.Name = fault.Name
fresh_ended fresh.Memory = fault.Memory
