-- What the steps of a command do (this project's own).
use Rattle.std.specs.Prelude.{◌≡◌, ℕ, List, [], Option}
use Rattle.reg_callbacks.specs.Lists.{rows_of}
use Rattle.reg_calls.specs.HiveView.{view_of, callbacks_of}
use Rattle.reg_calls.specs.declared.hive.Hive.{Hive}
use Rattle.reg_script.specs.Lines.{IsFresh}
use Rattle.reg_tree_image.specs.declared.LoadFault.{LoadFault}
use Rattle.reg_command.specs.Failures.{IsCut, IsFront}
use Rattle.reg_command.specs.ImageRuns.{fault_line}
use Rattle.reg_command.specs.declared.failure.Stop.{Stop}
use Rattle.reg_command.specs.declared.failure.Stop.TheVariants.{Script, Load, Write, Memory}
use Rattle.std.specs.Io.KnownBytes.{Appends}

-- a script's hive at first: a fresh one, and no callback is registered on it
pub record IsScriptHive {C : Type 0} (hive : Hive C) : Type 0 where
  pub fresh : IsFresh (view_of hive)
  pub alone : rows_of (callbacks_of hive) ≡ []

-- what ended the sending of a text: a failed write, or want of memory before a byte of it was written
abbrev pub SendStops : List ℕ → Stop → (before after : Option (List ℕ)) → Type 0
SendStops text (Write written) before after = IsCut text written before after
SendStops text Memory before after = after ≡ before
SendStops text (Script fault) before after = ⊥
SendStops text (Load fault) before after = ⊥

-- what ended the telling of a tree: a failed write, or want of memory, when a front was written
abbrev pub TreeTextStops : List ℕ → Stop → (before after : Option (List ℕ)) → Type 0
TreeTextStops text (Write written) before after = IsCut text written before after
TreeTextStops text Memory before after = IsFront text before after
TreeTextStops text (Script fault) before after = ⊥
TreeTextStops text (Load fault) before after = ⊥

-- the line of a load fault was written, or a front of it
abbrev pub IsFaultReported : LoadFault → Stop → (before after : Option (List ℕ)) → Type 0
IsFaultReported fault (Load told) before after = (told ≡ fault) × Appends before after (fault_line fault)
IsFaultReported fault (Write written) before after = IsCut (fault_line fault) written before after
IsFaultReported fault (Script told) before after = ⊥
IsFaultReported fault Memory before after = ⊥
