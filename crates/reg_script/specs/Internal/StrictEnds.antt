-- How a script ended early that may stop at a line that failed (this project's own).
use Rattle.std.specs.Prelude.{◌≡◌, ℕ, ◌⊎◌, Bool, true, List, Option}
use Rattle.std.specs.Io.KnownBytes.{Appends}
use Rattle.reg_model.specs.Callbacks.{Callbacks}
use Rattle.reg_calls.specs.Views.{View}
use Rattle.reg_script.specs.declared.engine.ScriptFault.{ScriptFault}
use Rattle.reg_script.specs.declared.engine.ScriptFault.TheVariants.{Write}
use Rattle.reg_script.specs.declared.failed.FailedLine.{FailedLine}
use Rattle.reg_script.specs.declared.failed.StrictFault.{StrictFault}
use Rattle.reg_script.specs.declared.failed.StrictFault.TheVariants.{Script, Line}
use Rattle.reg_script.specs.LineWords.{lines_of}
use Rattle.reg_script.specs.Stops.{StopsFrom, IsTaken}
use Rattle.reg_script.specs.FailedLines.{HaveFailed, StopsAtLine}

-- by a fault; and where the script stops at a line that failed, none of the lines that were answered failed
abbrev pub StopsIn : ℕ → Bool → ScriptFault → (unread left : Option (List ℕ)) → Callbacks → (old new : View) → (before after : Option (List ℕ)) → Type 0
StopsIn begin strict fault unread left callbacks old new before after =
    (stops : StopsFrom begin fault unread left callbacks old new before after) × (strict ≡ true → HaveFailed 0 (lines_of stops.lines) old new)

-- at a line that failed, by that or by the write of its reply; or by a fault
abbrev pub StopsBy : ℕ → Bool → StrictFault → (unread left : Option (List ℕ)) → Callbacks → (old new : View) → (before after : Option (List ℕ)) → Type 0
StopsBy begin strict (Line failed) unread left callbacks old new before after =
    (strict ≡ true) × StopsAtLine begin failed unread left callbacks old new (λ text. Appends before after text)
StopsBy begin strict (Script fault) unread left callbacks old new before after =
    StopsIn begin strict fault unread left callbacks old new before after
    ⊎ ((strict ≡ true) × (failed : FailedLine) × (written : ℕ) × (fault ≡ Write written)
    × StopsAtLine begin failed unread left callbacks old new (λ text. IsTaken before after text written))
