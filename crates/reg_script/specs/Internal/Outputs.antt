-- What becomes of the replies on their way to a writer (this project's own).
use Rattle.std.specs.Prelude.{◌≡◌, ℕ, ◌≤◌, ◌⊎◌, List, length, take, Option, Result, Ok, Err}
use Rattle.std.specs.Io.KnownBytes.{Appends}
use Rattle.reg_script.specs.declared.engine.ScriptFault.{ScriptFault}
use Rattle.reg_script.specs.declared.engine.ScriptFault.TheVariants.{Read, Write, TooLong, Memory}
use Rattle.reg_script.specs.declared.failed.StrictFault.{StrictFault}
use Rattle.reg_script.specs.declared.failed.StrictFault.TheVariants.{Script, Line}
use Rattle.reg_script.specs.Stops.{counted}

-- the writer took a front of the text and no more, and the fault counts all that it ever took
pub record IsCut (old new : Option (List ℕ)) (text : List ℕ) (before : ℕ) (fault : ScriptFault) : Type 0 where
  pub count : ℕ
  pub within : count ≤ length text
  pub sent : Appends old new (take count text)
  pub says : fault ≡ Write (counted before count)

-- all of the text was sent, and what ended before is answered; or the writer took a front of it, and that is the fault
abbrev pub IsSent : Result (Unit {0}) StrictFault → List ℕ → ℕ → Option (List ℕ) → Option (List ℕ) → Result (Unit {0}) StrictFault → Type 0
IsSent ended text before old new result = ((result ≡ ended) × Appends old new text) ⊎
    ((fault : ScriptFault) × (result ≡ Err (Script fault)) × IsCut old new text before fault)

-- once a script has ended so, what was gathered is sent, unless a write has failed before
abbrev pub Closes : Result (Unit {0}) StrictFault → List ℕ → ℕ → Option (List ℕ) → Option (List ℕ) → Result (Unit {0}) StrictFault → Type 0
Closes (Ok done) text before old new result = IsSent (Ok done) text before old new result
Closes (Err (Script Read)) text before old new result = IsSent (Err (Script Read)) text before old new result
Closes (Err (Script (Write written))) text before old new result = (result ≡ Err (Script (Write written))) × (new ≡ old)
Closes (Err (Script TooLong)) text before old new result = IsSent (Err (Script TooLong)) text before old new result
Closes (Err (Script Memory)) text before old new result = IsSent (Err (Script Memory)) text before old new result
Closes (Err (Line failed)) text before old new result = IsSent (Err (Line failed)) text before old new result
