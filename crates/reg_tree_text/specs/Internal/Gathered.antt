-- What becomes of a text on its way to a writer (this project's own).
use Rattle.std.specs.Prelude.{◌≡◌, ℕ, List, ◌++◌, length, Option, Result, MatchResult, String, string_bytes}
use Rattle.std.specs.Io.KnownBytes.{Appends}
use Rattle.reg_tree_text.specs.declared.fault.DumpFault.{DumpFault}
use Rattle.reg_text.specs.declared.output.Output.{Output}
use Rattle.reg_text.specs.Failures.{Stays}
use Rattle.reg_tree_text.specs.DumpFronts.{IsStopped, IsBlamed}

-- what a writer holds, and how often it failed, where these are known
abbrev pub WriterState : Type 0
WriterState = Option (List ℕ) × Option ℕ

-- of a whole text a front was sent without a failure, which is counted, what follows was gathered, and the rest is left
pub record IsSoFar (begin now : WriterState) (whole left gathered : List ℕ) (written : ℕ) : Type 0 where
  pub sent : List ℕ
  pub appends : Appends begin.0 now.0 sent
  pub stays : Stays begin.1 now.1
  pub splits : whole ≡ sent ++ (gathered ++ left)
  pub counts : written ≡ length sent

-- a fault ended it: after a front, and just one failure where the writer is to blame
abbrev pub IsGivenUp : WriterState → WriterState → List ℕ → DumpFault → Type 0
IsGivenUp begin after whole fault = IsStopped begin.0 after.0 whole fault × IsBlamed fault begin.1 after.1

-- bytes that are next of a whole text were told: sent or gathered; or a fault stopped it
abbrev pub Tells : {A : Type 0} → List ℕ → ℕ → WriterState → List ℕ → ℕ → WriterState → List ℕ → Result A DumpFault → Type 0
Tells gathered written before more count after bytes result =
    (begin : WriterState) → (whole left : List ℕ) → IsSoFar begin before whole (bytes ++ left) gathered written →
    MatchResult result (λ _. IsSoFar begin after whole left more count) (λ fault. IsGivenUp begin after whole fault)

-- of a text that is gathered
abbrev pub Puts : {A Y : Type 0} → Output (String Y) → WriterState → Output (String Y) → WriterState → List ℕ → Result A DumpFault → Type 0
Puts old before new after text result =
    Tells (string_bytes old.gathered) old.written before (string_bytes new.gathered) new.written after text result
