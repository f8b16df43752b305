-- What a dump that a fault ended has written, and whether its writer failed (this project's own).
use Rattle.std.specs.Prelude.{ℕ, ◌≤◌, List, length, take, Option}
use Rattle.std.specs.Io.KnownBytes.{Appends}
use Rattle.reg_text.specs.Failures.{Stays, Fails}
use Rattle.reg_tree_text.specs.declared.fault.DumpFault.{DumpFault}
use Rattle.reg_tree_text.specs.declared.fault.DumpFault.TheVariants.{Write, Memory}

-- a front of the text was written, and no more: after a failed write just as many bytes as the fault says
abbrev pub IsStopped : Option (List ℕ) → Option (List ℕ) → List ℕ → DumpFault → Type 0
IsStopped before after text (Write written) = (written ≤ length text) × Appends before after (take written text)
IsStopped before after text Memory = (n : ℕ) × Appends before after (take n text)

-- a failed write or flush, after which no more was asked of the writer; or none failed, where memory was wanting
abbrev pub IsBlamed : DumpFault → Option ℕ → Option ℕ → Type 0
IsBlamed (Write written) before after = Fails before after
IsBlamed Memory before after = Stays before after
