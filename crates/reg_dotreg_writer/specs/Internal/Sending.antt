-- What becomes of bytes on their way to a writer (this project's own).
use Rattle.std.specs.Prelude.{ℕ, List, Result, Vec}
use Rattle.reg_text.specs.declared.output.Output.{Output}
use Rattle.reg_tree_text.specs.declared.fault.DumpFault.{DumpFault}
use Rattle.reg_tree_text.specs.Internal.Gathered.{WriterState, Tells}

-- bytes that are next of a whole text were told: sent or gathered; or a fault stopped it
abbrev pub Puts : {A Y : Type 0} → Output (Vec ℕ Y) → WriterState → Output (Vec ℕ Y) → WriterState → List ℕ → Result A DumpFault → Type 0
Puts old before new after text result = Tells old.gathered.items old.written before new.gathered.items new.written after text result
