-- Why words ask for nothing (this project's own).
use Rattle.std.specs.Prelude.{ℕ, ◌≡◌, List}
use Rattle.clap.specs.Values.{kind_of}
use Rattle.clap.specs.declared.error.kind.ErrorKind.TheVariants.{OutOfMemory}
use Rattle.reg_words.specs.CommandLines.{HasBothOptions}
use Rattle.reg_words.specs.declared.fault.WordsFault.{WordsFault}
use Rattle.reg_words.specs.declared.fault.WordsFault.TheVariants.{Options, Unread}

-- memory is wanting
abbrev pub WantsMemory : WordsFault → Type 0
WantsMemory Options = ⊥
WantsMemory (Unread error) = kind_of error ≡ OutOfMemory

-- both options of `run` are the fault exactly where the words have them, save where memory is wanting
abbrev pub TellsOptions : WordsFault → List (List ℕ) → Type 0
TellsOptions Options words = HasBothOptions words
TellsOptions (Unread error) words = HasBothOptions words → kind_of error ≡ OutOfMemory
