-- What was read of a part of an image.
use Rattle.std.specs.Prelude.{ℕ, ◌<◌, ◌≤◌, ◌==◌, if◌then◌else◌, Option, Result, Ok, Err, List, length}
use Rattle.std.specs.Io.KnownBytes.{IsAtEnd}
use Rattle.reg_tree_image.specs.declared.LoadFault.{LoadFault}
use Rattle.reg_tree_image.specs.declared.LoadFault.TheVariants.{Read, Short, Memory}

-- what one read tells: how many bytes it gave, of which none are the reader's end; or that it failed
abbrev pub told_by : {E : Type 0} → Result ℕ E → Result ℕ LoadFault
told_by (Ok count) = if count == 0 then Err Short else Ok count
told_by (Err e) = Err Read

-- a read failed before so many bytes were read, or the reader came to its end
abbrev pub IsCut : LoadFault → ℕ → List ℕ → Option (List ℕ) → Type 0
IsCut Read size piece left = length piece < size
IsCut Short size piece left = (length piece < size) × IsAtEnd left
IsCut fault size piece left = ⊥

-- a read failed before so many bytes were read, or the reader came to its end, or there was no memory for what comes
abbrev pub IsGivenUp : LoadFault → ℕ → List ℕ → Option (List ℕ) → Type 0
IsGivenUp Memory size piece left = length piece ≤ size
IsGivenUp fault size piece left = IsCut fault size piece left
