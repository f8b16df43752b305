-- A file that is open, counted (this project's own).
use Rattle.std.specs.Prelude.{◌≡◌, ℕ, Bool, List, Option}
use Rattle.std.specs.Io.KnownBytes.{Appends}
use Rattle.reg_words.specs.declared.request.StreamRequest.TheVariants as stream
use Rattle.reg_command.specs.Failures.{Does}
use Rattle.reg_files.specs.Counting.{name_before}

-- its line stands behind its name, and nothing was told
abbrev pub IsCounted : (is_named : Bool) → (file : List ℕ) → (before after unread left told told_after : Option (List ℕ)) → Type 0
IsCounted is_named file before after unread left told told_after =
    (named : Option (List ℕ)) × Appends before named (name_before is_named file) × Does stream.Check unread left named after × (told_after ≡ told)
