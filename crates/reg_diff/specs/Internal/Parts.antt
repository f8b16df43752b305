-- The parts of a line, and values as they are read (this project's own).
use Rattle.std.specs.Prelude.{ℕ, Bool, true, false, List, [], ◌∷◌}
use Rattle.std.specs.Fmt.{decimal}
use Rattle.reg_heap.specs.Paths.{Member}
use Rattle.reg_text.specs.Texts.{escaped, digits_text}
use Rattle.reg_diff.specs.declared.line.Part.{Part}
use Rattle.reg_diff.specs.declared.line.Part.TheVariants.{Word, Name, Number, Digits}
use Rattle.reg_diff.specs.declared.value.Copied.{Copied}

-- the text of a part of a line
abbrev pub part_text : Part → List ℕ
part_text (Word word) = word.now
part_text (Name name) = escaped name.now
part_text (Number number) = decimal number
part_text (Digits bytes) = digits_text bytes.now

-- the value that was read
abbrev pub member_of : Copied → Member
member_of value = record { name = value.name.now; kind = value.kind; bytes = value.bytes.items }

-- whether nothing is told
abbrev pub is_nothing : List ℕ → Bool
is_nothing [] = true
is_nothing (letter ∷ letters) = false
