-- Changes, of plain arguments.
use Rattle.std.specs.Prelude.{ℕ, nat_eq, Bool, List, [], ◌∷◌, length, slice_get, if◌then◌else◌, Option, Some, None}
use Rattle.reg_model.specs.declared.call.Change.{Change}
use Rattle.reg_model.specs.declared.call.Change.TheVariants.{OpenRoot, OpenKey, CreateKey, SetValue, DeleteValue, DeleteKey, DeleteTree, SetSecurity, Notify, Close}

-- a descriptor, where it has a byte
abbrev pub given_of : List ℕ → Option (List ℕ)
given_of descriptor = if nat_eq (length descriptor) 0 then None else Some descriptor

-- the changes of a handle, a path or a name, a number (the mask, the type or the filter), bytes (the descriptor or the data), and whether
-- the keys below are meant, each at its number
abbrev pub changes_of : ℕ → List ℕ → ℕ → List ℕ → Bool → List Change
changes_of handle text number bytes below =
    OpenRoot number
    ∷ OpenKey handle text number
    ∷ CreateKey handle text number (given_of bytes)
    ∷ SetValue handle text number bytes
    ∷ DeleteValue handle text
    ∷ DeleteKey handle text
    ∷ DeleteTree handle text
    ∷ SetSecurity handle bytes
    ∷ Notify handle number below
    ∷ Close handle
    ∷ []

-- the change of a number, where it has one
abbrev pub change_of : ℕ → ℕ → List ℕ → ℕ → List ℕ → Bool → Option Change
change_of change handle text number bytes below = slice_get (changes_of handle text number bytes below) change
