-- A value told with its type (this project's own): the word by which a change names the type, the form of its data, and the data, a number in
-- hexadecimal too.
use Rattle.std.specs.Prelude.{◌≡◌, ℕ, ◌==◌, ◌&&◌, true, false, if◌then◌else◌, List, [], ◌++◌, length, codes, Option, Some, None, is_some}
use Rattle.std.specs.Fmt.{decimal, digits}
use Rattle.std.specs.Option.{unwrap_or}
use Rattle.byteorder.specs.Endian.{little_number, big_number}
use Rattle.reg_heap.specs.Paths.{Tree, Member}
use Rattle.reg_text.specs.Texts.{line_feed}
use Rattle.reg_tree_text.specs.DumpFronts.{IsStopped}
use Rattle.reg_tree_text.specs.PathQueries.{key_at, value_at}
use Rattle.reg_tree_text.specs.ValueTexts.{value_told}
use Rattle.reg_tree_text.specs.declared.path_fault.PathFault.{PathFault}
use Rattle.reg_tree_text.specs.declared.path_fault.PathFault.TheVariants.{NoKey, NoValue, Stopped}
use Rattle.reg_tables.specs.FormsTold.{form_told}

-- the word by which a change names a type; `None` of a type that it names by its number
unfoldable pub type_word : (kind : ℕ) → Option (List ℕ)
type_word kind =
    if kind == 0 then Some (codes "none")
    else if kind == 1 then Some (codes "sz")
    else if kind == 2 then Some (codes "expand")
    else if kind == 3 then Some (codes "binary")
    else if kind == 4 then Some (codes "dword")
    else if kind == 7 then Some (codes "multi")
    else if kind == 11 then Some (codes "qword")
    else None

-- a type by its word, or by its number
unfoldable pub type_text : (kind : ℕ) → List ℕ
type_text kind = unwrap_or (type_word kind) (decimal kind)

-- the number that data are: of 4 bytes, the low one first or the high one first, or of 8. `None` of data in another form
unfoldable pub number_of : (kind : ℕ) (bytes : List ℕ) → Option ℕ
number_of kind bytes =
    if kind == 4 && length bytes == 4 then Some (little_number 4 bytes)
    else if kind == 5 && length bytes == 4 then Some (big_number 4 bytes)
    else if kind == 11 && length bytes == 8 then Some (little_number 8 bytes)
    else None

-- a number in hexadecimal, behind the same one in decimal
abbrev pub hex_told : Option ℕ → List ℕ
hex_told None = []
hex_told (Some number) = codes " 0x" ++ digits 16 false number

-- a value's type, the form of its data, and the data, which are all that is behind the second space
unfoldable pub typed_told : (kind : ℕ) (bytes : List ℕ) → List ℕ
typed_told kind bytes =
    type_text kind ++ (codes " " ++ (form_told kind bytes ++ (codes " " ++ (value_told kind bytes ++ hex_told (number_of kind bytes)))))

-- the line of a value with its type
abbrev pub typed_line : Member → List ℕ
typed_line value = typed_told value.kind value.bytes ++ line_feed

-- why it wasn't told: there is no such key, or the key has no such value, and nothing was written; or a front of the line was
abbrev pub TypedStops : PathFault → Tree → (text name : List ℕ) → (before after : Option (List ℕ)) → Type 0
TypedStops NoKey tree text name before after = (key_at tree text ≡ None) × (after ≡ before)
TypedStops NoValue tree text name before after = (is_some (key_at tree text) ≡ true) × (value_at tree text name ≡ None) × (after ≡ before)
TypedStops (Stopped fault) tree text name before after =
    (value : Member) × (value_at tree text name ≡ Some value) × IsStopped before after (typed_line value) fault
