-- In which form the data of a value are told in CSV (this project's own), as text, as a number or as digits. reg_tree_text's `form_text`
-- says which data have a text in the form of their type; the others are told as digits.
use Rattle.std.specs.Prelude.{ℕ, ◌==◌, ◌||◌, Bool, if◌then◌else◌, is_some, List, codes}
use Rattle.reg_tree_text.specs.ValueTexts.{form_text}
use Rattle.reg_tree_text.specs.declared.value.TheConstants.{NUMBER, BIG_NUMBER, LONG_NUMBER}

-- whether a type is that of numbers
abbrev pub is_number : ℕ → Bool
is_number kind = kind == NUMBER || kind == BIG_NUMBER || kind == LONG_NUMBER

-- the form of a value's data
unfoldable pub form_told : (kind : ℕ) (bytes : List ℕ) → List ℕ
form_told kind bytes =
    if is_some (form_text kind bytes) then (if is_number kind then codes "number" else codes "text") else codes "hex"
