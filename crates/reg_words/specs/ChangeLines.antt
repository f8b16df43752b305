-- A change told in a line (this project's own).
use Rattle.std.specs.Prelude.{ℕ, List, ◌++◌, codes}
use Rattle.std.specs.Fmt.{decimal}
use Rattle.reg_text.specs.Texts.{line_feed, escaped, digits_text}
use Rattle.reg_words.specs.declared.typed.change.KeyChange.{KeyChange}
use Rattle.reg_words.specs.declared.typed.change.KeyChange.TheVariants.{CreateKey, SetValue, DeleteValue, DeleteKey}

-- a path or a name, escaped
abbrev pub name_part : List ℕ → List ℕ
name_part name = codes " =" ++ escaped name

-- what is done with a key
abbrev pub key_line : (deed path : List ℕ) → List ℕ
key_line deed path = deed ++ (name_part path ++ line_feed)

-- a value that goes
abbrev pub value_line : (path name : List ℕ) → List ℕ
value_line path name = codes "delete value" ++ (name_part path ++ (name_part name ++ line_feed))

-- a value that is set
abbrev pub set_line : (path name : List ℕ) → (kind : ℕ) → (bytes : List ℕ) → List ℕ
set_line path name kind bytes =
    codes "set value" ++ (name_part path ++
    (name_part name ++ (codes " type " ++ (decimal kind ++ (codes " x" ++ (digits_text bytes ++ line_feed))))))

abbrev pub told : KeyChange → List ℕ
told (CreateKey path makes_parents) = key_line (codes "create key") path.items
told (SetValue path makes_parents name contents) = set_line path.items name.items contents.kind contents.bytes.items
told (DeleteValue path name) = value_line path.items name.items
told (DeleteKey path is_tree) = key_line (codes "delete key") path.items
