-- The lines of a dump in the parts in which they are told.
use Rattle.std.specs.Prelude.{ℕ, List, ◌++◌, codes}
use Rattle.std.specs.Fmt.{decimal}
use Rattle.reg_text.specs.Texts.{line_feed, escaped, digits_text}

-- what stands between a key's path and its class
abbrev pub marks_part : ℕ → List ℕ
marks_part marks = codes " marks " ++ (decimal marks ++ codes " class x")

-- the end of a key's line
abbrev pub time_part : ℕ → List ℕ
time_part time = codes " time " ++ (decimal time ++ line_feed)

-- what stands between a value's name and its bytes
abbrev pub kind_part : ℕ → List ℕ
kind_part kind = codes " type " ++ (decimal kind ++ codes " x")

-- what follows a key's class
unfoldable pub after_class : (descriptor : List ℕ) (time : ℕ) → List ℕ
after_class descriptor time = codes " security x" ++ (digits_text descriptor ++ time_part time)

-- what follows a key's path
unfoldable pub after_path : (marks : ℕ) (class descriptor : List ℕ) (time : ℕ) → List ℕ
after_path marks class descriptor time = marks_part marks ++ (digits_text class ++ after_class descriptor time)

-- a key's line, of its path, marks, class, descriptor and time
unfoldable pub key_in_parts : (path : List ℕ) (marks : ℕ) (class descriptor : List ℕ) (time : ℕ) → List ℕ
key_in_parts path marks class descriptor time = codes "key =" ++ (escaped path ++ after_path marks class descriptor time)

-- what follows a value's name
unfoldable pub after_name : (kind : ℕ) (bytes : List ℕ) → List ℕ
after_name kind bytes = kind_part kind ++ (digits_text bytes ++ line_feed)

-- a value's line, of its name, type and bytes
unfoldable pub value_in_parts : (name : List ℕ) (kind : ℕ) (bytes : List ℕ) → List ℕ
value_in_parts name kind bytes = codes "value =" ++ (escaped name ++ after_name kind bytes)

-- the line of the root's name
unfoldable pub root_in_parts : (name : List ℕ) → List ℕ
root_in_parts name = codes "root =" ++ (escaped name ++ line_feed)
