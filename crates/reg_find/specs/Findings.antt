-- What a pattern finds in a tree (this project's own): a line for each key and each value of which a text matches.
use Rattle.std.specs.Prelude.{ℕ, ◌+◌, ◌*◌, ◌==◌, ◌&&◌, ◌||◌, nat_lt, Bool, if◌then◌else◌, List, [], ◌∷◌, ◌++◌, codes, drop, encode_utf8_all, flat_map, length}
use Rattle.std.specs.Char.Utf16.{utf16_lossy_chars}
use Rattle.reg_names.specs.Names.{text_of}
use Rattle.reg_heap.specs.Paths.{Tree, Member}
use Rattle.reg_text.specs.Texts.{escaped}
use Rattle.reg_tree_text.specs.DumpTexts.{Told, keys_told}
use Rattle.reg_tree_text.specs.Listings.{after_name, key_line}
use Rattle.reg_tree_text.specs.ValueTexts.{value_told}
use Rattle.reg_find.specs.declared.scope.Scope.{Scope}

-- a unit of UTF-16, with a line end in the place of a zero
abbrev pub unit_or_end : ℕ → ℕ
unit_or_end unit = if unit == 0 then 10 else unit

-- bytes as units, the low byte first; a last byte that is alone is passed over
abbrev pub units_in : List ℕ → List ℕ
units_in [] = []
units_in (low ∷ []) = []
units_in (low ∷ high ∷ bytes) = unit_or_end (low + 256 * high) ∷ units_in bytes

-- the text that bytes are in UTF-16, the low byte of each unit first: a zero is a line end, and a surrogate without its partner U+FFFD
abbrev pub wide_text : List ℕ → List ℕ
wide_text bytes = encode_utf8_all (utf16_lossy_chars (units_in bytes))

-- bytes hold a match as such a text, which begins at the first byte or at the second
abbrev pub is_held : (matches : List ℕ → Bool) → List ℕ → Bool
is_held matches bytes = matches (wide_text bytes) || matches (wide_text (drop 1 bytes))

-- a value's data are found, told as a line or as bytes that hold a text, each where it is searched
abbrev pub is_data_found : (matches : List ℕ → Bool) → Scope → (kind : ℕ) → List ℕ → Bool
is_data_found matches scope kind bytes = scope.texts && matches (value_told kind bytes) || scope.bytes && is_held matches bytes

-- a value is found by its name, where that is searched, or by its data
abbrev pub is_value_found : (matches : List ℕ → Bool) → Scope → Member → Bool
is_value_found matches scope value = scope.names && matches value.name || is_data_found matches scope value.kind value.bytes

-- a key is found by its own name, or by its path, each where it is searched
abbrev pub is_key_found : (matches : List ℕ → Bool) → Scope → (name path : List ℕ) → Bool
is_key_found matches scope name path = scope.keys && matches name || scope.paths && matches path

-- the line of a value of that name and type and of so many bytes, of the key at a path
unfoldable pub value_line : (path name : List ℕ) (kind size : ℕ) → List ℕ
value_line path name kind size = codes "value =" ++ (escaped path ++ (codes " =" ++ (escaped name ++ after_name kind size)))

-- what is told of a value of the key at a path: one line where it is found
abbrev pub value_found : (matches : List ℕ → Bool) → Scope → (path : List ℕ) → Member → List ℕ
value_found matches scope path value =
    if is_value_found matches scope value then value_line path value.name value.kind (length value.bytes) else []

-- what is told of a key by itself: one line with its path, where it is found
abbrev pub key_found : (matches : List ℕ → Bool) → Scope → Told → List ℕ
key_found matches scope told =
    if is_key_found matches scope told.key.name (text_of told.names) then key_line (text_of told.names) else []

-- what is told of a key and of its values, in their order
abbrev pub found_lines : (matches : List ℕ → Bool) → Scope → Told → List ℕ
found_lines matches scope told =
    key_found matches scope told ++ flat_map (value_found matches scope (text_of told.names)) told.key.values

-- what is found in a tree, in the order of its dump
unfoldable pub found_text : (matches : List ℕ → Bool) → Scope → Tree → List ℕ
found_text matches scope tree = flat_map (found_lines matches scope) (keys_told tree)

-- whether anything is found in it: a line is told
abbrev pub is_found_in : (matches : List ℕ → Bool) → Scope → Tree → Bool
is_found_in matches scope tree = nat_lt 0 (length (found_text matches scope tree))
