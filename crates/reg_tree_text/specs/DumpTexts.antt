-- A tree of keys told as text (this project's own): a line for the root's name, one for each key and each value, and one that counts.
use Rattle.std.specs.Prelude.{ℕ, zero, suc, ◌+◌, List, [], ◌∷◌, ◌++◌, codes, flat_map, length, sum_by, Option, Some, None}
use Rattle.std.specs.Fmt.{decimal}
use Rattle.std.specs.FinMap.{get}
use Rattle.reg_names.specs.declared.TheConstants.{PATH_LIMIT}
use Rattle.reg_names.specs.Names.{text_of}
use Rattle.reg_heap.specs.Paths.{Path, Tree, Rec, Member, children_of}
use Rattle.reg_text.specs.Texts.{line_feed, escaped, digits_text}

-- a key as it is told: the names that lead to it from the root, as given, and what it holds
pub record Told : Type 0 where
  pub names : List (List ℕ)
  pub key : Rec

-- the name of a key that was found
abbrev pub name_of : Option Rec → List ℕ
name_of None = []
name_of (Some key) = key.name

-- a key that was found, told alone
abbrev pub told_here : List (List ℕ) → Option Rec → List Told
told_here names None = []
told_here names (Some key) = record { names = names; key = key } ∷ []

-- the key at a path and those below it, of so many levels: first itself, and then those right below it, in the order of their folded
-- names, each with those below it
unfoldable pub told_from : ℕ → Tree → List (List ℕ) → Path → List Told
told_from zero tree names path = []
told_from (suc levels) tree names path =
    told_here names (get tree path) ++ flat_map (λ child. told_from levels tree (names ++ name_of (get tree child) ∷ []) child)
    (children_of tree path)

-- the keys of a tree in the order in which they are told: the root, and below it as many levels as a path has names at most
unfoldable pub keys_told : Tree → List Told
keys_told tree = told_from (PATH_LIMIT + 1) tree [] []

-- the line of a key: its path, its marks, the bytes of its class and its descriptor, and its time
abbrev pub key_line : Told → List ℕ
key_line told =
    codes "key =" ++ (escaped (text_of told.names) ++ (codes " marks " ++ (decimal told.key.marks ++ (codes " class x"
    ++ (digits_text told.key.class ++ (codes " security x" ++ (digits_text told.key.descriptor ++ (codes " time "
    ++ (decimal told.key.time ++ line_feed)))))))))

-- the line of a value: its name, its type and its bytes
abbrev pub value_line : Member → List ℕ
value_line value =
    codes "value =" ++
    (escaped value.name ++ (codes " type " ++ (decimal value.kind ++ (codes " x" ++ (digits_text value.bytes ++ line_feed)))))

-- the lines of a key: its own, and those of its values in their order
abbrev pub key_lines : Told → List ℕ
key_lines told = key_line told ++ flat_map value_line told.key.values

-- how many values some keys have together
abbrev pub values_in : List Told → ℕ
values_in told = sum_by (λ (t : Told). length t.key.values) told

-- the line that counts the keys and the values
abbrev pub counts_line : ℕ → ℕ → List ℕ
counts_line keys values = codes "keys " ++ (decimal keys ++ (codes " values " ++ (decimal values ++ line_feed)))

-- the line that counts these keys and their values
abbrev pub counts_text : List Told → List ℕ
counts_text told = counts_line (length told) (values_in told)

-- the line of the root's name
abbrev pub root_line : Tree → List ℕ
root_line tree = codes "root =" ++ (escaped (name_of (get tree [])) ++ line_feed)

-- the text of a tree: its root's name, its keys with their values, and how many there are
unfoldable pub dump_text : Tree → List ℕ
dump_text tree = root_line tree ++ (flat_map key_lines (keys_told tree) ++ counts_text (keys_told tree))

-- what is told of a tree without a fault: how many keys and values it has
unfoldable pub check_text : Tree → List ℕ
check_text tree = codes "ok " ++ counts_text (keys_told tree)
