-- What is found, computed of a tree that was worked out by hand.
use Rattle.std.proofs.Common.{◌≡◌, ℕ, zero, suc, ◌+◌, Bool, true, List, [], ◌∷◌, ◌++◌, map, Option, refl, ap, ◌∙◌}
use Rattle.std.specs.Prelude.{codes, filter, flat_map, false, bytes_eq, length, nat_lt}
use Rattle.std.specs.FinMap.{from_sorted, entries-from_sorted, get-from_sorted, get}
use Rattle.std.specs.FinMap.Entries.{find}
use Rattle.std.specs.Char.Utf16.{utf16_chars}
use Rattle.std.specs.Fmt.{digits}
use Rattle.hex.proofs.OnLiterals.{hex_on_literals}
use Rattle.reg_names.specs.declared.TheConstants.{PATH_LIMIT}
use Rattle.reg_heap.specs.Paths.{Path, Tree, Rec, Member, path_cmp, is_child, children_of}
use Rattle.reg_text.specs.Texts.{byte_text}
use Rattle.reg_tree_text.specs.DumpTexts.{Told, name_of, told_here, told_from, keys_told}
use Rattle.reg_tree_text.specs.Listings.{after_name, key_line}
use Rattle.reg_tree_text.specs.ValueTexts.{form_text}
use Rattle.reg_find.specs.declared.scope.Scope.{Scope}
use Rattle.reg_find.specs.Findings.{value_line, found_lines, found_text, is_found_in, wide_text}

-- ---- the definitions, over functions that compute

told_by : ℕ → (Path → Option Rec) → (Path → List Path) → List (List ℕ) → Path → List Told
told_by zero at below names path = []
told_by (suc levels) at below names path =
    told_here names (at path) ++ flat_map (λ child. told_by levels at below (names ++ name_of (at child) ∷ []) child) (below path)

each-same : {A : Type 0} (f g : Path → List A) → ((p : Path) → f p ≡ g p) → (ps : List Path) → flat_map f ps ≡ flat_map g ps
each-same f g h [] = refl
each-same {A = A} f g h (p ∷ ps) = ap (λ (x : List A). x ++ flat_map f ps) (h p) ∙ ap (λ (x : List A). g p ++ x) (each-same f g h ps)

module _ (tree : Tree) (at : Path → Option Rec) (below : Path → List Path) (a : (p : Path) → get tree p ≡ at p)
    (b : (p : Path) → children_of tree p ≡ below p) where
  told-same : (levels : ℕ) (names : List (List ℕ)) (path : Path) → told_from levels tree names path ≡ told_by levels at below names path
  unfolding told_by told_from
  told-same zero names path = refl
  told-same (suc levels) names path =
      ap (λ (o : Option Rec). told_here names o ++ flat_map (λ child. told_from levels tree (names ++ name_of (get tree child) ∷ []) child)
      (children_of tree path)) (a path)
      ∙ ap (λ (x : List Told). told_here names (at path) ++ x)
      (ap (flat_map (λ child. told_from levels tree (names ++ name_of (get tree child) ∷ []) child)) (b path)
      ∙ each-same _ _
      (λ child.
      ap (λ (o : Option Rec). told_from levels tree (names ++ name_of o ∷ []) child) (a child)
      ∙ told-same levels (names ++ name_of (at child) ∷ []) child)
      (below path))

  found_by : (List ℕ → Bool) → Scope → List ℕ
  found_by matches scope = flat_map (found_lines matches scope) (told_by (PATH_LIMIT + 1) at below [] [])

  found-same : (matches : List ℕ → Bool) (scope : Scope) → found_text matches scope tree ≡ found_by matches scope
  unfolding found_text keys_told found_by
  found-same matches scope = ap (flat_map (found_lines matches scope)) (told-same (PATH_LIMIT + 1) [] [])

-- ---- a tree of five keys, two with values

abbrev key : List ℕ → List Member → Rec
key name values = record { name = name; marks = 0; class = []; descriptor = 1 ∷ []; time = 7; values = values }

abbrev values : List Member
values = record { name = codes "v"; kind = 4; bytes = 1 ∷ 0 ∷ 0 ∷ 0 ∷ [] } ∷ record { name = []; kind = 1; bytes = [] } ∷ []

abbrev entries : List (Path × Rec)
entries =
    ([], key (codes "ROOT") []) ∷ (codes "A" ∷ [], key (codes "a") values) ∷ (codes "A" ∷ codes "C" ∷ [], key (codes "c") [])
    ∷ (codes "A" ∷ codes "C" ∷ codes "D E" ∷ [], key (codes "d e") (record { name = codes "w"; kind = 3; bytes = 9 ∷ [] } ∷ []))
    ∷ (codes "B" ∷ [], key (codes "B") []) ∷ []

abbrev tree : Tree
tree = from_sorted entries

abbrev at : Path → Option Rec
at p = find path_cmp p entries

abbrev below : Path → List Path
below p = filter (is_child p) (map (λ (e : Path × Rec). e.0) entries)

at-same : (p : Path) → get tree p ≡ at p
at-same p = get-from_sorted path_cmp entries p tt

below-same : (p : Path) → children_of tree p ≡ below p
below-same p =
    ap (λ (es : List (Path × Rec)). filter (is_child p) (map (λ (e : Path × Rec). e.0) es)) (entries-from_sorted path_cmp entries tt)

abbrev scope : (keys names texts : Bool) → Scope
scope keys names texts = record { keys = keys; names = names; texts = texts; paths = false; bytes = false }

abbrev paths : Scope
paths = record { keys = false; names = false; texts = false; paths = true; bytes = false }

abbrev bytes : Scope
bytes = record { keys = false; names = false; texts = false; paths = false; bytes = true }

-- ---- found

-- each key, by its own name, with its path; the root's is empty
every-key : found_text (λ _. true) (scope true false false) tree ≡ codes "key =\nkey =a\nkey =a\\c\nkey =a\\c\\d%20e\nkey =B\n"
unfolding found_by told_by value_line after_name key_line digits byte_text
every-key = found-same tree at below at-same below-same (λ _. true) (scope true false false) ∙ refl

-- each value, with its key's path
every-name : found_text (λ _. true) (scope false true false) tree ≡
    codes "value =a =v type 4 size 4\nvalue =a = type 1 size 0\nvalue =a\\c\\d%20e =w type 3 size 1\n"
unfolding found_by told_by value_line after_name key_line digits byte_text
every-name = found-same tree at below at-same below-same (λ _. true) (scope false true false) ∙ refl

-- each of either once, in the order of a dump, though a value's name and its data match
everything : found_text (λ _. true) (scope true true true) tree ≡
    codes "key =\nkey =a\nvalue =a =v type 4 size 4\nvalue =a = type 1 size 0\nkey =a\\c\nkey =a\\c\\d%20e\nvalue =a\\c\\d%20e =w type 3 size 1\nkey =B\n"
unfolding found_by told_by value_line after_name key_line digits byte_text form_text utf16_chars lib.Utf8.encode hex_on_literals
everything = found-same tree at below at-same below-same (λ _. true) (scope true true true) ∙ refl

-- nothing where nothing is searched
nothing : found_text (λ _. true) (scope false false false) tree ≡ []
unfolding found_by told_by value_line after_name key_line digits byte_text
nothing = found-same tree at below at-same below-same (λ _. true) (scope false false false) ∙ refl

-- a key's own name is searched, as it was given, and not its path
own-name : found_text (bytes_eq (codes "c")) (scope true true true) tree ≡ codes "key =a\\c\n"
unfolding found_by told_by value_line after_name key_line digits byte_text form_text utf16_chars lib.Utf8.encode hex_on_literals
own-name = found-same tree at below at-same below-same (bytes_eq (codes "c")) (scope true true true) ∙ refl

no-path : found_text (bytes_eq (codes "a\\c")) (scope true true true) tree ≡ []
unfolding found_by told_by value_line after_name key_line digits byte_text form_text utf16_chars lib.Utf8.encode hex_on_literals
no-path = found-same tree at below at-same below-same (bytes_eq (codes "a\\c")) (scope true true true) ∙ refl

root-name : found_text (bytes_eq (codes "ROOT")) (scope true false false) tree ≡ codes "key =\n"
unfolding found_by told_by value_line after_name key_line digits byte_text
root-name = found-same tree at below at-same below-same (bytes_eq (codes "ROOT")) (scope true false false) ∙ refl

-- data are searched as they are told: a number in decimal, bytes as digits
number-told : found_text (bytes_eq (codes "1")) (scope false false true) tree ≡ codes "value =a =v type 4 size 4\n"
unfolding found_by told_by value_line after_name key_line digits byte_text form_text utf16_chars lib.Utf8.encode hex_on_literals
number-told = found-same tree at below at-same below-same (bytes_eq (codes "1")) (scope false false true) ∙ refl

bytes-told : found_text (bytes_eq (codes "hex:09")) (scope false false true) tree ≡ codes "value =a\\c\\d%20e =w type 3 size 1\n"
unfolding found_by told_by value_line after_name key_line digits byte_text form_text utf16_chars lib.Utf8.encode hex_on_literals
bytes-told = found-same tree at below at-same below-same (bytes_eq (codes "hex:09")) (scope false false true) ∙ refl

-- and only where they are searched
not-asked : found_text (bytes_eq (codes "1")) (scope true true false) tree ≡ []
unfolding found_by told_by value_line after_name key_line digits byte_text
not-asked = found-same tree at below at-same below-same (bytes_eq (codes "1")) (scope true true false) ∙ refl

-- a name that isn't searched finds nothing, though it matches
name-not-asked : found_text (bytes_eq (codes "w")) (scope true false true) tree ≡ []
unfolding found_by told_by value_line after_name key_line digits byte_text form_text utf16_chars lib.Utf8.encode hex_on_literals
name-not-asked = found-same tree at below at-same below-same (bytes_eq (codes "w")) (scope true false true) ∙ refl

-- the default value's name is empty, and so is the text of its empty string: one line
empty-once : found_text (bytes_eq []) (scope true true true) tree ≡ codes "value =a = type 1 size 0\n"
unfolding found_by told_by value_line after_name key_line digits byte_text form_text utf16_chars lib.Utf8.encode hex_on_literals
empty-once = found-same tree at below at-same below-same (bytes_eq []) (scope true true true) ∙ refl

-- paths, with a backslash between two names, that of the root empty, and not escaped
path-found : found_text (bytes_eq (codes "a\\c\\d e")) paths tree ≡ codes "key =a\\c\\d%20e\n"
unfolding found_by told_by value_line after_name key_line digits byte_text
path-found = found-same tree at below at-same below-same (bytes_eq (codes "a\\c\\d e")) paths ∙ refl

root-path : found_text (bytes_eq []) paths tree ≡ codes "key =\n"
unfolding found_by told_by value_line after_name key_line digits byte_text
root-path = found-same tree at below at-same below-same (bytes_eq []) paths ∙ refl

-- a text that bytes are from the first or from the second: 01 00 00 00 are a control character and a line end, or a line end
first-held : found_text (bytes_eq (1 ∷ 10 ∷ [])) bytes tree ≡ codes "value =a =v type 4 size 4\n"
unfolding found_by told_by value_line after_name key_line digits byte_text utf16_chars lib.Utf8.encode
first-held = found-same tree at below at-same below-same (bytes_eq (1 ∷ 10 ∷ [])) bytes ∙ refl

second-held : found_text (bytes_eq (10 ∷ [])) bytes tree ≡ codes "value =a =v type 4 size 4\n"
unfolding found_by told_by value_line after_name key_line digits byte_text utf16_chars lib.Utf8.encode
second-held = found-same tree at below at-same below-same (bytes_eq (10 ∷ [])) bytes ∙ refl

-- texts by hand: a last byte alone is passed over, and a surrogate alone is U+FFFD
text-of-bytes : wide_text (0x5A ∷ 0 ∷ 0xE9 ∷ 0 ∷ 0 ∷ 0 ∷ 0x3D ∷ 0xD8 ∷ 0x12 ∷ []) ≡ 0x5A ∷ 0xC3 ∷ 0xA9 ∷ 10 ∷ 0xEF ∷ 0xBF ∷ 0xBD ∷ []
unfolding utf16_chars lib.Utf8.encode
text-of-bytes = refl

-- whether anything is found
found-none : is_found_in (bytes_eq (codes "zz")) (scope true true false) tree ≡ false
unfolding found_by told_by value_line after_name key_line digits byte_text
found-none =
    ap (λ (text : List ℕ). nat_lt 0 (length text)) (found-same tree at below at-same below-same (bytes_eq (codes "zz")) (scope true true false)) ∙ refl

found-some : is_found_in (bytes_eq (codes "w")) (scope true true false) tree ≡ true
unfolding found_by told_by value_line after_name key_line digits byte_text
found-some =
    ap (λ (text : List ℕ). nat_lt 0 (length text)) (found-same tree at below at-same below-same (bytes_eq (codes "w")) (scope true true false)) ∙ refl
