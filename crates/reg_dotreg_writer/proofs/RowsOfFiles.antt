-- Files, computed of a tree that was worked out by hand; and bytes, of units.
use Rattle.std.proofs.Common.{◌≡◌, ℕ, zero, suc, ◌+◌, true, false, List, [], ◌∷◌, ◌++◌, map, Option, Some, None, refl, ap, ◌∙◌}
use Rattle.std.specs.Prelude.{codes, filter, flat_map}
use Rattle.std.specs.FinMap.{from_sorted, entries-from_sorted, get-from_sorted, get}
use Rattle.std.specs.FinMap.Entries.{find}
use Rattle.std.specs.Fmt.{digits}
use Rattle.std.specs.Char.Utf16.{utf16_chars}
use Rattle.hex.proofs.OnLiterals.{hex_on_literals}
use Rattle.reg_names.specs.declared.TheConstants.{PATH_LIMIT}
use Rattle.reg_heap.specs.Paths.{Path, Tree, Rec, Member, path_cmp, is_child, children_of}
use Rattle.reg_tree_text.specs.DumpTexts.{Told, name_of, told_here, told_from}
use Rattle.reg_dotreg_writer.specs.EntryTexts.{quoted, hex_from, hex_head, plain_data}
use Rattle.reg_dotreg_writer.specs.Entries.{root_shown, names_behind, names_to, keys_from, heading, key_line, key_block, entries_text, is_writable}
use Rattle.reg_dotreg_writer.specs.Entries.{is_line_name, can_stand, encoded, file_bytes}

-- ---- the definitions, over functions that compute

told_by : ℕ → (Path → Option Rec) → (Path → List Path) → List (List ℕ) → Path → List Told
told_by zero at below names path = []
told_by (suc levels) at below names path =
    told_here names (at path) ++ flat_map (λ child. told_by levels at below (names ++ name_of (at child) ∷ []) child) (below path)

behind_by : (Path → Option Rec) → Path → Path → List (List ℕ)
behind_by at path [] = []
behind_by at path (name ∷ rest) = name_of (at (path ++ name ∷ [])) ∷ behind_by at (path ++ name ∷ []) rest

each-same : {A : Type 0} (f g : Path → List A) → ((p : Path) → f p ≡ g p) → (ps : List Path) → flat_map f ps ≡ flat_map g ps
each-same f g h [] = refl
each-same {A = A} f g h (p ∷ ps) = ap (λ (x : List A). x ++ flat_map f ps) (h p) ∙ ap (λ (x : List A). g p ++ x) (each-same f g h ps)

module _ (tree : Tree) (at : Path → Option Rec) (below : Path → List Path) (a : (p : Path) → get tree p ≡ at p)
    (b : (p : Path) → children_of tree p ≡ below p) where
  told-same : (levels : ℕ) (names : List (List ℕ)) (path : Path) → told_from levels tree names path ≡ told_by levels at below names path
  unfolding told_by told_from
  told-same zero names path = refl
  told-same (suc levels) names path =
      ap (λ (o : Option Rec). told_here names o ++ flat_map (λ child. told_from levels tree (names ++ name_of (get tree child) ∷ []) child)
      (children_of tree path)) (a path)
      ∙ ap (λ (x : List Told). told_here names (at path) ++ x)
      (ap (flat_map (λ child. told_from levels tree (names ++ name_of (get tree child) ∷ []) child)) (b path)
      ∙ each-same _ _
      (λ child.
      ap (λ (o : Option Rec). told_from levels tree (names ++ name_of o ∷ []) child) (a child)
      ∙ told-same levels (names ++ name_of (at child) ∷ []) child)
      (below path))

  behind-same : (path rest : Path) → names_behind tree path rest ≡ behind_by at path rest
  unfolding behind_by
  behind-same path [] = refl
  behind-same path (name ∷ rest) =
      ap (λ (o : Option Rec). name_of o ∷ names_behind tree (path ++ name ∷ []) rest) (a (path ++ name ∷ []))
      ∙ ap (λ (w : List (List ℕ)). name_of (at (path ++ name ∷ [])) ∷ w) (behind-same (path ++ name ∷ []) rest)

  keys_by : (root : List ℕ) → Path → List Told
  keys_by root path = told_by (PATH_LIMIT + 1) at below (root ∷ behind_by at [] path) path

  keys-same : (root : List ℕ) (path : Path) → keys_from root tree path ≡ keys_by root path
  unfolding keys_from keys_by
  keys-same root path =
      told-same (PATH_LIMIT + 1) (names_to root tree path) path
      ∙ ap (λ (w : List (List ℕ)). told_by (PATH_LIMIT + 1) at below (root ∷ w) path) (behind-same [] path)

  root_by : (front : Option (List ℕ)) → List ℕ
  root_by (Some front) = front
  root_by None = name_of (at [])

  root-same : (front : Option (List ℕ)) → root_shown front tree ≡ root_by front
  unfolding root_by
  root-same (Some front) = refl
  root-same None = ap name_of (a [])

  text_by : (front : Option (List ℕ)) → Path → List ℕ
  text_by front path = heading ++ flat_map key_block (keys_by (root_by front) path)

  text-same : (front : Option (List ℕ)) (path : Path) → entries_text (root_shown front tree) tree path ≡ text_by front path
  unfolding entries_text text_by
  text-same front path =
      ap (λ (x : List Told). heading ++ flat_map key_block x)
      (ap (λ (r : List ℕ). keys_from r tree path) (root-same front) ∙ keys-same (root_by front) path)

-- ---- a tree of five keys, two with values

abbrev key : List ℕ → List Member → Rec
key name values = record { name = name; marks = 0; class = []; descriptor = 1 ∷ []; time = 7; values = values }

abbrev values : List Member
values = record { name = codes "v"; kind = 4; bytes = 1 ∷ 0 ∷ 0 ∷ 0 ∷ [] } ∷ record { name = []; kind = 1; bytes = 72 ∷ 0 ∷ 0 ∷ 0 ∷ [] } ∷ []

abbrev entries : List (Path × Rec)
entries =
    ([], key (codes "Root") []) ∷ (codes "A" ∷ [], key (codes "a") values) ∷ (codes "A" ∷ codes "C" ∷ [], key (codes "c") [])
    ∷ (codes "A" ∷ codes "C" ∷ codes "D E" ∷ [], key (codes "d e") (record { name = codes "w"; kind = 3; bytes = 9 ∷ [] } ∷ []))
    ∷ (codes "B" ∷ [], key (codes "B") []) ∷ []

abbrev tree : Tree
tree = from_sorted entries

abbrev at : Path → Option Rec
at p = find path_cmp p entries

abbrev below : Path → List Path
below p = filter (is_child p) (map (λ (e : Path × Rec). e.0) entries)

at-same : (p : Path) → get tree p ≡ at p
at-same p = get-from_sorted path_cmp entries p tt

below-same : (p : Path) → children_of tree p ≡ below p
below-same p =
    ap (λ (es : List (Path × Rec)). filter (is_child p) (map (λ (e : Path × Rec). e.0) es)) (entries-from_sorted path_cmp entries tt)

-- ---- files

-- the root, which has no values, and all below it: each key before those below it
text-root : entries_text (root_shown None tree) tree [] ≡
    codes "Windows Registry Editor Version 5.00\r\n\r\n[Root]\r\n\r\n[Root\\a]\r\n\"v\"=dword:00000001\r\n@=\"H\"\r\n\r\n[Root\\a\\c]\r\n\r\n"
    ++ codes "[Root\\a\\c\\d e]\r\n\"w\"=hex:09\r\n\r\n[Root\\B]\r\n\r\n"
unfolding text_by root_by keys_by behind_by told_by heading key_line quoted hex_from hex_head plain_data digits utf16_chars hex_on_literals
text-root = text-same tree at below at-same below-same None [] ∙ refl

-- a key with the names that lead to it from the root on, as given
text-inner : entries_text (root_shown None tree) tree (codes "A" ∷ codes "C" ∷ []) ≡
    codes "Windows Registry Editor Version 5.00\r\n\r\n[Root\\a\\c]\r\n\r\n[Root\\a\\c\\d e]\r\n\"w\"=hex:09\r\n\r\n"
unfolding text_by root_by keys_by behind_by told_by heading key_line quoted hex_from hex_head plain_data digits utf16_chars hex_on_literals
text-inner = text-same tree at below at-same below-same None (codes "A" ∷ codes "C" ∷ []) ∙ refl

-- with a front of two names, which stands in each line of a key for the root's name
text-fronted : entries_text (root_shown (Some (codes "HKLM\\It")) tree) tree [] ≡
    codes "Windows Registry Editor Version 5.00\r\n\r\n[HKLM\\It]\r\n\r\n[HKLM\\It\\a]\r\n\"v\"=dword:00000001\r\n@=\"H\"\r\n\r\n[HKLM\\It\\a\\c]\r\n\r\n"
    ++ codes "[HKLM\\It\\a\\c\\d e]\r\n\"w\"=hex:09\r\n\r\n[HKLM\\It\\B]\r\n\r\n"
unfolding text_by root_by keys_by behind_by told_by heading key_line quoted hex_from hex_head plain_data digits utf16_chars hex_on_literals
text-fronted = text-same tree at below at-same below-same (Some (codes "HKLM\\It")) [] ∙ refl

-- of a key below the root
text-fronted_inner : entries_text (root_shown (Some (codes "HKLM\\It")) tree) tree (codes "A" ∷ codes "C" ∷ []) ≡
    codes "Windows Registry Editor Version 5.00\r\n\r\n[HKLM\\It\\a\\c]\r\n\r\n[HKLM\\It\\a\\c\\d e]\r\n\"w\"=hex:09\r\n\r\n"
unfolding text_by root_by keys_by behind_by told_by heading key_line quoted hex_from hex_head plain_data digits utf16_chars hex_on_literals
text-fronted_inner = text-same tree at below at-same below-same (Some (codes "HKLM\\It")) (codes "A" ∷ codes "C" ∷ []) ∙ refl

-- ---- fronts

front-plain : can_stand (Some (codes "HKEY_LOCAL_MACHINE\\SOFTWARE")) ≡ true
front-plain = refl

front-none : can_stand None ≡ true
front-none = refl

front-empty : can_stand (Some []) ≡ false
front-empty = refl

-- a CR, an LF, a zero, and the first character that isn't of ASCII
front-return : can_stand (Some (codes "A\rB")) ≡ false
front-return = refl

front-feed : can_stand (Some (codes "A\n")) ≡ false
front-feed = refl

front-zero : can_stand (Some (65 ∷ 0 ∷ [])) ≡ false
front-zero = refl

front-wide : can_stand (Some (65 ∷ 128 ∷ [])) ≡ false
front-wide = refl

front-neighbours : can_stand (Some (1 ∷ 9 ∷ 11 ∷ 12 ∷ 14 ∷ 34 ∷ 91 ∷ 93 ∷ 127 ∷ [])) ≡ true
front-neighbours = refl

-- ---- names that can't be written

abbrev told : List (List ℕ) → List ℕ → Told
told names value = record { names = names; key = key [] (record { name = value; kind = 0; bytes = [] } ∷ []) }

writable-plain : is_writable (told (codes "Root" ∷ codes "a" ∷ []) (codes "v")) ≡ true
writable-plain = refl

-- a CR in the root's name, an LF in the name of the key, and one in a value's
writable-root : is_writable (told (codes "Ro\rot" ∷ codes "a" ∷ []) (codes "v")) ≡ false
writable-root = refl

writable-key : is_writable (told (codes "Root" ∷ codes "a\n" ∷ []) (codes "v")) ≡ false
writable-key = refl

writable-value : is_writable (told (codes "Root" ∷ codes "a" ∷ []) (codes "\nv")) ≡ false
writable-value = refl

writable-neighbours : is_line_name (9 ∷ 11 ∷ 12 ∷ 14 ∷ []) ≡ true
writable-neighbours = refl

-- ---- bytes

-- a letter, U+00E9, U+20AC and U+1F600
bytes-wide : file_bytes false (97 ∷ 233 ∷ 8364 ∷ 55357 ∷ 56832 ∷ []) ≡ 255 ∷ 254 ∷ 97 ∷ 0 ∷ 233 ∷ 0 ∷ 172 ∷ 32 ∷ 61 ∷ 216 ∷ 0 ∷ 222 ∷ []
unfolding file_bytes encoded
bytes-wide = refl

bytes-narrow : file_bytes true (97 ∷ 233 ∷ 8364 ∷ 55357 ∷ 56832 ∷ []) ≡ 97 ∷ 195 ∷ 169 ∷ 226 ∷ 130 ∷ 172 ∷ 240 ∷ 159 ∷ 152 ∷ 128 ∷ []
unfolding file_bytes encoded utf16_chars lib.Utf8.encode
bytes-narrow = refl
