-- Names of keys and values (Win32 registry reference, "Registry Element Size Limits" and "Structure of the Registry"), and
-- their hash (Suhanov, Windows registry file format specification, section "Subkeys list").
use Rattle.std.specs.Prelude.{◌≡◌, ◌<◌, true, ℕ, ◌+◌, ◌-◌, ◌*◌, ◌%◌, ◌==◌, ◌&&◌, not, nat_lt, nat_le, Bool, List, [], ◌∷◌, map, take, length}
use Rattle.std.specs.Prelude.{if◌then◌else◌, Option, Some, None}
use Rattle.std.specs.List.{list_all, fold as fold_list, slice_split, join_with_byte}
use Rattle.std.specs.Option.{option_or}
use Rattle.std.specs.Ordering.{nat_cmp}
use Rattle.std.specs.declared.cmp.Ordering.{Ordering}
use Rattle.std.specs.Cmp.Lexicographic.{slice_cmp}
use Rattle.reg_names.specs.declared.TheConstants.{KEY_NAME_LIMIT, VALUE_NAME_LIMIT, PATH_LIMIT}
use Rattle.reg_names.specs.declared.NameFault.{NameFault}
use Rattle.reg_names.specs.declared.NameFault.TheVariants.{Empty, BadByte, NameTooLong, TooManyLevels}

-- a letter a to z becomes A to Z, and every other byte stays
abbrev pub fold : ℕ → ℕ
fold b = if nat_le 97 b && nat_le b 122 then b - 32 else b

abbrev pub folded : List ℕ → List ℕ
folded name = map fold name

-- names are ordered by their folded bytes; a prefix comes first
abbrev pub name_cmp : List ℕ → List ℕ → Ordering
name_cmp a b = slice_cmp nat_cmp (folded a) (folded b)

-- a byte of a value's name: a character of the profile
abbrev pub is_value_name_byte : ℕ → Bool
is_value_name_byte b = nat_le 1 b && nat_le b 127

-- a byte of a key's name: such a byte, and no backslash
abbrev pub is_key_name_byte : ℕ → Bool
is_key_name_byte b = is_value_name_byte b && not (b == 92)

-- the fault of the earliest byte at which one arises; the byte past the limit is too many whatever it is
unfoldable pub fault_in : ℕ → (ℕ → Bool) → List ℕ → Option NameFault
fault_in limit is_allowed name =
    if list_all is_allowed (take limit name) then (if nat_lt limit (length name) then Some NameTooLong else None) else Some BadByte

-- a key's name has 1 to 255 bytes
abbrev pub key_name_fault : List ℕ → Option NameFault
key_name_fault name = if length name == 0 then Some Empty else fault_in KEY_NAME_LIMIT is_key_name_byte name

-- a value's name has at most 16,383 bytes; the empty name is the default value's
abbrev pub value_name_fault : List ℕ → Option NameFault
value_name_fault name = fault_in VALUE_NAME_LIMIT is_value_name_byte name

abbrev pub is_key_name : List ℕ → Bool
is_key_name name = list_all is_key_name_byte name && nat_lt 0 (length name) && nat_le (length name) KEY_NAME_LIMIT

abbrev pub is_value_name : List ℕ → Bool
is_value_name name = list_all is_value_name_byte name && nat_le (length name) VALUE_NAME_LIMIT

-- a hash with one more character: 37 times the hash, and the character, modulo 2^32 (section "Subkeys list")
abbrev pub hash_with : ℕ → ℕ → ℕ
hash_with h c = (37 * h + c) % 4294967296

-- the hash of a name in a hash leaf: from 0, with each of its folded bytes in turn (section "Subkeys list")
unfoldable pub hash : List ℕ → ℕ
hash name = fold_list hash_with 0 (folded name)

-- the byte that parts the names of a path
abbrev pub is_backslash : ℕ → Bool
is_backslash c = c == 92

-- the names in a path's text, as they are given: the parts between its backslashes; the empty text has no names
-- (Win32, "Structure of the Registry")
abbrev pub path_of : List ℕ → List (List ℕ)
path_of [] = []
path_of (b ∷ bs) = slice_split is_backslash (b ∷ bs)

-- a path's text: its names, with one backslash between each two
abbrev pub text_of : List (List ℕ) → List ℕ
text_of names = join_with_byte 92 names

-- the fault of the first of some names that is no key's name
abbrev pub first_fault : List (List ℕ) → Option NameFault
first_fault [] = None
first_fault (name ∷ names) = option_or (key_name_fault name) (first_fault names)

-- the fault at the earliest byte of so many names, and of one more, which is too many at its start
unfoldable pub names_fault : ℕ → List (List ℕ) → Option NameFault
names_fault limit names =
    option_or (first_fault (take limit names)) (if nat_lt limit (length names) then Some TooManyLevels else None)

-- a path is a list of at most 512 key names; an empty name's fault is at the backslash or the end that closes it
abbrev pub path_fault : List ℕ → Option NameFault
path_fault text = names_fault PATH_LIMIT (path_of text)

-- at most so many names, each a key's
unfoldable pub are_key_names : ℕ → List (List ℕ) → Bool
are_key_names limit names = list_all is_key_name names && nat_le (length names) limit

abbrev pub is_path : List ℕ → Bool
is_path text = are_key_names PATH_LIMIT (path_of text)

abbrev pub has_no_backslash : List ℕ → Bool
has_no_backslash name = list_all (λ b. not (b == 92)) name

-- a path's first name, and the path behind it
pub record IsFirst (path name rest : List ℕ) : Type 0 where
  pub names : path_of path ≡ name ∷ path_of rest
  pub good : is_key_name name ≡ true
  pub valid : is_path rest ≡ true
  pub shorter : length rest < length path
