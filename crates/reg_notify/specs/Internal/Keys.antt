-- The texts by which watches are found: by a key's path, the kinds of events and the number, and by a handle and the number.
use Rattle.std.specs.Prelude.{◌≡◌, ℕ, ◌+◌, ◌%◌, ◌==◌, ◌&&◌, ◌||◌, not, nat_le, Bool, true, List, [], ◌∷◌, ◌++◌, if◌then◌else◌, bit_and}
use Rattle.std.specs.Int.{to_be_bytes, w64}
use Rattle.std.specs.List.{list_all, AllByRecursion}
use Rattle.reg_names.specs.Names.{is_key_name_byte}
use Rattle.reg_heap.specs.Paths.{Path}
use Rattle.reg_model.specs.declared.filters.TheConstants.{EVENTS}

-- a path as it begins a text: a backslash before each name
abbrev pub lead_of : Path → List ℕ
lead_of [] = []
lead_of (name ∷ names) = 92 ∷ name ++ lead_of names

-- names of bytes that a key's name may have: neither 0 nor a backslash
abbrev pub IsClean : Path → Type 0
IsClean p = AllByRecursion (λ (name : List ℕ). list_all is_key_name_byte name ≡ true) p

-- the kinds of events that a watch waits for, and 16 where the keys below are watched too
abbrev pub class_of : ℕ → Bool → ℕ
class_of filter subtree = bit_and filter EVENTS + (if subtree then 16 else 0)

-- whether watches of a class are hit by events of these kinds, at their key or below it
abbrev pub is_met : ℕ → Bool → ℕ → Bool
is_met bits itself class = not (bit_and (class % 16) bits == 0) && (itself || nat_le 16 class)

-- the text of a watch: the path, 0, the class and the number
abbrev pub key_text : Path → ℕ → ℕ → List ℕ
key_text p class number = lead_of p ++ 0 ∷ class ∷ to_be_bytes w64 number

-- the text of a watch by its handle
abbrev pub handle_text : ℕ → ℕ → List ℕ
handle_text handle number = to_be_bytes w64 handle ++ to_be_bytes w64 number
