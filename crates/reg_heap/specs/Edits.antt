-- Keys changed in a tree (Win32 registry reference, `RegCreateKeyEx`, `RegDeleteKey`, `RegSetValueEx`, `RegDeleteValue`,
-- `RegSetKeySecurity`, `RegDeleteTree`).
use Rattle.std.specs.Prelude.{◌≡◌, ◌⊎◌, ℕ, ◌+◌, ◌-◌, ◌==◌, ◌&&◌, ◌||◌, nat_lt, nat_le, not, Bool, false, List, [], ◌∷◌, ◌++◌, map, length, take, cond}
use Rattle.std.specs.Prelude.{is_some, bit_and, bytes_eq, Option, Some, None, unwrap_or}
use Rattle.std.specs.List.{starts_with, list_any}
use Rattle.std.specs.FinMap.{get, insert, remove, retain_keys, keys}
use Rattle.reg_names.specs.declared.TheConstants.{PATH_LIMIT}
use Rattle.reg_names.specs.Names.{folded, path_of}
use Rattle.reg_heap.specs.declared.limits.TheConstants.{MADE_LIMIT, SUBKEYS_LIMIT}
use Rattle.reg_heap.specs.declared.marks.TheConstants.{NO_DELETE}
use Rattle.reg_heap.specs.Paths.{Path, Tree, Rec, Member, children_of}
use Rattle.reg_heap.specs.Members.{values_with, values_without}

abbrev pub values_of : Option Rec → List Member
values_of None = []
values_of (Some r) = r.values

-- the values of the key at a path
abbrev pub values_at : Tree → Path → List Member
values_at t p = values_of (get t p)

-- a key with a value set, or without one, at a moment
abbrev pub with_value : List ℕ → ℕ → List ℕ → ℕ → Rec → Rec
with_value name kind bytes moment r = record r { time = moment; values = values_with name kind bytes r.values }

abbrev pub without_value : List ℕ → ℕ → Rec → Rec
without_value name moment r = record r { time = moment; values = values_without name r.values }

-- a key with another descriptor, set at a moment
abbrev pub with_descriptor : List ℕ → ℕ → Rec → Rec
with_descriptor descriptor moment r = record r { time = moment; descriptor = descriptor }

-- the key at a path changed
abbrev pub edited : Tree → Path → (Rec → Rec) → Tree
edited t p f = put (get t p)
  where
    put : Option Rec → Tree
    put None = t
    put (Some r) = insert t p (f r)

-- ---- keys made and deleted

-- a path that is written as text, folded
abbrev pub folded_path : List ℕ → Path
folded_path text = map folded (path_of text)

-- the path of the key of that name right below one
abbrev pub child_path : Path → List ℕ → Path
child_path p name = p ++ folded name ∷ []

abbrev pub descriptor_of : Option Rec → List ℕ
descriptor_of None = []
descriptor_of (Some r) = r.descriptor

-- a key whose last write time is a moment
abbrev pub at_time : ℕ → Rec → Rec
at_time moment r = record r { time = moment }

-- a made key: the name as given, no marks, no class, a descriptor, the moment, no values
abbrev pub made_key : List ℕ → List ℕ → ℕ → Rec
made_key name descriptor moment = record { name = name; marks = 0; class = []; descriptor = descriptor; time = moment; values = [] }

-- a key made right below another, which has its time set: with the descriptor that is given, or else the other's
abbrev pub with_key : Tree → Path → List ℕ → Option (List ℕ) → ℕ → Tree
with_key t p name given moment = insert (edited t p (at_time moment)) (child_path p name) (made_key name (unwrap_or given (descriptor_of (get t p))) moment)

-- whether a key of that name is right below one
abbrev pub has_child : Tree → Path → List ℕ → Bool
has_child t p name = is_some (get t (child_path p name))

-- what is given, where no name is left
abbrev pub if_last : List (List ℕ) → Option (List ℕ) → Option (List ℕ)
if_last [] given = given
if_last (name ∷ names) given = None

-- of keys named one below the other, those that are missing made, and the last of these with the descriptor that is given, if one is
abbrev pub with_keys : Tree → Path → List (List ℕ) → Option (List ℕ) → ℕ → Tree
with_keys t p [] given moment = t
with_keys t p (name ∷ names) given moment =
    with_keys (cond (has_child t p name) t (with_key t p name (if_last names given) moment)) (child_path p name) names given moment

-- of keys named one below the other, the names of those that are missing
abbrev pub missing : Tree → Path → List (List ℕ) → List (List ℕ)
missing t p [] = []
missing t p (name ∷ names) = cond (has_child t p name) (missing t (child_path p name) names) (name ∷ names)

-- the path of the last of them that is there
abbrev pub last_there : Tree → Path → List (List ℕ) → Path
last_there t p [] = p
last_there t p (name ∷ names) = cond (has_child t p name) (last_there t (child_path p name) names) p

-- one is missing, and they would be too many: more than 32 made by one call, a path of more than 512 names, or a 60,001st key
-- right below one
abbrev pub are_too_many : Tree → Path → List (List ℕ) → Bool
are_too_many t p names =
    nat_lt 0 (length (missing t p names)) && (nat_lt MADE_LIMIT (length (missing t p names)) || nat_lt PATH_LIMIT
    (length p + length names) || nat_le SUBKEYS_LIMIT (length (children_of t (last_there t p names))))

-- the path of the key above
abbrev pub above : Path → Path
above p = take (length p - 1) p

-- a key removed, and the time of the one above it set
abbrev pub without_key : Tree → Path → ℕ → Tree
without_key t p moment = remove (edited t (above p) (at_time moment)) p

abbrev pub marks_of : Option Rec → ℕ
marks_of None = 0
marks_of (Some r) = r.marks

-- a key that may not be deleted: the root, or one with mark 0x08
abbrev pub IsKept : Tree → Path → Type 0
IsKept t p = (p ≡ []) ⊎ ((bit_and (marks_of (get t p)) NO_DELETE == 0) ≡ false)

-- whether a key has mark 0x08
abbrev pub is_marked : Tree → Path → Bool
is_marked t p = not (bit_and (marks_of (get t p)) NO_DELETE == 0)

-- a key that has subkeys, or mark 0x08
abbrev pub may_not_go : Tree → Path → Bool
may_not_go t p = nat_lt 0 (length (children_of t p)) || is_marked t p

-- ---- whole trees deleted

-- whether a path is p or below it
abbrev pub is_within : Path → Path → Bool
is_within p q = starts_with bytes_eq q p

-- whether a path is below p
abbrev pub is_under : Path → Path → Bool
is_under p q = is_within p q && nat_lt (length p) (length q)

-- a key removed with all keys below it, and the time of the one above it set
abbrev pub without_tree : Tree → Path → ℕ → Tree
without_tree t p moment = retain_keys (edited t (above p) (at_time moment)) (λ (q : Path). not (is_within p q))

-- a key with none of its values left, at a moment
abbrev pub without_values : ℕ → Rec → Rec
without_values moment r = record r { time = moment; values = [] }

-- a key that has subkeys, or values
abbrev pub has_contents : Tree → Path → Bool
has_contents t p = nat_lt 0 (length (children_of t p)) || nat_lt 0 (length (values_at t p))

-- all keys below a key removed, and its values; its time is set where it had any of them
abbrev pub emptied : Tree → Path → ℕ → Tree
emptied t p moment = cond (has_contents t p) (retain_keys (edited t p (without_values moment)) (λ (q : Path). not (is_under p q))) t

-- whether a key at or below a path has mark 0x08
abbrev pub any_kept_within : Tree → Path → Bool
any_kept_within t p = list_any (λ (q : Path). is_within p q && is_marked t q) (keys t)

-- whether a key below a path has mark 0x08
abbrev pub any_kept_under : Tree → Path → Bool
any_kept_under t p = list_any (λ (q : Path). is_under p q && is_marked t q) (keys t)
