-- A key's values: a list, in which no two names are the same after folding (Win32 registry reference, `RegSetValueEx`,
-- `RegDeleteValue`).
use Rattle.std.specs.Prelude.{ℕ, suc, Bool, List, [], ◌∷◌, if◌then◌else◌, Option, Some, None}
use Rattle.std.specs.Option.{option_map}
use Rattle.std.specs.Ordering.{is_eq}
use Rattle.reg_names.specs.Names.{name_cmp}
use Rattle.reg_heap.specs.Paths.{Member}

abbrev pub same_name : List ℕ → List ℕ → Bool
same_name a b = is_eq (name_cmp a b)

-- the value of that name, after folding
abbrev pub value_named : List ℕ → List Member → Option Member
value_named name [] = None
value_named name (v ∷ vs) = if same_name v.name name then Some v else value_named name vs

-- the index of the value of that name, counted from 0
abbrev pub index_named : List ℕ → List Member → Option ℕ
index_named name [] = None
index_named name (v ∷ vs) = if same_name v.name name then Some 0 else option_map suc (index_named name vs)

-- a value is replaced in its place and keeps the name that it was first given; a new one goes to the end
abbrev pub values_with : List ℕ → ℕ → List ℕ → List Member → List Member
values_with name kind bytes [] = record { name = name; kind = kind; bytes = bytes } ∷ []
values_with name kind bytes (v ∷ vs) =
    if same_name v.name name then record { name = v.name; kind = kind; bytes = bytes } ∷ vs else v ∷ values_with name kind bytes vs

-- the values without the one of that name
abbrev pub values_without : List ℕ → List Member → List Member
values_without name [] = []
values_without name (v ∷ vs) = if same_name v.name name then vs else v ∷ values_without name vs
