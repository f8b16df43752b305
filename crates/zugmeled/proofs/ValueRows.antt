-- What is told of a value is that of the value at its index.
use Rattle.std.proofs.Common.{◌≡◌, ℕ, ◌+◌, List, [], ◌++◌, Some, length, get_or, slice_get, sym, subst, ap, ap₂, ◌∙◌, add-zero, length-append}
use Rattle.std.proofs.lemmas.List.{get_or-drop}
use Rattle.std.proofs.lemmas.Option.{get_or_from_slice_get, same_Some}
use Rattle.reg_heap.specs.Edits.{values_at}
use Rattle.reg_heap.specs.Paths.{Path, Member, Tree}
use Rattle.reg_values.specs.ValueLists.{Tells}
use Rattle.zugmeled.specs.Lists.{values_from}

pub no_value : Member
no_value = record { name = []; kind = 0; bytes = [] }

-- how long a value's name and data are together
pub told-long : (m : Member) (name : List ℕ) (kind size : ℕ) → Tells m name kind size → length name + size ≡ length (m.name ++ m.bytes)
told-long m name kind size told = ap₂ (λ (a b : ℕ). a + b) (ap length told.name_is) told.size_is ∙ sym (length-append m.name m.bytes)

-- the value at an index is one
pub tells-any : (values : List Member) (index : ℕ) (m other : Member) (name : List ℕ) (kind size : ℕ) → slice_get values index ≡ Some m →
    Tells m name kind size → slice_get values index ≡ Some other → Tells other name kind size
tells-any values index m other name kind size here told is = subst (λ (v : Member). Tells v name kind size) (same_Some m other (sym here ∙ is)) told

pub value-at : (index n : ℕ) (t : Tree) (p : Path) (m : Member) → slice_get (values_at t p) (index + n) ≡ Some m →
    get_or (values_from index t p) n no_value ≡ m
value-at index n t p m is = get_or-drop index (values_at t p) n no_value ∙ get_or_from_slice_get (values_at t p) (index + n) m no_value is

pub first-value : (index : ℕ) (t : Tree) (p : Path) (m : Member) → slice_get (values_at t p) index ≡ Some m → get_or (values_from index t p) 0 no_value ≡ m
first-value index t p m is =
    get_or-drop index (values_at t p) 0 no_value ∙ ap (λ (n : ℕ). get_or (values_at t p) n no_value) (add-zero index)
    ∙ get_or_from_slice_get (values_at t p) index m no_value is
