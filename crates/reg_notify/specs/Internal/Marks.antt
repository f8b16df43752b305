-- Marks of the keys that are watched.
use Rattle.std.specs.Prelude.{◌≡◌, ℕ, ◌+◌, ◌*◌, ◌%◌, ◌==◌, ◌&&◌, ◌||◌, Bool, true, false, List, [], ◌∷◌, get_or}
use Rattle.std.specs.List.{AllByRecursion}
use Rattle.reg_notify.specs.declared.marks.TheConstants.{MARKS}
use Rattle.reg_notify.specs.declared.table.Row.{Row}
use Rattle.reg_notify.specs.Internal.Keys.{lead_of}

-- the slot of a text with a byte more
abbrev pub slot_past : ℕ → ℕ → ℕ
slot_past slot byte = (slot * 31 + byte) % MARKS

-- the slot of a text, behind a text of a slot
abbrev pub slot_from : List ℕ → ℕ → ℕ
slot_from [] slot = slot
slot_from (b ∷ bs) slot = slot_from bs (slot_past slot b)

abbrev pub slot_of : List ℕ → ℕ
slot_of text = slot_from text 0

-- whether a slot has a mark, and whether that of a text has
abbrev pub mark_in : List Bool → ℕ → Bool
mark_in slots slot = get_or slots slot false

abbrev pub is_marked : List Bool → List ℕ → Bool
is_marked slots text = mark_in slots (slot_of text)

-- whether a text has a mark, or what of it ends before a backslash; it stands behind a text of a slot
abbrev pub any_from : List ℕ → List Bool → ℕ → Bool
any_from [] slots slot = mark_in slots slot
any_from (b ∷ bs) slots slot = b == 92 && mark_in slots slot || any_from bs slots (slot_past slot b)

-- the key of each row is marked
abbrev pub AreMarked : List Bool → List (ℕ × Row) → Type 0
AreMarked slots es = AllByRecursion (λ (e : ℕ × Row). is_marked slots (lead_of e.1.place) ≡ true) es
