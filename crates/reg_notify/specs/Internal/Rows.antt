-- What the rows of a table stand for, and the texts by which they are found.
use Rattle.std.specs.Prelude.{◌≡◌, ℕ, ◌+◌, ◌<◌, ◌^◌, ◌==◌, if◌then◌else◌, List, [], ◌∷◌, map, Option, Some}
use Rattle.std.specs.Ordering.{nat_cmp}
use Rattle.std.specs.BTreeMap.{is_at}
use Rattle.std.specs.Map.{lookup, keys_of}
use Rattle.std.specs.List.Sorted.{IsStrictlySortedBy}
use Rattle.reg_model.specs.declared.limits.TheConstants.{SESSIONS_LIMIT}
use Rattle.reg_model.specs.Watches.{Watch}
use Rattle.reg_notify.specs.declared.table.Row.{Row}
use Rattle.reg_notify.specs.Internal.Keys.{IsClean, class_of, key_text, handle_text}

abbrev pub watch_at : ℕ × Row → Watch
watch_at e = record { number = e.0; session = e.1.session; handle = e.1.handle; path = e.1.place; filter = e.1.filter; subtree = e.1.subtree }

abbrev pub watches_at : List (ℕ × Row) → List Watch
watches_at es = map watch_at es

-- the row of a number
abbrev pub row_at : ℕ → List (ℕ × Row) → Option Row
row_at number es = lookup (is_at (nat_cmp number)) es

-- how many rows the session has
abbrev pub rows_of : ℕ → List (ℕ × Row) → ℕ
rows_of session [] = 0
rows_of session (e ∷ es) = (if e.1.session == session then 1 else 0) + rows_of session es

-- a row within the limits
pub record IsRow (number : ℕ) (r : Row) : Type 0 where
  pub clean : IsClean r.place
  pub session : r.session < SESSIONS_LIMIT
  pub small : number < 2 ^ 64
  pub handle : r.handle < 2 ^ 64

-- each row is found by its text, and nothing else is
pub record IsIndex (text_of : ℕ → Row → List ℕ) (es : List (ℕ × Row)) (index : List ℕ → Option ℕ) : Type 0 where
  pub placed : (number : ℕ) (r : Row) → row_at number es ≡ Some r → index (text_of number r) ≡ Some number
  pub listed : (text : List ℕ) (number : ℕ) → index text ≡ Some number → (r : Row) × (row_at number es ≡ Some r) × (text_of number r ≡ text)

-- the text of a row by its place, and by its handle
abbrev pub place_of : ℕ → Row → List ℕ
place_of number r = key_text r.place (class_of r.filter r.subtree) number

abbrev pub holder_of : ℕ → Row → List ℕ
holder_of number r = handle_text r.handle number

-- the rows rise and are within the limits, and each is found by its two texts
pub record IsTable (es : List (ℕ × Row)) (places handles : List ℕ → Option ℕ) : Type 0 where
  pub rising : IsStrictlySortedBy nat_cmp (keys_of es)
  pub fits : (number : ℕ) (r : Row) → row_at number es ≡ Some r → IsRow number r
  pub by_place : IsIndex place_of es places
  pub by_handle : IsIndex holder_of es handles
