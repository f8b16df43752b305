-- Which rows events hit.
use Rattle.std.specs.Prelude.{ℕ, ◌&&◌, ◌||◌, Bool, true, false, List, [], ◌∷◌, ◌++◌, zero, suc}
use Rattle.reg_notify.specs.declared.table.Row.{Row}
use Rattle.reg_notify.specs.declared.asked.Event.{Event}
use Rattle.reg_notify.specs.declared.asked.Removed.{Removed}
use Rattle.reg_model.specs.Internal.TextNumbers.{goes_on}
use Rattle.reg_heap.specs.Paths.{Path}
use Rattle.std.specs.List.{list_any}
use Rattle.reg_heap.specs.Edits.{is_under}
use Rattle.reg_model.specs.Worlds.{same_path}
use Rattle.reg_notify.specs.Internal.Keys.{is_met, class_of}
use Rattle.reg_notify.specs.Internal.Rows.{place_of}
use Rattle.reg_notify.specs.Asked.{removed_by}

-- of a class that events of these kinds hit, at a place, by its text
abbrev pub of_class : List ℕ → ℕ → Bool → ℕ → ℕ × Row → Bool
of_class text bits itself class e = is_met bits itself class && goes_on (text ++ 0 ∷ class ∷ []) (place_of e.0 e.1)

-- of one of so many classes
unfoldable pub any_class : ℕ → List ℕ → ℕ → Bool → ℕ × Row → Bool
any_class zero text bits itself e = false
any_class (suc k) text bits itself e = any_class k text bits itself e || of_class text bits itself k e

-- at the place of an event
abbrev pub hit_itself : Path → ℕ → ℕ × Row → Bool
hit_itself p bits e = same_path e.1.place p && is_met bits true (class_of e.1.filter e.1.subtree)

-- above it
abbrev pub hit_above : Path → ℕ → ℕ × Row → Bool
hit_above p bits e = is_under e.1.place p && is_met bits false (class_of e.1.filter e.1.subtree)

-- either
abbrev pub is_event_hit : Path → ℕ → ℕ × Row → Bool
is_event_hit p bits e = hit_itself p bits e || hit_above p bits e

-- one of some events hits
abbrev pub any_event : List Event → ℕ × Row → Bool
any_event events e = list_any (λ (x : Event). is_event_hit x.place x.bits e) events

-- the row's key is removed
abbrev pub is_gone : Removed → ℕ × Row → Bool
is_gone removed e = removed_by removed e.1.place
