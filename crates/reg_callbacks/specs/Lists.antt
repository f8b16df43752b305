-- The callbacks of a hive, as its callers see them.
use Rattle.std.specs.Prelude.{ℕ, List, map}
use Rattle.reg_callbacks.specs.declared.row.Row.{Row}
use Rattle.reg_callbacks.specs.declared.callbacks.Callbacks.{Callbacks}
use Rattle.reg_callbacks.specs.Asking.{Answers}

-- the registrations that weren't taken out, the highest altitude first
abbrev pub rows_of : {C : Type 0} → Callbacks C → List (Row C)
rows_of callbacks = callbacks.rows.items

abbrev pub altitudes_of : {C : Type 0} → Callbacks C → List ℕ
altitudes_of callbacks = map (λ row. row.altitude) callbacks.rows.items

abbrev pub cookies_of : {C : Type 0} → Callbacks C → List ℕ
cookies_of callbacks = map (λ row. row.cookie) callbacks.rows.items

-- what they answer, where each callback answers so
abbrev pub answers_of : {C : Type 0} → (C → Answers) → Callbacks C → List Answers
answers_of answers callbacks = map (λ row. answers row.callback) callbacks.rows.items

-- how many registrations were made, with those that were taken out again: the next cookie
abbrev pub made_of : {C : Type 0} → Callbacks C → ℕ
made_of callbacks = callbacks.made
