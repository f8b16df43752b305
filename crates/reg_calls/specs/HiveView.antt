-- A hive, as its callers see it.
use Rattle.std.specs.Prelude.{ℕ, List, ◌+◌, ◌*◌, ◌/◌}
use Rattle.reg_arena.specs.NewCells.{cell_size}
use Rattle.reg_model.specs.Callbacks.{Callbacks as Asked}
use Rattle.reg_callbacks.specs.declared.callbacks.Callbacks.{Callbacks}
use Rattle.reg_callbacks.specs.Asking.{Answers, asks}
use Rattle.reg_callbacks.specs.Lists.{answers_of}
use Rattle.reg_calls.specs.declared.hive.Hive.{Hive}
use Rattle.reg_calls.specs.Views.{View}

-- the hive without its callbacks
abbrev pub view_of : {C : Type 0} → Hive C → View
view_of h = h.core.view

-- of each session that has a seat, how many entries it had before the journal began
abbrev pub noted_of : {C : Type 0} → Hive C → List ℕ
noted_of h = h.core.noted

-- the callbacks that are registered on it
abbrev pub callbacks_of : {C : Type 0} → Hive C → Callbacks C
callbacks_of h = h.callbacks

-- what they answer, where each callback answers so: to a session's call, at a moment, of the key at a path
abbrev pub asks_of : {C : Type 0} → (C → Answers) → Hive C → Asked
asks_of answers h = asks (answers_of answers (callbacks_of h))

-- the size of a new hive's one bin, for a root's name and a descriptor of so many bytes: the least multiple of 4,096 that holds its
-- header of 32 bytes, the root's key node and its security (Suhanov, "Hive bin", "Cell", "Key node", "Key security")
abbrev pub new_size : ℕ → ℕ → ℕ
new_size name descriptor = (32 + cell_size (76 + name) + cell_size (20 + descriptor) + 4095) / 4096 * 4096
