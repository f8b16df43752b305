-- The refusal that a change would meet.
use Rattle.std.specs.Prelude.{◌≡◌, ◌⊎◌, ◌<◌, ◌≤◌, ℕ, Option, Some, None}
use Rattle.reg_model.specs.declared.limits.TheConstants.{SESSIONS_LIMIT}
use Rattle.reg_model.specs.declared.statuses.TheConstants.{INVALID_HANDLE, INVALID_PARAMETER}
use Rattle.reg_model.specs.declared.call.Change.{Change}
use Rattle.reg_model.specs.Causes.{change_cause}
use Rattle.reg_model.specs.Callbacks.{change_status}
use Rattle.reg_calls.specs.Views.{state}
use Rattle.zugmeled.specs.Held.{HeldHive}
use Rattle.zugmeled.specs.Calls.{seen, asks, ChangeTakesMemory}
use Rattle.zugmeled.specs.Told.{or_zero}

-- the first cause by which a change is refused
abbrev pub cause_at : HeldHive → ℕ → ℕ → Change → Option ℕ
cause_at held session moment change =
    change_cause (state (seen held)) session change (change_status (asks held) (state (seen held)).world session moment change)

-- a copy of a change takes memory, where there is a change
unfoldable pub MayTakeMemory : Option Change → Type 0
MayTakeMemory None = ⊥
MayTakeMemory (Some change) = ChangeTakesMemory change

-- 87 of a session from 64 on, and of a change that is none; else the first cause, or 0
abbrev pub IsCauseOf : HeldHive → ℕ → ℕ → Option Change → ℕ → Type 0
IsCauseOf held session moment None status = status ≡ INVALID_PARAMETER
IsCauseOf held session moment (Some change) status =
    ((SESSIONS_LIMIT ≤ session) × (status ≡ INVALID_PARAMETER))
    ⊎ ((session < SESSIONS_LIMIT) × (status ≡ or_zero (cause_at held session moment change)))

-- so of the hive that C holds; with no hive 6
abbrev pub IsCause : Option HeldHive → ℕ → ℕ → Option Change → ℕ → Type 0
IsCause None session moment change status = status ≡ INVALID_HANDLE
IsCause (Some held) session moment change status = IsCauseOf held session moment change status
