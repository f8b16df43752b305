-- Notices of the hive that C holds.
use Rattle.std.specs.Prelude.{◌≡◌, ◌⊎◌, ◌<◌, ◌≤◌, ℕ, Option, Some, None}
use Rattle.reg_model.specs.declared.limits.TheConstants.{SESSIONS_LIMIT}
use Rattle.reg_model.specs.declared.statuses.TheConstants.{INVALID_HANDLE, INVALID_PARAMETER}
use Rattle.reg_model.specs.declared.notice.Notice.{Notice}
use Rattle.reg_calls.specs.Views.{IsNoticeTaken}
use Rattle.zugmeled.specs.Held.{HeldHive}
use Rattle.zugmeled.specs.Calls.{seen}
use Rattle.zugmeled.specs.Told.{TellsNotice}

-- no notice goes out
abbrev pub IsNothing : (watch entry reason : ℕ) → Type 0
IsNothing watch entry reason = (watch ≡ 0) × (entry ≡ 0) × (reason ≡ 0)

-- a session's next notice; with no hive 6, else of a session from 64 on 87, and nothing changes
abbrev pub IsNoticeTold : Option HeldHive → Option HeldHive → ℕ → (status watch entry reason : ℕ) → Type 0
IsNoticeTold None new session status watch entry reason = (status ≡ INVALID_HANDLE) × IsNothing watch entry reason × (new ≡ None)
IsNoticeTold (Some old) new session status watch entry reason =
    ((SESSIONS_LIMIT ≤ session) × (status ≡ INVALID_PARAMETER) × IsNothing watch entry reason × (new ≡ Some old))
    ⊎ ((session < SESSIONS_LIMIT) × (held : HeldHive) × (new ≡ Some held)
    × (notice : Option Notice) × IsNoticeTaken (seen old) (seen held) session notice × TellsNotice notice status watch entry reason)
