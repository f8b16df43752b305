-- What a plan holds of the lines that it was told.
use Rattle.std.specs.Prelude.{◌≡◌, ℕ, ◌==◌, max, if◌then◌else◌, List, length}
use Rattle.reg_sessions.specs.declared.job.Ask.{Ask}
use Rattle.reg_sessions.specs.declared.job.Ask.TheVariants.{Call, TakeNotice}
use Rattle.reg_script.specs.LineMeanings.{Meaning, asks, takes_notice}
use Rattle.reg_workers.specs.declared.plan.Plan.{Plan}
use Rattle.reg_workers.specs.Tasks.{Settings, first_settings, set_by, settings_after, task_of, tasks_of, sessions_named, sessions_of}
use Rattle.reg_workers.specs.Internal.Parts.{part_with, part_of, part_at}

abbrev pub settings_of : Plan → Settings
settings_of plan = record { moment = plan.moment; session = plan.session; hive = plan.hive }

-- the meaning of a line that asks for this
abbrev pub meaning_asking : Ask → Meaning
meaning_asking (Call call) = asks call
meaning_asking TakeNotice = takes_notice

-- a line of this meaning was added
pub record IsPlanned (meaning : Meaning) (old new : Plan) : Type 0 where
  pub hives : new.hives ≡ old.hives
  pub settings : settings_of new ≡ set_by (settings_of old) meaning
  pub count : length new.parts.items ≡ max (length old.parts.items) (sessions_named meaning)
  pub parts : (s : ℕ) → part_at s new.parts.items
      ≡ (if old.session == s then part_with (part_at s old.parts.items) (task_of (settings_of old) meaning) else part_at s old.parts.items)

-- a plan is that of these lines, on so many hives
pub record IsPlanOf (hives : ℕ) (lines : List (List ℕ)) (plan : Plan) : Type 0 where
  pub is_hives : plan.hives ≡ hives
  pub settings : settings_of plan ≡ settings_after hives lines first_settings
  pub count : length plan.parts.items ≡ sessions_of hives lines
  pub parts : (s : ℕ) → part_at s plan.parts.items ≡ part_of (tasks_of hives s lines first_settings)
