-- What the lines of a script give its sessions to do (this project's own rules of the script).
use Rattle.std.specs.Prelude.{ℕ, ◌+◌, ◌==◌, max, if◌then◌else◌, List, [], ◌∷◌, ◌++◌}
use Rattle.reg_sessions.specs.declared.job.Work.{Work}
use Rattle.reg_sessions.specs.declared.job.Ask.TheVariants.{Call, TakeNotice}
use Rattle.reg_script.specs.LineMeanings.{Meaning, nothing, at_moment, as_session, on_hive, asks, takes_notice, bad, meaning_in}

-- what a line goes by: the moment, the session and the hive that are set
pub record Settings : Type 0 where
  pub moment : ℕ
  pub session : ℕ
  pub hive : ℕ

-- those of the first line
abbrev pub first_settings : Settings
first_settings = record { moment = 0; session = 0; hive = 0 }

-- those after a line that means this
abbrev pub set_by : Settings → Meaning → Settings
set_by there nothing = there
set_by there (at_moment moment) = record there { moment = moment }
set_by there (as_session session) = record there { session = session }
set_by there (on_hive hive) = record there { hive = hive }
set_by there (asks call) = there
set_by there takes_notice = there
set_by there bad = there

-- those after some lines, where there are so many hives
abbrev pub settings_after : ℕ → List (List ℕ) → Settings → Settings
settings_after hives [] there = there
settings_after hives (line ∷ lines) there = settings_after hives lines (set_by there (meaning_in hives line))

-- what a line that has a reply gives its session to do: to say that the line is bad, or a work
pub data Task : Type 0 where
  bad_line : Task
  works : Work → Task

-- what a line that means this gives the session that is set to do, at the hive and the moment that are set: nothing, or one task
abbrev pub task_of : Settings → Meaning → List Task
task_of there nothing = []
task_of there (at_moment moment) = []
task_of there (as_session session) = []
task_of there (on_hive hive) = []
task_of there (asks call) = works (record { hive = there.hive; moment = there.moment; ask = Call call }) ∷ []
task_of there takes_notice = works (record { hive = there.hive; moment = there.moment; ask = TakeNotice }) ∷ []
task_of there bad = bad_line ∷ []

-- the tasks that some lines give session s, in order
abbrev pub tasks_of : ℕ → ℕ → List (List ℕ) → Settings → List Task
tasks_of hives s [] there = []
tasks_of hives s (line ∷ lines) there =
    (if there.session == s then task_of there (meaning_in hives line) else [])
    ++ tasks_of hives s lines (set_by there (meaning_in hives line))

-- the works among them
abbrev pub works_of : List Task → List Work
works_of [] = []
works_of (bad_line ∷ tasks) = works_of tasks
works_of (works work ∷ tasks) = work ∷ works_of tasks

-- how many sessions there are at least, where a line means this
abbrev pub sessions_named : Meaning → ℕ
sessions_named nothing = 1
sessions_named (at_moment moment) = 1
sessions_named (as_session session) = session + 1
sessions_named (on_hive hive) = 1
sessions_named (asks call) = 1
sessions_named takes_notice = 1
sessions_named bad = 1

-- how many sessions some lines have: one more than the greatest number that is named, and one where none is
abbrev pub sessions_of : ℕ → List (List ℕ) → ℕ
sessions_of hives [] = 1
sessions_of hives (line ∷ lines) = max (sessions_named (meaning_in hives line)) (sessions_of hives lines)
