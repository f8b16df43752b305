-- What is written of sessions and hives (this project's own rules of the script).
use Rattle.std.specs.Prelude.{ℕ, zero, suc, Bool, true, false, List, [], ◌∷◌, ◌++◌, codes}
use Rattle.std.specs.Fmt.{decimal}
use Rattle.reg_text.specs.Texts.{line_feed}
use Rattle.reg_sessions.specs.declared.job.Ask.{Ask}
use Rattle.reg_sessions.specs.declared.job.Ask.TheVariants.{Call, TakeNotice}
use Rattle.reg_sessions.specs.declared.job.Done.{Done}
use Rattle.reg_sessions.specs.declared.job.Done.TheVariants.{Outcome, Notice}
use Rattle.reg_script.specs.ReplyTexts.{outcome_text, notice_text}
use Rattle.reg_workers.specs.Tasks.{Task, bad_line, works}

-- the reply to what was asked; an outcome of another kind has none
abbrev pub reply_text : Ask → Done → List ℕ
reply_text (Call call) (Outcome outcome) = outcome_text call outcome
reply_text (Call call) (Notice notice) = []
reply_text TakeNotice (Notice notice) = notice_text notice
reply_text TakeNotice (Outcome outcome) = []

-- the replies to tasks, in order: of each work that of its outcome
abbrev pub replies_text : List Task → List Done → List ℕ
replies_text [] done = []
replies_text (bad_line ∷ tasks) done = codes "bad\n" ++ replies_text tasks done
replies_text (works work ∷ tasks) [] = []
replies_text (works work ∷ tasks) (d ∷ done) = reply_text work.ask d ++ replies_text tasks done

-- what is written of session s: nothing where it has no task
abbrev pub session_text : ℕ → List Task → List Done → List ℕ
session_text s [] done = []
session_text s (task ∷ tasks) done = codes "session " ++ (decimal s ++ (line_feed ++ replies_text (task ∷ tasks) done))

-- what is written of the first n sessions, in order
abbrev pub sessions_text : (ℕ → List Task) → (ℕ → List Done) → ℕ → List ℕ
sessions_text tasks done zero = []
sessions_text tasks done (suc n) = sessions_text tasks done n ++ session_text n (tasks n) (done n)

-- numbers, each behind a space
abbrev pub numbers_text : List ℕ → List ℕ
numbers_text [] = []
numbers_text (n ∷ ns) = codes " " ++ (decimal n ++ numbers_text ns)

-- how many entries each hive has
abbrev pub entries_text : List ℕ → List ℕ
entries_text entries = codes "entries" ++ (numbers_text entries ++ line_feed)

-- whether the hives and the sessions agree
abbrev pub end_text : Bool → List ℕ
end_text true = codes "gathered\n"
end_text false = codes "mismatch\n"
