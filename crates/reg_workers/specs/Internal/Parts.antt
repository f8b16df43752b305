-- What is kept of a session's tasks.
use Rattle.std.specs.Prelude.{ℕ, List, [], ◌++◌, map, slice_index_or}
use Rattle.reg_sessions.specs.declared.job.Work.{Work}
use Rattle.reg_workers.specs.declared.part.Reply.{Reply}
use Rattle.reg_workers.specs.declared.part.Reply.TheVariants.{Bad, Worked}
use Rattle.reg_workers.specs.Tasks.{Task, bad_line, works, works_of}

-- a session's tasks: what its lines are told, and its works
pub record PartState : Type 0 where
  pub replies : List Reply
  pub work : List Work

abbrev pub no_part : PartState
no_part = record { replies = []; work = [] }

-- what the line of a task is told
abbrev pub reply_of : Task → Reply
reply_of bad_line = Bad
reply_of (works work) = Worked

-- some tasks more
abbrev pub part_with : PartState → List Task → PartState
part_with part tasks = record { replies = part.replies ++ map reply_of tasks; work = part.work ++ works_of tasks }

-- just these tasks
abbrev pub part_of : List Task → PartState
part_of tasks = record { replies = map reply_of tasks; work = works_of tasks }

-- the part of session s; none where there is no such session
abbrev pub part_at : ℕ → List PartState → PartState
part_at s parts = slice_index_or parts s no_part
