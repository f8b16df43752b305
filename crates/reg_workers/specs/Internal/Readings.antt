-- How far a script was read.
use Rattle.std.specs.Prelude.{◌≡◌, ℕ, ◌+◌, ◌<◌, ◌≤◌, ◌⊎◌, List, [], ◌∷◌, ◌++◌, length, Option}
use Rattle.std.specs.List.{AllByRecursion}
use Rattle.std.specs.Io.KnownBytes.{Consumes}
use Rattle.reg_script.specs.declared.engine.ScriptFault.{ScriptFault}
use Rattle.reg_script.specs.declared.engine.ScriptFault.TheVariants.{Read, Write, TooLong, Memory}
use Rattle.reg_script.specs.LineWords.{lines_of}
use Rattle.reg_script.specs.Stops.{longest_line, most_lines, HasNoFeed, AreWithin, PassesBound, EndsWithFeed, IsLeft}
use Rattle.reg_script.specs.Internal.Progress.{with_feeds, IsLine}
use Rattle.reg_workers.specs.declared.plan.Plan.{Plan}
use Rattle.reg_workers.specs.declared.reading.Reading.{Reading}
use Rattle.reg_workers.specs.Internal.Plans.{IsPlanOf}

-- these bytes were read: lines that ended, which the plan holds, and the line that was begun, all within the bounds
pub record IsRead (hives : ℕ) (taken : List ℕ) (reading : Reading) : Type 0 where
  pub ended : List (List ℕ)
  pub splits : taken ≡ with_feeds ended ++ reading.line.items
  pub are_lines : AllByRecursion IsLine ended
  pub counts : reading.lines ≡ length ended
  pub few : reading.lines ≤ most_lines
  pub no_feed : HasNoFeed reading.line.items
  pub short : length reading.line.items ≤ longest_line
  pub one_more : 0 < length reading.line.items → reading.lines < most_lines
  pub plan : IsPlanOf hives ended reading.plan

-- the line that was begun ended: it is counted, and the plan holds it
pub record EndsLine (old new : Reading) : Type 0 where
  pub line : new.line.items ≡ []
  pub lines : old.lines < most_lines → new.lines ≡ old.lines + 1
  pub plan : (hives : ℕ) (lines : List (List ℕ)) → IsPlanOf hives lines old.plan → IsPlanOf hives (lines ++ old.line.items ∷ []) new.plan

-- a whole script was read
pub record IsWhole (hives : ℕ) (script : List ℕ) (plan : Plan) : Type 0 where
  pub within : AreWithin (lines_of script)
  pub planned : IsPlanOf hives (lines_of script) plan

-- some bytes pass a bound behind lines that ended within the bounds
pub record IsPast (bytes : List ℕ) : Type 0 where
  pub lines : List ℕ
  pub rest : List ℕ
  pub bytes_are : bytes ≡ lines ++ rest
  pub within : AreWithin (lines_of lines)
  pub ends : EndsWithFeed lines
  pub passes : PassesBound (length (lines_of lines)) rest

-- a front of some bytes was read behind those that were read before, and these are left
pub record IsFront (hives : ℕ) (taken bytes rest : List ℕ) (reading : Reading) : Type 0 where
  pub front : List ℕ
  pub splits : bytes ≡ front ++ rest
  pub read : IsRead hives (taken ++ front) reading

-- why bytes weren't taken
abbrev pub IsCutShort : ScriptFault → List ℕ → Type 0
IsCutShort fault bytes = (fault ≡ Memory) ⊎ ((fault ≡ TooLong) × IsPast bytes)

-- a fault came among what was read
pub record EndsEarly (fault : ScriptFault) (unread left : Option (List ℕ)) : Type 0 where
  pub lines : List ℕ
  pub rest : List ℕ
  pub read : Consumes unread left (lines ++ rest)
  pub within : AreWithin (lines_of lines)
  pub stands : IsLeft fault lines rest left

-- no read fails by a write
abbrev pub StopsReading : ScriptFault → (unread left : Option (List ℕ)) → Type 0
StopsReading Read unread left = EndsEarly Read unread left
StopsReading (Write written) unread left = ⊥
StopsReading TooLong unread left = EndsEarly TooLong unread left
StopsReading Memory unread left = EndsEarly Memory unread left
