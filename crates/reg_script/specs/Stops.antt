-- Where a script ends with a fault (this project's own rules of the script).
use Rattle.std.specs.Prelude.{◌≡◌, ◌≢◌, ℕ, ◌+◌, min, ◌<◌, ◌≤◌, ◌⊎◌, List, [], ◌∷◌, ◌++◌, length, take, Option}
use Rattle.std.specs.List.{AllByRecursion}
use Rattle.std.specs.Io.KnownBytes.{Appends, Consumes, IsAtEnd}
use Rattle.reg_script.specs.declared.engine.TheConstants.{LINES_LIMIT, LINE_LIMIT}
use Rattle.reg_model.specs.Callbacks.{Callbacks, no_callbacks}
use Rattle.reg_calls.specs.Views.{View}
use Rattle.reg_script.specs.declared.engine.ScriptFault.{ScriptFault}
use Rattle.reg_script.specs.declared.engine.ScriptFault.TheVariants.{Read, Write, TooLong, Memory}
use Rattle.reg_script.specs.LineWords.{lines_of}
use Rattle.reg_script.specs.Lines.{Stand, begins_at, AreSaid, IsFresh}

-- a count of 64 bits, which stays at its end
abbrev pub counted : ℕ → ℕ → ℕ
counted before count = min (before + count) 18446744073709551615

-- the number of a fault
abbrev pub fault_number : ScriptFault → ℕ
fault_number Read = 1
fault_number (Write written) = 2
fault_number TooLong = 3
fault_number Memory = 4

-- the longest line of a script, in bytes without its LF
unfoldable pub longest_line : ℕ
longest_line = LINE_LIMIT

-- how many lines a script has at most
unfoldable pub most_lines : ℕ
most_lines = LINES_LIMIT

-- no byte is an LF
abbrev pub HasNoFeed : List ℕ → Type 0
HasNoFeed [] = Unit {0}
HasNoFeed (b ∷ bs) = (b ≢ 10) × HasNoFeed bs

-- lines within the bounds of a script
pub record AreWithin (lines : List (List ℕ)) : Type 0 where
  pub few : length lines ≤ most_lines
  pub short : AllByRecursion (λ (line : List ℕ). length line ≤ longest_line) lines

-- the first line of some bytes passes the bound of a line
pub record IsTooLong (bytes : List ℕ) : Type 0 where
  pub line : List ℕ
  pub more : List ℕ
  pub bytes_are : bytes ≡ line ++ more
  pub no_feed : HasNoFeed line
  pub long : longest_line < length line

-- after so many lines, what follows them passes a bound
abbrev pub PassesBound : ℕ → List ℕ → Type 0
PassesBound lines rest = ((lines ≡ most_lines) × (0 < length rest)) ⊎ IsTooLong rest

-- the writer took just so many of the first bytes of the replies, which the fault counts
pub record IsTaken (before after : Option (List ℕ)) (text : List ℕ) (written : ℕ) : Type 0 where
  pub count : ℕ
  pub within : count ≤ length text
  pub appends : Appends before after (take count text)
  pub counts : written ≡ counted 0 count

-- no byte, or the last one is an LF
abbrev pub EndsWithFeed : List ℕ → Type 0
EndsWithFeed bytes = (bytes ≡ []) ⊎ ((front : List ℕ) × (bytes ≡ front ++ 10 ∷ []))

-- what each fault leaves of what was read: answered lines, each with its LF, which after a failed write the last may lack at the
-- reader's end; and a rest: the line that wasn't read to its end where a read failed, and what passes a bound where that is the fault
abbrev pub IsLeft : ScriptFault → (lines rest : List ℕ) → Option (List ℕ) → Type 0
IsLeft Read lines rest left = EndsWithFeed lines × HasNoFeed rest × (PassesBound (length (lines_of lines)) rest → ⊥)
IsLeft (Write written) lines rest left = EndsWithFeed lines ⊎ ((rest ≡ []) × IsAtEnd left)
IsLeft TooLong lines rest left = EndsWithFeed lines × PassesBound (length (lines_of lines)) rest
IsLeft Memory lines rest left = EndsWithFeed lines

-- their replies were written, or after a failed write just what the writer took of them
abbrev pub AreWritten : ScriptFault → List ℕ → (before after : Option (List ℕ)) → Type 0
AreWritten Read text before after = Appends before after text
AreWritten (Write written) text before after = IsTaken before after text written
AreWritten TooLong text before after = Appends before after text
AreWritten Memory text before after = Appends before after text

-- a script that began at this moment ended with a fault: of what was read, some lines were answered, and the rest was not; the hive
-- is as those lines left it, with the callbacks that it had
pub record StopsFrom (begin : ℕ) (fault : ScriptFault) (unread left : Option (List ℕ)) (callbacks : Callbacks) (old new : View)
    (before after : Option (List ℕ)) : Type 0 where
  pub lines : List ℕ
  pub rest : List ℕ
  pub read : Consumes unread left (lines ++ rest)
  pub within : AreWithin (lines_of lines)
  pub text : List ℕ
  pub last : Stand
  pub said : AreSaid (lines_of lines) (begins_at begin callbacks old) text last
  pub stands : IsLeft fault lines rest left
  pub hive : new ≡ last.hive
  pub written : AreWritten fault text before after

-- a script that began at the moment 0 ended with a fault
abbrev pub Stops : ScriptFault → (unread left : Option (List ℕ)) → Callbacks → (old new : View) → (before after : Option (List ℕ)) → Type 0
Stops fault unread left callbacks old new before after = StopsFrom 0 fault unread left callbacks old new before after

-- a script on a fresh hive without callbacks ended with a fault
pub record StopsFresh (fault : ScriptFault) (unread left before after : Option (List ℕ)) : Type 0 where
  pub fresh : View
  pub is_fresh : IsFresh fresh
  pub last : View
  pub stops : Stops fault unread left no_callbacks fresh last before after
