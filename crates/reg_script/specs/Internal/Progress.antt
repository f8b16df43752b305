-- How far a script has come (this project's own).
use Rattle.std.specs.Prelude.{◌≡◌, ℕ, ◌+◌, ◌<◌, ◌≤◌, ◌==◌, ◌⊎◌, Bool, true, false, if◌then◌else◌, List, [], ◌∷◌, ◌++◌, length, Option, Some, string_bytes}
use Rattle.std.specs.List.{AllByRecursion}
use Rattle.std.specs.Io.KnownBytes.{Appends, IsAtEnd}
use Rattle.reg_callbacks.specs.Asking.{Answers}
use Rattle.reg_calls.specs.Views.{View}
use Rattle.reg_calls.specs.HiveView.{view_of, asks_of}
use Rattle.reg_calls.specs.declared.hive.Hive.{Hive}
use Rattle.reg_script.specs.declared.engine.Script.{Script}
use Rattle.reg_script.specs.declared.engine.ScriptFault.{ScriptFault}
use Rattle.reg_script.specs.declared.engine.ScriptFault.TheVariants.{Read, Write, TooLong, Memory}
use Rattle.reg_script.specs.declared.failed.Went.{Went}
use Rattle.reg_script.specs.declared.failed.Went.TheVariants.{Well, Wrong}
use Rattle.reg_script.specs.declared.failed.FailedLine.{FailedLine}
use Rattle.reg_script.specs.declared.failed.StrictFault.{StrictFault}
use Rattle.reg_script.specs.declared.failed.StrictFault.TheVariants.{Script as Of, Line}
use Rattle.reg_script.specs.LineWords.{lines_of}
use Rattle.reg_script.specs.LineMeanings.{Meaning, meaning_of}
use Rattle.reg_script.specs.Lines.{Stand, IsSaid, AreSaid}
use Rattle.reg_script.specs.FailedLines.{wants_entry, one_if, wanting, Fails}
use Rattle.reg_script.specs.Internal.Outputs.{IsCut}
use Rattle.reg_script.specs.Stops.{counted, longest_line, most_lines, HasNoFeed, PassesBound}

-- a byte is an LF
abbrev pub is_feed : ℕ → Bool
is_feed byte = byte == 10

-- a position in a script: where it stands, how many lines have ended, the bytes of the line that hasn't, the replies that were
-- gathered, what the writer holds, the count of what it took, how many lines failed, and whether the script stops at such a line
pub record Position : Type 0 where
  pub stand : Stand
  pub lines : ℕ
  pub begun : List ℕ
  pub gathered : List ℕ
  pub sent : Option (List ℕ)
  pub written : ℕ
  pub failed : ℕ
  pub strict : Bool

abbrev pub stand_of : {C : Type 0} → (C → Answers) → Script → Hive C → Stand
stand_of answers s hive =
    record { hive = view_of hive; callbacks = asks_of answers hive; moment = s.moment; session = s.session.number }

abbrev pub position_of : {C : Type 0} → (C → Answers) → Script → Hive C → Option (List ℕ) → Position
position_of answers s hive sent = record {
  stand = stand_of answers s hive;
  lines = s.lines;
  begun = s.line.items;
  gathered = string_bytes s.output.gathered;
  sent = sent;
  written = s.output.written;
  failed = s.failed;
  strict = s.is_strict;
}

-- the bounds are kept, and the line that was begun has no LF
pub record IsSteady (position : Position) : Type 0 where
  pub no_feed : HasNoFeed position.begun
  pub short : length position.begun ≤ longest_line
  pub few : position.lines ≤ most_lines
  pub one_more : 0 < length position.begun → position.lines < most_lines
  pub count : position.written ≤ 18446744073709551615
  pub few_failed : position.failed ≤ position.lines

-- lines, each with its LF
abbrev pub with_feeds : List (List ℕ) → List ℕ
with_feeds [] = []
with_feeds (line ∷ lines) = line ++ 10 ∷ with_feeds lines

-- a line without an LF in it, within the bound
pub record IsLine (line : List ℕ) : Type 0 where
  pub no_feed : HasNoFeed line
  pub short : length line ≤ longest_line

-- some of the replies were passed on to the writer, and the rest gathered
pub record Passes (old : Position) (replies : List ℕ) (new : Position) : Type 0 where
  pub passed : List ℕ
  pub appends : Appends old.sent new.sent passed
  pub gathers : old.gathered ++ replies ≡ passed ++ new.gathered
  pub counts : new.written ≡ counted old.written (length passed)

-- these bytes were taken: they ended these lines, whose replies were gathered or sent
pub record Takes (old : Position) (bytes : List ℕ) (new : Position) : Type 0 where
  pub steady : IsSteady new
  pub ended : List (List ℕ)
  pub splits : old.begun ++ bytes ≡ with_feeds ended ++ new.begun
  pub are_lines : AllByRecursion IsLine ended
  pub counts : new.lines ≡ old.lines + length ended
  pub replies : List ℕ
  pub said : AreSaid ended old.stand replies new.stand
  pub passes : Passes old replies new
  pub fails : new.failed + length new.stand.hive.journal ≡ old.failed + (wanting ended + length old.stand.hive.journal)
  pub strict : new.strict ≡ old.strict
  pub spares : old.strict ≡ true → new.failed ≡ old.failed

-- bytes join the line that was begun, within the bounds
abbrev pub JoinsWithin : ℕ → List ℕ → List ℕ → Type 0
JoinsWithin lines begun part = (part ≡ []) ⊎ ((lines < most_lines) × (length begun + length part ≤ longest_line))

-- why they don't: a line too many, or one too long; or memory lacks
abbrev pub IsPartFault : ℕ → List ℕ → List ℕ → ScriptFault → Type 0
IsPartFault lines begun part fault = (fault ≡ Memory)
    ⊎ ((fault ≡ TooLong) × (0 < length part) × ((most_lines ≤ lines) ⊎ (longest_line < length begun + length part)))

-- nothing was gathered or sent
pub record IsIdle (old new : Position) : Type 0 where
  pub gathered : new.gathered ≡ old.gathered
  pub sent : new.sent ≡ old.sent
  pub written : new.written ≡ old.written

-- where a fault comes: among the bytes, or past them
pub data Place : Type 0 where
  among : Place
  past : Place

-- it comes past the bytes, and none is behind it
abbrev pub IsBehind : Place → List ℕ → Type 0
IsBehind among back = ⊥
IsBehind past back = back ≡ []

-- a script that stops at such a line ended the line that was begun, which failed: its reply was gathered
pub record FailsHere (old : Position) (failed : FailedLine) (new : Position) : Type 0 where
  pub strict : old.strict ≡ true
  pub reply : List ℕ
  pub fails : Fails (meaning_of old.begun) old.stand reply failed.status
  pub gathered : new.gathered ≡ old.gathered ++ reply
  pub sent : new.sent ≡ old.sent
  pub written : new.written ≡ old.written
  pub hive : new.stand.hive ≡ old.stand.hive
  pub number : old.lines < most_lines → failed.number ≡ old.lines + 1
  pub text : failed.text.items ≡ old.begun

-- a line ended there: its LF is the first of the bytes behind it, or there is none past the last byte
abbrev pub IsEnded : Place → List ℕ → Type 0
IsEnded among back = (more : List ℕ) × (back ≡ 10 ∷ more)
IsEnded past back = ((more : List ℕ) × (back ≡ 10 ∷ more)) ⊎ (back ≡ [])

-- what a fault leaves, where the bytes behind `mid` were not taken
abbrev pub IsFault : Place → StrictFault → Position → List ℕ → Position → Type 0
IsFault place (Of Read) mid back new = IsIdle mid new × IsBehind place back
IsFault place (Of (Write written)) mid back new = IsCut mid.sent new.sent mid.gathered mid.written (Write written)
IsFault place (Of TooLong) mid back new = IsIdle mid new × PassesBound mid.lines (mid.begun ++ back)
IsFault place (Of Memory) mid back new = IsIdle mid new
IsFault place (Line failed) mid back new = FailsHere mid failed new × IsEnded place back × (mid.lines < most_lines)

-- of these bytes a front was taken, and then came a fault
pub record Halts (place : Place) (old : Position) (bytes : List ℕ) (new : Position) (fault : StrictFault) : Type 0 where
  pub mid : Position
  pub front : List ℕ
  pub back : List ℕ
  pub splits : bytes ≡ front ++ back
  pub takes : Takes old front mid
  pub hive : new.stand.hive ≡ mid.stand.hive
  pub faults : IsFault place fault mid back new

-- a line that failed past the last byte was the reader's last
abbrev pub IsAtLast : StrictFault → List ℕ → Option (List ℕ) → Type 0
IsAtLast (Of fault) back left = Unit {0}
IsAtLast (Line failed) back left = back ≡ [] → IsAtEnd left

-- the fault came past the bytes, of which so much was left
pub record HaltsAtEnd (left : Option (List ℕ)) (old : Position) (bytes : List ℕ) (new : Position) (fault : StrictFault) : Type 0 where
  pub halts : Halts past old bytes new fault
  pub last : IsAtLast fault halts.back left

-- a reply was gathered, which leads from one stand to the other in this way
abbrev pub Adds : {C : Type 0} → (C → Answers) → (Stand → List ℕ → Stand → Type 0) → Script → Hive C → Script → Hive C → Type 0
Adds answers way old old_hive new new_hive =
    (reply : List ℕ) × way (stand_of answers old old_hive) reply (stand_of answers new new_hive) ×
    (string_bytes new.output.gathered ≡ string_bytes old.output.gathered ++ reply) × (new.output.written ≡ old.output.written)

-- nothing was gathered, and the hive is as it was
pub record IsUnchanged (old : Script) (old_hive : View) (new : Script) (new_hive : View) : Type 0 where
  pub text : string_bytes new.output.gathered ≡ string_bytes old.output.gathered
  pub written : new.output.written ≡ old.output.written
  pub hive : new_hive ≡ old_hive

-- these were the last bytes, and the replies of all lines were gathered or sent
pub record Ends (old : Position) (bytes : List ℕ) (new : Position) : Type 0 where
  pub few : old.lines + length (lines_of (old.begun ++ bytes)) ≤ most_lines
  pub short : AllByRecursion (λ (line : List ℕ). length line ≤ longest_line) (lines_of (old.begun ++ bytes))
  pub replies : List ℕ
  pub said : AreSaid (lines_of (old.begun ++ bytes)) old.stand replies new.stand
  pub passes : Passes old replies new
  pub fails : new.failed + length new.stand.hive.journal ≡ old.failed + (wanting (lines_of (old.begun ++ bytes)) + length old.stand.hive.journal)
  pub spares : old.strict ≡ true → new.failed ≡ old.failed

-- ---- one line

-- the journal is one entry longer where a line wants one, and else as long as it was
abbrev pub HasEntry : Bool → View → View → Type 0
HasEntry true old new = length new.journal ≡ length old.journal + 1
HasEntry false old new = length new.journal ≡ length old.journal

-- a line's reply, where it went so
abbrev pub IsAnswered : Meaning → Went → Stand → List ℕ → Stand → Type 0
IsAnswered meaning Well old text new = IsSaid meaning old text new × HasEntry (wants_entry meaning) old.hive new.hive
IsAnswered meaning (Wrong status) old text new = Fails meaning old text status × (new ≡ old)

-- how a change went that was told this status
abbrev pub went_by : ℕ → Went
went_by status = if status == 0 then Well else (Wrong (Some status))

-- the line that is read, the counts of lines and whether the script stops at one that failed are as they were
pub record KeepsLine (old new : Script) : Type 0 where
  pub line : new.line ≡ old.line
  pub lines : new.lines ≡ old.lines
  pub failed : new.failed ≡ old.failed
  pub strict : new.is_strict ≡ old.is_strict

-- the line that was begun ended: its reply was gathered, and it is counted
pub record EndsLine (old new : Position) : Type 0 where
  pub reply : List ℕ
  pub said : IsSaid (meaning_of old.begun) old.stand reply new.stand
  pub gathered : new.gathered ≡ old.gathered ++ reply
  pub sent : new.sent ≡ old.sent
  pub written : new.written ≡ old.written
  pub begun : new.begun ≡ []
  pub lines : old.lines < most_lines → new.lines ≡ old.lines + 1
  pub few_failed : old.failed < most_lines → new.failed ≤ old.failed + 1
  pub fails : old.failed < most_lines → new.failed + length new.stand.hive.journal ≡ old.failed + (one_if (wants_entry (meaning_of old.begun)) + length old.stand.hive.journal)
  pub strict : new.strict ≡ old.strict
  pub spares : old.strict ≡ true → new.failed ≡ old.failed

-- no memory for the line that was begun, which then did nothing; or it failed
abbrev pub IsLineFault : Position → StrictFault → Position → Type 0
IsLineFault old (Of fault) new = (fault ≡ Memory) × IsIdle old new × (new.stand.hive ≡ old.stand.hive)
IsLineFault old (Line failed) new = FailsHere old failed new

-- the last line ended, if one was begun
pub record EndsLast (old new : Position) : Type 0 where
  pub reply : List ℕ
  pub said : AreSaid (lines_of old.begun) old.stand reply new.stand
  pub gathered : new.gathered ≡ old.gathered ++ reply
  pub sent : new.sent ≡ old.sent
  pub written : new.written ≡ old.written
  pub fails : (0 < length old.begun → old.failed < most_lines) →
      new.failed + length new.stand.hive.journal ≡ old.failed + (wanting (lines_of old.begun) + length old.stand.hive.journal)
  pub spares : old.strict ≡ true → new.failed ≡ old.failed
