-- Files that are looked into, and what is told of what was done with them (this project's own).
use Rattle.std.specs.Prelude.{◌≡◌, ◌<◌, ◌⊎◌, ℕ, Bool, true, false, ◌&&◌, Option, Some, option_map}
use Rattle.std.specs.Prelude.{List, ◌++◌, length, take, codes}
use Rattle.std.specs.Fmt.{decimal}
use Rattle.std.specs.Io.KnownBytes.{Appends}
use Rattle.reg_text.specs.Texts.{line_feed}
use Rattle.reg_words.specs.declared.request.StreamRequest.{StreamRequest}
use Rattle.reg_words.specs.declared.request.StreamRequest.TheVariants as stream
use Rattle.reg_command.specs.Failures.{Stops, IsSaid, IsStopSaid}
use Rattle.reg_command.specs.declared.failure.Stop.{Stop}
use Rattle.reg_command.specs.declared.failure.Stop.TheVariants as stop
use Rattle.reg_files.specs.Mended.{is_torn, mended}

-- a line was written that says what was refused or faulty, or a front of it, where the writer failed; or none was, where none need be: a
-- write of the output failed, and nobody reads that any more
abbrev pub IsReported : (may_be_silent : Bool) → (told told_after : Option (List ℕ)) → (failed now_failed : Option ℕ) → Type 0
IsReported may_be_silent told told_after failed now_failed =
    ((what : List ℕ) × IsSaid (codes "error " ++ (what ++ line_feed)) told told_after failed now_failed)
    ⊎ ((may_be_silent ≡ true) × (told_after ≡ told))

-- the line that tells what a failed write of the output ended, and why it failed
abbrev pub told_cut : (what reason : List ℕ) → List ℕ
told_cut what reason = codes "error " ++ (what ++ (codes ": " ++ (reason ++ line_feed)))

-- it was told, or want of memory for that; or nothing was, as nobody reads the output any more
abbrev pub IsCutReported : (closed : Bool) → (what : List ℕ) → (told told_after : Option (List ℕ)) → (failed now_failed : Option ℕ) → Type 0
IsCutReported closed what told told_after failed now_failed =
    ((reason : List ℕ) × IsSaid (told_cut what reason) told told_after failed now_failed)
    ⊎ IsSaid (codes "error 8\n") told told_after failed now_failed
    ⊎ ((closed ≡ true) × (told_after ≡ told))

-- a text wasn't written to its end: so many of its first bytes were
pub record IsCutShort (text : List ℕ) (before after : Option (List ℕ)) : Type 0 where
  pub count : ℕ
  pub short : count < length text
  pub appended : Appends before after (take count text)

-- what ended a request of the standard streams was reported as there; or it is a failed write, of which the reason is told, too
abbrev pub StopReported : (closed : Bool) → Stop → (told told_after : Option (List ℕ)) → (failed now_failed : Option ℕ) → Type 0
StopReported closed (stop.Write written) told told_after failed now_failed =
    IsCutReported closed (codes "1013 written " ++ decimal written) told told_after failed now_failed
StopReported closed ended told told_after failed now_failed = IsStopSaid ended told told_after failed now_failed

-- ---- files that are looked into

-- a file's bytes as they are read: with `--dirty` an image that wasn't written to its end is read as one that was
abbrev pub as_read : (is_dirty : Bool) → Option (List ℕ) → Option (List ℕ)
as_read true bytes = option_map mended bytes
as_read false bytes = bytes

-- the line that tells of a file that it wasn't
abbrev pub warning_of : (file : List ℕ) → List ℕ
warning_of file = codes "warning " ++ (file ++ codes ": it wasn't written to its end, and is read as it stands\n")

-- it was told, or needn't be
abbrev pub Warns : (is_torn : Bool) → (file : List ℕ) → (told told_after : Option (List ℕ)) → (failed now_failed : Option ℕ) → Type 0
Warns true file told told_after failed now_failed = IsSaid (warning_of file) told told_after failed now_failed
Warns false file told told_after failed now_failed = (told_after ≡ told) × (now_failed ≡ failed)

-- a file of some bytes was opened, and where it is read though it wasn't written to its end, that was told
pub record IsOpened (is_dirty : Bool) (file : List ℕ) (bytes told told_after : Option (List ℕ)) (failed now_failed : Option ℕ) : Type 0 where
  pub is_warned : Bool
  pub asked : is_warned ≡ true → is_dirty ≡ true
  pub torn : (image : List ℕ) → bytes ≡ Some image → is_warned ≡ (is_dirty && is_torn image)
  pub warns : Warns is_warned file told told_after failed now_failed

-- what was done with what is read of such a file, and of the bytes left behind that, from what was told by then
abbrev pub Doing : Type 1
Doing = (unread left told : Option (List ℕ)) → (failed : Option ℕ) → Type 0

-- a file was opened, and something done with what is read of it
abbrev pub OfImage : (is_dirty : Bool) → (file : List ℕ) → (told : Option (List ℕ)) → (failed : Option ℕ) → Doing → Type 0
OfImage is_dirty file told failed done =
    (bytes : Option (List ℕ)) × (left : Option (List ℕ)) × (warned : Option (List ℕ)) × (warned_failed : Option ℕ)
    × IsOpened is_dirty file bytes told warned failed warned_failed × done (as_read is_dirty bytes) left warned warned_failed

-- that was done, and nothing else told
abbrev pub Looks : (is_dirty : Bool) → (file : List ℕ) → (told told_after : Option (List ℕ)) → (failed : Option ℕ) →
    ((unread left : Option (List ℕ)) → Type 0) → Type 0
Looks is_dirty file told told_after failed done =
    OfImage is_dirty file told failed (λ unread left warned warned_failed. done unread left × (told_after ≡ warned))

-- a file wasn't opened, which was reported, and nothing was written
abbrev pub IsUnopened : (before after told told_after : Option (List ℕ)) → (failed now_failed : Option ℕ) → Type 0
IsUnopened before after told told_after failed now_failed = (after ≡ before) × IsReported false told told_after failed now_failed

-- a file wasn't opened; or it was, and something ended what was to be done, and that was reported. Here and below `cut` says whether it
-- was a failed write of the output
abbrev pub LookFails : (is_dirty : Bool) → (file : List ℕ) → (closed : Bool) → (before after told told_after : Option (List ℕ)) →
    (failed now_failed : Option ℕ) → ((cut : Bool) → (unread left : Option (List ℕ)) → Type 0) → Type 0
LookFails is_dirty file closed before after told told_after failed now_failed stops =
    IsUnopened before after told told_after failed now_failed
    ⊎ OfImage is_dirty file told failed (λ unread left warned warned_failed.
    (cut : Bool) × stops cut unread left × IsReported (closed && cut) warned told_after warned_failed now_failed)

-- something ended a request of the standard streams, with a file in the place of standard input
abbrev pub AnswerStops : StreamRequest → (closed : Bool) → (before after told_after : Option (List ℕ)) → (now_failed : Option ℕ) → Doing
AnswerStops request closed before after told_after now_failed unread left told failed =
    (ended : Stop) × Stops request ended unread left before after × StopReported closed ended told told_after failed now_failed

-- a file's tree wasn't written, or not to the end: the file wasn't opened; or something ended the dump
abbrev pub DumpStops : (is_dirty : Bool) → (file : List ℕ) → (closed : Bool) → (before after told told_after : Option (List ℕ)) →
    (failed now_failed : Option ℕ) → Type 0
DumpStops is_dirty file closed before after told told_after failed now_failed =
    IsUnopened before after told told_after failed now_failed
    ⊎ OfImage is_dirty file told failed (AnswerStops stream.Dump closed before after told_after now_failed)
