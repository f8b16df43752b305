-- What ended the tool early (this project's own).
use Rattle.std.specs.Prelude.{◌≡◌, ℕ, ◌<◌, ◌≤◌, ◌⊎◌, List, ◌++◌, Option, codes, length, take}
use Rattle.std.specs.Fmt.{decimal}
use Rattle.std.specs.Io.KnownBytes.{Appends}
use Rattle.reg_text.specs.Failures.{Fails, IsUntouched}
use Rattle.reg_text.specs.Texts.{line_feed}
use Rattle.reg_calls.specs.Views.{View}
use Rattle.reg_heap.specs.Paths.{Tree}
use Rattle.reg_script.specs.Stops.{StopsFresh, fault_number}
use Rattle.reg_script.specs.declared.engine.ScriptFault.{ScriptFault}
use Rattle.reg_tree_text.specs.DumpTexts.{dump_text, check_text}
use Rattle.reg_tree_image.specs.declared.LoadFault.{LoadFault}
use Rattle.reg_tree_image.specs.Loads.{ReadsImage, MeetsFault}
use Rattle.reg_words.specs.CommandLines.{AsksNoStream, IsCommandLine}
use Rattle.reg_words.specs.declared.request.StreamRequest.{StreamRequest}
use Rattle.reg_words.specs.declared.request.StreamRequest.TheVariants.{Run, Image, Workers, Dump, Check}
use Rattle.reg_words.specs.declared.request.Request.TheVariants.{Stream}
use Rattle.reg_workers.specs.Workers.{RunsWorkers, WorkersStop}
use Rattle.reg_command.specs.ScriptRuns.{RunsScript, LeadsTo, WritesImage, image_at}
use Rattle.reg_command.specs.ImageRuns.{WritesTreeText, fault_line}
use Rattle.reg_command.specs.declared.failure.Stop.{Stop}
use Rattle.reg_command.specs.declared.failure.Stop.TheVariants.{Script, Load, Write, Memory}

-- a failed write: just so many of the first bytes of a text were written
pub record IsCut (text : List ℕ) (written : ℕ) (before after : Option (List ℕ)) : Type 0 where
  pub within : written ≤ length text
  pub appended : Appends before after (take written text)

-- a front of a text was written
pub record IsFront (text : List ℕ) (before after : Option (List ℕ)) : Type 0 where
  pub count : ℕ
  pub appended : Appends before after (take count text)

-- what ended `run`: a script's fault, or want of memory before the script began
abbrev pub RunStops : Stop → (unread left before after : Option (List ℕ)) → Type 0
RunStops (Script fault) unread left before after = StopsFresh fault unread left before after
RunStops Memory unread left before after = IsUntouched unread left before after
RunStops stop unread left before after = ⊥

-- what ended `run --image`: a script's fault, and then nothing was written; a failed write of the image; or want of memory, before the
-- script began or for its image, and then nothing was written either
abbrev pub ImageStops : ℕ → Stop → (unread left before after : Option (List ℕ)) → Type 0
ImageStops sequence (Script fault) unread left before after = (told : Option (List ℕ)) × (kept : Option (List ℕ)) ×
    StopsFresh fault unread left told kept × (after ≡ before)
ImageStops sequence (Write written) unread left before after =
    (last : View) × (moment : ℕ) × LeadsTo unread left last moment × IsCut (image_at last moment sequence) written before after
ImageStops sequence Memory unread left before after =
    (after ≡ before) × ((left ≡ unread) ⊎ ((last : View) × (moment : ℕ) × LeadsTo unread left last moment))
ImageStops sequence (Load fault) unread left before after = ⊥

-- what ended `run --workers`: a script's fault, by what that leaves of sessions side by side
abbrev pub SessionsStop : ℕ → Stop → (unread left before after : Option (List ℕ)) → Type 0
SessionsStop hives (Script fault) unread left before after = WorkersStop hives fault unread left before after
SessionsStop hives stop unread left before after = ⊥

-- what ended the telling of an image: a load fault, whose line was written; a failed write, of that line or of the image's text; or want
-- of memory for the text, of which a front may have been written
abbrev pub TextStops : (Tree → List ℕ) → Stop → (unread left before after : Option (List ℕ)) → Type 0
TextStops text_of (Load fault) unread left before after = MeetsFault fault unread left × Appends before after (fault_line fault)
TextStops text_of (Write written) unread left before after =
    ((tree : Tree) × ReadsImage unread left tree × IsCut (text_of tree) written before after)
    ⊎ ((fault : LoadFault) × MeetsFault fault unread left × IsCut (fault_line fault) written before after)
TextStops text_of Memory unread left before after = (tree : Tree) × ReadsImage unread left tree × IsFront (text_of tree) before after
TextStops text_of (Script fault) unread left before after = ⊥

-- what a request did, by the rules of each
abbrev pub Does : StreamRequest → (unread left before after : Option (List ℕ)) → Type 0
Does Run unread left before after = RunsScript unread left before after
Does (Image sequence) unread left before after = WritesImage sequence unread left before after
Does (Workers count) unread left before after = RunsWorkers count.number unread left before after
Does Dump unread left before after = WritesTreeText dump_text unread left before after
Does Check unread left before after = WritesTreeText check_text unread left before after

-- what ended a request early
abbrev pub Stops : StreamRequest → Stop → (unread left before after : Option (List ℕ)) → Type 0
Stops Run stop unread left before after = RunStops stop unread left before after
Stops (Image sequence) stop unread left before after = ImageStops sequence stop unread left before after
Stops (Workers count) stop unread left before after = SessionsStop count.number stop unread left before after
Stops Dump stop unread left before after = TextStops dump_text stop unread left before after
Stops Check stop unread left before after = TextStops check_text stop unread left before after

-- a line was told; or a front of it, where the writer failed
pub record IsSaid (line : List ℕ) (before after : Option (List ℕ)) (failed now_failed : Option ℕ) : Type 0 where
  pub count : ℕ
  pub appended : Appends before after (take count line)
  pub cut : count < length line → Fails failed now_failed

-- the line that tells a script's fault
abbrev pub script_line : ScriptFault → List ℕ
script_line fault = codes "error script " ++ (decimal (fault_number fault) ++ line_feed)

-- the line that tells after how many bytes a write failed
abbrev pub cut_line : ℕ → List ℕ
cut_line written = codes "error 1013 written " ++ (decimal written ++ line_feed)

-- what ended a request was told: nothing is, of a load fault, whose line the output has; and want of memory may be in place of a failed write
abbrev pub IsStopSaid : Stop → (told told_after : Option (List ℕ)) → (failed now_failed : Option ℕ) → Type 0
IsStopSaid (Script fault) told told_after failed now_failed = IsSaid (script_line fault) told told_after failed now_failed
IsStopSaid (Load fault) told told_after failed now_failed = (told_after ≡ told) × (now_failed ≡ failed)
IsStopSaid (Write written) told told_after failed now_failed =
    IsSaid (cut_line written) told told_after failed now_failed ⊎ IsSaid (codes "error 8\n") told told_after failed now_failed
IsStopSaid Memory told told_after failed now_failed = IsSaid (codes "error 8\n") told told_after failed now_failed

-- something ended a request early, and that was told
pub record EndsEarly (request : StreamRequest) (unread left before after told told_after : Option (List ℕ)) (failed now_failed : Option ℕ) : Type 0
  where
    pub stop : Stop
    pub stops : Stops request stop unread left before after
    pub said : IsStopSaid stop told told_after failed now_failed

-- the status 0: the words are a command line, what it asks for was done, and nothing was told beside it
pub record IsDone (words : List (List ℕ)) (unread left before after told_before told_after : Option (List ℕ)) : Type 0 where
  pub request : StreamRequest
  pub command : IsCommandLine words (Stream request)
  pub does : Does request unread left before after
  pub silent : told_after ≡ told_before

-- these words ask for nothing of the standard streams, and nothing was touched
abbrev pub IsRefused : List (List ℕ) → (unread left before after : Option (List ℕ)) → Type 0
IsRefused words unread left before after = AsksNoStream words × IsUntouched unread left before after

-- what a command line asks for was begun, and something ended it
pub record IsEnded (words : List (List ℕ)) (unread left before after told told_after : Option (List ℕ)) (failed now_failed : Option ℕ) : Type 0 where
  pub request : StreamRequest
  pub command : IsCommandLine words (Stream request)
  pub ends : EndsEarly request unread left before after told told_after failed now_failed

-- the status 1: something ended what a command line asks for; or nothing was touched, and want of memory was told
abbrev pub IsStopped : List (List ℕ) → (unread left before after told told_after : Option (List ℕ)) → (failed now_failed : Option ℕ) → Type 0
IsStopped words unread left before after told told_after failed now_failed =
    IsEnded words unread left before after told told_after failed now_failed
    ⊎ (IsUntouched unread left before after × IsSaid (codes "error 8\n") told told_after failed now_failed)
