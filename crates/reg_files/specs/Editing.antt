-- Hives in files that are edited (this project's own).
use Rattle.std.specs.Prelude.{◌≡◌, ◌⊎◌, ℕ, Bool, true, false, ◌&&◌, Option, List, ⊤}
use Rattle.std.specs.Io.KnownBytes.{Appends}
use Rattle.reg_text.specs.Failures.{IsUntouched}
use Rattle.reg_words.specs.declared.request.EditRequest.{EditRequest}
use Rattle.reg_words.specs.declared.request.Begin.{Begin}
use Rattle.reg_words.specs.declared.request.Begin.TheVariants.{Now, At}
use Rattle.reg_words.specs.ChangeLines.{told as line_of}
use Rattle.reg_words.specs.declared.typed.change.KeyChange.{KeyChange}
use Rattle.reg_edits.specs.Edits.{Edits, EditStops}
use Rattle.reg_edits.specs.KeyChanges.{Changes}
use Rattle.reg_edits.specs.TextImports.{Imports, ImportEnds}
use Rattle.reg_edits.specs.declared.edits.Edited.{Edited}
use Rattle.reg_edits.specs.declared.edits.EditFault.{EditFault}
use Rattle.reg_edits.specs.declared.importing.ImportEnd.{ImportEnd}
use Rattle.reg_files.specs.Cuts.{is_edit_cut}
use Rattle.reg_files.specs.Looking.{IsCutShort}

-- the moment at which an edit begins: that of the clock, which may be any, or the one that is asked for
abbrev pub IsGiven : Begin → ℕ → Type 0
IsGiven Now moment = ⊤
IsGiven (At asked) moment = moment ≡ asked

-- the bytes of a file, those that are left, and what was done with it
abbrev pub OfFile : (Option (List ℕ) → Option (List ℕ) → Type 0) → Type 0
OfFile done = (unread : Option (List ℕ)) × (left : Option (List ℕ)) × done unread left

-- the script on the input was run on the hive in some file
abbrev pub EditsFile : EditRequest → (keeps_going : Bool) → (failed : ℕ → Type 0) → (unread left before after : Option (List ℕ)) → Type 0
EditsFile edit keeps_going failed unread left before after =
    OfFile (λ file file_left. (begin : ℕ) × (edited : Edited) × IsGiven edit.begin begin × failed edited.failed
    × Edits keeps_going begin edited file file_left unread left before after)

-- an input was read to its end, and the entries of the text that it had were made in the hive in some file
abbrev pub Enters : EditRequest → (front : Option (List ℕ)) → (unread left : Option (List ℕ)) → Type 0
Enters edit front unread left =
    OfFile (λ file file_left. (begin : ℕ) × (edited : Edited) × IsGiven edit.begin begin × Imports front begin edited file file_left unread left)

-- of the input that is given, or of some file, where one is named; and then nothing of the input
abbrev pub OfText : (is_named : Bool) → (unread left : Option (List ℕ)) → ((unread left : Option (List ℕ)) → Type 0) → Type 0
OfText true unread left done = (left ≡ unread) × OfFile done
OfText false unread left done = done unread left

-- a line was written, or isn't to be, and nothing was
abbrev pub Tells : (is_told : Bool) → (line : List ℕ) → (before after : Option (List ℕ)) → Type 0
Tells true line before after = Appends before after line
Tells false line before after = after ≡ before

-- a change was made in the hive in some file; of a dry run its line was written, where it would have been saved
abbrev pub ChangesFile : EditRequest → KeyChange → (before after : Option (List ℕ)) → Type 0
ChangesFile edit change before after =
    OfFile (λ file file_left. (begin : ℕ) × (edited : Edited) × IsGiven edit.begin begin × Changes begin change edited file file_left
    × Tells (edit.dry_run && edited.is_changed) (line_of change) before after)

-- any number of lines failed
abbrev pub IsAny : ℕ → Type 0
IsAny failed = ⊤

-- no line failed
abbrev pub IsNone : ℕ → Type 0
IsNone failed = failed ≡ 0

-- why an edit didn't end well: it wasn't begun, and nothing was read or written; or what ended the script on the hive in some file; or the
-- script was run to its end, and lines of it failed, or saving was refused
abbrev pub StopsEditing : EditRequest → (keeps_going : Bool) → (cut : Bool) → (unread left before after : Option (List ℕ)) → Type 0
StopsEditing edit keeps_going cut unread left before after =
    ((cut ≡ false) × IsUntouched unread left before after)
    ⊎ ((fault : EditFault) × (cut ≡ is_edit_cut fault) × OfFile (λ file file_left. (begin : ℕ) × IsGiven edit.begin begin
    × EditStops fault keeps_going begin file file_left unread left before after))
    ⊎ ((cut ≡ false) × EditsFile edit keeps_going IsAny unread left before after)

-- why an import didn't end well: what ended it on the hive in some file; or the entries were made, and saving was refused
abbrev pub StopsImporting : EditRequest → (front : Option (List ℕ)) → (tells_all : Bool) → (unread left : Option (List ℕ)) → Type 0
StopsImporting edit front tells_all unread left =
    ((fault : ImportEnd) × OfFile (λ file file_left. (begin : ℕ) × IsGiven edit.begin begin
    × ImportEnds fault front tells_all begin file file_left unread left))
    ⊎ Enters edit front unread left

-- why a change didn't end well: it wasn't begun, or not made, or saving it was refused, and nothing was written; or its line wasn't, or not to
-- the end
abbrev pub StopsChanging : KeyChange → (cut : Bool) → (before after : Option (List ℕ)) → Type 0
StopsChanging change cut before after =
    ((cut ≡ false) × (after ≡ before)) ⊎ ((cut ≡ true) × IsCutShort (line_of change) before after)
