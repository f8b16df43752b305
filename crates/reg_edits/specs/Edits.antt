-- What an edit makes of a file's hive (this project's own).
use Rattle.std.specs.Prelude.{◌≡◌, ℕ, ◌+◌, ◌%◌, Bool, true, false, List, [], Option}
use Rattle.std.specs.List.{list_any}
use Rattle.std.specs.FinMap.{insert, empty}
use Rattle.std.specs.Io.KnownBytes.{IsAtEnd, Appends, Consumes}
use Rattle.reg_text.specs.Failures.{Stays, IsUntouched}
use Rattle.reg_heap.specs.ByteWords.{word}
use Rattle.reg_model.specs.Callbacks.{no_callbacks}
use Rattle.reg_model.specs.Calls.{changes_keys}
use Rattle.reg_model.specs.declared.reply.Entry.{Entry}
use Rattle.reg_tree.specs.TreeKeys.{made_root}
use Rattle.reg_tree.specs.NewHive.{IsNewHive}
use Rattle.reg_calls.specs.Views.{View, IsHive}
use Rattle.reg_calls.specs.HiveView.{view_of}
use Rattle.reg_script.specs.LineWords.{lines_of}
use Rattle.reg_script.specs.Lines.{LinesFrom, fresh_descriptor}
use Rattle.reg_script.specs.Stops.{AreWithin, StopsFrom}
use Rattle.reg_script.specs.FailedLines.{HaveFailed, StopsStrictly}
use Rattle.reg_script.specs.declared.engine.ScriptFault.{ScriptFault}
use Rattle.reg_script.specs.declared.failed.StrictFault.{StrictFault}
use Rattle.reg_tree_image.specs.Loads.{MeetsFault, IsBlamed}
use Rattle.reg_image.specs.Loads.{IsLoaded}
use Rattle.reg_edits.specs.declared.edits.Edited.{Edited}
use Rattle.reg_edits.specs.declared.edits.EditFault.{EditFault}
use Rattle.reg_edits.specs.declared.edits.EditFault.TheVariants.{Load, Script, Line}

-- the sequence number after a number of 32 bits: one more, and 0 after the greatest
abbrev pub next_sequence : ℕ → ℕ
next_sequence sequence = (sequence + 1) % 4294967296

-- of a file an image was read to the end of its bins, and loaded as this hive; it has that sequence number (Suhanov, "Base block": the
-- primary one, which is the secondary one too where the image loads)
pub record Opens (unread left : Option (List ℕ)) (hive : View) (sequence : ℕ) : Type 0 where
  pub image : List ℕ
  pub consumed : Consumes unread left image
  pub loaded : IsLoaded image hive
  pub numbered : sequence ≡ word image 4

-- an input was read to its end, and its lines, run from a moment on, led from one hive to another, and to this moment; their replies
-- were written, and so many of the lines failed: none, unless the script goes on behind one that does
pub record Leads (keeps_going : Bool) (begin : ℕ) (old last : View) (moment failed : ℕ) (unread left before after : Option (List ℕ)) : Type 0 where
  pub at_end : IsAtEnd left
  pub script : List ℕ
  pub consumed : Consumes unread left script
  pub text : List ℕ
  pub lines : LinesFrom begin no_callbacks old script text last moment
  pub within : AreWithin (lines_of script)
  pub failed_are : HaveFailed failed (lines_of script) old last
  pub strict : keeps_going ≡ false → failed ≡ 0
  pub appended : Appends before after text

-- whether one of these calls may have changed a key
abbrev pub are_changed : List Entry → Bool
are_changed journal = list_any (λ (e : Entry). changes_keys e.change e.reply) journal

-- a hive is to be saved where a call that it accepted since it was loaded may have changed a key; else it has the keys that it was loaded
-- with, in the bins as they were
pub record IsChanged (old last : View) (changed : Bool) : Type 0 where
  pub by_calls : changed ≡ are_changed last.journal
  pub same : changed ≡ false → last.keys ≡ old.keys

-- what an edit left of the hive of a file
pub record Edits (keeps_going : Bool) (begin : ℕ) (edited : Edited) (file file_left unread left before after : Option (List ℕ)) : Type 0 where
  pub old : View
  pub sequence : ℕ
  pub opens : Opens file file_left old sequence
  pub leads : Leads keeps_going begin old (view_of edited.seated.hive) edited.moment edited.failed unread left before after
  pub next : edited.sequence ≡ next_sequence sequence
  pub changed : IsChanged old (view_of edited.seated.hive) edited.is_changed

-- a script was ended by a fault; where it doesn't go on behind a line that fails, none of those before had failed
abbrev pub IsHalted : (keeps_going : Bool) → ScriptFault → (begin : ℕ) → (old last : View) → (unread left before after : Option (List ℕ)) → Type 0
IsHalted true fault begin old last unread left before after = StopsFrom begin fault unread left no_callbacks old last before after
IsHalted false fault begin old last unread left before after =
    StopsStrictly begin (StrictFault.Script fault) unread left no_callbacks old last before after

-- what ended a script on a hive: a fault, or its first line that failed, unless it goes on behind such a one
abbrev pub RunStops : EditFault → (keeps_going : Bool) → (begin : ℕ) → View → (unread left before after : Option (List ℕ)) → Type 0
RunStops (Script fault) keeps_going begin old unread left before after =
    (last : View) × IsHalted keeps_going fault begin old last unread left before after
RunStops (Line line) keeps_going begin old unread left before after =
    (keeps_going ≡ false)
    × ((last : View) × StopsStrictly begin (StrictFault.Line line) unread left no_callbacks old last before after)
RunStops (Load fault) keeps_going begin old unread left before after = ⊥

-- what ended an edit before there was anything to save: a fault of the load, and then nothing was read of the script, or written; or what
-- ended the script
abbrev pub EditStops : EditFault → (keeps_going : Bool) → (begin : ℕ) → (file file_left unread left before after : Option (List ℕ)) → Type 0
EditStops (Load fault) keeps_going begin file file_left unread left before after =
    MeetsFault fault file file_left × IsUntouched unread left before after
EditStops fault keeps_going begin file file_left unread left before after =
    (old : View) × (sequence : ℕ) × Opens file file_left old sequence × RunStops fault keeps_going begin old unread left before after

-- a read of the file failed where the load tells just this, and none else
abbrev pub EditBlames : EditFault → (before after : Option ℕ) → Type 0
EditBlames (Load fault) before after = IsBlamed fault before after
EditBlames fault before after = Stays before after

-- a hive of one root of that name, at moment 0, and nothing else: its journal is empty, and its one bin has just the cells of a new hive
pub record IsFreshHive (name : List ℕ) (hive : View) : Type 0 where
  pub is_hive : IsHive hive
  pub origin : hive.origin ≡ insert empty [] (made_root name fresh_descriptor 0)
  pub base : hive.base ≡ 0
  pub before : hive.before ≡ []
  pub journal : hive.journal ≡ []
  pub cells : IsNewHive hive.keys name fresh_descriptor 0
