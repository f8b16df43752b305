-- Which subcommand is named, and which aren't.
use Rattle.std.proofs.Common.{◌≡◌, List, ℕ, true, false, codes, sym, subst, bytes_eq}
use Rattle.std.specs.Prelude.{Option}
use Rattle.clap.specs.Words.{Row, Text}
use Rattle.reg_words.specs.declared.typed.change.KeyChange.{KeyChange}
use Rattle.reg_words.specs.declared.typed.change.KeyChange.TheVariants.{CreateKey, SetValue, DeleteValue, DeleteKey}
use Rattle.reg_words.specs.CommandLines.{Asks, AsksToChange}
use Rattle.reg_words.specs.Internal.Commands.{IsFound, IsOther}
use Rattle.reg_words.proofs.StreamWords.{apart, stream_word, stream_named, stream_apart}
use Rattle.reg_words.specs.declared.request.Request.{Request}
use Rattle.reg_words.specs.declared.request.Request.TheVariants.{Stream, Dump, Check, Listing, Get, Find, Diff, Export, Timeline, New, Edit, Import}
use Rattle.reg_words.specs.declared.request.Request.TheVariants.{Change, Copy, Manual, Completions, Version}
use Rattle.reg_words.specs.declared.request.EditRequest.{EditRequest}

-- the word of the subcommand that asks for a change
abbrev pub change_word : KeyChange → List ℕ
change_word (CreateKey path makes_parents) = codes "create"
change_word (SetValue path makes_parents name contents) = codes "set"
change_word (DeleteValue path name) = codes "delete"
change_word (DeleteKey path is_tree) = codes "delete"

change_named : (found : Text × List Row) (change : KeyChange) → AsksToChange found change → found.0 ≡ change_word change
change_named found (CreateKey path makes_parents) h = h.0
change_named found (SetValue path makes_parents name contents) h = h.0
change_named found (DeleteValue path name) h = h.0
change_named found (DeleteKey path is_tree) h = h.0

-- the word of the subcommand that asks for something
abbrev pub word_of : Request → List ℕ
word_of (Stream request) = stream_word request
word_of (Dump hive) = codes "dump"
word_of (Check files is_dirty is_verbose) = codes "check"
word_of (Listing list) = codes "ls"
word_of (Get value) = codes "get"
word_of (Find sought) = codes "find"
word_of (Diff old new is_dirty form) = codes "diff"
word_of (Export hive path form) = codes "export"
word_of (Timeline timeline) = codes "timeline"
word_of (New file name) = codes "new"
word_of (Edit edit keeps_going) = codes "edit"
word_of (Import edit text prefix tells_all) = codes "import"
word_of (Change edit change) = change_word change
word_of (Copy edit source path into) = codes "copy"
word_of Manual = codes "manual"
word_of (Completions shell) = codes "completions"
word_of Version = codes "version"

pub named : (found : Text × List Row) (request : Request) → Asks found request → found.0 ≡ word_of request
named found (Stream request) h = stream_named found request h
named found (Dump hive) h = h.0
named found (Check files is_dirty is_verbose) h = h.0
named found (Listing list) h = h.0
named found (Get value) h = h.0
named found (Find sought) h = h.0
named found (Diff old new is_dirty form) h = h.0
named found (Export hive path form) h = h.0
named found (Timeline timeline) h = h.0
named found (New file name) h = h.0
named found (Edit edit keeps_going) h = h.0
named found (Import edit text prefix tells_all) h = h.0
named found (Change edit change) h = change_named found change h.1
named found (Copy edit source path into) h = h.0
named found Manual h = h
named found (Completions shell) h = h.0
named found Version h = h

-- another subcommand was named
module _ (word : Text) (rows : List Row) (request : Request) (same : bytes_eq word word ≡ true) where
  pub other : bytes_eq word (word_of request) ≡ false → Asks (word, rows) request → ⊥
  other differ h = apart word (word_of request) differ same (named (word, rows) request h)

-- another one than those that ask for a change
pub other_change : (word : Text) (rows : List Row) (edit : EditRequest) (change : KeyChange) → bytes_eq word word ≡ true →
    bytes_eq word (codes "create") ≡ false → bytes_eq word (codes "set") ≡ false → bytes_eq word (codes "delete") ≡ false →
    Asks (word, rows) (Change edit change) → ⊥
other_change word rows edit (CreateKey path makes_parents) same create set delete h =
    other word rows (Change edit (CreateKey path makes_parents)) same create h
other_change word rows edit (SetValue path makes_parents name contents) same create set delete h =
    other word rows (Change edit (SetValue path makes_parents name contents)) same set h
other_change word rows edit (DeleteValue path name) same create set delete h =
    other word rows (Change edit (DeleteValue path name)) same delete h
other_change word rows edit (DeleteKey path is_tree) same create set delete h =
    other word rows (Change edit (DeleteKey path is_tree)) same delete h

-- a subcommand, as it is named
pub named_so : (name word : Text) (rows : List Row) (result : Option Request) → name ≡ word → IsFound (Asks (word, rows)) result →
    IsFound (Asks (name, rows)) result
named_so name word rows result e h = subst (λ (w : Text). IsFound (Asks (w, rows)) result) (sym e) h

-- a subcommand of another name than all that ask for something but a change, which asks for none
pub none_asked : (name : Text) (rows : List Row) → IsOther name →
    ((edit : EditRequest) (change : KeyChange) → Asks (name, rows) (Change edit change) → ⊥) → (request : Request) → Asks (name, rows) request → ⊥
none_asked name rows none never (Stream request) h =
    stream_apart (name, rows) request none.no_save.no_query.no_look.no_stream.no_run_word none.no_save.no_query.no_look.no_stream.no_dump_word none.no_save.no_query.no_look.no_stream.no_check_word h
none_asked name rows none never (Dump hive) h = none.no_save.no_query.no_look.no_stream.no_dump_word (named (name, rows) (Dump hive) h)
none_asked name rows none never (Check files is_dirty is_verbose) h =
    none.no_save.no_query.no_look.no_stream.no_check_word (named (name, rows) (Check files is_dirty is_verbose) h)
none_asked name rows none never (Listing list) h =
    none.no_save.no_query.no_look.no_ls_word (named (name, rows) (Listing list) h)
none_asked name rows none never (Get value) h =
    none.no_save.no_query.no_look.no_get_word (named (name, rows) (Get value) h)
none_asked name rows none never (Find sought) h =
    none.no_save.no_query.no_look.no_find_word (named (name, rows) (Find sought) h)
none_asked name rows none never (Diff old new is_dirty form) h =
    none.no_save.no_query.no_diff_word (named (name, rows) (Diff old new is_dirty form) h)
none_asked name rows none never (Export hive path form) h =
    none.no_save.no_query.no_export_word (named (name, rows) (Export hive path form) h)
none_asked name rows none never (Timeline timeline) h =
    none.no_save.no_query.no_timeline_word (named (name, rows) (Timeline timeline) h)
none_asked name rows none never (New file value) h = none.no_save.no_new_word (named (name, rows) (New file value) h)
none_asked name rows none never (Edit edit keeps_going) h =
    none.no_save.no_edit_word (named (name, rows) (Edit edit keeps_going) h)
none_asked name rows none never (Import edit text prefix tells_all) h =
    none.no_save.no_import_word (named (name, rows) (Import edit text prefix tells_all) h)
none_asked name rows none never (Change edit change) h = never edit change h
none_asked name rows none never (Copy edit source path into) h =
    none.no_save.no_copy_word (named (name, rows) (Copy edit source path into) h)
none_asked name rows none never Manual h = none.no_manual_word (named (name, rows) Manual h)
none_asked name rows none never (Completions shell) h =
    none.no_completions_word (named (name, rows) (Completions shell) h)
none_asked name rows none never Version h = none.no_version_word (named (name, rows) Version h)
