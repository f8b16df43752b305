-- What asks for nothing: a file, a number or a place that is none.
use Rattle.std.proofs.Common.{◌≡◌, ◌∙◌, List, ℕ, false, codes, map, sym, refl, ap, subst, inl, inr, ◌⊎◌, bytes_eq}
use Rattle.std.specs.Prelude.{Option, Some, None, MatchOption}
use Rattle.clap.specs.Words.{Row, Text, all_of, first_of, one_of}
use Rattle.reg_words.specs.StreamLines.{AreBothGiven, AsksOfStream, IsSet, IsHiveCount, IsNumber}
use Rattle.reg_words.specs.declared.typed.change.KeyChange.{KeyChange}
use Rattle.reg_words.specs.declared.typed.change.KeyChange.TheVariants.{CreateKey, SetValue, DeleteValue, DeleteKey}
use Rattle.reg_words.specs.CommandLines.{Asks, AsksToBegin, AsksToEdit, AsksToSave, AsksToWait, AsksForData, AsksForDifferences, AsksForForm, AsksForPlaces}
use Rattle.reg_words.specs.CommandLines.{places_asked}
use Rattle.reg_words.specs.declared.request.DataForm.{DataForm}
use Rattle.reg_words.specs.declared.request.DiffForm.{DiffForm}
use Rattle.reg_words.specs.Internal.Commands.{IsFound}
use Rattle.reg_words.proofs.StreamWords.{apart, other_stream, no_running, no_stream_of_both, no_working, no_dirty_dump, no_flagged_check}
use Rattle.reg_words.specs.declared.request.Request.{Request}
use Rattle.reg_words.specs.declared.request.Request.TheVariants.{Stream, Dump, Check, Listing, Get, Find, Diff, Export, New, Edit, Import, Change}
use Rattle.reg_words.specs.declared.request.Request.TheVariants.{Copy}
use Rattle.reg_words.specs.declared.request.EditRequest.{EditRequest}
use Rattle.reg_words.specs.declared.request.Form.{Form}
use Rattle.reg_words.specs.declared.request.Places.{Places}
use Rattle.reg_words.specs.declared.request.StreamRequest.{StreamRequest}
use Rattle.reg_words.specs.declared.request.StreamRequest.TheVariants as stream
use Rattle.reg_words.specs.declared.request.Begin.{Begin}
use Rattle.reg_words.proofs.AskedWords.{none_there}
use Rattle.reg_words.proofs.AskedNames.{word_of, named, other, other_change}

module _ (rows : List Row) where
  -- `run` with a number that is none
  pub no_run : (text : Text) → one_of (codes "image") rows ≡ Some text → ((number : ℕ) → IsNumber text number → ⊥) → (request : Request) →
      Asks (codes "run", rows) request → ⊥
  no_run text some never (Stream request) h = no_running rows text some never request h
  no_run text some never (Change edit change) h = other_change (codes "run") rows edit change refl refl refl refl h
  no_run text some never request h = other (codes "run") rows request refl refl h

  -- `run` with a number of hives that is none
  pub no_workers : (text : Text) → one_of (codes "workers") rows ≡ Some text → ((number : ℕ) → IsHiveCount text number → ⊥) → (request : Request) →
      Asks (codes "run", rows) request → ⊥
  no_workers text some never (Stream request) h = no_working rows text some never request h
  no_workers text some never (Change edit change) h = other_change (codes "run") rows edit change refl refl refl refl h
  no_workers text some never request h = other (codes "run") rows request refl refl h

  pub no_new : first_of (codes "file") rows ≡ None → (request : Request) → Asks (codes "new", rows) request → ⊥
  no_new e (New file name) h = none_there _ file.now e h.1
  no_new e (Stream request) h = other_stream (codes "new", rows) (codes "new") request refl refl refl refl refl h
  no_new e (Change edit change) h = other_change (codes "new") rows edit change refl refl refl refl h
  no_new e request h = other (codes "new") rows request refl refl h

  -- standard input that wasn't written to its end
  pub no_dump : first_of (codes "file") rows ≡ None → IsSet (codes "dirty") rows → (request : Request) → Asks (codes "dump", rows) request → ⊥
  no_dump e dirty (Dump hive) h = none_there _ hive.file.now e h.1.0
  no_dump e dirty (Stream request) h = no_dirty_dump rows request dirty h
  no_dump e dirty (Change edit change) h = other_change (codes "dump") rows edit change refl refl refl refl h
  no_dump e dirty request h = other (codes "dump") rows request refl refl h

  pub no_check : all_of (codes "files") rows ≡ None → (IsSet (codes "dirty") rows ⊎ IsSet (codes "verbose") rows) → (request : Request) →
      Asks (codes "check", rows) request → ⊥
  no_check e set (Check files is_dirty is_verbose) h = none_there _ (map (λ file. file.now) files.items) e h.1
  no_check e set (Stream request) h = no_flagged_check rows request set h
  no_check e set (Change edit change) h = other_change (codes "check") rows edit change refl refl refl refl h
  no_check e set request h = other (codes "check") rows request refl refl h

  pub no_list : first_of (codes "file") rows ≡ None → (request : Request) → Asks (codes "ls", rows) request → ⊥
  no_list e (Listing list) h = none_there _ list.hive.file.now e h.1.0
  no_list e (Stream request) h = other_stream (codes "ls", rows) (codes "ls") request refl refl refl refl refl h
  no_list e (Change edit change) h = other_change (codes "ls") rows edit change refl refl refl refl h
  no_list e request h = other (codes "ls") rows request refl refl h

  pub no_get : ((first_of (codes "file") rows ≡ None) ⊎ ((form : DataForm) → AsksForData rows form → ⊥)) → (request : Request) →
      Asks (codes "get", rows) request → ⊥
  no_get (inl e) (Get value) h = none_there _ value.hive.file.now e h.1.0
  no_get (inr never) (Get value) h = never value.form h.4
  no_get e (Stream request) h = other_stream (codes "get", rows) (codes "get") request refl refl refl refl refl h
  no_get e (Change edit change) h = other_change (codes "get") rows edit change refl refl refl refl h
  no_get e request h = other (codes "get") rows request refl refl h

  pub no_find : ((first_of (codes "file") rows ≡ None) ⊎ ((first_of (codes "pattern") rows ≡ None)
      ⊎ ((places : Places) → AsksForPlaces rows places → ⊥))) → (request : Request) → Asks (codes "find", rows) request → ⊥
  no_find (inl e) (Find sought) h = none_there _ sought.hive.file.now e h.1.0
  no_find (inr (inl e)) (Find sought) h = none_there _ sought.pattern.now e h.2
  no_find (inr (inr never)) (Find sought) h = never sought.places h.3
  no_find e (Stream request) h = other_stream (codes "find", rows) (codes "find") request refl refl refl refl refl h
  no_find e (Change edit change) h = other_change (codes "find") rows edit change refl refl refl refl h
  no_find e request h = other (codes "find") rows request refl refl h

  pub no_diff : ((first_of (codes "old") rows ≡ None) ⊎ ((first_of (codes "new") rows ≡ None)
      ⊎ ((form : DiffForm) → AsksForDifferences rows form → ⊥))) → (request : Request) → Asks (codes "diff", rows) request → ⊥
  no_diff (inl e) (Diff old new is_dirty form) h = none_there _ old.now e h.1
  no_diff (inr (inl e)) (Diff old new is_dirty form) h = none_there _ new.now e h.2
  no_diff (inr (inr never)) (Diff old new is_dirty form) h = never form h.4
  no_diff e (Stream request) h = other_stream (codes "diff", rows) (codes "diff") request refl refl refl refl refl h
  no_diff e (Change edit change) h = other_change (codes "diff") rows edit change refl refl refl refl h
  no_diff e request h = other (codes "diff") rows request refl refl h

  pub no_export : ((first_of (codes "file") rows ≡ None) ⊎ ((form : Form) → AsksForForm rows form → ⊥)) → (request : Request) →
      Asks (codes "export", rows) request → ⊥
  no_export (inl e) (Export hive path form) h = none_there _ hive.file.now e h.1.0
  no_export (inr never) (Export hive path form) h = never form h.3
  no_export e (Stream request) h = other_stream (codes "export", rows) (codes "export") request refl refl refl refl refl h
  no_export e (Change edit change) h = other_change (codes "export") rows edit change refl refl refl refl h
  no_export e request h = other (codes "export") rows request refl refl h

  pub no_edit : ((edit : EditRequest) → AsksToEdit rows edit → ⊥) → (request : Request) → Asks (codes "edit", rows) request → ⊥
  no_edit never (Edit edit keeps_going) h = never edit h.1
  no_edit never (Stream request) h = other_stream (codes "edit", rows) (codes "edit") request refl refl refl refl refl h
  no_edit never (Change edit change) h = other_change (codes "edit") rows edit change refl refl refl refl h
  no_edit never request h = other (codes "edit") rows request refl refl h

  pub no_import : ((edit : EditRequest) → AsksToEdit rows edit → ⊥) → (request : Request) → Asks (codes "import", rows) request → ⊥
  no_import never (Import edit text prefix tells_all) h = never edit h.1
  no_import never (Stream request) h = other_stream (codes "import", rows) (codes "import") request refl refl refl refl refl h
  no_import never (Change edit change) h = other_change (codes "import") rows edit change refl refl refl refl h
  no_import never request h = other (codes "import") rows request refl refl h

  pub no_copy : ((first_of (codes "file") rows ≡ None) ⊎ (((edit : EditRequest) → AsksToSave (codes "to-file") rows edit → ⊥)
      ⊎ ((first_of (codes "path") rows ≡ None) ⊎ (first_of (codes "to-path") rows ≡ None)))) → (request : Request) →
      Asks (codes "copy", rows) request → ⊥
  no_copy (inl e) (Copy edit source path into) h = none_there _ source.file.now e h.2.0
  no_copy (inr (inl never)) (Copy edit source path into) h = never edit h.1
  no_copy (inr (inr (inl e))) (Copy edit source path into) h = none_there _ h.3.0 e h.3.1
  no_copy (inr (inr (inr e))) (Copy edit source path into) h = none_there _ h.4.0 e h.4.1
  no_copy e (Stream request) h = other_stream (codes "copy", rows) (codes "copy") request refl refl refl refl refl h
  no_copy e (Change edit change) h = other_change (codes "copy") rows edit change refl refl refl refl h
  no_copy e request h = other (codes "copy") rows request refl refl h

-- `run` with both its options
not_run : (found : Text × List Row) (request : Request) → bytes_eq (codes "run") (word_of request) ≡ false → AreBothGiven found →
    Asks found request → ⊥
not_run found request differ both h = apart (codes "run") (word_of request) differ refl (sym both.0 ∙ named found request h)

not_run_change : (found : Text × List Row) (edit : EditRequest) (change : KeyChange) → AreBothGiven found → Asks found (Change edit change) → ⊥
not_run_change found edit (CreateKey path makes_parents) both h = not_run found (Change edit (CreateKey path makes_parents)) refl both h
not_run_change found edit (SetValue path makes_parents name contents) both h =
    not_run found (Change edit (SetValue path makes_parents name contents)) refl both h
not_run_change found edit (DeleteValue path name) both h = not_run found (Change edit (DeleteValue path name)) refl both h
not_run_change found edit (DeleteKey path is_tree) both h = not_run found (Change edit (DeleteKey path is_tree)) refl both h

pub none_of_both : (found : Text × List Row) → AreBothGiven found → (request : Request) → Asks found request → ⊥
none_of_both found both (Stream request) h = no_stream_of_both found both request h
none_of_both found both (Change edit change) h = not_run_change found edit change both h
none_of_both found both request h = not_run found request refl both h

-- no file is saved
pub no_saving : (name : Text) (rows : List Row) → ((first_of name rows ≡ None) ⊎ (((begin : Begin) → AsksToBegin rows begin → ⊥)
    ⊎ ((seconds : ℕ) → AsksToWait rows seconds → ⊥))) → (edit : EditRequest) → AsksToSave name rows edit → ⊥
no_saving name rows (inl e) edit h = none_there _ edit.file.now e h.file
no_saving name rows (inr (inl never)) edit h = never edit.begin h.begin
no_saving name rows (inr (inr never)) edit h = never edit.wait h.wait

-- the places that were read are those that are asked for
exactly : (rows : List Row) (asked result : Option Places) → asked ≡ result → IsFound (λ places. asked ≡ Some places) result
exactly rows asked None e = λ places h. none_there _ places e h
exactly rows asked (Some places) e = e

pub places_found : (rows : List Row) (given : Option Text) (result : Option Places) → first_of (codes "in") rows ≡ given →
    result ≡ places_asked given → IsFound (AsksForPlaces rows) result
places_found rows given result is read = exactly rows (places_asked (first_of (codes "in") rows)) result (ap places_asked is ∙ sym read)

-- ---- standard input, which isn't one that wasn't written to its end

module _ (rows : List Row) (word : Text) (stream : StreamRequest) (none : Type 0)
    (asks : none → (IsSet (codes "dirty") rows → ⊥) → AsksOfStream (word, rows) stream)
    (never : none → IsSet (codes "dirty") rows → (request : Request) → Asks (word, rows) request → ⊥) where
  pub streamed : (r : Option Request) → none →
      MatchOption r (IsSet (codes "dirty") rows) (λ request. (request ≡ Stream stream) × (IsSet (codes "dirty") rows → ⊥)) →
      IsFound (Asks (word, rows)) r
  streamed None lacks dirty = never lacks dirty
  streamed (Some request) lacks h = subst (Asks (word, rows)) (sym h.0) (asks lacks h.1)

pub dump_streamed : (rows : List Row) (r : Option Request) → first_of (codes "file") rows ≡ None →
    MatchOption r (IsSet (codes "dirty") rows) (λ request. (request ≡ Stream stream.Dump) × (IsSet (codes "dirty") rows → ⊥)) →
    IsFound (Asks (codes "dump", rows)) r
dump_streamed rows =
    streamed rows (codes "dump") stream.Dump (first_of (codes "file") rows ≡ None) (λ none clean. (refl, none, clean)) (no_dump rows)

pub check_streamed : (rows : List Row) (r : Option Request) →
    (all_of (codes "files") rows ≡ None) × (IsSet (codes "verbose") rows → ⊥) →
    MatchOption r (IsSet (codes "dirty") rows) (λ request. (request ≡ Stream stream.Check) × (IsSet (codes "dirty") rows → ⊥)) →
    IsFound (Asks (codes "check", rows)) r
check_streamed rows =
    streamed rows (codes "check") stream.Check ((all_of (codes "files") rows ≡ None) × (IsSet (codes "verbose") rows → ⊥))
    (λ is clean. (refl, is.0, clean, is.1)) (λ is dirty. no_check rows is.0 (inl dirty))
