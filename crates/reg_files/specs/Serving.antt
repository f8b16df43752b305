-- What the tool did with files (this project's own).
use Rattle.std.specs.Prelude.{◌≡◌, ◌⊎◌, ℕ, Bool, true, false, ◌&&◌, Option, is_some, option_copied}
use Rattle.std.specs.Prelude.{List, map, codes}
use Rattle.std.specs.Io.KnownBytes.{Appends}
use Rattle.reg_words.specs.CommandLines.{AsksNothing, IsCommandLine}
use Rattle.reg_words.specs.declared.request.Form.{Form}
use Rattle.reg_words.specs.declared.request.Places.{Places}
use Rattle.reg_words.specs.declared.request.StreamRequest.TheVariants as stream
use Rattle.reg_words.specs.declared.request.Request.{Request}
use Rattle.reg_words.specs.declared.request.Request.TheVariants.{Stream, Dump, Check, Listing, Get, Find, Diff, Export, Timeline, New, Edit, Import}
use Rattle.reg_words.specs.declared.request.Request.TheVariants.{Change, Copy, Manual, Completions, Version}
use Rattle.reg_text.specs.Failures.{IsUntouched}
use Rattle.reg_command.specs.Failures.{Does, EndsEarly, IsSaid}
use Rattle.reg_find.specs.declared.scope.Scope.{Scope}
use Rattle.reg_heap.specs.Paths.{Path, Tree}
use Rattle.reg_tables.specs.Pages.{html_text}
use Rattle.reg_tables.specs.Tables.{json_text, jsonl_text, csv_text, TableStops}
use Rattle.reg_queries.specs.Queries.{Tabulates, QueryStops}
use Rattle.reg_queries.specs.Finds.{Finds, FindStops}
use Rattle.reg_queries.specs.ImageExports.{Exports, ExportEnds}
use Rattle.reg_queries.specs.declared.fault.QueryFault.{QueryFault}
use Rattle.reg_queries.specs.declared.fault.FindFault.{FindFault}
use Rattle.reg_queries.specs.declared.fault.ExportEnd.{ExportEnd}
use Rattle.reg_files.specs.Cuts.{is_query_cut, is_find_cut, is_end_cut}
use Rattle.reg_words.specs.declared.request.Columns.{Columns}
use Rattle.reg_words.specs.declared.request.DataForm.{DataForm}
use Rattle.reg_words.specs.Manuals.{IsManual}
use Rattle.reg_words.specs.Completions.{AreCompletions}
use Rattle.reg_files.specs.Looking.{IsReported, IsCutShort, Looks, LookFails, DumpStops}
use Rattle.reg_files.specs.Detailed.{ListsKey, ListingEnds, GetsAs, GettingEnds}
use Rattle.reg_files.specs.Differing.{AreSame, AreOther, Compares, CompareFails}
use Rattle.reg_files.specs.Gathering.{TellsTimes, TimesFail}
use Rattle.reg_words.specs.declared.request.Form.TheVariants.{Reg, Json, JsonLines, Csv, Html}
use Rattle.reg_files.specs.Copying.{CopiesInto, StopsCopying}
use Rattle.reg_files.specs.Counting.{ChecksFiles}
use Rattle.reg_files.specs.Editing.{IsNone, EditsFile, OfText, Enters, ChangesFile, StopsEditing, StopsImporting, StopsChanging}

-- ---- files that are searched, compared and exported

-- where a pattern is searched for in the places that are asked for
abbrev pub scope_of : Places → Scope
scope_of places =
    record { keys = places.keys; names = places.names; texts = places.texts; paths = places.paths; bytes = places.bytes }

-- a key of an image's tree was written in a form of text; a front that is given stands in a .reg text for the root's name
abbrev pub WritesAs : Form → (unread left : Option (List ℕ)) → (path : List ℕ) → (before after : Option (List ℕ)) → Type 0
WritesAs (Reg is_utf8 prefix) unread left path before after = Exports unread left path (option_copied prefix) is_utf8 before after
WritesAs Json unread left path before after = Tabulates unread left path json_text before after
WritesAs JsonLines unread left path before after = Tabulates unread left path jsonl_text before after
WritesAs Csv unread left path before after = Tabulates unread left path csv_text before after
WritesAs Html unread left path before after = Tabulates unread left path html_text before after

-- why a key wasn't listed, or not to the end
abbrev pub StopsListing : Columns → (is_tree is_whole : Bool) → (path : List ℕ) → (before after : Option (List ℕ)) →
    (cut : Bool) → (unread left : Option (List ℕ)) → Type 0
StopsListing columns is_tree is_whole path before after cut unread left =
    (fault : QueryFault) × (cut ≡ is_query_cut fault) × ListingEnds fault columns is_tree is_whole path unread left before after

-- why a value wasn't written
abbrev pub StopsGetting : DataForm → (is_whole : Bool) → (path name : List ℕ) → (before after : Option (List ℕ)) →
    (cut : Bool) → (unread left : Option (List ℕ)) → Type 0
StopsGetting form is_whole path name before after cut unread left =
    (fault : QueryFault) × (cut ≡ is_query_cut fault) × GettingEnds form fault is_whole path name unread left before after

-- why a search wasn't made, or not to the end
abbrev pub StopsFinding : (pattern : List ℕ) → (ignores_case : Bool) → Scope → (before after : Option (List ℕ)) →
    (cut : Bool) → (unread left : Option (List ℕ)) → Type 0
StopsFinding pattern ignores_case scope before after cut unread left =
    (fault : FindFault) × (cut ≡ is_find_cut fault) × FindStops fault unread left pattern ignores_case scope before after

-- what ended the writing of a key of an image's tree as a table
abbrev pub TableEnds : (Tree → Path → List ℕ) → (path : List ℕ) → (before after : Option (List ℕ)) → (cut : Bool) → (unread left : Option (List ℕ)) →
    Type 0
TableEnds table path before after cut unread left =
    (fault : QueryFault) × (cut ≡ is_query_cut fault)
    × QueryStops fault unread left (λ tree stopped. TableStops stopped tree path (table tree) before after) before after

-- what ended the writing of a key of an image's tree in a form of text
abbrev pub WriteStops : Form → (path : List ℕ) → (before after : Option (List ℕ)) → (cut : Bool) → (unread left : Option (List ℕ)) → Type 0
WriteStops (Reg is_utf8 prefix) path before after cut unread left =
    (fault : ExportEnd) × (cut ≡ is_end_cut fault) × ExportEnds fault unread left path (option_copied prefix) is_utf8 before after
WriteStops Json path before after cut unread left = TableEnds json_text path before after cut unread left
WriteStops JsonLines path before after cut unread left = TableEnds jsonl_text path before after cut unread left
WriteStops Csv path before after cut unread left = TableEnds csv_text path before after cut unread left
WriteStops Html path before after cut unread left = TableEnds html_text path before after cut unread left

-- a text of the tool's own wasn't written to its end, or not made, for want of memory, and that was reported
abbrev pub TextFails : (List ℕ → Type 0) → (closed : Bool) → (before after told told_after : Option (List ℕ)) → (failed now_failed : Option ℕ) →
    Type 0
TextFails is_text closed before after told told_after failed now_failed =
    ((after ≡ before) × IsReported false told told_after failed now_failed)
    ⊎ ((text : List ℕ) × is_text text × IsCutShort text before after × IsReported closed told told_after failed now_failed)

-- the tool's version, and the kit's
abbrev pub version_text : List ℕ
version_text = codes "regtool 1.0.0\nrattle-kit-13f logic dac8208d650f15bf\n"

-- what a request did with the input and the output, where the status is 0: one of the standard streams was answered; an edit ran the script
-- on the hive in some file, and no line failed; a key or a value of some file's tree was written, something was found in it, or each of some
-- files counted; and all but the first two and an import read nothing. Nothing was told, but of files that weren't written to their end
abbrev pub Serves : Request → (unread left before after told told_after : Option (List ℕ)) → (failed : Option ℕ) → Type 0
Serves (Stream request) unread left before after told told_after failed = Does request unread left before after × (told_after ≡ told)
Serves (Dump hive) unread left before after told told_after failed =
    (left ≡ unread) × Looks hive.is_dirty hive.file.now told told_after failed (λ image image_left. Does stream.Dump image image_left before after)
Serves (Check files is_dirty is_verbose) unread left before after told told_after failed =
    (left ≡ unread) × ((closed : Bool) × (now_failed : Option ℕ)
    × ChecksFiles is_dirty is_verbose (map (λ file. file.now) files.items) 0 closed before after told told_after failed now_failed)
Serves (Listing list) unread left before after told told_after failed =
    (left ≡ unread) × Looks list.hive.is_dirty list.hive.file.now told told_after failed (λ image image_left.
    ListsKey list.columns list.is_tree list.is_whole list.path.items image image_left before after)
Serves (Get value) unread left before after told told_after failed =
    (left ≡ unread) × Looks value.hive.is_dirty value.hive.file.now told told_after failed (λ image image_left.
    GetsAs value.form value.is_whole value.path.items value.name.items image image_left before after)
Serves (Find sought) unread left before after told told_after failed =
    (left ≡ unread) × Looks sought.hive.is_dirty sought.hive.file.now told told_after failed (λ image image_left.
    Finds image image_left sought.pattern.now sought.ignores_case (scope_of sought.places) true before after)
Serves (Diff old new is_dirty form) unread left before after told told_after failed =
    (left ≡ unread) × Compares is_dirty old.now new.now told told_after failed (λ one one_left other other_left.
    AreSame form one one_left other other_left before after)
Serves (Export hive path form) unread left before after told told_after failed =
    (left ≡ unread) × Looks hive.is_dirty hive.file.now told told_after failed (λ image image_left.
    WritesAs form image image_left path.items before after)
Serves (Timeline timeline) unread left before after told told_after failed =
    (left ≡ unread) × TellsTimes timeline.is_dirty (map (λ file. file.now) timeline.files.items) timeline.from timeline.to timeline.form before after
    told told_after failed
Serves (New file name) unread left before after told told_after failed = IsUntouched unread left before after × (told_after ≡ told)
Serves (Edit edit keeps_going) unread left before after told told_after failed =
    EditsFile edit keeps_going IsNone unread left before after × (told_after ≡ told)
Serves (Import edit text prefix tells_all) unread left before after told told_after failed =
    OfText (is_some text) unread left (Enters edit (option_copied prefix)) × (after ≡ before) × (told_after ≡ told)
Serves (Change edit change) unread left before after told told_after failed =
    (left ≡ unread) × ChangesFile edit change before after × (told_after ≡ told)
Serves (Copy edit source path into) unread left before after told told_after failed =
    (left ≡ unread) × Looks source.is_dirty source.file.now told told_after failed (λ image image_left.
    CopiesInto edit path.items into.items image image_left before after)
Serves Manual unread left before after told told_after failed =
    (left ≡ unread) × ((page : List ℕ) × IsManual page × Appends before after page) × (told_after ≡ told)
Serves (Completions shell) unread left before after told told_after failed =
    (left ≡ unread) × ((script : List ℕ) × AreCompletions shell script × Appends before after script) × (told_after ≡ told)
Serves Version unread left before after told told_after failed =
    (left ≡ unread) × Appends before after version_text × (told_after ≡ told)

-- what it did where the status is 1: one of the standard streams ended early; `diff` wrote that the trees of some files differ; `find` found
-- nothing; or something was refused or faulty, and that reported. What was read and written by then is what ended it left. `closed` says
-- whether a write failed since nobody reads the output any more: then that needn't be reported, but all else must
abbrev pub Fails : Request → (closed : Bool) → (unread left before after told told_after : Option (List ℕ)) → (failed now_failed : Option ℕ) → Type 0
Fails (Stream request) closed unread left before after told told_after failed now_failed =
    EndsEarly request unread left before after told told_after failed now_failed
Fails (Dump hive) closed unread left before after told told_after failed now_failed =
    (left ≡ unread) × DumpStops hive.is_dirty hive.file.now closed before after told told_after failed now_failed
Fails (Check files is_dirty is_verbose) closed unread left before after told told_after failed now_failed =
    (left ≡ unread) × ChecksFiles is_dirty is_verbose (map (λ file. file.now) files.items) 1 closed before after told told_after failed now_failed
Fails (Diff old new is_dirty form) closed unread left before after told told_after failed now_failed =
    (left ≡ unread) × (Compares is_dirty old.now new.now told told_after failed (λ one one_left other other_left.
    AreOther form one one_left other other_left before after)
    ⊎ CompareFails form is_dirty old.now new.now closed before after told told_after failed now_failed)
Fails (Timeline timeline) closed unread left before after told told_after failed now_failed =
    (left ≡ unread) × TimesFail timeline.is_dirty (map (λ file. file.now) timeline.files.items) timeline.from timeline.to timeline.form closed before
    after told told_after failed now_failed
Fails (New file name) closed unread left before after told told_after failed now_failed =
    IsUntouched unread left before after × IsReported false told told_after failed now_failed
Fails (Edit edit keeps_going) closed unread left before after told told_after failed now_failed =
    (cut : Bool) × StopsEditing edit keeps_going cut unread left before after × IsReported (closed && cut) told told_after failed now_failed
Fails (Import edit text prefix tells_all) closed unread left before after told told_after failed now_failed =
    ((left ≡ unread) ⊎ OfText (is_some text) unread left (StopsImporting edit (option_copied prefix) tells_all))
    × (after ≡ before) × IsReported false told told_after failed now_failed
Fails (Change edit change) closed unread left before after told told_after failed now_failed =
    (left ≡ unread) × ((cut : Bool) × StopsChanging change cut before after × IsReported (closed && cut) told told_after failed now_failed)
Fails (Copy edit source path into) closed unread left before after told told_after failed now_failed =
    (left ≡ unread) × LookFails source.is_dirty source.file.now closed before after told told_after failed now_failed
    (StopsCopying edit path.items into.items before after)
Fails (Listing list) closed unread left before after told told_after failed now_failed =
    (left ≡ unread) × LookFails list.hive.is_dirty list.hive.file.now closed before after told told_after failed now_failed
    (StopsListing list.columns list.is_tree list.is_whole list.path.items before after)
Fails (Get value) closed unread left before after told told_after failed now_failed =
    (left ≡ unread) × LookFails value.hive.is_dirty value.hive.file.now closed before after told told_after failed now_failed
    (StopsGetting value.form value.is_whole value.path.items value.name.items before after)
Fails (Find sought) closed unread left before after told told_after failed now_failed =
    (left ≡ unread) × (Looks sought.hive.is_dirty sought.hive.file.now told told_after failed (λ image image_left.
    Finds image image_left sought.pattern.now sought.ignores_case (scope_of sought.places) false before after)
    ⊎ LookFails sought.hive.is_dirty sought.hive.file.now closed before after told told_after failed now_failed
    (StopsFinding sought.pattern.now sought.ignores_case (scope_of sought.places) before after))
Fails (Export hive path form) closed unread left before after told told_after failed now_failed =
    (left ≡ unread) × LookFails hive.is_dirty hive.file.now closed before after told told_after failed now_failed
    (WriteStops form path.items before after)
Fails Manual closed unread left before after told told_after failed now_failed =
    (left ≡ unread) × TextFails IsManual closed before after told told_after failed now_failed
Fails (Completions shell) closed unread left before after told told_after failed now_failed =
    (left ≡ unread) × TextFails (AreCompletions shell) closed before after told told_after failed now_failed
Fails Version closed unread left before after told told_after failed now_failed =
    (left ≡ unread) × IsCutShort version_text before after × IsReported closed told told_after failed now_failed

-- what the words ask for was done, and nothing was reported, but of files that weren't written to their end
pub record IsServed (words : List (List ℕ)) (unread left before after told told_after : Option (List ℕ)) (failed : Option ℕ) : Type 0 where
  pub request : Request
  pub command : IsCommandLine words request
  pub serves : Serves request unread left before after told told_after failed

-- what they ask for wasn't done, or `diff` wrote a difference, or `find` found nothing
pub record IsFailed (words : List (List ℕ)) (closed : Bool) (unread left before after told told_after : Option (List ℕ))
    (failed now_failed : Option ℕ)
    : Type 0 where
  pub request : Request
  pub command : IsCommandLine words request
  pub fails : Fails request closed unread left before after told told_after failed now_failed

-- memory was wanting before anything was read, and that was reported
abbrev pub WantsMemory : (unread left before after told told_after : Option (List ℕ)) → (failed now_failed : Option ℕ) → Type 0
WantsMemory unread left before after told told_after failed now_failed =
    IsUntouched unread left before after × IsSaid (codes "error 8\n") told told_after failed now_failed

-- these words ask for nothing, and nothing was touched
pub record IsRefused (words : List (List ℕ)) (unread left before after : Option (List ℕ)) : Type 0 where
  pub asks_nothing : AsksNothing words
  pub untouched : IsUntouched unread left before after
