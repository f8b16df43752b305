-- The keys of files by the time of their last write (this project's own).
use Rattle.std.specs.Prelude.{◌≡◌, ◌⊎◌, ℕ, Bool, false, ◌&&◌, Option}
use Rattle.std.specs.Prelude.{List, [], ◌∷◌}
use Rattle.std.specs.Io.KnownBytes.{Appends}
use Rattle.reg_heap.specs.Paths.{Tree}
use Rattle.reg_words.specs.declared.request.TimelineForm.{TimelineForm}
use Rattle.reg_tables.specs.declared.timeline.TimelineForm.{TimelineForm as TableForm}
use Rattle.reg_tables.specs.declared.timeline.TimelineForm.TheVariants as table
use Rattle.reg_tables.specs.Timelines.{timeline_text}
use Rattle.reg_tree_image.specs.Loads.{ReadsImage, MeetsFault}
use Rattle.reg_tree_image.specs.declared.LoadFault.{LoadFault}
use Rattle.reg_tree_text.specs.DumpFronts.{IsStopped}
use Rattle.reg_tree_text.specs.declared.fault.DumpFault.{DumpFault}
use Rattle.reg_files.specs.Cuts.{is_dump_cut}
use Rattle.reg_files.specs.Looking.{IsReported, OfImage}
use Rattle.reg_words.specs.declared.request.TimelineForm.TheVariants.{Text, Csv, Bodyfile}

-- how a timeline is written, as reg_tables has it
abbrev pub table_form : TimelineForm → TableForm
table_form Text = table.Text
table_form Csv = table.Csv
table_form Bodyfile = table.Bodyfile

-- of some files each was opened, one after another, and read as a tree
abbrev pub ReadsEach : (is_dirty : Bool) → (files : List (List ℕ)) → List Tree → (told told_after : Option (List ℕ)) →
    (failed now_failed : Option ℕ) → Type 0
ReadsEach is_dirty [] [] told told_after failed now_failed = (told_after ≡ told) × (now_failed ≡ failed)
ReadsEach is_dirty (file ∷ files) (tree ∷ trees) told told_after failed now_failed =
    OfImage is_dirty file told failed (λ unread left warned warned_failed.
    ReadsImage unread left tree × ReadsEach is_dirty files trees warned told_after warned_failed now_failed)
ReadsEach is_dirty files trees told told_after failed now_failed = ⊥

-- a file was opened, and read as a tree
abbrev pub ReadsFile : (is_dirty : Bool) → (file : List ℕ) → Tree → (told told_after : Option (List ℕ)) → (failed now_failed : Option ℕ) → Type 0
ReadsFile is_dirty file tree told told_after failed now_failed =
    OfImage is_dirty file told failed (λ unread left warned warned_failed.
    ReadsImage unread left tree × (told_after ≡ warned) × (now_failed ≡ warned_failed))

-- an image isn't read as a tree; or it is, and memory was wanting
abbrev pub IsUngathered : (unread : Option (List ℕ)) → Type 0
IsUngathered unread =
    (left : Option (List ℕ)) × (((fault : LoadFault) × MeetsFault fault unread left) ⊎ ((tree : Tree) × ReadsImage unread left tree))

-- a timeline wasn't written, or not to its end
abbrev pub IsTimelineCut : (cut : Bool) → (text : List ℕ) → (before after : Option (List ℕ)) → Type 0
IsTimelineCut cut text before after = (fault : DumpFault) × (cut ≡ is_dump_cut fault) × IsStopped before after text fault

-- a file wasn't read as a tree, and that was reported: it wasn't opened; or it doesn't load; or memory was wanting
abbrev pub MissesTree : (is_dirty : Bool) → (file : List ℕ) → (told told_after : Option (List ℕ)) → (failed now_failed : Option ℕ) → Type 0
MissesTree is_dirty file told told_after failed now_failed =
    IsReported false told told_after failed now_failed
    ⊎ OfImage is_dirty file told failed (λ unread left warned warned_failed.
    IsUngathered unread × IsReported false warned told_after warned_failed now_failed)

-- one of some files wasn't, and those before it were
abbrev pub MissesOne : (is_dirty : Bool) → (files : List (List ℕ)) → (told told_after : Option (List ℕ)) → (failed now_failed : Option ℕ) → Type 0
MissesOne is_dirty [] told told_after failed now_failed = ⊥
MissesOne is_dirty (file ∷ files) told told_after failed now_failed =
    MissesTree is_dirty file told told_after failed now_failed
    ⊎ OfImage is_dirty file told failed (λ unread left warned warned_failed.
    ((tree : Tree) × ReadsImage unread left tree) × MissesOne is_dirty files warned told_after warned_failed now_failed)

-- the timeline of the trees of some files was written, each named by its file
abbrev pub TellsTimes : (is_dirty : Bool) → (files : List (List ℕ)) → (from to : ℕ) → TimelineForm →
    (before after told told_after : Option (List ℕ)) →
    (failed : Option ℕ) → Type 0
TellsTimes is_dirty files from to form before after told told_after failed =
    (trees : List Tree) × (now_failed : Option ℕ) × ReadsEach is_dirty files trees told told_after failed now_failed
    × Appends before after (timeline_text (table_form form) files trees from to)

-- it wasn't, or not to the end: one of the files wasn't read, and nothing was written; or a front of it was
abbrev pub TimesFail : (is_dirty : Bool) → (files : List (List ℕ)) → (from to : ℕ) → TimelineForm → (closed : Bool) →
    (before after told told_after : Option (List ℕ)) → (failed now_failed : Option ℕ) → Type 0
TimesFail is_dirty files from to form closed before after told told_after failed now_failed =
    ((after ≡ before) × MissesOne is_dirty files told told_after failed now_failed)
    ⊎ ((trees : List Tree) × (warned : Option (List ℕ)) × (warned_failed : Option ℕ) × ReadsEach is_dirty files trees told warned failed warned_failed
    × ((cut : Bool) × IsTimelineCut cut (timeline_text (table_form form) files trees from to) before after
    × IsReported (closed && cut) warned told_after warned_failed now_failed))
