-- Files that are counted (this project's own).
use Rattle.std.specs.Prelude.{◌≡◌, ◌⊎◌, ℕ, zero, suc, max, nat_lt, Bool, true, false, ◌&&◌, Option, Some, None}
use Rattle.std.specs.Prelude.{List, [], ◌∷◌, ◌++◌, length, codes}
use Rattle.std.specs.Fmt.{decimal}
use Rattle.std.specs.Io.KnownBytes.{Appends}
use Rattle.reg_text.specs.Texts.{line_feed, escaped}
use Rattle.reg_tree_image.specs.declared.LoadFault.{LoadFault}
use Rattle.reg_tree_image.specs.Loads.{fault_number}
use Rattle.reg_tree_image.specs.FaultPlaces.{Place, Locates}
use Rattle.reg_words.specs.declared.request.StreamRequest.TheVariants as stream
use Rattle.reg_command.specs.Failures.{Does, Stops, IsSaid}
use Rattle.reg_command.specs.declared.failure.Stop.{Stop}
use Rattle.reg_command.specs.declared.failure.Stop.TheVariants as stop
use Rattle.reg_files.specs.Looking.{IsReported, IsCutShort, Doing, OfImage, Looks, IsUnopened, StopReported, as_read}

-- what is written before what is written of a file: its name, where there are several
abbrev pub name_before : (is_named : Bool) → (file : List ℕ) → List ℕ
name_before true file = file ++ codes ": "
name_before false file = []

-- where in the bins of an image a fault was met, and in which key, told behind it
abbrev pub key_told : Option (List ℕ) → List ℕ
key_told None = []
key_told (Some path) = codes ", in the key =" ++ escaped path

abbrev pub place_told : Option Place → List ℕ
place_told None = []
place_told (Some place) = codes ", at " ++ (decimal place.offset ++ (codes " of its bins" ++ key_told place.key))

-- the line that tells why a file doesn't load, in some words, and where in its bins that is met
abbrev pub place_line : (file : List ℕ) → LoadFault → Option Place → (words : List ℕ) → List ℕ
place_line file fault place words =
    codes "error 1009 load " ++ (decimal (fault_number fault) ++ (codes " " ++ (file ++ (place_told place ++ (codes ": " ++ (words ++ line_feed))))))

-- it was told, or want of memory was
abbrev pub IsPlaceSaid : (file : List ℕ) → LoadFault → Option Place → (told told_after : Option (List ℕ)) → (failed now_failed : Option ℕ) → Type 0
IsPlaceSaid file fault place told told_after failed now_failed =
    ((words : List ℕ) × IsSaid (place_line file fault place words) told told_after failed now_failed)
    ⊎ IsSaid (codes "error 8\n") told told_after failed now_failed

-- a place in a file of some bytes, which was read again; none where it couldn't be
abbrev pub IsPlaced : (is_dirty : Bool) → Option Place → Type 0
IsPlaced is_dirty place =
    ((bytes : Option (List ℕ)) × (left : Option (List ℕ)) × Locates (as_read is_dirty bytes) left place) ⊎ (place ≡ None)

-- of a file that doesn't load it was told why, and where that is met
abbrev pub IsPlaceTold : (is_dirty : Bool) → (file : List ℕ) → LoadFault → (told told_after : Option (List ℕ)) → (failed now_failed : Option ℕ) → Type 0
IsPlaceTold is_dirty file fault told told_after failed now_failed =
    (place : Option Place) × IsPlaced is_dirty place × IsPlaceSaid file fault place told told_after failed now_failed

-- what ended a count was reported; with `--verbose` so is that an image doesn't load, which the output has, and where that is met
abbrev pub CheckReported : (is_verbose is_dirty : Bool) → (file : List ℕ) → (closed : Bool) → Stop → (told told_after : Option (List ℕ)) →
    (failed now_failed : Option ℕ) → Type 0
CheckReported true is_dirty file closed (stop.Load fault) told told_after failed now_failed =
    IsPlaceTold is_dirty file fault told told_after failed now_failed
CheckReported true is_dirty file closed ended told told_after failed now_failed = StopReported closed ended told told_after failed now_failed
CheckReported false is_dirty file closed ended told told_after failed now_failed = StopReported closed ended told told_after failed now_failed

-- a file was counted: its line stands behind its name
abbrev pub Counts : (is_dirty is_verbose is_named : Bool) → (file : List ℕ) → (before after told told_after : Option (List ℕ)) → (failed : Option ℕ) → Type 0
Counts is_dirty is_verbose is_named file before after told told_after failed =
    (named : Option (List ℕ)) × Appends before named (name_before is_named file)
    × Looks is_dirty file told told_after failed (λ unread left. Does stream.Check unread left named after)

-- why a file's line wasn't begun: its name was cut by a failed write; or there was no memory for it, and nothing was written
abbrev pub NameStops : (cut : Bool) → (name : List ℕ) → (before after : Option (List ℕ)) → Type 0
NameStops true name before after = IsCutShort name before after
NameStops false name before after = after ≡ before

-- a file that is open wasn't counted: its line wasn't begun, and that reported; or something ended the count, behind its name
abbrev pub CountStops : (is_dirty is_verbose is_named : Bool) → (file : List ℕ) → (closed : Bool) → (before after told_after : Option (List ℕ)) →
    (now_failed : Option ℕ) → Doing
CountStops is_dirty is_verbose is_named file closed before after told_after now_failed unread left told failed =
    ((cut : Bool) × NameStops cut (name_before is_named file) before after × IsReported (closed && cut) told told_after failed now_failed)
    ⊎ ((named : Option (List ℕ)) × Appends before named (name_before is_named file) × (ended : Stop) × Stops stream.Check ended unread left named after
    × CheckReported is_verbose is_dirty file closed ended told told_after failed now_failed)

-- a file wasn't: it wasn't opened, or it was
abbrev pub Misses : (is_dirty is_verbose is_named : Bool) → (file : List ℕ) → (closed : Bool) → (before after told told_after : Option (List ℕ)) →
    (failed now_failed : Option ℕ) → Type 0
Misses is_dirty is_verbose is_named file closed before after told told_after failed now_failed =
    IsUnopened before after told told_after failed now_failed
    ⊎ OfImage is_dirty file told failed (CountStops is_dirty is_verbose is_named file closed before after told_after now_failed)

-- what a status says of a file
abbrev pub Checks : (is_dirty is_verbose is_named : Bool) → (file : List ℕ) → (status : ℕ) → (closed : Bool) → (before after told told_after : Option (List ℕ)) →
    (failed now_failed : Option ℕ) → Type 0
Checks is_dirty is_verbose is_named file zero closed before after told told_after failed now_failed =
    Counts is_dirty is_verbose is_named file before after told told_after failed
Checks is_dirty is_verbose is_named file (suc n) closed before after told told_after failed now_failed =
    Misses is_dirty is_verbose is_named file closed before after told told_after failed now_failed

-- and of some files, one after another: 0 says that each was counted, and nothing else reported, else one wasn't. All files are gone over,
-- save where nobody reads the output any more
abbrev pub ChecksEach : (is_dirty is_verbose is_named : Bool) → (files : List (List ℕ)) → (status : ℕ) → (closed : Bool) →
    (before after told told_after : Option (List ℕ)) →
    (failed now_failed : Option ℕ) → Type 0
ChecksEach is_dirty is_verbose is_named [] status closed before after told told_after failed now_failed =
    (status ≡ 0) × (after ≡ before) × (told_after ≡ told) × (now_failed ≡ failed)
ChecksEach is_dirty is_verbose is_named (file ∷ files) status closed before after told told_after failed now_failed =
    ((first : ℕ) × (others : ℕ) × (status ≡ max first others)
    × (between : Option (List ℕ)) × (told_between : Option (List ℕ)) × (failed_between : Option ℕ)
    × Checks is_dirty is_verbose is_named file first false before between told told_between failed failed_between
    × ChecksEach is_dirty is_verbose is_named files others closed between after told_between told_after failed_between now_failed)
    ⊎ ((closed ≡ true) × (status ≡ 1) × ((first : ℕ) × Checks is_dirty is_verbose is_named file first closed before after told told_after failed now_failed))

-- of the files of a request each line stands behind its file's name, where there are several
abbrev pub ChecksFiles : (is_dirty is_verbose : Bool) → (files : List (List ℕ)) → (status : ℕ) → (closed : Bool) →
    (before after told told_after : Option (List ℕ)) →
    (failed now_failed : Option ℕ) → Type 0
ChecksFiles is_dirty is_verbose files status closed before after told told_after failed now_failed =
    ChecksEach is_dirty is_verbose (nat_lt 1 (length files)) files status closed before after told told_after failed now_failed
