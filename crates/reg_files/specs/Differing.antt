-- Two files that are compared (this project's own).
use Rattle.std.specs.Prelude.{◌≡◌, ◌⊎◌, ℕ, Bool, true, false, ◌&&◌, Option}
use Rattle.std.specs.Prelude.{List, codes}
use Rattle.std.specs.Io.KnownBytes.{Appends}
use Rattle.reg_queries.specs.Differs.{Differs, DiffStops}
use Rattle.reg_queries.specs.declared.fault.DiffFault.{DiffFault}
use Rattle.reg_files.specs.Cuts.{is_diff_cut}
use Rattle.reg_words.specs.declared.request.DiffForm.{DiffForm}
use Rattle.reg_words.specs.declared.request.Ignored.{Ignored}
use Rattle.reg_diff.specs.declared.ignored.Ignored.{Ignored as DiffIgnored}
use Rattle.reg_queries.specs.ImageChanges.{ExportsChanges, ChangesStop}
use Rattle.reg_queries.specs.declared.fault.ChangesEnd.{ChangesEnd}
use Rattle.reg_files.specs.Cuts.{is_changes_cut}
use Rattle.reg_files.specs.Looking.{IsReported, IsCutShort, OfImage, IsUnopened}
use Rattle.reg_words.specs.declared.request.DiffForm.TheVariants.{Lines, Reg}

-- two files were opened, and something done with what is read of them
abbrev pub OfTwo : (is_dirty : Bool) → (old new : List ℕ) → (told : Option (List ℕ)) → (failed : Option ℕ) →
    ((unread unread_left other other_left warned : Option (List ℕ)) → (warned_failed : Option ℕ) → Type 0) → Type 0
OfTwo is_dirty old new told failed done =
    OfImage is_dirty old told failed (λ unread unread_left between between_failed.
    OfImage is_dirty new between between_failed (λ other other_left warned warned_failed.
    done unread unread_left other other_left warned warned_failed))

-- what is passed over, as reg_diff has it
abbrev pub ignored_of : Ignored → DiffIgnored
ignored_of ignored = record {
  time = ignored.time;
  security = ignored.security;
  order = ignored.order;
  class = ignored.class;
  marks = ignored.marks;
}

-- two trees were compared, and are the same, but for what is passed over: that was written behind what is written of no difference
abbrev pub AreSameLines : (path : List ℕ) → DiffIgnored → (old old_left new new_left before after : Option (List ℕ)) → Type 0
AreSameLines path ignored old old_left new new_left before after =
    (written : Option (List ℕ)) × Differs path ignored old old_left new new_left true before written × Appends written after (codes "same\n")

-- so in lines; or it was written as a .reg text that nothing changes
abbrev pub AreSame : DiffForm → (old old_left new new_left before after : Option (List ℕ)) → Type 0
AreSame (Lines path ignored) old old_left new new_left before after =
    AreSameLines path.items (ignored_of ignored) old old_left new new_left before after
AreSame (Reg is_utf8) old old_left new new_left before after = ExportsChanges old old_left new new_left is_utf8 true before after

-- they were compared, and aren't the same: how they differ was written, or what changes
abbrev pub AreOther : DiffForm → (old old_left new new_left before after : Option (List ℕ)) → Type 0
AreOther (Lines path ignored) old old_left new new_left before after =
    Differs path.items (ignored_of ignored) old old_left new new_left false before after
AreOther (Reg is_utf8) old old_left new new_left before after = ExportsChanges old old_left new new_left is_utf8 false before after

-- two files were compared, are the same or not, and nothing else was told
abbrev pub Compares : (is_dirty : Bool) → (old new : List ℕ) → (told told_after : Option (List ℕ)) → (failed : Option ℕ) →
    ((old old_left new new_left : Option (List ℕ)) → Type 0) → Type 0
Compares is_dirty old new told told_after failed done =
    OfTwo is_dirty old new told failed (λ unread unread_left other other_left warned warned_failed.
    done unread unread_left other other_left × (told_after ≡ warned))

-- they are the same, and a write of that failed
abbrev pub AreSameCut : (path : List ℕ) → DiffIgnored → (old old_left new new_left before after : Option (List ℕ)) → Type 0
AreSameCut path ignored old old_left new new_left before after =
    (written : Option (List ℕ)) × Differs path ignored old old_left new new_left true before written × IsCutShort (codes "same\n") written after

-- why it wasn't written how two trees differ, or that they are the same, or not to the end: what ended it; or a write that they are the same
abbrev pub StopsLines : (path : List ℕ) → DiffIgnored → (before after : Option (List ℕ)) → (cut : Bool) →
    (old old_left new new_left : Option (List ℕ)) → Type 0
StopsLines path ignored before after cut old old_left new new_left =
    ((fault : DiffFault) × (cut ≡ is_diff_cut fault) × DiffStops fault path ignored old old_left new new_left before after)
    ⊎ ((cut ≡ true) × AreSameCut path ignored old old_left new new_left before after)

-- why it wasn't written what changes
abbrev pub StopsChanges : (is_utf8 : Bool) → (before after : Option (List ℕ)) → (cut : Bool) → (old old_left new new_left : Option (List ℕ)) → Type 0
StopsChanges is_utf8 before after cut old old_left new new_left =
    (fault : ChangesEnd) × (cut ≡ is_changes_cut fault) × ChangesStop fault old old_left new new_left is_utf8 before after

abbrev pub StopsDiffing : DiffForm → (before after : Option (List ℕ)) → (cut : Bool) → (old old_left new new_left : Option (List ℕ)) → Type 0
StopsDiffing (Lines path ignored) before after cut old old_left new new_left =
    StopsLines path.items (ignored_of ignored) before after cut old old_left new new_left
StopsDiffing (Reg is_utf8) before after cut old old_left new new_left = StopsChanges is_utf8 before after cut old old_left new new_left

-- two files weren't compared, or not to the end: one of them wasn't opened; or something ended it, and that was reported
abbrev pub CompareFails : DiffForm → (is_dirty : Bool) → (old new : List ℕ) → (closed : Bool) → (before after told told_after : Option (List ℕ)) →
    (failed now_failed : Option ℕ) → Type 0
CompareFails form is_dirty old new closed before after told told_after failed now_failed =
    IsUnopened before after told told_after failed now_failed
    ⊎ OfImage is_dirty old told failed (λ unread unread_left between between_failed.
    IsUnopened before after between told_after between_failed now_failed)
    ⊎ OfTwo is_dirty old new told failed (λ unread unread_left other other_left warned warned_failed.
    (cut : Bool) × StopsDiffing form before after cut unread unread_left other other_left
    × IsReported (closed && cut) warned told_after warned_failed now_failed)
