-- What a status says of a request, and of a private call (this project's own).
use Rattle.std.specs.Io.KnownBytes.{Appends}
use Rattle.std.specs.Prelude.{◌≡◌, ◌⊎◌, ℕ, zero, suc, Bool, false, if◌then◌else◌, ◌&&◌, List, Option, Result, Ok, Err, String, string_bytes}
use Rattle.reg_words.specs.declared.request.DiffForm.{DiffForm}
use Rattle.reg_words.specs.declared.request.HiveFile.{HiveFile}
use Rattle.reg_words.specs.declared.request.Request.{Request}
use Rattle.reg_files.specs.Serving.{Fails, Serves}
use Rattle.reg_files.specs.Looking.{IsCutShort, IsReported, OfImage, Looks, IsUnopened}
use Rattle.reg_files.specs.Differing.{AreSame, AreOther, StopsDiffing}

-- the status of what is done or not: 0 where nothing is reported, 1 where its fault is, save that it may be a failed write of an output
-- that is closed
abbrev pub Settles : {A E : Type 0} → (is_cut : E → Bool) → (closed : Bool) → Result A E → (status : ℕ) → (told told_after : Option (List ℕ)) →
    (failed now_failed : Option ℕ) → Type 0
Settles is_cut closed (Ok a) status told told_after failed now_failed = (status ≡ 0) × (told_after ≡ told)
Settles is_cut closed (Err e) status told told_after failed now_failed =
    (status ≡ 1) × IsReported (closed && is_cut e) told told_after failed now_failed

-- the status of a search: 0 where something was found, else 1
abbrev pub status_of : (is_found : Bool) → ℕ
status_of is_found = if is_found then 0 else 1

-- behind an old file that is open a new one was opened, and both are the same
abbrev pub IsSameBehind : DiffForm → HiveFile → (old old_left before after told told_after : Option (List ℕ)) → (failed : Option ℕ) → Type 0
IsSameBehind form new old old_left before after told told_after failed =
    Looks new.is_dirty new.file.now told told_after failed (λ other other_left. AreSame form old old_left other other_left before after)

-- or they aren't; or it wasn't opened; or something ended the comparison
abbrev pub IsOtherBehind : DiffForm → HiveFile → (closed : Bool) → (old old_left before after told told_after : Option (List ℕ)) →
    (failed now_failed : Option ℕ) → Type 0
IsOtherBehind form new closed old old_left before after told told_after failed now_failed =
    Looks new.is_dirty new.file.now told told_after failed (λ other other_left. AreOther form old old_left other other_left before after)
    ⊎ IsUnopened before after told told_after failed now_failed
    ⊎ ((gone : Option (List ℕ)) × OfImage new.is_dirty new.file.now told failed (λ other other_left warned warned_failed.
    (cut : Bool) × StopsDiffing form before after cut old gone other other_left
    × IsReported (closed && cut) warned told_after warned_failed now_failed))

-- a text of the tool's own was written, where it was made
abbrev pub IsTextTold : {A E : Type 0} → Result (String A) E → (before after : Option (List ℕ)) → Type 0
IsTextTold (Ok text) before after = Appends before after (string_bytes text)
IsTextTold (Err e) before after = ⊥

-- it wasn't, or not to its end; or it wasn't made
abbrev pub TextStops : {A E : Type 0} → Result (String A) E → (closed : Bool) → (before after told told_after : Option (List ℕ)) →
    (failed now_failed : Option ℕ) → Type 0
TextStops (Ok text) closed before after told told_after failed now_failed =
    IsCutShort (string_bytes text) before after × IsReported closed told told_after failed now_failed
TextStops (Err e) closed before after told told_after failed now_failed =
    (after ≡ before) × IsReported false told told_after failed now_failed

-- what a status says of a request
abbrev pub Outcome : Request → (status : ℕ) → (closed : Bool) → (unread left before after told told_after : Option (List ℕ)) →
    (failed now_failed : Option ℕ) → Type 0
Outcome request zero closed unread left before after told told_after failed now_failed =
    Serves request unread left before after told told_after failed
Outcome request (suc zero) closed unread left before after told told_after failed now_failed =
    Fails request closed unread left before after told told_after failed now_failed
Outcome request (suc (suc n)) closed unread left before after told told_after failed now_failed = ⊥
