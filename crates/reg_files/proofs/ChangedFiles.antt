-- What a change of a file left, put together.
use Rattle.std.proofs.Common.{◌≡◌, ℕ, Bool, false, List, Option, refl, subst}
use Rattle.std.specs.Prelude.{◌&&◌, Result, Ok, Err, OnOk}
use Rattle.reg_words.specs.declared.request.EditRequest.{EditRequest}
use Rattle.reg_words.specs.ChangeLines.{told as line_of}
use Rattle.reg_words.specs.declared.typed.change.KeyChange.{KeyChange}
use Rattle.reg_edits.specs.KeyChanges.{Changes}
use Rattle.reg_edits.specs.declared.edits.Edited.{Edited}
use Rattle.reg_edits.specs.declared.changing.ChangeEnd.{ChangeEnd}
use Rattle.reg_edits.specs.declared.changing.ChangeEnd.TheVariants.{Load, Hindered, Call, Memory}
use Rattle.reg_edits.specs.declared.hindrances.Hindrance.{Hindrance}
use Rattle.reg_edits.specs.declared.hindrances.Hindrance.TheVariants.{NoPath, NoName, TooLong, NoKey, NoParent, NoValue, HasSubkeys, IsRoot}
use Rattle.reg_dotreg_import.specs.declared.fault.ImportFault.{ImportFault}
use Rattle.reg_dotreg_import.specs.declared.fault.ImportFault.TheVariants as call
use Rattle.reg_files.specs.Editing.{IsGiven, Tells, ChangesFile, StopsChanging}
use Rattle.reg_files.specs.Internal.Cuts.{is_cut, IsUntold}
use Rattle.reg_files.specs.Internal.Faults.{hindered, call_ended, change_ended}

-- it was made, and told if it was to be
pub changed : (edit : EditRequest) (change : KeyChange) (begin : ℕ) (edited : Edited) (file file_left before after : Option (List ℕ))
    (line : List ℕ) → IsGiven edit.begin begin → Changes begin change edited file file_left → line ≡ line_of change →
    {A E : Type 0} (r : Result A E) → OnOk r (Tells (edit.dry_run && edited.is_changed) line before after) →
    OnOk r (ChangesFile edit change before after)
changed edit change begin edited file file_left before after line given changes same (Ok a) tells = (
  file,
  file_left,
  (
    begin,
    edited,
    given,
    changes,
    subst (λ (l : List ℕ). Tells (edit.dry_run && edited.is_changed) l before after) same tells,
  ),
)
changed edit change begin edited file file_left before after line given changes same (Err e) tells = tells

-- its line wasn't written, or not to the end
pub untold : (change : KeyChange) (line : List ℕ) (cut : Bool) (before after : Option (List ℕ)) → line ≡ line_of change →
    IsUntold line cut before after → StopsChanging change cut before after
untold change line cut before after same h = subst (λ (l : List ℕ). IsUntold l cut before after) same h

-- no fault of a change is a failed write
hindered-uncut : (why : Hindrance) → is_cut (hindered why) ≡ false
hindered-uncut NoPath = refl
hindered-uncut NoName = refl
hindered-uncut TooLong = refl
hindered-uncut NoKey = refl
hindered-uncut NoParent = refl
hindered-uncut NoValue = refl
hindered-uncut HasSubkeys = refl
hindered-uncut IsRoot = refl

call-uncut : (ended : ImportFault) → is_cut (call_ended ended) ≡ false
call-uncut (call.Refused line status) = refl
call-uncut call.Memory = refl

pub change-uncut : (end : ChangeEnd) → is_cut (change_ended end) ≡ false
change-uncut (Load fault) = refl
change-uncut (Hindered why) = hindered-uncut why
change-uncut (Call ended) = call-uncut ended
change-uncut Memory = refl
