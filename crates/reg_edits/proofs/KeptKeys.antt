-- The keys of a hive that was loaded are as they were where no call may have changed one.
use Rattle.std.proofs.Common.{◌≡◌, ℕ, Bool, true, false, List, [], ◌∷◌, ◌++◌, true≢false, ap, sym, refl}
use Rattle.std.specs.Prelude.{◌||◌}
use Rattle.std.specs.List.{AllByRecursion}
use Rattle.reg_model.specs.Callbacks.{no_callbacks}
use Rattle.reg_model.specs.Calls.{changes_keys}
use Rattle.reg_model.specs.declared.reply.Entry.{Entry}
use Rattle.reg_calls.specs.Views.{View}
use Rattle.reg_script.specs.Lines.{LinesFrom}
use Rattle.reg_script.proofs.KeptKeys.{LeavesKeys, script_kept_keys}
use Rattle.reg_edits.specs.Edits.{are_changed}

both-false : (a b : Bool) → (a || b) ≡ false → (a ≡ false) × (b ≡ false)
both-false true b e = absurd (true≢false e)
both-false false b e = (refl, e)

-- none of these entries may have changed a key
pub all-left : (journal : List Entry) → are_changed journal ≡ false → AllByRecursion LeavesKeys journal
all-left [] none = tt
all-left (e ∷ journal) none =
    let parts = both-false (changes_keys e.change e.reply) (are_changed journal) none in (parts.0, all-left journal parts.1)

-- a script led there
pub script_kept : (begin : ℕ) (old last : View) (script text : List ℕ) (moment : ℕ) → LinesFrom begin no_callbacks old script text last moment →
    old.journal ≡ [] → are_changed last.journal ≡ false → last.keys ≡ old.keys
script_kept begin old last script text moment h fresh none =
    script_kept_keys begin no_callbacks old last script text moment h last.journal
    (sym (ap (λ (es : List Entry). es ++ last.journal) fresh)) (all-left last.journal none)
