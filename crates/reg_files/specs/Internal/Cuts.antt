-- Which ends of a command are a failed write of the output (this project's own).
use Rattle.std.specs.Prelude.{◌≡◌, ◌⊎◌, ℕ, Bool, true, false, List, Option, ⊤}
use Rattle.reg_text.specs.Failures.{Stays, Fails}
use Rattle.reg_files.specs.Cuts.{is_script_cut}
use Rattle.reg_files.specs.Looking.{IsCutShort}
use Rattle.reg_files.specs.declared.fault.Fault.{Fault}
use Rattle.reg_files.specs.declared.fault.Fault.TheVariants as fault
use Rattle.reg_files.specs.declared.fault.Step.{Step}
use Rattle.reg_files.specs.declared.fault.DiffEnd.{DiffEnd}
use Rattle.reg_files.specs.declared.fault.DiffEnd.TheVariants as diff
use Rattle.reg_files.specs.declared.fault.SaveEnd.{SaveEnd}
use Rattle.reg_files.specs.declared.fault.SaveEnd.TheVariants as save
use Rattle.reg_files.specs.declared.fault.CopyStop.{CopyStop}
use Rattle.reg_files.specs.declared.fault.CopyStop.TheVariants as copied

-- a write of a text, or of a script's replies
abbrev pub is_cut : Fault → Bool
is_cut (fault.Cut written) = true
is_cut (fault.Script ended) = is_script_cut ended
is_cut other = false

-- of a comparison, whichever file it is about
abbrev pub is_diff_end_cut : DiffEnd → Bool
is_diff_end_cut (diff.Old ended) = is_cut ended
is_diff_end_cut (diff.New ended) = is_cut ended

-- of a command that saves: never in a step on the files
abbrev pub is_save_end_cut : SaveEnd → Bool
is_save_end_cut (save.Hive ended) = is_cut ended
is_save_end_cut (save.Text ended) = false
is_save_end_cut (save.Files ended) = false

-- of a copy, whichever file it is about
abbrev pub is_copy_stop_cut : CopyStop → Bool
is_copy_stop_cut (copied.Source ended) = false
is_copy_stop_cut (copied.Target ended) = is_save_end_cut ended

-- just one call of the output failed where its write was cut short, and else none
abbrev pub CutBlames : (cut : Bool) → (before after : Option ℕ) → Type 0
CutBlames true before after = Fails before after
CutBlames false before after = Stays before after

-- the fault of a step that was refused, or want of memory for it
abbrev pub IsOfStep : Step → Fault → Type 0
IsOfStep step (fault.Step refused error) = refused ≡ step
IsOfStep step fault.Memory = ⊤
IsOfStep step other = ⊥

-- a line wasn't told: no write failed, and nothing was written; or one did, and the line was cut short
abbrev pub IsUntold : (line : List ℕ) → (cut : Bool) → (before after : Option (List ℕ)) → Type 0
IsUntold line cut before after = ((cut ≡ false) × (after ≡ before)) ⊎ ((cut ≡ true) × IsCutShort line before after)
