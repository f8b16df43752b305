-- How many entries a hive had, and a journal that begins anew.
use Rattle.std.specs.Prelude.{◌≡◌, ℕ, length, Option, Some, None}
use Rattle.reg_model.specs.declared.statuses.TheConstants.{INVALID_HANDLE, NO_SYSTEM_RESOURCES}
use Rattle.reg_calls.specs.declared.cut.CutFault.{CutFault}
use Rattle.reg_calls.specs.declared.cut.CutFault.TheVariants.{HandlesOpen, Numbers}
use Rattle.reg_calls.specs.Cuts.{fault_of_cut, IsCut}
use Rattle.reg_calls.specs.Views.{next_of}
use Rattle.zugmeled.specs.declared.statuses.TheConstants.{BUSY}
use Rattle.zugmeled.specs.Held.{HeldHive}
use Rattle.zugmeled.specs.Calls.{seen}

-- how many entries the hive has had, and how many its journal keeps; with no hive 6
abbrev pub IsCounted : Option HeldHive → (status entries kept : ℕ) → Type 0
IsCounted None status entries kept = (status ≡ INVALID_HANDLE) × (entries ≡ 0) × (kept ≡ 0)
IsCounted (Some held) status entries kept = (status ≡ 0) × (entries ≡ next_of (seen held)) × (kept ≡ length (seen held).journal)

-- 170 while handles are open, 1450 for more than 10^18 entries
abbrev pub cut_status : CutFault → ℕ
cut_status (HandlesOpen count) = BUSY
cut_status Numbers = NO_SYSTEM_RESOURCES

-- the journal begins anew, and so many entries were cut; or, where it can't, that status, and nothing changed
abbrev pub IsCutBy : Option CutFault → HeldHive → Option HeldHive → (status cut : ℕ) → Type 0
IsCutBy None old new status cut =
    (status ≡ 0) × (cut ≡ length (seen old).journal) × (held : HeldHive) × (new ≡ Some held) × IsCut (seen old) (seen held)
IsCutBy (Some fault) old new status cut =
    (status ≡ cut_status fault) × (cut ≡ 0) × (held : HeldHive) × (new ≡ Some held) × (held.hive ≡ old.hive)

-- so of the hive that C holds; with no hive 6
abbrev pub IsCutTold : Option HeldHive → Option HeldHive → (status cut : ℕ) → Type 0
IsCutTold None new status cut = (status ≡ INVALID_HANDLE) × (cut ≡ 0) × (new ≡ None)
IsCutTold (Some old) new status cut = IsCutBy (fault_of_cut (seen old)) old new status cut
