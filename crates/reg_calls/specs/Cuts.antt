-- A hive whose journal begins anew.
use Rattle.std.specs.Prelude.{◌≡◌, ℕ, [], length, nat_lt, slice_index_or, if◌then◌else◌, Option, Some, None}
use Rattle.reg_model.specs.declared.limits.TheConstants.{NUMBERS_LIMIT}
use Rattle.reg_calls.specs.declared.cut.CutFault.{CutFault}
use Rattle.reg_calls.specs.declared.cut.CutFault.TheVariants.{HandlesOpen, Numbers}
use Rattle.reg_calls.specs.Views.{View, next_of, told_in, IsHive}

-- why a hive's journal can't begin anew: so many handles are open, or else the hive has had too many entries
abbrev pub fault_of_cut : View → Option CutFault
fault_of_cut v =
    if nat_lt 0 (length v.handles)
    then Some (HandlesOpen (length v.handles))
    else (if nat_lt NUMBERS_LIMIT (next_of v) then Some Numbers else None)

-- the journal begins anew with the tree as it stands, at the number of the next entry, and what each session was told so far is what it
-- was told before; keys, handles and watches are as they were, and no watch is pending
pub record IsCut (old new : View) : Type 0 where
  pub origin : new.origin ≡ old.keys.tree
  pub base : new.base ≡ next_of old
  pub before : (session : ℕ) → slice_index_or new.before session [] ≡ told_in old session
  pub journal : new.journal ≡ []
  pub keys : new.keys ≡ old.keys
  pub handles : new.handles ≡ old.handles
  pub watches : new.watches ≡ old.watches
  pub pending : new.watches.pending ≡ []
  pub hive : IsHive new
