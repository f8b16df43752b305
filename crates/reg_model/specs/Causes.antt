-- Which calls are refused: the first refusal in the order of the rules.
use Rattle.std.specs.Prelude.{ℕ, ◌+◌, ◌==◌, ◌||◌, ◌&&◌, not, nat_lt, nat_le, Bool, true, false, if◌then◌else◌, bit_and}
use Rattle.std.specs.Prelude.{List, [], count_by, length, Option, Some, None, is_some}
use Rattle.std.specs.FinMap.{get}
use Rattle.reg_names.specs.Names.{is_value_name, is_path, path_of}
use Rattle.reg_heap.specs.declared.limits.TheConstants.{DATA_LIMIT, VALUES_LIMIT, DESCRIPTOR_LIMIT}
use Rattle.reg_heap.specs.Paths.{Path, Member, children_of}
use Rattle.reg_heap.specs.Members.{value_named}
use Rattle.reg_heap.specs.Edits.{values_at, are_too_many, may_not_go, any_kept_within, any_kept_under}
use Rattle.reg_model.specs.declared.limits.TheConstants.{JOURNAL_LIMIT, HANDLES_LIMIT, WATCHES_LIMIT}
use Rattle.reg_model.specs.declared.rights.TheConstants.{NO_RIGHTS, QUERY_VALUE, SET_VALUE, ENUMERATE_SUB_KEYS, DELETE_TREE, DELETE_CONTENTS}
use Rattle.reg_model.specs.declared.filters.TheConstants.{EVENTS, NO_FILTER}
use Rattle.reg_model.specs.declared.rights.TheConstants.{READ_CONTROL, WRITE_DAC, NOTIFY}
use Rattle.reg_model.specs.declared.statuses.TheConstants.{FILE_NOT_FOUND, ACCESS_DENIED, INVALID_HANDLE, INVALID_PARAMETER, NO_MORE_ITEMS}
use Rattle.reg_model.specs.declared.statuses.TheConstants.{KEY_DELETED, NO_SYSTEM_RESOURCES}
use Rattle.reg_model.specs.Worlds.{World, Handle, Destination, At, Deleted, look, path_at, path_from}
use Rattle.reg_model.specs.Watches.{Watch}
use Rattle.reg_model.specs.declared.call.Change.{Change}
use Rattle.reg_model.specs.declared.call.Change.TheVariants.{OpenRoot, OpenKey, CreateKey, SetValue, DeleteValue, DeleteKey, DeleteTree, SetSecurity, Notify, Close}
use Rattle.reg_model.specs.declared.call.Query.{Query}
use Rattle.reg_model.specs.declared.call.Query.TheVariants.{QueryValue, EnumKey, EnumValue, QueryInfo, GetSecurity}

-- where a call finds the hive: how many entries the journal keeps, the number of the next one, the world, and the watches that are
-- pending
pub record State : Type 0 where
  pub kept : ℕ
  pub next : ℕ
  pub world : World
  pub pending : List Watch

-- the first refusal of two
infixl 10 ◌or◌
abbrev pub ◌or◌ : Option ℕ → Option ℕ → Option ℕ
None or b = b
(Some n) or b = Some n

abbrev pub refuse : Bool → ℕ → Option ℕ
refuse test status = if test then Some status else None

-- the callbacks' status: 0 is none
abbrev pub asked : ℕ → Option ℕ
asked c = refuse (not (c == 0)) c

-- 6 where the session has no such handle, 1018 where its key was deleted, and else what the handle's causes are
abbrev pub by_handle : (Handle → Option ℕ) → Option Handle → Option ℕ
by_handle f None = Some INVALID_HANDLE
by_handle f (Some h) = by_destination h.destination
  where
    by_destination : Destination → Option ℕ
    by_destination (At p) = f h
    by_destination Deleted = Some KEY_DELETED

-- rights are bits of 0xF003F
abbrev pub is_mask : ℕ → Bool
is_mask mask = bit_and mask NO_RIGHTS == 0

abbrev pub has : ℕ → ℕ → Bool
has rights mask = bit_and mask rights == rights

-- how many handles the session has
abbrev pub handles_of : ℕ → List Handle → ℕ
handles_of session hs = count_by (λ (h : Handle). h.session == session) hs

-- the journal has no room for so many more entries beside the closings of the open handles
abbrev pub is_full : ℕ → State → Bool
is_full more s = nat_lt JOURNAL_LIMIT (s.kept + more + length s.world.handles)

-- the session has 16,384 handles, or the journal has no room for the entry and the new handle's closing
abbrev pub no_handle_room : ℕ → State → Bool
no_handle_room session s = nat_le HANDLES_LIMIT (handles_of session s.world.handles) || is_full 2 s

-- how many pending watches the session has
abbrev pub watches_of : ℕ → List Watch → ℕ
watches_of session vs = count_by (λ (v : Watch). v.session == session) vs

-- the session has 4,096 pending watches, or the journal has no room for the entry
abbrev pub no_watch_room : ℕ → State → Bool
no_watch_room session s = nat_le WATCHES_LIMIT (watches_of session s.pending) || is_full 1 s

-- a filter has one at least of the bits 1, 2, 4 and 8, and no other but 0x10000000
abbrev pub is_filter : ℕ → Bool
is_filter filter = bit_and filter NO_FILTER == 0 && not (bit_and filter EVENTS == 0)

-- no value name, or data above 1,048,576 bytes
abbrev pub is_bad_value : List ℕ → List ℕ → Bool
is_bad_value name bytes = not (is_value_name name) || nat_lt DATA_LIMIT (length bytes)

-- a new name beside 16,384 values
abbrev pub no_value_room : List ℕ → List Member → Bool
no_value_room name values = nat_le VALUES_LIMIT (length values) && not (is_some (value_named name values))

-- no path, or no mask
abbrev pub is_bad_open : List ℕ → ℕ → Bool
is_bad_open path mask = not (is_path path) || not (is_mask mask)

-- no path, or the empty one, which would be the handle's own key
abbrev pub is_bad_target : List ℕ → Bool
is_bad_target path = not (is_path path) || length path == 0

-- a descriptor of no bytes, or of more than 65,535
abbrev pub is_bad_descriptor : List ℕ → Bool
is_bad_descriptor descriptor = length descriptor == 0 || nat_lt DESCRIPTOR_LIMIT (length descriptor)

-- such a one is given, also where no key is made
abbrev pub is_bad_given : Option (List ℕ) → Bool
is_bad_given None = false
is_bad_given (Some descriptor) = is_bad_descriptor descriptor

-- the keys that the path misses would be too many
abbrev pub no_key_room : State → ℕ → ℕ → List ℕ → Bool
no_key_room s session h path = are_too_many s.world.tree (path_at session h s.world.handles) (path_of path)

-- the handle's key has no value of that name
abbrev pub lacks_value : State → ℕ → ℕ → List ℕ → Bool
lacks_value s session h name = not (is_some (value_named name (values_at s.world.tree (path_at session h s.world.handles))))

-- no key is at the end of the path from the handle's key
abbrev pub lacks_key : State → ℕ → ℕ → List ℕ → Bool
lacks_key s session h path = not (is_some (get s.world.tree (path_from session h s.world.handles path)))

-- the key at the end of the path from the handle's key has subkeys, or mark 0x08
abbrev pub stays : State → ℕ → ℕ → List ℕ → Bool
stays s session h path = may_not_go s.world.tree (path_from session h s.world.handles path)

-- the rights to delete a whole tree: with the empty path the handle's key stays, and its values go
abbrev pub tree_rights : List ℕ → ℕ
tree_rights path = if length path == 0 then DELETE_CONTENTS else DELETE_TREE

-- what keeps a whole tree: 2 where no key is at the end of a path that isn't empty, and 5 where a key to be removed has mark 0x08
abbrev pub tree_cause : State → ℕ → ℕ → List ℕ → Option ℕ
tree_cause s session h path =
    if length path == 0 then refuse (any_kept_under s.world.tree (path_at session h s.world.handles)) ACCESS_DENIED else
    (refuse (lacks_key s session h path) FILE_NOT_FOUND or refuse (any_kept_within s.world.tree (path_from session h s.world.handles path)) ACCESS_DENIED)

-- what a change is asked of: the root, the key that a handle leads to, or a handle alone, wherever it leads
pub data AskedOf : Type 0 where
  Root : AskedOf
  KeyOf : ℕ → AskedOf
  HandleAlone : ℕ → AskedOf

-- the path of the key that a call is asked of, the root's where it is asked of none
abbrev pub path_asked : World → ℕ → AskedOf → Path
path_asked w session Root = []
path_asked w session (KeyOf h) = path_at session h w.handles
path_asked w session (HandleAlone h) = path_at session h w.handles

-- a handle that a change opens: the path from the key of which it is asked, and the mask
pub record Opening : Type 0 where
  pub path : List ℕ
  pub mask : ℕ

-- the rules of one change: of what it is asked; that its arguments are bad (87); the rights that it asks (5); that what is counted
-- has no room for it (1450); its own cause; the handle that it opens, if it opens one; and whether it takes space in the bins
pub record Rule : Type 0 where
  pub of : AskedOf
  pub bad : Bool
  pub rights : Option ℕ
  pub counted : State → ℕ → Bool
  pub own : State → ℕ → Option ℕ
  pub opens : Option Opening
  pub takes_space : Bool

-- a change that asks no rights, is one entry, has no cause of its own, opens nothing and takes no space
abbrev pub plain : AskedOf → Bool → Rule
plain of bad = record { of = of; bad = bad; rights = None; counted = λ s session. is_full 1 s; own = λ s session. None; opens = None; takes_space = false }

-- one that opens a handle, for whose closing the journal has room
abbrev pub opening : AskedOf → Bool → List ℕ → ℕ → Rule
opening of bad path mask = record (plain of bad) { counted = λ s session. no_handle_room session s; opens = Some (record { path = path; mask = mask }) }

-- the rules of each change (`RegOpenKeyEx`, `RegCreateKeyEx`, `RegSetValueEx`, `RegDeleteValue`, `RegDeleteKey`, `RegDeleteTree`,
-- `RegSetKeySecurity`, `RegNotifyChangeKeyValue`, `RegCloseKey`)
abbrev pub rule_of : Change → Rule
rule_of (OpenRoot mask) = opening Root (not (is_mask mask)) [] mask
rule_of (OpenKey h path mask) =
    record (opening (KeyOf h) (is_bad_open path mask) path mask) { own = λ s session. refuse (lacks_key s session h path) FILE_NOT_FOUND }
rule_of (CreateKey h path mask given) =
    record (opening (KeyOf h) (is_bad_open path mask || is_bad_given given) path mask) {
      counted = λ s session. no_handle_room session s || no_key_room s session h path;
      takes_space = true;
    }
rule_of (SetValue h name kind bytes) =
    record (plain (KeyOf h) (is_bad_value name bytes)) {
      rights = Some SET_VALUE;
      counted = λ s session. is_full 1 s || no_value_room name (values_at s.world.tree (path_at session h s.world.handles));
      takes_space = true;
    }
rule_of (DeleteValue h name) =
    record (plain (KeyOf h) (not (is_value_name name))) {
      rights = Some SET_VALUE;
      own = λ s session. refuse (lacks_value s session h name) FILE_NOT_FOUND;
    }
rule_of (DeleteKey h path) =
    record (plain (KeyOf h) (is_bad_target path)) {
      own = λ s session. refuse (lacks_key s session h path) FILE_NOT_FOUND or refuse (stays s session h path) ACCESS_DENIED;
    }
rule_of (DeleteTree h path) =
    record (plain (KeyOf h) (not (is_path path))) {
      rights = Some (tree_rights path);
      own = λ s session. tree_cause s session h path;
    }
rule_of (SetSecurity h descriptor) =
    record (plain (KeyOf h) (is_bad_descriptor descriptor)) {
      rights = Some WRITE_DAC;
      takes_space = true;
    }
rule_of (Notify h filter subtree) =
    record (plain (KeyOf h) (not (is_filter filter))) {
      rights = Some NOTIFY;
      counted = λ s session. no_watch_room session s;
    }
rule_of (Close h) = record (plain (HandleAlone h) false) { counted = λ s session. false }

-- the causes so far, and then 5 where rights are asked that the handle lacks
abbrev pub and_rights : Option ℕ → Option ℕ → Handle → Option ℕ
and_rights before None r = before
and_rights before (Some rights) r = before or refuse (not (has rights r.mask)) ACCESS_DENIED

-- what is refused before the callbacks are asked: 6, 1018, 87, 5 and 1450 by a count; of a handle alone only 6
unfoldable pub early_cause : State → ℕ → Change → Option ℕ
early_cause s session change = by (rule_of change) (rule_of change).of
  where
    by : Rule → AskedOf → Option ℕ
    by rule Root = refuse rule.bad INVALID_PARAMETER or refuse (rule.counted s session) NO_SYSTEM_RESOURCES
    by rule (KeyOf h) =
        by_handle (λ r. and_rights (refuse rule.bad INVALID_PARAMETER) rule.rights r or refuse (rule.counted s session) NO_SYSTEM_RESOURCES)
        (look session h s.world.handles)
    by rule (HandleAlone h) = refuse (not (is_some (look session h s.world.handles))) INVALID_HANDLE

-- what is refused after them: the call's own cause
unfoldable pub late_cause : State → ℕ → Change → Option ℕ
late_cause s session change = (rule_of change).own s session

-- the callbacks' status, where they are asked: before every change but one of a handle alone
abbrev pub asked_of : AskedOf → ℕ → Option ℕ
asked_of Root c = asked c
asked_of (KeyOf h) c = asked c
asked_of (HandleAlone h) c = None

abbrev pub asked_before : Change → ℕ → Option ℕ
asked_before change c = asked_of (rule_of change).of c

-- the first refusal of a change; c is the callbacks' status
abbrev pub change_cause : State → ℕ → Change → ℕ → Option ℕ
change_cause s session change c = early_cause s session change or asked_before change c or late_cause s session change

-- the paths of the subkeys of the handle's key, and its values
abbrev pub subkeys_of : State → ℕ → ℕ → List Path
subkeys_of s session h = children_of s.world.tree (path_at session h s.world.handles)

abbrev pub members_of : State → ℕ → ℕ → List Member
members_of s session h = values_at s.world.tree (path_at session h s.world.handles)

unfoldable pub early_query_cause : State → ℕ → Query → Option ℕ
early_query_cause s session query = by query
  where
    by : Query → Option ℕ
    by (QueryValue h name room) =
        by_handle (λ r. refuse (not (is_value_name name)) INVALID_PARAMETER or refuse (not (has QUERY_VALUE r.mask)) ACCESS_DENIED)
        (look session h s.world.handles)
    by (EnumKey h index room) = by_handle (λ r. refuse (not (has ENUMERATE_SUB_KEYS r.mask)) ACCESS_DENIED) (look session h s.world.handles)
    by (EnumValue h index name_room room) = by_handle (λ r. refuse (not (has QUERY_VALUE r.mask)) ACCESS_DENIED) (look session h s.world.handles)
    by (QueryInfo h) = by_handle (λ r. refuse (not (has QUERY_VALUE r.mask)) ACCESS_DENIED) (look session h s.world.handles)
    by (GetSecurity h room) = by_handle (λ r. refuse (not (has READ_CONTROL r.mask)) ACCESS_DENIED) (look session h s.world.handles)

unfoldable pub late_query_cause : State → ℕ → Query → Option ℕ
late_query_cause s session query = by query
  where
    by : Query → Option ℕ
    by (QueryValue h name room) = refuse (lacks_value s session h name) FILE_NOT_FOUND
    by (EnumKey h index room) = refuse (nat_le (length (subkeys_of s session h)) index) NO_MORE_ITEMS
    by (EnumValue h index name_room room) = refuse (nat_le (length (members_of s session h)) index) NO_MORE_ITEMS
    by (QueryInfo h) = None
    by (GetSecurity h room) = None

-- the first refusal of a question; c is the callbacks' status
abbrev pub query_cause : State → ℕ → Query → ℕ → Option ℕ
query_cause s session query c = early_query_cause s session query or asked c or late_query_cause s session query
