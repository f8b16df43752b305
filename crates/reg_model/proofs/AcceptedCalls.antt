-- What an accepted change met: a handle that leads to a key, and no cause of a refusal.
use Rattle.std.proofs.Common.{◌≡◌, ℕ, Bool, true, false, not, nat_le, ◌||◌, ◌==◌, List, length, Option, Some, None, refl, sym, ◌∙◌, subst, cond, is_some}
use Rattle.std.specs.FinMap.{get}
use Rattle.reg_heap.specs.Paths.{Path}
use Rattle.reg_heap.specs.Edits.{values_at, may_not_go, any_kept_within, any_kept_under}
use Rattle.reg_names.specs.Names.{is_value_name, is_path}
use Rattle.reg_model.specs.declared.rights.TheConstants.{SET_VALUE, DELETE_TREE, DELETE_CONTENTS, WRITE_DAC, NOTIFY}
use Rattle.reg_model.specs.declared.statuses.TheConstants.{ACCESS_DENIED, FILE_NOT_FOUND, INVALID_HANDLE, INVALID_PARAMETER, NO_SYSTEM_RESOURCES}
use Rattle.reg_model.specs.Worlds.{Handle, Destination, At, Deleted, look, path_at, path_from}
use Rattle.reg_model.specs.Causes.{State, change_cause, early_cause, late_cause, asked_before, refuse, by_handle, has, is_mask, is_full, is_bad_open, is_bad_target, is_bad_value}
use Rattle.reg_model.specs.declared.limits.TheConstants.{WATCHES_LIMIT}
use Rattle.reg_model.specs.Causes.{is_filter, watches_of, no_watch_room}
use Rattle.reg_model.specs.Causes.{no_handle_room, no_key_room, no_value_room, is_bad_descriptor, is_bad_given, lacks_value, lacks_key, tree_rights, tree_cause, ◌or◌}
use Rattle.reg_model.specs.declared.call.Change.{Change}
use Rattle.reg_model.specs.declared.call.Change.TheVariants.{OpenRoot, OpenKey, CreateKey, SetValue, DeleteValue, DeleteKey, DeleteTree, SetSecurity, Notify, Close}

pub not_refused : (b : Bool) (n : ℕ) → refuse b n ≡ None → b ≡ false
not_refused true n e = absurd (cc)
not_refused false n e = refl

pub neither : (a b : Option ℕ) → (a or b) ≡ None → (a ≡ None) × (b ≡ None)
neither None b e = (refl, e)
neither (Some n) b e = absurd (cc)

pub both_false : (a b : Bool) → (a || b) ≡ false → (a ≡ false) × (b ≡ false)
both_false true b e = absurd (cc)
both_false false b e = (refl, e)

pub not_false : (b : Bool) → not b ≡ false → b ≡ true
not_false true e = refl
not_false false e = absurd (cc)

-- a handle that leads to a key
pub record Target (o : Option Handle) : Type 0 where
  pub handle : Handle
  pub path : Path
  pub found : o ≡ Some handle
  pub destination : handle.destination ≡ At path

pub record Meets (f : Handle → Option ℕ) (o : Option Handle) : Type 0 where
  pub target : Target o
  pub none : f target.handle ≡ None

meets-destination : (f : Handle → Option ℕ) (h : Handle) → by_handle f (Some h) ≡ None → Meets f (Some h)
meets-destination f h = elim h.destination as (λ (p : Destination). by_handle f (Some (record h { destination = p })) ≡ None → Meets f (Some (record h { destination = p }))) [
  | At p ↦ λ e. record { target = record { handle = record h { destination = At p }; path = p; found = refl; destination = refl }; none = e }
  | Deleted ↦ λ e. absurd (cc)
]

-- a change that its handle's causes don't refuse
pub meets : (f : Handle → Option ℕ) (o : Option Handle) → by_handle f o ≡ None → Meets f o
meets f None e = absurd (cc)
meets f (Some h) e = meets-destination f h e

-- the path of the key that the handle leads to
pub target-path : (session number : ℕ) (hs : List Handle) (t : Target (look session number hs)) → path_at session number hs ≡ t.path
target-path session number hs t = rw (t.found, t.destination) refl

record AreNone (a b c : Option ℕ) : Type 0 where
  first : a ≡ None
  second : b ≡ None
  third : c ≡ None

all_none : (a b c : Option ℕ) → (a or b or c) ≡ None → AreNone a b c
all_none None None c e = record { first = refl; second = refl; third = e }
all_none None (Some n) c e = absurd (cc)
all_none (Some n) b c e = absurd (cc)

causes : (s : State) (session : ℕ) (change : Change) (c : ℕ) → change_cause s session change c ≡ None → AreNone (early_cause s session change) (asked_before change c) (late_cause s session change)
causes s session change c e = all_none (early_cause s session change) (asked_before change c) (late_cause s session change) e

pub record RootMet (s : State) (session mask : ℕ) : Type 0 where
  pub good : is_mask mask ≡ true
  pub room : no_handle_room session s ≡ false

pub root-met : (s : State) (session mask c : ℕ) → change_cause s session (OpenRoot mask) c ≡ None → RootMet s session mask
unfolding early_cause
root-met s session mask c e =
    let none = causes s session (OpenRoot mask) c e in
    let early = neither _ _ none.first in
    record { good = not_false _ (not_refused _ INVALID_PARAMETER early.0); room = not_refused _ NO_SYSTEM_RESOURCES early.1 }

pub record OpenMet (s : State) (session h : ℕ) (path : List ℕ) (mask : ℕ) : Type 0 where
  pub target : Target (look session h s.world.handles)
  pub good : is_bad_open path mask ≡ false
  pub room : no_handle_room session s ≡ false
  pub there : is_some (get s.world.tree (path_from session h s.world.handles path)) ≡ true

pub open-met : (s : State) (session h : ℕ) (path : List ℕ) (mask c : ℕ) → change_cause s session (OpenKey h path mask) c ≡ None → OpenMet s session h path mask
unfolding early_cause late_cause
open-met s session h path mask c e =
    let none = causes s session (OpenKey h path mask) c e in
    let m = meets (λ r. refuse (is_bad_open path mask) INVALID_PARAMETER or refuse (no_handle_room session s) NO_SYSTEM_RESOURCES) (look session h s.world.handles) none.first in
    let early = neither _ _ m.none in
    record { target = m.target; good = not_refused _ INVALID_PARAMETER early.0; room = not_refused _ NO_SYSTEM_RESOURCES early.1; there = not_false _ (not_refused _ FILE_NOT_FOUND none.third) }

pub record CreateMet (s : State) (session h : ℕ) (path : List ℕ) (mask : ℕ) (given : Option (List ℕ)) : Type 0 where
  pub target : Target (look session h s.world.handles)
  pub good : is_bad_open path mask ≡ false
  pub sound : is_bad_given given ≡ false
  pub room : no_handle_room session s ≡ false
  pub few : no_key_room s session h path ≡ false

pub create-met : (s : State) (session h : ℕ) (path : List ℕ) (mask : ℕ) (given : Option (List ℕ)) (c : ℕ) → change_cause s session (CreateKey h path mask given) c ≡ None →
    CreateMet s session h path mask given
unfolding early_cause late_cause
create-met s session h path mask given c e =
    let none = causes s session (CreateKey h path mask given) c e in
    let m = meets (λ r. refuse (is_bad_open path mask || is_bad_given given) INVALID_PARAMETER or refuse
    (no_handle_room session s || no_key_room s session h path) NO_SYSTEM_RESOURCES) (look session h s.world.handles) none.first in
    let early = neither _ _ m.none in
    let words = both_false _ _ (not_refused _ INVALID_PARAMETER early.0) in
    let counts = both_false _ _ (not_refused _ NO_SYSTEM_RESOURCES early.1) in
    record { target = m.target; good = words.0; sound = words.1; room = counts.0; few = counts.1 }

pub record SetMet (s : State) (session h : ℕ) (name bytes : List ℕ) : Type 0 where
  pub target : Target (look session h s.world.handles)
  pub good : is_bad_value name bytes ≡ false
  pub right : has SET_VALUE target.handle.mask ≡ true
  pub room : is_full 1 s ≡ false
  pub few : no_value_room name (values_at s.world.tree (path_at session h s.world.handles)) ≡ false

pub set-met : (s : State) (session h : ℕ) (name : List ℕ) (kind : ℕ) (bytes : List ℕ) (c : ℕ) → change_cause s session (SetValue h name kind bytes) c ≡ None → SetMet s session h name bytes
unfolding early_cause late_cause
set-met s session h name kind bytes c e =
    let none = causes s session (SetValue h name kind bytes) c e in
    let m = meets (λ r. refuse (is_bad_value name bytes) INVALID_PARAMETER or refuse (not (has SET_VALUE r.mask)) ACCESS_DENIED or refuse
    (is_full 1 s || no_value_room name (values_at s.world.tree (path_at session h s.world.handles))) NO_SYSTEM_RESOURCES)
    (look session h s.world.handles) none.first in
    let early = all_none _ _ _ m.none in
    let counts = both_false _ _ (not_refused _ NO_SYSTEM_RESOURCES early.third) in
    record { target = m.target; good = not_refused _ INVALID_PARAMETER early.first; right = not_false _ (not_refused _ ACCESS_DENIED early.second); room = counts.0; few = counts.1 }

pub record DropMet (s : State) (session h : ℕ) (name : List ℕ) : Type 0 where
  pub target : Target (look session h s.world.handles)
  pub good : is_value_name name ≡ true
  pub right : has SET_VALUE target.handle.mask ≡ true
  pub room : is_full 1 s ≡ false
  pub there : lacks_value s session h name ≡ false

pub drop-met : (s : State) (session h : ℕ) (name : List ℕ) (c : ℕ) → change_cause s session (DeleteValue h name) c ≡ None → DropMet s session h name
unfolding early_cause late_cause
drop-met s session h name c e =
    let none = causes s session (DeleteValue h name) c e in
    let m = meets (λ r. refuse (not (is_value_name name)) INVALID_PARAMETER or refuse (not (has SET_VALUE r.mask)) ACCESS_DENIED or refuse
    (is_full 1 s) NO_SYSTEM_RESOURCES) (look session h s.world.handles) none.first in
    let early = all_none _ _ _ m.none in
    record {
      target = m.target;
      good = not_false _ (not_refused _ INVALID_PARAMETER early.first);
      right = not_false _ (not_refused _ ACCESS_DENIED early.second);
      room = not_refused _ NO_SYSTEM_RESOURCES early.third;
      there = not_refused _ FILE_NOT_FOUND none.third;
    }

pub record DeleteMet (s : State) (session h : ℕ) (path : List ℕ) : Type 0 where
  pub target : Target (look session h s.world.handles)
  pub good : is_bad_target path ≡ false
  pub room : is_full 1 s ≡ false
  pub there : is_some (get s.world.tree (path_from session h s.world.handles path)) ≡ true
  pub goes : may_not_go s.world.tree (path_from session h s.world.handles path) ≡ false

pub delete-met : (s : State) (session h : ℕ) (path : List ℕ) (c : ℕ) → change_cause s session (DeleteKey h path) c ≡ None → DeleteMet s session h path
unfolding early_cause late_cause
delete-met s session h path c e =
    let none = causes s session (DeleteKey h path) c e in
    let m = meets (λ r. refuse (is_bad_target path) INVALID_PARAMETER or refuse (is_full 1 s) NO_SYSTEM_RESOURCES) (look session h s.world.handles) none.first in
    let early = neither _ _ m.none in
    let late = neither _ _ none.third in
    record {
      target = m.target;
      good = not_refused _ INVALID_PARAMETER early.0;
      room = not_refused _ NO_SYSTEM_RESOURCES early.1;
      there = not_false _ (not_refused _ FILE_NOT_FOUND late.0);
      goes = not_refused _ ACCESS_DENIED late.1;
    }

-- what a whole tree met, by its path: the empty one, by which the handle's key stays, or one of a key that is there and goes
pub record ContentsMet (s : State) (session h mask : ℕ) : Type 0 where
  pub right : has DELETE_CONTENTS mask ≡ true
  pub goes : any_kept_under s.world.tree (path_at session h s.world.handles) ≡ false

pub record BranchMet (s : State) (session h : ℕ) (path : List ℕ) (mask : ℕ) : Type 0 where
  pub right : has DELETE_TREE mask ≡ true
  pub there : is_some (get s.world.tree (path_from session h s.world.handles path)) ≡ true
  pub goes : any_kept_within s.world.tree (path_from session h s.world.handles path) ≡ false

pub record DeleteTreeMet (s : State) (session h : ℕ) (path : List ℕ) : Type 0 where
  pub target : Target (look session h s.world.handles)
  pub good : is_path path ≡ true
  pub room : is_full 1 s ≡ false
  pub contents : (length path == 0) ≡ true → ContentsMet s session h target.handle.mask
  pub branch : (length path == 0) ≡ false → BranchMet s session h path target.handle.mask

tree-right : (path : List ℕ) (mask : ℕ) (b : Bool) → (length path == 0) ≡ b → has (tree_rights path) mask ≡ true → has (cond b DELETE_CONTENTS DELETE_TREE) mask ≡ true
tree-right path mask b is right = subst (λ (b : Bool). has (cond b DELETE_CONTENTS DELETE_TREE) mask ≡ true) is right

contents-met : (s : State) (session h : ℕ) (path : List ℕ) (mask : ℕ) → (length path == 0) ≡ true → has (tree_rights path) mask ≡ true →
    tree_cause s session h path ≡ None → ContentsMet s session h mask
contents-met s session h path mask empty right own =
    let kept = any_kept_under s.world.tree (path_at session h s.world.handles) in
    let goes : refuse kept ACCESS_DENIED ≡ None = sym (rw empty refl) ∙ own in
    record { right = tree-right path mask true empty right; goes = not_refused kept ACCESS_DENIED goes }

branch-met : (s : State) (session h : ℕ) (path : List ℕ) (mask : ℕ) → (length path == 0) ≡ false → has (tree_rights path) mask ≡ true →
    tree_cause s session h path ≡ None → BranchMet s session h path mask
branch-met s session h path mask longer right own =
    let kept = any_kept_within s.world.tree (path_from session h s.world.handles path) in
    let both : (refuse (lacks_key s session h path) FILE_NOT_FOUND or refuse kept ACCESS_DENIED) ≡ None = sym (rw longer refl) ∙ own in
    let late = neither _ _ both in
    record {
      right = tree-right path mask false longer right;
      there = not_false _ (not_refused _ FILE_NOT_FOUND late.0);
      goes = not_refused kept ACCESS_DENIED late.1;
    }

pub delete-tree-met : (s : State) (session h : ℕ) (path : List ℕ) (c : ℕ) → change_cause s session (DeleteTree h path) c ≡ None → DeleteTreeMet s session h path
unfolding early_cause late_cause
delete-tree-met s session h path c e =
    let none = causes s session (DeleteTree h path) c e in
    let m = meets (λ r. refuse (not (is_path path)) INVALID_PARAMETER or refuse (not (has (tree_rights path) r.mask)) ACCESS_DENIED or refuse
    (is_full 1 s) NO_SYSTEM_RESOURCES) (look session h s.world.handles) none.first in
    let early = all_none _ _ _ m.none in
    let mask = m.target.handle.mask in
    let right : has (tree_rights path) mask ≡ true = not_false _ (not_refused _ ACCESS_DENIED early.second) in
    let own : tree_cause s session h path ≡ None = none.third in
    record {
      target = m.target;
      good = not_false _ (not_refused _ INVALID_PARAMETER early.first);
      room = not_refused _ NO_SYSTEM_RESOURCES early.third;
      contents = λ empty. contents-met s session h path mask empty right own;
      branch = λ longer. branch-met s session h path mask longer right own;
    }

pub record SecureMet (s : State) (session h : ℕ) (descriptor : List ℕ) : Type 0 where
  pub target : Target (look session h s.world.handles)
  pub good : is_bad_descriptor descriptor ≡ false
  pub right : has WRITE_DAC target.handle.mask ≡ true
  pub room : is_full 1 s ≡ false

pub secure-met : (s : State) (session h : ℕ) (descriptor : List ℕ) (c : ℕ) → change_cause s session (SetSecurity h descriptor) c ≡ None → SecureMet s session h descriptor
unfolding early_cause late_cause
secure-met s session h descriptor c e =
    let none = causes s session (SetSecurity h descriptor) c e in
    let m = meets (λ r. refuse (is_bad_descriptor descriptor) INVALID_PARAMETER or refuse (not (has WRITE_DAC r.mask)) ACCESS_DENIED or refuse
    (is_full 1 s) NO_SYSTEM_RESOURCES) (look session h s.world.handles) none.first in
    let early = all_none _ _ _ m.none in
    record {
      target = m.target;
      good = not_refused _ INVALID_PARAMETER early.first;
      right = not_false _ (not_refused _ ACCESS_DENIED early.second);
      room = not_refused _ NO_SYSTEM_RESOURCES early.third;
    }

pub record NotifyMet (s : State) (session h filter : ℕ) : Type 0 where
  pub target : Target (look session h s.world.handles)
  pub good : is_filter filter ≡ true
  pub right : has NOTIFY target.handle.mask ≡ true
  pub few : nat_le WATCHES_LIMIT (watches_of session s.pending) ≡ false
  pub room : is_full 1 s ≡ false

pub notify-met : (s : State) (session h filter : ℕ) (subtree : Bool) (c : ℕ) → change_cause s session (Notify h filter subtree) c ≡ None → NotifyMet s session h filter
unfolding early_cause late_cause
notify-met s session h filter subtree c e =
    let none = causes s session (Notify h filter subtree) c e in
    let m = meets (λ r. refuse (not (is_filter filter)) INVALID_PARAMETER or refuse (not (has NOTIFY r.mask)) ACCESS_DENIED or refuse
    (no_watch_room session s) NO_SYSTEM_RESOURCES) (look session h s.world.handles) none.first in
    let early = all_none _ _ _ m.none in
    let counts = both_false _ _ (not_refused _ NO_SYSTEM_RESOURCES early.third) in
    record {
      target = m.target;
      good = not_false _ (not_refused _ INVALID_PARAMETER early.first);
      right = not_false _ (not_refused _ ACCESS_DENIED early.second);
      few = counts.0;
      room = counts.1;
    }

pub close-met : (s : State) (session h c : ℕ) → change_cause s session (Close h) c ≡ None → is_some (look session h s.world.handles) ≡ true
unfolding early_cause late_cause
close-met s session h c e = let none = causes s session (Close h) c e in not_false _ (not_refused _ INVALID_HANDLE none.first)
