-- The causes of changes by the tests that the code makes.
use Rattle.std.proofs.Common.{◌≡◌, ◌≢◌, ℕ, Bool, true, false, not, ◌||◌, is_some, List, ◌++◌, Option, Some, None, refl, sym, ap, ◌∙◌, arith}
use Rattle.std.specs.Prelude.{bit_and}
use Rattle.std.specs.FinMap.{get}
use Rattle.std.proofs.lemmas.Bool.{eq-eqb}
use Rattle.std.proofs.lemmas.Bool.Decides.{nat_tests}
use Rattle.reg_names.specs.Names.{is_value_name, is_path, path_of, text_of}
use Rattle.reg_names.proofs.PathTexts.{text_of-path_of}
use Rattle.reg_heap.specs.Paths.{Path}
use Rattle.reg_heap.specs.Members.{value_named}
use Rattle.reg_heap.specs.Edits.{values_at, folded_path, are_too_many, may_not_go}
use Rattle.reg_model.specs.declared.rights.TheConstants.{SET_VALUE, WRITE_DAC, NOTIFY}
use Rattle.reg_model.specs.declared.statuses.TheConstants.{ACCESS_DENIED, FILE_NOT_FOUND, INVALID_PARAMETER, NO_SYSTEM_RESOURCES}
use Rattle.reg_model.specs.Worlds.{Handle, look, path_at, path_from}
use Rattle.reg_model.specs.Causes.{State, early_cause, late_cause, change_cause, refuse, ◌or◌, asked, is_mask, is_bad_value, is_bad_open, is_bad_target, no_handle_room, no_key_room}
use Rattle.reg_model.specs.Causes.{is_filter, no_watch_room, is_bad_descriptor, is_bad_given, no_value_room, lacks_value, lacks_key, tree_rights, has, is_full, by_handle}
use Rattle.reg_model.specs.Causes.{AskedOf, Root, KeyOf, HandleAlone, rule_of, asked_of, asked_before}
use Rattle.reg_model.specs.declared.call.Change.{Change}
use Rattle.reg_model.specs.declared.call.Change.TheVariants.{OpenRoot, OpenKey, CreateKey, SetValue, DeleteValue, DeleteKey, DeleteTree, SetSecurity, Notify, Close}
use Rattle.reg_calls.specs.declared.store.Store.{Store}
use Rattle.reg_calls.specs.Internal.Stores.{at, IsTarget}
use Rattle.reg_calls.specs.Internal.DeletedTrees.{keeps_tree}
use Rattle.reg_calls.specs.declared.store.JournalEnd.{JournalEnd}
use Rattle.reg_calls.proofs.HandleLookUps.{by_handle-at, target-at, target-from}

abbrev pub Refuses : Store → ℕ → ℕ → ℕ → Type 0
Refuses store session number status = (f : Handle → Option ℕ) → by_handle f (look session number store.handles.handles) ≡ Some status

pub first : (a b c : Option ℕ) (n : ℕ) → a ≡ Some n → (a or b or c) ≡ Some n
first a b c n e = rw e refl

-- ---- OpenRoot

pub root-mask : (s : State) (session mask c : ℕ) → (bit_and mask 4293984192 ≢ 0) → change_cause s session (OpenRoot mask) c ≡ Some 87
unfolding early_cause late_cause
root-mask s session mask c bad = grind (arith, nat_tests)

pub root-full : (s : State) (session mask c : ℕ) → bit_and mask 4293984192 ≡ 0 → no_handle_room session s ≡ true → change_cause s session (OpenRoot mask) c ≡ Some 1450
unfolding early_cause late_cause
root-full s session mask c good full = let m : is_mask mask ≡ true = grind (arith, nat_tests, good) in rw (m, full) refl

pub root-none : (s : State) (session mask : ℕ) → bit_and mask 4293984192 ≡ 0 → no_handle_room session s ≡ false → change_cause s session (OpenRoot mask) 0 ≡ None
unfolding early_cause late_cause
root-none s session mask good room = let m : is_mask mask ≡ true = grind (arith, nat_tests, good) in rw (m, room) refl

pub root-refused : (s : State) (session mask c status : ℕ) → bit_and mask 4293984192 ≡ 0 → no_handle_room session s ≡ false → asked c ≡ Some status →
    change_cause s session (OpenRoot mask) c ≡ Some status
unfolding early_cause late_cause
root-refused s session mask c status good room refused = let m : is_mask mask ≡ true = grind (arith, nat_tests, good) in rw (m, room, refused) refl

module _ (n : JournalEnd) (store : Store) (session h c : ℕ) where
  abbrev s : State
  s = at n store

  abbrev t : Type 0
  t = IsTarget store session h

  -- ---- OpenKey

  pub open-refused : (path : List ℕ) (mask status : ℕ) → Refuses store session h status → change_cause s session (OpenKey h path mask) c ≡ Some status
  unfolding early_cause late_cause
  open-refused path mask status r = first _ _ _ status (r (λ x. refuse (is_bad_open path mask) INVALID_PARAMETER or refuse (no_handle_room session s) NO_SYSTEM_RESOURCES))

  pub open-causes : (path : List ℕ) (mask : ℕ) (g : t) →
      change_cause s session (OpenKey h path mask) c ≡ (refuse (is_bad_open path mask) INVALID_PARAMETER or refuse
      (no_handle_room session s) NO_SYSTEM_RESOURCES or asked c or refuse (not (is_some (get store.tree.tree (g.path ++ folded_path path)))) FILE_NOT_FOUND)
  unfolding early_cause late_cause
  open-causes path mask g =
      ap (λ (a : Option ℕ). a or asked c or refuse (lacks_key s session h path) FILE_NOT_FOUND)
      (by_handle-at store session h g (λ x. refuse (is_bad_open path mask) INVALID_PARAMETER or refuse
      (no_handle_room session s) NO_SYSTEM_RESOURCES))
      ∙ ap (λ (q : Path). refuse (is_bad_open path mask) INVALID_PARAMETER or refuse (no_handle_room session s) NO_SYSTEM_RESOURCES or asked c or refuse
      (not (is_some (get store.tree.tree q))) 2) (target-from store session h g path)

  -- ---- CreateKey

  pub create-refused : (path : List ℕ) (mask : ℕ) (given : Option (List ℕ)) (status : ℕ) → Refuses store session h status →
      change_cause s session (CreateKey h path mask given) c ≡ Some status
  unfolding early_cause late_cause
  create-refused path mask given status r =
      first _ _ _ status (r (λ x. refuse (is_bad_open path mask || is_bad_given given) INVALID_PARAMETER or refuse
      (no_handle_room session s || no_key_room s session h path) NO_SYSTEM_RESOURCES))

  pub create-causes : (path : List ℕ) (mask : ℕ) (given : Option (List ℕ)) (g : t) →
      change_cause s session (CreateKey h path mask given) c ≡ (refuse (is_bad_open path mask || is_bad_given given) INVALID_PARAMETER or refuse
      (no_handle_room session s || are_too_many store.tree.tree g.path (path_of path)) NO_SYSTEM_RESOURCES or asked c or None)
  unfolding early_cause late_cause
  create-causes path mask given g =
      ap (λ (a : Option ℕ). a or asked c or None) (by_handle-at store session h g (λ x. refuse (is_bad_open path mask || is_bad_given given) INVALID_PARAMETER or refuse
      (no_handle_room session s || no_key_room s session h path) NO_SYSTEM_RESOURCES))
      ∙ ap (λ (q : Path). refuse (is_bad_open path mask || is_bad_given given) INVALID_PARAMETER or refuse (no_handle_room session s || are_too_many store.tree.tree q
      (path_of path)) NO_SYSTEM_RESOURCES or asked c or None) (target-at store session h g)

  -- ---- SetValue

  pub set-refused : (name bytes : List ℕ) (kind status : ℕ) → Refuses store session h status → change_cause s session (SetValue h name kind bytes) c ≡ Some status
  unfolding early_cause late_cause
  set-refused name bytes kind status r =
      first _ _ _ status (r (λ x. refuse (is_bad_value name bytes) INVALID_PARAMETER or refuse (not (has SET_VALUE x.mask)) ACCESS_DENIED or refuse
      (is_full 1 s || no_value_room name (values_at store.tree.tree (path_at session h store.handles.handles))) NO_SYSTEM_RESOURCES))

  pub set-causes : (name bytes : List ℕ) (kind mask : ℕ) (g : t) → mask ≡ g.handle.mask →
      change_cause s session (SetValue h name kind bytes) c ≡ (refuse (is_bad_value name bytes) INVALID_PARAMETER or refuse (not (has SET_VALUE mask)) ACCESS_DENIED or refuse
      (is_full 1 s || no_value_room name (values_at store.tree.tree g.path)) NO_SYSTEM_RESOURCES or asked c or None)
  unfolding early_cause late_cause
  set-causes name bytes kind mask g m =
      ap (λ (a : Option ℕ). a or asked c or None) (by_handle-at store session h g (λ x. refuse (is_bad_value name bytes) INVALID_PARAMETER or refuse
      (not (has SET_VALUE x.mask)) ACCESS_DENIED or refuse (is_full 1 s || no_value_room name (values_at store.tree.tree (path_at session h store.handles.handles)))
      NO_SYSTEM_RESOURCES))
      ∙ (ap (λ (q : Path). refuse (is_bad_value name bytes) INVALID_PARAMETER or refuse (not (has SET_VALUE g.handle.mask)) ACCESS_DENIED or refuse
      (is_full 1 s || no_value_room name (values_at store.tree.tree q)) NO_SYSTEM_RESOURCES or asked c or None) (target-at store session h g)
      ∙ ap (λ (k : ℕ). refuse (is_bad_value name bytes) INVALID_PARAMETER or refuse (not (has SET_VALUE k)) ACCESS_DENIED or refuse
      (is_full 1 s || no_value_room name (values_at store.tree.tree g.path)) NO_SYSTEM_RESOURCES or asked c or None) (sym m))

  -- ---- DeleteValue

  pub drop-refused : (name : List ℕ) (status : ℕ) → Refuses store session h status → change_cause s session (DeleteValue h name) c ≡ Some status
  unfolding early_cause late_cause
  drop-refused name status r =
      first _ _ _ status (r (λ x. refuse (not (is_value_name name)) INVALID_PARAMETER or refuse (not (has SET_VALUE x.mask)) ACCESS_DENIED or refuse
      (is_full 1 s) NO_SYSTEM_RESOURCES))

  pub drop-causes : (name : List ℕ) (mask : ℕ) (g : t) → mask ≡ g.handle.mask →
      change_cause s session (DeleteValue h name) c ≡ (refuse (not (is_value_name name)) INVALID_PARAMETER or refuse (not (has SET_VALUE mask)) ACCESS_DENIED or refuse
      (is_full 1 s) NO_SYSTEM_RESOURCES or asked c or refuse (not (is_some (value_named name (values_at store.tree.tree g.path)))) FILE_NOT_FOUND)
  unfolding early_cause late_cause
  drop-causes name mask g m =
      ap (λ (a : Option ℕ). a or asked c or refuse (lacks_value s session h name) FILE_NOT_FOUND)
      (by_handle-at store session h g (λ x. refuse (not (is_value_name name)) INVALID_PARAMETER or refuse (not (has SET_VALUE x.mask)) ACCESS_DENIED or refuse (is_full 1 s) NO_SYSTEM_RESOURCES))
      ∙ (ap (λ (q : Path). refuse (not (is_value_name name)) INVALID_PARAMETER or refuse (not (has SET_VALUE g.handle.mask)) ACCESS_DENIED or refuse
      (is_full 1 s) NO_SYSTEM_RESOURCES or asked c or refuse (not (is_some (value_named name (values_at store.tree.tree q)))) FILE_NOT_FOUND) (target-at store session h g)
      ∙ ap (λ (k : ℕ). refuse (not (is_value_name name)) INVALID_PARAMETER or refuse (not (has SET_VALUE k)) ACCESS_DENIED or refuse (is_full 1 s) NO_SYSTEM_RESOURCES or asked c or refuse
      (not (is_some (value_named name (values_at store.tree.tree g.path)))) 2) (sym m))

  -- ---- DeleteKey

  pub delete-refused : (path : List ℕ) (status : ℕ) → Refuses store session h status → change_cause s session (DeleteKey h path) c ≡ Some status
  unfolding early_cause late_cause
  delete-refused path status r = first _ _ _ status (r (λ x. refuse (is_bad_target path) INVALID_PARAMETER or refuse (is_full 1 s) NO_SYSTEM_RESOURCES))

  pub delete-causes : (path : List ℕ) (g : t) →
      change_cause s session (DeleteKey h path) c ≡ (refuse (is_bad_target path) INVALID_PARAMETER or refuse (is_full 1 s) NO_SYSTEM_RESOURCES or asked c or
      (refuse (not (is_some (get store.tree.tree (g.path ++ folded_path path)))) FILE_NOT_FOUND or refuse
      (may_not_go store.tree.tree (g.path ++ folded_path path)) ACCESS_DENIED))
  unfolding early_cause late_cause
  delete-causes path g =
      ap (λ (a : Option ℕ). a or asked c or (refuse (lacks_key s session h path) FILE_NOT_FOUND or refuse
      (may_not_go store.tree.tree (path_from session h store.handles.handles path)) ACCESS_DENIED))
      (by_handle-at store session h g (λ x. refuse (is_bad_target path) INVALID_PARAMETER or refuse (is_full 1 s) NO_SYSTEM_RESOURCES))
      ∙ ap (λ (q : Path). refuse (is_bad_target path) INVALID_PARAMETER or refuse (is_full 1 s) NO_SYSTEM_RESOURCES or asked c or
      (refuse (not (is_some (get store.tree.tree q))) FILE_NOT_FOUND or refuse (may_not_go store.tree.tree q) ACCESS_DENIED)) (target-from store session h g path)

  -- ---- DeleteTree

  pub tree-refused : (path : List ℕ) (status : ℕ) → Refuses store session h status → change_cause s session (DeleteTree h path) c ≡ Some status
  unfolding early_cause late_cause
  tree-refused path status r =
      first _ _ _ status (r (λ x. refuse (not (is_path path)) INVALID_PARAMETER or refuse (not (has (tree_rights path) x.mask)) ACCESS_DENIED or refuse
      (is_full 1 s) NO_SYSTEM_RESOURCES))

  pub tree-causes : (path : List ℕ) (mask : ℕ) (g : t) → mask ≡ g.handle.mask →
      change_cause s session (DeleteTree h path) c ≡ (refuse (not (is_path path)) INVALID_PARAMETER or refuse (not (has (tree_rights path) mask)) ACCESS_DENIED or refuse
      (is_full 1 s) NO_SYSTEM_RESOURCES or asked c or keeps_tree store.tree.tree g.path path)
  unfolding early_cause late_cause
  tree-causes path mask g m =
      ap (λ (a : Option ℕ). a or asked c or keeps_tree store.tree.tree (path_at session h store.handles.handles) path)
      (by_handle-at store session h g (λ x. refuse (not (is_path path)) INVALID_PARAMETER or refuse (not (has (tree_rights path) x.mask)) ACCESS_DENIED or refuse
      (is_full 1 s) NO_SYSTEM_RESOURCES))
      ∙ (ap (λ (q : Path). refuse (not (is_path path)) INVALID_PARAMETER or refuse (not (has (tree_rights path) g.handle.mask)) ACCESS_DENIED or refuse
      (is_full 1 s) NO_SYSTEM_RESOURCES or asked c or keeps_tree store.tree.tree q path) (target-at store session h g)
      ∙ ap (λ (k : ℕ). refuse (not (is_path path)) INVALID_PARAMETER or refuse (not (has (tree_rights path) k)) ACCESS_DENIED or refuse
      (is_full 1 s) NO_SYSTEM_RESOURCES or asked c or keeps_tree store.tree.tree g.path path) (sym m))

  pub tree-clear : (path : List ℕ) (mask : ℕ) (g : t) → mask ≡ g.handle.mask → is_path path ≡ true → bit_and mask (tree_rights path) ≡ tree_rights path →
      is_full 1 s ≡ false → keeps_tree store.tree.tree g.path path ≡ None → asked c ≡ None → change_cause s session (DeleteTree h path) c ≡ None
  tree-clear path mask g m good rights room goes asked_none =
      let right : has (tree_rights path) mask ≡ true = eq-eqb _ _ rights in
      tree-causes path mask g m ∙ rw (good, right, room, goes, asked_none) refl

  -- ---- SetSecurity

  pub secure-refused : (descriptor : List ℕ) (status : ℕ) → Refuses store session h status → change_cause s session (SetSecurity h descriptor) c ≡ Some status
  unfolding early_cause late_cause
  secure-refused descriptor status r =
      first _ _ _ status (r (λ x. refuse (is_bad_descriptor descriptor) INVALID_PARAMETER or refuse (not (has WRITE_DAC x.mask)) ACCESS_DENIED or refuse
      (is_full 1 s) NO_SYSTEM_RESOURCES))

  pub secure-causes : (descriptor : List ℕ) (mask : ℕ) (g : t) → mask ≡ g.handle.mask →
      change_cause s session (SetSecurity h descriptor) c ≡ (refuse (is_bad_descriptor descriptor) INVALID_PARAMETER or refuse (not (has WRITE_DAC mask)) ACCESS_DENIED or refuse
      (is_full 1 s) NO_SYSTEM_RESOURCES or asked c or None)
  unfolding early_cause late_cause
  secure-causes descriptor mask g m =
      ap (λ (a : Option ℕ). a or asked c or None)
      (by_handle-at store session h g (λ x. refuse (is_bad_descriptor descriptor) INVALID_PARAMETER or refuse (not (has WRITE_DAC x.mask)) ACCESS_DENIED or refuse
      (is_full 1 s) NO_SYSTEM_RESOURCES))
      ∙ ap (λ (k : ℕ). refuse (is_bad_descriptor descriptor) INVALID_PARAMETER or refuse (not (has WRITE_DAC k)) ACCESS_DENIED or refuse
      (is_full 1 s) NO_SYSTEM_RESOURCES or asked c or None) (sym m)

  -- ---- Notify

  pub notify-refused : (filter : ℕ) (subtree : Bool) (status : ℕ) → Refuses store session h status → change_cause s session (Notify h filter subtree) c ≡ Some status
  unfolding early_cause late_cause
  notify-refused filter subtree status r =
      first _ _ _ status (r (λ x. refuse (not (is_filter filter)) INVALID_PARAMETER or refuse (not (has NOTIFY x.mask)) ACCESS_DENIED or refuse
      (no_watch_room session s) NO_SYSTEM_RESOURCES))

  pub notify-causes : (filter : ℕ) (subtree : Bool) (mask : ℕ) (g : t) → mask ≡ g.handle.mask →
      change_cause s session (Notify h filter subtree) c ≡ (refuse (not (is_filter filter)) INVALID_PARAMETER or refuse (not (has NOTIFY mask)) ACCESS_DENIED or refuse
      (no_watch_room session s) NO_SYSTEM_RESOURCES or asked c or None)
  unfolding early_cause late_cause
  notify-causes filter subtree mask g m =
      ap (λ (a : Option ℕ). a or asked c or None)
      (by_handle-at store session h g (λ x. refuse (not (is_filter filter)) INVALID_PARAMETER or refuse (not (has NOTIFY x.mask)) ACCESS_DENIED or refuse
      (no_watch_room session s) NO_SYSTEM_RESOURCES))
      ∙ ap (λ (k : ℕ). refuse (not (is_filter filter)) INVALID_PARAMETER or refuse (not (has NOTIFY k)) ACCESS_DENIED or refuse
      (no_watch_room session s) NO_SYSTEM_RESOURCES or asked c or None) (sym m)

  -- ---- Close

  pub close-found : (o : Handle) → Some o ≡ look session h store.handles.handles → None ≡ change_cause s session (Close h) 0
  unfolding early_cause late_cause
  close-found o e = rw (sym e) refl

  pub close-missing : None ≡ look session h store.handles.handles → Some 6 ≡ change_cause s session (Close h) 0
  unfolding early_cause late_cause
  close-missing e = rw (sym e) refl

-- ---- Callbacks

-- the text of the path of a handle's key
pub asked-at : (store : Store) (session h : ℕ) (g : IsTarget store session h) (text : List ℕ) → path_of text ≡ g.path → text_of (path_at session h store.handles.handles) ≡ text
asked-at store session h g text is = ap text_of (target-at store session h g ∙ sym is) ∙ text_of-path_of text

unasked : (of : AskedOf) → asked_of of 0 ≡ None
unasked Root = refl
unasked (KeyOf h) = refl
unasked (HandleAlone h) = refl

-- nothing refuses what no callback refuses either
pub still-clear : (s : State) (session c : ℕ) (change : Change) → change_cause s session change 0 ≡ None → asked_before change c ≡ None → change_cause s session change c ≡ None
still-clear s session c change clear none =
    ap (λ (a : Option ℕ). early_cause s session change or a or late_cause s session change) (none ∙ sym (unasked (rule_of change).of)) ∙ clear
