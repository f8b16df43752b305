-- The worlds after whole trees are deleted, and what calls are told there. Expected numbers are those of the rules.
use Rattle.std.proofs.Common.{◌≡◌, [], ◌∷◌, Some, None, false, refl}
use Rattle.std.specs.FinMap.{get, from_sorted, entries-from_sorted, get-from_sorted}
use Rattle.reg_names.specs.Names.{are_key_names}
use Rattle.reg_heap.specs.Paths.{path_cmp}
use Rattle.reg_heap.specs.Edits.{is_within, is_under, any_kept_within, any_kept_under}
use Rattle.reg_heap.proofs.DeletedTrees.{past-written, put-written}
use Rattle.reg_model.specs.Worlds.{World, At, Deleted, after}
use Rattle.reg_model.specs.Causes.{State, early_cause, late_cause, change_cause, early_query_cause, late_query_cause, query_cause}
use Rattle.reg_model.specs.declared.call.Change.{Change}
use Rattle.reg_model.specs.declared.call.Change.TheVariants.{DeleteTree}
use Rattle.reg_model.specs.declared.call.Query.TheVariants.{QueryValue, EnumValue}
use Rattle.reg_model.specs.declared.reply.Entry.{Entry}
use Rattle.reg_model.proofs.RowsRefusals.{handle}
use Rattle.reg_model.proofs.RowsDeleteTree.{a, ab, a_b, a_b_c, value, key, few, over, to_a, to_lower_a, to_b}

-- an entry of session 0 at moment 7
abbrev entry : Change → Entry
entry change = record { number = 8; session = 0; moment = 7; change = change; reply = record { status = 0; number = Some 8; handle = None; disposition = None } }

-- ---- by a path: the key goes with all below it, and the time of the key above is set; `AB` stays, and the handles of both sessions turn

abbrev without_a : World
without_a = record {
  tree = from_sorted (([], key 8 7 []) ∷ (ab, key 0 4 []) ∷ []);
  handles = handle 0 0 983103 (At []) ∷ handle 1 0 983103 Deleted ∷ handle 2 0 131097 Deleted ∷ handle 3 0 65547 Deleted ∷ handle 4 0 983103 Deleted ∷ handle 5 0 983103
      (At ab) ∷ handle 6 0 65545 Deleted ∷ handle 7 1 983103 Deleted ∷ [];
}

after_a : after few.world (entry (DeleteTree 0 to_a)) ≡ without_a
unfolding after
after_a = rw (get-from_sorted, put-written, past-written _ (is_within a)) refl

-- names are the same after folding
after_lower_a : after few.world (entry (DeleteTree 0 to_lower_a)) ≡ without_a
unfolding after
after_lower_a = rw (get-from_sorted, put-written, past-written _ (is_within a)) refl

-- from the handle's key on, which stays with its value
after_b : after few.world (entry (DeleteTree 3 to_b)) ≡ record {
  tree = from_sorted (([], key 8 0 []) ∷ (a, key 0 7 (value ∷ [])) ∷ (ab, key 0 4 []) ∷ []);
  handles = handle 0 0 983103 (At []) ∷ handle 1 0 983103 Deleted ∷ handle 2 0 131097 (At a) ∷ handle 3 0 65547 (At a) ∷ handle 4 0 983103 Deleted ∷ handle 5 0 983103
      (At ab) ∷ handle 6 0 65545 Deleted ∷ handle 7 1 983103 Deleted ∷ [];
}
unfolding after
after_b = rw (get-from_sorted, put-written, past-written _ (is_within a_b)) refl

-- ---- by the empty path: the key stays, with no values, and so do the handles on it

-- `A` loses a subkey and a value
emptied_a : after few.world (entry (DeleteTree 3 [])) ≡ record {
  tree = from_sorted (([], key 8 0 []) ∷ (a, key 0 7 []) ∷ (ab, key 0 4 []) ∷ []);
  handles = handle 0 0 983103 (At []) ∷ handle 1 0 983103 Deleted ∷ handle 2 0 131097 (At a) ∷ handle 3 0 65547 (At a) ∷ handle 4 0 983103 Deleted ∷ handle 5 0 983103
      (At ab) ∷ handle 6 0 65545 Deleted ∷ handle 7 1 983103 Deleted ∷ [];
}
unfolding after
emptied_a = rw (entries-from_sorted, get-from_sorted, put-written, past-written _ (is_under a)) refl

-- `A\B` loses a subkey
emptied_b : after few.world (entry (DeleteTree 6 [])) ≡ record {
  tree = from_sorted (([], key 8 0 []) ∷ (a, key 0 1 (value ∷ [])) ∷ (a_b, key 0 7 []) ∷ (ab, key 0 4 []) ∷ []);
  handles = handle 0 0 983103 (At []) ∷ handle 1 0 983103 Deleted ∷ handle 2 0 131097 (At a) ∷ handle 3 0 65547 (At a) ∷ handle 4 0 983103 Deleted ∷ handle 5 0 983103
      (At ab) ∷ handle 6 0 65545 (At a_b) ∷ handle 7 1 983103 (At a_b) ∷ [];
}
unfolding after
emptied_b = rw (entries-from_sorted, get-from_sorted, put-written, past-written _ (is_under a_b)) refl

-- the root loses all
emptied_root : after few.world (entry (DeleteTree 0 [])) ≡ record {
  tree = from_sorted (([], key 8 7 []) ∷ []);
  handles = handle 0 0 983103 (At []) ∷ handle 1 0 983103 Deleted ∷ handle 2 0 131097 Deleted ∷ handle 3 0 65547 Deleted ∷ handle 4 0 983103 Deleted ∷ handle 5 0 983103
      Deleted ∷ handle 6 0 65545 Deleted ∷ handle 7 1 983103 Deleted ∷ [];
}
unfolding after
emptied_root = rw (entries-from_sorted, get-from_sorted, put-written, past-written _ (is_under [])) refl

-- `AB` and `A\B\C` have nothing: all is as it was, the time too
emptied_ab : after few.world (entry (DeleteTree 5 [])) ≡ few.world
unfolding after
emptied_ab = rw (entries-from_sorted, get-from_sorted) refl

emptied_c : after few.world (entry (DeleteTree 1 [])) ≡ few.world
unfolding after
emptied_c = rw (entries-from_sorted, get-from_sorted) refl

-- ---- the row of the rules, after `create 0 =A\B\C 983103`, `open 0 =A 131097`, `open 0 =A 65547` and `set 3 =v 4 x01`

abbrev made : State
made = over (from_sorted (([], key 8 1 []) ∷ (a, key 0 4 (value ∷ [])) ∷ (a_b, key 0 1 []) ∷ (a_b_c, key 0 1 []) ∷ []))
    (handle 0 0 983103 (At []) ∷ handle 1 0 983103 (At a_b_c) ∷ handle 2 0 131097 (At a) ∷ handle 3 0 65547 (At a) ∷ []) 5

-- `deltree 2 =B` -> `5`
denied : change_cause made 0 (DeleteTree 2 to_b) 0 ≡ Some 5
unfolding early_cause late_cause are_key_names
denied = refl

-- `deltree 3 =`
below_a_goes : any_kept_under made.world.tree a ≡ false
below_a_goes = rw (entries-from_sorted, get-from_sorted path_cmp _ a_b tt, get-from_sorted path_cmp _ a_b_c tt) refl

empty_accepted : change_cause made 0 (DeleteTree 3 []) 0 ≡ None
unfolding early_cause late_cause are_key_names
empty_accepted = rw below_a_goes refl

abbrev bare : State
bare = over (from_sorted (([], key 8 1 []) ∷ (a, key 0 7 []) ∷ []))
    (handle 0 0 983103 (At []) ∷ handle 1 0 983103 Deleted ∷ handle 2 0 131097 (At a) ∷ handle 3 0 65547 (At a) ∷ []) 6

after_empty : after made.world (entry (DeleteTree 3 [])) ≡ bare.world
unfolding after
after_empty = rw (entries-from_sorted, get-from_sorted, put-written, past-written _ (is_under a)) refl

-- `enumvalue 3 0 9 -` -> `259`
no_value : query_cause bare 0 (EnumValue 3 0 9 None) 0 ≡ Some 259
unfolding early_query_cause late_query_cause
no_value = rw get-from_sorted refl

-- `query 1 = -` -> `1018`
gone_c : query_cause bare 0 (QueryValue 1 [] None) 0 ≡ Some 1018
unfolding early_query_cause late_query_cause
gone_c = refl

-- `deltree 0 =A`
a_there : get bare.world.tree a ≡ Some (key 0 7 [])
a_there = get-from_sorted path_cmp _ _ tt

a_goes : any_kept_within bare.world.tree a ≡ false
a_goes = rw (entries-from_sorted, get-from_sorted path_cmp _ a tt) refl

accepted : change_cause bare 0 (DeleteTree 0 to_a) 0 ≡ None
unfolding early_cause late_cause are_key_names
accepted = rw (a_there, a_goes) refl

abbrev left : State
left = over (from_sorted (([], key 8 7 []) ∷ [])) (handle 0 0 983103 (At []) ∷ handle 1 0 983103 Deleted ∷ handle 2 0 131097 Deleted ∷ handle 3 0 65547 Deleted ∷ []) 7

after_path : after bare.world (entry (DeleteTree 0 to_a)) ≡ left.world
unfolding after
after_path = rw (get-from_sorted, put-written, past-written _ (is_within a)) refl

-- `query 3 = -` -> `1018`
gone_a : query_cause left 0 (QueryValue 3 [] None) 0 ≡ Some 1018
unfolding early_query_cause late_query_cause
gone_a = refl

-- `deltree 0 =A` -> `2`
a_missing : get left.world.tree a ≡ None
a_missing = get-from_sorted path_cmp _ _ tt

missing : change_cause left 0 (DeleteTree 0 to_a) 0 ≡ Some 2
unfolding early_cause late_cause are_key_names
missing = rw a_missing refl
