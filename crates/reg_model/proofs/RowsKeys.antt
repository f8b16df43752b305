-- Refusals and replies of the calls on keys and handles. Expected numbers are those of the rules.
use Rattle.std.proofs.Common.{◌≡◌, ℕ, List, [], ◌∷◌, length, true, false, Some, None, refl}
use Rattle.reg_names.specs.Names.{are_key_names}
use Rattle.reg_heap.specs.Paths.{Tree, children_of}
use Rattle.reg_heap.specs.Edits.{has_child}
use Rattle.reg_model.specs.Worlds.{At, Deleted, closed, turned}
use Rattle.reg_model.specs.Causes.{State, early_cause, late_cause, change_cause, early_query_cause, late_query_cause, query_cause}
use Rattle.reg_model.specs.Replies.{disposition_of, key_told, member_told, largest_of}
use Rattle.reg_model.specs.declared.call.Change.TheVariants.{OpenKey, CreateKey, DeleteKey, Close}
use Rattle.reg_model.specs.declared.call.Query.TheVariants.{EnumKey, EnumValue, QueryInfo}
use Rattle.reg_model.specs.declared.answer.AnswerBody.TheVariants.{Refused, Short, Key, Member as Told}
use Rattle.reg_model.proofs.RowsRefusals.{few, full, handle}

-- the path `K`, a path that ends in a backslash, and the path of no names
abbrev k : List ℕ
k = 75 ∷ []

abbrev ended : List ℕ
ended = 75 ∷ 92 ∷ []

-- ---- 6 and 1018

open_no_handle : change_cause few 0 (OpenKey 9 k 1) 0 ≡ Some 6
unfolding early_cause late_cause
open_no_handle = refl

open_another_session : change_cause few 1 (OpenKey 0 k 1) 0 ≡ Some 6
unfolding early_cause late_cause
open_another_session = refl

open_deleted : change_cause few 0 (OpenKey 1 k 1) 0 ≡ Some 1018
unfolding early_cause late_cause
open_deleted = refl

create_deleted : change_cause few 0 (CreateKey 1 k 1 None) 0 ≡ Some 1018
unfolding early_cause late_cause
create_deleted = refl

delete_deleted : change_cause few 0 (DeleteKey 1 k) 0 ≡ Some 1018
unfolding early_cause late_cause
delete_deleted = refl

enum_deleted : query_cause few 0 (EnumKey 1 0 255) 0 ≡ Some 1018
unfolding early_query_cause late_query_cause
enum_deleted = refl

info_no_handle : query_cause few 0 (QueryInfo 9) 0 ≡ Some 6
unfolding early_query_cause late_query_cause
info_no_handle = refl

-- ---- Close: 6 alone, and no callback is asked

close_none : change_cause few 0 (Close 9) 0 ≡ Some 6
unfolding early_cause late_cause
close_none = refl

close_another_sessions : change_cause few 1 (Close 0) 0 ≡ Some 6
unfolding early_cause late_cause
close_another_sessions = refl

close_of_a_deleted_key : change_cause few 0 (Close 1) 0 ≡ None
unfolding early_cause late_cause
close_of_a_deleted_key = refl

close_unasked : change_cause full 0 (Close 0) 5 ≡ None
unfolding early_cause late_cause
close_unasked = refl

-- ---- 87, before 1450 by a count

open_bad_path : change_cause full 0 (OpenKey 0 ended 1) 0 ≡ Some 87
unfolding early_cause late_cause are_key_names
open_bad_path = refl

open_bad_mask : change_cause full 0 (OpenKey 0 k 1048576) 0 ≡ Some 87
unfolding early_cause late_cause are_key_names
open_bad_mask = refl

create_bad_path : change_cause full 0 (CreateKey 0 ended 1 None) 0 ≡ Some 87
unfolding early_cause late_cause are_key_names
create_bad_path = refl

delete_empty : change_cause full 0 (DeleteKey 0 []) 0 ≡ Some 87
unfolding early_cause late_cause are_key_names
delete_empty = refl

delete_bad_path : change_cause full 0 (DeleteKey 0 ended) 0 ≡ Some 87
unfolding early_cause late_cause are_key_names
delete_bad_path = refl

open_full : change_cause full 0 (OpenKey 0 k 1) 0 ≡ Some 1450
unfolding early_cause late_cause are_key_names
open_full = refl

delete_full : change_cause full 0 (DeleteKey 0 k) 0 ≡ Some 1450
unfolding early_cause late_cause are_key_names
delete_full = refl

-- ---- 1450 by a key's subkeys: it has at most 60,000, and one that is there can still be opened by a create

abbrev with_tree : Tree → State
with_tree t = record { kept = 5; next = 5; world = record { tree = t; handles = handle 0 0 983103 (At []) ∷ [] }; pending = [] }

the_60000th : (t : Tree) → has_child t [] k ≡ false → length (children_of t []) ≡ 59999 → change_cause (with_tree t) 0 (CreateKey 0 k 1 None) 0 ≡ None
unfolding early_cause late_cause are_key_names
the_60000th t absent many = rw (absent, many) refl

the_60001st : (t : Tree) → has_child t [] k ≡ false → length (children_of t []) ≡ 60000 → change_cause (with_tree t) 0 (CreateKey 0 k 1 None) 0 ≡ Some 1450
unfolding early_cause late_cause are_key_names
the_60001st t absent many = rw (absent, many) refl

one_of_60000 : (t : Tree) → has_child t [] k ≡ true → length (children_of t []) ≡ 60000 → change_cause (with_tree t) 0 (CreateKey 0 k 1 None) 0 ≡ None
unfolding early_cause late_cause are_key_names
one_of_60000 t there many = rw there refl

-- ---- 5: only questions ask a right

enum_denied : query_cause few 0 (EnumKey 2 0 255) 0 ≡ Some 5
unfolding early_query_cause late_query_cause
enum_denied = refl

enum_value_denied : query_cause few 0 (EnumValue 3 0 255 None) 0 ≡ Some 5
unfolding early_query_cause late_query_cause
enum_value_denied = refl

info_denied : query_cause few 0 (QueryInfo 3) 0 ≡ Some 5
unfolding early_query_cause late_query_cause
info_denied = refl

-- ---- what is told

made_told : disposition_of (k ∷ []) ≡ 1
made_told = refl

there_told : disposition_of [] ≡ 2
there_told = refl

key_short : key_told (Some (record { name = k; marks = 0; class = []; descriptor = []; time = 9; values = [] })) 0 ≡ Short 234 0 1
key_short = refl

key_long_enough : key_told (Some (record { name = k; marks = 0; class = []; descriptor = []; time = 9; values = [] })) 1 ≡ Key k 9
key_long_enough = refl

member_short_of_name : member_told (Some (record { name = k; kind = 3; bytes = 1 ∷ 2 ∷ [] })) 0 (Some 9) ≡ Short 234 3 2
member_short_of_name = refl

member_short_of_room : member_told (Some (record { name = k; kind = 3; bytes = 1 ∷ 2 ∷ [] })) 1 (Some 1) ≡ Short 234 3 2
member_short_of_room = refl

member_without_room : member_told (Some (record { name = k; kind = 3; bytes = 1 ∷ 2 ∷ [] })) 1 None ≡ Told k 3 2 None
member_without_room = refl

member_past_the_last : member_told None 1 None ≡ Refused 259
member_past_the_last = refl

largest_of_three : largest_of (2 ∷ 7 ∷ 3 ∷ []) ≡ 7
largest_of_three = refl

-- ---- a key deleted turns the handles on it, of every session, and no other; a handle closed is gone

turned_handles : turned (k ∷ []) (handle 0 0 1 (At []) ∷ handle 1 0 1 (At (k ∷ [])) ∷ handle 2 1 1 (At (k ∷ [])) ∷ handle 3 0 1 (At (k ∷ k ∷ [])) ∷
    []) ≡ handle 0 0 1 (At []) ∷ handle 1 0 1 Deleted ∷ handle 2 1 1 Deleted ∷ handle 3 0 1 (At (k ∷ k ∷ [])) ∷ []
turned_handles = refl

closed_handle : closed 1 (handle 0 0 1 (At []) ∷ handle 1 0 1 Deleted ∷ handle 2 1 1 (At []) ∷ []) ≡ handle 0 0 1 (At []) ∷ handle 2 1 1 (At []) ∷ []
closed_handle = refl
