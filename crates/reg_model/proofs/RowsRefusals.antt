-- Refusals, one of each kind, and which of two comes first. Expected numbers are those of the rules.
use Rattle.std.proofs.Common.{◌≡◌, ℕ, List, [], ◌∷◌, replicate, Some, None, refl}
use Rattle.std.specs.FinMap.{insert, empty}
use Rattle.reg_heap.specs.Paths.{Rec}
use Rattle.reg_model.specs.Worlds.{Handle, Destination, At, Deleted}
use Rattle.reg_model.specs.Causes.{State, early_cause, late_cause, change_cause, early_query_cause, late_query_cause, query_cause}
use Rattle.reg_model.specs.Replies.{body_of, refusal}
use Rattle.reg_model.specs.declared.call.Change.{Change}
use Rattle.reg_model.specs.declared.call.Change.TheVariants.{OpenRoot, SetValue, DeleteValue}
use Rattle.reg_model.specs.declared.call.Query.{Query}
use Rattle.reg_model.specs.declared.call.Query.TheVariants.{QueryValue}
use Rattle.reg_model.specs.declared.answer.AnswerBody.TheVariants.{Short, Value}
use Rattle.reg_model.proofs.RowsReplies.{root_put}

-- a root with one value, the default one: 3 bytes of type 3
abbrev pub root : Rec
root = record { name = 82 ∷ 79 ∷ 79 ∷ 84 ∷ []; marks = 8; class = []; descriptor = replicate 20 0; time = 0; values = record { name = []; kind = 3; bytes = 7 ∷ 8 ∷ 9 ∷ [] } ∷ [] }

-- and one without
abbrev bare : Rec
bare = record { name = 82 ∷ 79 ∷ 79 ∷ 84 ∷ []; marks = 8; class = []; descriptor = replicate 20 0; time = 0; values = [] }

abbrev pub handle : ℕ → ℕ → ℕ → Destination → Handle
handle number session mask destination = record { number = number; session = session; mask = mask; destination = destination }

-- session 0 has handle 0 with all rights, 1 on a deleted key, 2 that may only query, 3 that may only set; session 1 has 4
abbrev pub handles : List Handle
handles = handle 0 0 983103 (At []) ∷ handle 1 0 983103 Deleted ∷ handle 2 0 1 (At []) ∷ handle 3 0 2 (At []) ∷ handle 4 1 983103 (At []) ∷ []

abbrev pub state : ℕ → List Handle → Rec → State
state count hs r = record { kept = count; next = count; world = record { tree = insert empty [] r; handles = hs }; pending = [] }

abbrev pub few : State
few = state 5 handles root

-- the journal has room for no entry more: 16,777,211 and the closings of 5 handles
abbrev pub full : State
full = state 16777211 handles root

abbrev put : ℕ → Change
put h = SetValue h [] 4 (1 ∷ 0 ∷ 0 ∷ 0 ∷ [])

abbrev ask : ℕ → Query
ask h = QueryValue h [] (Some 4)

-- ---- 6: no such handle, or another session's

set_no_handle : change_cause few 0 (put 9) 0 ≡ Some 6
unfolding early_cause late_cause
set_no_handle = refl

set_another_session : change_cause few 1 (put 0) 0 ≡ Some 6
unfolding early_cause late_cause
set_another_session = refl

set_own_session : change_cause few 1 (put 4) 0 ≡ None
unfolding early_cause late_cause
set_own_session = rw root_put refl

query_no_handle : query_cause few 0 (ask 9) 0 ≡ Some 6
unfolding early_query_cause late_query_cause
query_no_handle = refl

query_another_session : query_cause few 0 (ask 4) 0 ≡ Some 6
unfolding early_query_cause late_query_cause
query_another_session = refl

-- ---- 1018: its key was deleted

set_deleted : change_cause few 0 (put 1) 0 ≡ Some 1018
unfolding early_cause late_cause
set_deleted = refl

query_deleted : query_cause few 0 (ask 1) 0 ≡ Some 1018
unfolding early_query_cause late_query_cause
query_deleted = refl

-- ---- 87: bits 0x40 and 0x100000 are outside 0xF003F; a name outside the profile; the limits of the first values

mask_bit_6 : change_cause few 0 (OpenRoot 64) 0 ≡ Some 87
unfolding early_cause late_cause
mask_bit_6 = refl

mask_bit_20 : change_cause few 0 (OpenRoot 1048576) 0 ≡ Some 87
unfolding early_cause late_cause
mask_bit_20 = refl

mask_bit_31 : change_cause few 0 (OpenRoot 2147483649) 0 ≡ Some 87
unfolding early_cause late_cause
mask_bit_31 = refl

mask_all : change_cause few 0 (OpenRoot 983103) 0 ≡ None
unfolding early_cause late_cause
mask_all = refl

mask_none : change_cause few 0 (OpenRoot 0) 0 ≡ None
unfolding early_cause late_cause
mask_none = refl

set_bad_name : change_cause few 0 (SetValue 0 (128 ∷ []) 4 (1 ∷ [])) 0 ≡ Some 87
unfolding early_cause late_cause
set_bad_name = refl

set_name : change_cause few 0 (SetValue 0 (118 ∷ []) 4 (1 ∷ [])) 0 ≡ None
unfolding early_cause late_cause
set_name = rw root_put refl

set_five_bytes : change_cause few 0 (SetValue 0 [] 4 (1 ∷ 2 ∷ 3 ∷ 4 ∷ 5 ∷ [])) 0 ≡ None
unfolding early_cause late_cause
set_five_bytes = rw root_put refl

set_four_bytes : change_cause few 0 (SetValue 0 [] 4 (1 ∷ 2 ∷ 3 ∷ 4 ∷ [])) 0 ≡ None
unfolding early_cause late_cause
set_four_bytes = rw root_put refl

-- any type of 32 bits, and no bytes
set_any_kind : change_cause few 0 (SetValue 0 [] 4294967295 []) 0 ≡ None
unfolding early_cause late_cause
set_any_kind = rw root_put refl

query_bad_name : query_cause few 0 (QueryValue 0 (0 ∷ []) None) 0 ≡ Some 87
unfolding early_query_cause late_query_cause
query_bad_name = refl

-- ---- 5: a mask without the right

set_without_right : change_cause few 0 (put 2) 0 ≡ Some 5
unfolding early_cause late_cause
set_without_right = refl

set_with_right : change_cause few 0 (put 3) 0 ≡ None
unfolding early_cause late_cause
set_with_right = rw root_put refl

query_without_right : query_cause few 0 (ask 3) 0 ≡ Some 5
unfolding early_query_cause late_query_cause
query_without_right = refl

-- ---- 1450 by a count

abbrev many : ℕ → State
many n = state 0 (replicate n (handle 0 0 0 (At []))) root

handles_16383 : change_cause (many 16383) 0 (OpenRoot 0) 0 ≡ None
unfolding early_cause late_cause
handles_16383 = refl

handles_16384 : change_cause (many 16384) 0 (OpenRoot 0) 0 ≡ Some 1450
unfolding early_cause late_cause
handles_16384 = refl

-- the count is the session's own
handles_of_another : change_cause (many 16384) 1 (OpenRoot 0) 0 ≡ None
unfolding early_cause late_cause
handles_of_another = refl

-- an open takes two entries' room, its own and its handle's closing, and a set takes one
room_for_an_open : change_cause (state 16777209 handles root) 0 (OpenRoot 0) 0 ≡ None
unfolding early_cause late_cause
room_for_an_open = refl

no_room_for_an_open : change_cause (state 16777210 handles root) 0 (OpenRoot 0) 0 ≡ Some 1450
unfolding early_cause late_cause
no_room_for_an_open = refl

room_for_a_set : change_cause (state 16777210 handles root) 0 (put 0) 0 ≡ None
unfolding early_cause late_cause
room_for_a_set = rw root_put refl

no_room_for_a_set : change_cause full 0 (put 0) 0 ≡ Some 1450
unfolding early_cause late_cause
no_room_for_a_set = refl

-- ---- the order

no_handle_first : change_cause full 0 (SetValue 9 (128 ∷ []) 4 []) 31 ≡ Some 6
unfolding early_cause late_cause
no_handle_first = refl

deleted_before_87 : change_cause full 0 (SetValue 1 (128 ∷ []) 4 []) 31 ≡ Some 1018
unfolding early_cause late_cause
deleted_before_87 = refl

name_before_right : change_cause full 0 (SetValue 2 (128 ∷ []) 4 []) 31 ≡ Some 87
unfolding early_cause late_cause
name_before_right = refl

right_before_count : change_cause full 0 (put 2) 31 ≡ Some 5
unfolding early_cause late_cause
right_before_count = refl

count_before_callbacks : change_cause full 0 (put 0) 31 ≡ Some 1450
unfolding early_cause late_cause
count_before_callbacks = refl

callbacks : change_cause few 0 (put 0) 31 ≡ Some 31
unfolding early_cause late_cause
callbacks = rw root_put refl

mask_before_count : change_cause full 0 (OpenRoot 64) 31 ≡ Some 87
unfolding early_cause late_cause
mask_before_count = refl

open_count_before_callbacks : change_cause full 0 (OpenRoot 0) 31 ≡ Some 1450
unfolding early_cause late_cause
open_count_before_callbacks = refl

open_callbacks : change_cause few 0 (OpenRoot 0) 31 ≡ Some 31
unfolding early_cause late_cause
open_callbacks = refl

query_deleted_before_87 : query_cause few 0 (QueryValue 1 (0 ∷ []) None) 31 ≡ Some 1018
unfolding early_query_cause late_query_cause
query_deleted_before_87 = refl

query_name_before_right : query_cause few 0 (QueryValue 3 (0 ∷ []) None) 31 ≡ Some 87
unfolding early_query_cause late_query_cause
query_name_before_right = refl

query_right_before_callbacks : query_cause few 0 (ask 3) 31 ≡ Some 5
unfolding early_query_cause late_query_cause
query_right_before_callbacks = refl

-- no such value comes after the callbacks' status; a question takes no room of the journal
query_callbacks : query_cause (state 16777216 handles bare) 0 (ask 0) 31 ≡ Some 31
unfolding early_query_cause late_query_cause
query_callbacks = refl

query_no_value : query_cause (state 16777216 handles bare) 0 (ask 0) 0 ≡ Some 2
unfolding early_query_cause late_query_cause
query_no_value = rw root_put refl

query_another_name : query_cause few 0 (QueryValue 0 (118 ∷ []) None) 0 ≡ Some 2
unfolding early_query_cause late_query_cause
query_another_name = rw root_put refl

query_accepted : query_cause few 0 (ask 0) 0 ≡ None
unfolding early_query_cause late_query_cause
query_accepted = rw root_put refl

-- ---- 234 with type and size; without a room the size alone; a room of the size and a larger one

short : body_of few 0 (QueryValue 0 [] (Some 2)) ≡ Short 234 3 3
unfolding body_of
short = rw root_put refl

no_room : body_of few 0 (QueryValue 0 [] None) ≡ Value 3 3 None
unfolding body_of
no_room = rw root_put refl

room_of_the_size : body_of few 0 (QueryValue 0 [] (Some 3)) ≡ Value 3 3 (Some (7 ∷ 8 ∷ 9 ∷ []))
unfolding body_of
room_of_the_size = rw root_put refl

larger_room : body_of few 0 (QueryValue 0 [] (Some 4294967295)) ≡ Value 3 3 (Some (7 ∷ 8 ∷ 9 ∷ []))
unfolding body_of
larger_room = rw root_put refl

-- a refusal is told by its status alone
refused : refusal 5 ≡ record { status = 5; number = None; handle = None; disposition = None }
refused = refl

-- ---- DeleteValue: each refusal, and its place in the order

abbrev drop_default : ℕ → Change
drop_default h = DeleteValue h []

delete_no_handle : change_cause full 0 (DeleteValue 9 (128 ∷ [])) 31 ≡ Some 6
unfolding early_cause late_cause
delete_no_handle = refl

delete_deleted : change_cause full 0 (DeleteValue 1 (128 ∷ [])) 31 ≡ Some 1018
unfolding early_cause late_cause
delete_deleted = refl

delete_bad_name : change_cause full 0 (DeleteValue 2 (128 ∷ [])) 31 ≡ Some 87
unfolding early_cause late_cause
delete_bad_name = refl

delete_without_right : change_cause full 0 (drop_default 2) 31 ≡ Some 5
unfolding early_cause late_cause
delete_without_right = refl

delete_no_room : change_cause full 0 (drop_default 0) 31 ≡ Some 1450
unfolding early_cause late_cause
delete_no_room = refl

delete_callbacks : change_cause few 0 (DeleteValue 0 (118 ∷ [])) 31 ≡ Some 31
unfolding early_cause late_cause
delete_callbacks = refl

delete_no_value : change_cause few 0 (DeleteValue 0 (118 ∷ [])) 0 ≡ Some 2
unfolding early_cause late_cause
delete_no_value = rw root_put refl

delete_from_bare : change_cause (state 5 handles bare) 0 (drop_default 0) 0 ≡ Some 2
unfolding early_cause late_cause
delete_from_bare = rw root_put refl

delete_accepted : change_cause few 0 (drop_default 0) 0 ≡ None
unfolding early_cause late_cause
delete_accepted = rw root_put refl
