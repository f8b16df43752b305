-- The first script: open the root, set its default value, ask for it. What each call is told, and the world after.
use Rattle.std.proofs.Common.{◌≡◌, ℕ, List, [], ◌∷◌, replicate, Some, None, refl, sym}
use Rattle.std.specs.Cmp.{IsTotalOrder}
use Rattle.std.specs.Cmp.Lexicographic.{lists_total, nat_list_cmp_total}
use Rattle.std.specs.FinMap.{get, insert, empty, get-insert}
use Rattle.reg_heap.specs.Paths.{Tree, Rec, path_cmp}
use Rattle.reg_model.specs.Worlds.{At, after}
use Rattle.reg_model.specs.Watches.{watch_of}
use Rattle.reg_model.specs.Causes.{early_cause, late_cause, change_cause, early_query_cause, late_query_cause, query_cause}
use Rattle.reg_model.specs.Replies.{reply_to, body_of}
use Rattle.reg_model.specs.Calls.{reply_given, state_after}
use Rattle.reg_model.specs.Histories.{replay, state_of, IsLegal}
use Rattle.reg_model.specs.declared.call.Change.TheVariants.{OpenRoot, SetValue}
use Rattle.reg_model.specs.declared.call.Query.TheVariants.{QueryValue}
use Rattle.reg_model.specs.declared.reply.Entry.{Entry}
use Rattle.reg_model.specs.declared.answer.AnswerBody.TheVariants.{Short, Value}

path_total : IsTotalOrder path_cmp
path_total = lists_total nat_list_cmp_total

-- the root that was just put into a tree is there
pub root_put : (t : Tree) (r : Rec) → get (insert t [] r) [] ≡ Some r
root_put t r = get-insert path_total t [] r []

-- `0100048000000000000000000000000000000000`
abbrev descriptor : List ℕ
descriptor = 1 ∷ 0 ∷ 4 ∷ 128 ∷ replicate 16 0

-- the root of a fresh hive: `ROOT`, mark 8, no class, no values
abbrev root : Rec
root = record { name = 82 ∷ 79 ∷ 79 ∷ 84 ∷ []; marks = 8; class = []; descriptor = descriptor; time = 0; values = [] }

abbrev origin : Tree
origin = insert empty [] root

-- ---- `root 983103` by session 0: status 0, number 0, handle 0

opened_cause : change_cause (state_of 0 origin []) 0 (OpenRoot 983103) 0 ≡ None
unfolding early_cause late_cause
opened_cause = refl

opened_reply : reply_to (state_of 0 origin []) 0 (OpenRoot 983103) ≡ record { status = 0; number = Some 0; handle = Some 0; disposition = None }
unfolding reply_to
opened_reply = refl

abbrev opening_entry : Entry
opening_entry = record { number = 0; session = 0; moment = 0; change = OpenRoot 983103; reply = record { status = 0; number = Some 0; handle = Some 0; disposition = None } }

opened_world : replay origin (opening_entry ∷ []) ≡ record { tree = origin; handles = record { number = 0; session = 0; mask = 983103; destination = At [] } ∷ [] }
unfolding after
opened_world = refl

-- ---- `set 0 = 4 x01000000` at moment 7: status 0, number 1, no handle

set_cause : change_cause (state_of 0 origin (opening_entry ∷ [])) 0 (SetValue 0 [] 4 (1 ∷ 0 ∷ 0 ∷ 0 ∷ [])) 0 ≡ None
unfolding early_cause late_cause after
set_cause = rw root_put refl

set_reply : reply_to (state_of 0 origin (opening_entry ∷ [])) 0 (SetValue 0 [] 4 (1 ∷ 0 ∷ 0 ∷ 0 ∷ [])) ≡ record { status = 0; number = Some 1; handle = None; disposition = None }
unfolding reply_to
set_reply = refl

abbrev setting_entry : Entry
setting_entry = record { number = 1; session = 0; moment = 7; change = SetValue 0 [] 4 (1 ∷ 0 ∷ 0 ∷ 0 ∷ []); reply = record { status = 0; number = Some 1; handle = None; disposition = None } }

-- the root with its time and its default value
abbrev root_after : Rec
root_after = record { name = 82 ∷ 79 ∷ 79 ∷ 84 ∷ []; marks = 8; class = []; descriptor = descriptor; time = 7; values = record { name = []; kind = 4; bytes = 1 ∷ 0 ∷ 0 ∷ 0 ∷ [] } ∷ [] }

set_world : replay origin (opening_entry ∷ setting_entry ∷ []) ≡ record { tree = insert origin [] root_after; handles = record { number = 0; session = 0; mask = 983103; destination = At [] } ∷ [] }
unfolding after
set_world = rw root_put refl

set_root : get (replay origin (opening_entry ∷ setting_entry ∷ [])).tree [] ≡ Some root_after
set_root = rw (set_world, root_put) refl

-- ---- `query 0 = 4`: after 2 entries, type 4, size 4 and the bytes

asked_cause : query_cause (state_of 0 origin (opening_entry ∷ setting_entry ∷ [])) 0 (QueryValue 0 [] (Some 4)) 0 ≡ None
unfolding early_query_cause late_query_cause
asked_cause = rw (set_world, root_put) refl

asked_count : (state_of 0 origin (opening_entry ∷ setting_entry ∷ [])).next ≡ 2
asked_count = refl

asked_body : body_of (state_of 0 origin (opening_entry ∷ setting_entry ∷ [])) 0 (QueryValue 0 [] (Some 4)) ≡ Value 4 4 (Some (1 ∷ 0 ∷ 0 ∷ 0 ∷ []))
unfolding body_of
asked_body = rw (set_world, root_put) refl

-- a room that is too small; the size alone
short_body : body_of (state_of 0 origin (opening_entry ∷ setting_entry ∷ [])) 0 (QueryValue 0 [] (Some 3)) ≡ Short 234 4 4
unfolding body_of
short_body = rw (set_world, root_put) refl

no_room_body : body_of (state_of 0 origin (opening_entry ∷ setting_entry ∷ [])) 0 (QueryValue 0 [] (Some 0)) ≡ Short 234 4 4
unfolding body_of
no_room_body = rw (set_world, root_put) refl

size_body : body_of (state_of 0 origin (opening_entry ∷ setting_entry ∷ [])) 0 (QueryValue 0 [] None) ≡ Value 4 4 None
unfolding body_of
size_body = rw (set_world, root_put) refl

-- ---- the journal of the two entries is legal

script_legal : IsLegal 0 origin (opening_entry ∷ setting_entry ∷ [])
script_legal = ((record { number = refl; accepted = opened_cause; reply = sym opened_reply }), ((record { number = refl; accepted = set_cause; reply = sym set_reply }), tt))

-- ---- what a call is told, and where it leaves the hive

opened_told : reply_given (state_of 0 origin []) 0 (OpenRoot 983103) 0 ≡ record { status = 0; number = Some 0; handle = Some 0; disposition = None }
unfolding reply_given early_cause late_cause reply_to
opened_told = refl

opened_after : state_after (state_of 0 origin []) 0 0 (OpenRoot 983103) 0 ≡ state_of 0 origin (opening_entry ∷ [])
unfolding state_after early_cause late_cause reply_to watch_of
opened_after = refl

set_after : state_after (state_of 0 origin (opening_entry ∷ [])) 0 7 (SetValue 0 [] 4 (1 ∷ 0 ∷ 0 ∷ 0 ∷ [])) 0 ≡ state_of 0 origin (opening_entry ∷ setting_entry ∷ [])
unfolding state_after early_cause late_cause reply_to after watch_of
set_after = rw root_put refl

-- a callback that answers 31
refused_told : reply_given (state_of 0 origin (opening_entry ∷ [])) 0 (SetValue 0 [] 4 (1 ∷ 0 ∷ 0 ∷ 0 ∷ [])) 31 ≡ record { status = 31; number = None; handle = None; disposition = None }
unfolding reply_given early_cause late_cause after
refused_told = rw root_put refl

refused_after : state_after (state_of 0 origin (opening_entry ∷ [])) 0 7 (SetValue 0 [] 4 (1 ∷ 0 ∷ 0 ∷ 0 ∷ [])) 31 ≡ state_of 0 origin (opening_entry ∷ [])
unfolding state_after early_cause late_cause after
refused_after = rw root_put refl
