-- What a key with subkeys and values is told by, and the limit of a key's values. Expected numbers are those of the rules.
use Rattle.std.proofs.Common.{◌≡◌, ℕ, List, [], ◌∷◌, length, replicate, Some, None, true, false, refl}
use Rattle.std.specs.FinMap.{get, from_sorted, entries-from_sorted, get-from_sorted}
use Rattle.reg_heap.specs.Paths.{Tree, Rec, Member, children_of, path_cmp}
use Rattle.reg_heap.specs.Members.{value_named}
use Rattle.reg_model.specs.Causes.{no_value_room}
use Rattle.reg_model.specs.Replies.{info_told}
use Rattle.reg_model.specs.declared.answer.AnswerBody.TheVariants.{Info}

-- values `v` of 3 bytes and `name` of one
abbrev v : Member
v = record { name = 118 ∷ []; kind = 3; bytes = 7 ∷ 8 ∷ 9 ∷ [] }

abbrev name : Member
name = record { name = 110 ∷ 97 ∷ 109 ∷ 101 ∷ []; kind = 1; bytes = 7 ∷ [] }

abbrev key : List ℕ → ℕ → List Member → Rec
key n time values = record { name = n; marks = 0; class = []; descriptor = replicate 20 0; time = time; values = values }

-- a root of time 9 with these values; below it `A`, and `AB` whose name was given as `ab`; below `A` a key `C`
abbrev tree : Tree
tree =
    from_sorted (([], key (82 ∷ []) 9 (v ∷ name ∷ [])) ∷ ((65 ∷ []) ∷ [], key (65 ∷ []) 1 []) ∷ ((65 ∷ []) ∷ (67 ∷ []) ∷ [], key (67 ∷ []) 2 []) ∷ ((65 ∷ 66 ∷ []) ∷ [], key (97 ∷ 98 ∷ []) 3 []) ∷ [])

below_root : children_of tree [] ≡ ((65 ∷ []) ∷ []) ∷ ((65 ∷ 66 ∷ []) ∷ []) ∷ []
below_root = rw entries-from_sorted refl

root_there : get tree [] ≡ Some (key (82 ∷ []) 9 (v ∷ name ∷ []))
root_there = get-from_sorted path_cmp _ [] tt

a_there : get tree ((65 ∷ []) ∷ []) ≡ Some (key (65 ∷ []) 1 [])
a_there = get-from_sorted path_cmp _ ((65 ∷ []) ∷ []) tt

ab_there : get tree ((65 ∷ 66 ∷ []) ∷ []) ≡ Some (key (97 ∷ 98 ∷ []) 3 [])
ab_there = get-from_sorted path_cmp _ ((65 ∷ 66 ∷ []) ∷ []) tt

-- two subkeys, the longest name of two bytes; two values, the longest name of four bytes and the largest data of three; a
-- descriptor of 20 bytes
root_info : info_told tree [] ≡ Info 2 2 2 4 3 20 9
root_info = rw (below_root, root_there, a_there, ab_there) refl

-- ---- a key has at most 16,384 values, and one that is there can still be set

full : (vs : List Member) → length vs ≡ 16384 → value_named (118 ∷ []) vs ≡ None → no_value_room (118 ∷ []) vs ≡ true
full vs many none = rw (many, none) refl

few : (vs : List Member) → length vs ≡ 16383 → no_value_room (118 ∷ []) vs ≡ false
few vs many = rw many refl

again : (vs : List Member) → value_named (118 ∷ []) vs ≡ Some v → length vs ≡ 16384 → no_value_room (118 ∷ []) vs ≡ false
again vs one many = rw (many, one) refl
