-- Whole trees deleted, at trees that were worked out by hand.
use Rattle.std.proofs.Common.{◌≡◌, ℕ, true, false, List, [], ◌∷◌, refl}
use Rattle.std.specs.FinMap.{from_sorted, entries-from_sorted, get-from_sorted}
use Rattle.reg_heap.specs.Paths.{Path, Tree, Rec, Member, path_cmp}
use Rattle.reg_heap.specs.Edits.{is_within, is_under, without_tree, emptied, any_kept_within, any_kept_under}
use Rattle.reg_heap.proofs.DeletedTrees.{past-written, put-written}

abbrev a : Path
a = (65 ∷ []) ∷ []

abbrev ab : Path
ab = (65 ∷ 66 ∷ []) ∷ []

-- `A\B`, `A\B\C`, `A\C`
abbrev a_b : Path
a_b = (65 ∷ []) ∷ (66 ∷ []) ∷ []

abbrev a_b_c : Path
a_b_c = (65 ∷ []) ∷ (66 ∷ []) ∷ (67 ∷ []) ∷ []

abbrev a_c : Path
a_c = (65 ∷ []) ∷ (67 ∷ []) ∷ []

abbrev value : Member
value = record { name = []; kind = 4; bytes = 1 ∷ [] }

abbrev key : ℕ → ℕ → List Member → Rec
key marks time values = record { name = []; marks = marks; class = []; descriptor = []; time = time; values = values }

-- the root, which has mark 0x08, `A` with a value, `A\B`, `A\B\C`, `A\C` and `AB`
abbrev tree : Tree
tree =
    from_sorted (([], key 8 0 []) ∷ (a, key 0 1 (value ∷ [])) ∷ (a_b, key 0 2 []) ∷ (a_b_c, key 0 3 (value ∷ [])) ∷ (a_c, key 0 4 []) ∷ (ab, key 0 5 []) ∷ [])

-- ---- at or below a path, by whole names

within_root : is_within [] a ≡ true
within_root = refl

within_itself : is_within a a ≡ true
within_itself = refl

within_below : is_within a a_b_c ≡ true
within_below = refl

not_within_a_longer_name : is_within a ab ≡ false
not_within_a_longer_name = refl

not_within_above : is_within a_b a ≡ false
not_within_above = refl

not_under_itself : is_under a a ≡ false
not_under_itself = refl

root_not_under_itself : is_under [] [] ≡ false
root_not_under_itself = refl

under_below : is_under a a_b ≡ true
under_below = refl

not_under_a_longer_name : is_under a ab ≡ false
not_under_a_longer_name = refl

-- ---- a key with all below it: `AB` stays, and the time of the key above is set

without_a : without_tree tree a 7 ≡ from_sorted (([], key 8 7 []) ∷ (ab, key 0 5 []) ∷ [])
without_a = rw (get-from_sorted, put-written, past-written _ (is_within a)) refl

without_b : without_tree tree a_b 7 ≡ from_sorted (([], key 8 0 []) ∷ (a, key 0 7 (value ∷ [])) ∷ (a_c, key 0 4 []) ∷ (ab, key 0 5 []) ∷ [])
without_b = rw (get-from_sorted, put-written, past-written _ (is_within a_b)) refl

-- ---- a key emptied: it stays, and its time is set where it had a subkey or a value

emptied_root : emptied tree [] 7 ≡ from_sorted (([], key 8 7 []) ∷ [])
emptied_root = rw (entries-from_sorted, get-from_sorted, put-written, past-written _ (is_under [])) refl

-- `A` has both
emptied_a : emptied tree a 7 ≡ from_sorted (([], key 8 0 []) ∷ (a, key 0 7 []) ∷ (ab, key 0 5 []) ∷ [])
emptied_a = rw (entries-from_sorted, get-from_sorted, put-written, past-written _ (is_under a)) refl

-- `A\B` has a subkey alone, and `A\B\C` a value alone
emptied_b : emptied tree a_b 7 ≡ from_sorted (([], key 8 0 []) ∷ (a, key 0 1 (value ∷ [])) ∷ (a_b, key 0 7 []) ∷ (a_c, key 0 4 []) ∷ (ab, key 0 5 []) ∷ [])
emptied_b = rw (entries-from_sorted, get-from_sorted, put-written, past-written _ (is_under a_b)) refl

emptied_b_c : emptied tree a_b_c 7 ≡
    from_sorted (([], key 8 0 []) ∷ (a, key 0 1 (value ∷ [])) ∷ (a_b, key 0 2 []) ∷ (a_b_c, key 0 7 []) ∷ (a_c, key 0 4 []) ∷ (ab, key 0 5 []) ∷ [])
emptied_b_c = rw (entries-from_sorted, get-from_sorted, put-written, past-written _ (is_under a_b_c)) refl

-- `AB` has nothing, and its time stays
emptied_ab : emptied tree ab 7 ≡ tree
emptied_ab = rw (entries-from_sorted, get-from_sorted) refl

-- ---- marks

-- the root alone has mark 0x08
root_kept : any_kept_within tree [] ≡ true
root_kept = rw (entries-from_sorted, get-from_sorted) refl

none_kept_below : any_kept_under tree [] ≡ false
none_kept_below =
    rw (
      entries-from_sorted,
      get-from_sorted path_cmp _ a tt,
      get-from_sorted path_cmp _ a_b tt,
      get-from_sorted path_cmp _ a_b_c tt,
      get-from_sorted path_cmp _ a_c tt,
      get-from_sorted path_cmp _ ab tt,
    ) refl

-- `A\B\C` has it, and another mark
abbrev marked : Tree
marked = from_sorted (([], key 8 0 []) ∷ (a, key 0 1 []) ∷ (a_b, key 0 2 []) ∷ (a_b_c, key 40 3 []) ∷ (a_c, key 32 4 []) ∷ (ab, key 0 5 []) ∷ [])

kept_below_a : any_kept_under marked a ≡ true
kept_below_a = rw (entries-from_sorted, get-from_sorted path_cmp _ a_b tt, get-from_sorted path_cmp _ a_b_c tt) refl

kept_itself : any_kept_within marked a_b_c ≡ true
kept_itself = rw (entries-from_sorted, get-from_sorted) refl

not_kept_below_itself : any_kept_under marked a_b_c ≡ false
not_kept_below_itself = rw entries-from_sorted refl

not_kept_by_another_mark : any_kept_within marked a_c ≡ false
not_kept_by_another_mark = rw (entries-from_sorted, get-from_sorted) refl

not_kept_beside : any_kept_within marked ab ≡ false
not_kept_beside = rw (entries-from_sorted, get-from_sorted) refl
