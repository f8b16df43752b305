-- Imports of trees that are written out, as functions of their entries that compute.
use Rattle.std.proofs.Common.{◌≡◌, ℕ, Bool, true, false, not, ◌||◌, ◌==◌, cond, is_some, unwrap_or, nat_lt, List, [], ◌∷◌, length, map, filter, T, Option, Some, None, refl, sym, ap, ◌∙◌, subst}
use Rattle.std.specs.Cmp.{IsTotalOrder}
use Rattle.std.specs.Cmp.Lexicographic.{lists_total, nat_list_cmp_total}
use Rattle.std.specs.FinMap.{get, insert, retain_keys, from_sorted, entries-from_sorted, get-from_sorted, entries}
use Rattle.std.specs.FinMap.Entries.{find, put, is_sorted, is_sorted-where_key, is_sorted-put}
use Rattle.reg_names.specs.Names.{path_of}
use Rattle.reg_heap.specs.Paths.{Path, Tree, Rec, path_cmp, is_child}
use Rattle.reg_heap.specs.Members.{value_named}
use Rattle.reg_heap.specs.Edits.{values_of, edited, above, at_time, with_value, without_value, without_values, folded_path, with_key, with_keys, child_path, made_key}
use Rattle.reg_heap.specs.Edits.{descriptor_of, has_child, if_last, has_contents, emptied, without_tree, is_within, is_under}
use Rattle.reg_heap.proofs.DeletedTrees.{put-written, past-written}
use Rattle.reg_dotreg_reader.specs.declared.entry.Entry.{Entry}
use Rattle.reg_dotreg_reader.specs.declared.entry.Entry.TheVariants.{Key, GoneKey, Value, GoneValue}
use Rattle.reg_dotreg_import.specs.Imports.{Stand, after_entry, after_entries, imported, begun}

abbrev pub Keys : Type 0
Keys = List (Path × Rec)

total : IsTotalOrder path_cmp
total = lists_total nat_list_cmp_total

-- a tree has these entries
pub record IsWritten (t : Tree) (es : Keys) : Type 0 where
  pub is : t ≡ from_sorted es
  pub sorted : T (is_sorted path_cmp es)

abbrev at : Path → Keys → Option Rec
at p es = find path_cmp p es

get-at : (t : Tree) (es : Keys) (p : Path) → IsWritten t es → get t p ≡ at p es
get-at t es p w = ap (λ (t : Tree). get t p) w.is ∙ get-from_sorted path_cmp es p w.sorted

cond-w : (b b' : Bool) (t u : Tree) (es fs : Keys) → b ≡ b' → IsWritten t es → IsWritten u fs → IsWritten (cond b t u) (cond b' es fs)
cond-w b true t u es fs e w v = rw e w
cond-w b false t u es fs e w v = rw e v

insert-w : (t : Tree) (es : Keys) (p : Path) (r : Rec) → IsWritten t es → IsWritten (insert t p r) (put path_cmp p r es)
insert-w t es p r w =
    record { is = ap (λ (t : Tree). insert t p r) w.is ∙ put-written es p r w.sorted; sorted = is_sorted-put path_cmp total p r es w.sorted }

-- ---- one key

abbrev edit_by : Keys → Path → (Rec → Rec) → Option Rec → Keys
edit_by es p f None = es
edit_by es p f (Some r) = put path_cmp p (f r) es

edited-w : (t : Tree) (es : Keys) (p : Path) (f : Rec → Rec) → IsWritten t es → IsWritten (edited t p f) (edit_by es p f (at p es))
edited-w t es p f w = by (at p es) (get-at t es p w)
  where
    by : (o : Option Rec) → get t p ≡ o → IsWritten (edited t p f) (edit_by es p f o)
    by None e = rw e w
    by (Some r) e = rw e (insert-w t es p (f r) w)

abbrev with_key_by : Keys → Path → List ℕ → Option (List ℕ) → ℕ → Keys
with_key_by es p name given moment =
    put path_cmp (child_path p name) (made_key name (unwrap_or given (descriptor_of (at p es))) moment) (edit_by es p (at_time moment) (at p es))

with_key-w : (t : Tree) (es : Keys) (p : Path) (name : List ℕ) (given : Option (List ℕ)) (moment : ℕ) → IsWritten t es →
    IsWritten (with_key t p name given moment) (with_key_by es p name given moment)
with_key-w t es p name given moment w =
    subst (λ (o : Option Rec). IsWritten (insert (edited t p (at_time moment)) (child_path p name) (made_key name (unwrap_or given (descriptor_of o)) moment))
    (with_key_by es p name given moment)) (sym (get-at t es p w))
    (insert-w (edited t p (at_time moment)) (edit_by es p (at_time moment) (at p es)) (child_path p name)
    (made_key name (unwrap_or given (descriptor_of (at p es))) moment) (edited-w t es p (at_time moment) w))

abbrev with_keys_by : Keys → Path → List (List ℕ) → Option (List ℕ) → ℕ → Keys
with_keys_by es p [] given moment = es
with_keys_by es p (name ∷ names) given moment =
    with_keys_by (cond (is_some (at (child_path p name) es)) es (with_key_by es p name (if_last names given) moment)) (child_path p name) names given moment

with_keys-w : (t : Tree) (es : Keys) (p : Path) (names : List (List ℕ)) (given : Option (List ℕ)) (moment : ℕ) → IsWritten t es →
    IsWritten (with_keys t p names given moment) (with_keys_by es p names given moment)
with_keys-w t es p [] given moment w = w
with_keys-w t es p (name ∷ names) given moment w =
    with_keys-w (cond (has_child t p name) t (with_key t p name (if_last names given) moment))
    (cond (is_some (at (child_path p name) es)) es (with_key_by es p name (if_last names given) moment)) (child_path p name) names given moment
    (cond-w (has_child t p name) (is_some (at (child_path p name) es)) t (with_key t p name (if_last names given) moment) es
    (with_key_by es p name (if_last names given) moment) (ap is_some (get-at t es (child_path p name) w)) w
    (with_key-w t es p name (if_last names given) moment w))

-- ---- keys gone

past-w : (t : Tree) (es : Keys) (gone : Path → Bool) → IsWritten t es →
    IsWritten (retain_keys t (λ (x : Path). not (gone x))) (filter (λ (e : Path × Rec). not (gone e.0)) es)
past-w t es gone w = record {
  is = ap (λ (t : Tree). retain_keys t (λ (x : Path). not (gone x))) w.is ∙ past-written es gone w.sorted;
  sorted = is_sorted-where_key path_cmp (λ (x : Path). not (gone x)) es w.sorted;
}

abbrev has_contents_by : Keys → Path → Bool
has_contents_by es p =
    nat_lt 0 (length (filter (is_child p) (map (λ (e : Path × Rec). e.0) es))) || nat_lt 0 (length (values_of (at p es)))

contents-w : (t : Tree) (es : Keys) (p : Path) → IsWritten t es → has_contents t p ≡ has_contents_by es p
contents-w t es p w =
    ap (λ (t : Tree). has_contents t p) w.is
    ∙ ap (λ (o : Option Rec). nat_lt 0 (length (filter (is_child p) (map (λ (e : Path × Rec). e.0) (entries (from_sorted {R = path_cmp} es)))))
    || nat_lt 0 (length (values_of o))) (get-from_sorted path_cmp es p w.sorted)
    ∙ ap (λ (all : Keys). nat_lt 0 (length (filter (is_child p) (map (λ (e : Path × Rec). e.0) all))) || nat_lt 0 (length (values_of (at p es))))
    (entries-from_sorted path_cmp es w.sorted)

abbrev emptied_by : Keys → Path → ℕ → Keys
emptied_by es p moment =
    cond (has_contents_by es p) (filter (λ (e : Path × Rec). not (is_under p e.0)) (edit_by es p (without_values moment) (at p es))) es

abbrev without_by : Keys → Path → ℕ → Keys
without_by es p moment = filter (λ (e : Path × Rec). not (is_within p e.0)) (edit_by es (above p) (at_time moment) (at (above p) es))

-- ---- entries

abbrev pub step_by : ℕ → Keys → Path → Entry → Keys
step_by moment es here (Key path) = with_keys_by es [] (path_of path) None moment
step_by moment es here (GoneKey path) =
    cond (length path == 0) (emptied_by es [] moment) (cond (is_some (at (folded_path path) es)) (without_by es (folded_path path) moment) es)
step_by moment es here (Value name kind bytes) = edit_by es here (with_value name kind bytes moment) (at here es)
step_by moment es here (GoneValue name) =
    cond (is_some (value_named name (values_of (at here es)))) (edit_by es here (without_value name moment) (at here es)) es

step-w : (moment : ℕ) (s : Stand) (es : Keys) (e : Entry) → IsWritten s.tree es → IsWritten (after_entry moment s e).tree (step_by moment es s.here e)
step-w moment s es (Key path) w = with_keys-w s.tree es [] (path_of path) None moment w
step-w moment s es (GoneKey path) w =
    cond-w (length path == 0) (length path == 0) (emptied s.tree [] moment) _ (emptied_by es [] moment) _ refl
    (cond-w (has_contents s.tree []) (has_contents_by es []) _ s.tree _ es (contents-w s.tree es [] w)
    (past-w (edited s.tree [] (without_values moment)) _ (is_under []) (edited-w s.tree es [] (without_values moment) w)) w)
    (cond-w (is_some (get s.tree (folded_path path))) (is_some (at (folded_path path) es)) (without_tree s.tree (folded_path path) moment) s.tree
    (without_by es (folded_path path) moment) es (ap is_some (get-at s.tree es (folded_path path) w))
    (past-w (edited s.tree (above (folded_path path)) (at_time moment)) _ (is_within (folded_path path))
    (edited-w s.tree es (above (folded_path path)) (at_time moment) w)) w)
step-w moment s es (Value name kind bytes) w = edited-w s.tree es s.here (with_value name kind bytes moment) w
step-w moment s es (GoneValue name) w =
    cond-w (is_some (value_named name (values_of (get s.tree s.here)))) (is_some (value_named name (values_of (at s.here es))))
    (edited s.tree s.here (without_value name moment)) s.tree _ es
    (ap (λ (o : Option Rec). is_some (value_named name (values_of o))) (get-at s.tree es s.here w))
    (edited-w s.tree es s.here (without_value name moment) w) w

abbrev here_by : Path → Entry → Path
here_by here (Key path) = folded_path path
here_by here (GoneKey path) = here
here_by here (Value name kind bytes) = here
here_by here (GoneValue name) = here

here-is : (moment : ℕ) (s : Stand) (e : Entry) → (after_entry moment s e).here ≡ here_by s.here e
here-is moment s (Key path) = refl
here-is moment s (GoneKey path) = refl
here-is moment s (Value name kind bytes) = refl
here-is moment s (GoneValue name) = refl

abbrev pub steps_by : ℕ → Keys → Path → List Entry → Keys
steps_by moment es here [] = es
steps_by moment es here (e ∷ rest) = steps_by moment (step_by moment es here e) (here_by here e) rest

steps-w : (moment : ℕ) (s : Stand) (es : Keys) (rest : List Entry) → IsWritten s.tree es → IsWritten (after_entries moment s rest).tree (steps_by moment es s.here rest)
steps-w moment s es [] w = w
steps-w moment s es (e ∷ rest) w =
    subst (λ (p : Path). IsWritten (after_entries moment (after_entry moment s e) rest).tree (steps_by moment (step_by moment es s.here e) p rest))
    (here-is moment s e) (steps-w moment (after_entry moment s e) (step_by moment es s.here e) rest (step-w moment s es e w))

-- what an import makes of a tree that is written out
pub imported-written : (moment : ℕ) (es : Keys) (rest : List Entry) → T (is_sorted path_cmp es) →
    imported moment (from_sorted es) rest ≡ from_sorted (steps_by moment es [] rest)
imported-written moment es rest sorted =
    let w = steps-w moment (begun (from_sorted es)) es rest (record { is = refl; sorted = sorted }) in w.is
