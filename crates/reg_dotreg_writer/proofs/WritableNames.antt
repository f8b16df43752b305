-- Names on one line, and the first key that has another one.
use Rattle.std.proofs.Common.{◌≡◌, ℕ, ◌+◌, ◌<◌, ◌≤◌, Bool, true, false, not, cond, ◌&&◌, List, [], ◌∷◌, length, drop, slice_get, Option}
use Rattle.std.proofs.Common.{Some, None, refl, sym, ap, ◌∙◌}
use Rattle.std.specs.Prelude.{find}
use Rattle.std.specs.List.{list_all}
use Rattle.std.specs.Option.{option_map}
use Rattle.std.proofs.lemmas.List.{drop_all}
use Rattle.std.proofs.lemmas.List.Folds.{list_all-append}
use Rattle.std.proofs.lemmas.Option.{same_Some}
use Rattle.reg_names.specs.Names.{text_of}
use Rattle.reg_heap.specs.Paths.{Member, Rec}
use Rattle.reg_heap.specs.Edits.{values_of}
use Rattle.reg_values.specs.ValueLists.{Tells}
use Rattle.reg_tree.specs.TreeKeys.{Keys}
use Rattle.reg_tree_text.specs.declared.walk.Walk.{Walk}
use Rattle.reg_tree_text.specs.DumpTexts.{Told}
use Rattle.reg_tree_text.specs.Internal.Walking.{Goes}
use Rattle.reg_tree_text.proofs.LineTexts.{next_value}
use Rattle.reg_dotreg_writer.specs.EntryTexts.{is_line_unit}
use Rattle.reg_dotreg_writer.specs.Entries.{is_line_name, is_writable}

-- names joined by backslashes stand on one line where each does
pub text-lines : (names : List (List ℕ)) → list_all is_line_unit (text_of names) ≡ list_all is_line_name names
text-lines [] = refl
text-lines (x ∷ []) = last (list_all is_line_unit x)
  where
    last : (b : Bool) → b ≡ (b && true)
    last true = refl
    last false = refl
text-lines (x ∷ y ∷ names) =
    list_all-append is_line_unit x (92 ∷ text_of (y ∷ names)) ∙ ap (λ (b : Bool). list_all is_line_unit x && b) (text-lines (y ∷ names))

abbrev pub is_named : Member → Bool
is_named value = is_line_name value.name

pub writable_same : (path : List ℕ) (told : Told) (found : Option Rec) (a b : Bool) → a ≡ is_line_name path →
    b ≡ list_all is_named (values_of found) →
    found ≡ Some told.key → path ≡ text_of told.names → (a && b) ≡ is_writable told
writable_same path told found a b p q here names =
    ap (λ (x : Bool). x && b) (p ∙ (ap is_line_name names ∙ text-lines told.names))
    ∙ ap (λ (x : Bool). list_all is_line_name told.names && x) (q ∙ ap (λ (o : Option Rec). list_all is_named (values_of o)) here)

-- ---- a key's values, one after another

pub value_named : (values : List Member) (index : ℕ) → index < length values → (name : List ℕ) (kind size : ℕ) →
    ((m : Member) × (slice_get values index ≡ Some m) × Tells m name kind size) → (good : Bool) → good ≡ is_line_name name →
    list_all is_named (drop index values) ≡ (good && list_all is_named (drop (index + 1) values))
value_named values index l name kind size v good g =
    let n = next_value values index l in
    let same : name ≡ n.0.name = v.2.name_is ∙ ap (λ (m : Member). m.name) (same_Some _ _ (sym v.1 ∙ n.1)) in
    ap (list_all is_named) n.2
    ∙ ap (λ (b : Bool). b && list_all is_named (drop (index + 1) values)) (sym (g ∙ ap is_line_name same))

pub bad_named : (values : List Member) (index : ℕ) (good : Bool) → list_all is_named (drop index values) ≡ list_all is_named values →
    list_all is_named (drop index values) ≡ (good && list_all is_named (drop (index + 1) values)) → good ≡ false →
    false ≡ list_all is_named values
bad_named values index good so_far step bad =
    sym (ap (λ (b : Bool). b && list_all is_named (drop (index + 1) values)) bad) ∙ (sym step ∙ so_far)

pub good_named : (values : List Member) (index : ℕ) (good : Bool) → list_all is_named (drop index values) ≡ list_all is_named values →
    list_all is_named (drop index values) ≡ (good && list_all is_named (drop (index + 1) values)) → good ≡ true →
    list_all is_named (drop (index + 1) values) ≡ list_all is_named values
good_named values index good so_far step fine =
    sym (ap (λ (b : Bool). b && list_all is_named (drop (index + 1) values)) fine) ∙ (sym step ∙ so_far)

pub all_named : (values : List Member) (index : ℕ) → list_all is_named (drop index values) ≡ list_all is_named values →
    length values ≤ index → true ≡ list_all is_named values
all_named values index so_far l = sym (ap (list_all is_named) (drop_all index values l)) ∙ so_far

-- ---- keys on a walk

abbrev pub first_bad : List Told → Option (List ℕ)
first_bad told = option_map (λ (t : Told). text_of t.names) (find (λ (t : Told). not (is_writable t)) told)

-- a walk has come to a key, and those before it can be written
pub record IsSearching (keys : Keys) (walk : Walk) (all : List Told) : Type 0 where
  pub now : List Told
  pub goes : Goes keys walk now
  pub same : first_bad now ≡ first_bad all

pub found_bad : (keys : Keys) (walk : Walk) (all : List Told) (s : IsSearching keys walk all) (good : Bool) (text : List ℕ) →
    good ≡ is_writable s.goes.told → good ≡ false → text ≡ text_of s.goes.told.names → Some text ≡ first_bad all
found_bad keys walk all s good text g bad t =
    ap Some t
    ∙ (sym (ap (λ (b : Bool). option_map (λ (t : Told). text_of t.names)
    (cond (not b) (Some s.goes.told) (find (λ (t : Told). not (is_writable t)) s.goes.rest))) (sym g ∙ bad))
    ∙ (sym (ap first_bad s.goes.all_is) ∙ s.same))

rest-bad : (keys : Keys) (walk : Walk) (all : List Told) (s : IsSearching keys walk all) (good : Bool) →
    good ≡ is_writable s.goes.told → good ≡ true → first_bad s.goes.rest ≡ first_bad all
rest-bad keys walk all s good g fine =
    sym (ap (λ (b : Bool). option_map (λ (t : Told). text_of t.names)
    (cond (not b) (Some s.goes.told) (find (λ (t : Told). not (is_writable t)) s.goes.rest))) (sym g ∙ fine))
    ∙ (sym (ap first_bad s.goes.all_is) ∙ s.same)

pub searches_on : (keys : Keys) (walk new : Walk) (all : List Told) (s : IsSearching keys walk all) (good : Bool) →
    good ≡ is_writable s.goes.told → good ≡ true → Goes keys new s.goes.rest → IsSearching keys new all
searches_on keys walk new all s good g fine on =
    record { now = s.goes.rest; goes = on; same = rest-bad keys walk all s good g fine }

pub found_none : (keys : Keys) (walk : Walk) (all : List Told) (s : IsSearching keys walk all) (good : Bool) →
    good ≡ is_writable s.goes.told → good ≡ true → s.goes.rest ≡ [] → None ≡ first_bad all
found_none keys walk all s good g fine none = sym (ap first_bad none) ∙ rest-bad keys walk all s good g fine

pub search_start : (keys : Keys) (walk : Walk) (all : List Told) → Goes keys walk all → IsSearching keys walk all
search_start keys walk all goes = record { now = all; goes = goes; same = refl }
