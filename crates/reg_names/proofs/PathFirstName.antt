-- A path's first name, and the path behind it. The limit is a variable, so that nothing counts up to it.
use Rattle.std.proofs.Common.{◌≡◌, ◌≢◌, ℕ, suc, ◌+◌, ◌-◌, ◌<◌, ◌≤◌, Bool, true, false, ◌&&◌, ◌==◌, List, [], ◌∷◌, length, length-drop, take, drop, nat_le, sym, ap, ◌∙◌, refl, subst, arith, not}
use Rattle.std.specs.List.{list_all, slice_split, position_or_len}
use Rattle.std.proofs.lemmas.Bool.{and_parts, and_from, false≢true}
use Rattle.std.proofs.lemmas.Bool.Decides.{nat_tests}
use Rattle.std.proofs.lemmas.List.{take_all}
use Rattle.std.proofs.lemmas.List.Sums.{prefix_len-le-length}
use Rattle.std.proofs.lemmas.List.Splits.{slice_split_first}
use Rattle.reg_names.specs.declared.TheConstants.{PATH_LIMIT}
use Rattle.reg_names.specs.Names.{is_key_name, are_key_names, path_of, is_backslash, is_path, IsFirst}
use Rattle.reg_names.proofs.PathParts.{path_of-some, only, are_key_names-none}

abbrev parts : List ℕ → List (List ℕ)
parts text = slice_split is_backslash text

-- the first of some names that are a path's is a key's, and the others are a path's too
first-good : (limit : ℕ) (name : List ℕ) (names : List (List ℕ)) → are_key_names limit (name ∷ names) ≡ true → (is_key_name name ≡ true) × (are_key_names limit names ≡ true)
unfolding are_key_names
first-good limit name names e =
    let all = and_parts (is_key_name name && list_all is_key_name names) (nat_le (suc (length names)) limit) e in
    let each = and_parts (is_key_name name) (list_all is_key_name names) all.0 in
    let few : nat_le (length names) limit ≡ true = (let l = all.1 in grind (arith, nat_tests)) in
    (each.0, and_from (list_all is_key_name names) (nat_le (length names) limit) each.1 few)

empty-bad : (names : List (List ℕ)) (limit : ℕ) → are_key_names limit ([] ∷ names) ≡ true → ⊥
empty-bad names limit e = false≢true (first-good limit [] names e).0

-- the parts behind a backslash, where they are a path's, are that path's names
behind : (limit : ℕ) (rest : List ℕ) → are_key_names limit (parts rest) ≡ true → path_of rest ≡ parts rest
behind limit [] e = absurd (empty-bad [] limit e)
behind limit (b ∷ bs) e = refl

module _ (limit : ℕ) (text : List ℕ) (valid : are_key_names limit (path_of text) ≡ true) (n : ℕ) (is_first : n ≡ position_or_len is_backslash text) (some : 0 < length text) where
  good : are_key_names limit (parts text) ≡ true
  good = subst (λ t. are_key_names limit t ≡ true) (path_of-some text some) valid

  one_of_more : n ≢ length text → parts text ≡ take n text ∷ parts (drop (n + 1) text)
  one_of_more ne =
      let within : position_or_len is_backslash text ≤ length text = prefix_len-le-length (λ c. not (is_backslash c)) text in
      let below : position_or_len is_backslash text < length text = omega arith in
      slice_split_first is_backslash text 0 below ∙ ap (λ m. take m text ∷ parts (drop (m + 1) text)) (sym is_first)

  record Leads (name rest : List ℕ) : Type 0 where
    names : path_of text ≡ name ∷ path_of rest
    key : is_key_name name ≡ true
    path : are_key_names limit (path_of rest) ≡ true
    shorter : length rest < length text

  last : n ≡ length text → are_key_names limit [] ≡ true → Leads text []
  last h none =
      let alone : parts text ≡ text ∷ [] = only is_backslash text (sym is_first ∙ h) in
      record {
        names = path_of-some text some ∙ alone;
        key = (first-good limit text [] (subst (λ t. are_key_names limit t ≡ true) alone good)).0;
        path = none;
        shorter = some;
      }

  more : n ≢ length text → Leads (take n text) (drop (n + 1) text)
  more ne =
      let two = one_of_more ne in
      let each = first-good limit (take n text) (parts (drop (n + 1) text)) (subst (λ t. are_key_names limit t ≡ true) two good) in
      let rest : path_of (drop (n + 1) text) ≡ parts (drop (n + 1) text) = behind limit (drop (n + 1) text) each.1 in
      record {
        names = path_of-some text some ∙ (two ∙ ap (λ ps. take n text ∷ ps) (sym rest));
        key = each.0;
        path = ap (are_key_names limit) rest ∙ each.1;
        shorter = (let d = length-drop (n + 1) text in omega arith);
      }

module _ (text : List ℕ) (valid : is_path text ≡ true) (n : ℕ) (is_first : n ≡ position_or_len is_backslash text) where
  pub within : n ≤ length text
  within = let l = prefix_len-le-length (λ c. not (is_backslash c)) text in omega (arith, l, is_first)

  some : (e : Bool) → e ≡ (length text == 0) → e ≡ false → 0 < length text
  some e h k = let t : (length text == 0) ≡ false = sym h ∙ k in grind (arith, nat_tests)

  by_leads : (limit : ℕ) (v : are_key_names limit (path_of text) ≡ true) (s : 0 < length text) (name rest : List ℕ) → Leads limit text v n is_first s name rest →
      limit ≡ PATH_LIMIT → IsFirst text name rest
  by_leads limit v s name rest l e = record { names = l.names; good = l.key; valid = subst (λ k. are_key_names k (path_of rest) ≡ true) e l.path; shorter = l.shorter }

  -- a text without a backslash is one name, and nothing is behind it
  pub whole_first : (e : Bool) → e ≡ (length text == 0) → e ≡ false → n ≡ length text → IsFirst text text []
  whole_first e h k same = by_leads PATH_LIMIT valid (some e h k) text [] (last PATH_LIMIT text valid n is_first (some e h k) same (are_key_names-none PATH_LIMIT)) refl

  -- else the first name ends at the backslash, and the path behind it begins after it
  pub front_first : (e : Bool) → e ≡ (length text == 0) → e ≡ false → n ≢ length text → IsFirst text (take n text) (take (length text - (n + 1)) (drop (n + 1) text))
  front_first e h k ne =
      let all : drop (n + 1) text ≡ take (length text - (n + 1)) (drop (n + 1) text) = sym (take_all (length text - (n + 1)) (drop (n + 1) text) (omega (arith, length-drop (n + 1) text))) in
      subst (λ rest. IsFirst text (take n text) rest) all (by_leads PATH_LIMIT valid (some e h k) (take n text) (drop (n + 1) text) (more PATH_LIMIT text valid n is_first (some e h k) ne) refl)
