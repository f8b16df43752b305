-- Names of keys joined by backslashes, and read as a path again.
use Rattle.std.proofs.Common.{◌≡◌, ◌≢◌, ℕ, ◌==◌, ◌&&◌, not, nat_lt, nat_le, true, List, [], ◌∷◌, length, refl, ap, arith}
use Rattle.std.specs.List.{list_all}
use Rattle.std.proofs.lemmas.Bool.{and_parts, and_from}
use Rattle.reg_names.specs.declared.TheConstants.{KEY_NAME_LIMIT}
use Rattle.reg_names.specs.Names.{text_of, path_of, is_key_name, is_key_name_byte, is_value_name_byte, has_no_backslash}
use Rattle.reg_names.proofs.PathTexts.{path_of-text_of}
use Rattle.reg_tree_text.proofs.WalkSteps.{name-some}

unparted : (name : List ℕ) → list_all is_key_name_byte name ≡ true → has_no_backslash name ≡ true
unparted [] e = refl
unparted (b ∷ bs) e =
    let both = and_parts (is_key_name_byte b) (list_all is_key_name_byte bs) e in
    and_from (not (b == 92)) (has_no_backslash bs) (and_parts (is_value_name_byte b) (not (b == 92)) both.0).1 (unparted bs both.1)

bytes-good : (name : List ℕ) → is_key_name name ≡ true → list_all is_key_name_byte name ≡ true
bytes-good name e =
    (and_parts (list_all is_key_name_byte name) (nat_lt 0 (length name))
    (and_parts (list_all is_key_name_byte name && nat_lt 0 (length name)) (nat_le (length name) KEY_NAME_LIMIT) e).0).0

all-unparted : (names : List (List ℕ)) → list_all is_key_name names ≡ true → list_all has_no_backslash names ≡ true
all-unparted [] e = refl
all-unparted (name ∷ names) e =
    let both = and_parts (is_key_name name) (list_all is_key_name names) e in
    and_from (has_no_backslash name) _ (unparted name (bytes-good name both.0)) (all-unparted names both.1)

not-one-empty : (names : List (List ℕ)) → list_all is_key_name names ≡ true → names ≢ ([] ∷ [])
not-one-empty [] e same = cc
not-one-empty (name ∷ names) e same =
    let some = name-some name (and_parts (is_key_name name) (list_all is_key_name names) e).0 in
    let none : length name ≡ 0 = ap (λ (x : List (List ℕ)). length (first x)) same in
    omega (arith, some, none)
  where
    first : List (List ℕ) → List ℕ
    first [] = []
    first (x ∷ xs) = x

pub names-back : (names : List (List ℕ)) → list_all is_key_name names ≡ true → path_of (text_of names) ≡ names
names-back names e = path_of-text_of names (all-unparted names e) (not-one-empty names e)
