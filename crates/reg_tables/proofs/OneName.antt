-- A key's name is the path of one name.
use Rattle.std.proofs.Common.{◌≡◌, ◌≢◌, ℕ, ◌≤◌, ◌&&◌, nat_lt, nat_le, not, Bool, true, ◌==◌, List, [], ◌∷◌, map, length, refl, ap, ◌∙◌, arith}
use Rattle.std.specs.List.{list_all}
use Rattle.std.proofs.lemmas.Bool.{false≢true, and_parts}
use Rattle.std.proofs.lemmas.Bool.Decides.{nat_tests}
use Rattle.reg_names.specs.declared.TheConstants.{KEY_NAME_LIMIT, PATH_LIMIT}
use Rattle.reg_names.specs.Names.{folded, is_key_name, is_key_name_byte, is_value_name_byte, has_no_backslash, path_of, is_path, are_key_names}
use Rattle.reg_names.proofs.PathTexts.{path_of-text_of}
use Rattle.reg_heap.specs.Edits.{folded_path}

no_backslash : (name : List ℕ) → list_all is_key_name_byte name ≡ true → has_no_backslash name ≡ true
no_backslash [] e = refl
no_backslash (b ∷ bs) e =
    let both = and_parts (is_value_name_byte b && not (b == 92)) (list_all is_key_name_byte bs) e in
    let here = (and_parts (is_value_name_byte b) (not (b == 92)) both.0).1 in
    ap (λ (x : Bool). x && has_no_backslash bs) here ∙ no_backslash bs both.1

some_name : (name : List ℕ) → nat_lt 0 (length name) ≡ true → (name ∷ []) ≢ ([] ∷ [])
some_name [] l e = false≢true l
some_name (b ∷ bs) l e = absurd (cc)

names_of : (name : List ℕ) → is_key_name name ≡ true → path_of name ≡ name ∷ []
names_of name k =
    let parts = and_parts (list_all is_key_name_byte name && nat_lt 0 (length name)) (nat_le (length name) KEY_NAME_LIMIT) k in
    let both = and_parts (list_all is_key_name_byte name) (nat_lt 0 (length name)) parts.0 in
    path_of-text_of (name ∷ []) (ap (λ b. b && true) (no_backslash name both.0)) (some_name name both.1)

one_of : (limit : ℕ) → 1 ≤ limit → (names : List (List ℕ)) (name : List ℕ) → names ≡ name ∷ [] → is_key_name name ≡ true →
    are_key_names limit names ≡ true
unfolding are_key_names
one_of limit l names name e k =
    let few : nat_le 1 limit ≡ true = grind (arith, nat_tests) in
    ap (λ (x : List (List ℕ)). list_all is_key_name x && nat_le (length x) limit) e
    ∙ (ap (λ (b : Bool). (b && true) && nat_le 1 limit) k ∙ few)

-- a key's name is a path of one name
pub record IsOneName (name : List ℕ) : Type 0 where
  pub valid : is_path name ≡ true
  pub names : folded_path name ≡ folded name ∷ []

pub one_name : (name : List ℕ) → is_key_name name ≡ true → IsOneName name
one_name name k = record { valid = one_of PATH_LIMIT (omega arith) (path_of name) name (names_of name k) k; names = ap (map folded) (names_of name k) }
