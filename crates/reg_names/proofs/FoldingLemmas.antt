-- Folding: what it leaves as it was. A folded name folds to itself, and is a key's name where the name is one.
use Rattle.std.proofs.Common.{◌≡◌, ◌≢◌, ◌⊎◌, inl, inr, ℕ, ◌-◌, ◌<◌, ◌≤◌, Bool, true, false, not, ◌&&◌, ◌==◌, nat_lt, nat_le, cond, List, [], ◌∷◌, map, length, refl, sym, ap, ◌∙◌, arith}
use Rattle.std.specs.List.{list_all, slice_split, onto_first}
use Rattle.std.proofs.lemmas.Bool.{and_parts, and_from, and_left, cases_Bool, cond-true, cond-false, leb-true, le-leb, lt-leb, ne_eqb}
use Rattle.std.proofs.lemmas.List.{length-map}
use Rattle.reg_names.specs.declared.TheConstants.{KEY_NAME_LIMIT}
use Rattle.reg_names.specs.Names.{fold, folded, is_backslash, is_value_name_byte, is_key_name_byte, is_key_name, path_of}

-- ---- one byte

-- a letter a to z, or any other byte
pub record IsLower (b : ℕ) : Type 0 where
  pub from : 97 ≤ b
  pub to : b ≤ 122
  pub becomes : fold b ≡ b - 32

lower : (b : ℕ) → (nat_le 97 b && nat_le b 122) ≡ true → IsLower b
lower b e = let both = and_parts (nat_le 97 b) (nat_le b 122) e in record { from = leb-true 97 b both.0; to = leb-true b 122 both.1; becomes = cond-true (nat_le 97 b && nat_le b 122) (b - 32) b e }

fold-cases : (b : ℕ) → IsLower b ⊎ (fold b ≡ b)
fold-cases b = by (cases_Bool (nat_le 97 b && nat_le b 122))
  where
    by : ((nat_le 97 b && nat_le b 122) ≡ true) ⊎ ((nat_le 97 b && nat_le b 122) ≡ false) → IsLower b ⊎ (fold b ≡ b)
    by (inl e) = inl (lower b e)
    by (inr e) = inr (cond-false (nat_le 97 b && nat_le b 122) (b - 32) b e)

below-stays : (b : ℕ) → b < 97 → fold b ≡ b
below-stays b l = cond-false (nat_le 97 b && nat_le b 122) (b - 32) b (and_left (nat_le 97 b) (nat_le b 122) (lt-leb 97 b l))

fold-again : (b : ℕ) → fold (fold b) ≡ fold b
fold-again b = by (fold-cases b)
  where
    by : IsLower b ⊎ (fold b ≡ b) → fold (fold b) ≡ fold b
    by (inl l) = let to = l.to in ap fold l.becomes ∙ (below-stays (b - 32) (omega (arith, to)) ∙ sym l.becomes)
    by (inr e) = ap fold e

backslash-folded : (b : ℕ) → is_backslash (fold b) ≡ is_backslash b
backslash-folded b = by (fold-cases b)
  where
    by : IsLower b ⊎ (fold b ≡ b) → is_backslash (fold b) ≡ is_backslash b
    by (inl l) =
        let from = l.from in
        let to = l.to in
        ap is_backslash l.becomes ∙ (ne_eqb (b - 32) 92 (λ e. omega (arith, to, e)) ∙ sym (ne_eqb b 92 (λ e. omega (arith, from, e))))
    by (inr e) = ap is_backslash e

name-byte : (b : ℕ) → 1 ≤ b → b ≤ 127 → b ≢ 92 → is_key_name_byte b ≡ true
name-byte b some few other = and_from (is_value_name_byte b) (not (b == 92)) (and_from (nat_le 1 b) (nat_le b 127) (le-leb 1 b some) (le-leb b 127 few)) (ap not (ne_eqb b 92 other))

byte-folded : (b : ℕ) → is_key_name_byte (fold b) ≡ is_key_name_byte b
byte-folded b = by (fold-cases b)
  where
    by : IsLower b ⊎ (fold b ≡ b) → is_key_name_byte (fold b) ≡ is_key_name_byte b
    by (inl l) =
        let from = l.from in
        let to = l.to in
        ap is_key_name_byte l.becomes
        ∙ (name-byte (b - 32) (omega (arith, from)) (omega (arith, to)) (λ e. omega (arith, to, e))
        ∙ sym (name-byte b (omega (arith, from)) (omega (arith, to)) (λ e. omega (arith, from, e))))
    by (inr e) = ap is_key_name_byte e

-- ---- a name

pub folded-again : (name : List ℕ) → folded (folded name) ≡ folded name
folded-again [] = refl
folded-again (b ∷ bs) = ap (λ c. c ∷ folded (folded bs)) (fold-again b) ∙ ap (λ cs. fold b ∷ cs) (folded-again bs)

bytes-folded : (name : List ℕ) → list_all is_key_name_byte (folded name) ≡ list_all is_key_name_byte name
bytes-folded [] = refl
bytes-folded (b ∷ bs) = ap (λ t. t && list_all is_key_name_byte (folded bs)) (byte-folded b) ∙ ap (λ t. is_key_name_byte b && t) (bytes-folded bs)

pub name-folded : (name : List ℕ) → is_key_name (folded name) ≡ is_key_name name
name-folded name =
    ap (λ t. (t && nat_lt 0 (length (folded name))) && nat_le (length (folded name)) KEY_NAME_LIMIT) (bytes-folded name)
    ∙ ap (λ n. (list_all is_key_name_byte name && nat_lt 0 n) && nat_le n KEY_NAME_LIMIT) (length-map name fold)

-- ---- a path

pub names-again : (names : List (List ℕ)) → map folded (map folded names) ≡ map folded names
names-again [] = refl
names-again (name ∷ names) = ap (λ n. n ∷ map folded (map folded names)) (folded-again name) ∙ ap (λ ns. folded name ∷ ns) (names-again names)

pub names-folded : (names : List (List ℕ)) → list_all is_key_name (map folded names) ≡ list_all is_key_name names
names-folded [] = refl
names-folded (name ∷ names) = ap (λ t. t && list_all is_key_name (map folded names)) (name-folded name) ∙ ap (λ t. is_key_name name && t) (names-folded names)

onto-folded : (b : ℕ) (parts : List (List ℕ)) → onto_first (fold b) (map folded parts) ≡ map folded (onto_first b parts)
onto-folded b [] = refl
onto-folded b (part ∷ parts) = refl

parts-folded : (text : List ℕ) → slice_split is_backslash (folded text) ≡ map folded (slice_split is_backslash text)
parts-folded [] = refl
parts-folded (b ∷ bs) =
    ap (λ t. cond t ([] ∷ slice_split is_backslash (folded bs)) (onto_first (fold b) (slice_split is_backslash (folded bs)))) (backslash-folded b)
    ∙ (ap (λ parts. cond (is_backslash b) ([] ∷ parts) (onto_first (fold b) parts)) (parts-folded bs) ∙ by (is_backslash b))
  where
    by : (t : Bool) → cond t ([] ∷ map folded (slice_split is_backslash bs)) (onto_first (fold b) (map folded (slice_split is_backslash bs))) ≡ map
        folded (cond t ([] ∷ slice_split is_backslash bs) (onto_first b (slice_split is_backslash bs)))
    by true = refl
    by false = onto-folded b (slice_split is_backslash bs)

-- the names of a folded text are the names of the text, folded
pub path_of-folded : (text : List ℕ) → path_of (folded text) ≡ map folded (path_of text)
path_of-folded [] = refl
path_of-folded (b ∷ bs) = parts-folded (b ∷ bs)
