-- Paths as text, and read back.
use Rattle.std.proofs.Common.{◌≡◌, ◌≢◌, ℕ, true, false, List, [], ◌∷◌, refl, sym, ap, ◌∙◌, not}
use Rattle.std.specs.List.{All, list_all, slice_split, join_with_byte}
use Rattle.std.proofs.lemmas.Bool.{and_parts, not-true}
use Rattle.std.proofs.lemmas.List.Elements.{All-nil, All-cons}
use Rattle.std.proofs.lemmas.List.Splits.{slice_split_none, slice_split_at, join_with_byte-slice_split}
use Rattle.reg_names.specs.Names.{path_of, text_of, is_backslash, has_no_backslash}

unparted : (name : List ℕ) → has_no_backslash name ≡ true → All (λ c. is_backslash c ≡ false) name
unparted [] h = All-nil (λ c. is_backslash c ≡ false)
unparted (b ∷ bs) h =
    let both = and_parts (not (is_backslash b)) (has_no_backslash bs) h in
    All-cons (λ c. is_backslash c ≡ false) b bs (not-true (is_backslash b) both.0) (unparted bs both.1)

-- names joined by a backslash, and cut at each
cut_again : (name : List ℕ) (names : List (List ℕ)) → list_all has_no_backslash (name ∷ names) ≡ true → slice_split is_backslash (join_with_byte 92 (name ∷ names)) ≡ name ∷ names
cut_again name [] h =
    slice_split_none is_backslash name (unparted name (and_parts (has_no_backslash name) true h).0)
cut_again name (other ∷ names) h =
    let both = and_parts (has_no_backslash name) (list_all has_no_backslash (other ∷ names)) h in
    slice_split_at is_backslash name 92 (join_with_byte 92 (other ∷ names)) (unparted name both.0) refl ∙ ap (λ t. name ∷ t) (cut_again other names both.1)

-- the text of a path of names without a backslash, read as a path, is that path; the path of the one empty name has no text
pub path_of-text_of : (names : List (List ℕ)) → list_all has_no_backslash names ≡ true → names ≢ ([] ∷ []) → path_of (text_of names) ≡ names
path_of-text_of [] h ne = refl
path_of-text_of ([] ∷ []) h ne = absurd (ne refl)
path_of-text_of ((b ∷ bs) ∷ []) h ne = cut_again (b ∷ bs) [] h
path_of-text_of ([] ∷ other ∷ names) h ne = cut_again [] (other ∷ names) h
path_of-text_of ((b ∷ bs) ∷ other ∷ names) h ne = cut_again (b ∷ bs) (other ∷ names) h

-- the names of a text, joined again, are that text
pub text_of-path_of : (text : List ℕ) → text_of (path_of text) ≡ text
text_of-path_of [] = refl
text_of-path_of (b ∷ bs) = join_with_byte-slice_split 92 (b ∷ bs)

-- two texts of the same names are one
pub path_of-injective : (a b : List ℕ) → path_of a ≡ path_of b → a ≡ b
path_of-injective a b e = sym (text_of-path_of a) ∙ (ap text_of e ∙ text_of-path_of b)
