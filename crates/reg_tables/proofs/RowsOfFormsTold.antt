-- The forms in which values' data are told, computed of bytes that were written out by hand.
use Rattle.std.proofs.Common.{◌≡◌, [], ◌∷◌, refl}
use Rattle.std.specs.Prelude.{codes}
use Rattle.std.specs.Char.Utf16.{utf16_chars}
use Rattle.std.specs.Fmt.{digits}
use Rattle.hex.proofs.OnLiterals.{hex_on_literals}
use Rattle.reg_tree_text.specs.ValueTexts.{form_text, value_told}
use Rattle.reg_tables.specs.FormsTold.{form_told}

-- ---- strings

form-string : form_told 1 (72 ∷ 0 ∷ 0 ∷ 0 ∷ []) ≡ codes "text"
unfolding form_told form_text utf16_chars lib.Utf8.encode
form-string = refl

form-expandable : form_told 2 [] ≡ codes "text"
unfolding form_told form_text utf16_chars lib.Utf8.encode
form-expandable = refl

form-link : form_told 6 (92 ∷ 0 ∷ []) ≡ codes "text"
unfolding form_told form_text utf16_chars lib.Utf8.encode
form-link = refl

form-strings : form_told 7 (97 ∷ 0 ∷ 0 ∷ 0 ∷ 98 ∷ 0 ∷ 0 ∷ 0 ∷ 0 ∷ 0 ∷ []) ≡ codes "text"
unfolding form_told form_text utf16_chars lib.Utf8.encode
form-strings = refl

-- a tab, a byte alone, half a pair
form-tab : form_told 1 (9 ∷ 0 ∷ 0 ∷ 0 ∷ []) ≡ codes "hex"
unfolding form_told form_text utf16_chars lib.Utf8.encode
form-tab = refl

form-odd : form_told 1 (72 ∷ 0 ∷ 0 ∷ []) ≡ codes "hex"
unfolding form_told form_text utf16_chars lib.Utf8.encode
form-odd = refl

form-half_a_pair : form_told 1 (0 ∷ 216 ∷ 0 ∷ 0 ∷ []) ≡ codes "hex"
unfolding form_told form_text utf16_chars lib.Utf8.encode
form-half_a_pair = refl

form-strings_tab : form_told 7 (9 ∷ 0 ∷ 0 ∷ 0 ∷ 0 ∷ 0 ∷ []) ≡ codes "hex"
unfolding form_told form_text utf16_chars lib.Utf8.encode
form-strings_tab = refl

-- ---- a string and a byte whose data are told alike

told-string : value_told 1 (104 ∷ 0 ∷ 101 ∷ 0 ∷ 120 ∷ 0 ∷ 58 ∷ 0 ∷ 52 ∷ 0 ∷ 49 ∷ 0 ∷ 0 ∷ 0 ∷ []) ≡ codes "hex:41"
unfolding form_text utf16_chars lib.Utf8.encode
told-string = refl

told-byte : value_told 3 (65 ∷ []) ≡ codes "hex:41"
unfolding form_text hex_on_literals
told-byte = refl

form-told_string : form_told 1 (104 ∷ 0 ∷ 101 ∷ 0 ∷ 120 ∷ 0 ∷ 58 ∷ 0 ∷ 52 ∷ 0 ∷ 49 ∷ 0 ∷ 0 ∷ 0 ∷ []) ≡ codes "text"
unfolding form_told form_text utf16_chars lib.Utf8.encode
form-told_string = refl

form-told_byte : form_told 3 (65 ∷ []) ≡ codes "hex"
unfolding form_told form_text
form-told_byte = refl

-- ---- numbers

form-low : form_told 4 (1 ∷ 2 ∷ 0 ∷ 0 ∷ []) ≡ codes "number"
unfolding form_told form_text digits
form-low = refl

form-high : form_told 5 (1 ∷ 2 ∷ 0 ∷ 0 ∷ []) ≡ codes "number"
unfolding form_told form_text digits
form-high = refl

form-long : form_told 11 (1 ∷ 0 ∷ 0 ∷ 0 ∷ 0 ∷ 0 ∷ 0 ∷ 0 ∷ []) ≡ codes "number"
unfolding form_told form_text digits
form-long = refl

form-short : form_told 4 (1 ∷ 2 ∷ 0 ∷ []) ≡ codes "hex"
unfolding form_told form_text
form-short = refl

form-long_short : form_told 11 (1 ∷ 2 ∷ 3 ∷ 4 ∷ []) ≡ codes "hex"
unfolding form_told form_text
form-long_short = refl

-- ---- another type

form-none : form_told 0 [] ≡ codes "hex"
unfolding form_told form_text
form-none = refl
