-- Values told with their types, and the lines of a listing, computed of data that were written out by hand.
use Rattle.std.proofs.Common.{◌≡◌, true, false, [], ◌∷◌, ◌++◌, refl}
use Rattle.std.specs.Prelude.{codes, replicate}
use Rattle.std.specs.Char.Utf16.{utf16_chars}
use Rattle.std.specs.Fmt.{digits}
use Rattle.hex.proofs.OnLiterals.{hex_on_literals}
use Rattle.jiff_fmt.specs.Text.{places, trailing_zeros}
use Rattle.reg_heap.specs.Paths.{Rec}
use Rattle.reg_text.specs.Texts.{byte_text}
use Rattle.reg_tree_text.specs.DumpTexts.{Told}
use Rattle.reg_tree_text.specs.ValueTexts.{form_text}
use Rattle.reg_tables.specs.declared.columns.Columns.{Columns}
use Rattle.reg_tables.specs.FormsTold.{form_told}
use Rattle.reg_tables.specs.SecurityTexts.{short_at, long_at, sddl_of}
use Rattle.reg_tables.specs.Times.{year_and_day, month_and_day, date_text, clock_text, instant_text, time_text}
use Rattle.reg_tables.specs.TypedValues.{type_word, type_text, number_of, typed_told}
use Rattle.reg_tables.specs.LongListings.{line_told, descriptor_told, key_about, key_line, value_about, told_lines}

-- ---- types

typed-none : typed_told 0 [] ≡ codes "none hex hex:"
unfolding typed_told type_text type_word form_told form_text number_of hex_on_literals digits
typed-none = refl

typed-string : typed_told 1 (72 ∷ 0 ∷ 105 ∷ 0 ∷ 0 ∷ 0 ∷ []) ≡ codes "sz text Hi"
unfolding typed_told type_text type_word form_told form_text number_of utf16_chars lib.Utf8.encode
typed-string = refl

typed-expandable : typed_told 2 [] ≡ codes "expand text "
unfolding typed_told type_text type_word form_told form_text number_of utf16_chars lib.Utf8.encode
typed-expandable = refl

typed-bytes : typed_told 3 (171 ∷ 1 ∷ []) ≡ codes "binary hex hex:ab01"
unfolding typed_told type_text type_word form_told form_text number_of hex_on_literals digits
typed-bytes = refl

typed-number : typed_told 4 (16 ∷ 0 ∷ 0 ∷ 0 ∷ []) ≡ codes "dword number 16 0x10"
unfolding typed_told type_text type_word form_told form_text number_of digits
typed-number = refl

typed-number_in_no_form : typed_told 4 (16 ∷ []) ≡ codes "dword hex hex:10"
unfolding typed_told type_text type_word form_told form_text number_of hex_on_literals digits
typed-number_in_no_form = refl

typed-high_first : typed_told 5 (0 ∷ 0 ∷ 1 ∷ 2 ∷ []) ≡ codes "5 number 258 0x102"
unfolding typed_told type_text type_word form_told form_text number_of digits
typed-high_first = refl

typed-link : typed_told 6 (92 ∷ 0 ∷ []) ≡ codes "6 text \\"
unfolding typed_told type_text type_word form_told form_text number_of utf16_chars lib.Utf8.encode digits
typed-link = refl

typed-strings : typed_told 7 (97 ∷ 0 ∷ 0 ∷ 0 ∷ 98 ∷ 0 ∷ 0 ∷ 0 ∷ 0 ∷ 0 ∷ []) ≡ codes "multi text a\tb"
unfolding typed_told type_text type_word form_told form_text number_of utf16_chars lib.Utf8.encode
typed-strings = refl

typed-long_number : typed_told 11 (replicate 8 255) ≡ codes "qword number 18446744073709551615 0xffffffffffffffff"
unfolding typed_told type_text type_word form_told form_text number_of digits
typed-long_number = refl

typed-other : typed_told 99 (1 ∷ []) ≡ codes "99 hex hex:01"
unfolding typed_told type_text type_word form_told form_text number_of hex_on_literals digits
typed-other = refl

-- ---- lines

-- all is asked for
abbrev all : Columns
all = record { is_long = true; has_times = true; has_securities = true; ends_by_zero = false }

-- times, and zeros at the ends
abbrev timed : Columns
timed = record { is_long = false; has_times = true; has_securities = false; ends_by_zero = true }

-- a key with a null DACL and a number without a name, two names below the listed one, and one whose descriptor is none
abbrev first : Told
first = record {
  names = codes "a" ∷ codes "b" ∷ [];
  key = record {
    name = codes "b";
    marks = 0;
    class = [];
    descriptor = 1 ∷ 0 ∷ 4 ∷ 128 ∷ replicate 16 0;
    time = 116_444_736_000_000_000;
    values = record { name = []; kind = 4; bytes = 7 ∷ 0 ∷ 0 ∷ 0 ∷ [] } ∷ [];
  };
}

abbrev second : Rec
second = record { name = codes "c"; marks = 0; class = []; descriptor = 171 ∷ []; time = 3_000_000_000_000_000_000; values = [] }

lines-all : told_lines all first ≡
    codes "key =a\\b time 1970-01-01T00:00:00Z security D:NO_ACCESS_CONTROL\n" ++ codes "value = dword number 7 0x7\n"
unfolding line_told key_about value_about descriptor_told sddl_of short_at long_at time_text instant_text date_text year_and_day month_and_day clock_text places trailing_zeros typed_told type_text type_word form_told form_text number_of byte_text digits
lines-all = refl

lines-timed : told_lines timed first ≡ (codes "key =a\\b time 1970-01-01T00:00:00Z" ++ 0 ∷ []) ++ (codes "value = type 4 size 4" ++ 0 ∷ [])
unfolding line_told key_about value_about time_text instant_text date_text year_and_day month_and_day clock_text places trailing_zeros byte_text digits
lines-timed = refl

line-second : key_line all second.name second ≡ codes "key =c time 3000000000000000000 security hex:ab\n"
unfolding line_told key_about descriptor_told sddl_of time_text byte_text hex_on_literals digits
line-second = refl
