-- Keys and values as JSON and as CSV, computed of keys that were worked out by hand.
use Rattle.std.proofs.Common.{◌≡◌, [], ◌∷◌, ◌++◌, refl}
use Rattle.std.specs.Prelude.{codes, flat_map}
use Rattle.std.specs.Fmt.{digits}
use Rattle.std.specs.Char.Utf16.{utf16_chars}
use Rattle.hex.proofs.OnLiterals.{hex_on_literals}
use Rattle.serde_json.proofs.OnLiterals.{serde_json_on_literals}
use Rattle.csv.specs.Writing.{escaped, fields_text, is_blank}
use Rattle.jiff_fmt.specs.Text.{places, trailing_zeros}
use Rattle.reg_tree_text.specs.DumpTexts.{Told}
use Rattle.reg_tree_text.specs.ValueTexts.{form_text}
use Rattle.reg_tables.specs.SecurityTexts.{security_told, sddl_of}
use Rattle.reg_tables.specs.Times.{year_and_day, month_and_day, date_text, clock_text, instant_text, time_text}
use Rattle.reg_tables.specs.ValueForms.{form_data}
use Rattle.reg_tables.specs.FormsTold.{form_told}
use Rattle.reg_tables.specs.Tables.{key_text, more_text, keys_text, key_line, column_names, key_rows, line_text}

-- a key right below the root with a string that has a quote, and a number with the empty name
abbrev first : Told
first = record {
  names = codes "a" ∷ [];
  key = record {
    name = codes "a";
    marks = 8;
    class = 1 ∷ [];
    descriptor = 171 ∷ [];
    time = 116_444_736_000_000_000;
    values = record { name = codes "s"; kind = 1; bytes = 34 ∷ 0 ∷ 0 ∷ 0 ∷ [] } ∷ record { name = []; kind = 4; bytes = 7 ∷ 0 ∷ 0 ∷ 0 ∷ [] } ∷ [];
  };
}

-- a key below it, with a time that isn't said
abbrev second : Told
second = record {
  names = codes "a" ∷ codes "b c" ∷ [];
  key = record { name = codes "b c"; marks = 0; class = []; descriptor = 2 ∷ []; time = 3_000_000_000_000_000_000; values = [] };
}

key-first : key_text first ≡
    codes "{\"path\":\"a\",\"time\":\"1970-01-01T00:00:00Z\",\"marks\":8,\"class\":\"01\",\"security\":\"ab\",\"values\":["
    ++ codes "{\"name\":\"s\",\"type\":1,\"data\":\"\\\"\"},{\"name\":\"\",\"type\":4,\"data\":7}]}"
unfolding key_text serde_json_on_literals time_text instant_text date_text year_and_day month_and_day clock_text places trailing_zeros form_data utf16_chars lib.Utf8.encode hex_on_literals digits security_told sddl_of
key-first = refl

key-second : key_text second ≡
    codes "{\"path\":\"a\\\\b c\",\"time\":\"3000000000000000000\",\"marks\":0,\"class\":\"\",\"security\":\"02\",\"values\":[]}"
unfolding key_text serde_json_on_literals time_text hex_on_literals digits security_told sddl_of
key-second = refl

keys-two : keys_text (second ∷ second ∷ []) ≡
    codes "{\"path\":\"a\\\\b c\",\"time\":\"3000000000000000000\",\"marks\":0,\"class\":\"\",\"security\":\"02\",\"values\":[]},\n"
    ++ codes "{\"path\":\"a\\\\b c\",\"time\":\"3000000000000000000\",\"marks\":0,\"class\":\"\",\"security\":\"02\",\"values\":[]}"
unfolding key_text more_text serde_json_on_literals time_text hex_on_literals digits security_told sddl_of
keys-two = refl

line-second : key_line second ≡
    codes "{\"path\":\"a\\\\b c\",\"time\":\"3000000000000000000\",\"marks\":0,\"class\":\"\",\"security\":\"02\",\"values\":[]}\n"
unfolding key_line key_text serde_json_on_literals time_text hex_on_literals digits security_told sddl_of
line-second = refl

lines-two : flat_map key_line (second ∷ second ∷ []) ≡
    codes "{\"path\":\"a\\\\b c\",\"time\":\"3000000000000000000\",\"marks\":0,\"class\":\"\",\"security\":\"02\",\"values\":[]}\n"
    ++ codes "{\"path\":\"a\\\\b c\",\"time\":\"3000000000000000000\",\"marks\":0,\"class\":\"\",\"security\":\"02\",\"values\":[]}\n"
unfolding key_line key_text serde_json_on_literals time_text hex_on_literals digits security_told sddl_of
lines-two = refl

columns : line_text column_names ≡ codes "kind,path,time,name,type,form,data\n"
unfolding line_text escaped fields_text is_blank
columns = refl

rows-first : key_rows first ≡ codes "key,a,1970-01-01T00:00:00Z,,,,\nvalue,a,,s,1,text,\"\"\"\"\nvalue,a,,,4,number,7\n"
unfolding line_text escaped fields_text is_blank time_text instant_text date_text year_and_day month_and_day clock_text places trailing_zeros form_told form_text utf16_chars lib.Utf8.encode digits
rows-first = refl

rows-second : key_rows second ≡ codes "key,a\\b c,3000000000000000000,,,,\n"
unfolding line_text escaped fields_text is_blank time_text digits
rows-second = refl
