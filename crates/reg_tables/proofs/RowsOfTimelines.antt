-- Timelines, computed of keys that were worked out by hand.
use Rattle.std.proofs.Common.{◌≡◌, ℕ, List, [], ◌∷◌, refl}
use Rattle.std.specs.Prelude.{codes}
use Rattle.std.specs.Fmt.{digits}
use Rattle.csv.specs.Writing.{escaped, fields_text, is_blank}
use Rattle.jiff_fmt.specs.Text.{places}
use Rattle.reg_text.specs.Texts.{byte_text}
use Rattle.reg_tree_text.specs.DumpTexts.{Told}
use Rattle.reg_tables.specs.declared.timeline.TimelineForm.TheVariants.{Text, Csv, Bodyfile}
use Rattle.reg_tables.specs.Times.{year_and_day, month_and_day, date_text}
use Rattle.reg_tables.specs.Tables.{line_text}
use Rattle.reg_tables.specs.Timelines.{Timed, precise_clock, precise_instant, precise_time, unix_seconds, field_byte, text_line, csv_line, body_line}
use Rattle.reg_tables.specs.Timelines.{keys_within, by_time, ordered_text}

-- ---- times

-- 11,644,473,600 s lie between the start of 1601 and that of 1970; 1,655,526,400 s behind 1970 it was 04:26:40 on 18 June 2022
precise-june : precise_time 133_000_000_001_234_567 ≡ codes "2022-06-18T04:26:40.1234567Z"
unfolding precise_time precise_instant date_text year_and_day month_and_day precise_clock places
precise-june = refl

precise-whole : precise_time 133_000_000_000_000_000 ≡ codes "2022-06-18T04:26:40.0000000Z"
unfolding precise_time precise_instant date_text year_and_day month_and_day precise_clock places
precise-whole = refl

precise-half : precise_time 133_000_000_005_000_000 ≡ codes "2022-06-18T04:26:40.5000000Z"
unfolding precise_time precise_instant date_text year_and_day month_and_day precise_clock places
precise-half = refl

precise-tick : precise_time 116_444_736_000_000_001 ≡ codes "1970-01-01T00:00:00.0000001Z"
unfolding precise_time precise_instant date_text year_and_day month_and_day precise_clock places
precise-tick = refl

precise-first : precise_time 0 ≡ codes "1601-01-01T00:00:00.0000000Z"
unfolding precise_time precise_instant date_text year_and_day month_and_day precise_clock places
precise-first = refl

-- the last one that is said, and the next one
precise-last : precise_time 2_650_466_808_009_999_999 ≡ codes "9999-12-30T22:00:00.9999999Z"
unfolding precise_time precise_instant date_text year_and_day month_and_day precise_clock places
precise-last = refl

precise-beyond : precise_time 2_650_466_808_010_000_000 ≡ codes "2650466808010000000"
unfolding precise_time digits
precise-beyond = refl

seconds-june : unix_seconds 133_000_000_001_234_567 ≡ 1_655_526_400
seconds-june = refl

seconds-early : unix_seconds 116_444_735_999_999_999 ≡ 0
seconds-early = refl

seconds-next : unix_seconds 116_444_736_010_000_000 ≡ 1
seconds-next = refl

-- ---- lines

-- a key with a space and a comma in its name
abbrev spaced : Timed
spaced = record { time = 133_000_000_001_234_567; hive = 0; path = codes "Software\\My, Key" }

-- a root
abbrev root : Timed
root = record { time = 133_000_000_000_000_000; hive = 1; path = [] }

text-spaced : text_line (codes "a b.DAT") spaced ≡ codes "2022-06-18T04:26:40.1234567Z a b.DAT =Software\\My,%20Key\n"
unfolding text_line byte_text precise_time precise_instant date_text year_and_day month_and_day precise_clock places
text-spaced = refl

text-root : text_line (codes "SYSTEM") root ≡ codes "2022-06-18T04:26:40.0000000Z SYSTEM =\n"
unfolding text_line byte_text precise_time precise_instant date_text year_and_day month_and_day precise_clock places
text-root = refl

csv-spaced : csv_line (codes "a b.DAT") spaced ≡ codes "2022-06-18T04:26:40.1234567Z,a b.DAT,\"Software\\My, Key\"\n"
unfolding csv_line line_text escaped fields_text is_blank precise_time precise_instant date_text year_and_day month_and_day precise_clock places
csv-spaced = refl

body-spaced : body_line (codes "a b.DAT") spaced ≡ codes "0|a b.DAT Software\\My, Key|0|0|0|0|0|0|1655526400|0|0\n"
unfolding body_line field_byte digits
body-spaced = refl

-- a name with what parts fields, a percent sign, a tab and the last control character
body-parted : body_line (codes "a|b%") (record { time = 0; hive = 0; path = 9 ∷ 127 ∷ 126 ∷ [] }) ≡ codes "0|a%7Cb%25 %09%7F~|0|0|0|0|0|0|0|0|0\n"
unfolding body_line field_byte digits
body-parted = refl

-- ---- which keys, in which order

abbrev key_at : ℕ → List ℕ → Told
key_at time name = record {
  names = name ∷ [];
  key = record { name = name; marks = 0; class = []; descriptor = []; time = time; values = [] };
}

abbrev timed_at : (time hive : ℕ) → List ℕ → Timed
timed_at time hive path = record { time = time; hive = hive; path = path }

-- both bounds are within
bounds : keys_within 2 3 5 (key_at 2 (codes "a") ∷ key_at 5 (codes "b") ∷ key_at 6 (codes "c") ∷ key_at 3 (codes "d") ∷ []) ≡
    timed_at 5 2 (codes "b") ∷ timed_at 3 2 (codes "d") ∷ []
bounds = refl

-- those of one time stay in the order of the hives
order : by_time (timed_at 5 0 (codes "a") ∷ timed_at 3 0 (codes "b") ∷ timed_at 5 1 (codes "c") ∷ timed_at 4 1 (codes "d") ∷ timed_at 3 1 (codes "e") ∷ []) ≡
    timed_at 3 0 (codes "b") ∷ timed_at 3 1 (codes "e") ∷ timed_at 4 1 (codes "d") ∷ timed_at 5 0 (codes "a") ∷ timed_at 5 1 (codes "c") ∷ []
order = refl

-- a whole table of two hives
table : ordered_text Csv (codes "x" ∷ codes "y" ∷ []) (by_time (timed_at 116_444_736_000_000_001 0 (codes "a") ∷ timed_at 0 1 (codes "b") ∷ [])) ≡
    codes "time,hive,path\n1601-01-01T00:00:00.0000000Z,y,b\n1970-01-01T00:00:00.0000001Z,x,a\n"
unfolding csv_line line_text escaped fields_text is_blank precise_time precise_instant date_text year_and_day month_and_day precise_clock places
table = refl

-- no heading stands before a text and a body file, and a hive without a name has none
bare : ordered_text Bodyfile [] (timed_at 0 0 (codes "a") ∷ []) ≡ codes "0| a|0|0|0|0|0|0|0|0|0\n"
unfolding body_line field_byte digits
bare = refl

none : ordered_text Text [] [] ≡ []
none = refl
