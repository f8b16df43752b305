-- The keys of several trees by the time of their last write (this project's own; RFC 4180 as csv writes it; the body file of The Sleuth
-- Kit 3.x: eleven fields, of which the second is a name and the ninth the time of the last write in seconds since 1970).
use Rattle.std.specs.Prelude.{◌≡◌, ℕ, ◌+◌, ◌-◌, ◌*◌, ◌/◌, ◌%◌, ◌==◌, ◌&&◌, ◌||◌, nat_lt, nat_le, true, if◌then◌else◌, List, [], ◌∷◌, ◌++◌, codes, length, map, flat_map, slice_index_or, Some}
use Rattle.std.specs.Fmt.{decimal, digit_glyph}
use Rattle.jiff_fmt.specs.Text.{pad2, fraction_part}
use Rattle.reg_names.specs.Names.{text_of}
use Rattle.reg_heap.specs.Paths.{Tree}
use Rattle.reg_text.specs.Texts.{line_feed, escaped}
use Rattle.reg_tree_text.specs.DumpTexts.{Told, keys_told}
use Rattle.reg_tables.specs.declared.time.TheConstants.{LAST_INSTANT}
use Rattle.reg_tables.specs.declared.timeline.Timeline.{Timeline}
use Rattle.reg_tables.specs.declared.timeline.TimedKey.{TimedKey}
use Rattle.reg_tables.specs.declared.timeline.TimelineForm.{TimelineForm}
use Rattle.reg_tables.specs.declared.timeline.TimelineForm.TheVariants.{Text, Csv, Bodyfile}
use Rattle.reg_tables.specs.Times.{date_text}
use Rattle.reg_tables.specs.Tables.{line_text}

-- ---- which keys, in which order

-- a key in a timeline: the time of its last write, which of the trees it is in, counted from 0, and the names that lead to it from the
-- root, joined by backslashes
pub record Timed : Type 0 where
  pub time : ℕ
  pub hive : ℕ
  pub path : List ℕ

-- a key, where its time is from one time on and not behind another
abbrev pub key_within : (hive from to : ℕ) → Told → List Timed
key_within hive from to told =
    if nat_le from told.key.time && nat_le told.key.time to then record { time = told.key.time; hive = hive; path = text_of told.names } ∷ []
    else []

-- those of some keys
abbrev pub keys_within : (hive from to : ℕ) → List Told → List Timed
keys_within hive from to keys = flat_map (key_within hive from to) keys

-- those of trees, in their order, and of each in the order of a dump; the first tree has that number
abbrev pub keys_among : (hive : ℕ) → List Tree → (from to : ℕ) → List Timed
keys_among hive [] from to = []
keys_among hive (tree ∷ trees) from to = keys_within hive from to (keys_told tree) ++ keys_among (hive + 1) trees from to

-- something before all that have no lower number, in a list in which the numbers rise
abbrev pub placed : {X : Type 0} → (X → ℕ) → X → List X → List X
placed number x [] = x ∷ []
placed number x (y ∷ ys) = if nat_le (number x) (number y) then x ∷ y ∷ ys else y ∷ placed number x ys

-- a list in the order of the numbers; those with one number stay in the order that they had
abbrev pub in_order : {X : Type 0} → (X → ℕ) → List X → List X
in_order number [] = []
in_order number (x ∷ xs) = placed number x (in_order number xs)

-- keys by their time
abbrev pub by_time : List Timed → List Timed
by_time keys = in_order (λ (key : Timed). key.time) keys

-- ---- how a time is told

-- the time of day so many 100 ns behind midnight, always with seven places
unfoldable pub precise_clock : ℕ → List ℕ
precise_clock ticks =
    pad2 (ticks / 36_000_000_000) ++ (58 ∷ (pad2 (ticks / 600_000_000 % 60) ++ (58 ∷ (pad2 (ticks / 10_000_000 % 60)
    ++ fraction_part (Some 7) (ticks % 10_000_000 * 100)))))

-- the instant so many 100 ns behind the start of 1 January 1601 in UTC
unfoldable pub precise_instant : ℕ → List ℕ
precise_instant ticks = date_text (ticks / 864_000_000_000) ++ (84 ∷ (precise_clock (ticks % 864_000_000_000) ++ 90 ∷ []))

-- the time of a key: the instant, or the number of 100 ns where it is behind the last instant that jiff says
unfoldable pub precise_time : ℕ → List ℕ
precise_time ticks = if nat_le ticks LAST_INSTANT then precise_instant ticks else decimal ticks

-- whole seconds since the start of 1970; 0 of a time before it
abbrev pub unix_seconds : ℕ → ℕ
unix_seconds ticks = (ticks - 116_444_736_000_000_000) / 10_000_000

-- ---- lines

-- the name of a hive by its number; none where fewer are given
abbrev pub hive_name : List (List ℕ) → ℕ → List ℕ
hive_name names hive = slice_index_or names hive []

-- a byte of a name in a body file: `%` and its two digits of `%`, of `|`, which parts the fields, and of a control character of ASCII
unfoldable pub field_byte : ℕ → List ℕ
field_byte b =
    if b == 37 || b == 124 || nat_lt b 32 || b == 127 then 37 ∷ digit_glyph true (b / 16) ∷ digit_glyph true (b % 16) ∷ [] else b ∷ []

abbrev pub field_text : List ℕ → List ℕ
field_text bytes = flat_map field_byte bytes

-- a line of a text: when, of which hive, and which key
unfoldable pub text_line : (name : List ℕ) → Timed → List ℕ
text_line name key = precise_time key.time ++ (32 ∷ (name ++ (codes " =" ++ (escaped key.path ++ line_feed))))

-- a row of a table
unfoldable pub csv_line : (name : List ℕ) → Timed → List ℕ
csv_line name key = line_text (precise_time key.time ∷ name ∷ key.path ∷ [])

-- a line of a body file
unfoldable pub body_line : (name : List ℕ) → Timed → List ℕ
body_line name key =
    codes "0|" ++ (field_text name ++ (32 ∷ (field_text key.path ++ (codes "|0|0|0|0|0|0|" ++ (decimal (unix_seconds key.time) ++ codes "|0|0\n")))))

-- a key in a form
abbrev pub form_line : TimelineForm → (name : List ℕ) → Timed → List ℕ
form_line Text name key = text_line name key
form_line Csv name key = csv_line name key
form_line Bodyfile name key = body_line name key

-- what stands before the first key
abbrev pub heading : TimelineForm → List ℕ
heading Text = []
heading Csv = line_text (codes "time" ∷ codes "hive" ∷ codes "path" ∷ [])
heading Bodyfile = []

-- some keys, each in a line
abbrev pub form_lines : TimelineForm → (names : List (List ℕ)) → List Timed → List ℕ
form_lines form names keys = flat_map (λ (key : Timed). form_line form (hive_name names key.hive) key) keys

-- keys in their order, with what stands before them
abbrev pub ordered_text : TimelineForm → (names : List (List ℕ)) → List Timed → List ℕ
ordered_text form names keys = heading form ++ form_lines form names keys

-- the timeline of trees, of which each has its name: the keys whose time is within the bounds, by time
unfoldable pub timeline_text : TimelineForm → (names : List (List ℕ)) → List Tree → (from to : ℕ) → List ℕ
timeline_text form names trees from to = ordered_text form names (by_time (keys_among 0 trees from to))

-- ---- what was gathered

-- a key that was gathered
abbrev pub timed : TimedKey → Timed
timed key = record { time = key.time; hive = key.hive; path = key.path.items }

-- the keys of these trees whose times are within these bounds were gathered
pub record IsGathered (timeline : Timeline) (trees : List Tree) (from to : ℕ) : Type 0 where
  pub count : timeline.hives ≡ length trees
  pub keys : map timed timeline.keys.items ≡ keys_among 0 trees from to
