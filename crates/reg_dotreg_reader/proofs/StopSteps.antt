-- Where lines stop, by what stands in them.
use Rattle.std.proofs.Common.{◌≡◌, ◌≢◌, ◌⊎◌, inl, inr, ◌≤◌, ℕ, suc, ◌+◌, ◌<◌, ◌==◌, ◌&&◌, ◌||◌, ◌-◌, nat_lt, not, Bool, true, false, cond}
use Rattle.std.proofs.Common.{List, [], ◌∷◌, length}
use Rattle.std.proofs.Common.{Option, Some, None, refl, sym, ap, ◌∙◌, arith}
use Rattle.std.specs.Prelude.{option_map, is_some, codes}
use Rattle.std.specs.Option.{unwrap_or}
use Rattle.std.specs.List.{before_first, after_first}
use Rattle.std.proofs.lemmas.Bool.Decides.{nat_tests}
use Rattle.reg_dotreg_reader.specs.declared.expected.Expected.TheVariants as wanted
use Rattle.reg_dotreg_reader.specs.EntryLines.{is_feed, lines_of, is_value_line}
use Rattle.reg_dotreg_reader.specs.EntryWords.{behind_blanks, before_mark, behind_word, number_of, quoted}
use Rattle.reg_dotreg_reader.specs.EntryMeanings.{lengthened, name_read, is_close}
use Rattle.reg_dotreg_reader.specs.LineStops.{Stop, behind_stop, has_quote, lacks_quote, unclosed, first_stop, several_stop, is_open}
use Rattle.reg_dotreg_reader.specs.LineStops.{text_stop, bad_name, name_stop, few_digits, number_stop, list_stop, behind_kind, kind_stop, bytes_stop}
use Rattle.reg_dotreg_reader.specs.LineStops.{data_stop, behind_name_stop, unnamed_stop, value_stop}
use Rattle.reg_dotreg_reader.specs.LineStops.{long_stop, below_stop, between_stop, open_stop, behind_bracket, before_bracket, key_stop, line_stop}

-- ---- names and texts in quotes

lack_by : (lines rest : List (List ℕ)) (line : List ℕ) → lines ≡ line ∷ rest →
    lacks_quote lines ≡ cond (has_quote line) (is_value_line line) (lacks_quote rest)
unfolding lacks_quote
lack_by lines rest line e = ap lacks_quote e

pub lack_next : (whole : Bool) (lines rest : List (List ℕ)) (line : List ℕ) → whole ≡ lacks_quote lines → lines ≡ line ∷ rest →
    has_quote line ≡ false → whole ≡ lacks_quote rest
lack_next whole lines rest line so_far e none =
    so_far ∙ (lack_by lines rest line e ∙ ap (λ (b : Bool). cond b (is_value_line line) (lacks_quote rest)) none)

pub lack_here : (whole : Bool) (lines rest : List (List ℕ)) (line : List ℕ) → whole ≡ lacks_quote lines → lines ≡ line ∷ rest →
    has_quote line ≡ true → is_value_line line ≡ whole
lack_here whole lines rest line so_far e some =
    sym (so_far ∙ (lack_by lines rest line e ∙ ap (λ (b : Bool). cond b (is_value_line line) (lacks_quote rest)) some))

pub lack_end : (whole : Bool) (lines : List (List ℕ)) → whole ≡ lacks_quote lines → lines ≡ [] → true ≡ whole
unfolding lacks_quote
lack_end whole lines so_far e = sym (so_far ∙ ap lacks_quote e)

pub several_closed : (text units behind : List ℕ) → quoted text ≡ Some (units, behind) → several_stop text ≡ behind_stop behind
unfolding several_stop
several_closed text units behind e = rw e refl

pub several_none : (text : List ℕ) → quoted text ≡ None → several_stop text ≡ unclosed 0 false text
unfolding several_stop
several_none text e = rw e refl

pub open_closed : (text first : List ℕ) (read : List ℕ × List ℕ) → first ≡ before_first is_feed text → quoted first ≡ Some read →
    is_open text ≡ false
unfolding is_open
open_closed text first read is e =
    ap (λ (o : Option (List ℕ × List ℕ)). not (is_some o) && lacks_quote (lines_of (after_first is_feed text))) (ap quoted (sym is) ∙ e)

pub open_none : (text first behind : List ℕ) → first ≡ before_first is_feed text → behind ≡ after_first is_feed text → quoted first ≡ None →
    is_open text ≡ lacks_quote (lines_of behind)
unfolding is_open
open_none text first behind is left e =
    ap (λ (o : Option (List ℕ × List ℕ)). not (is_some o) && lacks_quote (lines_of (after_first is_feed text))) (ap quoted (sym is) ∙ e)
    ∙ ap (λ (w : List ℕ). lacks_quote (lines_of w)) (sym left)

pub text_open : (text : List ℕ) (open_is : Bool) → open_is ≡ is_open text → open_is ≡ true → text_stop text ≡ first_stop text
unfolding text_stop
text_open text open_is same is = ap (λ (b : Bool). cond b (first_stop text) (several_stop text)) (sym same ∙ is)

pub text_several : (text : List ℕ) (open_is : Bool) → open_is ≡ is_open text → open_is ≡ false → text_stop text ≡ several_stop text
unfolding text_stop
text_several text open_is same is = ap (λ (b : Bool). cond b (first_stop text) (several_stop text)) (sym same ∙ is)

abbrev name_by : (text : List ℕ) → Option (List ℕ × List ℕ) → Stop
name_by text o = unwrap_or (option_map (λ read. bad_name text read.0) o) (first_stop text)

pub name_none : (text first : List ℕ) → first ≡ before_first is_feed text → quoted first ≡ None → name_stop text ≡ first_stop text
unfolding name_stop
name_none text first is e = ap (name_by text) (ap quoted (sym is) ∙ e)

pub name_closed : (text first units behind : List ℕ) → first ≡ before_first is_feed text → quoted first ≡ Some (units, behind) →
    name_stop text ≡ bad_name text units
unfolding name_stop
name_closed text first units behind is e = ap (name_by text) (ap quoted (sym is) ∙ e)

-- ---- bytes and values

abbrev kind_by : (is_number : Bool) → (text : List ℕ) → Option (List ℕ) → Stop
kind_by is_number text list =
    cond is_number (unwrap_or (option_map list_stop list) (behind_kind text, length (after_first is_close text)))
    (wanted.Kind, length text - few_digits text)

kind_parts : (text : List ℕ) → kind_stop text ≡
    kind_by (is_some (number_of 8 (before_first is_close text))) text (behind_word (codes ":") (after_first is_close text))
unfolding kind_stop
kind_parts text = refl

pub kind_bad : (text digits : List ℕ) → digits ≡ before_first is_close text → number_of 8 digits ≡ None →
    kind_stop text ≡ (wanted.Kind, length text - few_digits text)
kind_bad text digits is e =
    kind_parts text ∙ ap (λ (o : Option ℕ). kind_by (is_some o) text (behind_word (codes ":") (after_first is_close text)))
    (ap (number_of 8) (sym is) ∙ e)

kind_good : (text digits behind : List ℕ) (kind : ℕ) → digits ≡ before_first is_close text → behind ≡ after_first is_close text →
    number_of 8 digits ≡ Some kind → kind_stop text ≡ kind_by true text (behind_word (codes ":") behind)
kind_good text digits behind kind is left e =
    kind_parts text ∙ (ap (λ (o : Option ℕ). kind_by (is_some o) text (behind_word (codes ":") (after_first is_close text)))
    (ap (number_of 8) (sym is) ∙ e) ∙ ap (λ (w : List ℕ). kind_by true text (behind_word (codes ":") w)) (sym left))

pub kind_list : (text digits behind list : List ℕ) (kind : ℕ) → digits ≡ before_first is_close text → behind ≡ after_first is_close text →
    number_of 8 digits ≡ Some kind → behind_word (codes ":") behind ≡ Some list → kind_stop text ≡ list_stop list
kind_list text digits behind list kind is left e f =
    kind_good text digits behind kind is left e ∙ ap (λ (o : Option (List ℕ)). kind_by true text o) f

pub kind_colon : (text digits behind : List ℕ) (kind : ℕ) → digits ≡ before_first is_close text → behind ≡ after_first is_close text →
    number_of 8 digits ≡ Some kind → behind_word (codes ":") behind ≡ None → kind_stop text ≡ (behind_kind text, length behind)
kind_colon text digits behind kind is left e f =
    kind_good text digits behind kind is left e ∙ (ap (λ (o : Option (List ℕ)). kind_by true text o) f
    ∙ ap (λ (w : List ℕ). (behind_kind text, length w)) (sym left))

pub bytes_list : (rest list : List ℕ) → behind_word (codes ":") rest ≡ Some list → bytes_stop rest ≡ list_stop list
unfolding bytes_stop
bytes_list rest list e = rw e refl

pub bytes_kind : (rest text : List ℕ) → behind_word (codes ":") rest ≡ None → behind_word (codes "(") rest ≡ Some text → bytes_stop rest ≡ kind_stop text
unfolding bytes_stop
bytes_kind rest text e f = rw (e, f) refl

pub bytes_not : (rest : List ℕ) → behind_word (codes ":") rest ≡ None → behind_word (codes "(") rest ≡ None → bytes_stop rest ≡ (wanted.Bytes, length rest)
unfolding bytes_stop
bytes_not rest e f = rw (e, f) refl

pub data_gone : (text rest : List ℕ) → behind_word (codes "-") text ≡ Some rest → data_stop text ≡ behind_stop rest
unfolding data_stop
data_gone text rest e = rw e refl

pub data_text : (text rest : List ℕ) → behind_word (codes "-") text ≡ None → behind_word (codes "\"") text ≡ Some rest →
    data_stop text ≡ text_stop rest
unfolding data_stop
data_text text rest e f = rw (e, f) refl

pub data_dword : (text digits : List ℕ) → behind_word (codes "-") text ≡ None → behind_word (codes "\"") text ≡ None →
    behind_word (codes "dword:") text ≡ Some digits → data_stop text ≡ number_stop digits
unfolding data_stop
data_dword text digits e f g = rw (e, f, g) refl

pub data_hex : (text rest : List ℕ) → behind_word (codes "-") text ≡ None → behind_word (codes "\"") text ≡ None →
    behind_word (codes "dword:") text ≡ None → behind_word (codes "hex") text ≡ Some rest → data_stop text ≡ bytes_stop rest
unfolding data_stop
data_hex text rest e f g h = rw (e, f, g, h) refl

pub data_not : (text : List ℕ) → behind_word (codes "-") text ≡ None → behind_word (codes "\"") text ≡ None →
    behind_word (codes "dword:") text ≡ None → behind_word (codes "hex") text ≡ None → data_stop text ≡ (wanted.Value, length text)
unfolding data_stop
data_not text e f g h = rw (e, f, g, h) refl

pub behind_equals : (rest text : List ℕ) → behind_word (codes "=") rest ≡ Some text → behind_name_stop rest ≡ data_stop (behind_blanks text)
unfolding behind_name_stop
behind_equals rest text e = rw e refl

pub no_equals : (rest : List ℕ) → behind_word (codes "=") rest ≡ None → behind_name_stop rest ≡ (wanted.Equals, length rest)
unfolding behind_name_stop
no_equals rest e = rw e refl

pub value_named : (line name rest : List ℕ) → name_read line ≡ Some (name, rest) → value_stop line ≡ behind_name_stop (behind_blanks rest)
unfolding value_stop
value_named line name rest e = rw e refl

pub value_unnamed : (line : List ℕ) → name_read line ≡ None → value_stop line ≡ unnamed_stop line
unfolding value_stop
value_unnamed line e = rw e refl

-- ---- keys

pub below_long : (root units long : List ℕ) → lengthened units ≡ Some long → below_stop root units ≡ long_stop (length units) root long
unfolding below_stop
below_long root units long e = ap (λ (o : Option (List ℕ)). long_stop (length units) root (unwrap_or o units)) e

pub below_same : (root units : List ℕ) → lengthened units ≡ None → below_stop root units ≡ long_stop (length units) root units
unfolding below_stop
below_same root units e = ap (λ (o : Option (List ℕ)). long_stop (length units) root (unwrap_or o units)) e

pub key_open : (root line : List ℕ) → before_mark 93 line ≡ None → key_stop root line ≡ open_stop (behind_bracket line) line
unfolding key_stop
key_open root line e =
    ap (λ (o : Option (List ℕ)). unwrap_or (option_map (λ units. before_bracket (length line) (between_stop root units)) o)
    (open_stop (behind_bracket line) line)) e

key_closed : (root line units : List ℕ) (stop : Stop) → before_mark 93 line ≡ Some units → stop ≡ between_stop root units →
    key_stop root line ≡ before_bracket (length line) stop
unfolding key_stop
key_closed root line units stop e is =
    ap (λ (o : Option (List ℕ)). unwrap_or (option_map (λ units. before_bracket (length line) (between_stop root units)) o)
    (open_stop (behind_bracket line) line)) e ∙ ap (before_bracket (length line)) (sym is)

pub key_within : (root line units : List ℕ) (stop : Stop) → before_mark 93 line ≡ Some units → stop ≡ between_stop root units →
    stop.1 < length line → key_stop root line ≡ (stop.0, stop.1 + 1)
key_within root line units stop e is within =
    let test : nat_lt stop.1 (length line) ≡ true = grind (arith, nat_tests, within) in
    let more : suc stop.1 ≡ stop.1 + 1 = omega arith in
    key_closed root line units stop e is ∙ (ap (λ (b : Bool). cond b (stop.0, suc stop.1) (stop.0, length line)) test
    ∙ ap (λ (n : ℕ). (stop.0, n)) more)

pub key_past : (root line units : List ℕ) (stop : Stop) → before_mark 93 line ≡ Some units → stop ≡ between_stop root units →
    length line ≤ stop.1 → key_stop root line ≡ (stop.0, length line)
key_past root line units stop e is past =
    let test : nat_lt stop.1 (length line) ≡ false = grind (arith, nat_tests, past) in
    key_closed root line units stop e is ∙ ap (λ (b : Bool). cond b (stop.0, suc stop.1) (stop.0, length line)) test

-- ---- lines

pub line_none : (root line : List ℕ) → length line ≡ 0 → line_stop root line ≡ (wanted.Line, 0)
unfolding line_stop
line_none root [] e = refl
line_none root (u ∷ us) e = absurd (omega (arith, e))

abbrev line_by : (bracket quote at : Bool) → (key value other : Stop) → Stop
line_by bracket quote at key value other = cond bracket key (cond (quote || at) value other)

line_starts : (root line us : List ℕ) (u : ℕ) → line ≡ u ∷ us →
    line_stop root line ≡ line_by (u == 91) (u == 34) (u == 64) (key_stop root us) (value_stop line) (wanted.Line, length line)
unfolding line_stop
line_starts root line us u e =
    ap (line_stop root) e
    ∙ ap (λ (w : List ℕ). line_by (u == 91) (u == 34) (u == 64) (key_stop root us) (value_stop w) (wanted.Line, length w)) (sym e)

pub line_key : (root line us : List ℕ) (u : ℕ) → line ≡ u ∷ us → u ≡ 91 → line_stop root line ≡ key_stop root us
line_key root line us u e is =
    let test : (u == 91) ≡ true = grind (arith, nat_tests, is) in
    line_starts root line us u e
    ∙ ap (λ (b : Bool). line_by b (u == 34) (u == 64) (key_stop root us) (value_stop line) (wanted.Line, length line)) test

by_value : (key value other : Stop) (b q a : Bool) → b ≡ false → (q || a) ≡ true → line_by b q a key value other ≡ value
by_value key value other true q a e f = absurd cc
by_value key value other false q a e f = ap (λ (x : Bool). cond x value other) f

by_other : (key value other : Stop) (b q a : Bool) → b ≡ false → (q || a) ≡ false → line_by b q a key value other ≡ other
by_other key value other true q a e f = absurd cc
by_other key value other false q a e f = ap (λ (x : Bool). cond x value other) f

pub line_value : (root line us : List ℕ) (u : ℕ) → line ≡ u ∷ us → (u ≡ 34) ⊎ (u ≡ 64) → line_stop root line ≡ value_stop line
line_value root line us u e is = line_starts root line us u e ∙ elim is [
  | inl quote ↦ by (u == 91) (u == 34) (u == 64) (grind (arith, nat_tests, quote))
      (grind (arith, nat_tests, quote))
  | inr at ↦ by (u == 91) (u == 34) (u == 64) (grind (arith, nat_tests, at)) (grind (arith, nat_tests, at))
]
  where
    by : (b q a : Bool) → b ≡ false → (q || a) ≡ true → line_by b q a (key_stop root us) (value_stop line) (wanted.Line, length line) ≡ value_stop line
    by b q a = by_value (key_stop root us) (value_stop line) (wanted.Line, length line) b q a

pub line_other : (root line us : List ℕ) (u : ℕ) → line ≡ u ∷ us → u ≢ 91 → u ≢ 34 → u ≢ 64 → line_stop root line ≡ (wanted.Line, length line)
line_other root line us u e b q a =
    line_starts root line us u e
    ∙ by_other (key_stop root us) (value_stop line) (wanted.Line, length line) (u == 91) (u == 34) (u == 64) (grind (arith, nat_tests, b))
    (grind (arith, nat_tests, q, a))

pub ruleset line_stops = (line_none, line_key, line_value, line_other)

pub ruleset quotes_lack = (lack_next, lack_here, lack_end)

pub ruleset several_stops = (several_closed, several_none)

pub ruleset opens = (open_closed, open_none)

pub ruleset text_stops = (text_open, text_several)

pub ruleset name_stops = (name_none, name_closed)

pub ruleset kind_stops = (kind_bad, kind_list, kind_colon)

pub ruleset bytes_stops = (bytes_list, bytes_kind, bytes_not)

pub ruleset data_stops = (data_gone, data_text, data_dword, data_hex, data_not)

pub ruleset equals_stops = (behind_equals, no_equals)

pub ruleset value_stops = (value_named, value_unnamed)

pub ruleset below_stops = (below_long, below_same)

pub ruleset key_stops = (key_open, key_within, key_past)
