-- What the words of a line say together: paths, names, data, and lines.
use Rattle.std.proofs.Common.{◌≡◌, ◌≢◌, ℕ, ◌+◌, ◌-◌, ◌<◌, ◌==◌, ◌&&◌, Bool, true, false, cond, List, [], ◌∷◌, ◌++◌, length, take, drop}
use Rattle.std.proofs.Common.{Option, Some, None, refl, sym, ap, ◌∙◌, arith}
use Rattle.std.specs.Prelude.{option_map, option_and_then, codes, nat_lt}
use Rattle.std.specs.Option.{option_or, unwrap_or}
use Rattle.std.specs.List.{list_all, position, position_or_len, before_first, after_first}
use Rattle.std.specs.Int.{to_le_bytes, w32}
use Rattle.std.proofs.lemmas.Bool.Decides.{nat_tests}
use Rattle.std.proofs.lemmas.List.{drop_all}
use Rattle.reg_names.specs.Names.{is_value_name_byte, is_path}
use Rattle.reg_text.proofs.AppendedBytes.{rest_is}
use Rattle.reg_dotreg_reader.specs.declared.entry.Entry.TheVariants.{Key, GoneKey}
use Rattle.reg_dotreg_reader.specs.EntryWords.{before_mark, behind_word, number_of, quoted, unit_bytes}
use Rattle.reg_dotreg_reader.specs.EntryMeanings.{way_behind, path_behind, behind_name, lengthened, way_below, path_below, gone_below, bracketed, key_said}
use Rattle.reg_dotreg_reader.specs.EntryMeanings.{is_line_name, name_read, text_data, number_data, typed_bytes, is_close, kind_data, bytes_data, data_of}
use Rattle.reg_dotreg_reader.proofs.DigitLists.{index_is, no_index}

-- ---- paths

pub path_none : (units : List ℕ) → length units ≡ 0 → way_behind units ≡ Some []
path_none [] e = refl
path_none (u ∷ us) e = absurd (omega (arith, e))

abbrev by_way : (first some good path : Bool) (units : List ℕ) → Option (List ℕ)
by_way first some good path units = cond (first && (some && (good && path))) (Some units) None

way_not : (first some good path : Bool) (units : List ℕ) → first ≡ false → by_way first some good path units ≡ None
way_not true some good path units e = absurd cc
way_not false some good path units e = refl

way_empty : (first some good path : Bool) (units : List ℕ) → some ≡ false → by_way first some good path units ≡ None
way_empty true true good path units e = absurd cc
way_empty true false good path units e = refl
way_empty false some good path units e = refl

way_narrow : (first some good path : Bool) (units : List ℕ) → cond good (Some units) None ≡ None → by_way first some good path units ≡ None
way_narrow true true true path units e = absurd cc
way_narrow true true false path units e = refl
way_narrow true false good path units e = refl
way_narrow false some good path units e = refl

way_bad : (first some good path : Bool) (units : List ℕ) → path ≡ false → by_way first some good path units ≡ None
way_bad true true true true units e = absurd cc
way_bad true true true false units e = refl
way_bad true true false path units e = refl
way_bad true false good path units e = refl
way_bad false some good path units e = refl

way_good : (first some good path : Bool) (units bytes : List ℕ) → first ≡ true → some ≡ true → cond good (Some units) None ≡ Some bytes →
    path ≡ true → by_way first some good path units ≡ Some bytes
way_good false some good path units bytes a b c d = absurd cc
way_good true false good path units bytes a b c d = absurd cc
way_good true true false path units bytes a b c d = absurd cc
way_good true true true false units bytes a b c d = absurd cc
way_good true true true true units bytes a b c d = c

narrow_same : (good : Bool) (units bytes : List ℕ) → cond good (Some units) None ≡ Some bytes → bytes ≡ units
narrow_same true units bytes e = cc
narrow_same false units bytes e = absurd cc

pub path_other : (units path : List ℕ) (u : ℕ) → units ≡ u ∷ path → u ≢ 92 → way_behind units ≡ None
path_other units path u e other =
    ap way_behind e ∙ way_not (u == 92) (nat_lt 0 (length path)) (list_all is_value_name_byte path) (is_path path) path
    (grind (arith, nat_tests, other))

pub path_empty : (units path : List ℕ) (u : ℕ) → units ≡ u ∷ path → length path ≡ 0 → way_behind units ≡ None
path_empty units path u e nothing =
    ap way_behind e ∙ way_empty (u == 92) (nat_lt 0 (length path)) (list_all is_value_name_byte path) (is_path path) path
    (grind (arith, nat_tests, nothing))

pub path_narrow : (units path : List ℕ) (u : ℕ) → units ≡ u ∷ path → cond (list_all is_value_name_byte path) (Some path) None ≡ None →
    way_behind units ≡ None
path_narrow units path u e narrow =
    ap way_behind e ∙ way_narrow (u == 92) (nat_lt 0 (length path)) (list_all is_value_name_byte path) (is_path path) path narrow

pub path_bad : (units path bytes : List ℕ) (u : ℕ) → units ≡ u ∷ path →
    cond (list_all is_value_name_byte path) (Some path) None ≡ Some bytes → is_path bytes ≡ false → way_behind units ≡ None
path_bad units path bytes u e narrow bad =
    let same = narrow_same (list_all is_value_name_byte path) path bytes narrow in
    ap way_behind e ∙ way_bad (u == 92) (nat_lt 0 (length path)) (list_all is_value_name_byte path) (is_path path) path
    (ap is_path (sym same) ∙ bad)

pub path_good : (units path bytes : List ℕ) (u : ℕ) → units ≡ u ∷ path → u ≡ 92 → 0 < length path →
    cond (list_all is_value_name_byte path) (Some path) None ≡ Some bytes → is_path bytes ≡ true → way_behind units ≡ Some bytes
path_good units path bytes u e is some narrow good =
    let same = narrow_same (list_all is_value_name_byte path) path bytes narrow in
    ap way_behind e ∙ way_good (u == 92) (nat_lt 0 (length path)) (list_all is_value_name_byte path) (is_path path) path bytes
    (grind (arith, nat_tests, is)) (grind (arith, nat_tests, some)) narrow (ap is_path (sym same) ∙ good)

pub below_is : (root units rest : List ℕ) → behind_name root units ≡ Some rest → way_below root units ≡ path_behind rest
unfolding way_below
below_is root units rest e = ap (option_and_then path_behind) e

pub below_not : (root units : List ℕ) → behind_name root units ≡ None → way_below root units ≡ None
unfolding way_below
below_not root units e = ap (option_and_then path_behind) e

pub below_long : (root units long : List ℕ) → lengthened units ≡ Some long → path_below root units ≡ way_below root long
below_long root units long e = ap (λ (o : Option (List ℕ)). way_below root (unwrap_or o units)) e

pub below_same : (root units : List ℕ) → lengthened units ≡ None → path_below root units ≡ way_below root units
below_same root units e = ap (λ (o : Option (List ℕ)). way_below root (unwrap_or o units)) e

pub gone_is : (root units rest : List ℕ) → behind_word (codes "-") units ≡ Some rest → gone_below root units ≡ path_below root rest
gone_is root units rest e = ap (option_and_then (path_below root)) e

pub gone_not : (root units : List ℕ) → behind_word (codes "-") units ≡ None → gone_below root units ≡ None
gone_not root units e = ap (option_and_then (path_below root)) e

pub key_made : (root units path : List ℕ) → path_below root units ≡ Some path → bracketed root units ≡ Some (Key path)
unfolding bracketed
key_made root units path e = ap (λ (o : Option (List ℕ)). option_or (option_map Key o) (option_map GoneKey (gone_below root units))) e

pub key_gone : (root units path : List ℕ) → path_below root units ≡ None → gone_below root units ≡ Some path →
    bracketed root units ≡ Some (GoneKey path)
unfolding bracketed
key_gone root units path e f =
    ap (λ (o : Option (List ℕ)). option_or (option_map Key o) (option_map GoneKey (gone_below root units))) e
    ∙ ap (λ (o : Option (List ℕ)). option_map GoneKey o) f

pub key_not : (root units : List ℕ) → path_below root units ≡ None → gone_below root units ≡ None → bracketed root units ≡ None
unfolding bracketed
key_not root units e f =
    ap (λ (o : Option (List ℕ)). option_or (option_map Key o) (option_map GoneKey (gone_below root units))) e
    ∙ ap (λ (o : Option (List ℕ)). option_map GoneKey o) f

pub line_key : (root line units : List ℕ) → before_mark 93 line ≡ Some units → key_said root line ≡ bracketed root units
line_key root line units e = ap (option_and_then (bracketed root)) e

pub line_open : (root line : List ℕ) → before_mark 93 line ≡ None → key_said root line ≡ None
line_open root line e = ap (option_and_then (bracketed root)) e

-- ---- names of values

pub name_default : (line rest : List ℕ) → behind_word (codes "@") line ≡ Some rest → name_read line ≡ Some ([], rest)
unfolding name_read
name_default line rest e = rw e refl

pub name_none : (line : List ℕ) → behind_word (codes "@") line ≡ None → behind_word (codes "\"") line ≡ None → name_read line ≡ None
unfolding name_read
name_none line e f = rw (e, f) refl

pub name_open : (line rest : List ℕ) → behind_word (codes "@") line ≡ None → behind_word (codes "\"") line ≡ Some rest →
    quoted rest ≡ None → name_read line ≡ None
unfolding name_read
name_open line rest e f g = rw (e, f, g) refl

abbrev paired : List ℕ → List ℕ → Option (List ℕ × List ℕ)
paired first second = Some (first, second)

abbrev one_and : List ℕ → Option (ℕ × List ℕ)
one_and bytes = Some (1, bytes)

if_named : (b : Bool) (units name behind : List ℕ) → cond b (Some units) None ≡ Some name →
    cond b (paired units behind) None ≡ Some (name, behind)
if_named true units name behind e = let same : units ≡ name = cc in ap (λ (w : List ℕ). Some (w, behind)) same
if_named false units name behind e = absurd cc

if_unnamed : (b : Bool) (units behind : List ℕ) → cond b (Some units) None ≡ None →
    cond b (paired units behind) None ≡ None
if_unnamed true units behind e = absurd cc
if_unnamed false units behind e = refl

pub name_is : (line rest units behind name : List ℕ) → behind_word (codes "@") line ≡ None → behind_word (codes "\"") line ≡ Some rest →
    quoted rest ≡ Some (units, behind) → cond (is_line_name units) (Some units) None ≡ Some name → name_read line ≡ Some (name, behind)
unfolding name_read
name_is line rest units behind name e f g h = rw (e, f, g) (if_named (is_line_name units) units name behind h)

pub name_bad : (line rest units behind : List ℕ) → behind_word (codes "@") line ≡ None → behind_word (codes "\"") line ≡ Some rest →
    quoted rest ≡ Some (units, behind) → cond (is_line_name units) (Some units) None ≡ None → name_read line ≡ None
unfolding name_read
name_bad line rest units behind e f g h = rw (e, f, g) (if_unnamed (is_line_name units) units behind h)

-- ---- data

pub text_open : (rest : List ℕ) → quoted rest ≡ None → text_data rest ≡ None
unfolding text_data
text_open rest e = rw e refl

pub text_is : (rest units behind bytes : List ℕ) → quoted rest ≡ Some (units, behind) → length behind ≡ 0 →
    bytes ≡ unit_bytes (units ++ 0 ∷ []) → text_data rest ≡ Some (1, bytes)
unfolding text_data
text_is rest units behind bytes e nothing is = rw (e, nothing) (ap (λ (w : List ℕ). Some (1, w)) (sym is))

pub text_behind : (rest units behind : List ℕ) → quoted rest ≡ Some (units, behind) → 0 < length behind → text_data rest ≡ None
unfolding text_data
text_behind rest units behind e some =
    let not_zero : (length behind == 0) ≡ false = grind (arith, nat_tests, some) in
    rw e (ap (λ (b : Bool). cond b (one_and (unit_bytes (units ++ 0 ∷ []))) None) not_zero)

pub dword_is : (digits bytes : List ℕ) (n : ℕ) → number_of 8 digits ≡ Some n → bytes ≡ to_le_bytes w32 n →
    number_data digits ≡ Some (4, bytes)
unfolding number_data
dword_is digits bytes n e is =
    ap (λ (o : Option ℕ). option_map {U = ℕ × List ℕ} (λ number. (4, to_le_bytes w32 number)) o) e ∙ ap (λ (w : List ℕ). Some (4, w)) (sym is)

pub dword_not : (digits : List ℕ) → number_of 8 digits ≡ None → number_data digits ≡ None
unfolding number_data
dword_not digits e = ap (λ (o : Option ℕ). option_map {U = ℕ × List ℕ} (λ number. (4, to_le_bytes w32 number)) o) e

before_is : (text : List ℕ) (close : ℕ) → position is_close text ≡ Some close →
    (before_first is_close text ≡ take close text) × (after_first is_close text ≡ take (length text - (close + 1)) (drop (close + 1) text))
before_is text close e =
    let found = index_is (position_or_len is_close text) (length text) close e in (
      ap (λ (n : ℕ). take n text) (sym found.0),
      ap (λ (n : ℕ). drop (n + 1) text) (sym found.0) ∙ sym (rest_is (close + 1) text),
    )

pub kind_is : (narrow : Bool) (text list : List ℕ) (close kind : ℕ) → position is_close text ≡ Some close → number_of 8 (take close text) ≡ Some kind →
    behind_word (codes ":") (take (length text - (close + 1)) (drop (close + 1) text)) ≡ Some list → kind_data narrow text ≡ typed_bytes narrow kind list
unfolding kind_data
kind_is narrow text list close kind at digits colon =
    let parts = before_is text close at in
    rw (parts.0, parts.1, digits, colon) refl

pub kind_bad : (narrow : Bool) (text : List ℕ) (close : ℕ) → position is_close text ≡ Some close → number_of 8 (take close text) ≡ None →
    kind_data narrow text ≡ None
unfolding kind_data
kind_bad narrow text close at digits = let parts = before_is text close at in rw (parts.0, digits) refl

pub kind_no_colon : (narrow : Bool) (text : List ℕ) (close kind : ℕ) → position is_close text ≡ Some close → number_of 8 (take close text) ≡ Some kind →
    behind_word (codes ":") (take (length text - (close + 1)) (drop (close + 1) text)) ≡ None → kind_data narrow text ≡ None
unfolding kind_data
kind_no_colon narrow text close kind at digits colon =
    let parts = before_is text close at in
    rw (parts.0, parts.1, digits, colon) refl

never : (o : Option ℕ) → option_and_then {U = ℕ × List ℕ} (λ kind. None) o ≡ None
never None = refl
never (Some n) = refl

pub kind_open : (narrow : Bool) (text : List ℕ) → position is_close text ≡ None → kind_data narrow text ≡ None
unfolding kind_data behind_word
kind_open narrow text e =
    let past = no_index (position_or_len is_close text) (length text) e in
    let nothing : after_first is_close text ≡ [] = drop_all (position_or_len is_close text + 1) text (omega (arith, past)) in
    rw nothing (never (number_of 8 (before_first is_close text)))

pub bytes_colon : (narrow : Bool) (rest list : List ℕ) → behind_word (codes ":") rest ≡ Some list → bytes_data narrow rest ≡ typed_bytes narrow 3 list
unfolding bytes_data
bytes_colon narrow rest list e = rw e refl

pub bytes_kind : (narrow : Bool) (rest text : List ℕ) → behind_word (codes ":") rest ≡ None → behind_word (codes "(") rest ≡ Some text →
    bytes_data narrow rest ≡ kind_data narrow text
unfolding bytes_data
bytes_kind narrow rest text e f = rw (e, f) refl

pub bytes_not : (narrow : Bool) (rest : List ℕ) → behind_word (codes ":") rest ≡ None → behind_word (codes "(") rest ≡ None → bytes_data narrow rest ≡ None
unfolding bytes_data
bytes_not narrow rest e f = rw (e, f) refl

pub data_text : (narrow : Bool) (text rest : List ℕ) → behind_word (codes "\"") text ≡ Some rest → data_of narrow text ≡ text_data rest
unfolding data_of
data_text narrow text rest e = rw e refl

pub data_dword : (narrow : Bool) (text digits : List ℕ) → behind_word (codes "\"") text ≡ None → behind_word (codes "dword:") text ≡ Some digits →
    data_of narrow text ≡ number_data digits
unfolding data_of
data_dword narrow text digits e f = rw (e, f) refl

pub data_hex : (narrow : Bool) (text rest : List ℕ) → behind_word (codes "\"") text ≡ None → behind_word (codes "dword:") text ≡ None →
    behind_word (codes "hex") text ≡ Some rest → data_of narrow text ≡ bytes_data narrow rest
unfolding data_of
data_hex narrow text rest e f g = rw (e, f, g) refl

pub data_not : (narrow : Bool) (text : List ℕ) → behind_word (codes "\"") text ≡ None → behind_word (codes "dword:") text ≡ None →
    behind_word (codes "hex") text ≡ None → data_of narrow text ≡ None
unfolding data_of
data_not narrow text e f g = rw (e, f, g) refl

pub ruleset paths = (path_none, path_other, path_empty, path_narrow, path_bad, path_good)

pub ruleset keys = (key_made, key_gone, key_not)

pub ruleset names = (name_default, name_none, name_open, name_is, name_bad)

pub ruleset kinds = (kind_is, kind_bad, kind_no_colon, kind_open)

pub ruleset all_data = (data_text, data_dword, data_hex, data_not)
