-- What lines say, and the entries of a text, one line after another.
use Rattle.std.proofs.Common.{◌≡◌, ◌≢◌, ◌⊎◌, inl, inr, ℕ, ◌+◌, ◌==◌, ◌||◌, Bool, true, false, cond, List, [], ◌∷◌, ◌++◌, length, drop}
use Rattle.std.proofs.Common.{Option, Some, None, Ok, Err, refl, sym, ap, ◌∙◌, arith, append_assoc, append-nil}
use Rattle.std.specs.Prelude.{option_map, codes}
use Rattle.std.specs.Str.{bytes_eq}
use Rattle.std.proofs.lemmas.Bool.Decides.{nat_tests}
use Rattle.reg_dotreg_reader.specs.declared.entry.Entry.{Entry}
use Rattle.reg_dotreg_reader.specs.declared.entry.Entry.TheVariants.{Value, GoneValue}
use Rattle.reg_dotreg_reader.specs.declared.entry.Numbered.{Numbered}
use Rattle.reg_dotreg_reader.specs.EntryWords.{behind_blanks, behind_word}
use Rattle.reg_dotreg_reader.specs.EntryLines.{lines_of, whole_of, Line, whole_lines}
use Rattle.reg_dotreg_reader.specs.EntryMeanings.{name_read, data_of, valued, value_said, key_said, said_by, said, is_key, takes_values}
use Rattle.reg_dotreg_reader.specs.EntryMeanings.{Reading, with_entries, one_read, entries_from, untitled, titled, long_form, entries_behind, entries_in, IsRefused}
use Rattle.reg_dotreg_reader.specs.declared.fault.ReadFault.{ReadFault}
use Rattle.reg_dotreg_reader.specs.declared.fault.ReadFault.TheVariants.{Line as LineFault, Encoding, Memory}
use Rattle.reg_dotreg_reader.proofs.TextLines.{skipped}

-- ---- lines of values

pub value_goes : (narrow : Bool) (name text : List ℕ) → bytes_eq text (codes "-") ≡ true → valued narrow name text ≡ Some (GoneValue name)
unfolding valued
value_goes narrow name text e =
    ap (λ (b : Bool). cond b (Some (GoneValue name)) (option_map (λ (d : ℕ × List ℕ). Value name d.0 d.1) (data_of narrow text))) e

pub value_is : (narrow : Bool) (name text bytes : List ℕ) (kind : ℕ) → bytes_eq text (codes "-") ≡ false → data_of narrow text ≡ Some (kind, bytes) →
    valued narrow name text ≡ Some (Value name kind bytes)
unfolding valued
value_is narrow name text bytes kind e f =
    ap (λ (b : Bool). cond b (Some (GoneValue name)) (option_map (λ (d : ℕ × List ℕ). Value name d.0 d.1) (data_of narrow text))) e
    ∙ ap (λ (o : Option (ℕ × List ℕ)). option_map (λ (d : ℕ × List ℕ). Value name d.0 d.1) o) f

pub value_not : (narrow : Bool) (name text : List ℕ) → bytes_eq text (codes "-") ≡ false → data_of narrow text ≡ None → valued narrow name text ≡ None
unfolding valued
value_not narrow name text e f =
    ap (λ (b : Bool). cond b (Some (GoneValue name)) (option_map (λ (d : ℕ × List ℕ). Value name d.0 d.1) (data_of narrow text))) e
    ∙ ap (λ (o : Option (ℕ × List ℕ)). option_map (λ (d : ℕ × List ℕ). Value name d.0 d.1) o) f

pub line_named : (narrow : Bool) (line name rest text : List ℕ) → name_read line ≡ Some (name, rest) →
    behind_word (codes "=") (behind_blanks rest) ≡ Some text → value_said narrow line ≡ valued narrow name (behind_blanks text)
unfolding value_said
line_named narrow line name rest text e f = rw (e, f) refl

pub line_no_equals : (narrow : Bool) (line name rest : List ℕ) → name_read line ≡ Some (name, rest) → behind_word (codes "=") (behind_blanks rest) ≡ None →
    value_said narrow line ≡ None
unfolding value_said
line_no_equals narrow line name rest e f = rw (e, f) refl

pub line_no_name : (narrow : Bool) (line : List ℕ) → name_read line ≡ None → value_said narrow line ≡ None
unfolding value_said
line_no_name narrow line e = rw e refl

-- ---- lines

pub says_nothing : (root : List ℕ) (narrow : Bool) (line : List ℕ) → length line ≡ 0 → said_by root narrow line ≡ Some None
says_nothing root narrow [] nothing = refl
says_nothing root narrow (u ∷ us) nothing = absurd (omega (arith, nothing))

abbrev by_first : (comment bracket quote at : Bool) → (key value : Option Entry) → Option (Option Entry)
by_first comment bracket quote at key value =
    cond comment (Some None) (cond bracket (option_map Some key) (cond (quote || at) (option_map Some value) None))

starts : (root : List ℕ) (narrow : Bool) (line us : List ℕ) (u : ℕ) → line ≡ u ∷ us →
    said_by root narrow line ≡ by_first (u == 59) (u == 91) (u == 34) (u == 64) (key_said root us) (value_said narrow line)
starts root narrow line us u e =
    ap (said_by root narrow) e
    ∙ ap (λ (w : List ℕ). by_first (u == 59) (u == 91) (u == 34) (u == 64) (key_said root us) (value_said narrow w)) (sym e)

first_comment : (b q a : Bool) (key value : Option Entry) (c : Bool) → c ≡ true → by_first c b q a key value ≡ Some None
first_comment b q a key value true e = refl
first_comment b q a key value false e = absurd cc

first_bracket : (q a : Bool) (key value : Option Entry) (c b : Bool) → c ≡ false → b ≡ true → by_first c b q a key value ≡ option_map Some key
first_bracket q a key value true b e f = absurd cc
first_bracket q a key value false false e f = absurd cc
first_bracket q a key value false true e f = refl

first_quote : (key value : Option Entry) (c b q a : Bool) → c ≡ false → b ≡ false → q ≡ true →
    by_first c b q a key value ≡ option_map Some value
first_quote key value true b q a e f g = absurd cc
first_quote key value false true q a e f g = absurd cc
first_quote key value false false true a e f g = refl
first_quote key value false false false a e f g = absurd cc

first_at : (key value : Option Entry) (c b q a : Bool) → c ≡ false → b ≡ false → a ≡ true →
    by_first c b q a key value ≡ option_map Some value
first_at key value true b q a e f g = absurd cc
first_at key value false true q a e f g = absurd cc
first_at key value false false true true e f g = refl
first_at key value false false false true e f g = refl
first_at key value false false true false e f g = absurd cc
first_at key value false false false false e f g = absurd cc

first_other : (key value : Option Entry) (c b q a : Bool) → c ≡ false → b ≡ false → q ≡ false → a ≡ false →
    by_first c b q a key value ≡ None
first_other key value true b q a e f g h = absurd cc
first_other key value false true q a e f g h = absurd cc
first_other key value false false true a e f g h = absurd cc
first_other key value false false false true e f g h = absurd cc
first_other key value false false false false e f g h = refl

pub says_comment : (root : List ℕ) (narrow : Bool) (line us : List ℕ) (u : ℕ) → line ≡ u ∷ us → u ≡ 59 → said_by root narrow line ≡ Some None
says_comment root narrow line us u e is =
    starts root narrow line us u e ∙ first_comment (u == 91) (u == 34) (u == 64) (key_said root us) (value_said narrow line) (u == 59)
    (grind (arith, nat_tests, is))

says_key : (root : List ℕ) (narrow : Bool) (line us : List ℕ) (u : ℕ) → line ≡ u ∷ us → u ≡ 91 → said_by root narrow line ≡ option_map Some (key_said root us)
says_key root narrow line us u e is =
    starts root narrow line us u e ∙ first_bracket (u == 34) (u == 64) (key_said root us) (value_said narrow line) (u == 59) (u == 91)
    (grind (arith, nat_tests, is)) (grind (arith, nat_tests, is))

pub says_key_is : (root : List ℕ) (narrow : Bool) (line us : List ℕ) (u : ℕ) (entry : Entry) → line ≡ u ∷ us → u ≡ 91 → key_said root us ≡ Some entry →
    said_by root narrow line ≡ Some (Some entry)
says_key_is root narrow line us u entry e is said_so = says_key root narrow line us u e is ∙ ap (λ (o : Option Entry). option_map Some o) said_so

pub says_key_not : (root : List ℕ) (narrow : Bool) (line us : List ℕ) (u : ℕ) → line ≡ u ∷ us → u ≡ 91 → key_said root us ≡ None → said_by root narrow line ≡ None
says_key_not root narrow line us u e is said_so = says_key root narrow line us u e is ∙ ap (λ (o : Option Entry). option_map Some o) said_so

says_quote : (root : List ℕ) (narrow : Bool) (line us : List ℕ) (u : ℕ) → line ≡ u ∷ us → u ≡ 34 → said_by root narrow line ≡ option_map Some (value_said narrow line)
says_quote root narrow line us u e is =
    starts root narrow line us u e ∙ first_quote (key_said root us) (value_said narrow line) (u == 59) (u == 91) (u == 34) (u == 64)
    (grind (arith, nat_tests, is)) (grind (arith, nat_tests, is)) (grind (arith, nat_tests, is))

says_at : (root : List ℕ) (narrow : Bool) (line us : List ℕ) (u : ℕ) → line ≡ u ∷ us → u ≡ 64 → said_by root narrow line ≡ option_map Some (value_said narrow line)
says_at root narrow line us u e is =
    starts root narrow line us u e ∙ first_at (key_said root us) (value_said narrow line) (u == 59) (u == 91) (u == 34) (u == 64)
    (grind (arith, nat_tests, is)) (grind (arith, nat_tests, is)) (grind (arith, nat_tests, is))

says_value : (root : List ℕ) (narrow : Bool) (line us : List ℕ) (u : ℕ) → line ≡ u ∷ us → (u ≡ 34) ⊎ (u ≡ 64) → said_by root narrow line ≡ option_map Some (value_said narrow line)
says_value root narrow line us u e is = elim is [ inl quote ↦ says_quote root narrow line us u e quote | inr at ↦ says_at root narrow line us u e at ]

pub says_value_is : (root : List ℕ) (narrow : Bool) (line us : List ℕ) (u : ℕ) (entry : Entry) → line ≡ u ∷ us → (u ≡ 34) ⊎ (u ≡ 64) → value_said narrow line ≡ Some entry →
    said_by root narrow line ≡ Some (Some entry)
says_value_is root narrow line us u entry e is said_so = says_value root narrow line us u e is ∙ ap (λ (o : Option Entry). option_map Some o) said_so

pub says_value_not : (root : List ℕ) (narrow : Bool) (line us : List ℕ) (u : ℕ) → line ≡ u ∷ us → (u ≡ 34) ⊎ (u ≡ 64) → value_said narrow line ≡ None →
    said_by root narrow line ≡ None
says_value_not root narrow line us u e is said_so = says_value root narrow line us u e is ∙ ap (λ (o : Option Entry). option_map Some o) said_so

pub says_other : (root : List ℕ) (narrow : Bool) (line us : List ℕ) (u : ℕ) → line ≡ u ∷ us → u ≢ 59 → u ≢ 91 → u ≢ 34 → u ≢ 64 → said_by root narrow line ≡ None
says_other root narrow line us u e c b q a =
    starts root narrow line us u e
    ∙ first_other (key_said root us) (value_said narrow line) (u == 59) (u == 91) (u == 34) (u == 64) (grind (arith, nat_tests, c))
    (grind (arith, nat_tests, b)) (grind (arith, nat_tests, q)) (grind (arith, nat_tests, a))

pub ruleset says = (says_nothing, says_comment, says_key_is, says_key_not, says_value_is, says_value_not, says_other)

-- ---- entries

-- entries before no others
pub entries_end : (entries : List Numbered) → with_entries entries (Ok []) ≡ Ok entries
entries_end entries = ap Ok (append-nil entries)

entries_more : (entries : List Numbered) (entry : Numbered) (others : Reading) →
    with_entries entries (with_entries (entry ∷ []) others) ≡ with_entries (entries ++ entry ∷ []) others
entries_more entries entry (Ok others) = ap Ok (sym (append_assoc entries (entry ∷ []) others))
entries_more entries entry (Err number) = refl

pub take_nothing : (entries : List Numbered) (line : ℕ) (is_open : Bool) (others : Bool → Reading) →
    with_entries entries (one_read line is_open (Some None) others) ≡ with_entries entries (others is_open)
take_nothing entries line is_open others = refl

pub take_entry : (entries new : List Numbered) (line : ℕ) (is_open open_then : Bool) (entry : Entry) (others : Bool → Reading) →
    (is_key entry || is_open) ≡ true → open_then ≡ takes_values is_open entry →
    new ≡ entries ++ record { line = line; entry = entry } ∷ [] →
    with_entries entries (one_read line is_open (Some (Some entry)) others) ≡ with_entries new (others open_then)
take_entry entries new line is_open open_then entry others may then_open pushed =
    ap (λ (b : Bool). with_entries entries (cond b (with_entries (record { line = line; entry = entry } ∷ []) (others (takes_values is_open entry)))
    (Err line))) may
    ∙ (entries_more entries (record { line = line; entry = entry }) (others (takes_values is_open entry))
    ∙ (ap (λ (w : List Numbered). with_entries w (others (takes_values is_open entry))) (sym pushed)
    ∙ ap (λ (b : Bool). with_entries new (others b)) (sym then_open)))

pub take_not : (line : ℕ) (is_open : Bool) (entry : Entry) (others : Bool → Reading) → (is_key entry || is_open) ≡ false →
    one_read line is_open (Some (Some entry)) others ≡ Err line
take_not line is_open entry others may =
    ap (λ (b : Bool). cond b (with_entries (record { line = line; entry = entry } ∷ []) (others (takes_values is_open entry))) (Err line)) may

-- the lines behind a line and those that are joined with it
abbrev pub read_behind : (root : List ℕ) (narrow : Bool) (number count : ℕ) (behind : List (List ℕ)) → Bool → Reading
read_behind root narrow number count behind is_open = entries_from root narrow is_open (whole_lines 0 (number + 1 + count) (drop count behind))

entries_step : (root : List ℕ) (narrow : Bool) (line : List ℕ) (is_open : Bool) (number : ℕ) (behind : List (List ℕ)) →
    entries_from root narrow is_open (whole_lines 0 number (line ∷ behind)) ≡
    one_read number is_open (said root narrow (whole_of line behind).0) (read_behind root narrow number (whole_of line behind).1 behind)
unfolding entries_from whole_lines
entries_step root narrow line is_open number behind =
    ap (λ (w : List Line). one_read number is_open (said root narrow (whole_of line behind).0) (λ open_then. entries_from root narrow open_then w))
    (skipped (whole_of line behind).1 (number + 1) behind)

-- what was read so far, and what the lines left say
abbrev pub IsReadSoFar : (whole : Reading) (root : List ℕ) (narrow : Bool) (entries : List Numbered) (is_open : Bool) (taken : ℕ) (rest : List (List ℕ)) → Type 0
IsReadSoFar whole root narrow entries is_open taken rest =
    whole ≡ with_entries entries (entries_from root narrow is_open (whole_lines 0 (taken + 1) rest))

at_line : (whole : Reading) (root : List ℕ) (narrow : Bool) (entries : List Numbered) (is_open : Bool) (taken number : ℕ) (line : List ℕ)
    (rest behind : List (List ℕ)) → IsReadSoFar whole root narrow entries is_open taken rest → rest ≡ line ∷ behind → number ≡ taken + 1 →
    whole ≡ with_entries entries (one_read number is_open (said root narrow (whole_of line behind).0) (read_behind root narrow number (whole_of line behind).1 behind))
at_line whole root narrow entries is_open taken number line rest behind so_far e n =
    so_far ∙ (ap (λ (w : List (List ℕ)). with_entries entries (entries_from root narrow is_open (whole_lines 0 (taken + 1) w))) e
    ∙ (ap (λ (k : ℕ). with_entries entries (entries_from root narrow is_open (whole_lines 0 k (line ∷ behind)))) (sym n)
    ∙ ap (with_entries entries) (entries_step root narrow line is_open number behind)))

pub read_next : (whole : Reading) (root : List ℕ) (narrow : Bool) (entries new : List Numbered) (is_open open_then : Bool) (taken number count more : ℕ)
    (line : List ℕ) (entry : Option Entry) (rest behind others : List (List ℕ)) →
    IsReadSoFar whole root narrow entries is_open taken rest → rest ≡ line ∷ behind → number ≡ taken + 1 →
    said root narrow (whole_of line behind).0 ≡ Some entry → count ≡ (whole_of line behind).1 → others ≡ drop count behind →
    ((after : Bool → Reading) → with_entries entries (one_read number is_open (Some entry) after) ≡ with_entries new (after open_then)) →
    more ≡ taken + (1 + count) → IsReadSoFar whole root narrow new open_then more others
read_next whole root narrow entries new is_open open_then taken number count more line entry rest behind others so_far e n says counted left taking sum =
    let place : number + 1 + count ≡ more + 1 = omega (arith, n, sum) in
    at_line whole root narrow entries is_open taken number line rest behind so_far e n
    ∙ (ap (λ (o : Option (Option Entry)). with_entries entries (one_read number is_open o (read_behind root narrow number (whole_of line behind).1 behind))) says
    ∙ (ap (λ (k : ℕ). with_entries entries (one_read number is_open (Some entry) (read_behind root narrow number k behind))) (sym counted)
    ∙ (taking (read_behind root narrow number count behind)
    ∙ (ap (λ (k : ℕ). with_entries new (entries_from root narrow open_then (whole_lines 0 k (drop count behind)))) place
    ∙ ap (λ (w : List (List ℕ)). with_entries new (entries_from root narrow open_then (whole_lines 0 (more + 1) w))) (sym left)))))

pub read_bad : (whole : Reading) (root : List ℕ) (narrow : Bool) (entries : List Numbered) (is_open : Bool) (taken number : ℕ) (line : List ℕ)
    (rest behind : List (List ℕ)) → IsReadSoFar whole root narrow entries is_open taken rest → rest ≡ line ∷ behind → number ≡ taken + 1 →
    said root narrow (whole_of line behind).0 ≡ None → whole ≡ Err number
read_bad whole root narrow entries is_open taken number line rest behind so_far e n says =
    at_line whole root narrow entries is_open taken number line rest behind so_far e n
    ∙ ap (λ (o : Option (Option Entry)). with_entries entries (one_read number is_open o (read_behind root narrow number (whole_of line behind).1 behind))) says

pub read_refused : (whole : Reading) (root : List ℕ) (narrow : Bool) (entries : List Numbered) (is_open : Bool) (taken number : ℕ) (line : List ℕ)
    (entry : Option Entry) (rest behind : List (List ℕ)) → IsReadSoFar whole root narrow entries is_open taken rest → rest ≡ line ∷ behind →
    number ≡ taken + 1 → said root narrow (whole_of line behind).0 ≡ Some entry → (fault : ReadFault) →
    ((after : Bool → Reading) → IsRefused (one_read number is_open (Some entry) after) fault) → IsRefused whole fault
read_refused whole root narrow entries is_open taken number line entry rest behind so_far e n says (LineFault at) refused =
    at_line whole root narrow entries is_open taken number line rest behind so_far e n
    ∙ (ap (λ (o : Option (Option Entry)). with_entries entries (one_read number is_open o (read_behind root narrow number (whole_of line behind).1 behind))) says
    ∙ ap (with_entries entries) (refused (read_behind root narrow number (whole_of line behind).1 behind)))
read_refused whole root narrow entries is_open taken number line entry rest behind so_far e n says Encoding refused = refused (λ _. Ok [])
read_refused whole root narrow entries is_open taken number line entry rest behind so_far e n says Memory refused = tt

pub read_end : (whole : Reading) (root : List ℕ) (narrow : Bool) (entries : List Numbered) (is_open : Bool) (taken : ℕ) (rest : List (List ℕ)) →
    IsReadSoFar whole root narrow entries is_open taken rest → rest ≡ [] → whole ≡ Ok entries
unfolding entries_from whole_lines
read_end whole root narrow entries is_open taken rest so_far e =
    so_far ∙ (ap (λ (w : List (List ℕ)). with_entries entries (entries_from root narrow is_open (whole_lines 0 (taken + 1) w))) e ∙ entries_end entries)

pub read_start : (root : List ℕ) (narrow : Bool) (empty : List Numbered) (lines : List (List ℕ)) → empty ≡ [] →
    IsReadSoFar (entries_behind root narrow lines) root narrow empty false 1 lines
read_start root narrow empty lines e =
    with_none (entries_behind root narrow lines) ∙ ap (λ (w : List Numbered). with_entries w (entries_behind root narrow lines)) (sym e)
  where
    with_none : (r : Reading) → r ≡ with_entries [] r
    with_none (Ok others) = refl
    with_none (Err number) = refl

pub read_titled : (root long text : List ℕ) (narrow : Bool) (lines : List (List ℕ)) → untitled (lines_of text) ≡ Some (narrow, lines) →
    long ≡ long_form root → entries_in root text ≡ entries_behind long narrow lines
unfolding entries_in
read_titled root long text narrow lines e is =
    ap (titled (long_form root)) e ∙ ap (λ (w : List ℕ). entries_behind w narrow lines) (sym is)

pub read_untitled : (root text : List ℕ) → untitled (lines_of text) ≡ None → entries_in root text ≡ Err 1
unfolding entries_in
read_untitled root text e = ap (titled (long_form root)) e

pub ruleset readings = (read_start, read_next, read_bad, read_refused, read_end)
