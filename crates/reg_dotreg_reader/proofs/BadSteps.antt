-- The lines of a text that aren't understood, one after another, and that there are none just where the text is understood.
use Rattle.std.proofs.Common.{◌≡◌, ℕ, zero, suc, ◌+◌, ◌≤◌, ◌||◌, Bool, true, false, cond, List, [], ◌∷◌, ◌++◌, length, take, drop}
use Rattle.std.proofs.Common.{Option, Some, None, Ok, Err, refl, sym, ap, subst, ◌∙◌, arith, append_assoc, append-nil}
use Rattle.std.specs.Prelude.{option_map}
use Rattle.reg_dotreg_reader.specs.declared.entry.Entry.{Entry}
use Rattle.reg_dotreg_reader.specs.declared.entry.Numbered.{Numbered}
use Rattle.reg_dotreg_reader.specs.declared.expected.BadLine.{BadLine}
use Rattle.reg_dotreg_reader.specs.declared.expected.Expected.TheVariants as wanted
use Rattle.reg_dotreg_reader.specs.EntryWords.{before_blanks, trimmed}
use Rattle.reg_dotreg_reader.specs.EntryLines.{lines_of, without_return, whole_of, whole_lines}
use Rattle.reg_dotreg_reader.specs.EntryMeanings.{said, is_key, takes_values, is_narrow_by, untitled, titled, long_form, Reading, with_entries, one_read, entries_from, entries_in}
use Rattle.reg_dotreg_reader.specs.BadLines.{bad_line, step_by, step, one_or_none, bad_from, bad_title, bad_titled, bad_of, bad_lines_in, told, Tells}
use Rattle.reg_dotreg_reader.specs.Internal.ReadSoFar.{IsStep}

-- ---- one line after another

bad_skipped : (root : List ℕ) (narrow is_open : Bool) (count number : ℕ) (lines : List (List ℕ)) →
    bad_from root narrow is_open count number lines ≡ bad_from root narrow is_open 0 (number + count) (drop count lines)
unfolding bad_from
bad_skipped root narrow is_open zero number lines = ap (λ (n : ℕ). bad_from root narrow is_open 0 n lines) (omega arith)
bad_skipped root narrow is_open (suc count) number [] = refl
bad_skipped root narrow is_open (suc count) number (line ∷ lines) =
    let same : number + 1 + count ≡ number + suc count = omega arith in
    bad_skipped root narrow is_open count (number + 1) lines ∙ ap (λ (n : ℕ). bad_from root narrow is_open 0 n (drop count lines)) same

-- what was found so far, and what the lines left give
abbrev pub IsBadSoFar : (whole : List BadLine) (root : List ℕ) (narrow : Bool) (bad : List BadLine) (is_open : Bool) (taken : ℕ) (rest : List (List ℕ)) → Type 0
IsBadSoFar whole root narrow bad is_open taken rest = whole ≡ bad ++ bad_from root narrow is_open 0 (taken + 1) rest

-- what a line gives, by what its units say
pub step_gives : (root line units read : List ℕ) (narrow is_open : Bool) (number : ℕ) (behind : List (List ℕ)) (o : Option (Option Entry)) →
    units ≡ (whole_of line behind).0 → read ≡ units → said root narrow read ≡ o →
    step root narrow is_open number line behind ≡ step_by root number is_open line behind o
unfolding step
step_gives root line units read narrow is_open number behind o whole same says =
    ap (step_by root number is_open line behind) (ap (said root narrow) (sym (same ∙ whole)) ∙ says)

bad_step : (root : List ℕ) (narrow is_open : Bool) (number : ℕ) (line : List ℕ) (behind : List (List ℕ)) →
    bad_from root narrow is_open 0 number (line ∷ behind) ≡ one_or_none (step root narrow is_open number line behind).bad
    ++ bad_from root narrow (step root narrow is_open number line behind).open_then (step root narrow is_open number line behind).skipped (number + 1) behind
unfolding bad_from
bad_step root narrow is_open number line behind = refl

pub bad_next : (whole : List BadLine) (root : List ℕ) (narrow : Bool) (bad new : List BadLine) (one : Option BadLine) (is_open open_then : Bool)
    (taken number count more : ℕ) (line : List ℕ) (rest behind others : List (List ℕ)) →
    IsBadSoFar whole root narrow bad is_open taken rest → rest ≡ line ∷ behind → number ≡ taken + 1 →
    IsStep (step root narrow is_open number line behind) one open_then count → others ≡ drop count behind → new ≡ bad ++ one_or_none one →
    more ≡ taken + (1 + count) → IsBadSoFar whole root narrow new open_then more others
bad_next whole root narrow bad new one is_open open_then taken number count more line rest behind others so_far e n s left pushed sum =
    let place : number + 1 + count ≡ more + 1 = omega (arith, n, sum) in
    so_far ∙ (ap (λ (w : List (List ℕ)). bad ++ bad_from root narrow is_open 0 (taken + 1) w) e
    ∙ (ap (λ (k : ℕ). bad ++ bad_from root narrow is_open 0 k (line ∷ behind)) (sym n)
    ∙ (ap (λ (w : List BadLine). bad ++ w) (bad_step root narrow is_open number line behind)
    ∙ (ap (λ (o : Option BadLine). bad ++ (one_or_none o ++ bad_from root narrow (step root narrow is_open number line behind).open_then
    (step root narrow is_open number line behind).skipped (number + 1) behind)) (sym s.bad_is)
    ∙ (ap (λ (b : Bool). bad ++ (one_or_none one ++ bad_from root narrow b (step root narrow is_open number line behind).skipped (number + 1) behind))
    (sym s.open_is)
    ∙ (ap (λ (k : ℕ). bad ++ (one_or_none one ++ bad_from root narrow open_then k (number + 1) behind)) (sym s.skipped_is)
    ∙ (sym (append_assoc bad (one_or_none one) (bad_from root narrow open_then count (number + 1) behind))
    ∙ (ap (λ (w : List BadLine). w ++ bad_from root narrow open_then count (number + 1) behind) (sym pushed)
    ∙ (ap (λ (w : List BadLine). new ++ w) (bad_skipped root narrow open_then count (number + 1) behind)
    ∙ (ap (λ (k : ℕ). new ++ bad_from root narrow open_then 0 k (drop count behind)) place
    ∙ ap (λ (w : List (List ℕ)). new ++ bad_from root narrow open_then 0 (more + 1) w) (sym left)))))))))))

bad_end : (whole : List BadLine) (root : List ℕ) (narrow : Bool) (bad : List BadLine) (is_open : Bool) (taken : ℕ) (rest : List (List ℕ)) →
    IsBadSoFar whole root narrow bad is_open taken rest → rest ≡ [] → whole ≡ bad
unfolding bad_from
bad_end whole root narrow bad is_open taken rest so_far e =
    so_far ∙ (ap (λ (w : List (List ℕ)). bad ++ bad_from root narrow is_open 0 (taken + 1) w) e ∙ append-nil bad)

take_one : (bad : List BadLine) → length bad ≤ 1 → take 1 bad ≡ bad
take_one [] few = refl
take_one (one ∷ []) few = refl
take_one (one ∷ next ∷ bad) few = absurd (omega (arith, few))

pub all_end : (whole : List BadLine) (root : List ℕ) (narrow tells_all : Bool) (bad : List BadLine) (is_open : Bool) (taken : ℕ) (rest : List (List ℕ)) →
    IsBadSoFar whole root narrow bad is_open taken rest → (tells_all ≡ false → length bad ≤ 1) → rest ≡ [] → bad ≡ told tells_all whole
all_end whole root narrow tells_all bad is_open taken rest so_far few e = by tells_all few (bad_end whole root narrow bad is_open taken rest so_far e)
  where
    by : (b : Bool) → (b ≡ false → length bad ≤ 1) → whole ≡ bad → bad ≡ told b whole
    by true h same = sym same
    by false h same = sym (ap (λ (w : List BadLine). take 1 w) same ∙ take_one bad (h refl))

first_of : (bad more : List BadLine) → length bad ≤ 1 → (length bad ≡ 0 → ⊥) → take 1 (bad ++ more) ≡ bad
first_of [] more few some = absurd (some refl)
first_of (one ∷ []) more few some = refl
first_of (one ∷ next ∷ bad) more few some = absurd (omega (arith, few))

pub first_end : (whole : List BadLine) (root : List ℕ) (narrow tells_all : Bool) (bad : List BadLine) (is_open : Bool) (taken : ℕ) (rest : List (List ℕ)) →
    IsBadSoFar whole root narrow bad is_open taken rest → (tells_all ≡ false → length bad ≤ 1) → tells_all ≡ false → (length bad ≡ 0 → ⊥) →
    bad ≡ told tells_all whole
first_end whole root narrow tells_all bad is_open taken rest so_far few e some =
    sym (ap (λ (b : Bool). told b whole) e ∙ (ap (λ (w : List BadLine). take 1 w) so_far
    ∙ first_of bad (bad_from root narrow is_open 0 (taken + 1) rest) (few e) some))

-- a line more, where none was found before or all are told
pub few_more : (tells_all : Bool) (bad new : List BadLine) (one : Option BadLine) → (tells_all ≡ false → length bad ≡ 0) →
    new ≡ bad ++ one_or_none one → tells_all ≡ false → length new ≤ 1
few_more tells_all bad new one none pushed e = by bad one (none e) pushed
  where
    by : (bad : List BadLine) (one : Option BadLine) → length bad ≡ 0 → new ≡ bad ++ one_or_none one → length new ≤ 1
    by [] None h same = let n = ap (λ (w : List BadLine). length w) same in omega (arith, n)
    by [] (Some line) h same = let n = ap (λ (w : List BadLine). length w) same in omega (arith, n)
    by (first ∷ bad) one h same = absurd (omega (arith, h))

pub ruleset bad_so_far = (bad_next, all_end, first_end, few_more)

-- ---- titles

pub no_lines : (root text : List ℕ) (tells_all : Bool) → lines_of text ≡ [] → told tells_all (bad_lines_in root text) ≡ bad_title ∷ []
unfolding bad_lines_in
no_lines root text tells_all e = ap (λ (w : List (List ℕ)). told tells_all (bad_of (long_form root) w)) e ∙ by tells_all
  where
    by : (b : Bool) → told b (bad_title ∷ []) ≡ bad_title ∷ []
    by true = refl
    by false = refl

pub lines_titled : (root long text line : List ℕ) (lines : List (List ℕ)) (narrow : Bool) → lines_of text ≡ line ∷ lines → long ≡ long_form root →
    is_narrow_by (before_blanks (without_return line)) ≡ Some narrow → bad_lines_in root text ≡ bad_from long narrow false 0 2 lines
unfolding bad_lines_in
lines_titled root long text line lines narrow e is title =
    ap (bad_of (long_form root)) e ∙ (ap (λ (o : Option Bool). bad_titled (long_form root) o lines) title
    ∙ ap (λ (w : List ℕ). bad_from w narrow false 0 2 lines) (sym is))

pub lines_untitled : (root long text line : List ℕ) (lines : List (List ℕ)) → lines_of text ≡ line ∷ lines → long ≡ long_form root →
    is_narrow_by (before_blanks (without_return line)) ≡ None → bad_lines_in root text ≡ bad_title ∷ bad_from long false true 0 2 lines
unfolding bad_lines_in
lines_untitled root long text line lines e is title =
    ap (bad_of (long_form root)) e ∙ (ap (λ (o : Option Bool). bad_titled (long_form root) o lines) title
    ∙ ap (λ (w : List ℕ). bad_title ∷ bad_from w false true 0 2 lines) (sym is))

pub ruleset titles = (no_lines, lines_titled, lines_untitled)

-- ---- none where the text is understood

tells_more : (entries : List Numbered) (r : Reading) (bad : List BadLine) → Tells r bad → Tells (with_entries entries r) bad
tells_more entries (Ok others) bad h = h
tells_more entries (Err number) bad h = h

-- a line and those behind it, by what it says
said_tells : (root : List ℕ) (narrow is_open : Bool) (number : ℕ) (line : List ℕ) (lines : List (List ℕ)) (o : Option (Option Entry)) →
    ((open_then : Bool) → Tells (entries_from root narrow open_then (whole_lines (whole_of line lines).1 (number + 1) lines))
    (bad_from root narrow open_then (whole_of line lines).1 (number + 1) lines)) →
    Tells (one_read number is_open o (λ open_then. entries_from root narrow open_then (whole_lines (whole_of line lines).1 (number + 1) lines)))
    (one_or_none (step_by root number is_open line lines o).bad
    ++ bad_from root narrow (step_by root number is_open line lines o).open_then (step_by root number is_open line lines o).skipped (number + 1) lines)
unfolding bad_line
said_tells root narrow is_open number line lines None later = refl
said_tells root narrow is_open number line lines (Some None) later = later is_open
said_tells root narrow is_open number line lines (Some (Some entry)) later = by (is_key entry || is_open)
  where
    bad : BadLine
    bad = bad_line number line lines (whole_of line lines).0 (wanted.Key, length (trimmed (whole_of line lines).0))

    rest : List BadLine
    rest = bad_from root narrow (takes_values is_open entry) (whole_of line lines).1 (number + 1) lines

    by : (b : Bool) → Tells
        (cond b (with_entries (record { line = number; entry = entry } ∷ [])
        (entries_from root narrow (takes_values is_open entry) (whole_lines (whole_of line lines).1 (number + 1) lines))) (Err number))
        (one_or_none (cond b None (Some bad)) ++ rest)
    by true =
        tells_more (record { line = number; entry = entry } ∷ [])
        (entries_from root narrow (takes_values is_open entry) (whole_lines (whole_of line lines).1 (number + 1) lines)) rest
        (later (takes_values is_open entry))
    by false = refl

from_tells : (root : List ℕ) (narrow is_open : Bool) (count number : ℕ) (lines : List (List ℕ)) →
    Tells (entries_from root narrow is_open (whole_lines count number lines)) (bad_from root narrow is_open count number lines)
unfolding entries_from whole_lines bad_from step
from_tells root narrow is_open count number [] = none count
  where
    none : (n : ℕ) → Tells (entries_from root narrow is_open (whole_lines n number [])) (bad_from root narrow is_open n number [])
    none zero = refl
    none (suc n) = refl
from_tells root narrow is_open (suc count) number (line ∷ lines) = from_tells root narrow is_open count (number + 1) lines
from_tells root narrow is_open zero number (line ∷ lines) =
    said_tells root narrow is_open number line lines (said root narrow (whole_of line lines).0)
    (λ open_then. from_tells root narrow open_then (whole_of line lines).1 (number + 1) lines)

told_tells : (tells_all : Bool) (r : Reading) (bad : List BadLine) → Tells r bad → Tells r (told tells_all bad)
told_tells true r bad h = h
told_tells false (Ok entries) bad h = ap (λ (w : List BadLine). take 1 w) h
told_tells false (Err number) [] h = h
told_tells false (Err number) (first ∷ bad) h = h

text_tells : (root text : List ℕ) → Tells (entries_in root text) (bad_lines_in root text)
unfolding entries_in bad_lines_in
text_tells root text = by (lines_of text)
  where
    behind : (lines : List (List ℕ)) (o : Option Bool) → Tells (titled (long_form root) (option_map (λ narrow. (narrow, lines)) o)) (bad_titled (long_form root) o lines)
    behind lines None = refl
    behind lines (Some narrow) = from_tells (long_form root) narrow false 0 2 lines

    by : (lines : List (List ℕ)) → Tells (titled (long_form root) (untitled lines)) (bad_of (long_form root) lines)
    by [] = refl
    by (line ∷ lines) = behind lines (is_narrow_by (before_blanks (without_return line)))

pub told_first : (root text : List ℕ) (tells_all : Bool) (bad : List BadLine) → bad ≡ told tells_all (bad_lines_in root text) → Tells (entries_in root text) bad
told_first root text tells_all bad e =
    subst (λ (w : List BadLine). Tells (entries_in root text) w) (sym e) (told_tells tells_all (entries_in root text) (bad_lines_in root text) (text_tells root text))
