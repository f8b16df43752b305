-- The lines of a .reg text that aren't understood, each with its place (this project's own).
use Rattle.std.specs.Prelude.{◌≡◌, ℕ, suc, zero, ◌+◌, ◌-◌, ◌==◌, ◌&&◌, ◌||◌, nat_le, not, Bool, true, false, if◌then◌else◌, List, [], ◌∷◌, ◌++◌, length, take, drop}
use Rattle.std.specs.Prelude.{Option, Some, None, option_map, Ok, Err}
use Rattle.std.specs.Option.{unwrap_or}
use Rattle.reg_dotreg_reader.specs.declared.rows.Place.{Place}
use Rattle.reg_dotreg_reader.specs.declared.rows.Place.TheVariants.{Outside}
use Rattle.reg_dotreg_reader.specs.declared.entry.Entry.{Entry}
use Rattle.reg_dotreg_reader.specs.declared.expected.BadLine.{BadLine}
use Rattle.reg_dotreg_reader.specs.declared.expected.Expected.TheVariants as wanted
use Rattle.reg_dotreg_reader.specs.EntryWords.{behind_blanks, before_blanks, trimmed}
use Rattle.reg_dotreg_reader.specs.EntryLines.{lines_of, without_return, is_outside, is_comment, carried, ending, is_value_line, whole_of}
use Rattle.reg_dotreg_reader.specs.EntryMeanings.{said, is_key, takes_values, is_narrow_by, long_form, Reading}
use Rattle.reg_dotreg_reader.specs.LineStops.{Stop, lacks_quote, line_stop, found_at}

-- ---- places

-- the second unit of a pair of surrogates
abbrev pub is_second : ℕ → Bool
is_second unit = nat_le 56320 unit && nat_le unit 57343

-- the row and the column behind a unit, where those before it are these: rows are counted from 0, and LF stands between two
abbrev pub place_after : (row column : ℕ) → ℕ → ℕ × ℕ
place_after row column unit =
    if unit == 10 then (row + 1, 1) else if is_second unit then (row, column) else (row, column + 1)

-- those behind some units
unfoldable pub place_from : (row column : ℕ) → List ℕ → ℕ × ℕ
place_from row column [] = (row, column)
place_from row column (u ∷ us) = place_from (place_after row column u).0 (place_after row column u).1 us

abbrev pub place_behind_units : List ℕ → ℕ × ℕ
place_behind_units units = place_from 0 1 units

-- how many lines behind a value's row so many rows later begin: lines of a comment alone between them are no rows
unfoldable pub lines_to : Place → (row : List ℕ) (rows : ℕ) (next : List (List ℕ)) → ℕ
lines_to place row zero next = 0
lines_to place row (suc rows) [] = 0
lines_to place row (suc rows) (next ∷ lines) =
    unwrap_or (option_map (λ (part : List ℕ × Place).
    if is_outside part.1 && is_comment next then suc (lines_to place row (suc rows) lines) else suc (lines_to part.1 next rows lines)) (carried place row)) 0

-- how many of a line's units stand before a stop, of which so many are left without the blanks at the line's end
abbrev pub before_stop : (units : List ℕ) (left : ℕ) → ℕ
before_stop units left = length units - (length (behind_blanks units) - length (trimmed units)) - left

-- what stands from a stop on, without the blanks at the line's end
abbrev pub from_stop : (units : List ℕ) (left : ℕ) → List ℕ
from_stop units left = drop (length (trimmed units) - left) (trimmed units)

-- a line that isn't understood at a stop, with that number: its first row, the lines behind that, and its units, those of all its rows
unfoldable pub bad_line : (number : ℕ) (row : List ℕ) (behind : List (List ℕ)) (units : List ℕ) → Stop → BadLine
bad_line number row behind units stop =
    record {
      line = number;
      at = number + lines_to Outside row (place_behind_units (take (before_stop units stop.1) units)).0 behind;
      column = (place_behind_units (take (before_stop units stop.1) units)).1;
      expected = stop.0;
      found = found_at stop.0 (from_stop units stop.1);
    }

-- ---- lines in turn

-- whether a line is one of keys
abbrev pub begins_key : List ℕ → Bool
begins_key [] = false
begins_key (u ∷ us) = u == 91

abbrev pub is_key_line : List ℕ → Bool
is_key_line line = begins_key (behind_blanks line)

-- whether a value's first row ends in quotes
abbrev pub ends_quoted : List ℕ → Bool
ends_quoted row = is_value_line row && not (is_outside (ending Outside row))

-- what a line gives: none or one that isn't understood, whether values may stand behind it, and how many lines behind it belong to it
pub record Step : Type 0 where
  pub bad : Option BadLine
  pub open_then : Bool
  pub skipped : ℕ

-- a line that says nothing, or an entry, which may stand there or not
abbrev pub step_said : (number : ℕ) (is_open : Bool) (row : List ℕ) (behind : List (List ℕ)) → Option Entry → Step
step_said number is_open row behind None = record { bad = None; open_then = is_open; skipped = (whole_of row behind).1 }
step_said number is_open row behind (Some entry) =
    record {
      bad =
          if is_key entry || is_open then None
          else Some (bad_line number row behind (whole_of row behind).0 (wanted.Key, length (trimmed (whole_of row behind).0)));
      open_then = takes_values is_open entry;
      skipped = (whole_of row behind).1;
    }

-- one that isn't understood: behind a key's line values may stand; where a value's first row ends in quotes, and one seems to lack there,
-- reading goes on with the next row, as a line of its own
abbrev pub step_not : (root : List ℕ) (number : ℕ) (is_open : Bool) (row : List ℕ) (behind : List (List ℕ)) → Step
step_not root number is_open row behind =
    record {
      bad = Some (bad_line number row behind (whole_of row behind).0 (line_stop root (trimmed (whole_of row behind).0)));
      open_then = is_open || is_key_line row;
      skipped = if ends_quoted row && lacks_quote behind then 0 else (whole_of row behind).1;
    }

abbrev pub step_by : (root : List ℕ) (number : ℕ) (is_open : Bool) (row : List ℕ) (behind : List (List ℕ)) → Option (Option Entry) → Step
step_by root number is_open row behind None = step_not root number is_open row behind
step_by root number is_open row behind (Some entry) = step_said number is_open row behind entry

unfoldable pub step : (root : List ℕ) (is_narrow is_open : Bool) (number : ℕ) (row : List ℕ) (behind : List (List ℕ)) → Step
step root is_narrow is_open number row behind =
    step_by root number is_open row behind (said root is_narrow (whole_of row behind).0)

abbrev pub one_or_none : Option BadLine → List BadLine
one_or_none None = []
one_or_none (Some line) = line ∷ []

-- those that aren't understood of the lines that are left, behind so many that belong to the line before; the first of them has this number
unfoldable pub bad_from : (root : List ℕ) (is_narrow is_open : Bool) (skipped number : ℕ) → List (List ℕ) → List BadLine
bad_from root is_narrow is_open skipped number [] = []
bad_from root is_narrow is_open (suc skipped) number (line ∷ lines) = bad_from root is_narrow is_open skipped (number + 1) lines
bad_from root is_narrow is_open zero number (line ∷ lines) =
    one_or_none (step root is_narrow is_open number line lines).bad
    ++ bad_from root is_narrow (step root is_narrow is_open number line lines).open_then (step root is_narrow is_open number line lines).skipped (number + 1) lines

-- ---- texts

-- line 1 that is no title
abbrev pub bad_title : BadLine
bad_title = record { line = 1; at = 1; column = 1; expected = wanted.Title; found = [] }

-- those behind a title that says whether the text is narrow; without a title that is one too, and the others are read as of one that isn't
-- narrow, where values may stand
abbrev pub bad_titled : (root : List ℕ) → Option Bool → List (List ℕ) → List BadLine
bad_titled root None lines = bad_title ∷ bad_from root false true 0 2 lines
bad_titled root (Some is_narrow) lines = bad_from root is_narrow false 0 2 lines

-- those of all lines
abbrev pub bad_of : (root : List ℕ) → List (List ℕ) → List BadLine
bad_of root [] = bad_title ∷ []
bad_of root (line ∷ lines) = bad_titled root (is_narrow_by (before_blanks (without_return line))) lines

-- the lines of a text that aren't understood, in their order
unfoldable pub bad_lines_in : (root text : List ℕ) → List BadLine
bad_lines_in root text = bad_of (long_form root) (lines_of text)

-- all of them, or the first alone
abbrev pub told : (tells_all : Bool) → List BadLine → List BadLine
told tells_all lines = if tells_all then lines else take 1 lines

-- there is none just where the text is understood; else the first of them is the text's first line that isn't
abbrev pub Tells : Reading → List BadLine → Type 0
Tells (Ok entries) lines = lines ≡ []
Tells (Err number) [] = ⊥
Tells (Err number) (first ∷ others) = first.line ≡ number
