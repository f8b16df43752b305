-- The lines of a .reg text, and how a value goes on over several of them (regedit's format, version 5.00).
use Rattle.std.specs.Prelude.{ℕ, suc, zero, ◌+◌, ◌==◌, ◌&&◌, ◌||◌, Bool, true, false, if◌then◌else◌, List, [], ◌∷◌, ◌++◌, length, Option, Some, option_map}
use Rattle.std.specs.Option.{unwrap_or}
use Rattle.std.specs.List.{slice_split, prefix_len}
use Rattle.reg_dotreg_reader.specs.declared.rows.Place.{Place}
use Rattle.reg_dotreg_reader.specs.declared.rows.Place.TheVariants.{Outside, Quoted, Escaped}
use Rattle.reg_dotreg_reader.specs.EntryWords.{behind_blanks, before_blanks, before_mark}

abbrev pub is_feed : ℕ → Bool
is_feed unit = unit == 10

-- the parts of a text between its LFs as lines: each ends with LF, which the last may lack, so behind the last LF there is none
unfoldable pub ended : List (List ℕ) → List (List ℕ)
ended [] = []
ended (part ∷ []) = if length part == 0 then [] else part ∷ []
ended (part ∷ next ∷ parts) = part ∷ ended (next ∷ parts)

-- a text's lines, with the CR at their ends
unfoldable pub lines_of : List ℕ → List (List ℕ)
lines_of text = ended (slice_split is_feed text)

-- a line without the CR at its end, if there is one
abbrev pub without_return : List ℕ → List ℕ
without_return line = unwrap_or (before_mark 13 line) line

-- ---- rows of a value, which are its lines

-- the place behind a unit: outside of quotes, in them, or in them behind a backslash
abbrev pub place_behind : Place → ℕ → Place
place_behind Outside unit = if unit == 34 then Quoted else Outside
place_behind Quoted unit = if unit == 34 then Outside else if unit == 92 then Escaped else Quoted
place_behind Escaped unit = Quoted

abbrev pub is_outside : Place → Bool
is_outside Outside = true
is_outside Quoted = false
is_outside Escaped = false

-- what stands before a comment, from a place on, and the place there: a comment begins with `;` outside of quotes
unfoldable pub cut : Place → List ℕ → List ℕ × Place
cut place [] = ([], place)
cut place (u ∷ us) =
    if is_outside place && u == 59 then ([], place) else (u ∷ (cut (place_behind place u) us).0, (cut (place_behind place u) us).1)

-- what is kept of a row that begins at a place, without the CR at its end, and the place there
abbrev pub kept : Place → List ℕ → List ℕ
kept place row = (cut place (without_return row)).0

abbrev pub ending : Place → List ℕ → Place
ending place row = (cut place (without_return row)).1

-- a line of a comment alone
abbrev pub begins_comment : List ℕ → Bool
begins_comment [] = false
begins_comment (u ∷ us) = u == 59

abbrev pub is_comment : List ℕ → Bool
is_comment line = begins_comment (behind_blanks line)

-- what a row that goes on says itself: what stands before the backslash at its end
unfoldable pub goes_on : List ℕ → Option (List ℕ)
goes_on row = before_mark 92 (before_blanks row)

-- that of a row from a place on, and the place at which the next row begins. One that ends in quotes goes on too: it stands for itself
unfoldable pub carried : Place → List ℕ → Option (List ℕ × Place)
carried place row =
    if is_outside (ending place row) then option_map (λ front. (front, Outside)) (goes_on (kept place row)) else Some (row, Quoted)

-- how many lines of a comment alone are passed over before the row that begins at a place
abbrev pub passed : Place → List (List ℕ) → ℕ
passed place lines = if is_outside place then prefix_len is_comment lines else 0

-- a row with the next ones, as far as it goes on in them, LF between them; and how many lines these are. Lines of a
-- comment alone are passed over. Where no row comes next the backslash stays, and no value is understood with it
unfoldable pub joined : Place → (row : List ℕ) (next : List (List ℕ)) → List ℕ × ℕ
joined place row [] = (kept place row, 0)
joined place row (next ∷ lines) =
    unwrap_or (option_map (λ (part : List ℕ × Place).
    if is_outside part.1 && is_comment next then ((joined place row lines).0, suc (joined place row lines).1)
    else (part.0 ++ 10 ∷ (joined part.1 next lines).0, suc (joined part.1 next lines).1)) (carried place row)) (kept place row, 0)

-- a value's line begins with a quote or with `@`
abbrev pub begins_value : List ℕ → Bool
begins_value [] = false
begins_value (u ∷ us) = u == 34 || u == 64

abbrev pub is_value_line : List ℕ → Bool
is_value_line line = begins_value (behind_blanks line)

-- only a value's line goes on, and has comments
unfoldable pub whole_of : (line : List ℕ) (next : List (List ℕ)) → List ℕ × ℕ
whole_of line next = if is_value_line line then joined Outside line next else (without_return line, 0)

-- a line with its number, or that of the first of those that are joined in it
pub record Line : Type 0 where
  pub number : ℕ
  pub units : List ℕ

-- the lines that are left, joined, behind so many that belong to the line before; the first of them has this number
unfoldable pub whole_lines : (skipped number : ℕ) → List (List ℕ) → List Line
whole_lines skipped number [] = []
whole_lines (suc skipped) number (line ∷ lines) = whole_lines skipped (number + 1) lines
whole_lines zero number (line ∷ lines) =
    record { number = number; units = (whole_of line lines).0 } ∷ whole_lines (whole_of line lines).1 (number + 1) lines
