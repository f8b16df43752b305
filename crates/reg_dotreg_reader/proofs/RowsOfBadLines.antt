-- The lines of .reg texts that aren't understood, and what is told of them, computed of texts that were written out by hand.
use Rattle.std.proofs.Common.{◌≡◌, ℕ, List, [], ◌∷◌, ◌++◌, refl}
use Rattle.std.specs.Prelude.{⊤, Option, Some, None, Bool, true, false, codes}
use Rattle.reg_dotreg_reader.specs.declared.expected.BadLine.{BadLine}
use Rattle.reg_dotreg_reader.specs.declared.expected.Expected.{Expected}
use Rattle.reg_dotreg_reader.specs.declared.expected.Expected.TheVariants as wanted
use Rattle.reg_dotreg_reader.specs.EntryMeanings.{title}
use Rattle.reg_dotreg_reader.specs.BadLines.{bad_lines_in, place_from, lines_to, bad_line, step, bad_from}
use Rattle.reg_dotreg_reader.specs.LineStops.{lacks_quote, unclosed, first_stop, several_stop, is_open, text_stop, name_stop, few_digits, number_stop}
use Rattle.reg_dotreg_reader.specs.LineStops.{left_from_bad, pieces_length, list_stop, kind_stop, bytes_stop, data_stop, behind_name_stop, value_stop}
use Rattle.reg_dotreg_reader.specs.LineStops.{Stop, name_wanted, names_stop, path_stop, below_stop, behind_bracket, key_stop, line_stop}
use Rattle.reg_dotreg_reader.specs.ToldLines.{is_hinted}
use Rattle.std.specs.Char.Utf16.{utf16_chars}
use Rattle.reg_dotreg_reader.proofs.EntriesOnLiterals.{on_texts}

unfoldable on_places : ⊤
unfolding on_texts bad_lines_in place_from lines_to bad_line step bad_from
on_places = tt

unfoldable on_values : ⊤
unfolding on_places lacks_quote unclosed first_stop several_stop is_open text_stop name_stop few_digits number_stop left_from_bad pieces_length
on_values = tt

unfoldable on_stops : ⊤
unfolding on_values list_stop kind_stop bytes_stop data_stop behind_name_stop value_stop names_stop path_stop below_stop behind_bracket key_stop line_stop
on_stops = tt

-- a line that isn't understood, and no name of a root was expected
abbrev other : (line at column : ℕ) → Expected → BadLine
other line at column expected = record { line = line; at = at; column = column; expected = expected; found = [] }

abbrev bad_of : List ℕ → List BadLine
bad_of lines = bad_lines_in (codes "ROOT") (title ++ (codes "\n[ROOT]\n" ++ lines))

-- those of a text of REGEDIT4
abbrev narrow_of : List ℕ → List BadLine
narrow_of lines = bad_lines_in (codes "ROOT") (codes "REGEDIT4\n[ROOT]\n" ++ lines)

-- behind a value that is whole, and within a number
behind-gone : bad_of (codes "\"a\"=- x\n") ≡
    other 3 3 7 wanted.Comment ∷ []
unfolding on_stops
behind-gone = refl

behind-eight : bad_of (codes "@=dword:000000012\n") ≡
    other 3 3 17 wanted.Comment ∷ []
unfolding on_stops
behind-eight = refl

behind-digit : bad_of (codes "@=dword:1x\n") ≡
    other 3 3 10 wanted.Number ∷ []
unfolding on_stops
behind-digit = refl

-- a text over several lines: something behind it, and a quote that lacks
behind-lines : bad_of (codes "@=\"a\nb\" c\nd\n") ≡
    other 3 4 4 wanted.Comment ∷ other 5 5 1 wanted.Line ∷ []
unfolding on_stops
behind-lines = refl

lacking-quote : bad_of (codes "@=\"a\n[ROOT\\b]\n@=c\n\"d\"=\"\"\n") ≡
    other 3 3 5 wanted.Quote ∷ other 5 5 3 wanted.Value ∷ []
unfolding on_stops
lacking-quote = refl

-- keys: something behind the bracket, and no name
behind-key : bad_of (codes "[ROOT] ;\n[]\n") ≡
    other 3 3 8 wanted.End ∷ other 4 4 2 wanted.Root ∷ []
unfolding on_stops
behind-key = refl

-- an empty name in a path, and at its end
empty-within : bad_of (codes "[ROOT\\a\\\\b]\n") ≡ other 3 3 9 wanted.KeyName ∷ []
unfolding on_stops
empty-within = refl

empty-first : bad_of (codes "[ROOT\\\\]\n") ≡ other 3 3 7 wanted.KeyName ∷ []
unfolding on_stops
empty-first = refl

empty-last : bad_of (codes "[ROOT\\a\\\\]\n") ≡ other 3 3 9 wanted.KeyName ∷ []
unfolding on_stops
empty-last = refl

-- names a\b\c of a path of at most two, and an empty one before the one that is too many, and in its place
abbrev names : (second third : List ℕ) → List (List ℕ)
names second third = codes "a" ∷ second ∷ third ∷ []

many-third : names_stop 2 (names (codes "b") (codes "c")) ≡ (wanted.Path, 1)
unfolding on_stops
many-third = refl

many-second : names_stop 2 (names [] (codes "c")) ≡ (wanted.KeyName, 2)
unfolding on_stops
many-second = refl

many-none : names_stop 2 (names (codes "b") []) ≡ (wanted.KeyName, 0)
unfolding on_stops
many-none = refl

-- how long a name may be
long-fits : name_wanted 1 255 ≡ None
long-fits = refl

long-more : name_wanted 1 256 ≡ Some wanted.ShortKeyName
long-more = refl

-- a byte above 7f in a text of REGEDIT4: in a second row, behind a blank, and the least
high-row : narrow_of (codes "@=hex(1):61,\\\n  e9,80\n") ≡ other 3 4 3 wanted.PlainBytes ∷ []
unfolding on_stops
high-row = refl

high-last : narrow_of (codes "@=hex(2):61, ff\n") ≡ other 3 3 14 wanted.PlainBytes ∷ []
unfolding on_stops
high-last = refl

high-least : narrow_of (codes "@=hex(7):7f,80,\n") ≡ other 3 3 13 wanted.PlainBytes ∷ []
unfolding on_stops
high-least = refl

-- no byte at all is told before one above 7f
high-byte : narrow_of (codes "@=hex(1):e9,100\n") ≡ other 3 3 13 wanted.Byte ∷ []
unfolding on_stops
high-byte = refl

-- behind a type, with `)` and without
kind-colon : bad_of (codes "@=hex(2)=00\n") ≡ other 3 3 9 wanted.Colon ∷ []
unfolding on_stops
kind-colon = refl

kind-close : bad_of (codes "@=hex(2\n") ≡ other 3 3 8 wanted.Close ∷ []
unfolding on_stops
kind-close = refl

-- fronts that are hinted at: a letter beyond ASCII, and a character of two units; a quote, a control character and half a pair aren't
abbrev hinted : List ℕ → Bool
hinted middle = is_hinted (codes "HKLM\\S" ++ (middle ++ codes "D"))

hint-letter : hinted (220 ∷ []) ≡ true
unfolding utf16_chars
hint-letter = refl

hint-pair : hinted (55357 ∷ 56832 ∷ []) ≡ true
unfolding utf16_chars
hint-pair = refl

hint-quote : hinted (39 ∷ []) ≡ false
unfolding utf16_chars
hint-quote = refl

hint-control : hinted (133 ∷ []) ≡ false
unfolding utf16_chars
hint-control = refl

hint-delete : hinted (127 ∷ []) ≡ false
unfolding utf16_chars
hint-delete = refl

hint-half : hinted (55357 ∷ []) ≡ false
unfolding utf16_chars
hint-half = refl
