-- What lines of a .reg text say, computed of lines that were written out by hand: bytes, types and names.
use Rattle.std.proofs.Common.{◌≡◌, true, false, [], ◌∷◌, ◌++◌, Some, None, refl}
use Rattle.std.specs.Prelude.{codes}
use Rattle.reg_dotreg_reader.specs.declared.entry.Entry.TheVariants.{Value, GoneValue}
use Rattle.reg_dotreg_reader.specs.EntryMeanings.{said}
use Rattle.reg_dotreg_reader.proofs.EntriesOnLiterals.{on_lines}

-- bytes: none, one digit or two, blanks around, a comma at the end
bytes-none : said (codes "ROOT") false (codes "\"a\"=hex:") ≡ Some (Some (Value (codes "a") 3 []))
unfolding on_lines
bytes-none = refl

bytes-some : said (codes "ROOT") false (codes "@=hex:1,fF , 00,") ≡ Some (Some (Value [] 3 (1 ∷ 255 ∷ 0 ∷ [])))
unfolding on_lines
bytes-some = refl

bytes-blank_first : said (codes "ROOT") false (codes "@=hex: 0a") ≡ Some (Some (Value [] 3 (10 ∷ [])))
unfolding on_lines
bytes-blank_first = refl

bytes-comma_alone : said (codes "ROOT") false (codes "@=hex:,") ≡ None
unfolding on_lines
bytes-comma_alone = refl

bytes-commas : said (codes "ROOT") false (codes "@=hex:1,,2") ≡ None
unfolding on_lines
bytes-commas = refl

bytes-two_at_the_end : said (codes "ROOT") false (codes "@=hex:1,,") ≡ None
unfolding on_lines
bytes-two_at_the_end = refl

bytes-three_digits : said (codes "ROOT") false (codes "@=hex:123") ≡ None
unfolding on_lines
bytes-three_digits = refl

bytes-blank_within : said (codes "ROOT") false (codes "@=hex:1 2") ≡ None
unfolding on_lines
bytes-blank_within = refl

bytes-letter : said (codes "ROOT") false (codes "@=hex:0g") ≡ None
unfolding on_lines
bytes-letter = refl

bytes-no_colon : said (codes "ROOT") false (codes "@=hex01") ≡ None
unfolding on_lines
bytes-no_colon = refl

bytes-case : said (codes "ROOT") false (codes "@=Hex:01") ≡ None
unfolding on_lines
bytes-case = refl

-- lines that were joined
bytes-feed : said (codes "ROOT") false (codes "@=hex:01,\n  02") ≡ Some (Some (Value [] 3 (1 ∷ 2 ∷ [])))
unfolding on_lines
bytes-feed = refl

bytes-feed_within : said (codes "ROOT") false (codes "@=hex:0\n1") ≡ None
unfolding on_lines
bytes-feed_within = refl

-- types in digits
kind-small : said (codes "ROOT") false (codes "@=hex(7):61,00") ≡ Some (Some (Value [] 7 (97 ∷ 0 ∷ [])))
unfolding on_lines
kind-small = refl

kind-large : said (codes "ROOT") false (codes "@=hex(FFFFfffe):") ≡ Some (Some (Value [] 4294967294 []))
unfolding on_lines
kind-large = refl

kind-zeros : said (codes "ROOT") false (codes "@=hex(0000000b):") ≡ Some (Some (Value [] 11 []))
unfolding on_lines
kind-zeros = refl

kind-none : said (codes "ROOT") false (codes "@=hex():00") ≡ None
unfolding on_lines
kind-none = refl

kind-nine : said (codes "ROOT") false (codes "@=hex(000000001):00") ≡ None
unfolding on_lines
kind-nine = refl

kind-open : said (codes "ROOT") false (codes "@=hex(1:00") ≡ None
unfolding on_lines
kind-open = refl

kind-no_colon : said (codes "ROOT") false (codes "@=hex(1)00") ≡ None
unfolding on_lines
kind-no_colon = refl

kind-letter : said (codes "ROOT") false (codes "@=hex(g):00") ≡ None
unfolding on_lines
kind-letter = refl

-- names of values
name-escapes : said (codes "ROOT") false (codes "\"\\\\\\\"\"=-") ≡ Some (Some (GoneValue (92 ∷ 34 ∷ [])))
unfolding on_lines
name-escapes = refl

name-bracket : said (codes "ROOT") false (codes "\"[a]=;\"=-") ≡ Some (Some (GoneValue (codes "[a]=;")))
unfolding on_lines
name-bracket = refl

name-empty : said (codes "ROOT") false (codes "\"\"=-") ≡ Some (Some (GoneValue []))
unfolding on_lines
name-empty = refl

name-open : said (codes "ROOT") false (codes "\"a=-") ≡ None
unfolding on_lines
name-open = refl

name-other_escape : said (codes "ROOT") false (codes "\"\\a\"=-") ≡ None
unfolding on_lines
name-other_escape = refl

name-zero : said (codes "ROOT") false (codes "\"" ++ (0 ∷ codes "\"=-")) ≡ None
unfolding on_lines
name-zero = refl

name-high : said (codes "ROOT") false (codes "\"" ++ (128 ∷ codes "\"=-")) ≡ None
unfolding on_lines
name-high = refl

name-delete : said (codes "ROOT") false (codes "\"" ++ (127 ∷ codes "\"=-")) ≡ Some (Some (GoneValue (127 ∷ [])))
unfolding on_lines
name-delete = refl

name-behind : said (codes "ROOT") false (codes "\"a\"b=-") ≡ None
unfolding on_lines
name-behind = refl

name-at : said (codes "ROOT") false (codes "@a=-") ≡ None
unfolding on_lines
name-at = refl

-- in a narrow text the bytes of types 1, 2 and 7 are characters of one byte, up to 0x7F
narrow-text : said (codes "ROOT") true (codes "@=hex(1):41,00") ≡ Some (Some (Value [] 1 (65 ∷ 0 ∷ 0 ∷ 0 ∷ [])))
unfolding on_lines
narrow-text = refl

narrow-expand : said (codes "ROOT") true (codes "@=hex(2):25,7f") ≡ Some (Some (Value [] 2 (37 ∷ 0 ∷ 127 ∷ 0 ∷ [])))
unfolding on_lines
narrow-expand = refl

narrow-list : said (codes "ROOT") true (codes "@=hex(0007):61,00,00") ≡ Some (Some (Value [] 7 (97 ∷ 0 ∷ 0 ∷ 0 ∷ 0 ∷ 0 ∷ [])))
unfolding on_lines
narrow-list = refl

narrow-empty : said (codes "ROOT") true (codes "@=hex(1):") ≡ Some (Some (Value [] 1 []))
unfolding on_lines
narrow-empty = refl

narrow-high : said (codes "ROOT") true (codes "@=hex(7):61,80") ≡ None
unfolding on_lines
narrow-high = refl

-- those of other types are bytes
narrow-binary : said (codes "ROOT") true (codes "@=hex:80,41") ≡ Some (Some (Value [] 3 (128 ∷ 65 ∷ [])))
unfolding on_lines
narrow-binary = refl

narrow-none : said (codes "ROOT") true (codes "@=hex(0):80") ≡ Some (Some (Value [] 0 (128 ∷ [])))
unfolding on_lines
narrow-none = refl

narrow-link : said (codes "ROOT") true (codes "@=hex(6):80") ≡ Some (Some (Value [] 6 (128 ∷ [])))
unfolding on_lines
narrow-link = refl

narrow-large : said (codes "ROOT") true (codes "@=hex(11):80") ≡ Some (Some (Value [] 17 (128 ∷ [])))
unfolding on_lines
narrow-large = refl

-- texts in quotes, numbers and keys are as in other texts
narrow-quotes : said (codes "ROOT") true (codes "@=\"H" ++ (8364 ∷ codes "\"")) ≡ Some (Some (Value [] 1 (72 ∷ 0 ∷ 172 ∷ 32 ∷ 0 ∷ 0 ∷ [])))
unfolding on_lines
narrow-quotes = refl

narrow-number : said (codes "ROOT") true (codes "@=dword:80") ≡ Some (Some (Value [] 4 (128 ∷ 0 ∷ 0 ∷ 0 ∷ [])))
unfolding on_lines
narrow-number = refl
