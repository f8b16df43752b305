-- What lines of a .reg text say, computed of lines that were written out by hand: keys, numbers and texts.
use Rattle.std.proofs.Common.{◌≡◌, false, [], ◌∷◌, ◌++◌, Some, None, refl}
use Rattle.std.specs.Prelude.{codes}
use Rattle.reg_dotreg_reader.specs.declared.entry.Entry.TheVariants.{Key, GoneKey, Value, GoneValue}
use Rattle.reg_dotreg_reader.specs.EntryMeanings.{said}
use Rattle.reg_dotreg_reader.proofs.EntriesOnLiterals.{on_lines}

-- lines that say nothing: no unit, blanks, a comment behind blanks
line-empty : said (codes "ROOT") false [] ≡ Some None
unfolding on_lines
line-empty = refl

line-blanks : said (codes "ROOT") false (codes " " ++ (9 ∷ codes " ")) ≡ Some None
unfolding on_lines
line-blanks = refl

line-comment : said (codes "ROOT") false (codes "  ; [ROOT]") ≡ Some None
unfolding on_lines
line-comment = refl

-- another first unit, though a comment follows
line-other : said (codes "ROOT") false (codes "x ; y") ≡ None
unfolding on_lines
line-other = refl

line-number : said (codes "ROOT") false (codes "1") ≡ None
unfolding on_lines
line-number = refl

-- keys: the root, and a path; letters of either case in the root's name, blanks around the line
key-root : said (codes "ROOT") false (codes "[ROOT]") ≡ Some (Some (Key []))
unfolding on_lines
key-root = refl

key-path : said (codes "ROOT") false (codes " " ++ (9 ∷ codes "[rOOt\\A\\b c] ")) ≡ Some (Some (Key (codes "A\\b c")))
unfolding on_lines
key-path = refl

-- a bracket within
key-bracket : said (codes "ROOT") false (codes "[ROOT\\a]b]") ≡ Some (Some (Key (codes "a]b")))
unfolding on_lines
key-bracket = refl

-- another first name, longer, shorter or apart by a letter
key-longer : said (codes "ROOT") false (codes "[ROOTS\\A]") ≡ None
unfolding on_lines
key-longer = refl

key-shorter : said (codes "ROOT") false (codes "[ROO\\A]") ≡ None
unfolding on_lines
key-shorter = refl

key-apart : said (codes "ROOT") false (codes "[RO0T]") ≡ None
unfolding on_lines
key-apart = refl

key-none : said (codes "ROOT") false (codes "[]") ≡ None
unfolding on_lines
key-none = refl

-- blanks within count
key-blank : said (codes "ROOT") false (codes "[ ROOT]") ≡ None
unfolding on_lines
key-blank = refl

-- no bracket closes it, or something stands behind it
key-open : said (codes "ROOT") false (codes "[ROOT\\A") ≡ None
unfolding on_lines
key-open = refl

key-behind : said (codes "ROOT") false (codes "[ROOT] x") ≡ None
unfolding on_lines
key-behind = refl

-- one backslash at the end is passed over, behind the root's name, a path, and of a key that goes
key-last_root : said (codes "ROOT") false (codes "[ROOT\\]") ≡ Some (Some (Key []))
unfolding on_lines
key-last_root = refl

key-last_path : said (codes "ROOT") false (codes "[ROOT\\A\\b c\\]") ≡ Some (Some (Key (codes "A\\b c")))
unfolding on_lines
key-last_path = refl

key-last_gone : said (codes "ROOT") false (codes "[-ROOT\\A\\]") ≡ Some (Some (GoneKey (codes "A")))
unfolding on_lines
key-last_gone = refl

key-last_gone_root : said (codes "ROOT") false (codes "[-ROOT\\]") ≡ Some (Some (GoneKey []))
unfolding on_lines
key-last_gone_root = refl

-- a root whose own name ends with a backslash is named with it
key-last_of_root : said (codes "X\\") false (codes "[X\\]") ≡ Some (Some (Key []))
unfolding on_lines
key-last_of_root = refl

-- two aren't
key-two_root : said (codes "ROOT") false (codes "[ROOT\\\\]") ≡ None
unfolding on_lines
key-two_root = refl

key-two_path : said (codes "ROOT") false (codes "[ROOT\\A\\\\]") ≡ None
unfolding on_lines
key-two_path = refl

-- a backslash alone, and an empty name within
key-no_root : said (codes "ROOT") false (codes "[\\]") ≡ None
unfolding on_lines
key-no_root = refl

key-empty_within : said (codes "ROOT") false (codes "[ROOT\\A\\\\B]") ≡ None
unfolding on_lines
key-empty_within = refl

-- units 0 and 0x80 in a name, and 0x7F
key-zero : said (codes "ROOT") false (codes "[ROOT\\" ++ (0 ∷ codes "]")) ≡ None
unfolding on_lines
key-zero = refl

key-high : said (codes "ROOT") false (codes "[ROOT\\" ++ (128 ∷ codes "]")) ≡ None
unfolding on_lines
key-high = refl

key-delete : said (codes "ROOT") false (codes "[ROOT\\" ++ (127 ∷ codes "]")) ≡ Some (Some (Key (127 ∷ [])))
unfolding on_lines
key-delete = refl

-- keys that go
gone-root : said (codes "ROOT") false (codes "[-ROOT]") ≡ Some (Some (GoneKey []))
unfolding on_lines
gone-root = refl

gone-path : said (codes "ROOT") false (codes "[-root\\A]") ≡ Some (Some (GoneKey (codes "A")))
unfolding on_lines
gone-path = refl

gone-twice : said (codes "ROOT") false (codes "[--ROOT]") ≡ None
unfolding on_lines
gone-twice = refl

gone-other : said (codes "ROOT") false (codes "[-OTHER\\A]") ≡ None
unfolding on_lines
gone-other = refl

gone-blank : said (codes "ROOT") false (codes "[- ROOT]") ≡ None
unfolding on_lines
gone-blank = refl

-- a root whose own name begins with a hyphen
gone-hyphen_root : said (codes "-X") false (codes "[-X\\A]") ≡ Some (Some (Key (codes "A")))
unfolding on_lines
gone-hyphen_root = refl

gone-hyphen_root_goes : said (codes "-X") false (codes "[--x\\A]") ≡ Some (Some (GoneKey (codes "A")))
unfolding on_lines
gone-hyphen_root_goes = refl

-- the short names of root keys, letters of either case, before a backslash or the end
short-machine : said (codes "HKEY_LOCAL_MACHINE") false (codes "[HKLM\\A]") ≡ Some (Some (Key (codes "A")))
unfolding on_lines
short-machine = refl

short-machine_case : said (codes "HKEY_LOCAL_MACHINE") false (codes "[hkLm\\A]") ≡ Some (Some (Key (codes "A")))
unfolding on_lines
short-machine_case = refl

short-user : said (codes "HKEY_CURRENT_USER") false (codes "[HKCU]") ≡ Some (Some (Key []))
unfolding on_lines
short-user = refl

short-classes : said (codes "HKEY_CLASSES_ROOT") false (codes "[-HKCR\\.txt]") ≡ Some (Some (GoneKey (codes ".txt")))
unfolding on_lines
short-classes = refl

short-users : said (codes "Hkey_Users") false (codes "[hku\\.DEFAULT\\]") ≡ Some (Some (Key (codes ".DEFAULT")))
unfolding on_lines
short-users = refl

short-config : said (codes "HKEY_CURRENT_CONFIG") false (codes "[HKCC\\a\\b]") ≡ Some (Some (Key (codes "a\\b")))
unfolding on_lines
short-config = refl

short-long : said (codes "HKEY_LOCAL_MACHINE") false (codes "[Hkey_Local_Machine\\A]") ≡ Some (Some (Key (codes "A")))
unfolding on_lines
short-long = refl

short-below : said (codes "HKEY_LOCAL_MACHINE\\SOFTWARE") false (codes "[HKLM\\Software\\A]") ≡ Some (Some (Key (codes "A")))
unfolding on_lines
short-below = refl

-- each stands for its own long name alone, at the beginning alone, whole alone
short-other : said (codes "HKEY_LOCAL_MACHINE") false (codes "[HKCU\\A]") ≡ None
unfolding on_lines
short-other = refl

short-within : said (codes "ROOT\\HKEY_LOCAL_MACHINE") false (codes "[ROOT\\HKLM\\A]") ≡ None
unfolding on_lines
short-within = refl

short-longer : said (codes "HKEY_LOCAL_MACHINE") false (codes "[HKLMS\\A]") ≡ None
unfolding on_lines
short-longer = refl

short-shorter : said (codes "HKEY_LOCAL_MACHINE") false (codes "[HKL\\A]") ≡ None
unfolding on_lines
short-shorter = refl

short-blank : said (codes "HKEY_LOCAL_MACHINE") false (codes "[HKLM \\A]") ≡ None
unfolding on_lines
short-blank = refl

short-bracket : said (codes "HKEY_LOCAL_MACHINE") false (codes "[HKLM]\\A]") ≡ None
unfolding on_lines
short-bracket = refl

short-above : said (codes "HKEY_LOCAL_MACHINE\\SOFTWARE") false (codes "[HKLM\\A]") ≡ None
unfolding on_lines
short-above = refl

-- numbers: one digit to eight, of either case, the low byte first
value-number : said (codes "ROOT") false (codes "\"a\"=dword:1") ≡ Some (Some (Value (codes "a") 4 (1 ∷ 0 ∷ 0 ∷ 0 ∷ [])))
unfolding on_lines
value-number = refl

value-number_eight : said (codes "ROOT") false (codes " @ =" ++ (9 ∷ codes "dword:DEADbeef ")) ≡ Some (Some (Value [] 4 (239 ∷ 190 ∷ 173 ∷ 222 ∷ [])))
unfolding on_lines
value-number_eight = refl

value-number_none : said (codes "ROOT") false (codes "\"a\"=dword:") ≡ None
unfolding on_lines
value-number_none = refl

value-number_nine : said (codes "ROOT") false (codes "\"a\"=dword:000000001") ≡ None
unfolding on_lines
value-number_nine = refl

value-number_blank : said (codes "ROOT") false (codes "\"a\"=dword: 1") ≡ None
unfolding on_lines
value-number_blank = refl

value-number_letter : said (codes "ROOT") false (codes "\"a\"=dword:1g") ≡ None
unfolding on_lines
value-number_letter = refl

-- the word itself is of small letters
value-number_case : said (codes "ROOT") false (codes "\"a\"=Dword:1") ≡ None
unfolding on_lines
value-number_case = refl

-- values that go
value-goes : said (codes "ROOT") false (codes "\"a\"=-") ≡ Some (Some (GoneValue (codes "a")))
unfolding on_lines
value-goes = refl

value-goes_default : said (codes "ROOT") false (codes "@=- ") ≡ Some (Some (GoneValue []))
unfolding on_lines
value-goes_default = refl

value-goes_behind : said (codes "ROOT") false (codes "@=--") ≡ None
unfolding on_lines
value-goes_behind = refl

-- nothing behind `=`, or no `=`
value-nothing : said (codes "ROOT") false (codes "@=") ≡ None
unfolding on_lines
value-nothing = refl

value-no_equals : said (codes "ROOT") false (codes "@-") ≡ None
unfolding on_lines
value-no_equals = refl

value-name_alone : said (codes "ROOT") false (codes "\"a\"") ≡ None
unfolding on_lines
value-name_alone = refl

-- texts: type 1, a zero at the end
text-empty : said (codes "ROOT") false (codes "\"a\"=\"\"") ≡ Some (Some (Value (codes "a") 1 (0 ∷ 0 ∷ [])))
unfolding on_lines
text-empty = refl

-- units of one byte and of two
text-units : said (codes "ROOT") false (codes "@=\"H" ++ (8364 ∷ codes "\"")) ≡ Some (Some (Value [] 1 (72 ∷ 0 ∷ 172 ∷ 32 ∷ 0 ∷ 0 ∷ [])))
unfolding on_lines
text-units = refl

-- a quote and a backslash behind a backslash
text-escapes : said (codes "ROOT") false (codes "@=\"\\\"\\\\\"") ≡ Some (Some (Value [] 1 (34 ∷ 0 ∷ 92 ∷ 0 ∷ 0 ∷ 0 ∷ [])))
unfolding on_lines
text-escapes = refl

text-other_escape : said (codes "ROOT") false (codes "@=\"\\n\"") ≡ None
unfolding on_lines
text-other_escape = refl

text-open : said (codes "ROOT") false (codes "@=\"x") ≡ None
unfolding on_lines
text-open = refl

text-open_escape : said (codes "ROOT") false (codes "@=\"x\\\"") ≡ None
unfolding on_lines
text-open_escape = refl

text-behind : said (codes "ROOT") false (codes "@=\"x\"y") ≡ None
unfolding on_lines
text-behind = refl

-- blanks at the end are passed over, and blanks within count
text-blank_behind : said (codes "ROOT") false (codes "@=\" x \" " ++ (9 ∷ [])) ≡ Some (Some (Value [] 1 (32 ∷ 0 ∷ 120 ∷ 0 ∷ 32 ∷ 0 ∷ 0 ∷ 0 ∷ [])))
unfolding on_lines
text-blank_behind = refl

-- a line that ends within
text-feed : said (codes "ROOT") false (codes "@=\"x\ny\"") ≡ Some (Some (Value [] 1 (120 ∷ 0 ∷ 10 ∷ 0 ∷ 121 ∷ 0 ∷ 0 ∷ 0 ∷ [])))
unfolding on_lines
text-feed = refl

-- no name has LF
name-feed : said (codes "ROOT") false (codes "\"x\ny\"=-") ≡ None
unfolding on_lines
name-feed = refl

text-feed_escaped : said (codes "ROOT") false (codes "@=\"x\\\ny\"") ≡ None
unfolding on_lines
text-feed_escaped = refl
