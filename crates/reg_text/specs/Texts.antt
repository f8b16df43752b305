-- Names and bytes as they are told (this project's own).
use Rattle.std.specs.Prelude.{ℕ, ◌==◌, ◌/◌, ◌%◌, ◌&&◌, not, nat_le, Bool, true, if◌then◌else◌, List, [], ◌∷◌, ◌++◌}
use Rattle.std.specs.Fmt.{digit_glyph}
use Rattle.hex.specs.Hex.{encode_lower}

-- a line ends with LF
abbrev pub line_feed : List ℕ
line_feed = 10 ∷ []

-- a byte of a name that stands for itself: 0x21 to 0x7E, but `%`
abbrev pub is_plain : ℕ → Bool
is_plain b = nat_le 33 b && nat_le b 126 && not (b == 37)

-- a byte of a name as it is told: itself, or `%` and its two digits in upper case
unfoldable pub byte_text : ℕ → List ℕ
byte_text b = if is_plain b then b ∷ [] else 37 ∷ digit_glyph true (b / 16) ∷ digit_glyph true (b % 16) ∷ []

-- a name as it is told
abbrev pub escaped : List ℕ → List ℕ
escaped [] = []
escaped (b ∷ bs) = byte_text b ++ escaped bs

-- bytes as they are told: two digits each, in lower case
abbrev pub digits_text : List ℕ → List ℕ
digits_text bytes = encode_lower bytes
