-- The units of a tree's text have 16 bits.
use Rattle.std.proofs.Common.{◌≡◌, ℕ, zero, suc, ◌+◌, ◌*◌, ◌<◌, ◌==◌, ◌&&◌, ◌||◌, Bool, true, false, List, [], ◌∷◌, ◌++◌, length}
use Rattle.std.proofs.Common.{reverse, Option, Some, None, refl, sym, ◌∙◌, subst, arith}
use Rattle.std.specs.Prelude.{flat_map, nat_lt, codes, if◌then◌else◌}
use Rattle.std.specs.List.{AllByRecursion, list_all}
use Rattle.std.specs.Option.{option_map, unwrap_or}
use Rattle.std.specs.Fmt.{digits}
use Rattle.std.proofs.lemmas.Bool.{and_parts, and_from}
use Rattle.std.proofs.lemmas.Bool.Decides.{nat_tests}
use Rattle.std.proofs.lemmas.List.Folds.{list_all-append}
use Rattle.std.proofs.lemmas.Option.{same_Some}
use Rattle.reg_names.specs.Names.{text_of}
use Rattle.reg_heap.specs.Paths.{Member}
use Rattle.reg_tree_text.specs.DumpTexts.{Told}
use Rattle.reg_text.specs.Texts.{digits_text}
use Rattle.reg_tree_text.specs.ValueTexts.{units_of}
use Rattle.reg_dotreg_writer.specs.EntryTexts.{line_end, quoted_unit, quoted, name_told, string_text, hex_from}
use Rattle.reg_dotreg_writer.specs.EntryTexts.{hex_rows, hex_head, plain_data, text_of_data}
use Rattle.reg_dotreg_writer.specs.EntryTexts.{data_told, value_entry}
use Rattle.reg_dotreg_writer.specs.Entries.{key_line, value_entries, key_block}
use Rattle.reg_dotreg_writer.proofs.StringsBack.{string-units}
use Rattle.reg_dotreg_writer.proofs.EncodedTexts.{are_ascii}
use Rattle.reg_dotreg_writer.proofs.WholeEntries.{digits-ascii, is_ascii_named, is_ascii_told}
use Rattle.reg_dotreg_law.specs.ReadBack.{IsKept}
use Rattle.reg_dotreg_law.proofs.ListsBack.{AreBytes}
use Rattle.reg_dotreg_law.proofs.DigitsBack.{glyph, onto-all}
use Rattle.reg_dotreg_law.proofs.EntriesBack.{is-kind}
use Rattle.reg_dotreg_law.proofs.FileUnitsBack.{is_short}

abbrev pub are_short : List ℕ → Bool
are_short units = list_all is_short units

pub short-append : (a b : List ℕ) → are_short a ≡ true → are_short b ≡ true → are_short (a ++ b) ≡ true
short-append a b p q = list_all-append is_short a b ∙ and_from (are_short a) (are_short b) p q

-- ---- characters of ASCII

one-short : (u : ℕ) → nat_lt u 128 ≡ true → is_short u ≡ true
one-short u e = grind (arith, nat_tests)

pub ascii-short : (units : List ℕ) → are_ascii units ≡ true → are_short units ≡ true
ascii-short [] e = refl
ascii-short (u ∷ units) e =
    let both = and_parts (nat_lt u 128) (are_ascii units) e in
    and_from (is_short u) (are_short units) (one-short u both.0) (ascii-short units both.1)

path-short : (names : List (List ℕ)) → list_all are_ascii names ≡ true → are_short (text_of names) ≡ true
path-short [] e = refl
path-short (n ∷ []) e = ascii-short n (and_parts (are_ascii n) true e).0
path-short (n ∷ m ∷ names) e =
    let both = and_parts (are_ascii n) (list_all are_ascii (m ∷ names)) e in
    short-append n (92 ∷ text_of (m ∷ names)) (ascii-short n both.0) (path-short (m ∷ names) both.1)

-- ---- quotes

unit-short : (u : ℕ) (b : Bool) → is_short u ≡ true → are_short (if b then 92 ∷ u ∷ [] else u ∷ []) ≡ true
unit-short u true e = and_from (is_short u) true e refl
unit-short u false e = and_from (is_short u) true e refl

between-short : (text : List ℕ) → are_short text ≡ true → are_short (flat_map quoted_unit text) ≡ true
between-short [] e = refl
between-short (u ∷ text) e =
    let both = and_parts (is_short u) (are_short text) e in
    short-append (quoted_unit u) (flat_map quoted_unit text) (unit-short u (u == 92 || u == 34) both.0) (between-short text both.1)

quoted-short : (text : List ℕ) → are_short text ≡ true → are_short (quoted text) ≡ true
unfolding quoted
quoted-short text e = short-append (flat_map quoted_unit text) (34 ∷ []) (between-short text e) refl

pub name-short : (name : List ℕ) → are_ascii name ≡ true → are_short (name_told name) ≡ true
name-short [] e = refl
name-short (b ∷ name) e = quoted-short (b ∷ name) (ascii-short (b ∷ name) e)

-- ---- data

glyph-short : (d : ℕ) → d < 16 → is_short (glyph d) ≡ true
glyph-short d l = by (nat_lt d 10)
  where
    by : (b : Bool) → is_short (if b then 48 + d else 87 + d) ≡ true
    by true = grind (arith, nat_tests)
    by false = grind (arith, nat_tests)

head-short : (kind : ℕ) → are_short (hex_head kind) ≡ true
unfolding hex_head digits
head-short kind = by (kind == 3)
  where
    by : (b : Bool) → are_short (if b then codes "hex:" else codes "hex(" ++ (digits 16 false kind ++ codes "):")) ≡ true
    by true = refl
    by false = short-append (codes "hex(") (digits 16 false kind ++ codes "):") refl
        (short-append (digits 16 false kind) (codes "):") (onto-all is_short glyph-short 64 kind [] refl) refl)

two-short : (b : ℕ) → are_short (digits_text (b ∷ [])) ≡ true
two-short b = ascii-short (digits_text (b ∷ [])) (digits-ascii (b ∷ []))

rows-short : (room : ℕ) (bytes : List ℕ) → are_short (hex_from room bytes) ≡ true
unfolding hex_from
rows-short zero [] = refl
rows-short (suc room) [] = refl
rows-short zero (b ∷ []) = two-short b
rows-short (suc room) (b ∷ []) = two-short b
rows-short zero (b ∷ next ∷ bytes) =
    short-append (digits_text (b ∷ [])) (codes ",\\\r\n  " ++ hex_from 24 (next ∷ bytes)) (two-short b)
    (short-append (codes ",\\\r\n  ") (hex_from 24 (next ∷ bytes)) refl (rows-short 24 (next ∷ bytes)))
rows-short (suc room) (b ∷ next ∷ bytes) =
    short-append (digits_text (b ∷ [])) (codes "," ++ hex_from room (next ∷ bytes)) (two-short b)
    (short-append (codes ",") (hex_from room (next ∷ bytes)) refl (rows-short room (next ∷ bytes)))

plain-short : (kind : ℕ) (bytes : List ℕ) → are_short (plain_data kind bytes) ≡ true
unfolding plain_data
plain-short kind bytes = by (kind == 4 && length bytes == 4)
  where
    by : (b : Bool) → are_short (if b then codes "dword:" ++ digits_text (reverse bytes) else hex_head kind ++ hex_rows bytes) ≡ true
    by true = short-append (codes "dword:") (digits_text (reverse bytes)) refl
        (ascii-short (digits_text (reverse bytes)) (digits-ascii (reverse bytes)))
    by false = short-append (hex_head kind) (hex_rows bytes) (head-short kind) (rows-short 24 bytes)

unit-of : (low high : ℕ) → low < 256 → high < 256 → is_short (low + 256 * high) ≡ true
unit-of low high l h = let small : low + 256 * high < 65536 = omega (arith, l, h) in grind (arith, nat_tests, small)

more-short : (low high : ℕ) (o : Option (List ℕ)) (units : List ℕ) → low < 256 → high < 256 →
    ((more : List ℕ) → o ≡ Some more → are_short more ≡ true) →
    option_map (λ units. (low + 256 * high) ∷ units) o ≡ Some units → are_short units ≡ true
more-short low high None units l h each e = absurd (cc)
more-short low high (Some more) units l h each e =
    subst (λ (w : List ℕ). are_short w ≡ true) (same_Some _ _ e)
    (and_from (is_short (low + 256 * high)) (are_short more) (unit-of low high l h) (each more refl))

units-short : (bytes units : List ℕ) → AreBytes bytes → units_of bytes ≡ Some units → are_short units ≡ true
units-short [] units a e = subst (λ (w : List ℕ). are_short w ≡ true) (same_Some _ _ e) refl
units-short (low ∷ []) units a e = absurd (cc)
units-short (low ∷ high ∷ bytes) units a e =
    more-short low high (units_of bytes) units a.0 a.1.0 (λ more f. units-short bytes more a.1.1 f) e

front-short : (text behind : List ℕ) → are_short (text ++ behind) ≡ true → are_short text ≡ true
front-short text behind e = (and_parts (are_short text) (are_short behind) (sym (list_all-append is_short text behind) ∙ e)).0

pub data-short : (kind : ℕ) (bytes : List ℕ) → AreBytes bytes → are_short (data_told kind bytes) ≡ true
data-short kind bytes a = by (text_of_data kind bytes) refl
  where
    by : (o : Option (List ℕ)) → text_of_data kind bytes ≡ o → are_short (unwrap_or (option_map quoted o) (plain_data kind bytes)) ≡ true
    by None e = plain-short kind bytes
    by (Some text) e =
        let is = is-kind kind (string_text bytes) text e in
        quoted-short text (front-short text (0 ∷ []) (units-short bytes (text ++ 0 ∷ []) a (string-units bytes text is.1)))

-- ---- keys

entries-short : (values : List Member) → list_all is_ascii_named values ≡ true → AllByRecursion IsKept values →
    are_short (value_entries values) ≡ true
entries-short [] n a = refl
entries-short (v ∷ values) n a =
    let both = and_parts (are_ascii v.name) (list_all is_ascii_named values) n in
    short-append (value_entry v.name v.kind v.bytes) (value_entries values)
    (short-append (name_told v.name) (61 ∷ (data_told v.kind v.bytes ++ line_end)) (name-short v.name both.0)
    (short-append (data_told v.kind v.bytes) line_end (data-short v.kind v.bytes a.0.bytes) refl))
    (entries-short values both.1 a.1)

pub line-short : (path : List ℕ) → are_short path ≡ true → are_short (key_line path) ≡ true
unfolding key_line
line-short path e = short-append path (93 ∷ line_end) e refl

block-short : (told : Told) → is_ascii_told told ≡ true → AllByRecursion IsKept told.key.values → are_short (key_block told) ≡ true
block-short told n a =
    let both = and_parts (list_all are_ascii told.names) (list_all is_ascii_named told.key.values) n in
    short-append (key_line (text_of told.names)) (value_entries told.key.values ++ line_end)
    (line-short (text_of told.names) (path-short told.names both.0))
    (short-append (value_entries told.key.values) line_end (entries-short told.key.values both.1 a) refl)

pub blocks-short : (told : List Told) → list_all is_ascii_told told ≡ true → AllByRecursion (λ (t : Told). AllByRecursion IsKept t.key.values) told →
    are_short (flat_map key_block told) ≡ true
blocks-short [] n a = refl
blocks-short (t ∷ told) n a =
    let both = and_parts (is_ascii_told t) (list_all is_ascii_told told) n in
    short-append (key_block t) (flat_map key_block told) (block-short t both.0 a.0) (blocks-short told both.1 a.1)
