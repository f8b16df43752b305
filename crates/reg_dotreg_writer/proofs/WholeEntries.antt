-- Entries and blocks of names of ASCII: well-formed, and encoded piece by piece.
use Rattle.std.proofs.Common.{◌≡◌, ℕ, zero, suc, ◌+◌, ◌<◌, ◌/◌, ◌%◌, ◌==◌, ◌&&◌, ◌||◌, Bool, true, false, not, List, [], ◌∷◌, ◌++◌, length}
use Rattle.std.proofs.Common.{reverse, slice_index, is_some, Option, Some, None, refl, ap, ◌∙◌, subst, arith}
use Rattle.std.specs.Prelude.{if◌then◌else◌, nat_lt, flat_map, codes}
use Rattle.std.specs.Fmt.{digits, digits_onto, digit_glyph}
use Rattle.std.specs.List.{list_all}
use Rattle.std.specs.Option.{option_map, option_and_then, unwrap_or}
use Rattle.std.specs.Char.Utf16.{has_unpaired_surrogate, is_high_surrogate, is_low_surrogate, lone_unit_char}
use Rattle.std.proofs.lemmas.Bool.{and_parts, and_from}
use Rattle.std.proofs.lemmas.Bool.Decides.{nat_tests}
use Rattle.std.proofs.lemmas.Option.{same_Some}
use Rattle.hex.specs.Hex.{encode_with, lower_digits}
use Rattle.reg_names.specs.Names.{text_of}
use Rattle.reg_heap.specs.Paths.{Member}
use Rattle.reg_text.specs.Texts.{digits_text}
use Rattle.reg_tree_text.specs.ValueTexts.{units_of}
use Rattle.reg_tree_text.specs.DumpTexts.{Told}
use Rattle.reg_dotreg_writer.specs.EntryTexts.{line_end, quoted, quoted_unit, name_told, hex_from, hex_rows, hex_head, plain_data, text_of_data}
use Rattle.reg_dotreg_writer.specs.EntryTexts.{data_told, value_entry, string_text, if_line_text, text_before_zero, is_line_text, is_text_unit}
use Rattle.reg_dotreg_writer.specs.Entries.{key_line, value_entries, key_block, encoded}
use Rattle.reg_dotreg_writer.specs.Internal.Pieces.{plain, text_pieces, data_pieces, entry_pieces, entries_pieces, block_pieces}
use Rattle.reg_dotreg_writer.proofs.PieceBytes.{plain-none}
use Rattle.reg_dotreg_writer.proofs.EncodedTexts.{IsWell, encoded-append, well-append, well-cons, well-unit, well-last, well-pair, well-pair_on}
use Rattle.reg_dotreg_writer.proofs.EncodedTexts.{well-lone, well-unpaired, are_ascii, ascii-append, ascii-well, ascii-encoded, ascii-before}

-- ---- digits

nibble : (n : ℕ) → nat_lt (slice_index lower_digits n) 128 ≡ true
nibble zero = refl
nibble (suc zero) = refl
nibble (suc (suc zero)) = refl
nibble (suc (suc (suc zero))) = refl
nibble (suc (suc (suc (suc zero)))) = refl
nibble (suc (suc (suc (suc (suc zero))))) = refl
nibble (suc (suc (suc (suc (suc (suc zero)))))) = refl
nibble (suc (suc (suc (suc (suc (suc (suc zero))))))) = refl
nibble (suc (suc (suc (suc (suc (suc (suc (suc zero)))))))) = refl
nibble (suc (suc (suc (suc (suc (suc (suc (suc (suc zero))))))))) = refl
nibble (suc (suc (suc (suc (suc (suc (suc (suc (suc (suc zero)))))))))) = refl
nibble (suc (suc (suc (suc (suc (suc (suc (suc (suc (suc (suc zero))))))))))) = refl
nibble (suc (suc (suc (suc (suc (suc (suc (suc (suc (suc (suc (suc zero)))))))))))) = refl
nibble (suc (suc (suc (suc (suc (suc (suc (suc (suc (suc (suc (suc (suc zero))))))))))))) = refl
nibble (suc (suc (suc (suc (suc (suc (suc (suc (suc (suc (suc (suc (suc (suc zero)))))))))))))) = refl
nibble (suc (suc (suc (suc (suc (suc (suc (suc (suc (suc (suc (suc (suc (suc (suc zero))))))))))))))) = refl
nibble (suc (suc (suc (suc (suc (suc (suc (suc (suc (suc (suc (suc (suc (suc (suc (suc n)))))))))))))))) = refl

pub digits-ascii : (bytes : List ℕ) → are_ascii (digits_text bytes) ≡ true
unfolding encode_with
digits-ascii [] = refl
digits-ascii (b ∷ bytes) =
    and_from (nat_lt (slice_index lower_digits (b / 16)) 128) _ (nibble (b / 16))
    (and_from (nat_lt (slice_index lower_digits (b % 16)) 128) (are_ascii (digits_text bytes)) (nibble (b % 16)) (digits-ascii bytes))

either : (b : Bool) (x y : List ℕ) → are_ascii x ≡ true → are_ascii y ≡ true → are_ascii (if b then x else y) ≡ true
either true x y p q = p
either false x y p q = q

glyph-ascii : (n : ℕ) → n < 16 → nat_lt (digit_glyph false n) 128 ≡ true
glyph-ascii n l = by (nat_lt n 10) refl
  where
    by : (b : Bool) → nat_lt n 10 ≡ b → nat_lt (if b then 48 + n else (if false then 55 + n else 87 + n)) 128 ≡ true
    by true e = grind (arith, nat_tests, e)
    by false e = grind (arith, nat_tests, l)

onto-ascii : (k n : ℕ) (acc : List ℕ) → are_ascii acc ≡ true → are_ascii (digits_onto k 16 false n acc) ≡ true
onto-ascii zero n acc a = a
onto-ascii (suc k) n acc a =
    let more : are_ascii (digit_glyph false (n % 16) ∷ acc) ≡ true =
    and_from (nat_lt (digit_glyph false (n % 16)) 128) (are_ascii acc) (glyph-ascii (n % 16) (omega arith)) a in
    either (n / 16 == 0) (digit_glyph false (n % 16) ∷ acc) (digits_onto k 16 false (n / 16) (digit_glyph false (n % 16) ∷ acc)) more
    (onto-ascii k (n / 16) (digit_glyph false (n % 16) ∷ acc) more)

head-ascii : (kind : ℕ) → are_ascii (hex_head kind) ≡ true
unfolding hex_head digits
head-ascii kind =
    either (kind == 3) (codes "hex:") (codes "hex(" ++ (digits_onto 64 16 false kind [] ++ codes "):")) refl
    (ascii-append (codes "hex(") (digits_onto 64 16 false kind [] ++ codes "):") refl
    (ascii-append (digits_onto 64 16 false kind []) (codes "):") (onto-ascii 64 kind [] refl) refl))

rows-ascii : (room : ℕ) (bytes : List ℕ) → are_ascii (hex_from room bytes) ≡ true
unfolding hex_from
rows-ascii zero [] = refl
rows-ascii (suc room) [] = refl
rows-ascii zero (b ∷ []) = digits-ascii (b ∷ [])
rows-ascii (suc room) (b ∷ []) = digits-ascii (b ∷ [])
rows-ascii zero (b ∷ next ∷ bytes) =
    ascii-append (digits_text (b ∷ [])) (codes ",\\\r\n  " ++ hex_from 24 (next ∷ bytes)) (digits-ascii (b ∷ []))
    (ascii-append (codes ",\\\r\n  ") (hex_from 24 (next ∷ bytes)) refl (rows-ascii 24 (next ∷ bytes)))
rows-ascii (suc room) (b ∷ next ∷ bytes) =
    ascii-append (digits_text (b ∷ [])) (codes "," ++ hex_from room (next ∷ bytes)) (digits-ascii (b ∷ []))
    (ascii-append (codes ",") (hex_from room (next ∷ bytes)) refl (rows-ascii room (next ∷ bytes)))

data-ascii : (kind : ℕ) (bytes : List ℕ) → are_ascii (plain_data kind bytes) ≡ true
unfolding plain_data
data-ascii kind bytes =
    either (kind == 4 && length bytes == 4) (codes "dword:" ++ digits_text (reverse bytes)) (hex_head kind ++ hex_rows bytes)
    (ascii-append (codes "dword:") (digits_text (reverse bytes)) refl (digits-ascii (reverse bytes)))
    (ascii-append (hex_head kind) (hex_rows bytes) (head-ascii kind) (rows-ascii 24 bytes))

-- ---- quotes

unit-ascii : (u : ℕ) → nat_lt u 128 ≡ true → are_ascii (quoted_unit u) ≡ true
unit-ascii u e = by (u == 92 || u == 34)
  where
    by : (b : Bool) → are_ascii (if b then 92 ∷ u ∷ [] else u ∷ []) ≡ true
    by true = and_from (nat_lt u 128) true e refl
    by false = and_from (nat_lt u 128) true e refl

between-ascii : (text : List ℕ) → are_ascii text ≡ true → are_ascii (flat_map quoted_unit text) ≡ true
between-ascii [] e = refl
between-ascii (u ∷ text) e =
    let both = and_parts (nat_lt u 128) (are_ascii text) e in
    ascii-append (quoted_unit u) (flat_map quoted_unit text) (unit-ascii u both.0) (between-ascii text both.1)

pub name-ascii : (name : List ℕ) → are_ascii name ≡ true → are_ascii (name_told name) ≡ true
unfolding quoted
name-ascii [] e = refl
name-ascii (b ∷ name) e = ascii-append (flat_map quoted_unit (b ∷ name)) (34 ∷ []) (between-ascii (b ∷ name) e) refl

-- a surrogate is no backslash and no quote
stays : (u : ℕ) → 128 < u → quoted_unit u ≡ u ∷ []
stays u l = let other : (u == 92 || u == 34) ≡ false = grind (arith, nat_tests, l) in ap (λ (b : Bool). if b then 92 ∷ u ∷ [] else u ∷ []) other

-- a unit of a pair stays, as does each other unit that is no backslash and no quote
pair-stays : (u v : ℕ) (text : List ℕ) → (is_high_surrogate u && is_low_surrogate v) ≡ true →
    flat_map quoted_unit (u ∷ v ∷ text) ≡ u ∷ v ∷ flat_map quoted_unit text
pair-stays u v text p =
    let both = and_parts (is_high_surrogate u) (is_low_surrogate v) p in
    let high : 128 < u = grind (arith, nat_tests, both.0) in
    let low : 128 < v = grind (arith, nat_tests, both.1) in
    ap (λ (w : List ℕ). w ++ (quoted_unit v ++ flat_map quoted_unit text)) (stays u high)
    ∙ ap (λ (w : List ℕ). u ∷ (w ++ flat_map quoted_unit text)) (stays v low)

-- a unit that is no surrogate, before well-formed units
unit-well : (u : ℕ) (rest : List ℕ) → not (is_some (lone_unit_char u)) ≡ false → IsWell rest → IsWell (quoted_unit u ++ rest)
unit-well u rest e w = by (u == 92 || u == 34)
  where
    by : (b : Bool) → IsWell ((if b then 92 ∷ u ∷ [] else u ∷ []) ++ rest)
    by true = well-cons 92 (u ∷ rest) refl (well-unit u rest e w)
    by false = well-unit u rest e w

between-by : (u v : ℕ) (text : List ℕ) (t : Bool) → (is_high_surrogate u && is_low_surrogate v) ≡ t → IsWell (u ∷ v ∷ text) →
    (IsWell text → IsWell (flat_map quoted_unit text)) → (IsWell (v ∷ text) → IsWell (flat_map quoted_unit (v ∷ text))) →
    IsWell (flat_map quoted_unit (u ∷ v ∷ text))
between-by u v text true p w behind next =
    ap has_unpaired_surrogate (pair-stays u v text p) ∙ well-pair_on u v (flat_map quoted_unit text) p (behind (well-pair u v text p w))
between-by u v text false n w behind next =
    unit-well u (flat_map quoted_unit (v ∷ text)) (well-unpaired u v text n w) (next (well-lone u v text n w))

between-well : (text : List ℕ) → IsWell text → IsWell (flat_map quoted_unit text)
between-well [] w = w
between-well (u ∷ []) w = unit-well u [] (well-last u w) (ascii-well [] refl)
between-well (u ∷ v ∷ text) w =
    between-by u v text (is_high_surrogate u && is_low_surrogate v) refl w (λ (x : IsWell text). between-well text x)
    (λ (x : IsWell (v ∷ text)). between-well (v ∷ text) x)

-- ---- data

un-not : (b : Bool) → not b ≡ true → b ≡ false
un-not true e = absurd (cc)
un-not false e = refl

text-well : (kind : ℕ) (bytes text : List ℕ) → text_of_data kind bytes ≡ Some text → IsWell text
text-well kind bytes text e = of-kind (kind == 1) e
  where
    of-front : (o : Option (List ℕ)) → option_and_then if_line_text o ≡ Some text → IsWell text
    of-front None e = absurd (cc)
    of-front (Some front) e = of-test (is_line_text front) refl e
      where
        of-test : (b : Bool) → is_line_text front ≡ b → (if b then Some front else None) ≡ Some text → IsWell text
        of-test true t e =
            let both = and_parts (list_all is_text_unit front) (not (has_unpaired_surrogate front)) t in
            subst IsWell (same_Some _ _ e) (un-not (has_unpaired_surrogate front) both.1)
        of-test false t e = absurd (cc)

    of-kind : (b : Bool) → (if b then string_text bytes else None) ≡ Some text → IsWell text
    of-kind true e = of-front (option_and_then text_before_zero (units_of bytes)) e
    of-kind false e = absurd (cc)

-- a text between quotes
quoted-well : (text : List ℕ) → IsWell text → IsWell (quoted text)
unfolding quoted
quoted-well text w =
    well-append (34 ∷ []) (flat_map quoted_unit text ++ 34 ∷ []) (ascii-well (34 ∷ []) refl)
    (well-append (flat_map quoted_unit text) (34 ∷ []) (between-well text w) (ascii-well (34 ∷ []) refl))

quoted-encoded : (u : Bool) (text : List ℕ) → IsWell text → encoded u (quoted text) ≡ text_pieces u text
unfolding quoted text_pieces
quoted-encoded u text w =
    ascii-before u (34 ∷ []) (flat_map quoted_unit text ++ 34 ∷ []) refl
    ∙ ap (λ (x : List ℕ). plain u (34 ∷ []) ++ x)
    (encoded-append u (flat_map quoted_unit text) (34 ∷ []) (between-well text w)
    ∙ ap (λ (x : List ℕ). encoded u (flat_map quoted_unit text) ++ x) (ascii-encoded u (34 ∷ []) refl))

pub data-well : (kind : ℕ) (bytes : List ℕ) → IsWell (data_told kind bytes)
data-well kind bytes = by (text_of_data kind bytes) refl
  where
    by : (o : Option (List ℕ)) → text_of_data kind bytes ≡ o → IsWell (unwrap_or (option_map quoted o) (plain_data kind bytes))
    by None e = ascii-well (plain_data kind bytes) (data-ascii kind bytes)
    by (Some text) e = quoted-well text (text-well kind bytes text e)

data-encoded : (u : Bool) (kind : ℕ) (bytes : List ℕ) → encoded u (data_told kind bytes) ≡ data_pieces u (text_of_data kind bytes) kind bytes
data-encoded u kind bytes = by (text_of_data kind bytes) refl
  where
    by : (o : Option (List ℕ)) → text_of_data kind bytes ≡ o →
        encoded u (unwrap_or (option_map quoted o) (plain_data kind bytes)) ≡ data_pieces u o kind bytes
    by None e = ascii-encoded u (plain_data kind bytes) (data-ascii kind bytes)
    by (Some text) e = quoted-encoded u text (text-well kind bytes text e)

-- ---- entries

pub entry-well : (name : List ℕ) (kind : ℕ) (bytes : List ℕ) → are_ascii name ≡ true → IsWell (value_entry name kind bytes)
entry-well name kind bytes e =
    well-append (name_told name) (61 ∷ (data_told kind bytes ++ line_end)) (ascii-well (name_told name) (name-ascii name e))
    (well-cons 61 (data_told kind bytes ++ line_end) refl
    (well-append (data_told kind bytes) line_end (data-well kind bytes) (ascii-well line_end refl)))

pub entry-encoded : (u : Bool) (name : List ℕ) (kind : ℕ) (bytes : List ℕ) → are_ascii name ≡ true →
    encoded u (value_entry name kind bytes) ≡ entry_pieces u name kind bytes
unfolding entry_pieces
entry-encoded u name kind bytes e =
    ascii-before u (name_told name) (61 ∷ (data_told kind bytes ++ line_end)) (name-ascii name e)
    ∙ ap (λ (x : List ℕ). plain u (name_told name) ++ x)
    (ascii-before u (61 ∷ []) (data_told kind bytes ++ line_end) refl
    ∙ ap (λ (x : List ℕ). plain u (61 ∷ []) ++ x)
    (encoded-append u (data_told kind bytes) line_end (data-well kind bytes)
    ∙ (ap (λ (x : List ℕ). x ++ encoded u line_end) (data-encoded u kind bytes)
    ∙ ap (λ (x : List ℕ). data_pieces u (text_of_data kind bytes) kind bytes ++ x) (ascii-encoded u line_end refl))))

-- ---- blocks

abbrev pub is_ascii_named : Member → Bool
is_ascii_named value = are_ascii value.name

pub entries-well : (values : List Member) → list_all is_ascii_named values ≡ true → IsWell (value_entries values)
entries-well [] e = ascii-well [] refl
entries-well (v ∷ values) e =
    let both = and_parts (are_ascii v.name) (list_all is_ascii_named values) e in
    well-append (value_entry v.name v.kind v.bytes) (value_entries values) (entry-well v.name v.kind v.bytes both.0) (entries-well values both.1)

entries-encoded : (u : Bool) (values : List Member) → list_all is_ascii_named values ≡ true →
    encoded u (value_entries values) ≡ entries_pieces u values
entries-encoded u [] e = ascii-encoded u [] refl ∙ plain-none u
entries-encoded u (v ∷ values) e =
    let both = and_parts (are_ascii v.name) (list_all is_ascii_named values) e in
    encoded-append u (value_entry v.name v.kind v.bytes) (value_entries values) (entry-well v.name v.kind v.bytes both.0)
    ∙ (ap (λ (x : List ℕ). x ++ encoded u (value_entries values)) (entry-encoded u v.name v.kind v.bytes both.0)
    ∙ ap (λ (x : List ℕ). entry_pieces u v.name v.kind v.bytes ++ x) (entries-encoded u values both.1))

pub text-ascii : (names : List (List ℕ)) → list_all are_ascii names ≡ true → are_ascii (text_of names) ≡ true
text-ascii [] e = refl
text-ascii (x ∷ []) e = (and_parts (are_ascii x) true e).0
text-ascii (x ∷ y ∷ names) e =
    let both = and_parts (are_ascii x) (list_all are_ascii (y ∷ names)) e in
    ascii-append x (92 ∷ text_of (y ∷ names)) both.0 (text-ascii (y ∷ names) both.1)

pub line-ascii : (path : List ℕ) → are_ascii path ≡ true → are_ascii (key_line path) ≡ true
unfolding key_line
line-ascii path e = ascii-append path (93 ∷ line_end) e refl

-- a key of names of ASCII
abbrev pub is_ascii_told : Told → Bool
is_ascii_told told = list_all are_ascii told.names && list_all is_ascii_named told.key.values

pub block-well : (told : Told) → is_ascii_told told ≡ true → IsWell (key_block told)
block-well told e =
    let both = and_parts (list_all are_ascii told.names) (list_all is_ascii_named told.key.values) e in
    well-append (key_line (text_of told.names)) (value_entries told.key.values ++ line_end)
    (ascii-well (key_line (text_of told.names)) (line-ascii (text_of told.names) (text-ascii told.names both.0)))
    (well-append (value_entries told.key.values) line_end (entries-well told.key.values both.1) (ascii-well line_end refl))

block-encoded : (u : Bool) (told : Told) → is_ascii_told told ≡ true → encoded u (key_block told) ≡ block_pieces u told
block-encoded u told e =
    let both = and_parts (list_all are_ascii told.names) (list_all is_ascii_named told.key.values) e in
    ascii-before u (key_line (text_of told.names)) (value_entries told.key.values ++ line_end)
    (line-ascii (text_of told.names) (text-ascii told.names both.0))
    ∙ ap (λ (x : List ℕ). plain u (key_line (text_of told.names)) ++ x)
    (encoded-append u (value_entries told.key.values) line_end (entries-well told.key.values both.1)
    ∙ (ap (λ (x : List ℕ). x ++ encoded u line_end) (entries-encoded u told.key.values both.1)
    ∙ ap (λ (x : List ℕ). entries_pieces u told.key.values ++ x) (ascii-encoded u line_end refl)))

pub blocks-well : (all : List Told) → list_all is_ascii_told all ≡ true → IsWell (flat_map key_block all)
blocks-well [] e = ascii-well [] refl
blocks-well (t ∷ all) e =
    let both = and_parts (is_ascii_told t) (list_all is_ascii_told all) e in
    well-append (key_block t) (flat_map key_block all) (block-well t both.0) (blocks-well all both.1)

pub blocks-encoded : (u : Bool) (all : List Told) → list_all is_ascii_told all ≡ true →
    encoded u (flat_map key_block all) ≡ flat_map (block_pieces u) all
blocks-encoded u [] e = ascii-encoded u [] refl ∙ plain-none u
blocks-encoded u (t ∷ all) e =
    let both = and_parts (is_ascii_told t) (list_all is_ascii_told all) e in
    encoded-append u (key_block t) (flat_map key_block all) (block-well t both.0)
    ∙ (ap (λ (x : List ℕ). x ++ encoded u (flat_map key_block all)) (block-encoded u t both.0)
    ∙ ap (λ (x : List ℕ). block_pieces u t ++ x) (blocks-encoded u all both.1))
