-- Digits, rows and names of entries, as they are gathered.
use Rattle.std.proofs.Common.{◌≡◌, ℕ, zero, suc, ◌+◌, ◌<◌, ◌≤◌, ◌/◌, ◌%◌, ◌==◌, ◌&&◌, Bool, true, false, List, [], ◌∷◌, ◌++◌, length, drop}
use Rattle.std.proofs.Common.{reverse, get_or, slice_index, refl, sym, ap, ◌∙◌, arith, append_assoc, append-nil}
use Rattle.std.specs.Prelude.{flat_map, codes, if◌then◌else◌}
use Rattle.std.specs.Fmt.{digits}
use Rattle.std.proofs.lemmas.Bool.Decides.{nat_tests}
use Rattle.hex.specs.Hex.{encode_with, lower_digits}
use Rattle.reg_text.specs.Texts.{digits_text}
use Rattle.reg_dotreg_writer.specs.EntryTexts.{line_end, quoted, quoted_unit, name_told, hex_from, hex_rows, hex_head, plain_data, text_of_data}
use Rattle.reg_dotreg_writer.specs.Entries.{key_line}
use Rattle.reg_dotreg_writer.specs.Internal.Pieces.{plain, comma_told, room_behind, data_pieces, entry_pieces}
use Rattle.reg_dotreg_writer.proofs.PieceBytes.{plain-append, plain_two, two, four, same_bytes, next_told, none_told, plain-none}

-- ---- digits

digits-one : (b : ℕ) → digits_text (b ∷ []) ≡ slice_index lower_digits (b / 16) ∷ slice_index lower_digits (b % 16) ∷ []
unfolding encode_with
digits-one b = refl

-- a byte's two digits
pub two_digits : (u : Bool) (old mid new : List ℕ) (b high low : ℕ) → high ≡ slice_index lower_digits (b / 16) →
    low ≡ slice_index lower_digits (b % 16) → mid ≡ old ++ plain u (high ∷ []) → new ≡ mid ++ plain u (low ∷ []) →
    new ≡ old ++ plain u (digits_text (b ∷ []))
two_digits u old mid new b high low h l p q =
    plain_two u old mid new (high ∷ []) (low ∷ []) p q
    ∙ ap (λ (w : List ℕ). old ++ plain u w)
    (ap (λ (x : ℕ). x ∷ low ∷ []) h ∙ (ap (λ (x : ℕ). slice_index lower_digits (b / 16) ∷ x ∷ []) l ∙ sym (digits-one b)))

digits-cons : (b : ℕ) (bytes : List ℕ) → digits_text (b ∷ bytes) ≡ digits_text (b ∷ []) ++ digits_text bytes
unfolding encode_with
digits-cons b bytes = refl

four-told : (a b c d : ℕ) → digits_text (reverse (a ∷ b ∷ c ∷ d ∷ [])) ≡
    digits_text (d ∷ []) ++ (digits_text (c ∷ []) ++ (digits_text (b ∷ []) ++ digits_text (a ∷ [])))
unfolding encode_with
four-told a b c d = refl

-- the digits of a number of 4 bytes, the high byte's first
pub number_digits : (u : Bool) (bytes old first second third new : List ℕ) → length bytes ≡ 4 →
    first ≡ old ++ plain u (digits_text (get_or bytes 3 0 ∷ [])) → second ≡ first ++ plain u (digits_text (get_or bytes 2 0 ∷ [])) →
    third ≡ second ++ plain u (digits_text (get_or bytes 1 0 ∷ [])) → new ≡ third ++ plain u (digits_text (get_or bytes 0 0 ∷ [])) →
    new ≡ old ++ plain u (digits_text (reverse bytes))
number_digits u [] old first second third new l p q r s = absurd (omega (arith, l))
number_digits u (a ∷ []) old first second third new l p q r s = absurd (omega (arith, l))
number_digits u (a ∷ b ∷ []) old first second third new l p q r s = absurd (omega (arith, l))
number_digits u (a ∷ b ∷ c ∷ []) old first second third new l p q r s = absurd (omega (arith, l))
number_digits u (a ∷ b ∷ c ∷ d ∷ e ∷ bytes) old first second third new l p q r s = absurd (omega (arith, l))
number_digits u (a ∷ b ∷ c ∷ d ∷ []) old first second third new l p q r s =
    let three = plain_two u second third new (digits_text (b ∷ [])) (digits_text (a ∷ [])) r s in
    let two_more = plain_two u first second new (digits_text (c ∷ [])) (digits_text (b ∷ []) ++ digits_text (a ∷ [])) q three in
    plain_two u old first new (digits_text (d ∷ [])) (digits_text (c ∷ []) ++ (digits_text (b ∷ []) ++ digits_text (a ∷ []))) p two_more
    ∙ ap (λ (w : List ℕ). old ++ plain u w) (sym (four-told a b c d))

-- ---- rows

pub row_last : (room b : ℕ) (behind : List ℕ) → length behind ≡ 0 → hex_from room (b ∷ behind) ≡ digits_text (b ∷ [])
unfolding hex_from
row_last zero b [] l = refl
row_last (suc room) b [] l = refl
row_last room b (x ∷ behind) l = absurd (omega (arith, l))

pub row_next : (room b : ℕ) (behind : List ℕ) → 0 < length behind →
    hex_from room (b ∷ behind) ≡ digits_text (b ∷ []) ++ (comma_told room ++ hex_from (room_behind room) behind)
unfolding hex_from
row_next room b [] l = absurd (omega (arith, l))
row_next zero b (x ∷ behind) l = refl
row_next (suc room) b (x ∷ behind) l = refl

pub row_none : (room : ℕ) (rest : List ℕ) → length rest ≡ 0 → hex_from room rest ≡ []
unfolding hex_from
row_none zero [] l = refl
row_none (suc room) [] l = refl
row_none room (x ∷ rest) l = absurd (omega (arith, l))

-- a byte and what stands behind it were gathered
pub row_goes : (u : Bool) (room more b : ℕ) (whole rest behind now mid new : List ℕ) → now ++ plain u (hex_from room rest) ≡ whole →
    rest ≡ b ∷ behind → 0 < length behind → more ≡ room_behind room → mid ≡ now ++ plain u (digits_text (b ∷ [])) →
    new ≡ mid ++ plain u (comma_told room) → new ++ plain u (hex_from more behind) ≡ whole
row_goes u room more b whole rest behind now mid new s e l m p q =
    let parts : hex_from room rest ≡ digits_text (b ∷ []) ++ (comma_told room ++ hex_from more behind) =
    ap (hex_from room) e ∙ (row_next room b behind l ∙ ap (λ (k : ℕ). digits_text (b ∷ []) ++ (comma_told room ++ hex_from k behind)) (sym m)) in
    let told : new ≡ now ++ (plain u (digits_text (b ∷ [])) ++ plain u (comma_told room)) = two now mid new _ _ p q in
    ap (λ (w : List ℕ). w ++ plain u (hex_from more behind)) told
    ∙ (append_assoc now (plain u (digits_text (b ∷ [])) ++ plain u (comma_told room)) (plain u (hex_from more behind))
    ∙ (ap (λ (w : List ℕ). now ++ w)
    (append_assoc (plain u (digits_text (b ∷ []))) (plain u (comma_told room)) (plain u (hex_from more behind))
    ∙ (ap (λ (w : List ℕ). plain u (digits_text (b ∷ [])) ++ w) (sym (plain-append u (comma_told room) (hex_from more behind)))
    ∙ (sym (plain-append u (digits_text (b ∷ [])) (comma_told room ++ hex_from more behind)) ∙ ap (plain u) (sym parts))))
    ∙ s))

pub row_ends : (u : Bool) (room b : ℕ) (whole rest behind now new : List ℕ) → now ++ plain u (hex_from room rest) ≡ whole →
    rest ≡ b ∷ behind → length behind ≡ 0 → new ≡ now ++ plain u (digits_text (b ∷ [])) → new ≡ whole
row_ends u room b whole rest behind now new s e l p =
    p ∙ (ap (λ (w : List ℕ). now ++ plain u w) (sym (ap (hex_from room) e ∙ row_last room b behind l)) ∙ s)

pub row_over : (u : Bool) (room : ℕ) (whole rest now : List ℕ) → now ++ plain u (hex_from room rest) ≡ whole → length rest ≡ 0 → now ≡ whole
row_over u room whole rest now s l =
    sym (append-nil now) ∙ (ap (λ (w : List ℕ). now ++ w) (sym (ap (plain u) (row_none room rest l) ∙ plain-none u)) ∙ s)

-- ---- characters between quotes

pub between_next : (u : Bool) (text : List ℕ) (index : ℕ) → index < length text →
    plain u (flat_map quoted_unit (drop index text)) ≡
    plain u (quoted_unit (get_or text index 0)) ++ plain u (flat_map quoted_unit (drop (index + 1) text))
between_next u text index l =
    ap (plain u) (next_told quoted_unit text index 0 l)
    ∙ plain-append u (quoted_unit (get_or text index 0)) (flat_map quoted_unit (drop (index + 1) text))

pub between_none : (u : Bool) (text : List ℕ) (index : ℕ) → length text ≤ index → plain u (flat_map quoted_unit (drop index text)) ≡ []
between_none u text index l = ap (plain u) (none_told quoted_unit text index l) ∙ plain-none u

-- a name
pub name_none : (u : Bool) (name old new : List ℕ) → length name ≡ 0 → new ≡ old ++ plain u (64 ∷ []) → new ≡ old ++ plain u (name_told name)
name_none u [] old new l e = e
name_none u (b ∷ name) old new l e = absurd (omega (arith, l))

pub name_some : (u : Bool) (name old first mid new : List ℕ) → 0 < length name → first ≡ old ++ plain u (34 ∷ []) →
    mid ≡ first ++ plain u (flat_map quoted_unit name) → new ≡ mid ++ plain u (34 ∷ []) → new ≡ old ++ plain u (name_told name)
unfolding quoted
name_some u [] old first mid new l p q r = absurd (omega (arith, l))
name_some u (b ∷ name) old first mid new l p q r =
    plain_two u old first new (34 ∷ []) (flat_map quoted_unit (b ∷ name) ++ 34 ∷ []) p
    (plain_two u first mid new (flat_map quoted_unit (b ∷ name)) (34 ∷ []) q r)

-- ---- data and entries

pub head_binary : (kind : ℕ) → kind ≡ 3 → hex_head kind ≡ codes "hex:"
unfolding hex_head
head_binary kind e = ap (λ (k : ℕ). if k == 3 then codes "hex:" else codes "hex(" ++ (digits 16 false kind ++ codes "):")) e

pub head_other : (kind : ℕ) → ¬ (kind ≡ 3) → hex_head kind ≡ codes "hex(" ++ (digits 16 false kind ++ codes "):")
unfolding hex_head
head_other kind n =
    let other : (kind == 3) ≡ false = grind (arith, nat_tests, n) in
    ap (λ (b : Bool). if b then codes "hex:" else codes "hex(" ++ (digits 16 false kind ++ codes "):")) other

pub number_told : (u : Bool) (kind : ℕ) (bytes old mid new : List ℕ) → (kind == 4 && length bytes == 4) ≡ true →
    mid ≡ old ++ plain u (codes "dword:") → new ≡ mid ++ plain u (digits_text (reverse bytes)) → new ≡ old ++ plain u (plain_data kind bytes)
unfolding plain_data
number_told u kind bytes old mid new e p q =
    same_bytes u old new (codes "dword:" ++ digits_text (reverse bytes)) _
    (ap (λ (b : Bool). if b then codes "dword:" ++ digits_text (reverse bytes) else hex_head kind ++ hex_rows bytes) e)
    (plain_two u old mid new (codes "dword:") (digits_text (reverse bytes)) p q)

pub rows_told : (u : Bool) (kind : ℕ) (bytes old mid new : List ℕ) → (kind == 4 && length bytes == 4) ≡ false →
    mid ≡ old ++ plain u (hex_head kind) → new ≡ mid ++ plain u (hex_rows bytes) → new ≡ old ++ plain u (plain_data kind bytes)
unfolding plain_data
rows_told u kind bytes old mid new e p q =
    same_bytes u old new (hex_head kind ++ hex_rows bytes) _
    (ap (λ (b : Bool). if b then codes "dword:" ++ digits_text (reverse bytes) else hex_head kind ++ hex_rows bytes) e)
    (plain_two u old mid new (hex_head kind) (hex_rows bytes) p q)

pub entry_told : (u : Bool) (name : List ℕ) (kind : ℕ) (bytes old first second third new : List ℕ) → first ≡ old ++ plain u (name_told name) →
    second ≡ first ++ plain u (61 ∷ []) → third ≡ second ++ data_pieces u (text_of_data kind bytes) kind bytes →
    new ≡ third ++ plain u line_end → new ≡ old ++ entry_pieces u name kind bytes
unfolding entry_pieces
entry_told u name kind bytes old first second third new p q r s = four old first second third new _ _ _ _ p q r s

pub key_line_told : (u : Bool) (path old first second new : List ℕ) → first ≡ old ++ plain u (91 ∷ []) → second ≡ first ++ plain u path →
    new ≡ second ++ plain u (93 ∷ line_end) → new ≡ old ++ plain u (key_line path)
unfolding key_line
key_line_told u path old first second new p q r =
    plain_two u old first new (91 ∷ []) (path ++ 93 ∷ line_end) p (plain_two u first second new path (93 ∷ line_end) q r)
