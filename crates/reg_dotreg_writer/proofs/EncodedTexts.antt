-- Units in UTF-8 and UTF-16, text by text: well-formed ones one behind the other, and characters of ASCII.
use Rattle.std.proofs.Common.{◌≡◌, ℕ, ◌<◌, ◌/◌, ◌%◌, Bool, true, false, not, ◌&&◌, List, [], ◌∷◌, ◌++◌, map, is_some, Option, Some, refl, sym, ap, ◌∙◌, arith}
use Rattle.std.specs.Prelude.{nat_lt, flat_map, encode_utf8_all}
use Rattle.std.specs.List.{list_all, list_any}
use Rattle.std.specs.Option.{unwrap_or}
use Rattle.std.specs.Char.Utf16.{utf16_chars, utf16_lossy_chars, has_unpaired_surrogate, is_high_surrogate, is_low_surrogate}
use Rattle.std.specs.Char.Utf16.{lone_unit_char, surrogate_pair_char}
use Rattle.std.proofs.lemmas.Bool.{and_parts, and_from, or_parts, or_from}
use Rattle.std.proofs.lemmas.Bool.Decides.{nat_tests}
use Rattle.std.proofs.lemmas.List.{map-append}
use Rattle.std.proofs.lemmas.List.Folds.{list_all-append, list_any-append}
use Rattle.std.proofs.lemmas.Str.{encodes-append, encode_ascii}
use Rattle.reg_dotreg_writer.specs.Entries.{encoded, unit_bytes}
use Rattle.reg_dotreg_writer.specs.Internal.Pieces.{plain}
use Rattle.reg_dotreg_writer.proofs.PieceBytes.{flat_map-append}
use Rattle.reg_dotreg_writer.proofs.EntryUnits.{chars-no_pair, chars-pair, lone-some, lone-high}

abbrev unpaired : List (Option ℕ) → Bool
unpaired chars = list_any (λ (o : Option ℕ). not (is_some o)) chars

-- each surrogate has its partner
abbrev pub IsWell : List ℕ → Type 0
IsWell units = has_unpaired_surrogate units ≡ false

-- ---- one text behind another

-- the first character of well-formed units is in no pair, and no surrogate
chars-first : (u : ℕ) (rest : List ℕ) → is_high_surrogate u ≡ false → utf16_chars (u ∷ rest) ≡ lone_unit_char u ∷ utf16_chars rest
unfolding utf16_chars
chars-first u [] high = refl
chars-first u (v ∷ rest) high = chars-no_pair u v rest (ap (λ (b : Bool). b && is_low_surrogate v) high)

not-high : (u : ℕ) → not (is_some (lone_unit_char u)) ≡ false → is_high_surrogate u ≡ false
not-high u e = by (is_high_surrogate u) refl
  where
    by : (b : Bool) → is_high_surrogate u ≡ b → is_high_surrogate u ≡ false
    by true h = absurd (let n = ap (λ (o : Option ℕ). not (is_some o)) (lone-high u h) in cc)
    by false h = h

last-well : (u : ℕ) → IsWell (u ∷ []) → is_high_surrogate u ≡ false
unfolding utf16_chars
last-well u w = not-high u (or_parts (not (is_some (lone_unit_char u))) false w).0

pub well-pair : (u v : ℕ) (rest : List ℕ) → (is_high_surrogate u && is_low_surrogate v) ≡ true → IsWell (u ∷ v ∷ rest) → IsWell rest
well-pair u v rest p w = sym (ap unpaired (chars-pair u v rest p)) ∙ w

pub well-lone : (u v : ℕ) (rest : List ℕ) → (is_high_surrogate u && is_low_surrogate v) ≡ false → IsWell (u ∷ v ∷ rest) → IsWell (v ∷ rest)
well-lone u v rest n w =
    (or_parts (not (is_some (lone_unit_char u))) (has_unpaired_surrogate (v ∷ rest)) (sym (ap unpaired (chars-no_pair u v rest n)) ∙ w)).1

-- a unit that is no surrogate, before well-formed units; and a pair
pub well-unit : (u : ℕ) (rest : List ℕ) → not (is_some (lone_unit_char u)) ≡ false → IsWell rest → IsWell (u ∷ rest)
well-unit u rest e w =
    ap unpaired (chars-first u rest (not-high u e))
    ∙ or_from (not (is_some (lone_unit_char u))) (has_unpaired_surrogate rest) e w

pub well-pair_on : (u v : ℕ) (rest : List ℕ) → (is_high_surrogate u && is_low_surrogate v) ≡ true → IsWell rest → IsWell (u ∷ v ∷ rest)
well-pair_on u v rest p w = ap unpaired (chars-pair u v rest p) ∙ w

pub well-last : (u : ℕ) → IsWell (u ∷ []) → not (is_some (lone_unit_char u)) ≡ false
unfolding utf16_chars
well-last u w = (or_parts (not (is_some (lone_unit_char u))) false w).0

pub well-unpaired : (u v : ℕ) (rest : List ℕ) → (is_high_surrogate u && is_low_surrogate v) ≡ false → IsWell (u ∷ v ∷ rest) →
    not (is_some (lone_unit_char u)) ≡ false
well-unpaired u v rest n w =
    (or_parts (not (is_some (lone_unit_char u))) (has_unpaired_surrogate (v ∷ rest)) (sym (ap unpaired (chars-no_pair u v rest n)) ∙ w)).0

chars-none : (b : List ℕ) → utf16_chars b ≡ utf16_chars [] ++ utf16_chars b
unfolding utf16_chars
chars-none b = refl

chars-alone : (u : ℕ) → utf16_chars (u ∷ []) ≡ lone_unit_char u ∷ []
unfolding utf16_chars
chars-alone u = refl

chars-by : (u v : ℕ) (a b : List ℕ) (t : Bool) → (is_high_surrogate u && is_low_surrogate v) ≡ t → IsWell (u ∷ v ∷ a) →
    (IsWell a → utf16_chars (a ++ b) ≡ utf16_chars a ++ utf16_chars b) →
    (IsWell (v ∷ a) → utf16_chars (v ∷ a ++ b) ≡ utf16_chars (v ∷ a) ++ utf16_chars b) →
    utf16_chars (u ∷ v ∷ a ++ b) ≡ utf16_chars (u ∷ v ∷ a) ++ utf16_chars b
chars-by u v a b true p w behind next =
    chars-pair u v (a ++ b) p
    ∙ (ap (λ (x : List (Option ℕ)). Some (surrogate_pair_char u v) ∷ x) (behind (well-pair u v a p w))
    ∙ ap (λ (x : List (Option ℕ)). x ++ utf16_chars b) (sym (chars-pair u v a p)))
chars-by u v a b false n w behind next =
    chars-no_pair u v (a ++ b) n
    ∙ (ap (λ (x : List (Option ℕ)). lone_unit_char u ∷ x) (next (well-lone u v a n w))
    ∙ ap (λ (x : List (Option ℕ)). x ++ utf16_chars b) (sym (chars-no_pair u v a n)))

pub chars-append : (a b : List ℕ) → IsWell a → utf16_chars (a ++ b) ≡ utf16_chars a ++ utf16_chars b
chars-append [] b w = chars-none b
chars-append (u ∷ []) b w =
    chars-first u b (last-well u w) ∙ ap (λ (x : List (Option ℕ)). x ++ utf16_chars b) (sym (chars-alone u))
chars-append (u ∷ v ∷ a) b w =
    chars-by u v a b (is_high_surrogate u && is_low_surrogate v) refl w (λ (x : IsWell a). chars-append a b x)
    (λ (x : IsWell (v ∷ a)). chars-append (v ∷ a) b x)

pub encoded-append : (is_utf8 : Bool) (a b : List ℕ) → IsWell a → encoded is_utf8 (a ++ b) ≡ encoded is_utf8 a ++ encoded is_utf8 b
unfolding encoded
encoded-append true a b w =
    ap (λ (x : List (Option ℕ)). encode_utf8_all (map (λ (o : Option ℕ). unwrap_or o 65533) x)) (chars-append a b w)
    ∙ (ap encode_utf8_all (map-append (λ (o : Option ℕ). unwrap_or o 65533) (utf16_chars a) (utf16_chars b))
    ∙ encodes-append (utf16_lossy_chars a) (utf16_lossy_chars b))
encoded-append false a b w = flat_map-append unit_bytes a b

pub well-append : (a b : List ℕ) → IsWell a → IsWell b → IsWell (a ++ b)
well-append a b p q =
    ap unpaired (chars-append a b p)
    ∙ (list_any-append (λ (o : Option ℕ). not (is_some o)) (utf16_chars a) (utf16_chars b)
    ∙ or_from (has_unpaired_surrogate a) (has_unpaired_surrogate b) p q)

-- ---- characters of ASCII

abbrev pub are_ascii : List ℕ → Bool
are_ascii units = list_all (λ (u : ℕ). nat_lt u 128) units

pub ascii-append : (a b : List ℕ) → are_ascii a ≡ true → are_ascii b ≡ true → are_ascii (a ++ b) ≡ true
ascii-append a b p q = list_all-append (λ (u : ℕ). nat_lt u 128) a b ∙ and_from (are_ascii a) (are_ascii b) p q

ascii-lone : (u : ℕ) (rest : List ℕ) → nat_lt u 128 ≡ true → utf16_chars (u ∷ rest) ≡ Some u ∷ utf16_chars rest
ascii-lone u rest e =
    let high : is_high_surrogate u ≡ false = grind (arith, nat_tests, e) in
    let low : is_low_surrogate u ≡ false = grind (arith, nat_tests, e) in
    chars-first u rest high ∙ ap (λ (o : Option ℕ). o ∷ utf16_chars rest) (lone-some u high low)

-- a character of ASCII before well-formed units
pub well-cons : (u : ℕ) (rest : List ℕ) → nat_lt u 128 ≡ true → IsWell rest → IsWell (u ∷ rest)
well-cons u rest e w = ap unpaired (ascii-lone u rest e) ∙ w

none-well : IsWell []
unfolding utf16_chars
none-well = refl

pub ascii-well : (units : List ℕ) → are_ascii units ≡ true → IsWell units
ascii-well [] e = none-well
ascii-well (u ∷ units) e =
    let both = and_parts (nat_lt u 128) (are_ascii units) e in well-cons u units both.0 (ascii-well units both.1)

low-half : (u : ℕ) → nat_lt u 128 ≡ true → unit_bytes u ≡ u ∷ 0 ∷ []
low-half u e =
    let l : u < 128 = grind (arith, nat_tests, e) in
    let m : u % 256 ≡ u = omega (arith, l) in
    let d : u / 256 ≡ 0 = omega (arith, l) in
    ap (λ (x : ℕ). x ∷ u / 256 ∷ []) m ∙ ap (λ (x : ℕ). u ∷ x ∷ []) d

none-encoded : encode_utf8_all (utf16_lossy_chars []) ≡ []
unfolding utf16_chars
none-encoded = refl

pub ascii-encoded : (is_utf8 : Bool) (units : List ℕ) → are_ascii units ≡ true → encoded is_utf8 units ≡ plain is_utf8 units
unfolding encoded
ascii-encoded true [] e = none-encoded
ascii-encoded true (u ∷ units) e =
    let both = and_parts (nat_lt u 128) (are_ascii units) e in
    let l : u < 128 = grind (arith, nat_tests, both.0) in
    ap (λ (x : List (Option ℕ)). encode_utf8_all (map (λ (o : Option ℕ). unwrap_or o 65533) x)) (ascii-lone u units both.0)
    ∙ (ap (λ (x : List ℕ). x ++ encode_utf8_all (utf16_lossy_chars units)) (encode_ascii u l)
    ∙ ap (λ (x : List ℕ). u ∷ x) (ascii-encoded true units both.1))
ascii-encoded false [] e = refl
ascii-encoded false (u ∷ units) e =
    let both = and_parts (nat_lt u 128) (are_ascii units) e in
    ap (λ (x : List ℕ). x ++ flat_map unit_bytes units) (low-half u both.0)
    ∙ ap (λ (x : List ℕ). u ∷ 0 ∷ x) (ascii-encoded false units both.1)

-- characters of ASCII before other units
pub ascii-before : (is_utf8 : Bool) (a b : List ℕ) → are_ascii a ≡ true → encoded is_utf8 (a ++ b) ≡ plain is_utf8 a ++ encoded is_utf8 b
ascii-before is_utf8 a b e =
    encoded-append is_utf8 a b (ascii-well a e) ∙ ap (λ (w : List ℕ). w ++ encoded is_utf8 b) (ascii-encoded is_utf8 a e)
