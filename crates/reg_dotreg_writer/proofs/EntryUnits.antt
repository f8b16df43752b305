-- Strings of entries: units read, and characters of one unit or two.
use Rattle.std.proofs.Common.{◌≡◌, ℕ, Bool, true, false, not, ◌==◌, ◌&&◌, ◌||◌, List, [], ◌∷◌, ◌++◌, length, is_some, Option, Some, None}
use Rattle.std.proofs.Common.{refl, sym, ap, ◌∙◌, arith}
use Rattle.std.specs.Prelude.{if◌then◌else◌, nat_lt, nat_le}
use Rattle.std.specs.Option.{option_map, option_and_then}
use Rattle.std.specs.Char.Utf16.{utf16_chars, has_unpaired_surrogate, is_high_surrogate, is_low_surrogate, lone_unit_char, surrogate_pair_char}
use Rattle.std.specs.List.{list_any}
use Rattle.std.proofs.lemmas.Bool.Decides.{nat_tests}
use Rattle.reg_tree_text.specs.ValueTexts.{units_of}
use Rattle.reg_dotreg_writer.specs.EntryTexts.{text_before_zero, if_line_text, is_line_text, string_text}
use Rattle.reg_dotreg_writer.specs.Internal.Pieces.{IsBehind}

-- ---- characters

pub chars-no_pair : (u v : ℕ) (units : List ℕ) → (is_high_surrogate u && is_low_surrogate v) ≡ false →
    utf16_chars (u ∷ v ∷ units) ≡ lone_unit_char u ∷ utf16_chars (v ∷ units)
unfolding utf16_chars
chars-no_pair u v units n =
    ap (λ (b : Bool). if b then Some (surrogate_pair_char u v) ∷ utf16_chars units else lone_unit_char u ∷ utf16_chars (v ∷ units)) n

pub chars-pair : (u v : ℕ) (units : List ℕ) → (is_high_surrogate u && is_low_surrogate v) ≡ true →
    utf16_chars (u ∷ v ∷ units) ≡ Some (surrogate_pair_char u v) ∷ utf16_chars units
unfolding utf16_chars
chars-pair u v units p =
    ap (λ (b : Bool). if b then Some (surrogate_pair_char u v) ∷ utf16_chars units else lone_unit_char u ∷ utf16_chars (v ∷ units)) p

abbrev unpaired : List (Option ℕ) → Bool
unpaired chars = list_any (λ (o : Option ℕ). not (is_some o)) chars

-- ---- a unit that is in no pair

pub lone-some : (u : ℕ) → is_high_surrogate u ≡ false → is_low_surrogate u ≡ false → lone_unit_char u ≡ Some u
lone-some u high low =
    let none : (nat_le 55296 u && nat_lt u 57344) ≡ false = grind (arith, nat_tests, high, low) in ap (λ (b : Bool). if b then None else Some u) none

pub lone-high : (u : ℕ) → is_high_surrogate u ≡ true → lone_unit_char u ≡ None
lone-high u high =
    let some : (nat_le 55296 u && nat_lt u 57344) ≡ true = grind (arith, nat_tests, high) in ap (λ (b : Bool). if b then None else Some u) some

lone-low : (u : ℕ) → is_low_surrogate u ≡ true → lone_unit_char u ≡ None
lone-low u low =
    let some : (nat_le 55296 u && nat_lt u 57344) ≡ true = grind (arith, nat_tests, low) in ap (λ (b : Bool). if b then None else Some u) some

pub alone : (u : ℕ) (rest : List ℕ) → utf16_chars (u ∷ rest) ≡ lone_unit_char u ∷ utf16_chars rest →
    (is_high_surrogate u || is_low_surrogate u) ≡ true → has_unpaired_surrogate (u ∷ rest) ≡ true
alone u rest e s = by (is_high_surrogate u) (is_low_surrogate u) refl refl s
  where
    none : lone_unit_char u ≡ None → has_unpaired_surrogate (u ∷ rest) ≡ true
    none n = ap unpaired (e ∙ ap (λ (o : Option ℕ). o ∷ utf16_chars rest) n)

    by : (a b : Bool) → is_high_surrogate u ≡ a → is_low_surrogate u ≡ b → (a || b) ≡ true → has_unpaired_surrogate (u ∷ rest) ≡ true
    by true b h l s = none (lone-high u h)
    by false true h l s = none (lone-low u l)
    by false false h l s = absurd (cc)

pub behind_one : (u : ℕ) (rest : List ℕ) → utf16_chars (u ∷ rest) ≡ lone_unit_char u ∷ utf16_chars rest →
    (is_high_surrogate u || is_low_surrogate u) ≡ false → IsBehind u rest rest
behind_one u rest e s = by (is_high_surrogate u) (is_low_surrogate u) refl refl s
  where
    by : (a b : Bool) → is_high_surrogate u ≡ a → is_low_surrogate u ≡ b → (a || b) ≡ false → IsBehind u rest rest
    by true b h l s = absurd (cc)
    by false true h l s = absurd (cc)
    by false false h l s =
        record { shorter = omega arith; same = sym (ap unpaired (e ∙ ap (λ (o : Option ℕ). o ∷ utf16_chars rest) (lone-some u h l))) }

-- ---- pairs

pub lone_last : (u : ℕ) (rest : List ℕ) → length rest ≡ 0 → utf16_chars (u ∷ rest) ≡ lone_unit_char u ∷ utf16_chars rest
unfolding utf16_chars
lone_last u [] l = refl
lone_last u (v ∷ rest) l = absurd (omega (arith, l))

pub lone_first : (u v : ℕ) (rest behind : List ℕ) → rest ≡ v ∷ behind → (is_high_surrogate u && is_low_surrogate v) ≡ false →
    utf16_chars (u ∷ rest) ≡ lone_unit_char u ∷ utf16_chars rest
lone_first u v rest behind e n =
    ap (λ (w : List ℕ). utf16_chars (u ∷ w)) e
    ∙ (chars-no_pair u v behind n ∙ ap (λ (w : List ℕ). lone_unit_char u ∷ utf16_chars w) (sym e))

pub behind_pair : (u v : ℕ) (rest behind : List ℕ) → rest ≡ v ∷ behind → (is_high_surrogate u && is_low_surrogate v) ≡ true →
    IsBehind u rest behind
behind_pair u v rest behind e p = record {
  shorter = let l = ap length e in omega (arith, l);
  same = sym (ap (λ (w : List ℕ). has_unpaired_surrogate (u ∷ w)) e ∙ ap unpaired (chars-pair u v behind p));
}

-- no unit is left
pub all_formed : (rest units : List ℕ) → has_unpaired_surrogate rest ≡ has_unpaired_surrogate units → length rest ≡ 0 →
    true ≡ not (has_unpaired_surrogate units)
unfolding utf16_chars
all_formed [] units e l = ap not e
all_formed (u ∷ rest) units e l = absurd (omega (arith, l))

-- ---- the zero at the end

onto : (b : Bool) (x : ℕ) (text : List ℕ) → option_map (λ t. x ∷ t) (if b then Some text else None) ≡ (if b then Some (x ∷ text) else None)
onto true x text = refl
onto false x text = refl

before-zero : (front : List ℕ) (unit : ℕ) → text_before_zero (front ++ unit ∷ []) ≡ (if unit == 0 then Some front else None)
before-zero [] unit = refl
before-zero (x ∷ []) unit = onto (unit == 0) x []
before-zero (x ∷ y ∷ front) unit = ap (option_map (λ t. x ∷ t)) (before-zero (y ∷ front) unit) ∙ onto (unit == 0) x (y ∷ front)

-- the text of some bytes: no units; none; without a zero at their end; of units that may not stand between quotes; the text
pub text_odd : (bytes : List ℕ) → None ≡ units_of bytes → None ≡ string_text bytes
text_odd bytes e = ap (λ (o : Option (List ℕ)). option_and_then if_line_text (option_and_then text_before_zero o)) e

units-text : (bytes units : List ℕ) → Some units ≡ units_of bytes → option_and_then if_line_text (text_before_zero units) ≡ string_text bytes
units-text bytes units e = ap (λ (o : Option (List ℕ)). option_and_then if_line_text (option_and_then text_before_zero o)) e

pub text_none : (bytes units : List ℕ) → Some units ≡ units_of bytes → length units ≡ 0 → None ≡ string_text bytes
text_none bytes [] e l = units-text bytes [] e
text_none bytes (x ∷ units) e l = absurd (omega (arith, l))

ended-text : (bytes units front : List ℕ) (unit : ℕ) → Some units ≡ units_of bytes → units ≡ front ++ unit ∷ [] →
    option_and_then if_line_text (if unit == 0 then Some front else None) ≡ string_text bytes
ended-text bytes units front unit e s =
    ap (option_and_then if_line_text) (sym (ap text_before_zero s ∙ before-zero front unit)) ∙ units-text bytes units e

pub text_open : (bytes units front : List ℕ) (unit : ℕ) → Some units ≡ units_of bytes → units ≡ front ++ unit ∷ [] → (unit == 0) ≡ false →
    None ≡ string_text bytes
text_open bytes units front unit e s n =
    sym (ap (λ (b : Bool). option_and_then if_line_text (if b then Some front else None)) n) ∙ ended-text bytes units front unit e s

pub text_unfit : (bytes units front : List ℕ) (unit : ℕ) → Some units ≡ units_of bytes → units ≡ front ++ unit ∷ [] → unit ≡ 0 →
    is_line_text front ≡ false → None ≡ string_text bytes
text_unfit bytes units front unit e s z f =
    sym (ap (λ (x : ℕ). option_and_then if_line_text (if x == 0 then Some front else None)) z
    ∙ ap (λ (b : Bool). if b then Some front else None) f)
    ∙ ended-text bytes units front unit e s

pub text_fit : (bytes units front : List ℕ) (unit : ℕ) → Some units ≡ units_of bytes → units ≡ front ++ unit ∷ [] → unit ≡ 0 →
    is_line_text front ≡ true → Some front ≡ string_text bytes
text_fit bytes units front unit e s z f =
    sym (ap (λ (x : ℕ). option_and_then if_line_text (if x == 0 then Some front else None)) z
    ∙ ap (λ (b : Bool). if b then Some front else None) f)
    ∙ ended-text bytes units front unit e s

pub fit_same : (given front : List ℕ) (r b : Bool) → given ≡ front → r ≡ is_line_text given → r ≡ b → is_line_text front ≡ b
fit_same given front r b g e f = sym (e ∙ ap is_line_text g) ∙ f
