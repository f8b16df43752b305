-- Strings read back: what the text between quotes says of the bytes.
use Rattle.std.proofs.Common.{◌≡◌, ℕ, ◌+◌, ◌*◌, ◌/◌, ◌%◌, ◌<◌, ◌==◌, Bool, true, false, List, [], ◌∷◌, ◌++◌, Option, Some, None, refl, sym, ap, ◌∙◌, arith}
use Rattle.std.specs.Prelude.{if◌then◌else◌, flat_map}
use Rattle.std.specs.List.{AllByRecursion}
use Rattle.std.specs.Option.{option_map, option_and_then}
use Rattle.std.proofs.lemmas.Bool.Decides.{nat_tests}
use Rattle.std.proofs.lemmas.Option.{same_Some}
use Rattle.reg_tree_text.specs.ValueTexts.{units_of}
use Rattle.reg_dotreg_writer.specs.EntryTexts.{text_before_zero, if_line_text, is_line_text, string_text}
use Rattle.reg_dotreg_writer.specs.Entries.{unit_bytes}

-- units that end with a zero
alone-back : (unit : ℕ) (front : List ℕ) → (if unit == 0 then Some [] else None) ≡ Some front → unit ∷ [] ≡ front ++ 0 ∷ []
alone-back unit front e = by (unit == 0) refl e
  where
    by : (b : Bool) → (unit == 0) ≡ b → (if b then Some [] else None) ≡ Some front → unit ∷ [] ≡ front ++ 0 ∷ []
    by true z f =
        let zero_is : unit ≡ 0 = grind (arith, nat_tests, z) in
        ap (λ (u : ℕ). u ∷ []) zero_is ∙ ap (λ (w : List ℕ). w ++ 0 ∷ []) (same_Some _ _ f)
    by false z f = absurd (cc)

more-back : (unit : ℕ) (units front : List ℕ) (o : Option (List ℕ)) → ((text : List ℕ) → o ≡ Some text → units ≡ text ++ 0 ∷ []) →
    option_map (λ text. unit ∷ text) o ≡ Some front → unit ∷ units ≡ front ++ 0 ∷ []
more-back unit units front None back e = absurd (cc)
more-back unit units front (Some text) back e =
    ap (λ (w : List ℕ). unit ∷ w) (back text refl) ∙ ap (λ (w : List ℕ). w ++ 0 ∷ []) (same_Some _ _ e)

zero-back : (units front : List ℕ) → text_before_zero units ≡ Some front → units ≡ front ++ 0 ∷ []
zero-back [] front e = absurd (cc)
zero-back (unit ∷ []) front e = alone-back unit front e
zero-back (unit ∷ next ∷ units) front e =
    more-back unit (next ∷ units) front (text_before_zero (next ∷ units)) (λ text f. zero-back (next ∷ units) text f) e

-- the bytes of a string are the units of its text and a zero
pub string-units : (bytes text : List ℕ) → string_text bytes ≡ Some text → units_of bytes ≡ Some (text ++ 0 ∷ [])
string-units bytes text e = of-units (units_of bytes) e
  where
    of-front : (o : Option (List ℕ)) → option_and_then if_line_text o ≡ Some text → o ≡ Some text
    of-front None f = absurd (cc)
    of-front (Some front) f = of-test (is_line_text front) f
      where
        of-test : (b : Bool) → (if b then Some front else None) ≡ Some text → Some front ≡ Some text
        of-test true g = g
        of-test false g = absurd (cc)

    of-units : (o : Option (List ℕ)) → option_and_then if_line_text (option_and_then text_before_zero o) ≡ Some text → o ≡ Some (text ++ 0 ∷ [])
    of-units None f = absurd (cc)
    of-units (Some units) f = ap Some (zero-back units text (of-front (text_before_zero units) f))

-- units of bytes are these bytes
unit-back : (low high : ℕ) → low < 256 → high < 256 → unit_bytes (low + 256 * high) ≡ low ∷ high ∷ []
unit-back low high l h =
    let m : (low + 256 * high) % 256 ≡ low = omega (arith, l, h) in
    let d : (low + 256 * high) / 256 ≡ high = omega (arith, l, h) in
    ap (λ (x : ℕ). x ∷ (low + 256 * high) / 256 ∷ []) m ∙ ap (λ (x : ℕ). low ∷ x ∷ []) d

rest-back : (low high : ℕ) (bytes units : List ℕ) (o : Option (List ℕ)) → low < 256 → high < 256 →
    ((more : List ℕ) → o ≡ Some more → flat_map unit_bytes more ≡ bytes) →
    option_map (λ units. (low + 256 * high) ∷ units) o ≡ Some units → flat_map unit_bytes units ≡ low ∷ high ∷ bytes
rest-back low high bytes units None l h back e = absurd (cc)
rest-back low high bytes units (Some more) l h back e =
    ap (flat_map unit_bytes) (sym (same_Some _ _ e))
    ∙ (ap (λ (w : List ℕ). w ++ flat_map unit_bytes more) (unit-back low high l h) ∙ ap (λ (w : List ℕ). low ∷ high ∷ w) (back more refl))

pub units-back : (bytes units : List ℕ) → AllByRecursion (λ (b : ℕ). b < 256) bytes → units_of bytes ≡ Some units → flat_map unit_bytes units ≡ bytes
units-back [] units a e = ap (flat_map unit_bytes) (sym (same_Some _ _ e))
units-back (low ∷ []) units a e = absurd (cc)
units-back (low ∷ high ∷ bytes) units a e =
    rest-back low high bytes units (units_of bytes) a.0 a.1.0 (λ more f. units-back bytes more a.1.1 f) e
