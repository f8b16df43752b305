-- The entry of a value in each of its forms, read as that value.
use Rattle.std.proofs.Common.{◌≡◌, ℕ, ◌<◌, ◌==◌, ◌&&◌, not, Bool, true, false, List, [], ◌∷◌, ◌++◌, length}
use Rattle.std.proofs.Common.{reverse, Option, Some, None, refl, sym, ap, subst, arith, append_assoc}
use Rattle.std.specs.Prelude.{flat_map, codes, if◌then◌else◌}
use Rattle.std.specs.List.{list_all}
use Rattle.std.specs.Option.{option_map, option_and_then, unwrap_or}
use Rattle.std.specs.Fmt.{digits}
use Rattle.std.specs.Char.Utf16.{has_unpaired_surrogate}
use Rattle.std.proofs.lemmas.Bool.{and_parts, and_from}
use Rattle.std.proofs.lemmas.Bool.Decides.{nat_tests}
use Rattle.std.proofs.lemmas.Option.{same_Some}
use Rattle.hex.specs.Hex.{encode_with}
use Rattle.reg_names.specs.Names.{is_value_name}
use Rattle.reg_heap.specs.Paths.{Member}
use Rattle.reg_text.specs.Texts.{digits_text}
use Rattle.reg_dotreg_writer.specs.EntryTexts.{line_end, is_text_unit, quoted_unit, quoted, name_told, text_before_zero, is_line_text}
use Rattle.reg_dotreg_writer.specs.EntryTexts.{if_line_text, string_text, hex_rows, hex_head, plain_data, text_of_data, data_told, value_entry}
use Rattle.reg_tree_text.specs.ValueTexts.{units_of}
use Rattle.reg_dotreg_writer.proofs.StringsBack.{string-units, units-back}
use Rattle.reg_dotreg_writer.proofs.EntryPieces.{head_binary, head_other}
use Rattle.reg_dotreg_reader.specs.declared.entry.Entry.TheVariants.{Value}
use Rattle.reg_dotreg_law.specs.ReadBack.{IsKept, Says}
use Rattle.reg_dotreg_law.proofs.LineEnds.{is_inline, are_inline, inline-append, Ends, ends-one, ends-behind}
use Rattle.reg_dotreg_law.proofs.DigitsBack.{is_within, two, number-back, kind-within}
use Rattle.reg_dotreg_law.proofs.ListsBack.{AreBytes, list_from, list-ends, within-inline}
use Rattle.reg_dotreg_law.proofs.PlacesBack.{are_bare, bare-append, bare-passes, two-bare, kind-bare, quoted-passes}
use Rattle.reg_dotreg_law.proofs.RowsBack.{two-inline}
use Rattle.reg_dotreg_law.proofs.DataBack.{text-back, dword-back, binary-back, kinded-back}
use Rattle.reg_dotreg_law.proofs.ValuesBack.{line-inline, text-inline, between-inline, says-alone, says-hex}

-- ---- what the tests say

pub is-kind : (kind : ℕ) (o : Option (List ℕ)) (text : List ℕ) → (if kind == 1 then o else None) ≡ Some text → (kind ≡ 1) × (o ≡ Some text)
is-kind kind o text e = by (kind == 1) refl e
  where
    by : (b : Bool) → (kind == 1) ≡ b → (if b then o else None) ≡ Some text → (kind ≡ 1) × (o ≡ Some text)
    by true k f = (grind (arith, nat_tests, k), f)
    by false k f = absurd (cc)

line-text : (o : Option (List ℕ)) (text : List ℕ) → option_and_then if_line_text o ≡ Some text → is_line_text text ≡ true
line-text None text e = absurd (cc)
line-text (Some front) text e = by (is_line_text front) refl e
  where
    by : (b : Bool) → is_line_text front ≡ b → (if b then Some front else None) ≡ Some text → is_line_text text ≡ true
    by true l f = let same : front ≡ text = same_Some _ _ f in subst (λ (w : List ℕ). is_line_text w ≡ true) same l
    by false l f = absurd (cc)

string-inline : (bytes text : List ℕ) → string_text bytes ≡ Some text → are_inline text ≡ true
string-inline bytes text e =
    text-inline text
    (and_parts (list_all is_text_unit text) (not (has_unpaired_surrogate text))
    (line-text (option_and_then text_before_zero (units_of bytes)) text e)).0

-- ---- digits

four-told : (x y z v : ℕ) → digits_text (reverse (x ∷ y ∷ z ∷ v ∷ [])) ≡ two v ++ (two z ++ (two y ++ two x))
unfolding encode_with
four-told x y z v = refl

-- digits of 4 bytes
pub record AreDigits (ds : List ℕ) : Type 0 where
  pub inline : are_inline ds ≡ true
  pub bare : are_bare ds ≡ true
  pub ends : Ends ds

four-digits : (x y z v : ℕ) → AreBytes (x ∷ y ∷ z ∷ v ∷ []) → AreDigits (digits_text (reverse (x ∷ y ∷ z ∷ v ∷ [])))
four-digits x y z v a =
    subst AreDigits (sym (four-told x y z v)) (record {
      inline =
          inline-append (two v) (two z ++ (two y ++ two x)) (two-inline v a.1.1.1.0)
          (inline-append (two z) (two y ++ two x) (two-inline z a.1.1.0)
          (inline-append (two y) (two x) (two-inline y a.1.0) (two-inline x a.0)));
      bare =
          bare-append (two v) (two z ++ (two y ++ two x)) (two-bare v a.1.1.1.0)
          (bare-append (two z) (two y ++ two x) (two-bare z a.1.1.0) (bare-append (two y) (two x) (two-bare y a.1.0) (two-bare x a.0)));
      ends = ends-behind (two v) (two z ++ (two y ++ two x)) (ends-behind (two z) (two y ++ two x)
          (ends-behind (two y) (two x) (list-ends 0 x [] (a.0, tt))));
    })

number-digits : (bytes : List ℕ) → AreBytes bytes → length bytes ≡ 4 → AreDigits (digits_text (reverse bytes))
number-digits [] a l = absurd (omega (arith, l))
number-digits (x ∷ []) a l = absurd (omega (arith, l))
number-digits (x ∷ y ∷ []) a l = absurd (omega (arith, l))
number-digits (x ∷ y ∷ z ∷ []) a l = absurd (omega (arith, l))
number-digits (x ∷ y ∷ z ∷ v ∷ []) a l = four-digits x y z v a
number-digits (x ∷ y ∷ z ∷ v ∷ w ∷ bytes) a l = absurd (omega (arith, l))

within-all : (ds : List ℕ) → list_all is_within ds ≡ true → are_inline ds ≡ true
within-all [] e = refl
within-all (d ∷ ds) e =
    let both = and_parts (is_within d) (list_all is_within ds) e in
    and_from (is_inline d) (are_inline ds) (within-inline d both.0) (within-all ds both.1)

-- ---- each form

module _ (root name : List ℕ) (named : is_value_name name ≡ true) (inline : are_inline name ≡ true) where
  abbrev SaysData : (kind : ℕ) (bytes told : List ℕ) → Type 0
  SaysData kind bytes told = Says root true (name_told name ++ (61 ∷ (told ++ line_end))) (Value name kind bytes ∷ []) true

  string-says : (bytes text : List ℕ) → AreBytes bytes → string_text bytes ≡ Some text → SaysData 1 bytes (quoted text)
  unfolding quoted
  string-says bytes text a e =
      let fine = string-inline bytes text e in
      let back = units-back bytes (text ++ 0 ∷ []) a (string-units bytes text e) in
      says-alone root name 1 bytes named inline (flat_map quoted_unit text ++ 34 ∷ []) 34 (between-inline text fine)
      (quoted-passes text)
      (ends-behind (34 ∷ flat_map quoted_unit text) (34 ∷ []) (ends-one 34 refl)) refl refl (text-back text bytes back)

  number-says : (bytes : List ℕ) → AreBytes bytes → length bytes ≡ 4 → SaysData 4 bytes (codes "dword:" ++ digits_text (reverse bytes))
  number-says bytes a l =
      let d = number-digits bytes a l in
      says-alone root name 4 bytes named inline (codes "word:" ++ digits_text (reverse bytes)) 100
      (inline-append (codes "dword:") (digits_text (reverse bytes)) refl d.inline)
      (bare-passes (codes "dword:" ++ digits_text (reverse bytes)) (bare-append (codes "dword:") (digits_text (reverse bytes)) refl d.bare))
      (ends-behind (codes "dword:") (digits_text (reverse bytes)) d.ends) refl refl
      (dword-back (digits_text (reverse bytes)) (4, bytes) (number-back bytes a l))

  binary-says : (bytes : List ℕ) → AreBytes bytes → SaysData 3 bytes (codes "hex:" ++ hex_rows bytes)
  binary-says bytes a =
      says-hex root name 3 bytes named inline (codes "hex:") (codes "ex:" ++ list_from 24 bytes) 104 refl refl
      (ends-behind (codes "hex") (58 ∷ []) (ends-one 58 refl)) a refl refl refl (binary-back bytes a)

  kinded-says : (kind : ℕ) (bytes : List ℕ) → kind < 4294967296 → AreBytes bytes →
      SaysData kind bytes ((codes "hex(" ++ (digits 16 false kind ++ codes "):")) ++ hex_rows bytes)
  kinded-says kind bytes l a =
      let ds : List ℕ = digits 16 false kind in
      let fine : are_inline (codes "hex(" ++ (ds ++ codes "):")) ≡ true =
      inline-append (codes "hex(") (ds ++ codes "):") refl (inline-append ds (codes "):") (within-all ds (kind-within kind)) refl) in
      let bare : are_bare (codes "hex(" ++ (ds ++ codes "):")) ≡ true =
      bare-append (codes "hex(") (ds ++ codes "):") refl (bare-append ds (codes "):") (kind-bare kind) refl) in
      let list : List ℕ = list_from 24 bytes in
      says-hex root name kind bytes named inline (codes "hex(" ++ (ds ++ codes "):")) (codes "ex(" ++ (ds ++ (codes "):" ++ list))) 104 fine bare
      (ends-behind (codes "hex(") (ds ++ codes "):") (ends-behind ds (codes "):") (ends-behind (41 ∷ []) (58 ∷ []) (ends-one 58 refl)))) a
      (ap (λ (w : List ℕ). codes "hex(" ++ w) (append_assoc ds (codes "):") list)) refl refl (kinded-back kind bytes l a)

  module _ (kind : ℕ) (bytes : List ℕ) (small : kind < 4294967296) (a : AreBytes bytes) where
    head-says : (b : Bool) → (kind == 3) ≡ b → SaysData kind bytes (hex_head kind ++ hex_rows bytes)
    head-says true e =
        let same : kind ≡ 3 = grind (arith, nat_tests, e) in
        subst (λ (h : List ℕ). SaysData kind bytes (h ++ hex_rows bytes)) (sym (head_binary kind same))
        (subst (λ (k : ℕ). SaysData k bytes (codes "hex:" ++ hex_rows bytes)) (sym same) (binary-says bytes a))
    head-says false e =
        let other : ¬ (kind ≡ 3) = λ same. absurd (let f = ap (λ (k : ℕ). k == 3) same in cc) in
        subst (λ (h : List ℕ). SaysData kind bytes (h ++ hex_rows bytes)) (sym (head_other kind other)) (kinded-says kind bytes small a)

    plain-says : SaysData kind bytes (plain_data kind bytes)
    unfolding plain_data
    plain-says = by (kind == 4 && length bytes == 4) refl
      where
        by : (b : Bool) → (kind == 4 && length bytes == 4) ≡ b →
            SaysData kind bytes (if b then codes "dword:" ++ digits_text (reverse bytes) else hex_head kind ++ hex_rows bytes)
        by true e =
            let both = and_parts (kind == 4) (length bytes == 4) e in
            let same : kind ≡ 4 = grind (arith, nat_tests) in
            let long : length bytes ≡ 4 = grind (arith, nat_tests) in
            subst (λ (k : ℕ). SaysData k bytes (codes "dword:" ++ digits_text (reverse bytes))) (sym same) (number-says bytes a long)
        by false e = head-says (kind == 3) refl

    data-says : SaysData kind bytes (data_told kind bytes)
    data-says = by (text_of_data kind bytes) refl
      where
        by : (o : Option (List ℕ)) → text_of_data kind bytes ≡ o → SaysData kind bytes (unwrap_or (option_map quoted o) (plain_data kind bytes))
        by None e = plain-says
        by (Some text) e =
            let is = is-kind kind (string_text bytes) text e in
            subst (λ (k : ℕ). SaysData k bytes (quoted text)) (sym is.0) (string-says bytes text a is.1)

-- a value's entry says that value
pub value-says : (root : List ℕ) (value : Member) → IsKept value →
    Says root true (value_entry value.name value.kind value.bytes) (Value value.name value.kind value.bytes ∷ []) true
value-says root value k = data-says root value.name k.name (line-inline value.name k.line) value.kind value.bytes k.kind k.bytes
