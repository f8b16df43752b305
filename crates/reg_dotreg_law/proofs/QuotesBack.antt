-- Texts between quotes, read back.
use Rattle.std.proofs.Common.{◌≡◌, ℕ, ◌==◌, ◌||◌, Bool, true, false, List, [], ◌∷◌, ◌++◌, Some, refl, ap, ◌∙◌, arith}
use Rattle.std.proofs.Common.{append_assoc}
use Rattle.std.specs.Prelude.{flat_map, if◌then◌else◌}
use Rattle.std.proofs.lemmas.Bool.{and_parts, and_from}
use Rattle.std.proofs.lemmas.Bool.Decides.{nat_tests}
use Rattle.reg_dotreg_writer.specs.EntryTexts.{quoted_unit}
use Rattle.reg_dotreg_reader.specs.EntryWords.{is_escaped, with_unit, quoted_from, quoted}
use Rattle.reg_dotreg_reader.proofs.QuotedUnits.{next_escape, next_plain}
use Rattle.reg_dotreg_law.proofs.LineEnds.{is_inline, are_inline, inline-append}

quote-closes : (rest : List ℕ) → quoted (34 ∷ rest) ≡ Some ([], rest)
unfolding quoted quoted_from
quote-closes rest = refl

unit-back : (u : ℕ) (rest : List ℕ) (b : Bool) → (u == 92 || u == 34) ≡ b →
    quoted ((if b then 92 ∷ u ∷ [] else u ∷ []) ++ rest) ≡ with_unit u (quoted rest)
unit-back u rest true e =
    (next_escape (92 ∷ u ∷ rest) (u ∷ rest) rest 92 u refl refl refl (escaped e)).0
  where
    escaped : (u == 92 || u == 34) ≡ true → is_escaped u ≡ true
    escaped e = grind (arith, nat_tests)
unit-back u rest false e =
    (next_plain (u ∷ rest) rest u refl (grind (arith, nat_tests, e)) (grind (arith, nat_tests, e))).0

pub quotes-back : (text rest : List ℕ) → quoted (flat_map quoted_unit text ++ 34 ∷ rest) ≡ Some (text, rest)
quotes-back [] rest = quote-closes rest
quotes-back (u ∷ text) rest =
    ap quoted (append_assoc (quoted_unit u) (flat_map quoted_unit text) (34 ∷ rest))
    ∙ (unit-back u (flat_map quoted_unit text ++ 34 ∷ rest) (u == 92 || u == 34) refl ∙ ap (with_unit u) (quotes-back text rest))

unit-inline : (u : ℕ) (b : Bool) → is_inline u ≡ true → are_inline (if b then 92 ∷ u ∷ [] else u ∷ []) ≡ true
unit-inline u true e = and_from (is_inline u) true e refl
unit-inline u false e = and_from (is_inline u) true e refl

pub quotes-inline : (text : List ℕ) → are_inline text ≡ true → are_inline (flat_map quoted_unit text) ≡ true
quotes-inline [] e = refl
quotes-inline (u ∷ text) e =
    let both = and_parts (is_inline u) (are_inline text) e in
    inline-append (quoted_unit u) (flat_map quoted_unit text) (unit-inline u (u == 92 || u == 34) both.0) (quotes-inline text both.1)
