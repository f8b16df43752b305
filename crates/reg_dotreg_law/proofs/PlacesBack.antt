-- Where the units of a value's line stand, outside of quotes or in them; no comment begins there.
use Rattle.std.proofs.Common.{◌≡◌, ℕ, zero, suc, ◌/◌, ◌%◌, ◌<◌, ◌==◌, ◌&&◌, ◌||◌, not, Bool, true, false, cond, List, [], ◌∷◌, ◌++◌}
use Rattle.std.proofs.Common.{Option, Some, None, refl, sym, ap, ◌∙◌, subst, arith, append_assoc, append-nil, inl, inr}
use Rattle.std.specs.Prelude.{flat_map, if◌then◌else◌}
use Rattle.std.specs.List.{list_all}
use Rattle.std.specs.Option.{unwrap_or}
use Rattle.std.specs.Fmt.{digits}
use Rattle.std.proofs.lemmas.Bool.{and_parts, and_from, not-true, cases_lt}
use Rattle.std.proofs.lemmas.List.Folds.{list_all-append}
use Rattle.reg_dotreg_writer.specs.EntryTexts.{quoted_unit, quoted, name_told}
use Rattle.reg_dotreg_reader.specs.declared.rows.Place.{Place}
use Rattle.reg_dotreg_reader.specs.declared.rows.Place.TheVariants.{Outside, Quoted, Escaped}
use Rattle.reg_dotreg_reader.specs.EntryLines.{without_return, place_behind, is_outside, cut, kept, ending, goes_on, carried}
use Rattle.reg_dotreg_reader.proofs.WordEnds.{mark_is}
use Rattle.reg_dotreg_reader.proofs.ValueRows.{carries_some, carries_not}
use Rattle.reg_dotreg_law.proofs.DigitsBack.{low, glyph, two, onto-all}

-- ---- units that are kept

-- from a place on no comment begins in some units, and behind them is that place
abbrev pub Passes : Place → List ℕ → Place → Type 0
Passes place units after = (rest : List ℕ) → cut place (units ++ rest) ≡ (units ++ (cut after rest).0, (cut after rest).1)

as-parts : (p : List ℕ × Place) → p ≡ (p.0, p.1)
as-parts p = refl

pub passes-none : (place : Place) → Passes place [] place
passes-none place rest = as-parts (cut place rest)

pub passes-both : (first second third : Place) (a b : List ℕ) → Passes first a second → Passes second b third → Passes first (a ++ b) third
passes-both first second third a b x y rest =
    ap (cut first) (append_assoc a b rest)
    ∙ (x (b ++ rest)
    ∙ (ap (λ (p : List ℕ × Place). (a ++ p.0, p.1)) (y rest)
    ∙ ap (λ (w : List ℕ). (w, (cut third rest).1)) (sym (append_assoc a b (cut third rest).0))))

passes-one : (place : Place) (u : ℕ) → (is_outside place && u == 59) ≡ false → Passes place (u ∷ []) (place_behind place u)
unfolding cut
passes-one place u e rest =
    ap (λ (b : Bool). cond b ([], place)
    (u ∷ (cut (place_behind place u) rest).0, (cut (place_behind place u) rest).1)) e

-- ---- units outside of quotes

-- neither a quote nor the mark of a comment
abbrev pub is_bare : ℕ → Bool
is_bare unit = not (unit == 34) && not (unit == 59)

abbrev pub are_bare : List ℕ → Bool
are_bare units = list_all is_bare units

pub bare-append : (a b : List ℕ) → are_bare a ≡ true → are_bare b ≡ true → are_bare (a ++ b) ≡ true
bare-append a b p q = list_all-append is_bare a b ∙ and_from (are_bare a) (are_bare b) p q

bare-one : (u : ℕ) → is_bare u ≡ true → Passes Outside (u ∷ []) Outside
bare-one u e =
    let both = and_parts (not (u == 34)) (not (u == 59)) e in
    let same : place_behind Outside u ≡ Outside = ap (λ (b : Bool). cond b Quoted Outside) (not-true (u == 34) both.0) in
    subst (λ (p : Place). Passes Outside (u ∷ []) p) same (passes-one Outside u (not-true (u == 59) both.1))

pub bare-passes : (units : List ℕ) → are_bare units ≡ true → Passes Outside units Outside
bare-passes [] e = passes-none Outside
bare-passes (u ∷ units) e =
    let both = and_parts (is_bare u) (are_bare units) e in
    passes-both Outside Outside Outside (u ∷ []) units (bare-one u both.0) (bare-passes units both.1)

-- ---- units in quotes

stays-quoted : (a b : Bool) → (a || b) ≡ false → cond b Outside (cond a Escaped Quoted) ≡ Quoted
stays-quoted true b e = absurd cc
stays-quoted false true e = absurd cc
stays-quoted false false e = refl

unit-passes : (u : ℕ) (b : Bool) → (u == 92 || u == 34) ≡ b → Passes Quoted (if b then 92 ∷ u ∷ [] else u ∷ []) Quoted
unit-passes u true e =
    passes-both Quoted Escaped Quoted (92 ∷ []) (u ∷ []) (passes-one Quoted 92 refl) (passes-one Escaped u refl)
unit-passes u false e =
    subst (λ (p : Place). Passes Quoted (u ∷ []) p) (stays-quoted (u == 92) (u == 34) e) (passes-one Quoted u refl)

pub quotes-pass : (text : List ℕ) → Passes Quoted (flat_map quoted_unit text) Quoted
quotes-pass [] = passes-none Quoted
quotes-pass (u ∷ text) =
    passes-both Quoted Quoted Quoted (quoted_unit u) (flat_map quoted_unit text) (unit-passes u (u == 92 || u == 34) refl) (quotes-pass text)

pub quoted-passes : (text : List ℕ) → Passes Outside (quoted text) Outside
unfolding quoted
quoted-passes text =
    passes-both Outside Quoted Outside (34 ∷ []) (flat_map quoted_unit text ++ 34 ∷ []) (passes-one Outside 34 refl)
    (passes-both Quoted Quoted Outside (flat_map quoted_unit text) (34 ∷ []) (quotes-pass text) (passes-one Quoted 34 refl))

pub name-passes : (name : List ℕ) → Passes Outside (name_told name) Outside
name-passes [] = bare-passes (64 ∷ []) refl
name-passes (b ∷ name) = quoted-passes (b ∷ name)

-- ---- digits

abbrev bare_all : (ℕ → ℕ) → ℕ → Bool
bare_all f zero = true
bare_all f (suc n) = is_bare (f n) && bare_all f n

bare-at : (f : ℕ → ℕ) (n d : ℕ) → bare_all f n ≡ true → d < n → is_bare (f d) ≡ true
bare-at f zero d e l = absurd (omega arith)
bare-at f (suc n) d e l =
    let both = and_parts (is_bare (f n)) (bare_all f n) e in
    elim (cases_lt d n) [
      | inl below ↦ bare-at f n d both.1 below
      | inr top ↦ let same : d ≡ n = omega arith in rw same both.0
    ]

pub glyph-bare : (d : ℕ) → d < 16 → is_bare (glyph d) ≡ true
glyph-bare d l = bare-at glyph 16 d refl l

pub two-bare : (b : ℕ) → b < 256 → are_bare (two b) ≡ true
two-bare b l =
    let high : b / 16 < 16 = omega (arith, l) in
    let rest : b % 16 < 16 = omega (arith, l) in
    and_from (is_bare (low (b / 16))) (is_bare (low (b % 16)) && true) (bare-at low 16 (b / 16) refl high)
    (and_from (is_bare (low (b % 16))) true (bare-at low 16 (b % 16) refl rest) refl)

pub kind-bare : (kind : ℕ) → are_bare (digits 16 false kind) ≡ true
unfolding digits
kind-bare kind = onto-all is_bare glyph-bare 64 kind [] refl

-- ---- rows

-- a line as it ends with CR
abbrev pub returned : List ℕ → List ℕ
returned line = line ++ 13 ∷ []

pub bare-line : (line : List ℕ) → without_return (returned line) ≡ line
bare-line line = ap (λ (o : Option (List ℕ)). unwrap_or o (returned line)) (mark_is 13 13 (returned line) line refl refl)

cut-back : (units : List ℕ) → Passes Outside units Outside → cut Outside units ≡ (units, Outside)
unfolding cut
cut-back units p =
    ap (cut Outside) (sym (append-nil units)) ∙ (p [] ∙ ap (λ (w : List ℕ). (w, Outside)) (append-nil units))

row-cut : (units : List ℕ) → Passes Outside units Outside → cut Outside (without_return (returned units)) ≡ (units, Outside)
row-cut units p = ap (cut Outside) (bare-line units) ∙ cut-back units p

pub kept-back : (units : List ℕ) → Passes Outside units Outside → kept Outside (returned units) ≡ units
kept-back units p = ap (λ (c : List ℕ × Place). c.0) (row-cut units p)

ending-back : (units : List ℕ) → Passes Outside units Outside → ending Outside (returned units) ≡ Outside
ending-back units p = ap (λ (c : List ℕ × Place). c.1) (row-cut units p)

pub carried-on : (units front : List ℕ) → Passes Outside units Outside → goes_on units ≡ Some front →
    carried Outside (returned units) ≡ Some (front, Outside)
carried-on units front p e =
    carries_some Outside Outside (returned units) units front (sym (ending-back units p)) (sym (kept-back units p)) refl e

pub carried-not : (units : List ℕ) → Passes Outside units Outside → goes_on units ≡ None → carried Outside (returned units) ≡ None
carried-not units p e =
    carries_not Outside Outside (returned units) units (sym (ending-back units p)) (sym (kept-back units p)) refl e
