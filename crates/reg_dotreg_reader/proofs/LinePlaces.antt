-- The rows and columns of what isn't understood.
use Rattle.std.proofs.Common.{◌≡◌, ℕ, suc, ◌+◌, ◌-◌, ◌<◌, ◌&&◌, Bool, true, false, cond, List, [], ◌∷◌, length, drop}
use Rattle.std.proofs.Common.{Option, Some, None, refl, sym, ap, ◌∙◌, arith}
use Rattle.std.specs.Prelude.{option_map}
use Rattle.std.specs.Option.{unwrap_or}
use Rattle.std.specs.List.{prefix_len}
use Rattle.reg_dotreg_reader.specs.declared.rows.Place.{Place}
use Rattle.reg_dotreg_reader.specs.EntryLines.{is_outside, is_comment, carried, passed}
use Rattle.reg_dotreg_reader.specs.BadLines.{place_after, place_from, lines_to}
use Rattle.reg_dotreg_reader.proofs.ValueRows.{behind_passed}

-- ---- columns

pub place_next : (whole after : ℕ × ℕ) (row column u : ℕ) (rest us : List ℕ) → whole ≡ place_from row column rest → rest ≡ u ∷ us →
    after ≡ place_after row column u → whole ≡ place_from after.0 after.1 us
unfolding place_from
place_next whole after row column u rest us so_far e is =
    so_far ∙ (ap (place_from row column) e ∙ ap (λ (p : ℕ × ℕ). place_from p.0 p.1 us) (sym is))

pub place_end : (whole : ℕ × ℕ) (row column : ℕ) (rest : List ℕ) → whole ≡ place_from row column rest → length rest ≡ 0 → (row, column) ≡ whole
unfolding place_from
place_end whole row column [] so_far e = sym so_far
place_end whole row column (u ∷ us) so_far e = absurd (omega (arith, e))

pub ruleset places = (place_next, place_end)

-- ---- rows

abbrev to_by : Option (List ℕ × Place) → (over : ℕ) → (List ℕ × Place → Bool) → (List ℕ × Place → ℕ) → ℕ
to_by o over passes next = unwrap_or (option_map (λ (part : List ℕ × Place). cond (passes part) over (next part)) o) 0

to_step : (place : Place) (row next : List ℕ) (k : ℕ) (lines : List (List ℕ)) → lines_to place row (suc k) (next ∷ lines) ≡
    to_by (carried place row) (suc (lines_to place row (suc k) lines)) (λ part. is_outside part.1 && is_comment next)
    (λ part. suc (lines_to part.1 next k lines))
unfolding lines_to
to_step place row next k lines = refl

to_part : (place then : Place) (row front next : List ℕ) (k : ℕ) (lines : List (List ℕ)) → carried place row ≡ Some (front, then) →
    lines_to place row (suc k) (next ∷ lines) ≡
    cond (is_outside then && is_comment next) (suc (lines_to place row (suc k) lines)) (suc (lines_to then next k lines))
to_part place then row front next k lines e =
    to_step place row next k lines
    ∙ ap (λ (o : Option (List ℕ × Place)). to_by o (suc (lines_to place row (suc k) lines)) (λ part. is_outside part.1 && is_comment next)
    (λ part. suc (lines_to part.1 next k lines))) e

to_not : (place : Place) (row : List ℕ) (k : ℕ) (lines : List (List ℕ)) → carried place row ≡ None → lines_to place row (suc k) lines ≡ 0
unfolding lines_to
to_not place row k [] e = refl
to_not place row k (next ∷ lines) e =
    ap (λ (o : Option (List ℕ × Place)). to_by o (suc (lines_to place row (suc k) lines)) (λ part. is_outside part.1 && is_comment next)
    (λ part. suc (lines_to part.1 next k lines))) e

to_comments : (place then : Place) (row front : List ℕ) (k : ℕ) (lines : List (List ℕ)) → carried place row ≡ Some (front, then) →
    is_outside then ≡ true →
    lines_to place row (suc k) lines ≡ prefix_len is_comment lines + lines_to place row (suc k) (drop (prefix_len is_comment lines) lines)
to_comments place then row front k [] e o = omega arith
to_comments place then row front k (next ∷ lines) e o = by (is_comment next) refl (to_comments place then row front k lines e o)
  where
    one : (n : ℕ) → lines_to place row (suc k) lines ≡ n + lines_to place row (suc k) (drop n lines) → is_comment next ≡ true →
        lines_to place row (suc k) (next ∷ lines) ≡ suc n + lines_to place row (suc k) (drop (suc n) (next ∷ lines))
    one n h c =
        let both : (is_outside then && is_comment next) ≡ true = ap (λ (b : Bool). b && is_comment next) o ∙ c in
        let here : lines_to place row (suc k) (next ∷ lines) ≡ suc (lines_to place row (suc k) lines) =
        to_part place then row front next k lines e
        ∙ ap (λ (b : Bool). cond b (suc (lines_to place row (suc k) lines)) (suc (lines_to then next k lines))) both in
        omega (arith, here, h)

    by : (b : Bool) → is_comment next ≡ b →
        lines_to place row (suc k) lines ≡ prefix_len is_comment lines + lines_to place row (suc k) (drop (prefix_len is_comment lines) lines) →
        lines_to place row (suc k) (next ∷ lines) ≡
        cond b (1 + prefix_len is_comment lines) 0 + lines_to place row (suc k) (drop (cond b (1 + prefix_len is_comment lines) 0) (next ∷ lines))
    by true c h =
        let same : suc (prefix_len is_comment lines) ≡ 1 + prefix_len is_comment lines = omega arith in
        one (prefix_len is_comment lines) h c
        ∙ ap (λ (n : ℕ). n + lines_to place row (suc k) (drop n (next ∷ lines))) same
    by false c h = omega arith

to_passed : (place then : Place) (row front : List ℕ) (k count : ℕ) (lines : List (List ℕ)) → carried place row ≡ Some (front, then) →
    count ≡ passed then lines → lines_to place row (suc k) lines ≡ count + lines_to place row (suc k) (drop count lines)
to_passed place then row front k count lines e is =
    by (is_outside then) refl
    ∙ ap (λ (n : ℕ). n + lines_to place row (suc k) (drop n lines)) (sym is)
  where
    by : (b : Bool) → is_outside then ≡ b → lines_to place row (suc k) lines ≡
        cond b (prefix_len is_comment lines) 0 + lines_to place row (suc k) (drop (cond b (prefix_len is_comment lines) 0) lines)
    by true o = to_comments place then row front k lines e o
    by false o = omega arith

pred_is : (left : ℕ) → 0 < left → left ≡ suc (left - 1)
pred_is left some = omega (arith, some)

-- so many lines, and those that are left
abbrev pub AreRows : (whole : ℕ) (place : Place) (row : List ℕ) (left taken : ℕ) (rest : List (List ℕ)) → Type 0
AreRows whole place row left taken rest = whole ≡ taken + lines_to place row left rest

pub rows_start : (place : Place) (row : List ℕ) (rows : ℕ) (rest : List (List ℕ)) → AreRows (lines_to place row rows rest) place row rows 0 rest
rows_start place row rows rest = omega arith

pub rows_done : (whole left taken : ℕ) (place : Place) (row : List ℕ) (rest : List (List ℕ)) → AreRows whole place row left taken rest → left ≡ 0 →
    taken ≡ whole
unfolding lines_to
rows_done whole left taken place row rest so_far e =
    let none = ap (λ (n : ℕ). lines_to place row n rest) e in omega (arith, so_far, none)

pub rows_alone : (whole left taken : ℕ) (place : Place) (row : List ℕ) (rest : List (List ℕ)) → AreRows whole place row left taken rest → 0 < left →
    carried place row ≡ None → taken ≡ whole
rows_alone whole left taken place row rest so_far some e =
    let none = ap (λ (n : ℕ). lines_to place row n rest) (pred_is left some) ∙ to_not place row (left - 1) rest e in
    omega (arith, so_far, none)

rows_passed : (whole left taken count : ℕ) (place then : Place) (row front : List ℕ) (rest others : List (List ℕ)) →
    AreRows whole place row left taken rest → 0 < left → carried place row ≡ Some (front, then) → count ≡ passed then rest →
    others ≡ drop count rest → whole ≡ taken + (count + lines_to place row (suc (left - 1)) others)
rows_passed whole left taken count place then row front rest others so_far some e is gone =
    so_far ∙ (ap (λ (n : ℕ). taken + lines_to place row n rest) (pred_is left some)
    ∙ (ap (λ (n : ℕ). taken + n) (to_passed place then row front (left - 1) count rest e is)
    ∙ ap (λ (w : List (List ℕ)). taken + (count + lines_to place row (suc (left - 1)) w)) (sym gone)))

pub rows_end : (whole left taken count : ℕ) (place then : Place) (row front : List ℕ) (rest others : List (List ℕ)) →
    AreRows whole place row left taken rest → 0 < left → carried place row ≡ Some (front, then) → count ≡ passed then rest →
    others ≡ drop count rest → others ≡ [] → taken + count ≡ whole
unfolding lines_to
rows_end whole left taken count place then row front rest others so_far some e is gone none =
    let p = rows_passed whole left taken count place then row front rest others so_far some e is gone in
    let nothing : lines_to place row (suc (left - 1)) others ≡ 0 = ap (λ (w : List (List ℕ)). lines_to place row (suc (left - 1)) w) none in
    omega (arith, p, nothing)

pub rows_more : (whole left less taken count more : ℕ) (place then : Place) (row front next : List ℕ) (rest others last : List (List ℕ)) →
    AreRows whole place row left taken rest → 0 < left → carried place row ≡ Some (front, then) → count ≡ passed then rest →
    others ≡ drop count rest → others ≡ next ∷ last → less ≡ left - 1 → more ≡ taken + (count + 1) → AreRows whole then next less more last
rows_more whole left less taken count more place then row front next rest others last so_far some e is gone here fewer sum =
    let p = rows_passed whole left taken count place then row front rest others so_far some e is gone in
    let clear = behind_passed then rest last next count is (sym gone ∙ here) in
    let step : lines_to place row (suc (left - 1)) others ≡ suc (lines_to then next less last) =
    ap (lines_to place row (suc (left - 1))) here
    ∙ (to_part place then row front next (left - 1) last e
    ∙ (ap (λ (b : Bool). cond b (suc (lines_to place row (suc (left - 1)) last)) (suc (lines_to then next (left - 1) last))) clear
    ∙ ap (λ (n : ℕ). suc (lines_to then next n last)) (sym fewer))) in
    omega (arith, p, step, sum)

pub ruleset rows_later = (rows_start, rows_done, rows_alone, rows_end, rows_more)
