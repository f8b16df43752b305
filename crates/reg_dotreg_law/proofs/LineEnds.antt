-- Texts that end in a unit that is neither a blank nor a backslash, and lines that end with CR and LF.
use Rattle.std.proofs.Common.{◌≡◌, ℕ, ◌+◌, ◌-◌, ◌==◌, ◌&&◌, not, Bool, true, false, List, [], ◌∷◌, ◌++◌, length, get_or}
use Rattle.std.proofs.Common.{None, refl, sym, ap, ◌∙◌, arith, append_assoc, length-append}
use Rattle.std.specs.List.{All, list_all, slice_split}
use Rattle.std.proofs.lemmas.Bool.{and_parts, and_from, not-true}
use Rattle.std.proofs.lemmas.List.{take_all}
use Rattle.std.proofs.lemmas.List.Folds.{list_all-append}
use Rattle.std.proofs.lemmas.List.Elements.{All-nil, All-cons}
use Rattle.std.proofs.lemmas.List.Splits.{slice_split_at}
use Rattle.reg_dotreg_reader.specs.EntryWords.{is_blank, before_blanks, before_mark}
use Rattle.reg_dotreg_reader.specs.EntryLines.{is_feed, ended, lines_of, goes_on}
use Rattle.reg_dotreg_reader.proofs.WordEnds.{before_is, mark_not}
use Rattle.reg_dotreg_reader.proofs.DigitLists.{split_some}

-- ---- ends

-- neither a blank nor a backslash
abbrev pub is_solid : ℕ → Bool
is_solid unit = not (is_blank unit) && not (unit == 92)

-- a text's last unit is so
pub record Ends (units : List ℕ) : Type 0 where
  pub front : List ℕ
  pub last : ℕ
  pub is : units ≡ front ++ last ∷ []
  pub solid : is_solid last ≡ true

pub ends-one : (unit : ℕ) → is_solid unit ≡ true → Ends (unit ∷ [])
ends-one unit e = record { front = []; last = unit; is = refl; solid = e }

pub ends-behind : (before units : List ℕ) → Ends units → Ends (before ++ units)
ends-behind before units e = record {
  front = before ++ e.front;
  last = e.last;
  is = ap (λ (w : List ℕ). before ++ w) e.is ∙ sym (append_assoc before e.front (e.last ∷ []));
  solid = e.solid;
}

last-of : (front : List ℕ) (unit : ℕ) → get_or (front ++ unit ∷ []) (length front) 0 ≡ unit
last-of [] unit = refl
last-of (v ∷ front) unit = last-of front unit

not-false : (b : Bool) → not b ≡ true → b ≡ false
not-false true e = absurd cc
not-false false e = refl

pub plain-end : (front : List ℕ) (unit : ℕ) → is_blank unit ≡ false → before_blanks (front ++ unit ∷ []) ≡ front ++ unit ∷ []
plain-end front unit e =
    let units : List ℕ = front ++ unit ∷ [] in
    let long : length units ≡ length front + 1 = length-append front (unit ∷ []) in
    let at : length units - 1 ≡ length front = omega (arith, long) in
    sym (before_is units (length units) (omega arith) (λ k a b. absurd (omega (arith, a, b)))
    (λ _. ap (λ (i : ℕ). is_blank (get_or units i 0)) at ∙ (ap is_blank (last-of front unit) ∙ e)))
    ∙ take_all (length units) units (omega arith)

pub ends-blanks : (units : List ℕ) → Ends units → before_blanks units ≡ units
ends-blanks units e =
    let both = and_parts (not (is_blank e.last)) (not (e.last == 92)) e.solid in
    ap before_blanks e.is ∙ (plain-end e.front e.last (not-false (is_blank e.last) both.0) ∙ sym e.is)

pub ends-goes : (units : List ℕ) → Ends units → goes_on units ≡ None
unfolding goes_on
ends-goes units e =
    let both = and_parts (not (is_blank e.last)) (not (e.last == 92)) e.solid in
    ap (before_mark 92) (ends-blanks units e)
    ∙ mark_not 92 e.last units e.front e.is (differs e.last (not-false (e.last == 92) both.1))
  where
    differs : (u : ℕ) → (u == 92) ≡ false → u ≡ 92 → ⊥
    differs u f same = absurd (let g = ap (λ (x : ℕ). x == 92) same in cc)

-- ---- lines

-- none of the units is an LF
abbrev pub is_inline : ℕ → Bool
is_inline unit = not (is_feed unit)

abbrev pub are_inline : List ℕ → Bool
are_inline units = list_all is_inline units

pub inline-append : (a b : List ℕ) → are_inline a ≡ true → are_inline b ≡ true → are_inline (a ++ b) ≡ true
inline-append a b p q = list_all-append is_inline a b ∙ and_from (are_inline a) (are_inline b) p q

unparted : (units : List ℕ) → are_inline units ≡ true → All (λ u. is_feed u ≡ false) units
unparted [] e = All-nil (λ u. is_feed u ≡ false)
unparted (u ∷ units) e =
    let both = and_parts (is_inline u) (are_inline units) e in
    All-cons (λ u. is_feed u ≡ false) u units (not-true (is_feed u) both.0) (unparted units both.1)

ended-more : (part : List ℕ) (parts : List (List ℕ)) → (parts ≡ [] → ⊥) → ended (part ∷ parts) ≡ part ∷ ended parts
unfolding ended
ended-more part [] some = absurd (some refl)
ended-more part (next ∷ parts) some = refl

-- a line that ends with CR and LF is the first of a text's lines
pub line-back : (line rest : List ℕ) → are_inline line ≡ true → lines_of (line ++ 13 ∷ 10 ∷ rest) ≡ (line ++ 13 ∷ []) ∷ lines_of rest
unfolding lines_of
line-back line rest e =
    let marked : List ℕ = line ++ 13 ∷ [] in
    let parts : slice_split is_feed (line ++ 13 ∷ 10 ∷ rest) ≡ marked ∷ slice_split is_feed rest =
    ap (slice_split is_feed) (sym (append_assoc line (13 ∷ []) (10 ∷ rest)))
    ∙ slice_split_at is_feed marked 10 rest (unparted marked (inline-append line (13 ∷ []) e refl)) refl in
    ap ended parts ∙ ended-more marked (slice_split is_feed rest) (split_some is_feed rest)
