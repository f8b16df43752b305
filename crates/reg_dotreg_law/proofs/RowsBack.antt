-- Bytes in rows of 25: the lines that they are, and how these are joined.
use Rattle.std.proofs.Common.{◌≡◌, ℕ, zero, suc, ◌/◌, ◌%◌, ◌+◌, ◌<◌, ◌==◌, ◌&&◌, not, Bool, true, false, cond, List, [], ◌∷◌, ◌++◌}
use Rattle.std.proofs.Common.{length, drop, Some, refl, sym, ap, ◌∙◌, subst, arith, append_assoc}
use Rattle.std.specs.List.{prefix_len}
use Rattle.std.proofs.lemmas.Bool.{and_parts, and_from, not-true}
use Rattle.reg_dotreg_writer.specs.EntryTexts.{hex_from}
use Rattle.reg_dotreg_reader.specs.declared.rows.Place.TheVariants.{Outside}
use Rattle.reg_dotreg_reader.specs.EntryWords.{is_blank, behind_blanks, before_mark}
use Rattle.reg_dotreg_reader.specs.EntryLines.{lines_of, goes_on, begins_comment, is_comment, joined}
use Rattle.reg_dotreg_reader.proofs.WordEnds.{mark_is}
use Rattle.reg_dotreg_reader.proofs.ValueRows.{joined_not, joined_some}
use Rattle.reg_dotreg_law.proofs.LineEnds.{is_inline, are_inline, inline-append, Ends, ends-behind, ends-goes, line-back, plain-end}
use Rattle.reg_dotreg_law.proofs.DigitsBack.{low, two, digits-two, high-within, low-within}
use Rattle.reg_dotreg_law.proofs.ListsBack.{AreBytes, list_from, within-inline, within-solid, solid-not_blank, list-ends}
use Rattle.reg_dotreg_law.proofs.PlacesBack.{Passes, passes-both, is_bare, bare-append, bare-passes, two-bare, returned, kept-back, carried-on, carried-not}

pub two-inline : (b : ℕ) → b < 256 → are_inline (two b) ≡ true
two-inline b l =
    and_from (is_inline (low (b / 16))) (is_inline (low (b % 16)) && true) (within-inline (low (b / 16)) (high-within b l))
    (and_from (is_inline (low (b % 16))) true (within-inline (low (b % 16)) (low-within b l)) refl)

-- what begins a line begins it with this text
abbrev pub Starts : List ℕ → List ℕ → Type 0
Starts text tail = (u : ℕ) (us : List ℕ) → text ≡ u ∷ us → (vs : List ℕ) × (tail ≡ u ∷ vs)

-- some units with rows behind them, and other lines: the first line, and those that are joined to it
pub record AreRows (before : List ℕ) (text list rest : List ℕ) : Type 0 where
  pub line : List ℕ
  pub more : List (List ℕ)
  pub tail : List ℕ
  pub begins : line ≡ before ++ tail
  pub starts : Starts text tail
  pub lines : lines_of (before ++ (text ++ 13 ∷ 10 ∷ rest)) ≡ line ∷ (more ++ lines_of rest)
  pub joins : joined Outside line (more ++ lines_of rest) ≡ (before ++ list, length more)

starts-same : (text behind : List ℕ) → Starts text (text ++ behind)
starts-same text behind u us e = (us ++ behind, ap (λ (w : List ℕ). w ++ behind) e)

starts-first : (row text behind : List ℕ) (v : ℕ) → Starts (row ++ v ∷ text) (row ++ v ∷ behind)
starts-first [] text behind v u us e = (behind, let same : v ≡ u = cc in ap (λ (w : ℕ). w ∷ behind) same)
starts-first (r ∷ row) text behind v u us e = (row ++ v ∷ behind, let same : r ≡ u = cc in ap (λ (w : ℕ). w ∷ (row ++ v ∷ behind)) same)

-- a line alone
pub row-alone : (before text rest : List ℕ) → are_inline (before ++ text) ≡ true → Ends (before ++ text) → Passes Outside (before ++ text) Outside →
    AreRows before text text rest
row-alone before text rest i e p = record {
  line = returned (before ++ text);
  more = [];
  tail = text ++ 13 ∷ [];
  begins = append_assoc before text (13 ∷ []);
  starts = starts-same text (13 ∷ []);
  lines = ap lines_of (sym (append_assoc before text (13 ∷ 10 ∷ rest))) ∙ line-back (before ++ text) rest i;
  joins =
      joined_not Outside (returned (before ++ text)) (lines_of rest) (carried-not (before ++ text) p (ends-goes (before ++ text) e))
      ∙ ap (λ (w : List ℕ). (w, 0)) (kept-back (before ++ text) p);
}

marked-goes : (front : List ℕ) → goes_on (front ++ 92 ∷ []) ≡ Some front
unfolding goes_on
marked-goes front = ap (before_mark 92) (plain-end front 92 refl) ∙ mark_is 92 92 (front ++ 92 ∷ []) front refl refl

-- the next row is no comment
next-row : (u : ℕ) (us : List ℕ) → is_blank u ≡ false → (u == 59) ≡ false → is_comment (32 ∷ 32 ∷ u ∷ us) ≡ false
unfolding behind_blanks
next-row u us blank mark =
    ap (λ (b : Bool). begins_comment (drop (1 + (1 + cond b (1 + prefix_len is_blank us) 0)) (32 ∷ 32 ∷ u ∷ us))) blank ∙ mark

-- a row that ends in a comma and a backslash, before the next row, which begins with a digit
row-over : (before row others list rest : List ℕ) (u : ℕ) (us : List ℕ) → are_inline (before ++ row) ≡ true → Passes Outside (before ++ row) Outside →
    others ≡ u ∷ us → is_blank u ≡ false → (u == 59) ≡ false → AreRows (32 ∷ 32 ∷ []) others list rest →
    AreRows before (row ++ (44 ∷ 92 ∷ 13 ∷ 10 ∷ 32 ∷ 32 ∷ others)) (row ++ (44 ∷ 10 ∷ 32 ∷ 32 ∷ list)) rest
row-over before row others list rest u us i p digit blank mark r =
    let front : List ℕ = (before ++ row) ++ 44 ∷ [] in
    let marked : List ℕ = front ++ 92 ∷ [] in
    let behind : List ℕ = 32 ∷ 32 ∷ (others ++ 13 ∷ 10 ∷ rest) in
    let fine : are_inline marked ≡ true =
    inline-append front (92 ∷ []) (inline-append (before ++ row) (44 ∷ []) i refl) refl in
    let passes : Passes Outside marked Outside =
    passes-both Outside Outside Outside front (92 ∷ []) (passes-both Outside Outside Outside (before ++ row) (44 ∷ []) p
    (bare-passes (44 ∷ []) refl)) (bare-passes (92 ∷ []) refl) in
    let text : before ++ ((row ++ (44 ∷ 92 ∷ 13 ∷ 10 ∷ 32 ∷ 32 ∷ others)) ++ 13 ∷ 10 ∷ rest) ≡ marked ++ 13 ∷ 10 ∷ behind =
    ap (λ (w : List ℕ). before ++ w) (append_assoc row (44 ∷ 92 ∷ 13 ∷ 10 ∷ 32 ∷ 32 ∷ others) (13 ∷ 10 ∷ rest))
    ∙ (sym (append_assoc before row (44 ∷ 92 ∷ 13 ∷ 10 ∷ behind))
    ∙ (sym (append_assoc (before ++ row) (44 ∷ []) (92 ∷ 13 ∷ 10 ∷ behind))
    ∙ sym (append_assoc front (92 ∷ []) (13 ∷ 10 ∷ behind)))) in
    let count : suc (length r.more) ≡ length (r.line ∷ r.more) = omega arith in
    let units : front ++ 10 ∷ 32 ∷ 32 ∷ list ≡ before ++ (row ++ (44 ∷ 10 ∷ 32 ∷ 32 ∷ list)) =
    append_assoc (before ++ row) (44 ∷ []) (10 ∷ 32 ∷ 32 ∷ list)
    ∙ append_assoc before row (44 ∷ 10 ∷ 32 ∷ 32 ∷ list) in
    let begun = r.starts u us digit in
    let next : is_comment r.line ≡ false =
    ap is_comment (r.begins ∙ ap (λ (w : List ℕ). 32 ∷ 32 ∷ w) begun.1) ∙ next-row u begun.0 blank mark in
    record {
      line = returned marked;
      more = r.line ∷ r.more;
      tail = row ++ (44 ∷ 92 ∷ 13 ∷ []);
      begins =
          append_assoc front (92 ∷ []) (13 ∷ []) ∙ (append_assoc (before ++ row) (44 ∷ []) (92 ∷ 13 ∷ [])
          ∙ append_assoc before row (44 ∷ 92 ∷ 13 ∷ []));
      starts = starts-first row (92 ∷ 13 ∷ 10 ∷ 32 ∷ 32 ∷ others) (92 ∷ 13 ∷ []) 44;
      lines = ap lines_of text ∙ (line-back marked behind fine ∙ ap (λ (w : List (List ℕ)). returned marked ∷ w) r.lines);
      joins =
          joined_some Outside Outside (returned marked) front r.line (r.more ++ lines_of rest)
          (carried-on marked front passes (marked-goes front)) next
          ∙ (ap (λ (p : List ℕ × ℕ). (front ++ 10 ∷ p.0, suc p.1)) r.joins
          ∙ (ap (λ (w : List ℕ). (w, suc (length r.more))) units
          ∙ ap (λ (n : ℕ). (before ++ (row ++ (44 ∷ 10 ∷ 32 ∷ 32 ∷ list)), n)) count));
    }

-- a byte in the same row
row-on : (before row others list rest : List ℕ) → AreRows (before ++ (row ++ 44 ∷ [])) others list rest →
    AreRows before (row ++ (44 ∷ others)) (row ++ (44 ∷ list)) rest
row-on before row others list rest r =
    let text : before ++ ((row ++ (44 ∷ others)) ++ 13 ∷ 10 ∷ rest) ≡ (before ++ (row ++ 44 ∷ [])) ++ (others ++ 13 ∷ 10 ∷ rest) =
    ap (λ (w : List ℕ). before ++ w)
    (append_assoc row (44 ∷ others) (13 ∷ 10 ∷ rest) ∙ sym (append_assoc row (44 ∷ []) (others ++ 13 ∷ 10 ∷ rest)))
    ∙ sym (append_assoc before (row ++ 44 ∷ []) (others ++ 13 ∷ 10 ∷ rest)) in
    let units : (before ++ (row ++ 44 ∷ [])) ++ list ≡ before ++ (row ++ (44 ∷ list)) =
    append_assoc before (row ++ 44 ∷ []) list ∙ ap (λ (w : List ℕ). before ++ w) (append_assoc row (44 ∷ []) list) in
    record {
      line = r.line;
      more = r.more;
      tail = (row ++ 44 ∷ []) ++ r.tail;
      begins = r.begins ∙ append_assoc before (row ++ 44 ∷ []) r.tail;
      starts =
          subst (Starts (row ++ (44 ∷ others))) (sym (append_assoc row (44 ∷ []) r.tail)) (starts-first row others r.tail 44);
      lines = ap lines_of text ∙ r.lines;
      joins = r.joins ∙ ap (λ (w : List ℕ). (w, length r.more)) units;
    }

module _ (rest : List ℕ) where
  from-text : (before text other list : List ℕ) → text ≡ other → AreRows before other list rest → AreRows before text list rest
  from-text before text other list e r = record {
    line = r.line;
    more = r.more;
    tail = r.tail;
    begins = r.begins;
    starts = subst (λ (w : List ℕ). Starts w r.tail) (sym e) r.starts;
    lines = ap (λ (w : List ℕ). lines_of (before ++ (w ++ 13 ∷ 10 ∷ rest))) e ∙ r.lines;
    joins = r.joins;
  }

  last-row : (room b : ℕ) → hex_from room (b ∷ []) ≡ two b
  unfolding hex_from
  last-row zero b = digits-two b
  last-row (suc room) b = digits-two b

  over-row : (b next : ℕ) (bytes : List ℕ) →
      hex_from zero (b ∷ next ∷ bytes) ≡ two b ++ (44 ∷ 92 ∷ 13 ∷ 10 ∷ 32 ∷ 32 ∷ hex_from 24 (next ∷ bytes))
  unfolding hex_from
  over-row b next bytes = ap (λ (w : List ℕ). w ++ (44 ∷ 92 ∷ 13 ∷ 10 ∷ 32 ∷ 32 ∷ hex_from 24 (next ∷ bytes))) (digits-two b)

  on-row : (room b next : ℕ) (bytes : List ℕ) → hex_from (suc room) (b ∷ next ∷ bytes) ≡ two b ++ (44 ∷ hex_from room (next ∷ bytes))
  unfolding hex_from
  on-row room b next bytes = ap (λ (w : List ℕ). w ++ (44 ∷ hex_from room (next ∷ bytes))) (digits-two b)

  -- rows begin with a digit
  begin-with : (room b : ℕ) (bytes : List ℕ) → (us : List ℕ) × (hex_from room (b ∷ bytes) ≡ low (b / 16) ∷ us)
  begin-with room b [] = (low (b % 16) ∷ [], last-row room b)
  begin-with zero b (next ∷ bytes) = (low (b % 16) ∷ 44 ∷ 92 ∷ 13 ∷ 10 ∷ 32 ∷ 32 ∷ hex_from 24 (next ∷ bytes), over-row b next bytes)
  begin-with (suc room) b (next ∷ bytes) = (low (b % 16) ∷ 44 ∷ hex_from room (next ∷ bytes), on-row room b next bytes)

  bare-mark : (u : ℕ) → is_bare u ≡ true → (u == 59) ≡ false
  bare-mark u e = not-true (u == 59) (and_parts (not (u == 34)) (not (u == 59)) e).1

  first-bare : (b : ℕ) → b < 256 → is_bare (low (b / 16)) ≡ true
  first-bare b l = (and_parts (is_bare (low (b / 16))) (is_bare (low (b % 16)) && true) (two-bare b l)).0

  pub rows-back : (before : List ℕ) (room b : ℕ) (bytes : List ℕ) → are_inline before ≡ true → Passes Outside before Outside →
      AreBytes (b ∷ bytes) → AreRows before (hex_from room (b ∷ bytes)) (list_from room (b ∷ bytes)) rest
  rows-back before room b [] i p a =
      from-text before (hex_from room (b ∷ [])) (two b) (two b) (last-row room b)
      (row-alone before (two b) rest (inline-append before (two b) i (two-inline b a.0)) (ends-behind before (two b) (list-ends room b [] a))
      (passes-both Outside Outside Outside before (two b) p (bare-passes (two b) (two-bare b a.0))))
  rows-back before zero b (next ∷ bytes) i p a =
      let begun = begin-with 24 next bytes in
      let solid = within-solid (low (next / 16)) (high-within next a.1.0) in
      from-text before (hex_from zero (b ∷ next ∷ bytes)) (two b ++ (44 ∷ 92 ∷ 13 ∷ 10 ∷ 32 ∷ 32 ∷ hex_from 24 (next ∷ bytes)))
      (list_from zero (b ∷ next ∷ bytes)) (over-row b next bytes)
      (row-over before (two b) (hex_from 24 (next ∷ bytes)) (list_from 24 (next ∷ bytes)) rest (low (next / 16)) begun.0
      (inline-append before (two b) i (two-inline b a.0))
      (passes-both Outside Outside Outside before (two b) p (bare-passes (two b) (two-bare b a.0)))
      begun.1 (solid-not_blank (low (next / 16)) solid) (bare-mark (low (next / 16)) (first-bare next a.1.0))
      (rows-back (32 ∷ 32 ∷ []) 24 next bytes refl (bare-passes (32 ∷ 32 ∷ []) refl) a.1))
  rows-back before (suc room) b (next ∷ bytes) i p a =
      from-text before (hex_from (suc room) (b ∷ next ∷ bytes)) (two b ++ (44 ∷ hex_from room (next ∷ bytes)))
      (list_from (suc room) (b ∷ next ∷ bytes)) (on-row room b next bytes)
      (row-on before (two b) (hex_from room (next ∷ bytes)) (list_from room (next ∷ bytes)) rest
      (rows-back (before ++ (two b ++ 44 ∷ [])) room next bytes
      (inline-append before (two b ++ 44 ∷ []) i (inline-append (two b) (44 ∷ []) (two-inline b a.0) refl))
      (passes-both Outside Outside Outside before (two b ++ 44 ∷ []) p
      (bare-passes (two b ++ 44 ∷ []) (bare-append (two b) (44 ∷ []) (two-bare b a.0) refl))) a.1))
